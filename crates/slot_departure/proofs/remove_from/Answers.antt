-- No cell leaves; or, entry by entry, those passed have closed up, and the records behind them are cleared.
use Rattle.std.proofs.Common.{◌≡◌, ◌+◌, ◌*◌, ◌-◌, ◌<◌, ◌∙◌, ap, subst, arith}
use Rattle.layout.specs.Entry.{count_in}
use Rattle.slot_departure.specs.Code.{cleared_from}
use Rattle.slot_departure.proofs.Staying.{Closing, closing-from, closing-free, closing-number, closing-size}
use Rattle.slot_departure.proofs.Staying.{closing-output, closing-more, closed-high, removed-section, removed-none}
use Rattle.slot_departure.proofs.remove_from.Goals as goal

pub returns-then-from-ge-NOWHERE : goal.returns-then-from-ge-NOWHERE
returns-then-from-ge-NOWHERE c = removed-none _ _ c.requires c.if-from-ge-NOWHERE.true

pub loop-k-init : goal.loop-k-init
loop-k-init c = closing-from _ _ c.requires c.if-from-ge-NOWHERE.false

pub close_one-free-requires-clause-table_len : goal.close_one-free-requires-clause-table_len
close_one-free-requires-clause-table_len c =
    let a = c.args in
    let closing = c.loop-k.invariant in
    let inside : c.loop-k.k < 64 * a.input + count_in a.table.now a.input =
    omega (arith, c.loop-k-test.true, c.end_of-end.ensures) in (
      closing-size _ _ c.requires closing inside,
      closing-number _ _ c.requires closing inside,
      closing-free _ _ c.requires closing inside,
    )

pub close_one-free-requires-clause-k_bound : goal.close_one-free-requires-clause-k_bound
close_one-free-requires-clause-k_bound c =
    let a = c.args in
    let inside : c.loop-k.k < 64 * a.input + count_in a.table.now a.input =
    omega (arith, c.loop-k-test.true, c.end_of-end.ensures) in
    closing-output _ _ c.requires c.loop-k.invariant inside

pub loop-k-preserved : goal.loop-k-preserved
loop-k-preserved c =
    let a = c.args in
    let one = c.close_one-free in
    let inside : c.loop-k.k < 64 * a.input + count_in a.table.now a.input =
    omega (arith, c.loop-k-test.true, c.end_of-end.ensures) in
    closing-more _ _ c.requires c.loop-k.invariant inside one.result one.new.table one.ensures.value one.ensures.table_after

pub clear-requires : goal.clear-requires
clear-requires c =
    let a = c.args in
    let r = c.requires in
    let end = c.end_of-end.ensures in
    let last : c.loop-k.k ≡ 64 * a.input + count_in a.table.now a.input =
    omega (arith, r.own c.if-from-ge-NOWHERE.false, end) in
    let closed =
    subst (λ k. Closing a.table.now a.best.now (64 * a.input) k c.loop-k.free c.loop-k.table) last c.loop-k.invariant in (
      c.loop-k.auto.table ∙ r.size,
      omega (arith, closed-high _ _ r closed, end),
      omega (arith, r.count, r.port, end),
    )

pub write_count-requires : goal.write_count-requires
write_count-requires c =
    let a = c.args in
    let r = c.requires in
    let last : c.loop-k.k ≡ 64 * a.input + count_in a.table.now a.input =
    omega (arith, r.own c.if-from-ge-NOWHERE.false, c.end_of-end.ensures) in
    let closed =
    subst (λ k. Closing a.table.now a.best.now (64 * a.input) k c.loop-k.free c.loop-k.table) last c.loop-k.invariant in (
      c.clear.auto.table ∙ c.loop-k.auto.table ∙ r.size,
      r.port,
      omega (arith, closed-high _ _ r closed, r.count),
    )

pub returns : goal.returns
returns c =
    let a = c.args in
    let r = c.requires in
    let end = c.end_of-end.ensures in
    let last : c.loop-k.k ≡ 64 * a.input + count_in a.table.now a.input =
    omega (arith, r.own c.if-from-ge-NOWHERE.false, end) in
    let closed =
    subst (λ k. Closing a.table.now a.best.now (64 * a.input) k c.loop-k.free c.loop-k.table) last c.loop-k.invariant in
    c.write_count.ensures
    ∙ removed-section _ _ r closed c.clear.new.table
    (c.clear.ensures ∙ ap (λ n. cleared_from c.loop-k.table c.loop-k.free (n - c.loop-k.free)) end)
