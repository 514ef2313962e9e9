-- Record by record, those passed are cleared.
use Rattle.std.proofs.Common.{◌≡◌, ◌+◌, ◌-◌, sym, ◌∙◌, ap, arith, replicate}
use Rattle.layout.specs.Code.{record_start, put}
use Rattle.slot_departure.specs.Code.{cleared_from}
use Rattle.slot_departure.proofs.Staying.{cleared-none, cleared_more}
use Rattle.slot_departure.proofs.clear.Goals as goal

pub loop-k-init : goal.loop-k-init
loop-k-init c =
    let old = c.args.table.now in
    let none : c.args.from - c.args.from ≡ 0 = omega arith in
    sym (ap (cleared_from old c.args.from) none ∙ cleared-none old c.args.from)

pub loop-k-preserved : goal.loop-k-preserved
loop-k-preserved c =
    let loop = c.loop-k in
    let old = c.args.table.now in
    let from = c.args.from in
    let at : loop.k ≡ from + (loop.k - from) = omega (arith, loop.auto.k) in
    let more : loop.k - from + 1 ≡ loop.k + 1 - from = omega (arith, loop.auto.k) in
    cleared_more old loop.table c.clear_one.new.table from (loop.k - from)
    (omega (arith, c.loop-k-test.true, c.requires.0, c.requires.2)) loop.invariant
    (c.clear_one.ensures ∙ ap (λ k. put (record_start k) 16 (replicate 16 0) loop.table) at)
    ∙ ap (cleared_from old from) more
