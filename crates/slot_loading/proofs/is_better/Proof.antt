-- Different keys decide; equal ones are those of two cells, which the order decides.
use Prim.Native.Nat.{◌<◌}
use mathlib.Core.Bool.{cond}
use mathlib.Core.Path.{sym, ◌∙◌, ap, ap₂}
use lib.Dec.{ltb}
use Rattle.layout.specs.Table.{entry_limit}
use Rattle.slot_view.proofs.Own.{table-readable}
use Rattle.slot_view.proofs.Window.{in_table-below}
use Rattle.slot_view.proofs.Keys.{key_at-cell}
use Rattle.slot_loading.proofs.Buffers.{key-held, better-order, better-key}
use Rattle.slot_loading.proofs.is_better.Statement.{statement}
use Rattle.slot_loading.proofs.is_better.Tie as tie

returns : tie.Need-returns-then-key-rival
returns c =
    let a = c.args in
    let pre = c.requires in
    better-key a.table.now pre.0 a.k a.held pre.1.0
    (λ e. c.if-key-rival.true (pre.1.1.0 ∙ e ∙ sym pre.1.1.1))
    ∙ ap (λ b. cond b a.k a.held) (sym (ap₂ ltb pre.1.1.0 pre.1.1.1))

-- the other is a cell
held_below : (c : tie.Else-key-rival) → c.args.held < entry_limit
held_below c =
    let a = c.args in
    let pre = c.requires in
    key-held a.table.now pre.0 a.k a.held pre.1.0 (sym pre.1.1.0 ∙ c.if-key-rival.false ∙ pre.1.1.1)

goes-first-requires : tie.Need-goes_first-requires
goes-first-requires c κs =
    let a = c.args in
    let pre = c.requires in
    let readable = table-readable a.table.now pre.0 in (
      (readable.size, in_table-below readable pre.1.0, held_below c),
      (pre.1.1.0, pre.1.1.1 ∙ key_at-cell a.table.now a.held (held_below c)),
    )

returns-2 : tie.Need-returns
returns-2 c =
    let a = c.args in
    let pre = c.requires in
    better-order a.table.now pre.0 a.k a.held pre.1.0 (held_below c.before) c.goes_first.result
    c.goes_first.ensures

pub is_better_spec : {M : Type 1} → statement M
is_better_spec = tie.close (tie.spec returns goes-first-requires returns-2)
