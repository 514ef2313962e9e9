-- One cell more for its output to choose (proofs/Buffers).
use Prim.Native.Nat.{◌<◌}
use native.Mathlib.Omega.{arith}
use mathlib.Core.Path.{sym}
use borrow.Author.Rules.{rules}
use Rattle.layout.specs.Table.{entry_limit}
use Rattle.slot_view.specs.CodeView.{places_in}
use Rattle.slot_view.specs.CodeViewed.{Buffered}
use Rattle.slot_view.specs.CodeScan.{Readable}
use Rattle.slot_view.proofs.Own.{table-readable}
use Rattle.slot_view.proofs.Window.{in_table-below}
use Rattle.slot_loading.proofs.Buffers.{best-choose, picked-came}
use Rattle.slot_loading.proofs.choose_cell.Statement.{statement}
use Rattle.slot_loading.proofs.choose_cell.Tie as tie
use mathlib.Core.Bool.{true, false}
use mathlib.Core.Path.{◌≡◌}
use mathlib.Core.Logic.{inl, inr}
use Rattle.slot_loading.proofs.choose_cell.Lts.{then-first, else-first, then-first-2, else-first-2}

readable : (t : tie.Start) → Readable t.args.table.now
readable t = table-readable t.args.table.now t.requires.0

small : (t : tie.Start) → t.args.k < entry_limit
small t = in_table-below (readable t) t.requires.1.0.entry

column : (c : tie.After-output_of-output) → c.output_of-output.result < 16
column c =
    let r = readable c.before.before in
    omega (arith, c.output_of-output.ensures, r.outputs c.args.k c.requires.1.0.entry, r.ports)

cell : (c : tie.After-output_of-output)
    → let a = c.args in
    Buffered a.table.now (places_in a.table.now) c.output_of-output.result a.k
cell c =
    let b = c.requires.1.0 in
    record { entry = b.entry; place = b.place; goes = sym c.output_of-output.ensures }

output-of-requires : tie.Need-output_of-output-requires
output-of-requires c κs = ((readable c.before).size, small c.before)

cast-output : tie.Need-overflow_cast-output
cast-output c = search rules

key-of-requires : tie.Need-key_of-key-requires
key-of-requires c κs = ((readable c.before.before).size, small c.before.before)

mul-held : tie.Need-offset_bounds-best-output
mul-held c = search rules

element-copy-out-held : tie.Need-bounds-best-output
element-copy-out-held c = column c.before.before

mul-rival : tie.Need-offset_bounds-rivals-output
mul-rival c = search rules

element-copy-out-rival : tie.Need-bounds-rivals-output
element-copy-out-rival c = column c.before.before.before.before

is-better-requires : tie.Need-is_better-first-requires
is-better-requires c κs = (
  c.requires.0,
  (
    c.requires.1.0.entry,
    (c.key_of-key.ensures, c.requires.1.1.keys c.output_of-output.result (column c.before.before.before.before.before)),
  ),
)

cast-best : tie.Need-overflow_cast-best
cast-best c = omega (arith, small c.before.before.before.before.before.before.before.before.before)

mul-best : tie.Need-offset_bounds-best-output-2
mul-best c = search rules

element-write-best : tie.Need-bounds-best-output-2
element-write-best c = column c.before.before.before.before.before.before.before.before

mul-rivals : tie.Need-offset_bounds-rivals-output-2
mul-rivals c = search rules

element-write-rivals : tie.Need-bounds-rivals-output-2
element-write-rivals c = column c.before.before.before.before.before.before.before.before.before.before

returns : tie.Need-returns
returns c =
    let a = c.args in
    let first = c.is_better-first.result in
    best-choose a.table.now c.requires.0 a.k c.output_of-output.result
    (cell c.before.before.before.before.before.before.before.before.before.before) a.best.now
    a.rivals.now c.requires.1.1 first c.if-first.best c.key_of-key.result
    c.if-first-2.rivals c.is_better-first.ensures
    (picked-came {A = first ≡ true} {B = first ≡ false} (λ t. t) (λ t. t)
    (elim c.if-first.branch [
      | then-first w ↦ inl (w.if-first.true, w.best-is)
      | else-first w ↦ inr (w.if-first.false, w.best-is)
    ]))
    c.key_of-key.ensures
    (picked-came {A = first ≡ true} {B = first ≡ false} (λ t. t) (λ t. t)
    (elim c.if-first-2.branch [
      | then-first-2 w ↦ inl (w.if-first-2.true, w.rivals-is)
      | else-first-2 w ↦ inr (w.if-first-2.false, w.rivals-is)
    ]))

pub choose_cell_spec : {M : Type 1} → statement M
choose_cell_spec =
    tie.close
    (tie.spec
    output-of-requires
    cast-output
    key-of-requires
    mul-held
    element-copy-out-held
    mul-rival
    element-copy-out-rival
    is-better-requires
    cast-best
    mul-best
    element-write-best
    mul-rivals
    element-write-rivals
    returns)
