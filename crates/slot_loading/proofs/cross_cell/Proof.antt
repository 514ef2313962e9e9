-- One cell more at its crosspoint (proofs/Crossing).
use Prim.Native.Nat.{◌<◌}
use native.Mathlib.Omega.{arith}
use borrow.Author.Rules.{rules}
use Rattle.slot_view.specs.CodeView.{cross_with}
use Rattle.layout.specs.Table.{entry_limit}
use Rattle.slot_view.specs.CodeScan.{Readable}
use Rattle.slot_view.proofs.Own.{table-readable}
use Rattle.slot_view.proofs.Window.{in_table-below}
use Rattle.slot_loading.proofs.Crossing.{crossed-put}
use Rattle.slot_loading.proofs.cross_cell.Statement.{statement}
use Rattle.slot_loading.proofs.cross_cell.Tie as tie

readable : (t : tie.Start) → Readable t.args.table.now
readable t = table-readable t.args.table.now t.requires.0

small : (t : tie.Start) → t.args.k < entry_limit
small t = in_table-below (readable t) t.requires.1.0.entry

column : (c : tie.After-output_of-output) → c.output_of-output.result < 16
column c =
    let r = readable c.before.before in
    omega (arith, c.output_of-output.ensures, r.outputs c.args.k c.requires.1.0.entry, r.ports)

output-of-requires : tie.Need-output_of-output-requires
output-of-requires c κs = ((readable c.before).size, small c.before)

cast-output : tie.Need-overflow_cast-output
cast-output c = search rules

cast-cross : tie.Need-overflow_cast-cross
cast-cross c = omega (arith, small c.before.before)

mul-cross : tie.Need-offset_bounds-cross-input
mul-cross c = omega (arith, small c.before.before, column c)

mul-cross-2 : tie.Need-offset_bounds-cross-output
mul-cross-2 c = omega (arith, small c.before.before, column c)

index-1-cross : tie.Need-bounds-cross-input
index-1-cross c = omega (arith, small c.before.before, column c)

index-2-cross : tie.Need-bounds-cross-output
index-2-cross c = omega (arith, small c.before.before, column c)

key-of-requires : tie.Need-key_of-requires
key-of-requires c κs = ((readable c.before.before).size, small c.before.before)

mul-keys : tie.Need-offset_bounds-keys-output
mul-keys c = omega (arith, small c.before.before.before, column c.before)

mul-keys-2 : tie.Need-offset_bounds-keys-input
mul-keys-2 c = omega (arith, small c.before.before.before, column c.before)

index-1-keys : tie.Need-bounds-keys-output
index-1-keys c = omega (arith, small c.before.before.before, column c.before)

index-2-keys : tie.Need-bounds-keys-input
index-2-keys c = omega (arith, small c.before.before.before, column c.before)

returns : tie.Need-returns
unfolding cross_with
returns c =
    let output = c.output_of-output in
    let a = c.args in
    crossed-put a.table.now c.requires.0 a.k output.result c.key_of.result c.requires.1.0
    output.ensures c.key_of.ensures a.cross.now a.keys.now c.requires.1.1

pub cross_cell_spec : {M : Type 1} → statement M
cross_cell_spec =
    tie.close
    (tie.spec
    output-of-requires
    cast-output
    cast-cross
    mul-cross
    mul-cross-2
    index-1-cross
    index-2-cross
    key-of-requires
    mul-keys
    mul-keys-2
    index-1-keys
    index-2-keys
    returns)
