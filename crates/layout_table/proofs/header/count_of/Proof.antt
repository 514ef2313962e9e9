-- The count is a byte of the header.
use Prim.Native.Nat.{◌+◌}
use mathlib.Core.Path.{refl}
use native.Mathlib.Omega.{arith}
use borrow.Author.Rules.{rules}
use Rattle.layout.specs.Entry.{count_in}
use Rattle.layout_table.proofs.header.count_of.Statement.{statement}
use Rattle.layout_table.proofs.header.count_of.Tie as tie

add-result : tie.Need-overflow_add-result
add-result c = search rules

shared-slice-read-result : tie.Need-bounds-bytes-input
shared-slice-read-result c = search rules

cast-result : tie.Need-overflow_cast-result
cast-result c = omega (arith, c.shared_slice_known-1.given (16 + c.before.args.input))

returns : tie.Need-returns
unfolding count_in
returns c = refl

pub count_of_spec : {M : Type 1} → statement M
count_of_spec = tie.close (tie.spec add-result shared-slice-read-result cast-result returns)
