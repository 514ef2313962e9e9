-- The entries of an input begin at 64 times its number. Their count is a byte, so that the sum fits.
use Prim.Native.Nat.{◌+◌, ◌*◌}
use native.Mathlib.Omega.{arith}
use mathlib.Core.Path.{ap}
use borrow.Author.Rules.{rules}
use Rattle.layout.specs.Entry.{count_in}
use Rattle.layout_table.proofs.header.end_of.Statement.{statement}
use Rattle.layout_table.proofs.header.end_of.Tie as tie

mul-result : tie.Need-overflow_mul-result
mul-result c = search rules

count-of-requires : tie.Need-count_of-requires
count-of-requires c κs = search rules

add-result : tie.Need-overflow_add-result
unfolding count_in
add-result c =
    let start = c.before.before in
    omega (arith, c.count_of.ensures, c.before.shared_slice_known-1.given (16 + start.args.input))

returns : tie.Need-returns
returns c = ap (λ n. 64 * c.before.before.args.input + n) c.count_of.ensures

pub end_of_spec : {M : Type 1} → statement M
end_of_spec = tie.close (tie.spec mul-result count-of-requires add-result returns)
