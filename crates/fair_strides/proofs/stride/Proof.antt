-- The table holds the quotients, which the check computes.
use native.Mathlib.Omega.{arith}
use borrow.Author.Rules.{rules}
use Rattle.laws.specs.Lists.{numbers_from}
use Rattle.model.specs.Fair.{stride}
use Rattle.fair_strides.proofs.Strides.{stride-in, stride-out}
use Rattle.fair_strides.proofs.stride.Statement.{statement}
use Rattle.fair_strides.proofs.stride.Tie as tie

returns : tie.Need-returns-then-weight-lt1
returns c = stride-out c.args.weight (λ low high. omega arith)

returns-2 : tie.Need-returns-then-weight-gt1024
returns-2 c = stride-out c.args.weight (λ low high. omega arith)

sub-result : tie.Need-overflow_sub-result
sub-result c = search rules

mul-result : tie.Need-offset_bounds-weight
mul-result c = search rules

array-read-result : tie.Need-bounds-weight
array-read-result c = omega arith

returns-3 : tie.Need-returns
unfolding numbers_from stride
returns-3 c = stride-in c.args.weight (omega arith) (omega arith)

pub stride_spec : {M : Type 1} → statement M
stride_spec = tie.close (tie.spec returns returns-2 sub-result mul-result array-read-result returns-3)
