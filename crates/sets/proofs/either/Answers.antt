-- The set as an operation on digits (proofs/Operations).
use Rattle.sets.proofs.Operations.{either-or}
use Rattle.sets.proofs.either.Goals as goal

pub returns : goal.returns
returns c = either-or c.args.a c.ranges.a.fits c.args.b c.ranges.b.fits
