-- The set as an operation on digits (proofs/Operations).
use Rattle.sets.proofs.Operations.{minus-and}
use Rattle.sets.proofs.minus.Goals as goal

pub returns : goal.returns
returns c = minus-and c.args.a c.ranges.a.fits c.args.b c.ranges.b.fits
