-- The set as an operation on digits (proofs/Operations).
use Rattle.sets.proofs.Operations.{below-and}
use Rattle.sets.proofs.below.Goals as goal

pub returns : goal.returns
returns c = below-and c.args.set c.ranges.set.fits c.args.j c.requires
