-- The set as an operation on digits (proofs/Operations).
use Rattle.sets.proofs.Operations.{without_one-and}
use Rattle.sets.proofs.without.Goals as goal

pub returns : goal.returns
returns c = without_one-and c.args.set c.ranges.set.fits c.args.j c.requires
