-- The set as an operation on digits (proofs/Operations).
use Rattle.sets.proofs.Operations.{from-and}
use Rattle.sets.proofs.from.Goals as goal

pub returns : goal.returns
returns c = from-and c.args.set c.ranges.set.fits c.args.j c.requires
