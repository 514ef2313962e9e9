-- The set as an operation on digits (proofs/Operations).
use Rattle.sets.proofs.Operations.{with_one-or}
use Rattle.sets.proofs.with.Goals as goal

pub returns : goal.returns
returns c = with_one-or c.args.set c.ranges.set.fits c.args.j c.requires
