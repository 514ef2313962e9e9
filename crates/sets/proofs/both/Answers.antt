-- The set as an operation on digits (proofs/Operations).
use Rattle.sets.proofs.Operations.{both-and}
use Rattle.sets.proofs.both.Goals as goal

pub returns : goal.returns
returns c = both-and c.args.a c.ranges.a.fits c.args.b
