-- The digits that are set are counted.
use Rattle.sets.proofs.Operations.{size-ones}
use Rattle.sets.proofs.size.Goals as goal

pub returns : goal.returns
returns c = size-ones c.args.set c.ranges.set.fits
