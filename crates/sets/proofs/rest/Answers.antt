-- A set and the number before it share all but the first member.
use Rattle.sets.proofs.Members.{rest-and}
use Rattle.sets.proofs.rest.Goals as goal

pub returns : goal.returns
returns c = rest-and c.args.set c.requires c.ranges.set.fits
