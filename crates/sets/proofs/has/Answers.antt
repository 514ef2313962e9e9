-- The digit at the position.
use Rattle.std.proofs.Common.{refl}
use Rattle.sets.specs.Sets.{has}
use Rattle.sets.proofs.has.Goals as goal

pub returns : goal.returns
unfolding has
returns c = refl
