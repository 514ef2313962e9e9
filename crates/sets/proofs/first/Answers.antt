-- Before the first member stand the zeros at the end.
use Rattle.sets.proofs.Members.{first-trailing}
use Rattle.sets.proofs.first.Goals as goal

pub returns : goal.returns
returns c = first-trailing c.args.set
