-- All of them pass.
use borrow.Author.Rules.{rules}
use Rattle.oq.proofs.Checked.{sets-empty}
use Rattle.oq.proofs.check.are_empty.Goals as goal

pub returns : goal.returns
returns c = sets-empty c.args.sets.now c.all.result (search rules)
