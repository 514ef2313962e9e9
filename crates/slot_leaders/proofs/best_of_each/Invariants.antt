-- The outputs so far have the cell of the input that leads.
use Rattle.slot_leaders.specs.CodeKeys.{LeadingTo}
use Rattle.slot_leaders.proofs.best_of_each.Given as goal

abbrev pub invariant-loop-output : goal.invariant-loop-output
invariant-loop-output l = LeadingTo l.ports l.cross l.keys l.output l.best l.least
