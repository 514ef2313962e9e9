-- The outputs so far have their least key and the inputs that hold it.
use Rattle.slot_leaders.specs.CodeKeys.{LeastTo}
use Rattle.slot_leaders.proofs.least_of_each.Given as goal

abbrev pub invariant-loop-output : goal.invariant-loop-output
invariant-loop-output l = LeastTo l.keys l.output l.least l.holders
