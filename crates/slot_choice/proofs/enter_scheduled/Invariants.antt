-- The sets of the inputs so far are entered, and the others are as they were.
use Rattle.slot_choice.specs.CodeWalk.{Entered}
use Rattle.slot_choice.proofs.enter_scheduled.Given as goal

abbrev pub invariant-loop-input : goal.invariant-loop-input
invariant-loop-input l = Entered l.listed l.scheduled l.initial.candidates l.input l.candidates
