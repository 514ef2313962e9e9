-- So far the lines of the weights above stand at the end of the buffer.
use Rattle.strides.proofs.Lines.{Ends, behind}
use Rattle.strides.proofs.text.Given as goal

abbrev pub invariant-loop-weight : goal.invariant-loop-weight
invariant-loop-weight l = Ends (behind l.weight) l.out l.place
