-- The crosspoints of the outputs passed are counted.
use Rattle.slot_moves.specs.CodeMoves.{Counted}
use Rattle.slot_moves.proofs.choose_crossed.Given as goal

abbrev pub invariant-loop-output : goal.invariant-loop-output
invariant-loop-output l = Counted l.cross l.output l.occupancy
