-- The straight cells of the outputs passed have moved.
use Rattle.slot_steps.specs.CodeSteps.{straight_to}
use Rattle.slot_moves.specs.CodeMoves.{Straightened}
use Rattle.slot_moves.proofs.go_straight.Given as goal

abbrev pub invariant-loop-output : goal.invariant-loop-output
invariant-loop-output l =
    Straightened (straight_to l.scheduled l.held) l.output l.initial.table l.table l.initial.listed l.listed
    l.initial.heads l.heads l.initial.best l.best l.inputs l.outputs
