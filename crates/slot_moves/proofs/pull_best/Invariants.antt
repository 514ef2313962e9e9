-- The outputs passed have taken their cells.
use Rattle.slot_steps.specs.CodeSteps.{take_of}
use Rattle.slot_moves.specs.CodeMoves.{Pulled}
use Rattle.slot_moves.proofs.pull_best.Given as goal

abbrev pub invariant-loop-output : goal.invariant-loop-output
invariant-loop-output l =
    Pulled (take_of l.straight l.crossed) l.output l.initial.table l.table l.initial.cross l.cross l.initial.keys l.keys
    l.initial.best l.best
