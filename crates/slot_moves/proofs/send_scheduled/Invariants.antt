-- The inputs passed have sent.
use Rattle.slot_steps.specs.CodeSteps.{send_of}
use Rattle.slot_moves.specs.CodeMoves.{Sent}
use Rattle.slot_moves.proofs.send_scheduled.Given as goal

abbrev pub invariant-loop-input : goal.invariant-loop-input
invariant-loop-input l =
    Sent (send_of l.straight l.scheduled) l.input l.initial.table l.table l.initial.listed l.listed
    l.initial.heads l.heads l.initial.cross l.cross l.initial.keys l.keys l.initial.best l.best
