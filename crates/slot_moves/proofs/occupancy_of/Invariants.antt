-- The crosspoints of the inputs passed are counted.
use Rattle.std.proofs.Common.{◌≡◌}
use Rattle.slot_moves.specs.CodeMoves.{filled_at}
use Rattle.slot_moves.proofs.occupancy_of.Given as goal

abbrev pub invariant-loop-input : goal.invariant-loop-input
invariant-loop-input l = l.count ≡ filled_at l.cross l.input l.output
