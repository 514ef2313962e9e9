-- The entries passed have closed up.
use Rattle.std.proofs.Common.{◌*◌}
use Rattle.slot_departure.proofs.Staying.{Closing}
use Rattle.slot_departure.proofs.remove_from.Given as goal

abbrev pub invariant-loop-k : goal.invariant-loop-k
invariant-loop-k l = Closing l.initial.table l.best (64 * l.input) l.k l.free l.table
