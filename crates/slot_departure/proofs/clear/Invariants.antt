-- The records passed are cleared.
use Rattle.std.proofs.Common.{◌≡◌, ◌-◌}
use Rattle.slot_departure.specs.Code.{cleared_from}
use Rattle.slot_departure.proofs.clear.Given as goal

abbrev pub invariant-loop-k : goal.invariant-loop-k
invariant-loop-k l = l.table ≡ cleared_from l.initial.table l.from (l.k - l.from)
