-- The answer has the departures of the outputs passed.
use Rattle.std.proofs.Common.{◌≡◌}
use mathlib.Core.List.{map}
use Rattle.slot_departure.specs.Code.{departure_at}
use Rattle.slot_departure.proofs.Sending.{sent}
use Rattle.slot_departure.proofs.send.Given as goal

abbrev pub invariant-loop-output : goal.invariant-loop-output
invariant-loop-output l = l.answer ≡ sent (map (departure_at l.table) l.best) l.initial.answer l.output
