-- The sections passed are without the cells that leave.
use Rattle.std.proofs.Common.{◌≡◌}
use Rattle.layout.specs.Table.{encode}
use Rattle.slot_departure.proofs.Departing.{partly}
use Rattle.slot_departure.proofs.remove.Given as goal

abbrev pub invariant-loop-input : goal.invariant-loop-input
invariant-loop-input l = l.table ≡ encode (partly l.initial.table l.input)
