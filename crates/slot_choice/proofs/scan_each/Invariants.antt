-- The scheduled and the urgent cells of the inputs so far are written down.
use Rattle.slot_choice.proofs.Choice.{ScannedTo}
use Rattle.slot_choice.proofs.scan_each.Given as goal

abbrev pub invariant-loop-input : goal.invariant-loop-input
invariant-loop-input l = ScannedTo l.table l.input l.scheduled l.urgent l.some
