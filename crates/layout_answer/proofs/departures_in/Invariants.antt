-- So far the departures of the outputs below `output` are counted.
use Rattle.std.proofs.Common.{◌≡◌, ◌≤◌}
use Rattle.layout_answer.proofs.Departures.{sent_below}
use Rattle.layout_answer.proofs.departures_in.Given as goal

abbrev pub invariant-loop-output : goal.invariant-loop-output
invariant-loop-output l = (l.count ≤ l.output) × (l.count ≡ sent_below l.output l.answer)
