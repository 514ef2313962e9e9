-- So far the ranks that left the first outputs are put.
use Rattle.std.proofs.Common.{◌≡◌}
use Rattle.layout.specs.Answer.{departures_in}
use Rattle.layout.specs.Memory.{memory_of}
use Rattle.fair_ranks.specs.Code.{with_departures}
use Rattle.fair_ranks.proofs.remember_departures.Given as goal

abbrev pub invariant-loop-output : goal.invariant-loop-output
invariant-loop-output l =
    memory_of l.memory ≡ with_departures (memory_of l.initial.memory) (departures_in l.output l.answer)
