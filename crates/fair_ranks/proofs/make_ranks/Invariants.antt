-- So far the first records have their ranks.
use Rattle.std.proofs.Common.{◌≡◌, ◌++◌, map, take, drop}
use Rattle.model.specs.Fair.{make}
use Rattle.layout.specs.Memory.{memory_of}
use Rattle.fair_ranks.proofs.make_ranks.Given as goal

abbrev pub invariant-loop-a : goal.invariant-loop-a
invariant-loop-a l =
    l.records
    ≡ map (make (memory_of l.memory)) (take l.a-index l.initial.records) ++ drop l.a-index l.initial.records
