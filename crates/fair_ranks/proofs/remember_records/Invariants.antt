-- So far the ranks of the first records are put.
use Rattle.std.proofs.Common.{◌≡◌, take}
use Rattle.layout.specs.Memory.{memory_of}
use Rattle.fair_ranks.specs.Code.{with_records}
use Rattle.fair_ranks.proofs.remember_records.Given as goal

abbrev pub invariant-loop-a : goal.invariant-loop-a
invariant-loop-a l = memory_of l.memory ≡ with_records (memory_of l.initial.memory) (take l.a-index l.made)
