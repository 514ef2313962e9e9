-- So far the first records of the numbers are read.
use Rattle.std.proofs.Common.{◌≡◌, length, take}
use Rattle.trace.specs.Flat.{arrivals_from}
use Rattle.player_lines.proofs.records_of.Given as goal

abbrev pub invariant-loop-n : goal.invariant-loop-n
invariant-loop-n l = (length l.records ≡ 17) × (take l.n l.records ≡ arrivals_from l.n l.numbers)
