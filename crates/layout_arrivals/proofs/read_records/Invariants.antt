-- So far the first records of the bytes are read.
use Rattle.std.proofs.Common.{◌≡◌, take, length}
use Rattle.layout.specs.Arrivals.{arrivals_of}
use Rattle.layout_arrivals.proofs.read_records.Given as goal

abbrev pub invariant-loop-n : goal.invariant-loop-n
invariant-loop-n l = (length l.records ≡ 17) × (take l.n l.records ≡ arrivals_of l.n l.arrivals)
