-- The test of the numbers and the counts that are left is the test of them all.
use Rattle.std.proofs.Common.{◌≡◌}
use Rattle.trace.specs.Flat.{fit_together}
use Rattle.trace_writer.proofs.Flat.{fit_left}
use Rattle.trace_writer.proofs.fit_together.Given as goal

abbrev pub invariant-loop-count : goal.invariant-loop-count
invariant-loop-count l = fit_together l.counts l.numbers ≡ fit_left l.counts l.left l.count-index
