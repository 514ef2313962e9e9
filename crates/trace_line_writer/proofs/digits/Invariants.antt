-- The digits counted and those left are one more than those of the number.
use Rattle.std.proofs.Common.{◌≡◌, ◌+◌, length}
use Rattle.trace.specs.Line.{decimal}
use Rattle.trace_line_writer.proofs.digits.Given as goal

abbrev pub invariant-loop-rest : goal.invariant-loop-rest
invariant-loop-rest l = l.count + length (decimal l.rest) ≡ 1 + length (decimal l.fn.n)

abbrev pub decreases-loop-rest : goal.decreases-loop-rest
decreases-loop-rest l = l.rest
