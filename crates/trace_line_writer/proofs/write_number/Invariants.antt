-- Writing the digits of what is left gives what writing those of the number gives.
use Rattle.trace.specs.Line.{decimal}
use Rattle.trace_line_writer.proofs.Pour.{Left}
use Rattle.trace_line_writer.proofs.write_number.Given as goal

abbrev pub invariant-loop-rest : goal.invariant-loop-rest
invariant-loop-rest l = Left l.fn.out l.fn.end (decimal l.fn.n) l.out l.place (decimal l.rest)

abbrev pub decreases-loop-rest : goal.decreases-loop-rest
decreases-loop-rest l = l.rest
