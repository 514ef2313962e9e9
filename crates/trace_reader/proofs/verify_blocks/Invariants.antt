-- What is read, and what is left.
use Rattle.std.proofs.Common.{length}
use Rattle.trace_reader.proofs.Whole.{Verified}
use Rattle.trace_reader.proofs.verify_blocks.Given as goal

abbrev pub invariant-loop-rest : goal.invariant-loop-rest
invariant-loop-rest l = Verified l.text l.first l.rest l.clock l.line

abbrev pub decreases-loop-rest : goal.decreases-loop-rest
decreases-loop-rest l = length l.rest
