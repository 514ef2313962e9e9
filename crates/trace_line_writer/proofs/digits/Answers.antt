-- Two digits are taken from what is left, then the last one or two are counted.
use Rattle.std.proofs.Common.{arith}
use Rattle.trace.proofs.Lengths.{length-decimal-small, length-decimal-below}
use Rattle.trace_line_writer.proofs.Decimals.{length-decimal-two, length-decimal-more}
use Rattle.trace_line_writer.proofs.digits.Goals as goal

pub overflow_add-count : goal.overflow_add-count
overflow_add-count c = omega (arith, length-decimal-below 19 c.args.n (omega arith))

pub loop-rest-preserved : goal.loop-rest-preserved
loop-rest-preserved c = omega (arith, length-decimal-more c.loop-rest.rest (omega arith))

pub overflow_add-result : goal.overflow_add-result
overflow_add-result c = omega (arith, length-decimal-below 19 c.args.n (omega arith))

pub returns-then-rest-lt10 : goal.returns-then-rest-lt10
returns-then-rest-lt10 c = omega (arith, length-decimal-small c.loop-rest.rest (omega arith))

pub returns-else-rest-lt10 : goal.returns-else-rest-lt10
returns-else-rest-lt10 c = omega (arith, length-decimal-two c.loop-rest.rest (omega arith) (omega arith))
