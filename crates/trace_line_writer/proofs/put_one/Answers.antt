-- The line is measured, and written where it was to be.
use Rattle.std.proofs.Common.{arith}
use Rattle.trace_line_writer.proofs.Pour.{put-short, tried-written, put-tried}
use Rattle.trace_line_writer.proofs.put_one.Goals as goal

pub returns-then-out-end : goal.returns-then-out-end
returns-then-out-end c = put-short c.line_end-end.ensures c.if-out-end.true

pub returns : goal.returns
returns c = put-tried (omega arith) (omega arith) (tried-written (omega arith) c.line_end-end.ensures c.write_line.ensures)
