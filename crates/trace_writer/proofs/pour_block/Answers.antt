use Rattle.std.proofs.Common.{arith}
use Rattle.trace_line_writer.proofs.Pour.{tried-put, tried_then}
use Rattle.trace_writer.proofs.pour_block.Goals as goal

pub returns : goal.returns
returns c = tried_then (omega arith) (tried-put c.put_one-arrivals.ensures) c.pour_arrivals.ensures
