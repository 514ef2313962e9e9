-- One byte more is written, up to the last.
use Rattle.std.proofs.Common.{arith}
use Rattle.trace_line_writer.proofs.Pour.{written_more, written_all}
use Rattle.trace_line_writer.proofs.write_text.Goals as goal

pub loop-i-preserved : goal.loop-i-preserved
loop-i-preserved c = written_more _ _ _ _ _ c.loop-i-test.true c.loop-i.invariant

pub returns : goal.returns
returns c = written_all c.requires.0 (omega (arith, c.loop-i-test.false, c.loop-i.auto.i-end)) c.loop-i.invariant
