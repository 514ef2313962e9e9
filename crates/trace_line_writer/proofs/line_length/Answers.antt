-- A line has its key, its digits and a line feed; neither is long.
use Rattle.std.proofs.Common.{arith, ap, length}
use Rattle.trace.proofs.Lengths.{length-key_text-le, length-decimal-below, length-line}
use Rattle.trace_line_writer.proofs.line_length.Goals as goal

pub overflow_add-result : goal.overflow_add-result
overflow_add-result c =
    let s = c.args in
    omega (arith, ap length c.key_text.ensures, length-key_text-le s.key, length-decimal-below 19 s.n (omega arith))

pub overflow_add-result-2 : goal.overflow_add-result-2
overflow_add-result-2 c =
    let s = c.args in
    omega (arith, ap length c.key_text.ensures, length-key_text-le s.key, length-decimal-below 19 s.n (omega arith))

pub returns : goal.returns
returns c = omega (arith, ap length c.key_text.ensures, length-line c.args.key c.args.n)
