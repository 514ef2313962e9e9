-- A line feed, the number before it and the key before that.
use Rattle.std.proofs.Common.{◌-◌, ◌≤◌, ap, length, arith}
use lib.ListN.{length-set}
use Rattle.trace.specs.Line.{line}
use Rattle.trace.proofs.Lengths.{length-line}
use Rattle.trace_line_writer.proofs.Pour.{written_byte, written_then}
use Rattle.trace_line_writer.proofs.write_line.Goals as goal

pub overflow_sub-feed : goal.overflow_sub-feed
overflow_sub-feed c = omega (arith, length-line c.args.key c.args.n)

pub bounds-out-feed : goal.bounds-out-feed
bounds-out-feed c = omega (arith, length-line c.args.key c.args.n)

pub write_number-number-requires : goal.write_number-number-requires
write_number-number-requires c = simp length-set (omega (arith, length-line c.args.key c.args.n))

pub write_text-requires : goal.write_text-requires
write_text-requires c =
    let s = c.args in
    omega (
      arith,
      length-line s.key s.n,
      ap length c.key_text.ensures,
      c.write_number-number.ensures.starts,
      length-set s.out.now (s.end - 1) 10,
    )

pub returns : goal.returns
unfolding line
returns c =
    let s = c.args in
    let one : 1 ≤ s.end = omega (arith, length-line s.key s.n) in
    written_then (written_then (written_byte _ _ 10 one) c.write_number-number.ensures)
    (rw c.key_text.ensures at c.write_text.ensures)
