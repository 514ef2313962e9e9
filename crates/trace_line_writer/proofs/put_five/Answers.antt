-- Five lines that were measured are written where they fit.
use Rattle.std.proofs.Common.{arith}
use Rattle.trace_line_writer.proofs.Lines.{put-five}
use Rattle.trace_line_writer.proofs.Pour.{ends-then, put-short, tried_then, tried-written, put-tried}
use Rattle.trace_line_writer.proofs.put_five.Goals as goal

pub returns-then-out-end : goal.returns-then-out-end
returns-then-out-end c =
    put-five c.args.lines _ (omega arith)
    (put-short
    (ends-then c.line_end-second_at.ensures
    (ends-then c.line_end-third_at.ensures
    (ends-then c.line_end-fourth_at.ensures (ends-then c.line_end-fifth_at.ensures c.line_end-end.ensures))))
    c.if-out-end.true)

pub write_line-requires : goal.write_line-requires
write_line-requires c = omega arith

pub write_line-requires-2 : goal.write_line-requires-2
write_line-requires-2 c = omega arith

pub write_line-requires-3 : goal.write_line-requires-3
write_line-requires-3 c = omega arith

pub write_line-requires-4 : goal.write_line-requires-4
write_line-requires-4 c = omega arith

pub write_line-requires-5 : goal.write_line-requires-5
write_line-requires-5 c =
    omega (
      arith,
      c.if-out-end.false,
      c.line_end-end.ensures.place,
      c.write_line.auto.out,
      c.write_line-2.auto.out,
      c.write_line-3.auto.out,
      c.write_line-4.auto.out,
    )

pub returns : goal.returns
returns c =
    let k₁ = c.write_line.auto.out in
    let k₂ = c.write_line-2.auto.out in
    let k₃ = c.write_line-3.auto.out in
    let k₄ = c.write_line-4.auto.out in
    put-five c.args.lines _ (omega arith)
    (put-tried c.if-out-end.false (omega arith)
    (tried_then (omega arith) (tried-written (omega arith) c.line_end-second_at.ensures c.write_line.ensures)
    (tried_then (omega arith) (tried-written (omega arith) c.line_end-third_at.ensures c.write_line-2.ensures)
    (tried_then (omega arith) (tried-written (omega arith) c.line_end-fourth_at.ensures c.write_line-3.ensures)
    (tried_then (omega arith) (tried-written (omega arith) c.line_end-fifth_at.ensures c.write_line-4.ensures)
    (tried-written (omega arith) c.line_end-end.ensures c.write_line-5.ensures))))))
