use Rattle.std.proofs.Common.{◌≡◌, ◌+◌, length, arith}
use Rattle.trace_line_writer.specs.Writing.{lines_text, Ends}
use Rattle.trace_line_writer.proofs.Lines.{ends-more, ends-all, back-start, back-room, back-line, back-done}
use Rattle.trace_line_writer.proofs.Pour.{put-short, tried-written, put-tried}
use Rattle.trace_line_writer.proofs.put_lines.Goals as goal

pub loop-l-preserved : goal.loop-l-preserved
loop-l-preserved c =
    let l = c.loop-l in
    ends-more c.args.at c.args.lines.now l.l-index _ c.loop-l-test.true l.invariant.0 l.invariant.1 c.line_end-end.ensures

pub returns-then-out-end : goal.returns-then-out-end
returns-then-out-end c =
    let l = c.loop-l in
    let e : Ends c.args.at (lines_text c.args.lines.now) l.end =
    ends-all c.args.at c.args.lines.now l.l-index c.loop-l-test.false l.invariant.0 l.invariant.1 in
    put-short e c.if-out-end.true

pub loop-l-2-init : goal.loop-l-2-init
loop-l-2-init c = (tt, tt, back-start (cc))

pub write_line-start-requires : goal.write_line-start-requires
write_line-start-requires c =
    let l = c.loop-l in
    let e : Ends c.args.at (lines_text c.args.lines.now) l.end =
    ends-all c.args.at c.args.lines.now l.l-index c.loop-l-test.false l.invariant.0 l.invariant.1 in
    let h : c.args.at + length (lines_text c.args.lines.now) ≡ l.end = omega (arith, e.place) in
    (back-room _ c.in-Some.l.now c.in-Some.ensures.steps c.loop-l-2.invariant.2 c.args.at h, omega (arith, c.loop-l-2.invariant.2.done.starts))

pub loop-l-2-preserved : goal.loop-l-2-preserved
loop-l-2-preserved c =
    (tt, tt, back-line _ c.in-Some.l.now c.in-Some.ensures.steps c.loop-l-2.invariant.2 c.write_line-start.ensures)

pub returns : goal.returns
returns c =
    let l = c.loop-l in
    let e : Ends c.args.at (lines_text c.args.lines.now) l.end =
    ends-all c.args.at c.args.lines.now l.l-index c.loop-l-test.false l.invariant.0 l.invariant.1 in
    put-tried (omega arith) (omega arith) (tried-written (omega arith) e (back-done c.in-None.ensures.steps.0 c.loop-l-2.invariant.2))
