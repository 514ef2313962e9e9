use Rattle.std.proofs.Common.{◌+◌, ◌-◌, arith}
use Rattle.trace_line_writer.proofs.Pour.{rest-done}
use Rattle.trace_writer.proofs.Flat.{arrivals_text-end}
use Rattle.trace_writer.proofs.Writing.{rest-arrival}
use Rattle.trace_writer.proofs.pour_arrivals.Goals as goal

pub loop-preserved : goal.loop-preserved
loop-preserved c =
    let l = c.loop in
    rest-arrival (omega arith) (c.args.count - l.counter) (c.args.count - (l.counter + 1)) l.left.now
    (omega arith)
    l.invariant
    c.arrival_at.ensures
    c.put_arrival-place.ensures
    c.numbers_from-left.ensures

pub returns : goal.returns
returns c =
    let l = c.loop in
    rest-done (rw (arrivals_text-end (c.args.count - l.counter) l.left.now (omega arith)) at l.invariant)
