use Rattle.std.proofs.Common.{arith}
use Rattle.trace_writer.proofs.Writing.{rest-slot, rest-slots-end}
use Rattle.trace_writer.proofs.pour_slots.Goals as goal

pub loop-i-preserved : goal.loop-i-preserved
loop-i-preserved c =
    let l = c.loop-i in
    rest-slot (omega arith) c.args.first c.args.counts.now l.i l.left.now
    c.loop-i-test.true
    l.invariant
    c.pour_block-place.ensures
    c.numbers_from-left.ensures

pub returns : goal.returns
returns c =
    let l = c.loop-i in
    rest-slots-end (omega arith) c.args.first c.args.counts.now l.i l.left.now
    (omega arith)
    l.invariant
    c.put_one.ensures
