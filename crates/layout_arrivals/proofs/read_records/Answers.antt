use Rattle.std.proofs.Common.{◌<◌, ◌∙◌, length, arith, rules}
use lib.ListN.{length-set}
use Rattle.layout_arrivals.proofs.Reading.{read_none, read_next}
use Rattle.layout_arrivals.proofs.read_records.Goals as goal

pub loop-n-init : goal.loop-n-init
loop-n-init c = (search rules, read_none c.args.arrivals.now)

pub loop-n-preserved : goal.loop-n-preserved
loop-n-preserved c =
    let loop = c.loop-n in
    let few : loop.n < 17 = omega (arith, c.few-end.ensures) in
    let room : loop.n < length loop.records = omega (arith, loop.invariant.0) in (
      length-set loop.records loop.n _ ∙ loop.invariant.0,
      read_next loop.records c.args.arrivals.now loop.n _ room loop.invariant.1 c.record_at.ensures,
    )
