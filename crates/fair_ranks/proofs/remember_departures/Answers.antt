-- One more output remembers.
use Rattle.std.proofs.Common.{arith}
use Rattle.fair_ranks.proofs.Remembering.{departures-none, departures-next}
use Rattle.fair_ranks.proofs.remember_departures.Goals as goal

pub loop-output-init : goal.loop-output-init
loop-output-init c = departures-none _ _

pub loop-output-preserved : goal.loop-output-preserved
loop-output-preserved c =
    departures-next _ _ _ c.loop-output.output _ c.args.answer.now (omega arith) c.loop-output.invariant
    c.remember_departure.ensures
