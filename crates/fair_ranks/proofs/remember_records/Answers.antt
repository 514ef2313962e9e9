-- One more record is remembered.
use Rattle.fair_ranks.proofs.Remembering.{records-none, records-next}
use Rattle.fair_ranks.proofs.remember_records.Goals as goal

pub loop-a-init : goal.loop-a-init
loop-a-init c = records-none _

pub loop-a-preserved : goal.loop-a-preserved
loop-a-preserved c =
    records-next _ _ _ c.args.made.now c.loop-a.a-index _ c.loop-a-test.true c.loop-a.invariant
    c.remember_record.ensures
