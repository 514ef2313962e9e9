-- The clock is raised, and one more record joins.
use Rattle.std.proofs.Common.{arith}
use Rattle.oq_slot.proofs.Joining.{joins-none, joins-may, joins-next, joins-all}
use Rattle.oq_slot.proofs.join_records.Goals as goal

pub loop-a-init : goal.loop-a-init
loop-a-init c = joins-none _ _ c.requires _ c.raise_clock.ensures

pub join-requires : goal.join-requires
join-requires c =
    joins-may _ _ c.requires c.loop-a.a-index c.loop-a.table c.loop-a.invariant c.loop-a-test.true _

pub loop-a-preserved : goal.loop-a-preserved
loop-a-preserved c =
    joins-next _ _ c.requires c.loop-a.a-index c.loop-a.table c.loop-a.invariant c.loop-a-test.true _ _
    c.join.ensures.fits c.join.ensures.table_after

pub returns : goal.returns
returns c =
    joins-all _ _ c.requires c.loop-a.a-index c.loop-a.table c.loop-a.invariant (omega (arith, c.loop-a-test.false))
