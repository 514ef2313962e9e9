use Rattle.std.proofs.Common.{arith}
use Rattle.slot_arrival.proofs.OneByOne.{came-none, came-may, came-next, came-all}
use Rattle.slot_faults.proofs.Records.{no_record}
use Rattle.slot_records.proofs.Taking.{sets-raised}
use Rattle.slot_records.proofs.arrive_records.Goals as goal

pub raise_clock-requires : goal.raise_clock-requires
raise_clock-requires c = record { table = c.requires.arriving.sound; table_bound = c.requires.arriving.early }

pub loop-record-init : goal.loop-record-init
loop-record-init c = (
  came-none _ _ c.requires.arriving _ c.raise_clock.ensures,
  sets-raised _ _ c.requires.arriving _ c.raise_clock.ensures _ c.requires.sets_in,
)

pub arrive-requires : goal.arrive-requires
arrive-requires c =
    record {
      may_enter =
          came-may _ _ c.requires.arriving c.loop-record.record-index _ c.loop-record.invariant.0
          c.loop-record-test.true no_record;
      sets_of = c.loop-record.invariant.1;
    }

pub loop-record-preserved : goal.loop-record-preserved
loop-record-preserved c = (
  came-next _ _ c.requires.arriving c.loop-record.record-index _ c.loop-record.invariant.0
      c.loop-record-test.true no_record _ c.arrive.ensures.fits c.arrive.ensures.table_after,
  c.arrive.ensures.sets_of_2,
)

pub returns : goal.returns
returns c =
    record {
      entered = came-all _ _ c.requires.arriving c.loop-record.record-index _ c.loop-record.invariant.0 (omega arith);
      sets_in_2 = c.loop-record.invariant.1;
    }
