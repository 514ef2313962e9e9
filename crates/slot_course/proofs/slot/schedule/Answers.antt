use Rattle.std.proofs.Common.{◌≡◌, refl, arith, subst, length-set}
use Rattle.layout.specs.Table.{state_of}
use Rattle.slot_course.specs.Code.{Phased}
use Rattle.slot_course.proofs.Course.{phased-none, phased-more}
use Rattle.slot_course.proofs.slot.schedule.Goals as goal

pub load-requires : goal.load-requires
load-requires c =
    let sets = c.requires.sets_in in record {
      table = c.requires.table.0;
      by_index = sets.crossed-at;
      by_index_2 = sets.buffered-at;
      blank = record { no-crosspoints = refl; no_keys = refl; no-buffers = c.requires.table.1 };
    }

pub loop-n-init : goal.loop-n-init
loop-n-init c =
    let l = c.load.ensures in record {
      phased = phased-none _ _ _ c.requires.table.0 refl;
      viewed =
          record {
            lists = c.requires.sets_in.lists;
            square = l.square;
            agrees = l.agrees;
            keyed = l.keyed;
            bests = l.bests;
          };
      both = refl;
      crossed = refl;
      buffered = refl;
    }

pub phase-requires : goal.phase-requires
phase-requires c = (c.loop-n.invariant.phased.good, c.loop-n.invariant.viewed)

pub loop-n-preserved : goal.loop-n-preserved
loop-n-preserved c =
    let h = c.loop-n.invariant in
    let p = c.phase.ensures in record {
      phased =
          phased-more _ c.loop-n.n c.phase.result _ _ c.loop-n.reports h.phased (omega (arith, h.both))
          p.table_after p.proposals_value p.occupancies_of;
      viewed = p.viewed;
      both = simp length-set h.both;
      crossed = h.crossed;
      buffered = h.buffered;
    }

pub returns-clause-scheduled : goal.returns-clause-scheduled
returns-clause-scheduled c =
    let h = c.loop-n.invariant in
    let last : c.loop-n.n ≡ 2 = omega arith in
    let all = subst (λ k. Phased (state_of c.args.table.now) k c.loop-n.table c.loop-n.reports) last h.phased in
    record { good = all.good; state = all.state; bests = h.viewed.bests; reported = all.reported }
