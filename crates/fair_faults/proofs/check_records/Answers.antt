-- One more record has none, or has the first.
use Rattle.std.proofs.Common.{arith, sym, ◌∙◌}
use Rattle.cell.proofs.Checked.{handed_on}
use Rattle.layout.proofs.Table.{sound-ports}
use Rattle.slot_faults.proofs.Records.{record_next}
use Rattle.slot_faults.proofs.Stored.{table-sound}
use Rattle.fair_faults.proofs.Records.{passed_none, passed-fault, passed-next, passed-input, passed-all}
use Rattle.fair_faults.proofs.check_records.Goals as goal

pub loop-n-init : goal.loop-n-init
loop-n-init c = passed_none _ _ _

pub returns-in_err-check_next : goal.returns-in_err-check_next
returns-in_err-check_next c =
    let was = c.in_err-check_next.was in
    handed_on _ _ c.from_residual.ensures.1
    ∙ sym was
    ∙ passed-fault _ _ _ c.loop-n.n c.loop-n.turn c.loop-n.invariant _ (record_next _ c.loop-n.n c.loop-n-test.true)
    c.check_next.result c.check_next.ensures was

pub overflow_add-turn : goal.overflow_add-turn
overflow_add-turn c =
    let few = sound-ports _ (table-sound _ c.requires.table) in
    omega (
      arith,
      passed-input _ _ _ c.loop-n.n c.loop-n.turn c.loop-n.invariant _ (record_next _ c.loop-n.n c.loop-n-test.true)
          c.check_next.result c.check_next.ensures c.in_ok-check_next.was few,
    )

pub loop-n-preserved : goal.loop-n-preserved
loop-n-preserved c =
    passed-next _ _ _ c.loop-n.n c.loop-n.turn c.loop-n.invariant _ (record_next _ c.loop-n.n c.loop-n-test.true)
    c.check_next.result c.check_next.ensures c.in_ok-check_next.was

pub returns : goal.returns
returns c = passed-all _ _ _ c.loop-n.n c.loop-n.turn (omega arith) c.loop-n.invariant
