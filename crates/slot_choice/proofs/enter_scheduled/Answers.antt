-- Input by input, the sets so far are entered, and the others are as they were.
use Rattle.slot_choice.proofs.Choice.{entered-more}
use Rattle.slot_choice.proofs.enter_scheduled.Goals as goal

pub loop-input-preserved : goal.loop-input-preserved
loop-input-preserved c =
    let l = c.loop-input in
    entered-more _ _ _ l.input c.enter.result c.loop-input-test.true c.enter.ensures l.invariant
