-- Output by output, the least key and the inputs that have it.
use Rattle.slot_leaders.proofs.Leaders.{least_more}
use Rattle.slot_leaders.proofs.least_of_each.Goals as goal

pub loop-output-preserved : goal.loop-output-preserved
loop-output-preserved c =
    let l = c.loop-output in
    least_more _ l.output _ _ c.loop-output-test.true c.least_key-key.ensures c.holders_of.ensures l.invariant
