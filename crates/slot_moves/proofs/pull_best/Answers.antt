-- The outputs passed have taken their cells.
use Rattle.std.proofs.Common.{◌∙◌}
use Rattle.slot_steps.specs.CodeSteps.{take_of}
use Rattle.slot_moves.proofs.Rounds.{pulled-none, pulled-more, kept-pulled, bound-kept, square-pulled, square-pulled-keys}
use Rattle.slot_moves.proofs.Rounds.{length-pulled-best}
use Rattle.slot_moves.proofs.pull_best.Goals as goal

pub loop-output-init : goal.loop-output-init
loop-output-init c =
    let a = c.args in
    pulled-none (take_of a.straight.now a.crossed.now) a.table.now a.cross.now a.keys.now a.best.now

pub pull-requires-clause-table_len : goal.pull-requires-clause-table_len
pull-requires-clause-table_len c =
    let i = c.loop-output.invariant in
    let p = c.requires.table_len in
    ((kept-pulled i).size ∙ p.0, length-pulled-best i ∙ p.1, square-pulled i p.2, square-pulled-keys i p.3)

pub pull-requires-clause-bound : goal.pull-requires-clause-bound
pull-requires-clause-bound c =
    let l = c.loop-output in
    let here = c.loop-output-test.true in (
      rw c.pull_number-number.ensures (bound-kept (kept-pulled l.invariant) _ (c.requires.all_bound l.output here)),
      here,
    )

pub loop-output-preserved : goal.loop-output-preserved
loop-output-preserved c = pulled-more c.loop-output.invariant c.pull_number-number.ensures c.pull.ensures
