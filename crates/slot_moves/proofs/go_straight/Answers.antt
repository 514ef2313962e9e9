-- The straight cells of the outputs passed have moved.
use Rattle.std.proofs.Common.{◌∙◌}
use Rattle.slot_steps.specs.CodeSteps.{straight_to}
use Rattle.slot_moves.proofs.Rounds.{straightened-none, straightened-more, kept-straightened, bound-kept}
use Rattle.slot_moves.proofs.Rounds.{length-straight-lists, length-straight-heads, length-straight-best, length-inputs, length-outputs}
use Rattle.slot_moves.proofs.go_straight.Goals as goal

pub loop-output-init : goal.loop-output-init
loop-output-init c =
    let a = c.args in
    straightened-none (straight_to a.scheduled.now a.held.now) a.table.now a.listed.now a.heads.now a.best.now

pub straight_to-requires-clause-table_len : goal.straight_to-requires-clause-table_len
straight_to-requires-clause-table_len c =
    let i = c.loop-output.invariant in
    let p = c.requires.table_len in (
      (kept-straightened i).size ∙ p.0,
      length-straight-lists i ∙ p.1,
      length-straight-heads i ∙ p.2,
      length-straight-best i ∙ p.3,
      length-inputs i,
      length-outputs i,
    )

pub straight_to-requires-clause-bound : goal.straight_to-requires-clause-bound
straight_to-requires-clause-bound c =
    let l = c.loop-output in
    let here = c.loop-output-test.true in (
      rw c.straight_number-number.ensures (bound-kept (kept-straightened l.invariant) _ (c.requires.all_bound l.output here)),
      here,
    )

pub loop-output-preserved : goal.loop-output-preserved
loop-output-preserved c =
    straightened-more c.loop-output.invariant c.straight_number-number.ensures c.straight_to.ensures
