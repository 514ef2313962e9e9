-- The inputs passed have sent.
use Rattle.std.proofs.Common.{◌∙◌}
use Rattle.slot_steps.specs.CodeSteps.{send_of}
use Rattle.slot_moves.proofs.Rounds.{sent-none, sent-more, kept-sent, bound-kept, square-sent, square-sent-keys}
use Rattle.slot_moves.proofs.Rounds.{length-sent-lists, length-sent-heads, length-sent-best}
use Rattle.slot_moves.proofs.send_scheduled.Goals as goal

pub loop-input-init : goal.loop-input-init
loop-input-init c =
    let a = c.args in
    sent-none (send_of a.straight.now a.scheduled.now) a.table.now a.listed.now a.heads.now a.cross.now a.keys.now a.best.now

pub send-requires-clause-table_len : goal.send-requires-clause-table_len
send-requires-clause-table_len c =
    let i = c.loop-input.invariant in
    let p = c.requires.table_len in (
      (kept-sent i).size ∙ p.0,
      length-sent-lists i ∙ p.1,
      length-sent-heads i ∙ p.2,
      length-sent-best i ∙ p.3,
      square-sent i p.4,
      square-sent-keys i p.5,
    )

pub send-requires-clause-bound : goal.send-requires-clause-bound
send-requires-clause-bound c =
    let l = c.loop-input in
    rw c.send_number-number.ensures
    (bound-kept (kept-sent l.invariant) _ (c.requires.all_bound l.input c.loop-input-test.true))

pub loop-input-preserved : goal.loop-input-preserved
loop-input-preserved c = sent-more c.loop-input.invariant c.send_number-number.ensures c.send.ensures
