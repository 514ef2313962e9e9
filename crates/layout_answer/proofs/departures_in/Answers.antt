use Rattle.std.proofs.Common.{◌≡◌, sym, ◌∙◌, ap, ◌+◌, arith}
use Rattle.layout_answer.proofs.Departures.{sent_below, sent-none, sent-next, sent-same, sent-all}
use Rattle.layout_answer.proofs.departures_in.Goals as goal
use Rattle.layout_answer.proofs.departures_in.Goals.{then-read_u32-ne0, else-read_u32-ne0}

pub loop-output-init : goal.loop-output-init
loop-output-init c = (omega arith, sent-none _)

pub loop-output-preserved : goal.loop-output-preserved
loop-output-preserved c =
    let sofar = c.loop-output.invariant.1 in
    let read = c.read_u32.ensures in
    elim c.if-read_u32-ne0.branch [
      | then-read_u32-ne0 w ↦ (
        omega arith,
        w.count-is ∙ ap (λ k. k + 1) sofar ∙ sent-next _ _ (λ z. w.if-read_u32-ne0.true (read ∙ z)),
      )
      | else-read_u32-ne0 w ↦ (omega arith, w.count-is ∙ sofar ∙ sent-same _ _ (sym read ∙ w.if-read_u32-ne0.false))
    ]

pub returns : goal.returns
returns c =
    let all : c.loop-output.output ≡ 16 = omega arith in
    c.loop-output.invariant.1 ∙ ap (λ n. sent_below n c.args.answer.now) all ∙ sent-all _
