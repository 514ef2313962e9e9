use Rattle.std.proofs.Common.{arith}
use Rattle.trace.specs.Lines.{departures_text}
use Rattle.layout.specs.Answer.{departures_in}
use Rattle.layout.proofs.Number.{bytes?-i}
use Rattle.player_lines.proofs.Lines.{put-nothing}
use Rattle.player_lines.proofs.Sent.{put-more}
use Rattle.player_lines.proofs.put_departures.Goals as goal

pub loop-output-init : goal.loop-output-init
unfolding departures_text departures_in
loop-output-init c = put-nothing c.args.out.now c.args.at (omega arith) (omega arith)

pub loop-output-preserved : goal.loop-output-preserved
loop-output-preserved c =
    let a = c.args in
    let bytes = bytes?-i a.answer.now (λ i. (c.type_inv.answer i).fits) in
    put-more a.out.now a.answer.now a.at bytes c.requires.1 c.requires.0
    (omega arith)
    c.loop-output.output
    (omega arith)
    c.loop-output.invariant
    c.put_sent-place.ensures
