use Rattle.std.proofs.Common.{◌≡◌, ◌≤◌, ◌+◌, ◌*◌, ◌∙◌, sym, ap₂, length, arith}
use lib.ListN.{get_or}
use Rattle.layout.specs.Answer.{words_bytes}
use Rattle.layout.specs.Code.{put}
use Rattle.layout.specs.Number.{bytes_of}
use Rattle.layout.proofs.Answer.{length-words_bytes, words_bytes-more}
use Rattle.layout.proofs.Number.{length-bytes_of}
use Rattle.layout.proofs.Put.{put-none, put_next}
use Rattle.layout_answer.proofs.write_occupancies.Goals as goal

pub loop-output-init : goal.loop-output-init
unfolding words_bytes
loop-output-init c = put-none c.args.at c.args.answer.now

pub loop-output-preserved : goal.loop-output-preserved
loop-output-preserved c =
    let a = c.args in
    let k = c.loop-output.output in
    let next : 4 * k + 4 ≡ 4 * (k + 1) = omega arith in
    let room : a.at + (4 * k + 4) ≤ length a.answer.now = omega arith in
    put_next a.at (4 * k) 4 (words_bytes k a.held.now) (bytes_of 4 (get_or a.held.now k 0))
    a.answer.now c.loop-output.answer c.write_u32.new.bytes (length-words_bytes k a.held.now)
    (length-bytes_of 4 _) room c.loop-output.invariant (rw c.from.ensures at c.write_u32.ensures)
    ∙ ap₂ (λ n bs. put a.at n bs a.answer.now) next (sym (words_bytes-more k a.held.now))
