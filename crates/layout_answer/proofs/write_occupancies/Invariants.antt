-- Output by output, the numbers of those passed stand one behind the other.
use Rattle.std.proofs.Common.{◌≡◌, ◌*◌}
use Rattle.layout.specs.Answer.{words_bytes}
use Rattle.layout.specs.Code.{put}
use Rattle.layout_answer.proofs.write_occupancies.Given as goal

abbrev pub invariant-loop-output : goal.invariant-loop-output
invariant-loop-output l = l.answer ≡ put l.at (4 * l.output) (words_bytes l.output l.held) l.fn.answer
