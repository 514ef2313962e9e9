-- Eight bytes are put.
use Rattle.std.proofs.Common.{◌∙◌, ap}
use Rattle.layout.specs.Code.{put}
use Rattle.layout.proofs.Words.{le-written}
use Rattle.layout.proofs.word.write_u64.Goals as goal

pub returns : goal.returns
returns c =
    let a = c.args in
    c.write_bytes.ensures ∙ ap (λ bs. put a.at 8 bs a.bytes.now) (c.to_le_bytes.ensures ∙ le-written 7 a.n)
