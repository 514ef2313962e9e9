-- Eight bytes are the number of 64 bits.
use Rattle.std.proofs.Common.{◌∙◌, ap, drop}
use Rattle.std.specs.Int.{w64, from_le_bytes}
use Rattle.layout.specs.Number.{number_at}
use Rattle.layout.proofs.Words.{le-read}
use Rattle.layout.proofs.word.read_u64.Goals as goal

pub returns : goal.returns
unfolding number_at
returns c =
    c.from_le_bytes.ensures
    ∙ ap (from_le_bytes w64) c.read_bytes.ensures
    ∙ le-read 7 (drop c.args.at c.args.bytes.now)
