-- Four bytes are the number of 32 bits.
use Rattle.std.proofs.Common.{◌∙◌, ap, drop}
use Rattle.std.specs.Int.{w32, from_le_bytes}
use Rattle.layout.specs.Number.{word, number_at}
use Rattle.layout.proofs.Words.{le-read}
use Rattle.layout.proofs.word.read_u32.Goals as goal

pub returns : goal.returns
unfolding word number_at
returns c =
    c.from_le_bytes.ensures
    ∙ ap (from_le_bytes w32) c.read_bytes.ensures
    ∙ le-read 3 (drop c.args.at c.args.bytes.now)
