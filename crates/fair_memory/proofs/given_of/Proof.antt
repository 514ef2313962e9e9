-- The word of the flow.
use mathlib.Core.Path.{◌∙◌}
use borrow.Author.Rules.{rules}
use Rattle.fair_memory.proofs.Words.{given_word}
use Rattle.fair_memory.proofs.given_of.Statement.{statement}
use Rattle.fair_memory.proofs.given_of.Tie as tie

mul-read-u32 : tie.Need-overflow_mul-index
mul-read-u32 c = search rules

add-read-u32 : tie.Need-overflow_add-index
add-read-u32 c = search rules

read-u32-requires : tie.Need-read_u32-requires
read-u32-requires c κs = search rules

returns : tie.Need-returns
returns c =
    let start = c.before.before in
    c.read_u32.ensures ∙ given_word start.args.memory.now start.args.index start.requires.1

pub given_of_spec : {M : Type 1} → statement M
given_of_spec = tie.close (tie.spec mul-read-u32 add-read-u32 read-u32-requires returns)
