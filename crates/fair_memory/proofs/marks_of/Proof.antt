-- The first word.
use borrow.Author.Rules.{rules}
use Rattle.layout.specs.Memory.{memory_of}
use Rattle.fair_memory.proofs.marks_of.Statement.{statement}
use Rattle.fair_memory.proofs.marks_of.Tie as tie

read-u32-requires : tie.Need-read_u32-requires
read-u32-requires c κs = search rules

returns : tie.Need-returns
unfolding memory_of
returns c = c.read_u32.ensures

pub marks_of_spec : {M : Type 1} → statement M
marks_of_spec = tie.close (tie.spec read-u32-requires returns)
