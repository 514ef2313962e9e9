-- The clock stands in the header.
use borrow.Author.Rules.{rules}
use Rattle.layout.specs.Entry.{clock_in}
use Rattle.layout_table.proofs.header.clock_of.Statement.{statement}
use Rattle.layout_table.proofs.header.clock_of.Tie as tie

read-u32-requires : tie.Need-read_u32-requires
read-u32-requires c κs = search rules

returns : tie.Need-returns
unfolding clock_in
returns c = c.read_u32.ensures

pub clock_of_spec : {M : Type 1} → statement M
clock_of_spec = tie.close (tie.spec read-u32-requires returns)
