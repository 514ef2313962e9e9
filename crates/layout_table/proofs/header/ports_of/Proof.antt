-- The number of ports stands in the header.
use borrow.Author.Rules.{rules}
use Rattle.layout.specs.Code.{ports_in}
use Rattle.layout_table.proofs.header.ports_of.Statement.{statement}
use Rattle.layout_table.proofs.header.ports_of.Tie as tie

read-u32-requires : tie.Need-read_u32-requires
read-u32-requires c κs = search rules

cast-result : tie.Need-overflow_cast-result
cast-result c = search rules

returns : tie.Need-returns
unfolding ports_in
returns c = c.read_u32.ensures

pub ports_of_spec : {M : Type 1} → statement M
ports_of_spec = tie.close (tie.spec read-u32-requires cast-result returns)
