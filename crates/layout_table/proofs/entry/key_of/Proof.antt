-- The key of the record's cell.
use mathlib.Core.Path.{◌∙◌, ap}
use borrow.Author.Rules.{rules}
use Rattle.cell.specs.Order.{key}
use Rattle.layout_table.proofs.entry.key_of.Statement.{statement}
use Rattle.layout_table.proofs.entry.key_of.Tie as tie

cell-of-requires : tie.Need-cell_of-requires
cell-of-requires c κs = search rules

key-requires : tie.Need-key-requires
key-requires c κs = search rules

returns : tie.Need-returns
returns c = c.key.ensures ∙ ap key c.before.cell_of.ensures

pub key_of_spec : {M : Type 1} → statement M
key_of_spec = tie.close (tie.spec cell-of-requires key-requires returns)
