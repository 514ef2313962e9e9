-- `fair_table::marks_in_range` meets its contract: the number of all marks below N is one less than 2 to the N.
-- Assumes nothing.
use borrow.Author.Rules.{rules}
use Rattle.fair_table.proofs.Frame.{shifted-marks}
use Rattle.fair_table.proofs.marks_in_range.Statement.{statement}
use Rattle.fair_table.proofs.marks_in_range.Tie as tie

shl-result : tie.Need-overflow_shl-result
shl-result c = search rules

returns : tie.Need-returns
returns c = shifted-marks c.args.ports c.args.marks c.requires

pub marks_in_range_spec : {M : Type 1} → statement M
marks_in_range_spec = tie.close (tie.spec shl-result returns)
