-- `crossbar::check` meets its contract.
-- Assumes nothing.
use mathlib.Core.Path.{sym, ◌∙◌}
use Rattle.crossbar.proofs.Calls.{check-passes, check-refuses}
use borrow.Author.Rules.{rules}
use Rattle.crossbar.proofs.check.Statement.{statement}
use Rattle.crossbar.proofs.check.Tie as tie

is-fair-table-requires : tie.Need-is_fair_table-requires
is-fair-table-requires c κs = search rules

returns : tie.Need-returns-then-is_fair_table
returns c = check-passes _ (sym c.is_fair_table.ensures ∙ c.if-is_fair_table.true)

number-requires : tie.Need-number-requires
number-requires c κs = search rules

returns-2 : tie.Need-returns
returns-2 c =
    check-refuses _ _ (sym c.is_fair_table.ensures ∙ c.if-is_fair_table.false) c.number.ensures

pub check_spec : {M : Type 1} → statement M
check_spec = tie.close (tie.spec is-fair-table-requires returns number-requires returns-2)
