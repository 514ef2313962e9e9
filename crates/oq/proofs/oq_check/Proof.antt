-- `oq::oq_check` meets its contract.
-- Assumes nothing.
use mathlib.Core.Path.{sym, ◌∙◌}
use borrow.Author.Rules.{rules}
use Rattle.model.specs.Oq.{sound_oq}
use Rattle.layout.specs.Engine.{oq}
use Rattle.layout.specs.Fair.{fair_number_oq}
use Rattle.layout.proofs.Engine.{check_call-table, check_call-broken}
use Rattle.layout.proofs.Fair.{is-table-with, is_table_with-none}
use Rattle.oq.proofs.oq_check.Statement.{statement}
use Rattle.oq.proofs.oq_check.Tie as tie

is-fair-oq-table-requires : tie.Need-is_fair_oq_table-requires
is-fair-oq-table-requires c κs = search rules

returns : tie.Need-returns-then-is_fair_oq_table
returns c =
    sym (check_call-table oq _ _
    (is-table-with fair_number_oq sound_oq _ (sym c.is_fair_oq_table.ensures ∙ c.if-is_fair_oq_table.true)))

number-requires : tie.Need-number-requires
number-requires c κs = search rules

returns-2 : tie.Need-returns
returns-2 c =
    c.number.ensures
    ∙ sym (check_call-broken oq _
    (is_table_with-none fair_number_oq sound_oq _ (sym c.is_fair_oq_table.ensures ∙ c.if-is_fair_oq_table.false)))

pub oq_check_spec : {M : Type 1} → statement M
oq_check_spec = tie.close (tie.spec is-fair-oq-table-requires returns number-requires returns-2)
