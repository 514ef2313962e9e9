-- The clock's end, or what the records say.
use Rattle.std.proofs.Common.{sym, ◌∙◌}
use Rattle.slot_faults.proofs.Stored.{table-length, table-clock}
use Rattle.fair_faults.proofs.Slots.{fair-end, fair-early}
use Rattle.fair_faults.proofs.fair_fault.Goals as goal

pub clock_of-requires : goal.clock_of-requires
clock_of-requires c = table-length _ c.requires.table

pub returns-then-clock_of-eq-CLOCK_END : goal.returns-then-clock_of-eq-CLOCK_END
returns-then-clock_of-eq-CLOCK_END c =
    sym (fair-end _ _ _ (table-clock _ c.requires.table ∙ sym c.clock_of.ensures ∙ c.if-clock_of-eq-CLOCK_END.true))

pub returns : goal.returns
returns c =
    let clock = c.clock_of.ensures ∙ sym (table-clock _ c.requires.table) in
    c.check_records.ensures ∙ sym (fair-early _ _ _ (λ e. c.if-clock_of-eq-CLOCK_END.false (clock ∙ e)))
