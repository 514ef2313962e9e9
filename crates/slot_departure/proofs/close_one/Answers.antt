-- The entry is its output's choice and leaves, or its record is copied to the free one.
use Rattle.std.proofs.Common.{◌∙◌, sym, ap, get_or}
use Rattle.slot_departure.proofs.Staying.{free-leave, closed-leave, stays-i, free-stay, closed-stay}
use Rattle.slot_departure.proofs.close_one.Goals as goal

pub returns-then-best-output_of-clause-value : goal.returns-then-best-output_of-clause-value
returns-then-best-output_of-clause-value c =
    let a = c.args in
    let choice = ap (λ o. get_or a.best.now o 0) c.output_of.ensures in
    free-leave a.table.now a.best.now a.k a.free (sym choice ∙ c.if-best-output_of.true)

pub returns-then-best-output_of-clause-table_after : goal.returns-then-best-output_of-clause-table_after
returns-then-best-output_of-clause-table_after c =
    let a = c.args in
    let choice = ap (λ o. get_or a.best.now o 0) c.output_of.ensures in
    closed-leave a.table.now a.best.now a.k a.free (sym choice ∙ c.if-best-output_of.true)

pub returns-clause-value : goal.returns-clause-value
returns-clause-value c =
    let a = c.args in
    let choice = ap (λ o. get_or a.best.now o 0) c.output_of.ensures in
    free-stay a.table.now a.best.now a.k a.free
    (stays-i a.table.now a.best.now a.k a.free (λ h. c.if-best-output_of.false (choice ∙ h)))

pub returns-clause-table_after : goal.returns-clause-table_after
returns-clause-table_after c =
    let a = c.args in
    let choice = ap (λ o. get_or a.best.now o 0) c.output_of.ensures in
    c.copy_record.ensures
    ∙ closed-stay a.table.now a.best.now a.k a.free
    (stays-i a.table.now a.best.now a.k a.free (λ h. c.if-best-output_of.false (choice ∙ h)))
