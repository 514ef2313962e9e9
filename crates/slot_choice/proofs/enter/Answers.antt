-- The three cases of the definition.
use Rattle.std.proofs.Common.{sym, ◌∙◌}
use Rattle.slot_choice.proofs.Choice.{entered-nowhere, entered-behind, entered-first}
use Rattle.slot_choice.proofs.enter.Goals as goal

pub returns-then-scheduled-ge-NOWHERE : goal.returns-then-scheduled-ge-NOWHERE
returns-then-scheduled-ge-NOWHERE c = entered-nowhere _ _ _ c.if-scheduled-ge-NOWHERE.true

pub returns-then-first-position : goal.returns-then-first-position
returns-then-first-position c =
    entered-behind _ _ _ c.if-scheduled-ge-NOWHERE.false (λ e. c.if-first-position.true (c.first.ensures ∙ e))

pub returns : goal.returns
returns c =
    c.with.ensures
    ∙ entered-first _ _ _ c.if-scheduled-ge-NOWHERE.false (sym c.first.ensures ∙ c.if-first-position.false)
