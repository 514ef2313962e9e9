-- The table's check, then its sets.
use Rattle.std.proofs.Common.{sym, ◌∙◌}
use Rattle.oq.proofs.Checked.{in-a-list, in-no-list}
use Rattle.oq.proofs.check.is_buffered.Goals as goal

pub returns-then-are_empty : goal.returns-then-are_empty
returns-then-are_empty c =
    let sorted = c.in-Some.ensures in
    in-no-list _ _ _ _ _ (sym sorted.value) sorted.handed (sym c.are_empty.ensures ∙ c.if-are_empty.true) _
    c.are_empty-then-are_empty.ensures

pub returns-else-are_empty : goal.returns-else-are_empty
returns-else-are_empty c =
    let sorted = c.in-Some.ensures in
    c.if-are_empty.false
    ∙ in-a-list _ _ _ _ _ (sym sorted.value) sorted.handed (sym c.are_empty.ensures ∙ c.if-are_empty.false)
