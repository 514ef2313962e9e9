-- Only a fair output remembers, and only a cell that left.
use Rattle.std.proofs.Common.{◌∙◌, sym}
use Rattle.fair_ranks.proofs.Remembering.{departure-none, departure-put, departure-kept}
use Rattle.fair_ranks.proofs.remember_departure.Goals as goal

pub returns-in_default : goal.returns-in_default
returns-in_default c = departure-none _ _ _ (sym c.in_default.ensures)

pub returns-then-is_marked : goal.returns-then-is_marked
returns-then-is_marked c =
    c.write_left.ensures
    ∙ departure-put _ c.args.output _ c.in-Some.c (sym c.in-Some.ensures)
    (sym c.is_marked.ensures ∙ c.if-is_marked.true)

pub returns-else-is_marked : goal.returns-else-is_marked
returns-else-is_marked c =
    departure-kept _ c.args.output _ c.in-Some.c (sym c.in-Some.ensures)
    (sym c.is_marked.ensures ∙ c.if-is_marked.false)
