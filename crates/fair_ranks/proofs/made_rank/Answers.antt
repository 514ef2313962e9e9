-- The stride is put on the last rank where the output is marked.
use Rattle.std.proofs.Common.{sym, ◌∙◌}
use Rattle.fair_ranks.proofs.Ranks.{made-fair, made_other}
use Rattle.fair_ranks.proofs.made_rank.Goals as goal

pub returns-then-is_marked : goal.returns-then-is_marked
returns-then-is_marked c =
    made-fair _ c.args.a c.from.result c.from-then-is_marked.result (sym c.is_marked.ensures ∙ c.if-is_marked.true)
    (c.from.ensures ∙ c.last_rank.ensures) (c.from-then-is_marked.ensures ∙ c.stride.ensures)

pub returns-else-is_marked : goal.returns-else-is_marked
returns-else-is_marked c good =
    c.from-else-is_marked.ensures ∙ made_other _ c.args.a (sym c.is_marked.ensures ∙ c.if-is_marked.false)
