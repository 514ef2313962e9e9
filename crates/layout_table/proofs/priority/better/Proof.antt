-- Each return is one case of the choice.
use mathlib.Core.Path.{sym, ◌∙◌}
use borrow.Author.Rules.{rules}
use Rattle.layout_table.proofs.Better.{better-none, better-first, better-over, better-under}
use Rattle.layout_table.proofs.priority.better.Statement.{statement}
use Rattle.layout_table.proofs.priority.better.Tie as tie

returns : tie.Need-returns-then-number-ge-NOWHERE
returns c = sym (better-none _ _ _ c.if-number-ge-NOWHERE.true)

returns-2 : tie.Need-returns-then-held-ge-NOWHERE
returns-2 c = sym (better-first _ _ _ c.before.if-number-ge-NOWHERE.false c.if-held-ge-NOWHERE.true)

is-over-requires : tie.Need-is_over-requires
is-over-requires c κs = search rules

returns-3 : tie.Need-returns-then-is_over
returns-3 c =
    let tests = c.before.before in
    sym (better-over _ _ _ tests.before.if-number-ge-NOWHERE.false tests.if-held-ge-NOWHERE.false (sym c.before.is_over.ensures ∙ c.if-is_over.true))

returns-4 : tie.Need-returns
returns-4 c =
    let tests = c.before.before in
    sym (better-under _ _ _ tests.before.if-number-ge-NOWHERE.false tests.if-held-ge-NOWHERE.false (sym c.before.is_over.ensures ∙ c.if-is_over.false))

pub better_spec : {M : Type 1} → statement M
better_spec = tie.close (tie.spec returns returns-2 is-over-requires returns-3 returns-4)
