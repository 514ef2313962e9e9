-- `crossbar::cues::cue_check` meets its contract.
-- Assumes nothing.
use mathlib.Core.Path.{sym, ◌∙◌}
use borrow.Author.Rules.{rules}
use Rattle.crossbar.proofs.CueCalls.{store-passes, store-refused}
use Rattle.crossbar.proofs.cues.cue_check.Statement.{statement}
use Rattle.crossbar.proofs.cues.cue_check.Tie as tie

is-store-requires : tie.Need-is_store-requires
is-store-requires c κs = search rules

returns : tie.Need-returns-then-is_store
returns c = store-passes _ (sym c.is_store.ensures ∙ c.if-is_store.true)

number-requires : tie.Need-number-requires
number-requires c κs = search rules

returns-2 : tie.Need-returns
returns-2 c =
    store-refused _ _ (sym c.is_store.ensures ∙ c.if-is_store.false) c.number.ensures

pub cue_check_spec : {M : Type 1} → statement M
cue_check_spec = tie.close (tie.spec is-store-requires returns number-requires returns-2)
