-- The first member from the start on, or else the first of all.
use Rattle.std.proofs.Common.{sym, subst, inl, inr}
use Rattle.slot_leaders.specs.CodeKeys.{FirstInRound}
use Rattle.slot_leaders.proofs.Leaders.{round-came}
use Rattle.slot_leaders.proofs.first_in_round.Goals.{then-late-ne0, else-late-ne0}
use Rattle.slot_leaders.proofs.first_in_round.Goals as goal

pub returns : goal.returns
returns c =
    subst (FirstInRound c.args.set c.args.start) (sym c.first.ensures)
    (round-came c.requires.0 c.ranges.set.fits c.requires.1 c.from-late.ensures
    (elim c.if-late-ne0.branch [
      | then-late-ne0 w ↦ inl (w.if-late-ne0.true, w.first-is)
      | else-late-ne0 w ↦ inr (w.if-late-ne0.false, w.first-is)
    ]))
