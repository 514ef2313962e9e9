-- Each return is one of the cases of a proposal.
use Rattle.std.proofs.Common.{refl, sym, ◌∙◌, ap}
use lib.ListN.{set}
use Rattle.slot_matching.specs.CodeProposing.{kept, wins, loses}
use Rattle.slot_matching.proofs.propose.Goals as goal

pub returns-then-holder-ge-NOWHERE : goal.returns-then-holder-ge-NOWHERE
returns-then-holder-ge-NOWHERE c =
    let e = c.output_of-output.ensures in
    kept (rw (← e) c.if-holder-ge-NOWHERE.true) refl (ap (λ o. set c.args.held.now o c.args.k) e) refl

pub returns-then-is_over : goal.returns-then-is_over
returns-then-is_over c =
    let e = c.output_of-output.ensures in
    wins
    (rw (← e) c.if-holder-ge-NOWHERE.false)
    (rw (← e) (sym c.is_over.ensures ∙ c.if-is_over.true))
    (ap (λ o. set c.args.held.now o c.args.k) e)
    (rw (← e) c.refuse.ensures)

pub returns : goal.returns
returns c =
    let e = c.output_of-output.ensures in
    loses
    (rw (← e) c.if-holder-ge-NOWHERE.false)
    (rw (← e) (sym c.is_over.ensures ∙ c.if-is_over.false))
    refl
    c.refuse-2.ensures
