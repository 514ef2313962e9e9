-- The two ways in which a flow breaks.
use mathlib.Core.Bool.{Bool, true, false, not, ◌&&◌, ◌||◌, or-false}
use mathlib.Core.Path.{◌≡◌, refl}
use Rattle.slot_section.specs.Code.{breaks_flow}
use Rattle.slot_section.proofs.breaks_flow.Statement.{statement}
use Rattle.slot_section.proofs.breaks_flow.Tie as tie

returns : tie.Need-returns
unfolding breaks_flow
returns c = go c.args.same
  where
    go : (same : Bool)
        → ((same && c.args.early) || (not same && c.args.met)) ≡ breaks_flow same c.args.early c.args.met
    go true = or-false c.args.early
    go false = refl

pub breaks_flow_spec : {M : Type 1} → statement M
breaks_flow_spec = tie.close (tie.spec returns)
