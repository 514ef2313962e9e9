-- The stage as given, and no line.
use mathlib.Core.Path.{refl}
use Rattle.player_turns.proofs.over.Statement.{statement}
use Rattle.player_turns.proofs.over.Tie as tie

returns : tie.Need-returns
returns c = record { there = refl; none = refl; kept = refl; count = refl }

pub over_spec : {M : Type 1} → statement M
over_spec = tie.close (tie.spec returns)
