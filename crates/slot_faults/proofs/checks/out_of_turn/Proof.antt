-- The record before it set the turn.
use mathlib.Core.Path.{sym, ◌∙◌, ap}
use lib.Dec.{ltb}
use Rattle.slot_faults.proofs.Faults.{turn-after}
use Rattle.slot_faults.proofs.checks.out_of_turn.Statement.{statement}
use Rattle.slot_faults.proofs.checks.out_of_turn.Tie as tie

returns : tie.Need-returns
returns c = λ before e. ap (ltb c.args.c.input) (sym e) ∙ turn-after before c.args.c

pub out_of_turn_spec : {M : Type 1} → statement M
out_of_turn_spec = tie.close (tie.spec returns)
