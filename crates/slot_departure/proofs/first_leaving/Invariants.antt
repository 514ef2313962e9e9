-- The first cells are those among the choices passed.
use Rattle.slot_departure.specs.Code.{Firsts}
use Rattle.slot_departure.proofs.first_leaving.Given as goal

abbrev pub invariant-loop-number : goal.invariant-loop-number
invariant-loop-number l = Firsts l.best l.number-index l.firsts
