-- The output-queued switch answers as the PIFO switch does, for every list of slot calls from a fresh switch; and so it
-- answers as the crossbar, but for proposals and crosspoints, of which it has none.
use Rattle.std.specs.Prelude.{ℕ, true, List, [], ◌∷◌, ◌≡◌}
use Rattle.std.proofs.Math.Option.{Option}
use Rattle.laws.specs.Lists.{all?, count}
use Rattle.cell.specs.declared.Arrival.{Arrival}
use Rattle.cell.specs.declared.Cell.{Cell}
use Rattle.cell.specs.Cell.{same_cell}
use Rattle.cell.specs.Limits.{ports_in_range, fits32}
use Rattle.model.specs.State.{Switch, fresh, cells}
use Rattle.model.specs.Checks.{Outcome, refusal}
use Rattle.model.specs.Crossbar.{slot_answer}
use Rattle.model.specs.Emulation.{lent, SameWaiting}
use Rattle.model.specs.Fair.{Fair, marks_in_range, marked, fair_slot, fair_after, fair_slot_pifo, fair_after_pifo, fair_slot_oq}
use Rattle.model.specs.Fair.{fair_after_oq}
use Rattle.model.specs.Oq.{Served, served_departures}
use Rattle.model.specs.Pifo.{Pifo, fresh_pifo, sent_departures}

-- A slot call of a switch of so many ports, answered as another switch does: refused exactly when the other refuses, with
-- the same number and the same place; each output the same cell in all six fields, or none exactly when the other sends
-- none.
abbrev pub AnsweredAs : {A : Type 0} → ℕ → Outcome Served → Outcome A → List (Option Cell) → Type 0
AnsweredAs ports o other departures = (refusal o ≡ refusal other) × (served_departures ports o ≡ departures)

-- call by call as the PIFO switch; and after the list the clocks are equal, the same cells wait, and both remember the same
abbrev pub OqAsPifo : ℕ → Fair Switch → Fair Pifo → List (Option (List Arrival)) → Type 0
OqAsPifo ports x y [] = SameWaiting x.core y.core × (x.memory ≡ y.memory)
OqAsPifo ports x y (a ∷ calls) =
    AnsweredAs ports (fair_slot_oq x a) (fair_slot_pifo y a) (sent_departures ports (fair_slot_pifo y a))
    × OqAsPifo ports (fair_after_oq x a (fair_slot_oq x a)) (fair_after_pifo y a (fair_slot_pifo y a)) calls

-- call by call as the crossbar; and after the list the clocks are equal, the same cells wait, and both remember the same
abbrev pub OqAsCrossbar : ℕ → Fair Switch → Fair Switch → List (Option (List Arrival)) → Type 0
OqAsCrossbar ports x z [] =
    (x.core.clock ≡ z.core.clock)
    × ((c : Cell) → count (same_cell c) (cells x.core) ≡ count (same_cell c) (cells z.core))
    × (x.memory ≡ z.memory)
OqAsCrossbar ports x z (a ∷ calls) =
    AnsweredAs ports (fair_slot_oq x a) (fair_slot z a) (slot_answer ports (fair_slot z a)).departures
    × OqAsCrossbar ports (fair_after_oq x a (fair_slot_oq x a)) (fair_after z a (fair_slot z a)) calls

-- for every N from 1 to 16, every first slot of 32 bits, any outputs below N fair and every list of slot calls
abbrev pub OqEmulates : Type 0
OqEmulates = (ports first marks : ℕ) (calls : List (Option (List Arrival)))
    → ports_in_range ports ≡ true → fits32 first ≡ true → marks_in_range ports marks ≡ true → all? lent calls ≡ true
    → OqAsPifo ports (marked marks (fresh ports first)) (marked marks (fresh_pifo ports first)) calls
    × OqAsCrossbar ports (marked marks (fresh ports first)) (marked marks (fresh ports first)) calls
