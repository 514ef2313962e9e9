-- Scope 6: the checks of a record, 4 to 8, in their order. All three switches use them, each fed
-- the cells that wait in it before the slot. A record is looked at as the cell that it would become. 14 and 15, which come
-- among them at fair outputs, are in Fair.
use Rattle.std.specs.Prelude.{ℕ, ◌+◌, Bool, false, cond, not, ◌&&◌, ◌||◌, List, [], ◌∷◌, ltb, leb, eqb, replicate}
use Rattle.std.proofs.Math.Option.{Option, none, some}
use Rattle.laws.specs.Lists.{some?, count}
use Rattle.cell.specs.declared.Cell.{Cell}
use Rattle.cell.specs.declared.Refusal.{Refusal}
use Rattle.cell.specs.declared.Refusal.TheVariants.{NoSuchPort, NoSuchFlow, InputOrder, RankOrder, Full}
use Rattle.cell.specs.Flow.{same_flow}
use Rattle.cell.specs.Limits.{flow_in_range, input_full}
use Rattle.cell.specs.Checked.{Checked, no_fault, fault_with}

-- What a call comes to: its result, or a refusal with the record's place (from 1; 0 where it names no record).
pub data Outcome (A : Type 0) : Type 0 where
  done : A → Outcome A
  refused : Refusal → ℕ → Outcome A

-- the refusal and its place, none where the call is done
unfoldable pub refusal : {A : Type 0} → Outcome A → Option (Refusal × ℕ)
refusal (done a) = none
refusal (refused r place) = some (r, place)

-- the departures of a refused slot: none at each of so many outputs
unfoldable pub no_departures : ℕ → List (Option Cell)
no_departures ports = replicate ports none

-- 4: an input or output is N or more
unfoldable pub no_such_port : ℕ → Cell → Bool
no_such_port ports c = leb ports c.input || leb ports c.output

-- 5: a flow is above 7
unfoldable pub no_such_flow : Cell → Bool
no_such_flow c = not (flow_in_range c.flow)

-- 6: an input is not above that of the record before it
unfoldable pub out_of_turn : Option Cell → Cell → Bool
out_of_turn none c = false
out_of_turn (some before) c = leb c.input before.input

-- 7: a cell of the same flow is in the switch with a higher rank
unfoldable pub falling_rank : List Cell → Cell → Bool
falling_rank waiting c = some? (λ d. same_flow d c && ltb c.rank d.rank) waiting

-- 8: 64 cells from this input are in the switch
unfoldable pub full : List Cell → Cell → Bool
full waiting c = input_full (count (λ d. eqb d.input c.input) waiting)

unfoldable pub fault : ℕ → List Cell → Option Cell → Cell → Option Refusal
fault ports waiting before c =
    cond (no_such_port ports c) (some NoSuchPort)
    (cond (no_such_flow c) (some NoSuchFlow)
    (cond (out_of_turn before c) (some InputOrder)
    (cond (falling_rank waiting c) (some RankOrder)
    (cond (full waiting c) (some Full)
    none))))

-- the first fault of the records from this place on, and its place
unfoldable pub fault_from : ℕ → List Cell → ℕ → Option Cell → List Cell → Option (Refusal × ℕ)
fault_from ports waiting place before [] = none
fault_from ports waiting place before (c ∷ cs) =
    elim (fault ports waiting before c) [
      | some r ↦ some (r, place)
      | none ↦ fault_from ports waiting (place + 1) (some c) cs
    ]

-- record by record 4 to 8: the first fault refuses the slot with its number and the record's place
unfoldable pub first_fault : ℕ → List Cell → List Cell → Option (Refusal × ℕ)
first_fault ports waiting cs = fault_from ports waiting 1 none cs

-- the refusal of an outcome, if it is one
unfoldable pub refusal_of : {A : Type 0} → Outcome A → Checked
refusal_of (done a) = no_fault
refusal_of (refused r place) = fault_with r place
