-- Demand 3: for every list of calls from a fresh switch, begun with no cue held, the crossbar answers as the PIFO switch
-- does: slots, and cues set, dropped and returned to. One claim about the whole list, refused calls included; each call
-- gets the switch and the cue store that the call before returned, or left in refusing. Both are told the same marks at
-- start, and each makes the ranks at fair outputs from a memory of its own. The tally takes no part in an answer. A list
-- of slot calls alone is `map takes` of their arrivals.
use Rattle.std.specs.Prelude.{ℕ, ◌+◌, ◌≤◌, Bool, true, false, ◌&&◌, ◌≡◌, eqb, get_or}
use mathlib.Core.List.{List, [], ◌∷◌, map, flatten}
use Rattle.std.proofs.Math.Option.{Option, none, some}
use Rattle.laws.specs.Lists.{keep, none?, all?, count}
use Rattle.cell.specs.declared.Arrival.{Arrival}
use Rattle.cell.specs.declared.Cell.{Cell}
use Rattle.cell.specs.declared.Refusal.TheVariants.{RankOrder}
use Rattle.cell.specs.Cell.{same_cell, arrival_fits}
use Rattle.cell.specs.Limits.{ports_in_range, fits32}
use Rattle.model.specs.State.{Place, Entry, Switch, fresh, cells, is_listed, is_crossed, is_buffered}
use Rattle.model.specs.Checks.{Outcome, done, refused, refusal}
use Rattle.model.specs.Phase.{after_sending}
use Rattle.model.specs.Crossbar.{Course, slot_answer}
use Rattle.model.specs.Cues.{Cue, Cues, set_cue, drop_cue, return_to}
use Rattle.model.specs.Fair.{Fair, is_fair, marks_in_range, marked, fair_slot, fair_slot_pifo}
use Rattle.model.specs.Pifo.{Pifo, fresh_pifo, Sent, sent_departures}
use Rattle.model.specs.Rehearsal.{Rehearsal, begun, Call, takes, sets, drops, returns, next, crossbar_after}
use Rattle.model.specs.Rehearsal.{shadow_after}

-- The arrivals of a call: any number of records of any 32-bit values, or no whole number of records.
unfoldable pub lent : Option (List Arrival) → Bool
lent none = true
lent (some records) = all? arrival_fits records

-- A cue call has any name.
unfoldable pub callable : Call → Bool
callable (takes arrivals) = lent arrivals
callable (sets name) = true
callable (drops name) = true
callable (returns name) = true

-- a slot call of two switches of so many ports: refused exactly when the other refuses, with the same number and the
-- same place; each output the same cell in all six fields, or none exactly when the other sends none
pub record AnswersAlike (ports : ℕ) (o : Outcome Course) (o' : Outcome Sent) : Type 0 where
  pub refusals : refusal o ≡ refusal o'
  pub departures : (slot_answer ports o).departures ≡ sent_departures ports o'

-- the cells of the sections whose place passes a test
unfoldable pub cells_at : (Place → Bool) → List (List Entry) → List Cell
cells_at p sections = map (λ e. e.cell) (keep (λ e. p e.place) (flatten sections))

-- Taken from an input are the cells that leave its list in a slot, this slot's arrivals included.
unfoldable pub taken : ℕ → Course → ℕ
taken input c =
    count (λ d. eqb d.input input && none? (same_cell d) (cells_at is_listed c.settled)) (cells_at is_listed c.arrived)

-- Brought to an output are those that enter its buffer in it, also those sent at once.
unfoldable pub brought : ℕ → Course → ℕ
brought output c =
    count (λ d. eqb d.output output && none? (same_cell d) (cells_at is_buffered c.arrived))
    (cells_at is_buffered c.settled)

unfoldable pub at_crosspoint : ℕ → ℕ → List (List Entry) → ℕ
at_crosspoint input output sections =
    count (λ d. eqb d.input input && eqb d.output output) (cells_at is_crossed sections)

-- at most two cells are taken from each input and two brought to each output, and at most one is at each crosspoint:
-- after arrival, after each phase, and within each phase when the scheduled cells are sent and no output has chosen yet
pub record WithinLimits (c : Course) : Type 0 where
  pub taken-two : (input : ℕ) → taken input c ≤ 2
  pub brought-two : (output : ℕ) → brought output c ≤ 2
  pub crosspoint-arrived : (input output : ℕ) → at_crosspoint input output c.arrived ≤ 1
  pub crosspoint-sent-one : (input output : ℕ) → at_crosspoint input output (after_sending c.one c.arrived) ≤ 1
  pub crosspoint-between : (input output : ℕ) → at_crosspoint input output c.between ≤ 1
  pub crosspoint-sent-two : (input output : ℕ) → at_crosspoint input output (after_sending c.two c.between) ≤ 1
  pub crosspoint-settled : (input output : ℕ) → at_crosspoint input output c.settled ≤ 1

abbrev pub Within : Outcome Course → Type 0
Within (done c) = WithinLimits c
Within (refused r place) = Unit {0}

-- the clocks are equal, and the same cells wait in both, as multisets per output with all fields
pub record SameWaiting (s : Switch) (q : Pifo) : Type 0 where
  pub clock : s.clock ≡ q.clock
  pub waiting : (output : ℕ) (c : Cell)
      → count (same_cell c) (keep (λ d. eqb d.output output) (cells s)) ≡ count (same_cell c) (get_or q.queues output [])

-- and both remember the same
abbrev pub SameState : Fair Switch → Fair Pifo → Type 0
SameState x y = SameWaiting x.core y.core × (x.memory ≡ y.memory)

-- refusal 7 never names a record at a fair output
abbrev pub NeverFalls : Fair Switch → Option (List Arrival) → Type 0
NeverFalls x none = Unit {0}
NeverFalls x (some records) = (k : ℕ) → fair_slot x (some records) ≡ refused RankOrder (k + 1)
    → is_fair x.memory (get_or (map (λ a. a.output) records) k 0) ≡ false

-- two cue stores agree: place by place both are free, or hold cues of the same name whose switches stand in a relation
module _ {S Q : Type 0} (R : S → Q → Type 0) where
  abbrev pub AgreeAt : Option (Cue S) → Option (Cue Q) → Type 0
  AgreeAt none none = Unit {0}
  AgreeAt none (some d) = ⊥
  AgreeAt (some c) none = ⊥
  AgreeAt (some c) (some d) = (c.name ≡ d.name) × R c.switch d.switch

  abbrev pub Agree : Cues S → Cues Q → Type 0
  Agree [] [] = Unit {0}
  Agree [] (d ∷ ds) = ⊥
  Agree (c ∷ cs) [] = ⊥
  Agree (c ∷ cs) (d ∷ ds) = AgreeAt c d × Agree cs ds

-- What a call answers: a slot as above, within the limits, and no rank falls at a fair output; a cue call is refused
-- exactly when the other refuses, with the same number.
abbrev pub CallAlike : ℕ → Rehearsal (Fair Switch) → Rehearsal (Fair Pifo) → Call → Type 0
CallAlike ports x y (takes arrivals) =
    AnswersAlike ports (fair_slot x.switch arrivals) (fair_slot_pifo y.switch arrivals)
    × Within (fair_slot x.switch arrivals)
    × NeverFalls x.switch arrivals
CallAlike ports x y (sets name) =
    refusal (set_cue name x.switch x.cues) ≡ refusal (set_cue name y.switch y.cues)
CallAlike ports x y (drops name) = refusal (drop_cue name x.cues) ≡ refusal (drop_cue name y.cues)
CallAlike ports x y (returns name) = refusal (return_to name x.cues) ≡ refusal (return_to name y.cues)

-- call by call both answer alike, all along the limits are kept; and after the list the clocks are equal, the same cells
-- wait, both remember the same, and the cue stores agree
abbrev pub Alike : ℕ → Rehearsal (Fair Switch) → Rehearsal (Fair Pifo) → List Call → Type 0
Alike ports x y [] = SameState x.switch y.switch × Agree SameState x.cues y.cues
Alike ports x y (call ∷ calls) =
    CallAlike ports x y call × Alike ports (next crossbar_after x call) (next shadow_after y call) calls

-- for every N from 1 to 16, every first slot of 32 bits, any outputs below N marked fair, and every list of calls
abbrev pub Demand3 : Type 0
Demand3 = (ports first marks : ℕ) (calls : List Call)
    → ports_in_range ports ≡ true → fits32 first ≡ true → marks_in_range ports marks ≡ true → all? callable calls ≡ true
    → Alike ports (begun (marked marks (fresh ports first))) (begun (marked marks (fresh_pifo ports first))) calls
