-- A rehearsal: a switch and the cues that are held, and the calls that it is given, one after the other. Each call gets
-- the switch and the cue store as the last one left them. One text for the crossbar and for the PIFO switch.
use Rattle.std.specs.Prelude.{ℕ, Bool, true, false, not, ◌&&◌, List, [], ◌∷◌, eqb}
use Rattle.std.proofs.Math.Option.{Option}
use Rattle.laws.specs.Lists.{same_list}
use Rattle.cell.specs.declared.Arrival.{Arrival}
use Rattle.cell.specs.declared.Tally.{Tally}
use Rattle.model.specs.Checks.{Outcome, done, refused}
use Rattle.model.specs.Cues.{Cues, no_cues, set_cue, drop_cue, return_to}
use Rattle.model.specs.Fair.{Fair, fair_slot, fair_after, fair_slot_pifo, fair_after_pifo}
use Rattle.model.specs.Pifo.{Pifo}
use Rattle.model.specs.State.{Switch}
use Rattle.model.specs.Tally.{tally_after, arrival_count}

pub record Rehearsal (S : Type 0) : Type 0 where
  pub switch : S
  pub cues : Cues S

-- begun with no cue held
unfoldable pub begun : {S : Type 0} → S → Rehearsal S
begun s = record { switch = s; cues = no_cues }

-- a slot call with its arrivals, or a cue set, dropped or returned to, with its name
pub data Call : Type 0 where
  takes : Option (List Arrival) → Call
  sets : List ℕ → Call
  drops : List ℕ → Call
  returns : List ℕ → Call

-- what a call leaves of what it may change: its result, or in refusing what was there
unfoldable pub left : {A : Type 0} → A → Outcome A → A
left old (done new) = new
left old (refused r place) = old

unfoldable pub is_done : {A : Type 0} → Outcome A → Bool
is_done (done a) = true
is_done (refused r place) = false

-- the slot calls of a list
unfoldable pub slots_of : List Call → List (Option (List Arrival))
slots_of [] = []
slots_of (takes arrivals ∷ calls) = arrivals ∷ slots_of calls
slots_of (sets name ∷ calls) = slots_of calls
slots_of (drops name ∷ calls) = slots_of calls
slots_of (returns name ∷ calls) = slots_of calls

-- a call that sets or drops this name
unfoldable pub moves : List ℕ → Call → Bool
moves name (takes arrivals) = false
moves name (sets other) = same_list eqb name other
moves name (drops other) = same_list eqb name other
moves name (returns other) = false

-- A switch is given by what a slot call leaves of it.
module _ {S : Type 0} (after : S → Option (List Arrival) → S) where
  unfoldable pub next : Rehearsal S → Call → Rehearsal S
  next x (takes arrivals) = record { switch = after x.switch arrivals; cues = x.cues }
  next x (sets name) = record { switch = x.switch; cues = left x.cues (set_cue name x.switch x.cues) }
  next x (drops name) = record { switch = x.switch; cues = left x.cues (drop_cue name x.cues) }
  next x (returns name) = record { switch = left x.switch (return_to name x.cues); cues = x.cues }

  unfoldable pub next_all : Rehearsal S → List Call → Rehearsal S
  next_all x [] = x
  next_all x (call ∷ calls) = next_all (next x call) calls

  -- whether a call is a return that is accepted, and whether no call of a list is
  unfoldable pub goes_back : Rehearsal S → Call → Bool
  goes_back x (takes arrivals) = false
  goes_back x (sets name) = false
  goes_back x (drops name) = false
  goes_back x (returns name) = is_done (return_to name x.cues)

  unfoldable pub none_goes_back : Rehearsal S → List Call → Bool
  none_goes_back x [] = true
  none_goes_back x (call ∷ calls) = not (goes_back x call) && none_goes_back (next x call) calls

  -- what the slot calls of a list answer, in their order
  module _ {A : Type 0} (answer : S → Option (List Arrival) → A) where
    unfoldable pub slot_answers : Rehearsal S → List Call → List A
    slot_answers x [] = []
    slot_answers x (takes arrivals ∷ calls) = answer x.switch arrivals ∷ slot_answers (next x (takes arrivals)) calls
    slot_answers x (sets name ∷ calls) = slot_answers (next x (sets name)) calls
    slot_answers x (drops name ∷ calls) = slot_answers (next x (drops name)) calls
    slot_answers x (returns name ∷ calls) = slot_answers (next x (returns name)) calls

    -- and what slot calls alone answer, from a switch
    unfoldable pub answers_from : S → List (Option (List Arrival)) → List A
    answers_from s [] = []
    answers_from s (arrivals ∷ slots) = answer s arrivals ∷ answers_from (after s arrivals) slots

-- The two switches: a slot that is refused leaves them as they were.
abbrev pub crossbar_after : Fair Switch → Option (List Arrival) → Fair Switch
crossbar_after x arrivals = fair_after x arrivals (fair_slot x arrivals)

abbrev pub shadow_after : Fair Pifo → Option (List Arrival) → Fair Pifo
shadow_after y arrivals = fair_after_pifo y arrivals (fair_slot_pifo y arrivals)

-- The tally after a call, which is lent it if it is a slot call: a cue call leaves it, and it is never wound back.
unfoldable pub tally_next : Rehearsal (Fair Switch) → Call → Tally → Tally
tally_next x (takes arrivals) t = tally_after (arrival_count arrivals) (fair_slot x.switch arrivals) t
tally_next x (sets name) t = t
tally_next x (drops name) t = t
tally_next x (returns name) t = t

-- The tally after a list of calls, lent to each slot call as the last one left it.
unfoldable pub tally_after_all : Rehearsal (Fair Switch) → List Call → Tally → Tally
tally_after_all x [] t = t
tally_after_all x (call ∷ calls) t = tally_after_all (next crossbar_after x call) calls (tally_next x call t)
