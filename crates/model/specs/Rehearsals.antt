-- Rehearsals worked out by hand from the rules of cues, and the test that the definitions give them: both switches are
-- given every call, and answer it as the row says.
use Rattle.std.specs.Prelude.{ℕ, Bool, true, false, not, ◌&&◌, List, [], ◌∷◌, map, eqb, replicate}
use Rattle.std.proofs.Math.Option.{Option, none, some}
use Rattle.laws.specs.Lists.{same_list}
use Rattle.cell.specs.Refusal.{number}
use Rattle.model.specs.Checks.{Outcome, done, refused}
use Rattle.model.specs.Cues.{Cue, Cues, set_cue, drop_cue, return_to, sound_cues}
use Rattle.model.specs.Fair.{Fair, marked, fair_slot, fair_slot_pifo}
use Rattle.model.specs.Pifo.{Pifo, fresh_pifo}
use Rattle.model.specs.Rehearsal.{Rehearsal, begun, takes, sets, drops, returns, next, crossbar_after, shadow_after}
use Rattle.model.specs.State.{Switch, fresh}
use Rattle.model.specs.Calls.{Call, call, sends, crossbar_answers, pifo_answers, arrival, cell}

-- A slot call with what it is to answer; a cue call with its name and what it is to answer: 0, or a refusal's number.
pub data Step : Type 0 where
  plays : Call → Step
  set drop back : List ℕ → ℕ → Step

unfoldable pub answers_with : {A : Type 0} → ℕ → Outcome A → Bool
answers_with n (done a) = eqb n 0
answers_with n (refused r place) = eqb n (number r) && eqb place 0

unfoldable pub same_held : Option (List ℕ) → Option (List ℕ) → Bool
same_held none none = true
same_held none (some n) = false
same_held (some m) none = false
same_held (some m) (some n) = same_list eqb m n

-- the names that are held, place by place
unfoldable pub held_name : {S : Type 0} → Option (Cue S) → Option (List ℕ)
held_name none = none
held_name (some c) = some c.name

unfoldable pub holds : {S : Type 0} → List (Option (List ℕ)) → Cues S → Bool
holds names cues = same_list same_held (map held_name cues) names

-- step by step; last the clock, and the names by their places
unfoldable pub plays? : Rehearsal (Fair Switch) → Rehearsal (Fair Pifo) → List Step → ℕ → List (Option (List ℕ)) → Bool
plays? x y [] clock names =
    eqb x.switch.core.clock clock
    && (eqb y.switch.core.clock clock
    && (holds names x.cues
    && holds names y.cues))
plays? x y (plays c ∷ steps) clock names =
    let arrivals = some c.arrivals in
    crossbar_answers c.expected (fair_slot x.switch arrivals)
    && (pifo_answers c.expected (fair_slot_pifo y.switch arrivals)
    && plays? (next crossbar_after x (takes arrivals)) (next shadow_after y (takes arrivals)) steps clock names)
plays? x y (set name n ∷ steps) clock names =
    answers_with n (set_cue name x.switch x.cues)
    && (answers_with n (set_cue name y.switch y.cues)
    && plays? (next crossbar_after x (sets name)) (next shadow_after y (sets name)) steps clock names)
plays? x y (drop name n ∷ steps) clock names =
    answers_with n (drop_cue name x.cues)
    && (answers_with n (drop_cue name y.cues)
    && plays? (next crossbar_after x (drops name)) (next shadow_after y (drops name)) steps clock names)
plays? x y (back name n ∷ steps) clock names =
    answers_with n (return_to name x.cues)
    && (answers_with n (return_to name y.cues)
    && plays? (next crossbar_after x (returns name)) (next shadow_after y (returns name)) steps clock names)

-- both switches, fresh with N and a first slot, these outputs fair, and no cue held
unfoldable pub rehearsed_marked : ℕ → ℕ → ℕ → List Step → ℕ → List (Option (List ℕ)) → Bool
rehearsed_marked n first marks steps clock names =
    plays? (begun (marked marks (fresh n first))) (begun (marked marks (fresh_pifo n first))) steps clock names

-- no output fair
unfoldable pub rehearsed : ℕ → ℕ → List Step → ℕ → List (Option (List ℕ)) → Bool
rehearsed n first steps clock names = rehearsed_marked n first 0 steps clock names

unfoldable pub free_places : ℕ → List (Option (List ℕ))
free_places n = replicate n none

-- letters a to e
unfoldable pub a : List ℕ
a = 97 ∷ []

unfoldable pub b : List ℕ
b = 98 ∷ []

unfoldable pub c : List ℕ
c = 99 ∷ []

unfoldable pub d : List ℕ
d = 100 ∷ []

unfoldable pub e : List ℕ
e = 101 ∷ []

-- Two cells for output 1 come in slot 0 and the 3 leaves. The cue is set then, so it holds the 5 and clock 1. Slots 1
-- and 2 are played: the 5 leaves, then none. After the return slot 1 sends the 5 again, though now a 9 comes with it;
-- after a second return a 1 comes, and goes before the 5. The cue stays.
unfoldable pub comes_back : Bool
comes_back =
    rehearsed 2 0
    (plays (call (arrival 0 1 0 5 10 ∷ arrival 1 1 0 3 11 ∷ []) (sends (none ∷ some (cell 1 1 0 3 11 0) ∷ []) 0 0))
    ∷ set a 0
    ∷ plays (call [] (sends (none ∷ some (cell 0 1 0 5 10 0) ∷ []) 0 0))
    ∷ plays (call [] (sends (none ∷ none ∷ []) 0 0))
    ∷ back a 0
    ∷ plays (call (arrival 1 1 0 9 12 ∷ []) (sends (none ∷ some (cell 0 1 0 5 10 0) ∷ []) 0 0))
    ∷ back a 0
    ∷ plays (call (arrival 1 1 0 1 13 ∷ []) (sends (none ∷ some (cell 1 1 0 1 13 1) ∷ []) 0 0))
    ∷ plays (call [] (sends (none ∷ some (cell 0 1 0 5 10 0) ∷ []) 0 0))
    ∷ [])
    3 (some a ∷ free_places 3)

-- Set again, a cue holds the later switch. A return to another cue goes elsewhere, and a refused call moves nothing.
unfoldable pub set_again : Bool
set_again =
    rehearsed 1 7
    (set a 0
    ∷ plays (call (arrival 0 0 0 5 1 ∷ []) (sends (some (cell 0 0 0 5 1 7) ∷ []) 0 0))
    ∷ set b 0
    ∷ plays (call [] (sends (none ∷ []) 0 0))
    ∷ set a 0
    ∷ plays (call [] (sends (none ∷ []) 0 0))
    ∷ back b 0
    ∷ plays (call (arrival 0 0 0 6 2 ∷ []) (sends (some (cell 0 0 0 6 2 8) ∷ []) 0 0))
    ∷ back c 13
    ∷ back a 0
    ∷ back [] 11
    ∷ [])
    9 (some a ∷ some b ∷ free_places 2)

-- Four are held: a new name is refused with 12, also after a return; a held one is set again, and 11 comes first. A
-- dropped one frees its place, and is not held then.
unfoldable pub four_held : Bool
four_held =
    rehearsed 2 0
    (set a 0 ∷ set b 0 ∷ set c 0 ∷ set d 0 ∷ set e 12 ∷ set b 0 ∷ set [] 11 ∷ back b 0 ∷ set e 12 ∷ drop a 0 ∷ drop a 13
    ∷ back a 13 ∷ set e 0 ∷ set a 12 ∷ drop e 0 ∷ [])
    0 (none ∷ some b ∷ some c ∷ some d ∷ [])

-- A new name takes the lowest free place.
unfoldable pub lowest_free : Bool
lowest_free =
    rehearsed 2 0
    (set a 0 ∷ set b 0 ∷ set c 0 ∷ drop b 0 ∷ drop a 0 ∷ set d 0 ∷ set c 0 ∷ set e 0 ∷ [])
    0 (some d ∷ some e ∷ some c ∷ none ∷ [])

-- 1 to 8 lower-case letters: a and z pass, and the bytes beside them do not, wherever they stand; nor a longer name, one
-- with a zero behind it, or none. 11 comes before 13.
unfoldable pub names : Bool
names =
    rehearsed 2 0
    (set (122 ∷ replicate 7 97) 0 ∷ set (replicate 9 97) 11 ∷ set (96 ∷ []) 11 ∷ set (123 ∷ []) 11 ∷ set (65 ∷ []) 11
    ∷ set (97 ∷ 49 ∷ []) 11 ∷ set (97 ∷ 0 ∷ []) 11 ∷ set (0 ∷ []) 11 ∷ drop [] 11 ∷ back (97 ∷ 32 ∷ []) 11
    ∷ back (replicate 8 97) 13 ∷ drop (122 ∷ []) 13 ∷ drop (122 ∷ replicate 7 97) 0 ∷ set (97 ∷ 98 ∷ []) 0
    ∷ back (97 ∷ []) 13 ∷ back (97 ∷ 98 ∷ []) 0 ∷ [])
    0 (some (97 ∷ 98 ∷ []) ∷ free_places 3)

-- A sound store has four places, well-formed names, no two alike, and sound switches. Here a switch is true if it is sound.
unfoldable pub sound_stores : Bool
sound_stores =
    let free : Option (Cue Bool) = none in
    let held : List ℕ → Bool → Option (Cue Bool) = λ name s. some (record { name = name; switch = s }) in
    let sure : Cues Bool → Bool = sound_cues (λ s. s) in
    sure (free ∷ free ∷ free ∷ free ∷ [])
    && (sure (held a true ∷ free ∷ held b true ∷ held (replicate 8 97) true ∷ [])
    && (not (sure (held a true ∷ free ∷ free ∷ held a true ∷ []))
    && (not (sure (held a true ∷ held b false ∷ free ∷ free ∷ []))
    && (not (sure (held [] true ∷ free ∷ free ∷ free ∷ []))
    && (not (sure (held (replicate 9 97) true ∷ free ∷ free ∷ free ∷ []))
    && (not (sure (held a true ∷ free ∷ free ∷ []))
    && not (sure (held a true ∷ free ∷ free ∷ free ∷ free ∷ []))))))))
