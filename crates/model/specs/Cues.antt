-- Cues: up to four, each with a name of its own, hold the whole switch, clock included. One text for the crossbar and for
-- the PIFO switch, each of which keeps cues of its own by these rules.
use Rattle.std.specs.Prelude.{ℕ, suc, Bool, true, false, cond, not, ◌&&◌, List, [], ◌∷◌, leb, ltb, eqb, length, replicate, set, get_or}
use Rattle.std.proofs.Math.Option.{Option, none, some}
use Rattle.laws.specs.Lists.{all?, pairwise, same_list}
use Rattle.cell.specs.declared.Refusal.TheVariants.{BadName, CuesFull, NoSuchCue}
use Rattle.model.specs.Checks.{Outcome, done, refused}

abbrev pub cue_limit : ℕ
cue_limit = 4

abbrev pub name_limit : ℕ
name_limit = 8

pub record Cue (S : Type 0) : Type 0 where
  pub name : List ℕ
  pub switch : S

-- four places, each free or with a cue
abbrev pub Cues : Type 0 → Type 0
Cues S = List (Option (Cue S))

unfoldable pub no_cues : {S : Type 0} → Cues S
no_cues = replicate cue_limit none

-- a lower-case letter, a to z
unfoldable pub is_letter : ℕ → Bool
is_letter b = leb 97 b && leb b 122

-- a name is 1 to 8 lower-case letters
unfoldable pub well_named : List ℕ → Bool
well_named name = leb 1 (length name) && (leb (length name) name_limit && all? is_letter name)

-- the number of the first that passes; how many there are if none does
unfoldable pub first_place : {A : Type 0} → (A → Bool) → List A → ℕ
first_place p [] = 0
first_place p (x ∷ l) = cond (p x) 0 (suc (first_place p l))

module _ {S : Type 0} where
  unfoldable pub is_free : Option (Cue S) → Bool
  is_free none = true
  is_free (some c) = false

  unfoldable pub is_named : List ℕ → Option (Cue S) → Bool
  is_named name none = false
  is_named name (some c) = same_list eqb name c.name

  -- Setting. 11: the name is not well formed. A name that is held keeps its place, and its cue is replaced; a new name
  -- takes the lowest free place. 12: a new name and four held.
  unfoldable pub set_cue : List ℕ → S → Cues S → Outcome (Cues S)
  set_cue name s cues =
      let new : Option (Cue S) = some (record { name = name; switch = s }) in
      let old = first_place (is_named name) cues in
      let free = first_place is_free cues in
      elim (well_named name) [
        | false ↦ refused BadName 0
        | true ↦
            elim (ltb old (length cues)) [
              | true ↦ done (set cues old new)
              | false ↦ elim (ltb free (length cues)) [ true ↦ done (set cues free new) | false ↦ refused CuesFull 0 ]
            ]
      ]

  -- Dropping frees the place for another. 11, then 13: a name that is not held.
  unfoldable pub drop_cue : List ℕ → Cues S → Outcome (Cues S)
  drop_cue name cues =
      let old = first_place (is_named name) cues in
      elim (well_named name) [
        | false ↦ refused BadName 0
        | true ↦ elim (ltb old (length cues)) [ true ↦ done (set cues old none) | false ↦ refused NoSuchCue 0 ]
      ]

  -- Returning gives the switch that the cue holds; no cue is dropped. 11, then 13.
  unfoldable pub return_to : List ℕ → Cues S → Outcome S
  return_to name cues =
      elim (well_named name) [
        | false ↦ refused BadName 0
        | true ↦ elim (get_or cues (first_place (is_named name) cues) none) [ some c ↦ done c.switch | none ↦ refused NoSuchCue 0 ]
      ]

  -- A cue store is sound if its names are well formed, no two alike, and each holds a sound switch, of any N and clock.
  unfoldable pub sound_cue : (S → Bool) → Option (Cue S) → Bool
  sound_cue sound none = true
  sound_cue sound (some c) = well_named c.name && sound c.switch

  unfoldable pub other_name : Option (Cue S) → Option (Cue S) → Bool
  other_name none q = true
  other_name (some c) q = not (is_named c.name q)

  unfoldable pub sound_cues : (S → Bool) → Cues S → Bool
  sound_cues sound cues = eqb (length cues) cue_limit && (all? (sound_cue sound) cues && pairwise other_name cues)
