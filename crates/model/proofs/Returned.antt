-- Returning to a cue.
--     stays             a return that is not accepted leaves the switch
--     return-keeps      a return drops no cue: the store is as it was
--     cue-holds         a cue that is set holds the switch until its name is set or dropped again
--     slots-alone       until the next return the slots answer as slot calls alone
--     as-if-not-played  after a return they answer as if the slots since the cue had not been played
use Prim.Native.Nat.{ℕ, ◌≤◌, ◌<◌}
use native.Mathlib.Omega.{arith}
use mathlib.Core.Bool.{Bool, true, false, not, ◌||◌}
use mathlib.Core.List.{List, [], ◌∷◌}
use mathlib.Core.Logic.{◌≢◌}
use mathlib.Core.Option.{Option, none}
use mathlib.Core.Path.{◌≡◌, refl, sym, ap, ◌∙◌}
use lib.Dec.{eqb, ltb}
use lib.ListN.{length, get_or, set}
use lib.Seq.{get_or-set_same, get_or-set_other}
use borrow.Author.Tests.{ltb-true, ltb-false, not-true}
use Rattle.laws.specs.Lists.{none?, same_list}
use Rattle.laws.proofs.Lists.{none?-cons, same_list-refl, same_list-turned}
use Rattle.laws.proofs.Tests.{clash, and_l, and_r, or_l, or_r}
use Rattle.cell.specs.declared.Arrival.{Arrival}
use Rattle.cell.specs.declared.Refusal.{Refusal}
use Rattle.model.specs.Checks.{Outcome, done, refused}
use Rattle.model.specs.Cues.{Cue, Cues, well_named, first_place, is_free, is_named, set_cue, drop_cue, return_to}
use Rattle.model.specs.Rehearsal.{Rehearsal, Call, takes, sets, drops, returns, left, is_done, slots_of, moves}
use Rattle.model.specs.Rehearsal.{next, next_all, goes_back, none_goes_back, slot_answers, answers_from}
use Rattle.model.proofs.CueLaws.{cue}
use Rattle.model.proofs.FirstPlace.{first_passes, first-set, first-set-other}

------------------------------------------------------------------------
-- a cue that is held

not_done : {A : Type 0} {r : Refusal} {place : ℕ} {a : A} → refused r place ≡ done a → ⊥
unfolding is_done
not_done e = clash refl (sym (ap is_done e))

module _ {S : Type 0} where
  -- What setting or dropping a name does, if it is accepted: it writes at a place that is free or has the name, and
  -- before which no place has it.
  record Written (name : List ℕ) (new : Option (Cue S)) (cues cues' : Cues S) : Type 0 where
    named : well_named name ≡ true
    at : ℕ
    inside : at < length cues
    early : at ≤ first_place (is_named name) cues
    ours : (is_free (get_or cues at none) || is_named name (get_or cues at none)) ≡ true
    is : set cues at new ≡ cues'

  -- at the place that has the name
  written-old : (name : List ℕ) (new : Option (Cue S)) (cues cues' : Cues S) → well_named name ≡ true
      → first_place (is_named name) cues < length cues → set cues (first_place (is_named name) cues) new ≡ cues'
      → Written name new cues cues'
  written-old name new cues cues' w h e =
      let q = get_or cues (first_place (is_named name) cues) none in
      record {
        named = w;
        at = first_place (is_named name) cues;
        inside = h;
        early = omega arith;
        ours = or_r (is_free q) (is_named name q) (first_passes (is_named name) cues none h);
        is = e;
      }

  -- at a free place, where no place has the name
  written-free : (name : List ℕ) (new : Option (Cue S)) (cues cues' : Cues S) → well_named name ≡ true
      → length cues ≤ first_place (is_named name) cues → first_place is_free cues < length cues
      → set cues (first_place is_free cues) new ≡ cues' → Written name new cues cues'
  written-free name new cues cues' w past h e =
      let q = get_or cues (first_place is_free cues) none in
      record {
        named = w;
        at = first_place is_free cues;
        inside = h;
        early = omega arith;
        ours = or_l (is_free q) (is_named name q) (first_passes is_free cues none h);
        is = e;
      }

  set-written : (name : List ℕ) (s : S) (cues cues' : Cues S) → set_cue name s cues ≡ done cues'
      → Written name (cue name s) cues cues'
  unfolding set_cue left
  set-written name s cues cues' d = go (well_named name) refl (ltb old (length cues)) refl (ltb free (length cues)) refl
    where
      old : ℕ
      old = first_place (is_named name) cues

      free : ℕ
      free = first_place is_free cues

      go : (w : Bool) → well_named name ≡ w → (h : Bool) → ltb old (length cues) ≡ h
          → (f : Bool) → ltb free (length cues) ≡ f → Written name (cue name s) cues cues'
      go false w h h' f f' = absurd (not_done (rw (w, set_cue) at d))
      go true w true h f f' =
          written-old name (cue name s) cues cues' w (ltb-true old (length cues) h)
          (ap (left cues) (rw (w, h, set_cue) at d))
      go true w false h true f =
          written-free name (cue name s) cues cues' w (ltb-false old (length cues) h) (ltb-true free (length cues) f)
          (ap (left cues) (rw (w, h, f, set_cue) at d))
      go true w false h false f = absurd (not_done (rw (w, h, f, set_cue) at d))

  drop-written : (name : List ℕ) (cues cues' : Cues S) → drop_cue name cues ≡ done cues' → Written name none cues cues'
  unfolding drop_cue left
  drop-written name cues cues' d = go (well_named name) refl (ltb old (length cues)) refl
    where
      old : ℕ
      old = first_place (is_named name) cues

      go : (w : Bool) → well_named name ≡ w → (h : Bool) → ltb old (length cues) ≡ h → Written name none cues cues'
      go false w h h' = absurd (not_done (rw (w, drop_cue) at d))
      go true w true h =
          written-old name none cues cues' w (ltb-true old (length cues) h) (ap (left cues) (rw (w, h, drop_cue) at d))
      go true w false h = absurd (not_done (rw (w, h, drop_cue) at d))

  module _ (name : List ℕ) (s : S) where
    -- the first place with the name has the cue
    abbrev Held : Cues S → Type 0
    Held cues = get_or cues (first_place (is_named name) cues) none ≡ cue name s

    -- it is after setting that name, and stays after setting or dropping another
    held-set : (cues cues' : Cues S) → Written name (cue name s) cues cues' → Held cues'
    unfolding is_named
    held-set cues cues' w =
        rw (← w.is, first-set (is_named name) cues w.at (cue name s) (same_list-refl name) w.early w.inside)
        (get_or-set_same cues w.at (cue name s) none w.inside)

    held-other : (other : List ℕ) (new : Option (Cue S)) (cues cues' : Cues S) → same_list eqb name other ≡ false
        → is_named name new ≡ false → Written other new cues cues' → Held cues → Held cues'
    unfolding is_named is_free
    held-other other new cues cues' differ fails w held =
        rw (← w.is, first-set-other (is_named name) cues w.at new fails apart)
        (get_or-set_other cues w.at (first_place (is_named name) cues) new none (λ e. apart (sym e)) ∙ held)
      where
        apart : w.at ≢ first_place (is_named name) cues
        apart e = clash (rw (e, held) at w.ours) (same_list-turned other name ∙ differ)

    held-return : (cues : Cues S) → well_named name ≡ true → Held cues → return_to name cues ≡ done s
    unfolding return_to
    held-return cues w held = rw (w, held, return_to)

------------------------------------------------------------------------
-- calls

-- a refused call leaves what was there
left-old : {A : Type 0} (old : A) (o : Outcome A) → is_done o ≡ false → left old o ≡ old
unfolding left is_done
left-old old (done new) h = absurd (clash refl h)
left-old old (refused r place) h = refl

module _ {S : Type 0} (after : S → Option (List Arrival) → S) where
  -- a return that is not accepted leaves the switch
  pub stays : (x : Rehearsal S) (name : List ℕ) → goes_back after x (returns name) ≡ false
      → (next after x (returns name)).switch ≡ x.switch
  unfolding goes_back next
  stays x name h = left-old x.switch (return_to name x.cues) h

  pub return-keeps : (x : Rehearsal S) (name : List ℕ) → (next after x (returns name)).cues ≡ x.cues
  unfolding next
  return-keeps x name = refl

  held_next : (name : List ℕ) (s : S) (x : Rehearsal S) (call : Call) → moves name call ≡ false → Held name s x.cues
      → Held name s (next after x call).cues
  unfolding next moves left is_named
  held_next name s x (takes arrivals) h held = held
  held_next name s x (sets other) h held = go (set_cue other x.switch x.cues) refl
    where
      go : (o : Outcome (Cues S)) → set_cue other x.switch x.cues ≡ o → Held name s (left x.cues o)
      go (done cues) e =
          held-other name s other (cue other x.switch) x.cues cues h h
          (set-written other x.switch x.cues cues e) held
      go (refused r place) e = held
  held_next name s x (drops other) h held = go (drop_cue other x.cues) refl
    where
      go : (o : Outcome (Cues S)) → drop_cue other x.cues ≡ o → Held name s (left x.cues o)
      go (done cues) e = held-other name s other none x.cues cues h refl (drop-written other x.cues cues e) held
      go (refused r place) e = held
  held_next name s x (returns other) h held = held

  held_all : (name : List ℕ) (s : S) (x : Rehearsal S) (mid : List Call) → none? (moves name) mid ≡ true
      → Held name s x.cues → Held name s (next_all after x mid).cues
  unfolding next_all
  held_all name s x [] h held = held
  held_all name s x (call ∷ mid) h held =
      let both = rw (none?-cons (moves name) call mid) at h in
      let first = not-true (moves name call) (and_l (not (moves name call)) (none? (moves name) mid) both) in
      held_all name s (next after x call) mid (and_r (not (moves name call)) (none? (moves name) mid) both)
      (held_next name s x call first held)

  -- after an accepted setting the cue holds the switch, whatever is called but setting or dropping that name
  pub cue-holds : (x : Rehearsal S) (name : List ℕ) (cues : Cues S) (mid : List Call)
      → set_cue name x.switch x.cues ≡ done cues → none? (moves name) mid ≡ true
      → return_to name (next_all after (next after x (sets name)) mid).cues ≡ done x.switch
  unfolding next left
  cue-holds x name cues mid d h =
      let w = set-written name x.switch x.cues cues d in
      held-return name x.switch (next_all after (next after x (sets name)) mid).cues w.named
      (held_all name x.switch (next after x (sets name)) mid h
      (rw d (held-set name x.switch x.cues cues w)))

  module _ {A : Type 0} (answer : S → Option (List Arrival) → A) where
    -- until the next return the slots answer as slot calls alone, whatever cues are set or dropped between them
    pub slots-alone : (x : Rehearsal S) (later : List Call) → none_goes_back after x later ≡ true
        → slot_answers after answer x later ≡ answers_from after answer x.switch (slots_of later)
    unfolding none_goes_back goes_back next slot_answers answers_from slots_of
    slots-alone x [] h = refl
    slots-alone x (takes arrivals ∷ later) h =
        ap (λ l. answer x.switch arrivals ∷ l) (slots-alone (next after x (takes arrivals)) later h)
    slots-alone x (sets name ∷ later) h = slots-alone (next after x (sets name)) later h
    slots-alone x (drops name ∷ later) h = slots-alone (next after x (drops name)) later h
    slots-alone x (returns name ∷ later) h =
        let back = goes_back after x (returns name) in
        let rest = none_goes_back after (next after x (returns name)) later in
        slots-alone (next after x (returns name)) later (and_r (not back) rest h)
        ∙ ap (λ s. answers_from after answer s (slots_of later)) (stays x name (not-true back (and_l (not back) rest h)))

    -- after a return every slot until the next return answers as if the slots since the cue had not been played
    pub as-if-not-played : (x : Rehearsal S) (name : List ℕ) (cues : Cues S) (mid later : List Call)
        → set_cue name x.switch x.cues ≡ done cues → none? (moves name) mid ≡ true
        → (let back = next after (next_all after (next after x (sets name)) mid) (returns name) in
        none_goes_back after back later ≡ true
        → slot_answers after answer back later ≡ answers_from after answer x.switch (slots_of later))
    unfolding next left
    as-if-not-played x name cues mid later d h quiet =
        let before = next_all after (next after x (sets name)) mid in
        slots-alone (next after before (returns name)) later quiet
        ∙ ap (λ o. answers_from after answer (left before.switch o) (slots_of later)) (cue-holds x name cues mid d h)
