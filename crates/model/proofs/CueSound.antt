-- A sound cue store stays sound, and a cue of it holds a sound switch.
--     set-sound, drop-sound, return-sound    what a cue call gives is sound
--     all_sound                              so a rehearsal stays sound by a list of calls
--     no-cues-sound                          a store with no cue held is sound
use Prim.Native.Nat.{ℕ, ◌<◌}
use mathlib.Core.Bool.{Bool, true, false, not, ◌&&◌, false≢true}
use mathlib.Core.List.{List, [], ◌∷◌, Memᴰ}
use mathlib.Core.Option.{Option, none, some}
use mathlib.Core.Path.{◌≡◌, refl, sym, ◌∙◌, ap}
use lib.Dec.{eqb}
use lib.ListN.{length, set, get_or, length-set}
use borrow.Author.Tests.{ltb-true, ltb-false}
use Rattle.laws.specs.Lists.{all?, pairwise, same_list}
use Rattle.laws.proofs.Lists.{all?-cons, none?-e, all?-set, all?-at, same_list-exact, same_list-turned}
use Rattle.laws.proofs.Pairwise.{pairwise-set}
use Rattle.laws.proofs.Tests.{and_i, and_l, and_r, not-i}
use Rattle.cell.specs.declared.Arrival.{Arrival}
use Rattle.model.specs.Checks.{Outcome, done, refused}
use Rattle.model.specs.Cues.{cue_limit, Cue, Cues, no_cues, well_named, first_place, is_free, is_named, set_cue, drop_cue}
use Rattle.model.specs.Cues.{return_to, sound_cue, other_name, sound_cues}
use Rattle.model.specs.Rehearsal.{Rehearsal, Call, takes, sets, drops, returns, left, next, next_all}
use Rattle.model.proofs.FirstPlace.{first_passes, first-none}
use Rattle.model.proofs.CueLaws.{held, roomy, cue, set-bad, set-held, set_new}
use Rattle.model.proofs.CueLaws.{set_full, drop-bad, drop-held, drop-new, return-bad, return_held, return_new}

------------------------------------------------------------------------
-- names

module _ {S : Type 0} (name : List ℕ) (s : S) where
  -- a cue of a name is apart from what one of the same name is apart from
  other-held : (o y : Option (Cue S)) → is_named name o ≡ true → other_name o y ≡ other_name (cue name s) y
  unfolding is_named other_name
  other-held none y h = absurd (false≢true h)
  other-held (some c) y h = ap (λ n. not (is_named n y)) (sym (same_list-exact name c.name h))

  held-other : (o y : Option (Cue S)) → is_named name o ≡ true → other_name y o ≡ other_name y (cue name s)
  unfolding is_named other_name
  held-other none y h = absurd (false≢true h)
  held-other (some c) none h = refl
  held-other (some c) (some d) h = ap (λ n. not (same_list eqb d.name n)) (sym (same_list-exact name c.name h))

  -- and from what has not that name
  new-other : (y : Option (Cue S)) → is_named name y ≡ false → other_name y (cue name s) ≡ true
  unfolding is_named other_name
  new-other none h = refl
  new-other (some d) h = not-i (same_list eqb d.name name) (same_list-turned d.name name ∙ h)

free_other : {S : Type 0} (y : Option (Cue S)) → other_name y none ≡ true
unfolding is_named other_name
free_other none = refl
free_other (some c) = refl

------------------------------------------------------------------------
-- what a call gives

-- it passes, where the call is done
abbrev Gives : {A : Type 0} → (A → Bool) → Outcome A → Type 0
Gives p (done a) = p a ≡ true
Gives p (refused r place) = Unit {0}

gives_left : {A : Type 0} (p : A → Bool) (a : A) (o : Outcome A) → p a ≡ true → Gives p o → p (left a o) ≡ true
unfolding left
gives_left p a (done b) h g = g
gives_left p a (refused r place) h g = h

module _ {S : Type 0} (sound : S → Bool) where
  sound-each : (cues : Cues S) → sound_cues sound cues ≡ true → all? (sound_cue sound) cues ≡ true
  unfolding sound_cues
  sound-each cues h =
      let each = all? (sound_cue sound) cues in
      let apart = pairwise other_name cues in
      and_l each apart (and_r (eqb (length cues) cue_limit) (each && apart) h)

  put-sound : (cues : Cues S) (k : ℕ) (c : Option (Cue S)) → k < length cues → sound_cues sound cues ≡ true
      → sound_cue sound c ≡ true
      → ((y : Option (Cue S)) → Memᴰ y cues → other_name (get_or cues k none) y ≡ true → other_name c y ≡ true)
      → ((y : Option (Cue S)) → Memᴰ y cues → other_name y (get_or cues k none) ≡ true → other_name y c ≡ true)
      → sound_cues sound (set cues k c) ≡ true
  unfolding sound_cues
  put-sound cues k c b h e f g =
      let size = eqb (length cues) cue_limit in
      let each = all? (sound_cue sound) cues in
      let apart = pairwise other_name cues in
      let cs = set cues k c in
      and_i (eqb (length cs) cue_limit) (all? (sound_cue sound) cs && pairwise other_name cs)
      (rw (length-set cues k c) (and_l size (each && apart) h))
      (and_i (all? (sound_cue sound) cs) (pairwise other_name cs)
      (all?-set (sound_cue sound) cues k c (sound-each cues h) e)
      (pairwise-set other_name cues k none c b (and_r each apart (and_r size (each && apart) h)) f g))

  module _ (name : List ℕ) (cues : Cues S) (h : sound_cues sound cues ≡ true) where
    set_gives : (s : S) → sound s ≡ true → Gives (sound_cues sound) (set_cue name s cues)
    unfolding sound_cue other_name
    set_gives s e = go (well_named name) refl (held name cues) refl (roomy cues) refl
      where
        k : ℕ
        k = first_place (is_named name) cues

        go : (w : Bool) → well_named name ≡ w → (o : Bool) → held name cues ≡ o → (f : Bool) → roomy cues ≡ f
            → Gives (sound_cues sound) (set_cue name s cues)
        go false w o eo f ef = rw (set-bad name cues s w) tt
        go true w true eo f ef =
            let b = ltb-true k (length cues) eo in
            let is = first_passes (is_named name) cues none b in
            rw (set-held name cues s w eo)
            (put-sound cues k (cue name s) b h (and_i (well_named name) (sound s) w e)
            (λ y m t. sym (other-held name s (get_or cues k none) y is) ∙ t)
            (λ y m t. sym (held-other name s (get_or cues k none) y is) ∙ t))
        go true w false eo true ef =
            let others = first-none (is_named name) cues (ltb-false k (length cues) eo) in
            rw (set_new name cues s w eo ef)
            (put-sound cues (first_place is_free cues) (cue name s) (ltb-true (first_place is_free cues) (length cues) ef) h
            (and_i (well_named name) (sound s) w e)
            (λ y m t. not-i (is_named name y) (none?-e (is_named name) others m))
            (λ y m t. new-other name s y (none?-e (is_named name) others m)))
        go true w false eo false ef = rw (set_full name cues s w eo ef) tt

    drop-gives : Gives (sound_cues sound) (drop_cue name cues)
    unfolding sound_cue other_name
    drop-gives = go (well_named name) refl (held name cues) refl
      where
        go : (w : Bool) → well_named name ≡ w → (o : Bool) → held name cues ≡ o
            → Gives (sound_cues sound) (drop_cue name cues)
        go false w o eo = rw (drop-bad name cues w) tt
        go true w true eo =
            rw (drop-held name cues w eo)
            (put-sound cues (first_place (is_named name) cues) none
            (ltb-true (first_place (is_named name) cues) (length cues) eo) h refl (λ y m t. refl) (λ y m t. free_other y))
        go true w false eo = rw (drop-new name cues w eo) tt

    return-gives : Gives sound (return_to name cues)
    unfolding sound_cue
    return-gives = go (well_named name) refl (get_or cues (first_place (is_named name) cues) none) refl
      where
        go : (w : Bool) → well_named name ≡ w
            → (o : Option (Cue S)) → get_or cues (first_place (is_named name) cues) none ≡ o
            → Gives sound (return_to name cues)
        go false w o eo = rw (return-bad name cues w) tt
        go true w none eo = rw (return_new name cues w eo) tt
        go true w (some c) eo =
            rw (return_held name cues c w eo)
            (and_r (well_named c.name) (sound c.switch)
            (rw eo at (all?-at (sound_cue sound) cues (first_place (is_named name) cues) none (sound-each cues h) refl)))

  pub set-sound : (name : List ℕ) (s : S) (cues cues' : Cues S) → sound_cues sound cues ≡ true → sound s ≡ true
      → set_cue name s cues ≡ done cues' → sound_cues sound cues' ≡ true
  set-sound name s cues cues' h e d = rw d at (set_gives name cues h s e)

  pub drop-sound : (name : List ℕ) (cues cues' : Cues S) → sound_cues sound cues ≡ true
      → drop_cue name cues ≡ done cues' → sound_cues sound cues' ≡ true
  drop-sound name cues cues' h d = rw d at (drop-gives name cues h)

  pub return-sound : (name : List ℕ) (cues : Cues S) (s : S) → sound_cues sound cues ≡ true
      → return_to name cues ≡ done s → sound s ≡ true
  return-sound name cues s h d = rw d at (return-gives name cues h)

  pub no-cues-sound : sound_cues sound no_cues ≡ true
  unfolding sound_cues no_cues all? pairwise sound_cue other_name
  no-cues-sound = refl

------------------------------------------------------------------------
-- a rehearsal

-- the switch is sound, and so is the cue store
abbrev pub SoundBoth : {S : Type 0} → (S → Bool) → Rehearsal S → Type 0
SoundBoth sound x = (sound x.switch ≡ true) × (sound_cues sound x.cues ≡ true)

-- Where a slot call that passes a test keeps a switch sound, so do the calls that pass it.
module _ {S : Type 0} (sound : S → Bool) (ok : Call → Bool) (after : S → Option (List Arrival) → S)
    (step : (s : S) (a : Option (List Arrival)) → ok (takes a) ≡ true → sound s ≡ true
    → sound (after s a) ≡ true) where
  next-sound : (x : Rehearsal S) (call : Call) → ok call ≡ true → SoundBoth sound x
      → SoundBoth sound (next after x call)
  unfolding next
  next-sound x (takes a) h b = (step x.switch a h b.0, b.1)
  next-sound x (sets name) h b = (
    b.0,
    gives_left (sound_cues sound) x.cues (set_cue name x.switch x.cues) b.1
        (set_gives sound name x.cues b.1 x.switch b.0),
  )
  next-sound x (drops name) h b = (
    b.0,
    gives_left (sound_cues sound) x.cues (drop_cue name x.cues) b.1
        (drop-gives sound name x.cues b.1),
  )
  next-sound x (returns name) h b =
      (gives_left sound x.switch (return_to name x.cues) b.0 (return-gives sound name x.cues b.1), b.1)

  pub all_sound : (x : Rehearsal S) (calls : List Call) → all? ok calls ≡ true → SoundBoth sound x
      → SoundBoth sound (next_all after x calls)
  unfolding next_all
  all_sound x [] h b = b
  all_sound x (call ∷ calls) h b =
      let both = rw (all?-cons ok call calls) at h in
      all_sound (next after x call) calls (and_r (ok call) (all? ok calls) both)
      (next-sound x call (and_l (ok call) (all? ok calls) both) b)
