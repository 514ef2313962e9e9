-- Cue calls, and two rehearsals side by side. Where their cue stores agree, a cue call is refused by both, alike, or by
-- neither, and what it leaves agrees.
--     set-, drop-, return-bad, -held, -new, -full    what a cue call comes to, by its tests
--     agree-named, agree-free, agree-length          stores that agree have their names and their free places alike
--     agree-none, agree-map         where no cue is held; by another relation
--     set-, drop-, return-refusal   they refuse a cue call alike
--     set-, drop-, return-agree     and agree after it
--     both-begun, agree-next, agree-all              two rehearsals agree at first, after a call and after a list
use Prim.Native.Nat.{ℕ, zero, suc}
use mathlib.Core.Bool.{Bool, true, false, cond}
use mathlib.Core.List.{List, [], ◌∷◌}
use mathlib.Core.Option.{Option, none, some}
use mathlib.Core.Path.{◌≡◌, refl, sym, ◌∙◌, ap, ap₂}
use lib.Dec.{ltb, eqb}
use lib.ListN.{length, set, get_or}
use Rattle.laws.specs.Lists.{all?, same_list}
use Rattle.laws.proofs.Lists.{all?-cons}
use Rattle.laws.proofs.Tests.{and_l, and_r}
use Rattle.cell.specs.declared.Arrival.{Arrival}
use Rattle.cell.specs.declared.Refusal.{Refusal}
use Rattle.cell.specs.declared.Refusal.TheVariants.{BadName, CuesFull, NoSuchCue}
use Rattle.model.specs.Checks.{Outcome, done, refused, refusal}
use Rattle.model.specs.Cues.{Cue, Cues, no_cues, well_named, first_place, is_free, is_named, set_cue, drop_cue, return_to}
use Rattle.model.specs.Emulation.{AgreeAt, Agree}
use Rattle.model.specs.Rehearsal.{Rehearsal, begun, Call, takes, sets, drops, returns, left, next, next_all}

------------------------------------------------------------------------
-- what a cue call comes to

-- some cue has this name; some place is free
abbrev pub held : {S : Type 0} → List ℕ → Cues S → Bool
held name cues = ltb (first_place (is_named name) cues) (length cues)

abbrev pub roomy : {S : Type 0} → Cues S → Bool
roomy cues = ltb (first_place is_free cues) (length cues)

abbrev pub cue : {S : Type 0} → List ℕ → S → Option (Cue S)
cue name s = some (record { name = name; switch = s })

module _ {S : Type 0} (name : List ℕ) (cues : Cues S) where
  pub set-bad : (s : S) → well_named name ≡ false → set_cue name s cues ≡ refused BadName 0
  unfolding set_cue
  set-bad s w = rw (w, set_cue)

  pub set-held : (s : S) → well_named name ≡ true → held name cues ≡ true
      → set_cue name s cues ≡ done (set cues (first_place (is_named name) cues) (cue name s))
  unfolding set_cue
  set-held s w h = rw (w, h, set_cue)

  pub set_new : (s : S) → well_named name ≡ true → held name cues ≡ false → roomy cues ≡ true
      → set_cue name s cues ≡ done (set cues (first_place is_free cues) (cue name s))
  unfolding set_cue
  set_new s w h f = rw (w, h, f, set_cue)

  pub set_full : (s : S) → well_named name ≡ true → held name cues ≡ false → roomy cues ≡ false
      → set_cue name s cues ≡ refused CuesFull 0
  unfolding set_cue
  set_full s w h f = rw (w, h, f, set_cue)

  pub drop-bad : well_named name ≡ false → drop_cue name cues ≡ refused BadName 0
  unfolding drop_cue
  drop-bad w = rw (w, drop_cue)

  pub drop-held : well_named name ≡ true → held name cues ≡ true
      → drop_cue name cues ≡ done (set cues (first_place (is_named name) cues) none)
  unfolding drop_cue
  drop-held w h = rw (w, h, drop_cue)

  pub drop-new : well_named name ≡ true → held name cues ≡ false → drop_cue name cues ≡ refused NoSuchCue 0
  unfolding drop_cue
  drop-new w h = rw (w, h, drop_cue)

  pub return-bad : well_named name ≡ false → return_to name cues ≡ refused BadName 0
  unfolding return_to
  return-bad w = rw (w, return_to)

  pub return_held : (c : Cue S) → well_named name ≡ true
      → get_or cues (first_place (is_named name) cues) none ≡ some c → return_to name cues ≡ done c.switch
  unfolding return_to
  return_held c w h = rw (w, h, return_to)

  pub return_new : well_named name ≡ true → get_or cues (first_place (is_named name) cues) none ≡ none
      → return_to name cues ≡ refused NoSuchCue 0
  unfolding return_to
  return_new w h = rw (w, h, return_to)

------------------------------------------------------------------------
-- two stores that agree

module _ {S Q : Type 0} (R : S → Q → Type 0) where
  -- tests that pass alike have their first places alike
  agree-place : (p : Option (Cue S) → Bool) (p' : Option (Cue Q) → Bool)
      → ((c : Option (Cue S)) (d : Option (Cue Q)) → AgreeAt R c d → p c ≡ p' d)
      → (cs : Cues S) (ds : Cues Q) → Agree R cs ds → first_place p cs ≡ first_place p' ds
  unfolding first_place
  agree-place p p' same [] [] h = refl
  agree-place p p' same [] (d ∷ ds) h = absurd h
  agree-place p p' same (c ∷ cs) [] h = absurd h
  agree-place p p' same (c ∷ cs) (d ∷ ds) h =
      ap₂ (λ b n. cond b 0 (suc n)) (same c d h.0) (agree-place p p' same cs ds h.1)

  pub agree-named : (name : List ℕ) (cs : Cues S) (ds : Cues Q) → Agree R cs ds
      → first_place (is_named name) cs ≡ first_place (is_named name) ds
  unfolding is_named
  agree-named name = agree-place (is_named name) (is_named name) go
    where
      go : (c : Option (Cue S)) (d : Option (Cue Q)) → AgreeAt R c d → is_named name c ≡ is_named name d
      go none none h = refl
      go none (some d) h = absurd h
      go (some c) none h = absurd h
      go (some c) (some d) h = ap (same_list eqb name) h.0

  pub agree-free : (cs : Cues S) (ds : Cues Q) → Agree R cs ds → first_place is_free cs ≡ first_place is_free ds
  unfolding is_free
  agree-free = agree-place is_free is_free go
    where
      go : (c : Option (Cue S)) (d : Option (Cue Q)) → AgreeAt R c d → is_free c ≡ is_free d
      go none none h = refl
      go none (some d) h = absurd h
      go (some c) none h = absurd h
      go (some c) (some d) h = refl

  pub agree-length : (cs : Cues S) (ds : Cues Q) → Agree R cs ds → length cs ≡ length ds
  agree-length [] [] h = refl
  agree-length [] (d ∷ ds) h = absurd h
  agree-length (c ∷ cs) [] h = absurd h
  agree-length (c ∷ cs) (d ∷ ds) h = ap suc (agree-length cs ds h.1)

  agree_at : (cs : Cues S) (ds : Cues Q) (k : ℕ) → Agree R cs ds → AgreeAt R (get_or cs k none) (get_or ds k none)
  agree_at [] [] k h = tt
  agree_at [] (d ∷ ds) k h = absurd h
  agree_at (c ∷ cs) [] k h = absurd h
  agree_at (c ∷ cs) (d ∷ ds) zero h = h.0
  agree_at (c ∷ cs) (d ∷ ds) (suc k) h = agree_at cs ds k h.1

  agree-put : (cs : Cues S) (ds : Cues Q) (k : ℕ) (c : Option (Cue S)) (d : Option (Cue Q)) → AgreeAt R c d
      → Agree R cs ds → Agree R (set cs k c) (set ds k d)
  agree-put [] [] k c d e h = tt
  agree-put [] (y ∷ ds) k c d e h = absurd h
  agree-put (x ∷ cs) [] k c d e h = absurd h
  agree-put (x ∷ cs) (y ∷ ds) zero c d e h = (e, h.1)
  agree-put (x ∷ cs) (y ∷ ds) (suc k) c d e h = (h.0, agree-put cs ds k c d e h.1)

  pub agree-none : Agree R no_cues no_cues
  unfolding no_cues
  agree-none = (tt, (tt, (tt, (tt, tt))))

pub agree-map : {S Q : Type 0} (R R' : S → Q → Type 0) → ((s : S) (q : Q) → R s q → R' s q)
    → (cs : Cues S) (ds : Cues Q) → Agree R cs ds → Agree R' cs ds
agree-map R R' f [] [] h = tt
agree-map R R' f [] (d ∷ ds) h = absurd h
agree-map R R' f (c ∷ cs) [] h = absurd h
agree-map {S} {Q} R R' f (c ∷ cs) (d ∷ ds) h = (go c d h.0, agree-map R R' f cs ds h.1)
  where
    go : (c : Option (Cue S)) (d : Option (Cue Q)) → AgreeAt R c d → AgreeAt R' c d
    go none none e = tt
    go none (some d) e = absurd e
    go (some c) none e = absurd e
    go (some c) (some d) e = (e.0, f c.switch d.switch e.1)

------------------------------------------------------------------------
-- two outcomes that agree

data Paired {A B : Type 0} (T : A → B → Type 0) : Outcome A → Outcome B → Type 0 where
  both-done : {a : A} {b : B} → T a b → Paired T (done a) (done b)
  both-refused : (r : Refusal) (place : ℕ) → Paired T (refused r place) (refused r place)

module _ {A B : Type 0} {T : A → B → Type 0} where
  paired-refusal : {o : Outcome A} {o' : Outcome B} → Paired T o o' → refusal o ≡ refusal o'
  unfolding refusal
  paired-refusal (both-done t) = refl
  paired-refusal (both-refused r place) = refl

  paired-left : (a : A) (b : B) {o : Outcome A} {o' : Outcome B} → T a b → Paired T o o' → T (left a o) (left b o')
  unfolding left
  paired-left a b h (both-done t) = t
  paired-left a b h (both-refused r place) = h

module _ {S Q : Type 0} (R : S → Q → Type 0) (name : List ℕ) (cs : Cues S) (ds : Cues Q) (agree : Agree R cs ds) where
  same-held : held name cs ≡ held name ds
  same-held = ap₂ ltb (agree-named R name cs ds agree) (agree-length R cs ds agree)

  same-roomy : roomy cs ≡ roomy ds
  same-roomy = ap₂ ltb (agree-free R cs ds agree) (agree-length R cs ds agree)

  set-paired : (s : S) (q : Q) → R s q → Paired (Agree R) (set_cue name s cs) (set_cue name q ds)
  set-paired s q r = go (well_named name) refl (held name cs) refl (roomy cs) refl
    where
      put : (k k' : ℕ) → k ≡ k' → Agree R (set cs k (cue name s)) (set ds k' (cue name q))
      put k k' e = rw (← e) (agree-put R cs ds k (cue name s) (cue name q) (refl, r) agree)

      go : (w : Bool) → well_named name ≡ w → (h : Bool) → held name cs ≡ h → (f : Bool) → roomy cs ≡ f
          → Paired (Agree R) (set_cue name s cs) (set_cue name q ds)
      go false w h eh f ef = rw (set-bad name cs s w, set-bad name ds q w) (both-refused BadName 0)
      go true w true eh f ef =
          rw (set-held name cs s w eh, set-held name ds q w (sym same-held ∙ eh))
          (both-done (put _ _ (agree-named R name cs ds agree)))
      go true w false eh true ef =
          rw (set_new name cs s w eh ef, set_new name ds q w (sym same-held ∙ eh) (sym same-roomy ∙ ef))
          (both-done (put _ _ (agree-free R cs ds agree)))
      go true w false eh false ef =
          rw (set_full name cs s w eh ef, set_full name ds q w (sym same-held ∙ eh) (sym same-roomy ∙ ef))
          (both-refused CuesFull 0)

  drop-paired : Paired (Agree R) (drop_cue name cs) (drop_cue name ds)
  drop-paired = go (well_named name) refl (held name cs) refl
    where
      put : (k k' : ℕ) → k ≡ k' → Agree R (set cs k none) (set ds k' none)
      put k k' e = rw (← e) (agree-put R cs ds k none none tt agree)

      go : (w : Bool) → well_named name ≡ w → (h : Bool) → held name cs ≡ h
          → Paired (Agree R) (drop_cue name cs) (drop_cue name ds)
      go false w h eh = rw (drop-bad name cs w, drop-bad name ds w) (both-refused BadName 0)
      go true w true eh =
          rw (drop-held name cs w eh, drop-held name ds w (sym same-held ∙ eh))
          (both-done (put _ _ (agree-named R name cs ds agree)))
      go true w false eh =
          rw (drop-new name cs w eh, drop-new name ds w (sym same-held ∙ eh)) (both-refused NoSuchCue 0)

  return-paired : Paired R (return_to name cs) (return_to name ds)
  return-paired =
      go (well_named name) refl (get_or cs (first_place (is_named name) cs) none) refl
      (get_or ds (first_place (is_named name) ds) none) refl
      (rw (← agree-named R name cs ds agree) (agree_at R cs ds (first_place (is_named name) cs) agree))
    where
      go : (w : Bool) → well_named name ≡ w
          → (c : Option (Cue S)) → get_or cs (first_place (is_named name) cs) none ≡ c
          → (d : Option (Cue Q)) → get_or ds (first_place (is_named name) ds) none ≡ d
          → AgreeAt R c d → Paired R (return_to name cs) (return_to name ds)
      go false w c ec d ed h = rw (return-bad name cs w, return-bad name ds w) (both-refused BadName 0)
      go true w none ec none ed h = rw (return_new name cs w ec, return_new name ds w ed) (both-refused NoSuchCue 0)
      go true w none ec (some d) ed h = absurd h
      go true w (some c) ec none ed h = absurd h
      go true w (some c) ec (some d) ed h =
          rw (return_held name cs c w ec, return_held name ds d w ed) (both-done h.1)

  pub drop-refusal : refusal (drop_cue name cs) ≡ refusal (drop_cue name ds)
  drop-refusal = paired-refusal drop-paired

  pub return-refusal : refusal (return_to name cs) ≡ refusal (return_to name ds)
  return-refusal = paired-refusal return-paired

  pub set-agree : (s : S) (q : Q) → R s q → Agree R (left cs (set_cue name s cs)) (left ds (set_cue name q ds))
  set-agree s q r = paired-left cs ds agree (set-paired s q r)

  pub drop-agree : Agree R (left cs (drop_cue name cs)) (left ds (drop_cue name ds))
  drop-agree = paired-left cs ds agree drop-paired

  pub return-agree : (s : S) (q : Q) → R s q → R (left s (return_to name cs)) (left q (return_to name ds))
  return-agree s q r = paired-left s q r return-paired

-- whatever switches are set
pub set-refusal : {S Q : Type 0} (R : S → Q → Type 0) (name : List ℕ) (cs : Cues S) (ds : Cues Q) → Agree R cs ds
    → (s : S) (q : Q) → refusal (set_cue name s cs) ≡ refusal (set_cue name q ds)
set-refusal {S} {Q} R name cs ds agree s q =
    paired-refusal (set-paired Any name cs ds (agree-map R Any (λ s q r. tt) cs ds agree) s q tt)
  where
    Any : S → Q → Type 0
    Any s q = Unit {0}

------------------------------------------------------------------------
-- two rehearsals that agree

pub record Both {S Q : Type 0} (R : S → Q → Type 0) (x : Rehearsal S) (y : Rehearsal Q) : Type 0 where
  pub switches : R x.switch y.switch
  pub cues : Agree R x.cues y.cues

pub both-begun : {S Q : Type 0} (R : S → Q → Type 0) (s : S) (q : Q) → R s q → Both R (begun s) (begun q)
unfolding begun
both-begun R s q r = record { switches = r; cues = agree-none R }

-- Where a slot call that passes a test keeps the relation, so do the calls that pass it.
module _ {S Q : Type 0} (R : S → Q → Type 0) (ok : Call → Bool)
    (after : S → Option (List Arrival) → S) (after' : Q → Option (List Arrival) → Q)
    (step : (s : S) (q : Q) (a : Option (List Arrival)) → ok (takes a) ≡ true → R s q
    → R (after s a) (after' q a)) where
  pub agree-next : (x : Rehearsal S) (y : Rehearsal Q) (call : Call) → ok call ≡ true → Both R x y
      → Both R (next after x call) (next after' y call)
  unfolding next
  agree-next x y (takes a) h b =
      record { switches = step x.switch y.switch a h b.switches; cues = b.cues }
  agree-next x y (sets name) h b =
      record {
        switches = b.switches;
        cues = set-agree R name x.cues y.cues b.cues x.switch y.switch b.switches;
      }
  agree-next x y (drops name) h b =
      record { switches = b.switches; cues = drop-agree R name x.cues y.cues b.cues }
  agree-next x y (returns name) h b =
      record {
        switches = return-agree R name x.cues y.cues b.cues x.switch y.switch b.switches;
        cues = b.cues;
      }

  pub agree-all : (x : Rehearsal S) (y : Rehearsal Q) (calls : List Call) → all? ok calls ≡ true → Both R x y
      → Both R (next_all after x calls) (next_all after' y calls)
  unfolding next_all
  agree-all x y [] h b = b
  agree-all x y (call ∷ calls) h b =
      let both = rw (all?-cons ok call calls) at h in
      agree-all (next after x call) (next after' y call) calls (and_r (ok call) (all? ok calls) both)
      (agree-next x y call (and_l (ok call) (all? ok calls) both) b)
