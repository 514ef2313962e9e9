-- Laws of first_place, the number of the first of a list that passes.
--     first-pass, first-fail       its clauses
--     first_passes, first-most, first-none    what stands there; it is within the list, or no one passes
--     first-before                 it is not behind one that passes
--     first-set, first-set-other   in a list with another element at a place
--     first-ext, first-map         another test that the members answer alike; a list under map
use Prim.Native.Nat.{ℕ, zero, suc, ◌≤◌, ◌<◌}
use native.Mathlib.Omega.{arith}
use mathlib.Core.Bool.{Bool, true, false, cond, not, ◌&&◌}
use mathlib.Core.List.{List, [], ◌∷◌, map, Memᴰ}
use mathlib.Core.Logic.{◌≢◌}
use mathlib.Core.Path.{◌≡◌, refl, ap, ap₂}
use lib.ListN.{length, get_or, set}
use Rattle.laws.specs.Lists.{none?}
use Rattle.laws.proofs.Tests.{and_i, not-i}
use Rattle.model.specs.Cues.{first_place}

module _ {A : Type 0} (p : A → Bool) where
  pub first-pass : (x : A) (l : List A) → p x ≡ true → first_place p (x ∷ l) ≡ 0
  unfolding first_place
  first-pass x l h = rw h

  pub first-fail : (x : A) (l : List A) → p x ≡ false → first_place p (x ∷ l) ≡ suc (first_place p l)
  unfolding first_place
  first-fail x l h = rw h

  pub first_passes : (l : List A) (d : A) → first_place p l < length l → p (get_or l (first_place p l) d) ≡ true
  unfolding first_place
  first_passes [] d h = absurd (omega arith)
  first_passes (x ∷ l) d h = go (p x) refl h (first_passes l d)
    where
      go : (b : Bool) → p x ≡ b → cond b 0 (suc (first_place p l)) < suc (length l)
          → (first_place p l < length l → p (get_or l (first_place p l) d) ≡ true)
          → p (get_or (x ∷ l) (cond b 0 (suc (first_place p l))) d) ≡ true
      go true e k rec = e
      go false e k rec = rec (omega arith)

  pub first-most : (l : List A) → first_place p l ≤ length l
  unfolding first_place
  first-most [] = omega arith
  first-most (x ∷ l) = go (p x) (first-most l)
    where
      go : (b : Bool) → first_place p l ≤ length l → cond b 0 (suc (first_place p l)) ≤ suc (length l)
      go true h = omega arith
      go false h = omega arith

  -- where it is past the end, none passes
  pub first-none : (l : List A) → length l ≤ first_place p l → none? p l ≡ true
  unfolding first_place none?
  first-none [] h = refl
  first-none (x ∷ l) h = go (p x) refl h (first-none l)
    where
      go : (b : Bool) → p x ≡ b → suc (length l) ≤ cond b 0 (suc (first_place p l))
          → (length l ≤ first_place p l → none? p l ≡ true) → (not (p x) && none? p l) ≡ true
      go true e k rec = absurd (omega arith)
      go false e k rec = and_i (not (p x)) (none? p l) (not-i (p x) e) (rec (omega arith))

  -- one that passes, written at or before the first place, is the first
  pub first-set : (l : List A) (i : ℕ) (x : A) → p x ≡ true → i ≤ first_place p l → i < length l
      → first_place p (set l i x) ≡ i
  unfolding first_place
  first-set [] i x px h k = absurd (let z : ⊥ = omega arith in z)
  first-set (y ∷ l) zero x px h k = rw px
  first-set (y ∷ l) (suc i) x px h k = go (p y) refl h (first-set l i x px)
    where
      go : (b : Bool) → p y ≡ b → suc i ≤ cond b 0 (suc (first_place p l))
          → (i ≤ first_place p l → i < length l → first_place p (set l i x) ≡ i)
          → cond (p y) 0 (suc (first_place p (set l i x))) ≡ suc i
      go true e h later = absurd (let z : ⊥ = omega arith in z)
      go false e h later = rw e (ap suc (later (omega arith) (omega arith)))

  -- one that does not pass, written at another place, leaves the first where it is
  pub first-set-other : (l : List A) (i : ℕ) (x : A) → p x ≡ false → i ≢ first_place p l
      → first_place p (set l i x) ≡ first_place p l
  unfolding first_place
  first-set-other [] i x px h = refl
  first-set-other (y ∷ l) zero x px h = go (p y) refl h
    where
      go : (b : Bool) → p y ≡ b → 0 ≢ cond b 0 (suc (first_place p l))
          → cond (p x) 0 (suc (first_place p l)) ≡ cond b 0 (suc (first_place p l))
      go true e h = absurd (h refl)
      go false e h = rw px
  first-set-other (y ∷ l) (suc i) x px h = go (p y) refl h (first-set-other l i x px)
    where
      go : (b : Bool) → p y ≡ b → suc i ≢ cond b 0 (suc (first_place p l))
          → (i ≢ first_place p l → first_place p (set l i x) ≡ first_place p l)
          → cond b 0 (suc (first_place p (set l i x))) ≡ cond b 0 (suc (first_place p l))
      go true e h later = refl
      go false e h later = ap suc (later (λ q. h (ap suc q)))

  -- it is not behind one that passes
  pub first-before : (l : List A) (k : ℕ) (d : A) → k < length l → p (get_or l k d) ≡ true → first_place p l ≤ k
  unfolding first_place
  first-before [] k d h e = absurd (omega arith)
  first-before (x ∷ l) zero d h e = rw e (omega arith)
  first-before (x ∷ l) (suc k) d h e = go (p x) (first-before l k d (omega arith) e)
    where
      go : (b : Bool) → first_place p l ≤ k → cond b 0 (suc (first_place p l)) ≤ suc k
      go true m = omega arith
      go false m = omega arith

pub first-ext : {A : Type 0} (p q : A → Bool) (l : List A) → ((x : A) → Memᴰ x l → p x ≡ q x)
    → first_place p l ≡ first_place q l
unfolding first_place
first-ext p q [] h = refl
first-ext p q (x ∷ l) h =
    ap₂ (λ b n. cond b 0 (suc n)) (h x (Memᴰ.head refl)) (first-ext p q l (λ y m. h y (Memᴰ.tail m)))

pub first-map : {A B : Type 0} (p : B → Bool) (f : A → B) (l : List A)
    → first_place p (map f l) ≡ first_place (λ x. p (f x)) l
unfolding first_place
first-map p f [] = refl
first-map p f (x ∷ l) = ap (λ n. cond (p (f x)) 0 (suc n)) (first-map p f l)
