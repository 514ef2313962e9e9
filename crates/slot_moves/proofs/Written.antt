-- Laws of `written`: what stands at each index of a column after the writes.
--     hit f n k         one of f 0, .. f (n - 1) is k
--     written-hit       there the byte that was written stands
--     written-miss      elsewhere nothing has changed
--     written_is        both in one
use Prim.Native.Nat.{ℕ, zero, suc, ◌<◌}
use native.Mathlib.Omega.{arith}
use mathlib.Core.Bool.{Bool, true, false, cond, ◌||◌, false≢true}
use mathlib.Core.Path.{◌≡◌, refl, sym, ◌∙◌, ap}
use mathlib.Core.Logic.{◌⊎◌, inl, inr}
use mathlib.Core.List.{List}
use borrow.Author.Tests.{eqb-true, eqb-false, eq-eqb}
use lib.Dec.{eqb}
use lib.ListN.{length, get_or, set, length-set}
use lib.Seq.{get_or-set_same, get_or-set_other}
use Rattle.laws.proofs.Tests.{either, clash, by-fail, or_l, or_r, or_cases, or-false-l, or-false-r, cond-pass, cond-fail}
use Rattle.slot_moves.specs.CodeMoves.{written}

------------------------------------------------------------------------
-- hit

unfoldable pub hit : (ℕ → ℕ) → ℕ → ℕ → Bool
hit f zero k = false
hit f (suc n) k = hit f n k || eqb (f n) k

abbrev pub Hit : (ℕ → ℕ) → ℕ → ℕ → Type 0
Hit f n k = (i : ℕ) × (i < n) × (f i ≡ k)

pub hit-i : (f : ℕ → ℕ) (n i : ℕ) {k : ℕ} → i < n → f i ≡ k → hit f n k ≡ true
unfolding hit
hit-i f zero i l e = absurd (omega arith)
hit-i f (suc n) i {k} l e = go (either (eqb i n)) (hit-i f n i)
  where
    go : (eqb i n ≡ true) ⊎ (eqb i n ≡ false) → (i < n → f i ≡ k → hit f n k ≡ true) → (hit f n k || eqb (f n) k) ≡ true
    go (inl s) rec = or_r (hit f n k) (eqb (f n) k) (eq-eqb (f n) k (ap f (sym (eqb-true i n s)) ∙ e))
    go (inr s) rec = or_l (hit f n k) (eqb (f n) k) (rec (omega (arith, eqb-false i n s)) e)

pub hit-e : (f : ℕ → ℕ) (n k : ℕ) → hit f n k ≡ true → Hit f n k
unfolding hit
hit-e f zero k h = absurd (false≢true h)
hit-e f (suc n) k h = go (hit-e f n k) (or_cases (hit f n k) (eqb (f n) k) h)
  where
    go : (hit f n k ≡ true → Hit f n k) → (hit f n k ≡ true) ⊎ (eqb (f n) k ≡ true) → Hit f (suc n) k
    go rec (inl a) = let w : Hit f n k = rec a in (w.0, omega arith, w.2)
    go rec (inr a) = (n, omega arith, eqb-true (f n) k a)

pub hit-miss : (f : ℕ → ℕ) (n k : ℕ) → ((i : ℕ) → i < n → f i ≡ k → ⊥) → hit f n k ≡ false
hit-miss f n k h = by-fail (hit f n k) (λ t. let w : Hit f n k = hit-e f n k t in h w.0 w.1 w.2)

------------------------------------------------------------------------
-- written

module _ {A : Type 0} (f : ℕ → ℕ) (v : A) where
  pub length-written : (n : ℕ) (l : List A) → length (written f v n l) ≡ length l
  unfolding written
  length-written zero l = refl
  length-written (suc n) l = length-set (written f v n l) (f n) v ∙ length-written n l

  pub written-hit : (n : ℕ) (l : List A) (k : ℕ) (d : A) → k < length l → hit f n k ≡ true → get_or (written f v n l) k d ≡ v
  unfolding written hit
  written-hit zero l k d h t = absurd (false≢true t)
  written-hit (suc n) l k d h t = go (either (eqb (f n) k)) (written-hit n l k d h)
    where
      inside : k < length (written f v n l)
      inside = rw (length-written n l) h

      go : (eqb (f n) k ≡ true) ⊎ (eqb (f n) k ≡ false) → (hit f n k ≡ true → get_or (written f v n l) k d ≡ v)
          → get_or (set (written f v n l) (f n) v) k d ≡ v
      go (inl e) rec = rw (eqb-true (f n) k e) (get_or-set_same (written f v n l) k v d inside)
      go (inr e) rec =
          get_or-set_other (written f v n l) (f n) k v d (λ p. eqb-false (f n) k e (sym p))
          ∙ rec (earlier (or_cases (hit f n k) (eqb (f n) k) t))
        where
          earlier : (hit f n k ≡ true) ⊎ (eqb (f n) k ≡ true) → hit f n k ≡ true
          earlier (inl a) = a
          earlier (inr a) = absurd (clash a e)

  pub written-miss : (n : ℕ) (l : List A) (k : ℕ) (d : A) → hit f n k ≡ false → get_or (written f v n l) k d ≡ get_or l k d
  unfolding written hit
  written-miss zero l k d t = refl
  written-miss (suc n) l k d t =
      get_or-set_other (written f v n l) (f n) k v d (λ p. eqb-false (f n) k (or-false-r (hit f n k) (eqb (f n) k) t) (sym p))
      ∙ written-miss n l k d (or-false-l (hit f n k) (eqb (f n) k) t)

pub written_is : {A : Type 0} (f : ℕ → ℕ) (v : A) (n : ℕ) (l : List A) (k : ℕ) (d : A) → k < length l
    → get_or (written f v n l) k d ≡ cond (hit f n k) v (get_or l k d)
written_is f v n l k d h = go (either (hit f n k))
  where
    go : (hit f n k ≡ true) ⊎ (hit f n k ≡ false) → get_or (written f v n l) k d ≡ cond (hit f n k) v (get_or l k d)
    go (inl t) = written-hit f v n l k d h t ∙ sym (cond-pass (hit f n k) v (get_or l k d) t)
    go (inr t) = written-miss f v n l k d t ∙ sym (cond-fail (hit f n k) v (get_or l k d) t)
