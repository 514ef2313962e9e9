-- Laws of lists of lists, with `get_or ls k []` for the list at k, which is empty past the end. Members of the flat list,
-- keep and update are in Bags.
--     empty-at                                 no list of many empty ones has a member
--     flatten-map                              map goes through flatten
--     count-flatten-none, -one, -at            counts of the flat list, by the list at k
--     pairwise-flatten, pairwise-flatten-at
use Prim.Native.Nat.{ℕ, zero, suc, ◌≤◌, ◌<◌}
use native.Mathlib.Nat.{suc_inj}
use native.Mathlib.Omega.{arith}
use mathlib.Core.Bool.{Bool, true}
use mathlib.Core.Path.{◌≡◌, refl, sym, ◌∙◌, ap}
use mathlib.Core.Logic.{◌≢◌}
use mathlib.Core.List.{List, [], ◌∷◌, ◌++◌, map, map-append, flatten, Memᴰ}
use lib.ListN.{length, get_or, replicate}
use Rattle.laws.specs.Lists.{none?, count, pairwise}
use Rattle.laws.proofs.Count.{count-nil, count-append, count-zero}
use Rattle.laws.proofs.Pairwise.{pairwise-nil, pairwise_append, pairwise-append-l, pairwise-append-r}
use Rattle.model.proofs.Bags.{mem-flatten}

------------------------------------------------------------------------
-- many empty lists

pub empty-at : {A : Type 0} (n k : ℕ) → get_or (replicate {A = List A} n []) k [] ≡ []
empty-at zero k = refl
empty-at (suc n) zero = refl
empty-at (suc n) (suc k) = empty-at n k

------------------------------------------------------------------------
-- map

module _ {A B : Type 0} (f : A → B) where
  pub flatten-map : (ls : List (List A)) → flatten (map (map f) ls) ≡ map f (flatten ls)
  unfolding flatten
  flatten-map [] = refl
  flatten-map (l ∷ ls) = ap (λ r. map f l ++ r) (flatten-map ls) ∙ sym (map-append f l (flatten ls))

module _ {A : Type 0} where
  ------------------------------------------------------------------------
  -- counts

  pub count-flatten-none : (p : A → Bool) (ls : List (List A)) → ((j : ℕ) → none? p (get_or ls j []) ≡ true)
      → ◌≡◌ {A = ℕ} (count p (flatten ls)) 0
  unfolding flatten
  count-flatten-none p [] h = count-nil p
  count-flatten-none p (l ∷ ls) h =
      let here = count-zero p l (h zero) in
      let rest = count-flatten-none p ls (λ j. h (suc j)) in
      omega (arith, count-append p l (flatten ls))

  -- where none outside the list at k passes
  pub count-flatten-one : (p : A → Bool) (ls : List (List A)) (k : ℕ)
      → ((j : ℕ) → j ≢ k → none? p (get_or ls j []) ≡ true) → count p (flatten ls) ≡ count p (get_or ls k [])
  unfolding flatten
  count-flatten-one p [] k h = refl
  count-flatten-one p (l ∷ ls) zero h =
      let rest = count-flatten-none p ls (λ j. h (suc j) (omega arith)) in
      omega (arith, count-append p l (flatten ls))
  count-flatten-one p (l ∷ ls) (suc k) h =
      let here = count-zero p l (h zero (omega arith)) in
      let rest = count-flatten-one p ls k (λ j n. h (suc j) (λ e. n (suc_inj e))) in
      omega (arith, count-append p l (flatten ls))

  pub count-flatten-at : (p : A → Bool) (ls : List (List A)) (k : ℕ) → count p (get_or ls k []) ≤ count p (flatten ls)
  unfolding flatten
  count-flatten-at p [] k = omega arith
  count-flatten-at p (l ∷ ls) zero = omega (arith, count-append p l (flatten ls))
  count-flatten-at p (l ∷ ls) (suc k) = omega (arith, count-append p l (flatten ls), count-flatten-at p ls k)

  ------------------------------------------------------------------------
  -- pairwise

  pub pairwise-flatten : (r : A → A → Bool) (ls : List (List A)) → ((j : ℕ) → pairwise r (get_or ls j []) ≡ true)
      → ((i j : ℕ) (x y : A) → i < j → Memᴰ x (get_or ls i []) → Memᴰ y (get_or ls j []) → r x y ≡ true)
      → pairwise r (flatten ls) ≡ true
  unfolding flatten
  pairwise-flatten r [] h c = pairwise-nil r
  pairwise-flatten r (l ∷ ls) h c =
      pairwise_append r l (flatten ls)
      (h zero)
      (pairwise-flatten r ls (λ j. h (suc j)) (λ i j x y o. c (suc i) (suc j) x y (omega arith)))
      (λ x y m n. across x y m (mem-flatten ls n))
    where
      across : (x y : A) → Memᴰ x l → (j : ℕ) × (j < length ls) × Memᴰ y (get_or ls j []) → r x y ≡ true
      across x y m n = c zero (suc n.0) x y (omega arith) m n.2

  pub pairwise-flatten-at : (r : A → A → Bool) (ls : List (List A)) (k : ℕ) → pairwise r (flatten ls) ≡ true
      → pairwise r (get_or ls k []) ≡ true
  unfolding flatten
  pairwise-flatten-at r [] k h = h
  pairwise-flatten-at r (l ∷ ls) zero h = pairwise-append-l r l (flatten ls) h
  pairwise-flatten-at r (l ∷ ls) (suc k) h = pairwise-flatten-at r ls k (pairwise-append-r r l (flatten ls) h)
