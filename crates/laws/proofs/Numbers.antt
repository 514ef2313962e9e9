-- Laws of numbers one after the other.
--     length-numbers_from                  how many there are
--     numbers_from-mem, mem-numbers_from    which they are
--     numbers_from-more, numbers_from-add   one more, and so many more
--     numbers_from-at                      what stands at a place of a list over them
use Prim.Native.Nat.{ℕ, zero, suc, ◌+◌, ◌≤◌, ◌<◌}
use native.Mathlib.Nat.{add-zero, zero-add, suc-add}
use native.Mathlib.Omega.{arith}
use mathlib.Core.Path.{◌≡◌, refl, sym, ◌∙◌, ap, ap₂}
use mathlib.Core.Logic.{◌⊎◌, inl, inr}
use mathlib.Core.List.Memᴰ
use mathlib.Core.List.{[], ◌∷◌, ◌++◌, map, Memᴰ}
use mathlib.Core.Bool.{true, false}
use borrow.Author.Tests.{eqb-true, eqb-false}
use lib.Dec.{eqb}
use lib.ListN.{length, get_or}
use Rattle.laws.specs.Lists.{numbers_from}
use Rattle.laws.proofs.Tests.{either}

pub length-numbers_from : (k n : ℕ) → length (numbers_from k n) ≡ n
unfolding numbers_from
length-numbers_from k zero = refl
length-numbers_from k (suc n) = ap suc (length-numbers_from (k + 1) n)

pub numbers_from-mem : (k n : ℕ) {a : ℕ} → k ≤ a → a < k + n → Memᴰ a (numbers_from k n)
unfolding numbers_from
numbers_from-mem k zero low high = absurd (omega arith)
numbers_from-mem k (suc n) {a} low high = go (either (eqb a k)) (numbers_from-mem (k + 1) n)
  where
    go : (eqb a k ≡ true) ⊎ (eqb a k ≡ false)
        → (k + 1 ≤ a → a < k + 1 + n → Memᴰ a (numbers_from (k + 1) n)) → Memᴰ a (k ∷ numbers_from (k + 1) n)
    go (inl e) rec = Memᴰ.head (eqb-true a k e)
    go (inr e) rec = Memᴰ.tail (rec (omega (arith, eqb-false a k e)) (omega arith))

pub mem-numbers_from : (k n : ℕ) {a : ℕ} → Memᴰ a (numbers_from k n) → (k ≤ a) × (a < k + n)
unfolding numbers_from
mem-numbers_from k zero m = absurd (Memᴰ.not-nil m)
mem-numbers_from k (suc n) {a} m = go (Memᴰ.cases_cons m) (mem-numbers_from (k + 1) n)
  where
    go : (a ≡ k) ⊎ Memᴰ a (numbers_from (k + 1) n)
        → (Memᴰ a (numbers_from (k + 1) n) → (k + 1 ≤ a) × (a < k + 1 + n)) → (k ≤ a) × (a < k + suc n)
    go (inl e) rec = omega arith
    go (inr i) rec = omega (arith, rec i)

pub numbers_from-more : (k n : ℕ) → numbers_from k (suc n) ≡ numbers_from k n ++ ((k + n) ∷ [])
unfolding numbers_from
numbers_from-more k zero = ap (λ a. a ∷ []) (sym (add-zero k))
numbers_from-more k (suc n) =
    let next : k + 1 + n ≡ k + suc n = omega arith in
    ap (λ l. k ∷ l) (numbers_from-more (k + 1) n ∙ ap (λ a. numbers_from (k + 1) n ++ (a ∷ [])) next)

pub numbers_from-add : (k n m : ℕ) → numbers_from k (n + m) ≡ numbers_from k n ++ numbers_from (k + n) m
unfolding numbers_from
numbers_from-add k zero m = ap₂ numbers_from (sym (add-zero k)) (zero-add m)
numbers_from-add k (suc n) m =
    let next : k + 1 + n ≡ k + suc n = omega arith in
    ap (numbers_from k) (suc-add n m)
    ∙ ap (λ l. k ∷ l) (numbers_from-add (k + 1) n m ∙ ap (λ a. numbers_from (k + 1) n ++ numbers_from a m) next)

pub numbers_from-at : {A : Type 0} (f : ℕ → A) (k n i : ℕ) (d : A) → i < n → get_or (map f (numbers_from k n)) i d ≡ f (k + i)
unfolding numbers_from
numbers_from-at f k zero i d h = absurd (omega arith)
numbers_from-at f k (suc n) zero d h = ap f (sym (add-zero k))
numbers_from-at f k (suc n) (suc i) d h =
    let next : k + 1 + i ≡ k + suc i = omega arith in
    numbers_from-at f (k + 1) n i d (omega arith) ∙ ap f next
