-- Marks of the numbers that a pass has met. Marks of earlier passes are smaller.
use Prim.Native.Nat.{ℕ, zero, suc, ◌+◌, ◌≤◌, ◌<◌}
use mathlib.Core.Bool.{Bool, true, false, ◌||◌, or-false}
use mathlib.Core.Path.{◌≡◌, refl, sym, ◌∙◌, ap}
use mathlib.Core.Logic.{◌⊎◌, inl, inr}
use mathlib.Core.List.{List}
use native.Mathlib.Omega.{arith}
use borrow.Author.Tests.{eqb-true, eqb-false, eq-eqb, ne_eqb}
use lib.Dec.{eqb}
use lib.ListN.{length, get_or, set, replicate, length-set, length-replicate}
use lib.Seq.{get_or-set_same, get_or-set_other}
use Rattle.laws.proofs.Tests.{either, or_r}
use Rattle.slot_section.specs.Code.{MarksBelow}

-- marks that have been cleared
pub marks-clear : MarksBelow 1 (replicate 256 0)
marks-clear = record { size = length-replicate {A = ℕ} 256 0; each = λ n. omega (arith, zeros 256 n) }
  where
    zeros : (m n : ℕ) → ◌≡◌ {A = ℕ} (get_or (replicate m 0) n 0) 0
    zeros zero n = refl
    zeros (suc m) zero = refl
    zeros (suc m) (suc n) = zeros m n

-- where a later pass has a greater mark
pub below_more : (m n : ℕ) (marks : List ℕ) → m ≤ n → MarksBelow m marks → MarksBelow n marks
below_more m n marks h below = record { size = below.size; each = λ k. omega (arith, below.each k) }

-- at each number, whether it was met in this pass
pub record Marked (mark : ℕ) (marks : List ℕ) (met : ℕ → Bool) : Type 0 where
  pub room : length marks ≡ 256
  pub most : (n : ℕ) → get_or marks n 0 ≤ mark
  pub each : (n : ℕ) → n < 256 → eqb (get_or marks n 0) mark ≡ met n

-- at the start of a pass
pub marked-none : (mark : ℕ) (marks : List ℕ) (met : ℕ → Bool) → MarksBelow mark marks
    → ((n : ℕ) → met n ≡ false) → Marked mark marks met
marked-none mark marks met below none =
    record {
      room = below.size;
      most = λ n. omega (arith, below.each n);
      each = λ n h. ne_eqb (get_or marks n 0) mark (λ e. omega (arith, below.each n)) ∙ sym (none n);
    }

module _ {mark : ℕ} {marks : List ℕ} {met : ℕ → Bool} (w : Marked mark marks met) where
  -- after it
  pub marked-below : MarksBelow (mark + 1) marks
  marked-below = record { size = w.room; each = λ n. omega (arith, w.most n) }

  -- one number more
  pub marked-one : (m : ℕ) → m < 256 → (more : ℕ → Bool) → ((n : ℕ) → more n ≡ (met n || eqb n m))
      → Marked mark (set marks m mark) more
  marked-one m few more is =
      record {
        room = length-set marks m mark ∙ w.room;
        most = λ n. (at n (either (eqb n m))).0;
        each = λ n h. (at n (either (eqb n m))).1 h;
      }
    where
      at : (n : ℕ) → (eqb n m ≡ true) ⊎ (eqb n m ≡ false)
          → (get_or (set marks m mark) n 0 ≤ mark) × (n < 256 → eqb (get_or (set marks m mark) n 0) mark ≡ more n)
      at n (inl t) =
          let here : get_or (set marks m mark) n 0 ≡ mark =
          ap (λ k. get_or (set marks m mark) k 0) (eqb-true n m t)
          ∙ get_or-set_same marks m mark 0 (omega (arith, w.room)) in
          (omega arith, λ h. eq-eqb _ mark here ∙ sym (is n ∙ or_r (met n) (eqb n m) t))
      at n (inr t) =
          let kept : get_or (set marks m mark) n 0 ≡ get_or marks n 0 =
          get_or-set_other marks m n mark 0 (eqb-false n m t) in (
            omega (arith, w.most n),
            λ h. ap (λ x. eqb x mark) kept ∙ w.each n h ∙ sym (is n ∙ ap (λ b. met n || b) t ∙ or-false (met n)),
          )
