-- Laws of tests. That a test passes is `b ≡ true`, that it fails is `b ≡ false`.
--     either, clash        a test passes or fails, and not both
--     by-pass, by-fail     from the other one's absurdity
--     same                 two tests are equal when each passes where the other does
--     eqb-turned           equality of numbers is tested alike both ways round
--     and-, or-, not-      when the connective passes (-i, -l, -r, -e, -cases) and when it fails (-false-)
--     cond-pass, cond-fail the branch that a known test takes
use mathlib.Core.Bool.{Bool, true, false, cond, not, ◌&&◌, ◌||◌, true≢false, false≢true}
use mathlib.Core.Path.{◌≡◌, refl, sym, ◌∙◌, ap}
use mathlib.Core.Logic.{◌⊎◌, inl, inr}
use Prim.Native.Nat.{ℕ}
use borrow.Author.Tests.{eqb-true, eq-eqb}
use lib.Dec.{eqb}

------------------------------------------------------------------------
-- one test

pub either : (b : Bool) → (b ≡ true) ⊎ (b ≡ false)
either true = inl refl
either false = inr refl

pub clash : {b : Bool} → b ≡ true → b ≡ false → ⊥
clash t f = true≢false (sym t ∙ f)

pub by-pass : (b : Bool) → (b ≡ false → ⊥) → b ≡ true
by-pass true h = refl
by-pass false h = absurd (h refl)

pub by-fail : (b : Bool) → (b ≡ true → ⊥) → b ≡ false
by-fail true h = absurd (h refl)
by-fail false h = refl

pub same : (a b : Bool) → (a ≡ true → b ≡ true) → (b ≡ true → a ≡ true) → a ≡ b
same true b f g = sym (f refl)
same false true f g = g refl
same false false f g = refl

-- two numbers compared either way round
pub eqb-turned : (m n : ℕ) → eqb m n ≡ eqb n m
eqb-turned m n =
    same (eqb m n) (eqb n m) (λ t. eq-eqb n m (sym (eqb-true m n t))) (λ t. eq-eqb m n (sym (eqb-true n m t)))

------------------------------------------------------------------------
-- and

pub and_i : (a b : Bool) → a ≡ true → b ≡ true → (a && b) ≡ true
and_i true b p q = q
and_i false b p q = p

pub and_l : (a b : Bool) → (a && b) ≡ true → a ≡ true
and_l true b h = refl
and_l false b h = h

pub and_r : (a b : Bool) → (a && b) ≡ true → b ≡ true
and_r true b h = h
and_r false b h = absurd (false≢true h)

pub and-false-l : (a b : Bool) → a ≡ false → (a && b) ≡ false
and-false-l true b h = absurd (true≢false h)
and-false-l false b h = refl

pub and_false_r : (a b : Bool) → b ≡ false → (a && b) ≡ false
and_false_r true b h = h
and_false_r false b h = refl

pub and-false-cases : (a b : Bool) → (a && b) ≡ false → (a ≡ false) ⊎ (b ≡ false)
and-false-cases true b h = inr h
and-false-cases false b h = inl refl

------------------------------------------------------------------------
-- or

pub or_l : (a b : Bool) → a ≡ true → (a || b) ≡ true
or_l true b h = refl
or_l false b h = absurd (false≢true h)

pub or_r : (a b : Bool) → b ≡ true → (a || b) ≡ true
or_r true b h = refl
or_r false b h = h

pub or_cases : (a b : Bool) → (a || b) ≡ true → (a ≡ true) ⊎ (b ≡ true)
or_cases true b h = inl refl
or_cases false b h = inr h

pub or-false : (a b : Bool) → a ≡ false → b ≡ false → (a || b) ≡ false
or-false true b p q = p
or-false false b p q = q

pub or-false-l : (a b : Bool) → (a || b) ≡ false → a ≡ false
or-false-l true b h = h
or-false-l false b h = refl

pub or-false-r : (a b : Bool) → (a || b) ≡ false → b ≡ false
or-false-r true b h = absurd (true≢false h)
or-false-r false b h = h

------------------------------------------------------------------------
-- not

pub not-i : (b : Bool) → b ≡ false → not b ≡ true
not-i b h = ap not h

pub not-false-i : (b : Bool) → b ≡ true → not b ≡ false
not-false-i b h = ap not h

pub not-or : (a b : Bool) → not (a || b) ≡ not a && not b
not-or true b = refl
not-or false b = refl

------------------------------------------------------------------------
-- cond

module _ {A : Type 0} (b : Bool) (x y : A) where
  pub cond-pass : b ≡ true → cond b x y ≡ x
  cond-pass h = ap (λ t. cond t x y) h

  pub cond-fail : b ≡ false → cond b x y ≡ y
  cond-fail h = ap (λ t. cond t x y) h
