-- The digits of a number:
--     length-decimal-some         there is one
--     length-decimal-two, -more   there are two, and two more
--     decimal-one                 the digit of a number below ten
use Prim.Native.Nat.{ℕ, ◌+◌, ◌/◌, ◌%◌, ◌≤◌, ◌<◌}
use native.Mathlib.Omega.{arith}
use mathlib.Core.Bool.{Bool, true, false}
use mathlib.Core.List.{[], ◌∷◌}
use mathlib.Core.Path.{◌≡◌, refl, ap}
use borrow.Author.Tests.{ltb-true, ltb-false}
use lib.Dec.{ltb}
use lib.ListN.{length}
use Rattle.trace.specs.Line.{decimal}
use Rattle.trace.proofs.Lengths.{length-decimal-small, length-decimal-tens}
use Rattle.trace.proofs.Line.{decimal-small}

pub length-decimal-some : (n : ℕ) → 1 ≤ length (decimal n)
length-decimal-some n = go (ltb n 10) refl
  where
    go : (b : Bool) → ltb n 10 ≡ b → 1 ≤ length (decimal n)
    go true e = omega (arith, length-decimal-small n (ltb-true n 10 e))
    go false e = omega (arith, length-decimal-tens n (ltb-false n 10 e))

pub decimal-one : (n : ℕ) → n < 10 → decimal n ≡ (48 + n % 10) ∷ []
decimal-one n h =
    let e : n % 10 ≡ n = omega arith in
    rw e (decimal-small n h)

pub length-decimal-two : (n : ℕ) → 10 ≤ n → n < 100 → length (decimal n) ≡ 2
length-decimal-two n h l = omega (arith, length-decimal-tens n h, length-decimal-small (n / 10) (omega arith))

pub length-decimal-more : (n : ℕ) → 100 ≤ n → length (decimal n) ≡ length (decimal (n / 100)) + 2
length-decimal-more n h =
    let e : n / 10 / 10 ≡ n / 100 = omega arith in
    let t = ap (λ m. length (decimal m)) e in
    omega (arith, length-decimal-tens n (omega arith), length-decimal-tens (n / 10) (omega arith))
