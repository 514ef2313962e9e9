-- Which positions are members of the sets that arithmetic and the operations on digits give.
--     has-zero, has-suc                  the digit at 0, and those after it
--     has-past                           none past the digits of a number
--     same-members                       two sets with the same members are equal
--     has-and, has-or, has-not           of the operations digit by digit
--     has_one, has-ones                  of 2 ^ k and of 2 ^ k - 1
--     trailing-none, trailing-member     where the zeros end stands the first member
--     has-pred                           a set and the number before it share all but the first member
use mathlib.Core.Path.{◌≡◌, refl, sym, ap, ap₂, ◌∙◌, subst}
use mathlib.Core.Bool.{Bool, true, false, cond, not, ◌&&◌, ◌||◌, and_self, and-true}
use Prim.Native.Nat.{ℕ, zero, suc, ◌+◌, ◌-◌, ◌*◌, ◌/◌, ◌%◌, ◌^◌, ◌≤◌, ◌<◌, min, max}
use native.Mathlib.Nat.{zero-lt-suc, div-one, pow-suc, pow-succ', div-div-eq-div-mul, div-lt_iff_lt-mul, div-eq_of_lt}
use native.Mathlib.Nat.{lt_of_lt_of_le}
use native.Mathlib.Omega.{arith}
use borrow.Author.Tests.{eqb-true, eqb-false}
use lib.Arith.{digits_div, digits_mod}
use lib.Bits.{bit_and, bit_or, and_step, or_step}
use lib.Count.{count_trailing_zeros, under}
use lib.Dec.{eqb, ltb, eqb-suc-suc, eqb-zero-suc, eqb-suc-zero, leb-suc-suc, leb-zero, leb-suc-zero, lit<}
use lib.Pow.{pow_pos, pow_mono}
use Rattle.sets.specs.Sets.{has}

------------------------------------------------------------------------
-- digit by digit

pub has-zero : (set : ℕ) → has set 0 ≡ eqb (set % 2) 1
unfolding has
has-zero set = ap (λ n. eqb (n % 2) 1) (div-one set)

pub has-suc : (set j : ℕ) → has set (suc j) ≡ has (set / 2) j
unfolding has
has-suc set j =
    ap (λ n. eqb (n % 2) 1) (ap (λ p. set / p) (pow-succ' 2 j) ∙ sym (div-div-eq-div-mul set 2 (2 ^ j)))

-- a digit, and the last one of a number
abbrev pub bit : Bool → ℕ
bit b = cond b 1 0

pub digit : (n : ℕ) → n % 2 ≡ bit (eqb (n % 2) 1)
digit n = go (eqb (n % 2) 1) refl
  where
    go : (b : Bool) → eqb (n % 2) 1 ≡ b → n % 2 ≡ bit b
    go true t = eqb-true (n % 2) 1 t
    go false t = omega (arith, eqb-false (n % 2) 1 t)

pub half_lt : (d n : ℕ) → n < 2 ^ suc d → n / 2 < 2 ^ d
half_lt d n h = (div-lt_iff_lt-mul (zero-lt-suc 1)).1 (subst (λ x. n < x) (pow-suc 2 d) h)

has-none : (j : ℕ) → has 0 j ≡ false
unfolding has
has-none j = ap (λ n. eqb (n % 2) 1) (div-eq_of_lt (pow_pos j))

pub has-past : (d set j : ℕ) → set < 2 ^ d → d ≤ j → has set j ≡ false
unfolding has
has-past d set j h k = ap (λ n. eqb (n % 2) 1) (div-eq_of_lt (lt_of_lt_of_le h (pow_mono k)))

pub same-members : (d a b : ℕ) → a < 2 ^ d → b < 2 ^ d → ((j : ℕ) → j < d → has a j ≡ has b j) → a ≡ b
same-members zero a b h k same = omega arith
same-members (suc d) a b h k same =
    let halves : a / 2 ≡ b / 2 =
    same-members d (a / 2) (b / 2) (half_lt d a h) (half_lt d b k)
    (λ j l. sym (has-suc a j) ∙ same (suc j) (omega arith) ∙ has-suc b j) in
    let lasts : a % 2 ≡ b % 2 =
    digit a ∙ ap bit (sym (has-zero a) ∙ same 0 (omega arith) ∙ has-zero b) ∙ sym (digit b) in
    omega arith

------------------------------------------------------------------------
-- and, or, not

-- an operation on numbers that is `on` at each digit, and says `test`
module _ (op on : ℕ → ℕ → ℕ) (test : Bool → Bool → Bool)
    (step : (a b : ℕ) → op a b ≡ op (a / 2) (b / 2) * 2 + on (a % 2) (b % 2))
    (fits : (x y : Bool) → on (bit x) (bit y) < 2)
    (says : (x y : Bool) → eqb (on (bit x) (bit y)) 1 ≡ test x y) where
  step-bits : (a b : ℕ) → op a b ≡ op (a / 2) (b / 2) * 2 + on (bit (eqb (a % 2) 1)) (bit (eqb (b % 2) 1))
  step-bits a b = step a b ∙ ap₂ (λ x y. op (a / 2) (b / 2) * 2 + on x y) (digit a) (digit b)

  has-op : (a b j : ℕ) → has (op a b) j ≡ test (has a j) (has b j)
  has-op a b zero =
      let x = eqb (a % 2) 1 in
      let y = eqb (b % 2) 1 in
      has-zero (op a b)
      ∙ ap (λ n. eqb n 1) (ap (λ n. n % 2) (step-bits a b) ∙ digits_mod (op (a / 2) (b / 2)) (fits x y))
      ∙ says x y
      ∙ ap₂ test (sym (has-zero a)) (sym (has-zero b))
  has-op a b (suc j) =
      let half : op a b / 2 ≡ op (a / 2) (b / 2) =
      ap (λ n. n / 2) (step-bits a b) ∙ digits_div (op (a / 2) (b / 2)) (fits (eqb (a % 2) 1) (eqb (b % 2) 1)) in
      has-suc (op a b) j
      ∙ ap (λ n. has n j) half
      ∙ has-op (a / 2) (b / 2) j
      ∙ ap₂ test (sym (has-suc a j)) (sym (has-suc b j))

pub has-and : (a b j : ℕ) → has (bit_and a b) j ≡ (has a j && has b j)
has-and = has-op bit_and min ◌&&◌ and_step fits says
  where
    fits : (x y : Bool) → min (bit x) (bit y) < 2
    fits true true = lit< tt
    fits true false = lit< tt
    fits false true = lit< tt
    fits false false = lit< tt

    says : (x y : Bool) → eqb (min (bit x) (bit y)) 1 ≡ (x && y)
    says true true = refl
    says true false = refl
    says false true = refl
    says false false = refl

pub has-or : (a b j : ℕ) → has (bit_or a b) j ≡ (has a j || has b j)
has-or = has-op bit_or max ◌||◌ or_step fits says
  where
    fits : (x y : Bool) → max (bit x) (bit y) < 2
    fits true true = lit< tt
    fits true false = lit< tt
    fits false true = lit< tt
    fits false false = lit< tt

    says : (x y : Bool) → eqb (max (bit x) (bit y)) 1 ≡ (x || y)
    says true true = refl
    says true false = refl
    says false true = refl
    says false false = refl

pub has-not : (d set j : ℕ) → set < 2 ^ d → j < d → has (2 ^ d - 1 - set) j ≡ not (has set j)
has-not zero set j h k = absurd (omega arith)
has-not (suc d) set zero h k =
    let twice : 2 ^ suc d ≡ 2 ^ d * 2 = pow-suc 2 d in
    let last : (2 ^ suc d - 1 - set) % 2 ≡ 1 - set % 2 = omega arith in
    has-zero (2 ^ suc d - 1 - set)
    ∙ ap (λ n. eqb n 1) (last ∙ ap (λ n. 1 - n) (digit set))
    ∙ flip (eqb (set % 2) 1)
    ∙ ap not (sym (has-zero set))
  where
    flip : (b : Bool) → eqb (1 - bit b) 1 ≡ not b
    flip true = refl
    flip false = refl
has-not (suc d) set (suc j) h k =
    let twice : 2 ^ suc d ≡ 2 ^ d * 2 = pow-suc 2 d in
    let half : (2 ^ suc d - 1 - set) / 2 ≡ 2 ^ d - 1 - set / 2 = omega arith in
    has-suc (2 ^ suc d - 1 - set) j
    ∙ ap (λ n. has n j) half
    ∙ has-not d (set / 2) j (half_lt d set h) (omega arith)
    ∙ ap not (sym (has-suc set j))

------------------------------------------------------------------------
-- one position, and all before one

pub has_one : (k j : ℕ) → has (2 ^ k) j ≡ eqb j k
has_one zero zero = has-zero 1
has_one zero (suc j) = has-suc 1 j ∙ has-none j ∙ sym (eqb-suc-zero j)
has_one (suc k) zero =
    let even : 2 ^ suc k % 2 ≡ 0 = omega (arith, pow-suc 2 k) in
    has-zero (2 ^ suc k) ∙ ap (λ n. eqb n 1) even ∙ sym (eqb-zero-suc k)
has_one (suc k) (suc j) =
    let half : 2 ^ suc k / 2 ≡ 2 ^ k = omega (arith, pow-suc 2 k) in
    has-suc (2 ^ suc k) j ∙ ap (λ n. has n j) half ∙ has_one k j ∙ sym (eqb-suc-suc j k)

pub has-ones : (k j : ℕ) → has (2 ^ k - 1) j ≡ ltb j k
has-ones zero j = has-none j ∙ sym (leb-suc-zero j)
has-ones (suc k) zero =
    let odd : (2 ^ suc k - 1) % 2 ≡ 1 = omega (arith, pow-suc 2 k, pow_pos k) in
    has-zero (2 ^ suc k - 1) ∙ ap (λ n. eqb n 1) odd ∙ sym (leb-suc-suc 0 k ∙ leb-zero k)
has-ones (suc k) (suc j) =
    let half : (2 ^ suc k - 1) / 2 ≡ 2 ^ k - 1 = omega (arith, pow-suc 2 k) in
    has-suc (2 ^ suc k - 1) j ∙ ap (λ n. has n j) half ∙ has-ones k j ∙ sym (leb-suc-suc (suc j) k)

------------------------------------------------------------------------
-- the first member

-- whether the last digit is set, and the zeros at the end by that
trailing-cases : (d set : ℕ) (P : ℕ → Type 0) → (set % 2 ≡ 1 → P 0)
    → (set % 2 ≡ 0 → P (suc (count_trailing_zeros d (set / 2)))) → P (count_trailing_zeros (suc d) set)
unfolding count_trailing_zeros
trailing-cases d set P odd even = go (set % 2) refl
  where
    go : (x : ℕ) → set % 2 ≡ x → P (under x (count_trailing_zeros d (set / 2)))
    go zero e = even e
    go (suc x) e = odd (omega arith)

pub trailing-none : (d set j : ℕ) → j < count_trailing_zeros d set → has set j ≡ false
unfolding count_trailing_zeros
trailing-none zero set j h = absurd (omega arith)
trailing-none (suc d) set j h =
    trailing-cases d set (λ t. j < t → has set j ≡ false) (λ odd k. absurd (omega arith))
    (λ even k. before j even k (λ i. trailing-none d (set / 2) i)) h
  where
    before : (j : ℕ) → set % 2 ≡ 0 → j < suc (count_trailing_zeros d (set / 2))
        → ((i : ℕ) → i < count_trailing_zeros d (set / 2) → has (set / 2) i ≡ false) → has set j ≡ false
    before zero even k rec = has-zero set ∙ ap (λ n. eqb n 1) even
    before (suc j) even k rec = has-suc set j ∙ rec j (omega arith)

pub trailing-member : (d set : ℕ) → count_trailing_zeros d set < d → has set (count_trailing_zeros d set) ≡ true
trailing-member zero set h = absurd (omega arith)
trailing-member (suc d) set h =
    trailing-cases d set (λ t. t < suc d → has set t ≡ true) (λ odd k. has-zero set ∙ ap (λ n. eqb n 1) odd)
    (λ even k. has-suc set (count_trailing_zeros d (set / 2)) ∙ trailing-member d (set / 2) (omega arith)) h

pub has-pred : (d set j : ℕ) → 0 < set → set < 2 ^ d
    → (has set j && has (set - 1) j) ≡ (has set j && not (eqb j (count_trailing_zeros d set)))
has-pred zero set j some h = absurd (omega arith)
has-pred (suc d) set j some h =
    trailing-cases d set (λ t. (has set j && has (set - 1) j) ≡ (has set j && not (eqb j t))) (at-odd j)
    (λ even. at-even j even (λ i. has-pred d (set / 2) i (omega arith) (half_lt d set h)))
  where
    at-odd : (j : ℕ) → set % 2 ≡ 1 → (has set j && has (set - 1) j) ≡ (has set j && not (eqb j 0))
    at-odd zero odd =
        let even : (set - 1) % 2 ≡ 0 = omega arith in
        ap (λ b. has set 0 && b) (has-zero (set - 1) ∙ ap (λ n. eqb n 1) even)
    at-odd (suc j) odd =
        let half : (set - 1) / 2 ≡ set / 2 = omega arith in
        let later : has (set - 1) (suc j) ≡ has set (suc j) =
        has-suc (set - 1) j ∙ ap (λ n. has n j) half ∙ sym (has-suc set j) in
        ap (λ b. has set (suc j) && b) later
        ∙ and_self (has set (suc j))
        ∙ sym (and-true (has set (suc j)))
        ∙ ap (λ b. has set (suc j) && not b) (sym (eqb-suc-zero j))

    at-even : (j : ℕ) → set % 2 ≡ 0
        → ((i : ℕ) → (has (set / 2) i && has (set / 2 - 1) i)
        ≡ (has (set / 2) i && not (eqb i (count_trailing_zeros d (set / 2)))))
        → (has set j && has (set - 1) j) ≡ (has set j && not (eqb j (suc (count_trailing_zeros d (set / 2)))))
    at-even zero even rec =
        let none : has set 0 ≡ false = has-zero set ∙ ap (λ n. eqb n 1) even in
        ap (λ b. b && has (set - 1) 0) none ∙ ap (λ b. b && not (eqb 0 (suc (count_trailing_zeros d (set / 2))))) (sym none)
    at-even (suc j) even rec =
        let t = count_trailing_zeros d (set / 2) in
        let half : (set - 1) / 2 ≡ set / 2 - 1 = omega arith in
        ap₂ ◌&&◌ (has-suc set j) (has-suc (set - 1) j ∙ ap (λ n. has n j) half)
        ∙ rec j
        ∙ ap₂ (λ b c. b && not c) (sym (has-suc set j)) (sym (eqb-suc-suc j t))
