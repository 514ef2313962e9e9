-- The sets that the code makes, as operations on digits.
use mathlib.Core.Path.{◌≡◌, refl, sym, ap, ap₂, ◌∙◌}
use mathlib.Core.Bool.{Bool, true, false, not, ◌&&◌, ◌||◌, and-true, and-or_distrib_right}
use Prim.Native.Nat.{ℕ, zero, suc, ◌-◌, ◌*◌, ◌%◌, ◌^◌, ◌≤◌, ◌<◌}
use native.Mathlib.Nat.{one-mul, mod-eq_of_lt}
use native.Mathlib.Omega.{arith}
use borrow.Author.Tests.{eqb-true, eq-eqb, lt-ltb, le-ltb, ltb-true, ltb-false}
use lib.Bits.{bit_and, bit_or, and_le_l, and_le_r, or_lt, or_add_and, or_zero_l}
use lib.Count.{ones}
use lib.Dec.{eqb, ltb}
use lib.Pow.{pow-lt, ones_lt}
use Rattle.laws.specs.Lists.{up_to}
use Rattle.laws.proofs.Tests.{same, and_i, and_l, and_r, and_false_r}
use Rattle.laws.proofs.Count.{length-keep}
use Rattle.sets.specs.Sets.{positions, has, minus, both, members, size_of}
use Rattle.sets.specs.Sets.{pushed, either}
use Rattle.sets.proofs.Digits.{has-and, has-or, has-not, has_one, has-ones, same-members}
use Rattle.sets.proofs.Members.{set_of-is, set_of-lt, has-below, has-from, has-pushed, has-pushed-first}
use Rattle.sets.proofs.Members.{ones-count}
use Rattle.sets.specs.Code.{with_one, without_one, below, from, opened}

-- one position as a set
pub shifted_one : (k : ℕ) → k < positions → 1 * 2 ^ k % 2 ^ positions ≡ 2 ^ k
shifted_one k h = ap (λ n. n % 2 ^ positions) (one-mul (2 ^ k)) ∙ mod-eq_of_lt (pow-lt h)

module _ (set : ℕ) (fits : set < 2 ^ positions) where
  and-fits : (mask : ℕ) → bit_and set mask < 2 ^ positions
  and-fits mask = omega (arith, and_le_l set mask)

  module _ (k : ℕ) (position : k < positions) where
    pub with_one-or : bit_or set (1 * 2 ^ k % 2 ^ positions) ≡ with_one set k
    unfolding with_one
    with_one-or =
        ap (bit_or set) (shifted_one k position)
        ∙ set_of-is (λ j. has set j || eqb j k) (bit_or set (2 ^ k)) (or_lt positions set (2 ^ k) fits (pow-lt position))
        (λ j h. has-or set (2 ^ k) j ∙ ap (λ b. has set j || b) (has_one k j))

    pub without_one-and : bit_and set (2 ^ positions - 1 - 1 * 2 ^ k % 2 ^ positions) ≡ without_one set k
    unfolding without_one
    without_one-and =
        let others = 2 ^ positions - 1 - 2 ^ k in
        ap (λ n. bit_and set (2 ^ positions - 1 - n)) (shifted_one k position)
        ∙ set_of-is (λ j. has set j && not (eqb j k)) (bit_and set others) (and-fits others)
        (λ j h. has-and set others j
        ∙ ap (λ b. has set j && b) (has-not positions (2 ^ k) j (pow-lt position) h ∙ ap not (has_one k j)))

    pub below-and : bit_and set (1 * 2 ^ k % 2 ^ positions - 1) ≡ below set k
    unfolding below
    below-and =
        ap (λ n. bit_and set (n - 1)) (shifted_one k position)
        ∙ set_of-is (λ j. has set j && ltb j k) (bit_and set (2 ^ k - 1)) (and-fits (2 ^ k - 1))
        (λ j h. has-and set (2 ^ k - 1) j ∙ ap (λ b. has set j && b) (has-ones k j))

    pub from-and : bit_and set (2 ^ positions - 1 - (1 * 2 ^ k % 2 ^ positions - 1)) ≡ from set k
    unfolding from
    from-and =
        let others = 2 ^ positions - 1 - (2 ^ k - 1) in
        let few : 2 ^ k - 1 < 2 ^ positions = omega (arith, ones_lt k, pow-lt position) in
        ap (λ n. bit_and set (2 ^ positions - 1 - (n - 1))) (shifted_one k position)
        ∙ set_of-is (λ j. has set j && not (ltb j k)) (bit_and set others) (and-fits others)
        (λ j h. has-and set others j
        ∙ ap (λ b. has set j && b) (has-not positions (2 ^ k - 1) j few h ∙ ap not (has-ones k j)))

  pub from_less : (k : ℕ) → k < positions → from set k ≤ set
  from_less k position =
      omega (arith, from-and k position, and_le_l set (2 ^ positions - 1 - (1 * 2 ^ k % 2 ^ positions - 1)))

  -- those before a position, and those from it on pushed by one
  pub opened-or : (k : ℕ) → k < positions → set < 2 ^ 63 → bit_or (below set k) (pushed (from set k) false) ≡ opened set k
  unfolding opened below
  opened-or k position room =
      set_of-is (λ j. (has set j && ltb j k) || (ltb k j && has set (j - 1)))
      (bit_or (below set k) (pushed (from set k) false))
      (or_lt positions (below set k) (pushed (from set k) false) below-fits pushed-fits)
      (λ j h. has-or (below set k) (pushed (from set k) false) j ∙ ap₂ ◌||◌ (has-below set k j h) (later j h))
    where
      below-fits : below set k < 2 ^ positions
      below-fits = set_of-lt (λ j. has set j && ltb j k)

      pushed-fits : pushed (from set k) false < 2 ^ positions
      pushed-fits = omega (arith, from_less k position, room)

      later : (j : ℕ) → j < positions → has (pushed (from set k) false) j ≡ (ltb k j && has set (j - 1))
      later zero h =
          has-pushed-first (from set k) false ∙ sym (ap (λ b. b && has set (0 - 1)) (le-ltb k 0 (omega arith)))
      later (suc j) h =
          let back : suc j - 1 ≡ j = omega arith in
          has-pushed (from set k) false j
          ∙ has-from set k j (omega arith)
          ∙ go (ltb j k) refl
          ∙ ap (λ i. ltb k (suc j) && has set i) (sym back)
        where
          go : (b : Bool) → ltb j k ≡ b → (has set j && not (ltb j k)) ≡ (ltb k (suc j) && has set j)
          go true e =
              let less = ltb-true j k e in
              ap (λ b. has set j && not b) e
              ∙ and_false_r (has set j) false refl
              ∙ sym (ap (λ b. b && has set j) (le-ltb k (suc j) (omega arith)))
          go false e =
              let more = ltb-false j k e in
              ap (λ b. has set j && not b) e
              ∙ and-true (has set j)
              ∙ sym (ap (λ b. b && has set j) (lt-ltb k (suc j) (omega arith)))

  pub minus-and : (b : ℕ) → b < 2 ^ positions → bit_and set (2 ^ positions - 1 - b) ≡ minus set b
  unfolding minus
  minus-and b small =
      set_of-is (λ j. has set j && not (has b j)) (bit_and set (2 ^ positions - 1 - b)) (and-fits (2 ^ positions - 1 - b))
      (λ j h. has-and set (2 ^ positions - 1 - b) j ∙ ap (λ t. has set j && t) (has-not positions b j small h))

  pub both-and : (b : ℕ) → bit_and set b ≡ both set b
  unfolding both
  both-and b = set_of-is (λ j. has set j && has b j) (bit_and set b) (and-fits b) (λ j h. has-and set b j)

  pub either-or : (b : ℕ) → b < 2 ^ positions → bit_or set b ≡ either set b
  unfolding either
  either-or b small =
      set_of-is (λ j. has set j || has b j) (bit_or set b) (or_lt positions set b fits small) (λ j h. has-or set b j)

  pub size-ones : ones set ≡ size_of set
  unfolding size_of members up_to
  size-ones = ones-count positions set fits ∙ sym (length-keep (has set) _)

-- two sets together have no member if neither has
pub or-none : (a b : ℕ) → eqb (bit_or a b) 0 ≡ (eqb a 0 && eqb b 0)
or-none a b =
    same (eqb (bit_or a b) 0) (eqb a 0 && eqb b 0)
    (λ h.
    let none : bit_or a b ≡ 0 = eqb-true (bit_or a b) 0 h in
    and_i (eqb a 0) (eqb b 0) (eq-eqb a 0 (omega (arith, or_add_and a b, and_le_l a b, and_le_r a b)))
    (eq-eqb b 0 (omega (arith, or_add_and a b, and_le_l a b, and_le_r a b))))
    (λ h.
    eq-eqb (bit_or a b) 0
    (ap₂ bit_or (eqb-true a 0 (and_l (eqb a 0) (eqb b 0) h)) (eqb-true b 0 (and_r (eqb a 0) (eqb b 0) h)) ∙ or_zero_l 0))

-- of the members of a third set, likewise
pub or-none-of : (d a b m : ℕ) → m < 2 ^ d → eqb (bit_and (bit_or a b) m) 0 ≡ (eqb (bit_and a m) 0 && eqb (bit_and b m) 0)
or-none-of d a b m h =
    ap (λ n. eqb n 0)
    (same-members d (bit_and (bit_or a b) m) (bit_or (bit_and a m) (bit_and b m)) (few (bit_or a b))
    (or_lt d (bit_and a m) (bit_and b m) (few a) (few b))
    (λ j l. has-and (bit_or a b) m j
    ∙ ap (λ t. t && has m j) (has-or a b j)
    ∙ and-or_distrib_right (has a j) (has b j) (has m j)
    ∙ ap₂ ◌||◌ (sym (has-and a m j)) (sym (has-and b m j))
    ∙ sym (has-or (bit_and a m) (bit_and b m) j)))
    ∙ or-none (bit_and a m) (bit_and b m)
  where
    few : (n : ℕ) → bit_and n m < 2 ^ d
    few n = omega (arith, and_le_r n m)
