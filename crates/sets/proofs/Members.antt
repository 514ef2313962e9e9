-- The laws of sets by their members.
--     has-set_from, has-set_of, set_of-is      the members of the set at which a test holds, and when a set is that one
--     set_from-lt, set_from-ext               its size as a number, and by what it is known
--     minus-set_from, both-, either-set_from  the difference of two such sets, what they share, and what either has
--     has-with_one, .., has-from             the members of the sets that the code makes
--     first-is, first-before, first_member  what the first member is
--     members-none, members-cons            the members of the empty set; of another, the first and those of the rest
--     members-in, in_members                which numbers are listed
--     members-rising                        in which order
--     members-set_from, set_from-full, -empty the numbers of a run that pass a test, and whether all do, or none
--     members-with                          with a position behind them all
--     Visited, visited-..                   a loop over a set: the members passed, rising, and those left
use mathlib.Core.Path.{◌≡◌, refl, sym, ap, ap₂, ◌∙◌, subst}
use mathlib.Core.Bool.{Bool, true, false, not, cond, ◌&&◌, ◌||◌, and-true, or-false, and-or_distrib_left}
use mathlib.Core.Logic.{◌⊎◌, inl, inr, ◌≢◌}
use mathlib.Core.List.{List, [], ◌∷◌, ◌++◌, map, append_assoc, append-nil}
use mathlib.Core.List.Memᴰ
use mathlib.Core.List.{Memᴰ}
use Prim.Native.Nat.{ℕ, zero, suc, ◌+◌, ◌-◌, ◌*◌, ◌/◌, ◌%◌, ◌^◌, ◌≤◌, ◌<◌}
use native.Mathlib.Nat.{pow-suc, add-zero, zero-add}
use native.Mathlib.Numerals.{add-one}
use native.Mathlib.Omega.{arith}
use borrow.Author.Tests.{lt-ltb, le-ltb, ltb-true, ltb-false, eq-eqb, ne_eqb, eqb-true}
use lib.Bits.{bit_and, and_le_l, and_le_r}
use lib.Count.{count_trailing_zeros, trailing_le, ones, ones_step}
use lib.Dec.{eqb, ltb, leb-suc-suc, leb-zero, leb-suc-zero}
use lib.ListN.{length, length-map}
use lib.Pow.{pow_mono}
use Rattle.laws.specs.Lists.{keep, none?, all?, count, pairwise, numbers_from, up_to}
use Rattle.laws.proofs.Tests.{either as passes, same, by-pass, by-fail, and_i, and-false-l, and_false_r, or_r}
use Rattle.laws.proofs.Lists.{keep_append, keep-pass, keep-fail, keep_all, keep-none, keep-ext, keep-map, keep-mem}
use Rattle.laws.proofs.Lists.{mem-keep, none?-i, all?-i}
use Rattle.laws.proofs.Compared.{Compared, below as lower, equal as alike, above as higher, compare}
use Rattle.laws.proofs.Pairwise.{pairwise-keep}
use Rattle.laws.proofs.Count.{count-cons, count-ext, count_map, length-keep-lt}
use Rattle.laws.proofs.Numbers.{numbers_from-add, numbers_from-mem, mem-numbers_from, length-numbers_from}
use Rattle.sets.specs.Sets.{positions, has, pushed, set_from, set_of, minus, both}
use Rattle.sets.specs.Sets.{members, head_or, first_of, either, size_of}
use Rattle.sets.proofs.Digits.{has-zero, has-suc, has-past, same-members, has-and, has-pred, digit, half_lt}
use Rattle.sets.proofs.Digits.{trailing-none, trailing-member}
use Rattle.sets.specs.Code.{with_one, without_one, below, from, opened, rest_of}

------------------------------------------------------------------------
-- the set of the positions at which a test holds

pushed-half : (set : ℕ) (member : Bool) → pushed set member / 2 ≡ set
pushed-half set true = omega arith
pushed-half set false = omega arith

pushed-last : (set : ℕ) (member : Bool) → eqb (pushed set member % 2) 1 ≡ member
pushed-last set true = let odd : (2 * set + 1) % 2 ≡ 1 = omega arith in ap (λ n. eqb n 1) odd
pushed-last set false = let even : (2 * set + 0) % 2 ≡ 0 = omega arith in ap (λ n. eqb n 1) even

-- what is pushed stands one position later
pub has-pushed : (set : ℕ) (member : Bool) (j : ℕ) → has (pushed set member) (suc j) ≡ has set j
has-pushed set member j = has-suc (pushed set member) j ∙ ap (λ s. has s j) (pushed-half set member)

pub has-pushed-first : (set : ℕ) (member : Bool) → has (pushed set member) 0 ≡ member
has-pushed-first set member = has-zero (pushed set member) ∙ pushed-last set member

pub has-set_from : (p : ℕ → Bool) (k n j : ℕ) → has (set_from p k n) j ≡ (ltb j n && p (k + j))
unfolding set_from
has-set_from p k zero j = has-past 0 0 j (omega arith) (omega arith) ∙ ap (λ b. b && p (k + j)) (sym (leb-suc-zero j))
has-set_from p k (suc n) zero =
    has-pushed-first (set_from p (k + 1) n) (p k)
    ∙ ap₂ (λ b i. b && p i) (sym (leb-suc-suc 0 n ∙ leb-zero n)) (sym (add-zero k))
has-set_from p k (suc n) (suc j) =
    let next : k + 1 + j ≡ k + suc j = omega arith in
    has-pushed (set_from p (k + 1) n) (p k) j
    ∙ has-set_from p (k + 1) n j
    ∙ ap₂ (λ b i. b && p i) (sym (leb-suc-suc (suc j) n)) next

pub set_from-lt : (p : ℕ → Bool) (k n : ℕ) → set_from p k n < 2 ^ n
unfolding set_from
set_from-lt p k zero = omega arith
set_from-lt p k (suc n) = twice (p k) (set_from-lt p (k + 1) n)
  where
    twice : (b : Bool) → set_from p (k + 1) n < 2 ^ n → pushed (set_from p (k + 1) n) b < 2 ^ suc n
    twice true h = omega (arith, pow-suc 2 n)
    twice false h = omega (arith, pow-suc 2 n)

-- a pass from the last position to the first pushes each
pub set_back : (p : ℕ → Bool) (k to : ℕ) → 0 < k → k ≤ to
    → pushed (set_from p k (to - k)) (p (k - 1)) ≡ set_from p (k - 1) (to - (k - 1))
unfolding set_from
set_back p k to some h =
    let back : k ≡ k - 1 + 1 = omega arith in
    let size : suc (to - k) ≡ to - (k - 1) = omega arith in
    ap (λ j. pushed (set_from p j (to - k)) (p (k - 1))) back ∙ ap (set_from p (k - 1)) size

pub set_from-ext : (p q : ℕ → Bool) (k n : ℕ) → ((j : ℕ) → j < n → p (k + j) ≡ q (k + j)) → set_from p k n ≡ set_from q k n
set_from-ext p q k n same =
    same-members n (set_from p k n) (set_from q k n) (set_from-lt p k n) (set_from-lt q k n)
    (λ j h. has-set_from p k n j ∙ ap (λ b. ltb j n && b) (same j h) ∙ sym (has-set_from q k n j))

module _ (p : ℕ → Bool) where
  pub has-set_of : (j : ℕ) → j < positions → has (set_of p) j ≡ p j
  unfolding set_of
  has-set_of j h = has-set_from p 0 positions j ∙ ap₂ (λ b i. b && p i) (lt-ltb j positions h) (zero-add j)

  pub set_of-lt : set_of p < 2 ^ positions
  unfolding set_of
  set_of-lt = set_from-lt p 0 positions

  -- a set whose members are the positions at which the test holds
  pub set_of-is : (set : ℕ) → set < 2 ^ positions → ((j : ℕ) → j < positions → has set j ≡ p j) → set ≡ set_of p
  set_of-is set h same =
      same-members positions set (set_of p) h set_of-lt (λ j k. same j k ∙ sym (has-set_of j k))

-- a set of fewer positions is one of them all
pub set_from-fits : (p : ℕ → Bool) (k n : ℕ) → n ≤ positions → set_from p k n < 2 ^ positions
set_from-fits p k n h = let most : 2 ^ n ≤ 2 ^ positions = pow_mono h in omega (arith, set_from-lt p k n)

pub minus-set_from : (p q : ℕ → Bool) (k n : ℕ) → n ≤ positions
    → minus (set_from p k n) (set_from q k n) ≡ set_from (λ i. p i && not (q i)) k n
unfolding minus
minus-set_from p q k n h =
    sym (set_of-is _ (set_from (λ i. p i && not (q i)) k n) (set_from-fits (λ i. p i && not (q i)) k n h)
    (λ j l. has-set_from (λ i. p i && not (q i)) k n j
    ∙ go (ltb j n) (p (k + j)) (q (k + j))
    ∙ ap₂ (λ b c. b && not c) (sym (has-set_from p k n j)) (sym (has-set_from q k n j))))
  where
    go : (b x y : Bool) → (b && (x && not y)) ≡ ((b && x) && not (b && y))
    go true x y = refl
    go false x y = refl

pub both-set_from : (p q : ℕ → Bool) (k n : ℕ) → n ≤ positions
    → both (set_from p k n) (set_from q k n) ≡ set_from (λ i. p i && q i) k n
unfolding both
both-set_from p q k n h =
    sym (set_of-is _ (set_from (λ i. p i && q i) k n) (set_from-fits (λ i. p i && q i) k n h)
    (λ j l. has-set_from (λ i. p i && q i) k n j
    ∙ go (ltb j n) (p (k + j)) (q (k + j))
    ∙ ap₂ ◌&&◌ (sym (has-set_from p k n j)) (sym (has-set_from q k n j))))
  where
    go : (b x y : Bool) → (b && (x && y)) ≡ ((b && x) && (b && y))
    go true x y = refl
    go false x y = refl

pub either-set_from : (p q : ℕ → Bool) (k n : ℕ) → n ≤ positions
    → either (set_from p k n) (set_from q k n) ≡ set_from (λ i. p i || q i) k n
unfolding either
either-set_from p q k n h =
    sym (set_of-is _ (set_from (λ i. p i || q i) k n) (set_from-fits (λ i. p i || q i) k n h)
    (λ j l. has-set_from (λ i. p i || q i) k n j
    ∙ and-or_distrib_left (ltb j n) (p (k + j)) (q (k + j))
    ∙ ap₂ ◌||◌ (sym (has-set_from p k n j)) (sym (has-set_from q k n j))))

-- each position by the sets and the position that a set is made of
module _ (set k j : ℕ) (position : j < positions) where
  pub has-with_one : has (with_one set k) j ≡ (has set j || eqb j k)
  unfolding with_one
  has-with_one = has-set_of (λ j. has set j || eqb j k) j position

  pub has-without_one : has (without_one set k) j ≡ (has set j && not (eqb j k))
  unfolding without_one
  has-without_one = has-set_of (λ j. has set j && not (eqb j k)) j position

  pub has-below : has (below set k) j ≡ (has set j && ltb j k)
  unfolding below
  has-below = has-set_of (λ j. has set j && ltb j k) j position

  pub has-from : has (from set k) j ≡ (has set j && not (ltb j k))
  unfolding from
  has-from = has-set_of (λ j. has set j && not (ltb j k)) j position

pub with_one-lt : (set k : ℕ) → with_one set k < 2 ^ positions
unfolding with_one
with_one-lt set k = set_of-lt (λ j. has set j || eqb j k)

-- opened at a position: before it, at it, behind it
module _ (set k : ℕ) where
  has-opened : (j : ℕ) → j < positions → has (opened set k) j ≡ ((has set j && ltb j k) || (ltb k j && has set (j - 1)))
  unfolding opened
  has-opened j h = has-set_of (λ j. (has set j && ltb j k) || (ltb k j && has set (j - 1))) j h

  pub opened-lt : opened set k < 2 ^ positions
  unfolding opened
  opened-lt = set_of-lt (λ j. (has set j && ltb j k) || (ltb k j && has set (j - 1)))

  pub opened-before : (j : ℕ) → j < positions → j < k → has (opened set k) j ≡ has set j
  opened-before j h l =
      has-opened j h
      ∙ ap₂ (λ x y. (has set j && x) || (y && has set (j - 1))) (lt-ltb j k l) (le-ltb k j (omega arith))
      ∙ or-false (has set j && true)
      ∙ and-true (has set j)

  pub opened-at : k < positions → has (opened set k) k ≡ false
  opened-at h =
      has-opened k h
      ∙ ap (λ x. (has set k && x) || (x && has set (k - 1))) (le-ltb k k (omega arith))
      ∙ or-false (has set k && false)
      ∙ and_false_r (has set k) false refl

  pub opened-behind : (j : ℕ) → suc j < positions → k ≤ j → has (opened set k) (suc j) ≡ has set j
  opened-behind j h l =
      let back : suc j - 1 ≡ j = omega arith in
      has-opened (suc j) h
      ∙ ap₂ (λ x y. (has set (suc j) && x) || (y && has set (suc j - 1))) (le-ltb (suc j) k (omega arith))
      (lt-ltb k (suc j) (omega arith))
      ∙ ap (λ x. x || has set (suc j - 1)) (and_false_r (has set (suc j)) false refl)
      ∙ ap (has set) back

-- a test that holds of the positions from one on as another does of those before them
module _ (p q : ℕ → Bool) (k n j : ℕ) (few : n < positions) (inside : j ≤ n)
    (before : (i : ℕ) → i < j → q (k + i) ≡ p (k + i)) (behind : (i : ℕ) → j ≤ i → i < n → q (k + suc i) ≡ p (k + i)) where
  in-new : (i : ℕ) → has (set_from q k (suc n)) i ≡ (ltb i (suc n) && q (k + i))
  in-new i = has-set_from q k (suc n) i

  -- a position other than the new one
  other : (i : ℕ) → i < positions → i ≢ j → has (set_from q k (suc n)) i ≡ has (opened (set_from p k n) j) i
  other i h d = go i h d (compare i j)
    where
      go : (i : ℕ) → i < positions → i ≢ j → Compared i j
          → has (set_from q k (suc n)) i ≡ has (opened (set_from p k n) j) i
      go i h d (lower l) =
          in-new i
          ∙ ap₂ ◌&&◌ (lt-ltb i (suc n) (omega arith)) (before i l)
          ∙ sym (has-set_from p k n i ∙ ap (λ b. b && p (k + i)) (lt-ltb i n (omega arith)))
          ∙ sym (opened-before (set_from p k n) j i h l)
      go i h d (alike e) = absurd (d e)
      go zero h d (higher l) = absurd (omega arith)
      go (suc i) h d (higher l) =
          in-new (suc i)
          ∙ by (compare i n)
          ∙ sym (has-set_from p k n i)
          ∙ sym (opened-behind (set_from p k n) j i h (omega arith))
        where
          past : n ≤ i → (ltb (suc i) (suc n) && q (k + suc i)) ≡ (ltb i n && p (k + i))
          past m =
              ap (λ b. b && q (k + suc i)) (le-ltb (suc i) (suc n) (omega arith))
              ∙ sym (ap (λ b. b && p (k + i)) (le-ltb i n m))

          by : Compared i n → (ltb (suc i) (suc n) && q (k + suc i)) ≡ (ltb i n && p (k + i))
          by (lower m) = ap₂ ◌&&◌ (lt-ltb (suc i) (suc n) (omega arith) ∙ sym (lt-ltb i n m)) (behind i (omega arith) m)
          by (alike m) = past (omega arith)
          by (higher m) = past (omega arith)

  here : has (set_from q k (suc n)) j ≡ q (k + j)
  here = in-new j ∙ ap (λ b. b && q (k + j)) (lt-ltb j (suc n) (omega arith))

  new-fits : set_from q k (suc n) < 2 ^ positions
  new-fits = set_from-fits q k (suc n) (omega arith)

  -- the new position is not a member, or it is
  pub open-without : q (k + j) ≡ false → set_from q k (suc n) ≡ opened (set_from p k n) j
  open-without off =
      same-members positions (set_from q k (suc n)) (opened (set_from p k n) j) new-fits (opened-lt (set_from p k n) j)
      (λ i h. go i h (compare i j))
    where
      go : (i : ℕ) → i < positions → Compared i j → has (set_from q k (suc n)) i ≡ has (opened (set_from p k n) j) i
      go i h (lower l) = other i h (omega arith)
      go i h (alike e) =
          ap (has (set_from q k (suc n))) e
          ∙ here
          ∙ off
          ∙ sym (ap (has (opened (set_from p k n) j)) e ∙ opened-at (set_from p k n) j (omega arith))
      go i h (higher l) = other i h (omega arith)

  pub open-with : q (k + j) ≡ true → set_from q k (suc n) ≡ with_one (opened (set_from p k n) j) j
  open-with on =
      same-members positions (set_from q k (suc n)) (with_one (opened (set_from p k n) j) j) new-fits
      (with_one-lt (opened (set_from p k n) j) j) (λ i h. go i h (compare i j))
    where
      kept : (i : ℕ) → i < positions → i ≢ j
          → has (set_from q k (suc n)) i ≡ has (with_one (opened (set_from p k n) j) j) i
      kept i h d =
          other i h d
          ∙ sym (has-with_one (opened (set_from p k n) j) j i h
          ∙ ap (λ b. has (opened (set_from p k n) j) i || b) (ne_eqb i j d)
          ∙ or-false (has (opened (set_from p k n) j) i))

      go : (i : ℕ) → i < positions → Compared i j
          → has (set_from q k (suc n)) i ≡ has (with_one (opened (set_from p k n) j) j) i
      go i h (lower l) = kept i h (omega arith)
      go i h (alike e) =
          ap (has (set_from q k (suc n))) e
          ∙ here
          ∙ on
          ∙ sym (has-with_one (opened (set_from p k n) j) j i h
          ∙ or_r (has (opened (set_from p k n) j) i) (eqb i j) (eq-eqb i j e))
      go i h (higher l) = kept i h (omega arith)

------------------------------------------------------------------------
-- members

-- the positions after one
abbrev after : ℕ → List ℕ
after f = numbers_from (f + 1) (positions - 1 - f)

positions-split : (f : ℕ) → f < positions → up_to positions ≡ numbers_from 0 f ++ (f ∷ after f)
unfolding up_to numbers_from
positions-split f h =
    let size : positions ≡ f + suc (positions - 1 - f) = omega arith in
    ap (numbers_from 0) size
    ∙ numbers_from-add 0 f (suc (positions - 1 - f))
    ∙ ap (λ k. numbers_from 0 f ++ numbers_from k (suc (positions - 1 - f))) (zero-add f)

members-split : (set f : ℕ) → f < positions
    → members set ≡ keep (has set) (numbers_from 0 f) ++ keep (has set) (f ∷ after f)
unfolding members
members-split set f h = ap (keep (has set)) (positions-split f h) ∙ keep_append (has set) (numbers_from 0 f) (f ∷ after f)

module _ (set f : ℕ) (position : f < positions) (before : (j : ℕ) → j < f → has set j ≡ false) where
  members-later : members set ≡ keep (has set) (f ∷ after f)
  members-later =
      members-split set f position
      ∙ ap (λ l. l ++ keep (has set) (f ∷ after f))
      (keep-none (has set) (numbers_from 0 f)
      (none?-i (has set) (numbers_from 0 f) (λ j m. before j (omega (arith, mem-numbers_from 0 f m)))))

  first-member-list : has set f ≡ true → members set ≡ f ∷ keep (has set) (after f)
  first-member-list member = members-later ∙ keep-pass (has set) f (after f) member

-- no position before f is a member, and f is, if it is a position
module _ (set f : ℕ) (position : f ≤ positions) (before : (j : ℕ) → j < f → has set j ≡ false)
    (member : f < positions → has set f ≡ true) where
  pub first-is : first_of set ≡ f
  unfolding first_of members up_to
  first-is = go (passes (ltb f positions))
    where
      go : (ltb f positions ≡ true) ⊎ (ltb f positions ≡ false) → first_of set ≡ f
      go (inl t) =
          let inside : f < positions = ltb-true f positions t in
          ap (head_or positions) (first-member-list set f inside before (member inside))
      go (inr t) =
          let end : f ≡ positions = omega (arith, ltb-false f positions t) in
          ap (head_or positions)
          (keep-none (has set) (numbers_from 0 positions)
          (none?-i (has set) (numbers_from 0 positions)
          (λ j m. before j (omega (arith, mem-numbers_from 0 positions m)))))
          ∙ sym end

pub first-trailing : (set : ℕ) → count_trailing_zeros positions set ≡ first_of set
first-trailing set =
    sym (first-is set (count_trailing_zeros positions set) (trailing_le positions set) (trailing-none positions set)
    (trailing-member positions set))

pub first-before : (set j : ℕ) → j < first_of set → has set j ≡ false
first-before set j h = trailing-none positions set j (omega (arith, first-trailing set))

-- a set that is not empty
module _ (set : ℕ) (some : 0 < set) (fits : set < 2 ^ positions) where
  pub first-position : first_of set < positions
  first-position = go (passes (ltb (first_of set) positions))
    where
      go : (ltb (first_of set) positions ≡ true) ⊎ (ltb (first_of set) positions ≡ false) → first_of set < positions
      go (inl t) = ltb-true (first_of set) positions t
      go (inr t) =
          let none : set ≡ 0 =
          same-members positions set 0 fits (omega arith)
          (λ j h. first-before set j (omega (arith, ltb-false (first_of set) positions t))
          ∙ sym (has-past 0 0 j (omega arith) (omega arith))) in
          absurd (omega arith)

  pub first_member : has set (first_of set) ≡ true
  first_member =
      ap (has set) (sym (first-trailing set))
      ∙ trailing-member positions set (omega (arith, first-trailing set, first-position))

  pub rest-and : bit_and set (set - 1) ≡ rest_of set
  unfolding rest_of without_one
  rest-and =
      set_of-is (λ j. has set j && not (eqb j (first_of set))) (bit_and set (set - 1))
      (omega (arith, and_le_l set (set - 1)))
      (λ j h. has-and set (set - 1) j
      ∙ has-pred positions set j some fits
      ∙ ap (λ f. has set j && not (eqb j f)) (first-trailing set))

  pub rest-less : rest_of set < set
  rest-less = omega (arith, rest-and, and_le_r set (set - 1))

  has-rest_of : (j : ℕ) → j < positions → has (rest_of set) j ≡ (has set j && not (eqb j (first_of set)))
  unfolding rest_of without_one
  has-rest_of = has-set_of (λ j. has set j && not (eqb j (first_of set)))

  pub members-cons : members set ≡ first_of set ∷ members (rest_of set)
  members-cons =
      let f = first_of set in
      first-member-list set f first-position (first-before set) first_member
      ∙ ap (λ l. f ∷ l)
      (keep-ext (has set) (has (rest_of set)) (after f) behind
      ∙ sym
      (members-later (rest_of set) f first-position
      (λ j h. has-rest_of j (omega (arith, first-position))
      ∙ and-false-l (has set j) (not (eqb j f)) (first-before set j h))
      ∙ keep-fail (has (rest_of set)) f (after f)
      (has-rest_of f first-position ∙ and_false_r (has set f) (not (eqb f f)) (ap not (eq-eqb f f refl)))))
    where
      behind : (j : ℕ) → Memᴰ j (after (first_of set))
          → has set j ≡ has (rest_of set) j
      behind j m =
          let b = mem-numbers_from (first_of set + 1) (positions - 1 - first_of set) m in
          let other : j ≡ first_of set → ⊥ = λ e. omega arith in
          sym
          (has-rest_of j (omega (arith, first-position))
          ∙ ap (λ b. has set j && not b) (ne_eqb j (first_of set) other)
          ∙ and-true (has set j))

pub members-none : members 0 ≡ []
unfolding members
members-none =
    keep-none (has 0) (up_to positions)
    (none?-i (has 0) (up_to positions) (λ j m. has-past 0 0 j (omega arith) (omega arith)))

pub members-in : (set j : ℕ) → j < positions → has set j ≡ true → Memᴰ j (members set)
unfolding members up_to
members-in set j h member = keep-mem (has set) (numbers_from-mem 0 positions (omega arith) (omega arith)) member

pub in_members : (set : ℕ) {j : ℕ} → Memᴰ j (members set) → (j < positions) × (has set j ≡ true)
unfolding members up_to
in_members set m =
    let k = mem-keep (has set) (numbers_from 0 positions) m in
    (omega (arith, mem-numbers_from 0 positions k.0), k.1)

pub numbers_from-rising : (k n : ℕ) → pairwise ltb (numbers_from k n) ≡ true
unfolding numbers_from pairwise
numbers_from-rising k zero = refl
numbers_from-rising k (suc n) =
    and_i (all? (ltb k) (numbers_from (k + 1) n)) (pairwise ltb (numbers_from (k + 1) n))
    (all?-i (ltb k) (numbers_from (k + 1) n) (λ j m. lt-ltb k j (omega (arith, mem-numbers_from (k + 1) n m))))
    (numbers_from-rising (k + 1) n)

pub members-rising : (set : ℕ) → pairwise ltb (members set) ≡ true
unfolding members up_to
members-rising set = pairwise-keep ltb (has set) (numbers_from 0 positions) (numbers_from-rising 0 positions)

-- the numbers from k on, by their distance from it
pub numbers_from-shift : (k a n : ℕ) → map (λ j. k + j) (numbers_from a n) ≡ numbers_from (k + a) n
unfolding numbers_from
numbers_from-shift k a zero = refl
numbers_from-shift k a (suc n) =
    let next : k + (a + 1) ≡ k + a + 1 = omega arith in
    ap (λ l. (k + a) ∷ l) (numbers_from-shift k (a + 1) n ∙ ap (λ b. numbers_from b n) next)

pub members-set_from : (p : ℕ → Bool) (k n : ℕ) → n ≤ positions
    → map (λ j. k + j) (members (set_from p k n)) ≡ keep p (numbers_from k n)
unfolding members up_to
members-set_from p k n h =
    let set = set_from p k n in
    let size : positions ≡ n + (positions - n) = omega arith in
    let all : members set ≡ keep (λ j. p (k + j)) (numbers_from 0 n) =
    ap (λ m. keep (has set) (numbers_from 0 m)) size
    ∙ ap (keep (has set)) (numbers_from-add 0 n (positions - n))
    ∙ keep_append (has set) (numbers_from 0 n) (numbers_from (0 + n) (positions - n))
    ∙ ap₂ ◌++◌
    (keep-ext (has set) (λ j. p (k + j)) (numbers_from 0 n)
    (λ j m. has-set_from p k n j ∙ ap (λ b. b && p (k + j)) (lt-ltb j n (omega (arith, mem-numbers_from 0 n m)))))
    (keep-none (has set) (numbers_from (0 + n) (positions - n))
    (none?-i (has set) (numbers_from (0 + n) (positions - n))
    (λ j m. has-set_from p k n j
    ∙ ap (λ b. b && p (k + j)) (le-ltb j n (omega (arith, mem-numbers_from (0 + n) (positions - n) m))))))
    ∙ append-nil (keep (λ j. p (k + j)) (numbers_from 0 n)) in
    ap (map (λ j. k + j)) all
    ∙ sym (keep-map p (λ j. k + j) (numbers_from 0 n))
    ∙ ap (keep p) (numbers_from-shift k 0 n ∙ ap (λ b. numbers_from b n) (add-zero k))

-- it is full, as many as there are numbers in the run, exactly if each passes
pub set_from-full : (p : ℕ → Bool) (k n : ℕ) → n ≤ positions
    → eqb (size_of (set_from p k n)) n ≡ all? p (numbers_from k n)
unfolding size_of
set_from-full p k n h =
    let run = numbers_from k n in
    let set = set_from p k n in
    let many : length run ≡ n = length-numbers_from k n in
    let kept : length (members set) ≡ length (keep p run) =
    sym (length-map (members set) (λ j. k + j)) ∙ ap length (members-set_from p k n h) in
    same (eqb (length (members set)) n) (all? p run)
    (λ t.
    all?-i p run
    (λ j m. by-pass (p j) (λ f. omega (arith, eqb-true (length (members set)) n t, length-keep-lt p m f))))
    (λ t. eq-eqb (length (members set)) n (kept ∙ ap length (keep_all p run t) ∙ many))

-- it is empty exactly if none passes
pub set_from-empty : (p : ℕ → Bool) (k n : ℕ) → eqb (set_from p k n) 0 ≡ none? p (numbers_from k n)
unfolding set_from numbers_from none?
set_from-empty p k zero = refl
set_from-empty p k (suc n) =
    step (p k) (set_from p (k + 1) n) ∙ ap (λ b. not (p k) && b) (set_from-empty p (k + 1) n)
  where
    step : (b : Bool) (set : ℕ) → eqb (pushed set b) 0 ≡ not b && eqb set 0
    step true set = ne_eqb (2 * set + 1) 0 (omega arith)
    step false set =
        same (eqb (2 * set + 0) 0) (eqb set 0)
        (λ t. eq-eqb set 0 (omega (arith, eqb-true (2 * set + 0) 0 t)))
        (λ t. eq-eqb (2 * set + 0) 0 (omega (arith, eqb-true set 0 t)))

-- with a position behind them all
pub members-with : (set f : ℕ) → f < positions → ((j : ℕ) → Memᴰ j (members set) → j < f)
    → members (with_one set f) ≡ members set ++ (f ∷ [])
members-with set f position behind =
    members-split new f position
    ∙ ap₂ ◌++◌ (keep-ext (has new) (has set) (numbers_from 0 f) before)
    (keep-pass (has new) f (after f) here
    ∙ ap (λ l. f ∷ l) (keep-none (has new) (after f) (none?-i (has new) (after f) (λ j m. later j (mem-after m)))))
    ∙ sym (ap (λ l. l ++ (f ∷ [])) all)
  where
    new : ℕ
    new = with_one set f

    mem-after : {j : ℕ} → Memᴰ j (after f) → (f < j) × (j < positions)
    mem-after m =
        let b = mem-numbers_from (f + 1) (positions - 1 - f) m in
        (omega (arith, b.0), omega (arith, b.1))

    none : (j : ℕ) → f ≤ j → j < positions → has set j ≡ false
    none j l p = by-fail (has set j) (λ t. omega (arith, behind j (members-in set j p t)))

    before : (j : ℕ) → Memᴰ j (numbers_from 0 f) → has new j ≡ has set j
    before j m =
        let b : j < f = omega (arith, mem-numbers_from 0 f m) in
        has-with_one set f j (omega arith)
        ∙ ap (λ b. has set j || b) (ne_eqb j f (λ e. omega arith))
        ∙ or-false (has set j)

    here : has new f ≡ true
    here = has-with_one set f f position ∙ or_r (has set f) (eqb f f) (eq-eqb f f refl)

    later : (j : ℕ) → (f < j) × (j < positions) → has new j ≡ false
    later j (l, p) =
        has-with_one set f j p ∙ ap₂ ◌||◌ (none j (omega arith) p) (ne_eqb j f (λ e. omega arith))

    all : members set ≡ keep (has set) (numbers_from 0 f)
    all =
        members-split set f position
        ∙ ap (λ l. keep (has set) (numbers_from 0 f) ++ l)
        (keep-fail (has set) f (after f) (none f (omega arith) position)
        ∙ keep-none (has set) (after f)
        (none?-i (has set) (after f) (λ j m. let b = mem-after m in none j (omega (arith, b.0)) b.1)))
        ∙ append-nil (keep (has set) (numbers_from 0 f))

-- how many there are
numbers_from-suc : (k n : ℕ) → map suc (numbers_from k n) ≡ numbers_from (k + 1) n
unfolding numbers_from
numbers_from-suc k zero = refl
numbers_from-suc k (suc n) = ap₂ ◌∷◌ (sym (add-one k)) (numbers_from-suc (k + 1) n)

pub ones-count : (d set : ℕ) → set < 2 ^ d → ones set ≡ count (has set) (numbers_from 0 d)
unfolding numbers_from ones count
ones-count zero set h = let none : set ≡ 0 = omega arith in ap ones none
ones-count (suc d) set h =
    ones_step set
    ∙ ap₂ ◌+◌ (digit set ∙ ap (λ b. cond b 1 0) (sym (has-zero set)))
    (ones-count d (set / 2) (half_lt d set h)
    ∙ sym (count-ext (λ j. has set (suc j)) (has (set / 2)) (numbers_from 0 d) (λ j m. has-suc set j))
    ∙ sym (count_map (has set) suc (numbers_from 0 d))
    ∙ ap (count (has set)) (numbers_from-suc 0 d))
    ∙ sym (count-cons (has set) 0 (numbers_from 1 d))

------------------------------------------------------------------------
-- a loop over a set that takes the first of those left

pub record Visited (set : ℕ) (passed : List ℕ) (left : ℕ) : Type 0 where
  pub split : members set ≡ passed ++ members left
  pub fits : left < 2 ^ positions

pub visited-start : (set : ℕ) → set < 2 ^ positions → Visited set [] set
visited-start set h = record { split = refl; fits = h }

-- where some are left
module _ {set : ℕ} {passed : List ℕ} {left : ℕ} (v : Visited set passed left) (some : 0 < left) where
  pub visited-cons : members set ≡ passed ++ (first_of left ∷ members (rest_of left))
  visited-cons = v.split ∙ ap (λ l. passed ++ l) (members-cons left some v.fits)

  pub visited-next : Visited set (passed ++ (first_of left ∷ [])) (rest_of left)
  visited-next =
      record {
        split = visited-cons ∙ sym (append_assoc passed (first_of left ∷ []) (members (rest_of left)));
        fits = omega (arith, v.fits, rest-less left some v.fits);
      }

  -- the member at hand is one of the set
  pub visited-member : Memᴰ (first_of left) (members set)
  visited-member =
      subst (Memᴰ (first_of left)) (sym visited-cons) (Memᴰ.append_right passed (Memᴰ.head refl))

-- where none is left
pub visited-end : {set : ℕ} {passed : List ℕ} {left : ℕ} → Visited set passed left → left ≡ 0 → members set ≡ passed
visited-end {set} {passed} {left} v none =
    v.split ∙ ap (λ l. passed ++ l) (ap members none ∙ members-none) ∙ append-nil passed
