-- Laws of the numbers of candidates.
--     numbers_of-keep, numbers_of-mem, mem-numbers_of   of all 1,024 numbers they are those whose position is in the set
--     numbers_of-few, numbers_of-once                  at most 1,024, each once
--     numbers_of-without                              one is taken away
--     next-none, next-some                           the first of an input
--     ahead_at-.., over_at-..                          the two orders
--     next-proposed, proposed-next                   the proposals are the first of each input
use Prim.Native.Nat.{ℕ, zero, suc, ◌+◌, ◌*◌, ◌/◌, ◌%◌, ◌^◌, ◌≤◌, ◌<◌}
use native.Mathlib.Nat.{add-zero}
use native.Mathlib.Omega.{arith}
use mathlib.Core.Bool.{Bool, true, false, not, ◌&&◌, and-true}
use mathlib.Core.Path.{◌≡◌, refl, sym, ◌∙◌, ap, ap₂}
use mathlib.Core.Logic.{◌⊎◌, inl, inr, ◌≢◌}
use mathlib.Core.List.Memᴰ
use mathlib.Core.List.{List, [], ◌∷◌, ◌++◌, map, flatten, append-nil, Memᴰ}
use borrow.Author.Tests.{ltb-true, eqb-true, eqb-false, lt-ltb, le-ltb, eq-eqb, ne_eqb}
use lib.Dec.{ltb, eqb}
use lib.ListN.{length, get_or, length-set}
use lib.Seq.{get_or-set_same, get_or-set_other}
use Rattle.laws.specs.Lists.{keep, none?, count, pairwise, numbers_from, up_to}
use Rattle.laws.specs.Order.{Strict}
use Rattle.laws.proofs.Tests.{clash, by-fail, same, and_i, and_l, and_r, and_false_r, not-i}
use Rattle.laws.proofs.Lists.{none?-i, keep_append, keep-ext, keep-keep, keep-map, keep-mem, mem-keep, flatten-map-append}
use Rattle.laws.proofs.Count.{length-keep, count-le-length, count-pos}
use Rattle.laws.proofs.Pairwise.{pairwise-head, pairwise-keep, pairwise-mono, pairwise-le-one}
use Rattle.laws.proofs.Numbers.{length-numbers_from, numbers_from-mem, mem-numbers_from, numbers_from-more, numbers_from-add}
use Rattle.sets.specs.Sets.{has, members, head_or, first_of}
use Rattle.sets.proofs.Members.{has-without_one, members-none, members-cons, numbers_from-rising, numbers_from-shift}
use Rattle.cell.specs.declared.Cell.{Cell}
use Rattle.cell.specs.Order.{over}
use Rattle.cell.proofs.Order.{over-irrefl, over-trans, over-total}
use Rattle.layout.proofs.Records.{entry_at-input}
use Rattle.matching.specs.Matching.{proposed}
use Rattle.matching.proofs.Proposed.{proposed-keeps, mem-proposed-in, mem-proposed-first}
use Rattle.layout.specs.Table.{entry_limit}
use Rattle.layout.specs.Code.{ports_in}
use Rattle.layout_table.specs.CodeEntries.{nowhere}
use Rattle.slot_matching.specs.CodeFound.{numbers_in, numbers_of, ahead_at, cell_at, output_at, over_at}
use Rattle.slot_matching.specs.CodeProposing.{next_in, rest, without}

------------------------------------------------------------------------
-- which numbers they are

-- number k is a candidate
abbrev pub is_in : List ℕ → ℕ → Bool
is_in s k = has (get_or s (k / 64) 0) (k % 64)

module _ (s : List ℕ) where
  -- those of input i
  own : ℕ → List ℕ
  own i = numbers_in (get_or s i 0) i

  own-keep : (i : ℕ) → own i ≡ keep (is_in s) (numbers_from (64 * i) 64)
  unfolding own numbers_in members up_to
  own-keep i =
      ap (map (λ j. 64 * i + j)) (keep-ext (has (get_or s i 0)) (λ j. is_in s (64 * i + j)) (numbers_from 0 64) agree)
      ∙ sym (keep-map (is_in s) (λ j. 64 * i + j) (numbers_from 0 64))
      ∙ ap (keep (is_in s)) (numbers_from-shift (64 * i) 0 64 ∙ ap (λ k. numbers_from k 64) (add-zero (64 * i)))
    where
      agree : (j : ℕ) → Memᴰ j (numbers_from 0 64) → has (get_or s i 0) j ≡ is_in s (64 * i + j)
      agree j m =
          let small : j < 0 + 64 = (mem-numbers_from 0 64 m).1 in
          let d : i ≡ (64 * i + j) / 64 = omega arith in
          let r : j ≡ (64 * i + j) % 64 = omega arith in
          ap₂ (λ n b. has (get_or s n 0) b) d r

  own_to-keep : (n : ℕ) → flatten (map own (up_to n)) ≡ keep (is_in s) (up_to (64 * n))
  unfolding up_to numbers_from flatten keep
  own_to-keep zero = refl
  own_to-keep (suc n) =
      let more : 64 * n + 64 ≡ 64 * suc n = omega arith in
      let here : 0 + n ≡ n = omega arith in
      let there : 0 + 64 * n ≡ 64 * n = omega arith in
      ap (λ l. flatten (map own l)) (numbers_from-more 0 n)
      ∙ flatten-map-append own (numbers_from 0 n) ((0 + n) ∷ [])
      ∙ ap₂ ◌++◌ (own_to-keep n) (append-nil (own (0 + n)) ∙ ap own here ∙ own-keep n)
      ∙ ap (λ k. keep (is_in s) (numbers_from 0 (64 * n)) ++ keep (is_in s) (numbers_from k 64)) (sym there)
      ∙ sym (keep_append (is_in s) (numbers_from 0 (64 * n)) (numbers_from (0 + 64 * n) 64))
      ∙ ap (keep (is_in s)) (sym (numbers_from-add 0 (64 * n) 64) ∙ ap (numbers_from 0) more)

  pub numbers_of-keep : numbers_of s ≡ keep (is_in s) (up_to entry_limit)
  unfolding numbers_of own
  numbers_of-keep = own_to-keep 16

  pub numbers_of-mem : (k : ℕ) → k < entry_limit → is_in s k ≡ true → Memᴰ k (numbers_of s)
  unfolding up_to
  numbers_of-mem k b h = rw numbers_of-keep (keep-mem (is_in s) (numbers_from-mem 0 entry_limit (omega arith) b) h)

  pub mem-numbers_of : {k : ℕ} → Memᴰ k (numbers_of s) → (k < entry_limit) × (is_in s k ≡ true)
  unfolding up_to
  mem-numbers_of m =
      let w = mem-keep (is_in s) (numbers_from 0 entry_limit) (rw numbers_of-keep at m) in
      (omega (arith, mem-numbers_from 0 entry_limit w.0), w.1)

  pub numbers_of-few : length (numbers_of s) ≤ entry_limit
  unfolding up_to
  numbers_of-few =
      rw (numbers_of-keep, length-keep (is_in s) (numbers_from 0 entry_limit))
      (omega (arith, count-le-length (is_in s) (numbers_from 0 entry_limit), length-numbers_from 0 entry_limit))

  pub numbers_of-once : (k : ℕ) → Memᴰ k (numbers_of s) → count (λ l. eqb l k) (numbers_of s) ≡ 1
  unfolding up_to
  numbers_of-once k m =
      omega (arith, count-pos (λ l. eqb l k) m (eq-eqb k k refl), pairwise-le-one (λ l. eqb l k) (numbers_of s) apart)
    where
      rising : pairwise ltb (numbers_of s) ≡ true
      rising =
          rw numbers_of-keep
          (pairwise-keep ltb (is_in s) (numbers_from 0 entry_limit) (numbers_from-rising 0 entry_limit))

      apart : pairwise (λ x y. not (eqb x k && eqb y k)) (numbers_of s) ≡ true
      apart =
          pairwise-mono ltb (λ x y. not (eqb x k && eqb y k)) (numbers_of s)
          (λ x y i j t. not-i (eqb x k && eqb y k) (by-fail (eqb x k && eqb y k) (λ b. omega (
            arith,
            ltb-true x y t,
            eqb-true x k (and_l (eqb x k) (eqb y k) b),
            eqb-true y k (and_r (eqb x k) (eqb y k) b),
          ))))
          rising

------------------------------------------------------------------------
-- one is taken away

module _ (s : List ℕ) (k : ℕ) (size : length s ≡ 16) (small : k < entry_limit) where
  pub without-own : get_or (without s k) (k / 64) 0 ≡ rest s k
  unfolding without
  without-own = get_or-set_same s (k / 64) (rest s k) 0 (rw size (omega arith))

  pub is_in-without : (l : ℕ) → is_in (without s k) l ≡ (is_in s l && not (eqb l k))
  unfolding without rest
  is_in-without l = go (eqb (l / 64) (k / 64)) refl
    where
      go : (b : Bool) → eqb (l / 64) (k / 64) ≡ b → is_in (without s k) l ≡ (is_in s l && not (eqb l k))
      go true e =
          let d : l / 64 ≡ k / 64 = eqb-true (l / 64) (k / 64) e in
          ap (λ n. has (get_or (without s k) n 0) (l % 64)) d
          ∙ ap (λ n. has n (l % 64)) (without-own)
          ∙ has-without_one (get_or s (k / 64) 0) (k % 64) (l % 64) (omega arith)
          ∙ ap₂ (λ n b. has (get_or s n 0) (l % 64) && not b) (sym d)
          (same (eqb (l % 64) (k % 64)) (eqb l k)
          (λ t. eq-eqb l k (omega (arith, eqb-true (l % 64) (k % 64) t)))
          (λ t. eq-eqb (l % 64) (k % 64) (ap (λ n. n % 64) (eqb-true l k t))))
      go false e =
          let d : l / 64 ≢ k / 64 = eqb-false (l / 64) (k / 64) e in
          ap (λ n. has n (l % 64)) (get_or-set_other s (k / 64) (l / 64) (rest s k) 0 d)
          ∙ sym (and-true (is_in s l))
          ∙ ap (λ b. is_in s l && not b) (sym (ne_eqb l k (λ t. d (ap (λ n. n / 64) t))))

  pub numbers_of-without : numbers_of (without s k) ≡ keep (λ l. not (eqb l k)) (numbers_of s)
  numbers_of-without =
      numbers_of-keep (without s k)
      ∙ sym (ap (keep (λ l. not (eqb l k))) (numbers_of-keep s)
      ∙ keep-keep (is_in s) (λ l. not (eqb l k)) (up_to entry_limit)
      ∙ keep-ext _ (is_in (without s k)) (up_to entry_limit) (λ l m. sym (is_in-without l)))

pub length_without : (s : List ℕ) (k : ℕ) → length (without s k) ≡ length s
unfolding without
length_without s k = length-set s (k / 64) (rest s k)

------------------------------------------------------------------------
-- the two orders

pub ahead_at-i : (k l : ℕ) → k / 64 ≡ l / 64 → k < l → ahead_at k l ≡ true
unfolding ahead_at
ahead_at-i k l e h = and_i _ _ (eq-eqb _ _ e) (lt-ltb _ _ h)

pub ahead_at-e : (k l : ℕ) → ahead_at k l ≡ true → (k / 64 ≡ l / 64) × (k < l)
unfolding ahead_at
ahead_at-e k l h = (eqb-true _ _ (and_l _ _ h), ltb-true _ _ (and_r (eqb (k / 64) (l / 64)) _ h))

pub ahead_at-strict : Strict ahead_at
unfolding ahead_at
ahead_at-strict =
    record {
      irreflexive = λ k. and_false_r (eqb (k / 64) (k / 64)) (ltb k k) (le-ltb k k (omega arith));
      transitive = λ k l m p q. go k l m (ahead_at-e k l p) (ahead_at-e l m q);
    }
  where
    go : (k l m : ℕ) → (k / 64 ≡ l / 64) × (k < l) → (l / 64 ≡ m / 64) × (l < m) → ahead_at k m ≡ true
    go k l m p q = ahead_at-i k m (p.0 ∙ q.0) (omega arith)

module _ (table : List ℕ) where
  abbrev out : ℕ → ℕ
  out = output_at table

  abbrev cell : ℕ → Cell
  cell = cell_at table

  pub over_at-i : (k l : ℕ) → out k ≡ out l → over (ports_in table) (cell k) (cell l) ≡ true → over_at table k l ≡ true
  unfolding over_at
  over_at-i k l e h = and_i _ _ (eq-eqb _ _ e) h

  pub over_at-output : (k l : ℕ) → over_at table k l ≡ true → out k ≡ out l
  unfolding over_at
  over_at-output k l h = eqb-true _ _ (and_l _ _ h)

  over_at-cells : (k l : ℕ) → over_at table k l ≡ true → over (ports_in table) (cell k) (cell l) ≡ true
  unfolding over_at
  over_at-cells k l h = and_r (eqb (out k) (out l)) _ h

  pub over_at-strict : Strict (over_at table)
  unfolding over_at
  over_at-strict =
      record {
        irreflexive = λ k. and_false_r (eqb (out k) (out k)) _ (over-irrefl (ports_in table) (cell k));
        transitive = λ k l m p q.
            over_at-i k m (over_at-output k l p ∙ over_at-output l m q)
            (over-trans (ports_in table) (cell k) (cell l) (cell m) (over_at-cells k l p) (over_at-cells l m q));
      }

  -- of two candidates of different inputs for one output, one is over the other
  pub over_at-total : (k l : ℕ) → k / 64 ≢ l / 64 → out k ≡ out l → over (ports_in table) (cell k) (cell l) ≡ false
      → over_at table l k ≡ true
  over_at-total k l n e f =
      go (over-total (ports_in table) (cell k) (cell l)
      (inl (λ q. n (sym (entry_at-input table k) ∙ q ∙ entry_at-input table l))))
    where
      go : (over (ports_in table) (cell k) (cell l) ≡ true) ⊎ (over (ports_in table) (cell l) (cell k) ≡ true)
          → over_at table l k ≡ true
      go (inl t) = absurd (clash t f)
      go (inr t) = over_at-i l k (sym e) t

------------------------------------------------------------------------
-- the proposals are the first of each input

pub next-none : (i : ℕ) → next_in 0 i ≡ entry_limit
unfolding next_in numbers_in
next-none i = ap (λ l. head_or nowhere (map (λ j. 64 * i + j) l)) members-none

pub next-some : (s i : ℕ) → 0 < s → s < 2 ^ 64 → next_in s i ≡ 64 * i + first_of s
unfolding next_in numbers_in
next-some s i some fits = ap (λ l. head_or nowhere (map (λ j. 64 * i + j) l)) (members-cons s some fits)

module _ (s : List ℕ) where
  own-rising : (i : ℕ) → pairwise ltb (own s i) ≡ true
  own-rising i =
      rw (own-keep s i)
      (pairwise-keep ltb (is_in s) (numbers_from (64 * i) 64) (numbers_from-rising (64 * i) 64))

  mem-own : (i : ℕ) {k : ℕ} → Memᴰ k (own s i) → (k / 64 ≡ i) × (is_in s k ≡ true)
  mem-own i m =
      let w = mem-keep (is_in s) (numbers_from (64 * i) 64) (rw (own-keep s i) at m) in
      (omega (arith, mem-numbers_from (64 * i) 64 w.0), w.1)

  own-mem : {k : ℕ} → Memᴰ k (numbers_of s) → Memᴰ k (own s (k / 64))
  own-mem {k} m =
      rw (own-keep s (k / 64))
      (keep-mem (is_in s) (numbers_from-mem (64 * (k / 64)) 64 (omega arith) (omega arith)) (mem-numbers_of s m).1)

  -- the first of an input is the first of its numbers
  first-le : (i x : ℕ) (l : List ℕ) → own s i ≡ x ∷ l → {k : ℕ} → Memᴰ k (own s i) → (k ≡ x) ⊎ (x < k)
  first-le i x l e {k} m = go (Memᴰ.cases_cons (rw e at m))
    where
      go : (k ≡ x) ⊎ Memᴰ k l → (k ≡ x) ⊎ (x < k)
      go (inl q) = inl q
      go (inr j) = inr (ltb-true x k (pairwise-head ltb (rw e at (own-rising i)) j))

  module _ (over : ℕ → ℕ → Bool) where
    pub next-proposed : (i : ℕ) → i < 16 → next_in (get_or s i 0) i < entry_limit
        → Memᴰ (next_in (get_or s i 0) i) (proposed ahead_at over (numbers_of s)) × (next_in (get_or s i 0) i / 64 ≡ i)
    unfolding next_in own
    next-proposed i b = go (own s i) refl
      where
        go : (l : List ℕ) → own s i ≡ l → head_or nowhere l < entry_limit
            → Memᴰ (head_or nowhere l) (proposed ahead_at over (numbers_of s)) × (head_or nowhere l / 64 ≡ i)
        go [] e h = absurd (omega arith)
        go (x ∷ l) e h = (rw (proposed-keeps ahead_at over (numbers_of s)) (keep-mem _ here none), w.0)
          where
            w : (x / 64 ≡ i) × (is_in s x ≡ true)
            w = mem-own i (rw e (Memᴰ.head refl))

            here : Memᴰ x (numbers_of s)
            here = numbers_of-mem s x h w.1

            before : (d : ℕ) → (d / 64 ≡ x / 64) × (d < x) → (d ≡ x) ⊎ (x < d) → ⊥
            before d p (inl q) = omega arith
            before d p (inr q) = omega arith

            none : none? (λ d. ahead_at d x) (numbers_of s) ≡ true
            none =
                none?-i (λ d. ahead_at d x) (numbers_of s) (λ d m. by-fail (ahead_at d x) (λ t.
                let p = ahead_at-e d x t in
                before d p (first-le i x l e (rw (p.0 ∙ w.0) at (own-mem m)))))

    pub proposed-next : {k : ℕ} → Memᴰ k (proposed ahead_at over (numbers_of s))
        → k ≡ next_in (get_or s (k / 64) 0) (k / 64)
    unfolding next_in own
    proposed-next {k} m = go (own s (k / 64)) refl
      where
        here : Memᴰ k (own s (k / 64))
        here = own-mem (mem-proposed-in ahead_at over (numbers_of s) m)

        go : (l : List ℕ) → own s (k / 64) ≡ l → k ≡ head_or nowhere l
        go [] e = absurd (Memᴰ.not-nil (rw e at here))
        go (x ∷ l) e = first (first-le (k / 64) x l e here)
          where
            w : (x / 64 ≡ k / 64) × (is_in s x ≡ true)
            w = mem-own (k / 64) (rw e (Memᴰ.head refl))

            first : (k ≡ x) ⊎ (x < k) → k ≡ x
            first (inl q) = q
            first (inr q) =
                let b : x < entry_limit = omega (arith, (mem-numbers_of s (mem-proposed-in ahead_at over (numbers_of s) m)).0) in
                absurd (clash (ahead_at-i x k w.0 q)
                (mem-proposed-first ahead_at over (numbers_of s) m (numbers_of-mem s x b w.1)))

    -- an input makes one proposal
    pub proposed-one : {k l : ℕ} → Memᴰ k (proposed ahead_at over (numbers_of s))
        → Memᴰ l (proposed ahead_at over (numbers_of s)) → k / 64 ≡ l / 64 → k ≡ l
    proposed-one m j e = proposed-next m ∙ ap (λ i. next_in (get_or s i 0) i) e ∙ sym (proposed-next j)
