-- Which input leads an output by its row of keys.
--     least-all                     the least of a row, part by part
--     round-came                    the member of a set that comes first in a round
--     inputs-some, leads            some input has the least key, and which of them leads
--     least_more                    output by output
use Prim.Native.Nat.{ℕ, ◌+◌, ◌%◌, ◌^◌, ◌<◌, ◌≤◌, min}
use native.Mathlib.Nat.{min-eq_left, min-eq_right, zero-add, mod-lt}
use native.Mathlib.Omega.{arith}
use mathlib.Core.Bool.{true, not, ◌&&◌}
use mathlib.Core.Path.{◌≡◌, refl, sym, ◌∙◌, ap, subst}
use mathlib.Core.Logic.{◌⊎◌, inl, inr, ◌≢◌}
use mathlib.Core.List.{List, []}
use borrow.Author.Tests.{ltb-true, ltb-false, eqb-true, lt-ltb, le-ltb, eq-eqb}
use lib.Dec.{ltb, eqb}
use lib.ListN.{get_or, set, length-set}
use Rattle.laws.proofs.Compared.{Compared, below, equal, above, compare}
use Rattle.laws.proofs.Tests.{clash, by-fail, and_i, and_l, and_r, not-false-i}
use Rattle.sets.specs.Sets.{positions, has, first_of}
use Rattle.sets.specs.Code.{from}
use Rattle.sets.proofs.Digits.{has-past}
use Rattle.sets.proofs.Members.{has-set_from, has-from, first-before, first-position, first_member}
use Rattle.sets.proofs.Operations.{from_less}
use Rattle.cell.specs.Order.{first_in_turn, in_turn}
use Rattle.cell.proofs.Turn.{in_turn-up, in_turn-round, in_turn-below}
use Rattle.slot_leaders.specs.CodeKeys.{least_of_four, least_of, has_key, holders_of, LeastTo, FirstInRound, Leads}
use Rattle.slot_leaders.proofs.Columns.{set_both}

------------------------------------------------------------------------
-- the least of a row

-- between two places
pub record LeastIn (row : List ℕ) (from to r : ℕ) : Type 0 where
  pub holder : ℕ
  pub low : from ≤ holder
  pub high : holder < to
  pub held : get_or row holder 0 ≡ r
  pub under : (i : ℕ) → from ≤ i → i < to → r ≤ get_or row i 0

module _ (row : List ℕ) where
  least-one : (i to : ℕ) → to ≡ i + 1 → LeastIn row i to (get_or row i 0)
  least-one i to e = record {
    holder = i;
    low = omega arith;
    high = omega arith;
    held = refl;
    under = λ j a b. let q : i ≡ j = omega arith in subst (λ n. get_or row i 0 ≤ get_or row n 0) q (omega arith);
  }

  least-join : {from mid to a b : ℕ} → from ≤ mid → mid ≤ to → LeastIn row from mid a → LeastIn row mid to b
      → LeastIn row from to (min a b)
  least-join {from} {mid} {to} {a} {b} x y p q = go (compare a b)
    where
      under : (i : ℕ) → from ≤ i → i < to → Compared i mid → min a b ≤ get_or row i 0
      under i l h (below c) = omega (arith, p.under i l c)
      under i l h (equal c) = omega (arith, q.under i (omega arith) h)
      under i l h (above c) = omega (arith, q.under i (omega arith) h)

      left : a ≤ b → LeastIn row from to (min a b)
      left s = record {
        holder = p.holder;
        low = p.low;
        high = omega (arith, p.high);
        held = p.held ∙ sym (min-eq_left s);
        under = λ i l h. under i l h (compare i mid);
      }

      go : Compared a b → LeastIn row from to (min a b)
      go (below s) = left (omega arith)
      go (equal s) = left (omega arith)
      go (above s) = record {
        holder = q.holder;
        low = omega (arith, q.low);
        high = q.high;
        held = q.held ∙ sym (min-eq_right (omega arith));
        under = λ i l h. under i l h (compare i mid);
      }

  least-four : (from : ℕ) → LeastIn row from (from + 4) (least_of_four row from)
  least-four from =
      least-join (omega arith) (omega arith)
      (least-join (omega arith) (omega arith) (least-one from (from + 1) (omega arith))
      (least-one (from + 1) (from + 2) (omega arith)))
      (least-join (omega arith) (omega arith) (least-one (from + 2) (from + 3) (omega arith))
      (least-one (from + 3) (from + 4) (omega arith)))

  pub least-all : LeastIn row 0 16 (least_of row)
  least-all =
      least-join (omega arith) (omega arith)
      (least-join (omega arith) (omega arith) (least-four 0) (least-four 4))
      (least-join (omega arith) (omega arith) (least-four 8) (least-four 12))

------------------------------------------------------------------------
-- the inputs that have a key

-- a set with a member is not empty
some-member : (set i : ℕ) → has set i ≡ true → 0 < set
some-member set i h = go (compare 0 set)
  where
    go : Compared 0 set → 0 < set
    go (below l) = l
    go (equal e) =
        absurd (clash h (ap (λ s. has s i) (sym e) ∙ has-past 0 0 i (omega arith) (omega arith)))
    go (above l) = absurd (omega arith)

has-holders : (row : List ℕ) (key i : ℕ) → has (holders_of row key) i ≡ (ltb i 16 && eqb (get_or row i 0) key)
has-holders row key i = has-set_from (has_key row key) 0 16 i ∙ ap (λ j. ltb i 16 && has_key row key j) (zero-add i)

------------------------------------------------------------------------
-- the member that comes first in a round

module _ {set start : ℕ} (some : 0 < set) (fits : set < 2 ^ positions) (position : start < positions) where
  is-late : (i : ℕ) → i < positions → has set i ≡ true → start ≤ i → has (from set start) i ≡ true
  is-late i l h s =
      has-from set start i l ∙ and_i (has set i) (not (ltb i start)) h (ap not (le-ltb i start s))

  round-late : 0 < from set start → FirstInRound set start (first_of (from set start))
  round-late more = record {
    member = and_l (has set f) (not (ltb f start)) both;
    inside = inside;
    first = λ i l h. go i l h (compare i start) (compare f i);
  }
    where
      f : ℕ
      f = first_of (from set start)

      below_all : from set start < 2 ^ positions
      below_all = omega (arith, from_less set fits start position)

      inside : f < positions
      inside = first-position (from set start) more below_all

      both : (has set f && not (ltb f start)) ≡ true
      both = sym (has-from set start f inside) ∙ first_member (from set start) more below_all

      late : start ≤ f
      late =
          ltb-false f start (by-fail (ltb f start) (λ t.
          clash (and_r (has set f) (not (ltb f start)) both) (not-false-i (ltb f start) t)))

      behind : (i : ℕ) → i < positions → has set i ≡ true → start ≤ i → Compared f i
          → (i ≡ f) ⊎ (in_turn start f i ≡ true)
      behind i l h s (below c) = inr (in_turn-up late c)
      behind i l h s (equal c) = inl (sym c)
      behind i l h s (above c) =
          absurd (clash (is-late i l h s) (first-before (from set start) i c))

      go : (i : ℕ) → i < positions → has set i ≡ true → Compared i start → Compared f i
          → (i ≡ f) ⊎ (in_turn start f i ≡ true)
      go i l h (below c) d = inr (in_turn-round late c)
      go i l h (equal c) d = behind i l h (omega arith) d
      go i l h (above c) d = behind i l h (omega arith) d

  round-early : from set start ≡ 0 → FirstInRound set start (first_of set)
  round-early none = record {
    member = first_member set some fits;
    inside = first-position set some fits;
    first = λ i l h. go i l h (compare (first_of set) i);
  }
    where
      early : (i : ℕ) → i < positions → has set i ≡ true → Compared i start → i < start
      early i l h (below c) = c
      early i l h (equal c) = absurd (omega (arith, some-member (from set start) i (is-late i l h (omega arith))))
      early i l h (above c) = absurd (omega (arith, some-member (from set start) i (is-late i l h (omega arith))))

      go : (i : ℕ) → i < positions → has set i ≡ true → Compared (first_of set) i
          → (i ≡ first_of set) ⊎ (in_turn start (first_of set) i ≡ true)
      go i l h (below c) = inr (in_turn-below (early i l h (compare i start)) c)
      go i l h (equal c) = inl (sym c)
      go i l h (above c) = absurd (clash h (first-before set i c))

  -- whichever a branch finds
  pub round-came : {late picked : ℕ} → late ≡ from set start
      → ((late ≢ 0) × (picked ≡ late)) ⊎ ((late ≡ 0) × (picked ≡ set)) → FirstInRound set start (first_of picked)
  round-came is (inl (more, e)) =
      let some : 0 < from set start = omega (arith, more) in
      subst (λ n. FirstInRound set start (first_of n)) (sym (e ∙ is)) (round-late some)
  round-came is (inr (none, e)) =
      subst (λ n. FirstInRound set start (first_of n)) (sym e) (round-early (sym is ∙ none))

-- of the inputs that have the least key, in the round of the slot that it has
module _ (ports : ℕ) (row : List ℕ) {key inputs start : ℕ} (least : key ≡ least_of row)
    (holders : inputs ≡ holders_of row (least_of row)) (turn : start ≡ first_in_turn ports (key % 2 ^ 32)) where
  inputs-at : (i : ℕ) → has inputs i ≡ (ltb i 16 && eqb (get_or row i 0) key)
  inputs-at i = ap (λ s. has s i) (holders ∙ ap (holders_of row) (sym least)) ∙ has-holders row key i

  pub leads : {r : ℕ} → FirstInRound inputs start r → Leads ports row key r
  leads {r} f = record {
    inside = ltb-true r 16 (and_l (ltb r 16) (eqb (get_or row r 0) key) both);
    held = eqb-true (get_or row r 0) key (and_r (ltb r 16) (eqb (get_or row r 0) key) both);
    first = λ i l h.
        subst (λ n. (i ≡ r) ⊎ (in_turn n r i ≡ true)) turn
        (f.first i (omega arith)
        (inputs-at i ∙ and_i (ltb i 16) (eqb (get_or row i 0) key) (lt-ltb i 16 l) (eq-eqb _ _ h)));
  }
    where
      both : (ltb r 16 && eqb (get_or row r 0) key) ≡ true
      both = sym (inputs-at r) ∙ f.member

  pub inputs-some : 0 < inputs
  inputs-some =
      let all = least-all row in
      some-member inputs all.holder
      (inputs-at all.holder
      ∙ and_i (ltb all.holder 16) (eqb (get_or row all.holder 0) key) (lt-ltb all.holder 16 all.high)
      (eq-eqb _ _ (all.held ∙ sym least)))

  pub turn-position : 0 < ports → ports ≤ 16 → start < positions
  turn-position some few = omega (arith, turn, mod-lt (key % 2 ^ 32) some)

------------------------------------------------------------------------
-- output by output

module _ (keys : List (List ℕ)) where
  pub least_more : (n key inputs : ℕ) {least holders : List ℕ} → n < 16 → key ≡ least_of (get_or keys n [])
      → inputs ≡ holders_of (get_or keys n []) key → LeastTo keys n least holders
      → LeastTo keys (n + 1) (set least n key) (set holders n inputs)
  least_more n key inputs {least} {holders} b p q w = record {
    least_size = length-set least n key ∙ w.least_size;
    holders-size = length-set holders n inputs ∙ w.holders-size;
    each = set_both (λ o k h. (k ≡ least_of (get_or keys o [])) × (h ≡ holders_of (get_or keys o []) (least_of (get_or keys o []))))
        least holders n key inputs (omega (arith, w.least_size)) (omega (arith, w.holders-size)) w.each
        (p, q ∙ ap (holders_of (get_or keys n [])) p);
  }
