-- What the check's walks over the records and entries of a section find.
use Prim.Native.Nat.{ℕ, zero, suc, ◌+◌, ◌-◌, ◌/◌, ◌%◌, ◌≤◌, ◌<◌}
use mathlib.Core.Bool.{Bool, true, false, not, ◌&&◌, and-true, and_assoc}
use mathlib.Core.Path.{◌≡◌, refl, sym, ◌∙◌, ap, ap₂}
use mathlib.Core.List.{List, [], ◌∷◌, ◌++◌, map, map-map, map-append, Memᴰ}
use native.Mathlib.Omega.{arith}
use borrow.Author.Tests.{ltb-true}
use lib.Bits.{bit_or}
use lib.Dec.{ltb, eqb}
use Rattle.laws.specs.Lists.{keep, all?, numbers_from, between}
use Rattle.laws.proofs.Tests.{same, and_i, and_l, and_r, and-false-l}
use Rattle.laws.proofs.Lists.{all?-append, all?-e, all?-map, keep-map}
use Rattle.laws.proofs.Numbers.{numbers_from-add}
use Rattle.sets.specs.Sets.{set_from, minus, both, members}
use Rattle.sets.proofs.Operations.{or-none}
use Rattle.sets.proofs.Members.{minus-set_from, both-set_from, set_from-ext, members-set_from}
use Rattle.cell.specs.Limits.{port_limit, flow_limit, section_room}
use Rattle.model.specs.State.{Entry, is_listed, is_crossed, is_buffered}
use Rattle.layout.specs.Entry.{entry_at}
use Rattle.layout.specs.Code.{place_byte_at, entries_between}
use Rattle.slot_section.specs.Code.{in_range, low_place, high_place, entries_in}
use Rattle.layout.proofs.Records.{between-nil, between_cons, entry_at-place}
use Rattle.layout_table.proofs.Places.{place_of-listed, place_of-crossed, place_of-buffered}

------------------------------------------------------------------------
-- a test of each number from one up to another: b is the answer, k the number to come

module _ (p : ℕ → Bool) (k to : ℕ) (b : Bool) (left : b ≡ all? p (between k to)) where
  pub each-stop : k < to → p k ≡ false → false ≡ b
  unfolding all?
  each-stop h fails =
      sym (left ∙ ap (all? p) (between_cons k to h) ∙ and-false-l (p k) (all? p (between (k + 1) to)) fails)

  pub each_next : k < to → p k ≡ true → b ≡ all? p (between (k + 1) to)
  unfolding all?
  each_next h passes = left ∙ ap (all? p) (between_cons k to h) ∙ ap (λ t. t && all? p (between (k + 1) to)) passes

  pub each-end : to ≤ k → true ≡ b
  unfolding all?
  each-end h = sym (left ∙ ap (all? p) (between-nil k to h))

-- in two parts, and with one number more
each-join : (p : ℕ → Bool) (from k to : ℕ) → from ≤ k → k ≤ to
    → all? p (between from to) ≡ (all? p (between from k) && all? p (between k to))
unfolding between
each-join p from k to low high =
    let size : to - from ≡ (k - from) + (to - k) = omega arith in
    let next : from + (k - from) ≡ k = omega arith in
    ap (λ n. all? p (numbers_from from n)) size
    ∙ ap (all? p) (numbers_from-add from (k - from) (to - k))
    ∙ all?-append p (numbers_from from (k - from)) (numbers_from (from + (k - from)) (to - k))
    ∙ ap (λ j. all? p (numbers_from from (k - from)) && all? p (numbers_from j (to - k))) next

each_more : (p : ℕ → Bool) (from k : ℕ) → from ≤ k → all? p (between from (k + 1)) ≡ (all? p (between from k) && p k)
unfolding all?
each_more p from k h =
    each-join p from k (k + 1) h (omega arith)
    ∙ ap (λ b. all? p (between from k) && b)
    (ap (all? p) (between_cons k (k + 1) (omega arith) ∙ ap (λ l. k ∷ l) (between-nil (k + 1) (k + 1) (omega arith)))
    ∙ and-true (p k))

-- in two parts that may overlap
each-overlap : (p : ℕ → Bool) (from m k to : ℕ) → from ≤ m → m ≤ k → k ≤ to
    → all? p (between from to) ≡ (all? p (between m to) && all? p (between from k))
each-overlap p from m k to low mid high =
    let front = all? p (between from k) in
    let behind = all? p (between m to) in
    same (all? p (between from to)) (behind && front)
    (λ h.
    let parts = sym (each-join p from k to (omega arith) high) ∙ h in
    and_i behind front
    (and_r (all? p (between from m)) behind (sym (each-join p from m to low (omega arith)) ∙ h))
    (and_l front (all? p (between k to)) parts))
    (λ h.
    each-join p from k to (omega arith) high
    ∙ and_i front (all? p (between k to)) (and_r behind front h)
    (and_r (all? p (between m k)) (all? p (between k to))
    (sym (each-join p m k to mid high) ∙ and_l behind front h)))

-- bits gathered from the numbers passed: of one more, and of a block more that begins where they end
pub gather-more : (p : ℕ → Bool) (from k bits more : ℕ) → from ≤ k → eqb bits 0 ≡ all? p (between from k)
    → eqb more 0 ≡ p k → eqb (bit_or bits more) 0 ≡ all? p (between from (k + 1))
gather-more p from k bits more h old this =
    or-none bits more ∙ ap₂ ◌&&◌ old this ∙ sym (each_more p from k h)

-- bits gathered from those from m on and from the numbers passed, block by block: none is set
module _ (p : ℕ → Bool) (from m to : ℕ) (low : from ≤ m) (high : m ≤ to) where
  abbrev None : ℕ → ℕ → Type 0
  None bits k = eqb bits 0 ≡ (all? p (between m to) && all? p (between from k))

  pub gather-start : (bits : ℕ) → eqb bits 0 ≡ all? p (between m to) → None bits from
  unfolding all?
  gather-start bits e =
      e
      ∙ sym (and-true (all? p (between m to)))
      ∙ ap (λ b. all? p (between m to) && b) (sym (ap (all? p) (between-nil from from (omega arith))))

  pub gather-block : (bits more k n : ℕ) → from ≤ k → k ≤ n → None bits k → eqb more 0 ≡ all? p (between k n)
      → None (bit_or bits more) n
  gather-block bits more k n start end old this =
      or-none bits more
      ∙ ap₂ ◌&&◌ old this
      ∙ and_assoc (all? p (between m to)) (all? p (between from k)) (all? p (between k n))
      ∙ ap (λ b. all? p (between m to) && b) (sym (each-join p from k n start end))

  pub gather-end : (bits k : ℕ) → m ≤ k → k ≤ to → None bits k → eqb bits 0 ≡ all? p (between from to)
  gather-end bits k mid end e = e ∙ sym (each-overlap p from m k to low mid end)

------------------------------------------------------------------------
-- fields in range

pub in_range-e : (e : Entry) → in_range e ≡ true → (e.cell.output < port_limit) × (e.cell.flow < flow_limit)
unfolding in_range
in_range-e e h =
    let output = ltb e.cell.output port_limit in
    (ltb-true _ _ (and_l output _ h), ltb-true _ _ (and_r output (ltb e.cell.flow flow_limit) h))

------------------------------------------------------------------------
-- sets of entries

-- the entries at positions of a section
abbrev pub entries_at : List ℕ → ℕ → List ℕ → List Entry
entries_at bs first js = map (λ j. entry_at bs (first + j)) js

pub entries_at-more : (bs : List ℕ) (first : ℕ) (js : List ℕ) (j : ℕ)
    → entries_at bs first (js ++ (j ∷ [])) ≡ entries_at bs first js ++ (entry_at bs (first + j) ∷ [])
entries_at-more bs first js j = map-append (λ j. entry_at bs (first + j)) js (j ∷ [])

-- those of a run that pass a test
pub entries_in-keep : (p : Entry → Bool) (bs : List ℕ) (first n : ℕ) → n ≤ section_room
    → entries_in bs first (set_from (λ k. p (entry_at bs k)) first n) ≡ keep p (entries_between bs first (first + n))
unfolding entries_in entries_between between
entries_in-keep p bs first n few =
    let set = set_from (λ k. p (entry_at bs k)) first n in
    let size : n ≡ first + n - first = omega arith in
    sym (map-map (entry_at bs) (λ j. first + j) (members set))
    ∙ ap (map (entry_at bs)) (members-set_from (λ k. p (entry_at bs k)) first n few)
    ∙ sym (keep-map p (entry_at bs) (numbers_from first n))
    ∙ ap (λ n. keep p (map (entry_at bs) (numbers_from first n))) size

-- each of them passes a test that all pass
pub entries_in-each : (p : Entry → Bool) (bs : List ℕ) (first set : ℕ) {j : ℕ} → all? p (entries_in bs first set) ≡ true
    → Memᴰ j (members set) → p (entry_at bs (first + j)) ≡ true
unfolding entries_in
entries_in-each p bs first set all m =
    all?-e (λ j. p (entry_at bs (first + j))) (sym (all?-map p (λ j. entry_at bs (first + j)) (members set)) ∙ all) m

-- one of the three places
pub by_place : (P : ℕ → Type 0) → P 1 → P 2 → P 3 → (b : ℕ) → 1 ≤ b → b ≤ 3 → P b
by_place P one two three zero low high = absurd (omega arith)
by_place P one two three (suc zero) low high = one
by_place P one two three (suc (suc zero)) low high = two
by_place P one two three (suc (suc (suc zero))) low high = three
by_place P one two three (suc (suc (suc (suc b)))) low high = absurd (omega arith)

-- the listed, the crossed and the buffered of a run of entries, by the digits of their places
module _ (bs : List ℕ) (first n : ℕ) (few : n ≤ section_room)
    (places : (j : ℕ) → j < n → (1 ≤ place_byte_at bs (first + j)) × (place_byte_at bs (first + j) ≤ 3)) where
  pub listed-set : minus (set_from (low_place bs) first n) (set_from (high_place bs) first n)
      ≡ set_from (λ k. is_listed (entry_at bs k).place) first n
  unfolding low_place high_place
  listed-set =
      minus-set_from (low_place bs) (high_place bs) first n few
      ∙ set_from-ext (λ k. low_place bs k && not (high_place bs k)) (λ k. is_listed (entry_at bs k).place) first n
      (λ j h.
      let place = places j h in
      by_place (λ b. (eqb (b % 2) 1 && not (eqb (b / 2 % 2) 1)) ≡ eqb b 1) refl refl refl (place_byte_at bs (first + j))
      place.0 place.1
      ∙ sym (ap is_listed (entry_at-place bs (first + j)) ∙ place_of-listed (place_byte_at bs (first + j))))

  pub crossed-set : minus (set_from (high_place bs) first n) (set_from (low_place bs) first n)
      ≡ set_from (λ k. is_crossed (entry_at bs k).place) first n
  unfolding low_place high_place
  crossed-set =
      minus-set_from (high_place bs) (low_place bs) first n few
      ∙ set_from-ext (λ k. high_place bs k && not (low_place bs k)) (λ k. is_crossed (entry_at bs k).place) first n
      (λ j h.
      let place = places j h in
      by_place (λ b. (eqb (b / 2 % 2) 1 && not (eqb (b % 2) 1)) ≡ eqb b 2) refl refl refl (place_byte_at bs (first + j))
      place.0 place.1
      ∙ sym (ap is_crossed (entry_at-place bs (first + j)) ∙ place_of-crossed (place_byte_at bs (first + j))))

  pub buffered-set : both (set_from (low_place bs) first n) (set_from (high_place bs) first n)
      ≡ set_from (λ k. is_buffered (entry_at bs k).place) first n
  unfolding low_place high_place
  buffered-set =
      both-set_from (low_place bs) (high_place bs) first n few
      ∙ set_from-ext (λ k. low_place bs k && high_place bs k) (λ k. is_buffered (entry_at bs k).place) first n
      (λ j h.
      let place = places j h in
      by_place (λ b. (eqb (b % 2) 1 && eqb (b / 2 % 2) 1) ≡ eqb b 3) refl refl refl (place_byte_at bs (first + j))
      place.0 place.1
      ∙ sym
      (ap is_buffered (entry_at-place bs (first + j))
      ∙ place_of-buffered (place_byte_at bs (first + j)) place.0 place.1))
