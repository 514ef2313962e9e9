-- One pass over the entries of a section, from the last to the first: their first words are gathered, the digits of
-- their places pushed into sets, and the low bytes of their slots marked.
use Prim.Native.Nat.{ℕ, zero, suc, ◌+◌, ◌-◌, ◌/◌, ◌%◌, ◌^◌, ◌≤◌, ◌<◌}
use mathlib.Core.Bool.{Bool, true, false, ◌&&◌, ◌||◌, and_comm, or_comm}
use mathlib.Core.Path.{◌≡◌, refl, sym, ◌∙◌, ap, ap₂}
use mathlib.Core.List.{List, ◌∷◌, Memᴰ}
use native.Mathlib.Nat.{le_refl}
use native.Mathlib.Omega.{arith}
use borrow.Author.Tests.{ltb-true, lt-ltb, eq-eqb, ne_eqb, eqb-true, eqb-false}
use lib.Bits.{bit_and, bit_or, and_zero_l}
use lib.Dec.{ltb, eqb}
use lib.ListN.{length, get_or, set}
use lib.Pow.{pow_mono}
use mir.Syntax.{w8}
use mir.Val.{Fits}
use Rattle.laws.specs.Lists.{some?, none?, all?, pairwise, between}
use Rattle.laws.proofs.Tests.{clash, by-fail, same, and_i, and_l, and_r, or-false-l, or-false-r, not-i}
use Rattle.laws.proofs.Lists.{none?-e, none?-by-some?, all?-i, all?-e, all?-mono}
use Rattle.sets.specs.Sets.{pushed, set_from, either, size_of}
use Rattle.sets.proofs.Members.{set_from-lt, set_back, either-set_from, set_from-full}
use Rattle.sets.proofs.Operations.{or-none-of}
use Rattle.cell.specs.Limits.{port_limit, section_room}
use Rattle.model.specs.State.{Entry}
use Rattle.model.specs.Sound.{other_slot}
use Rattle.layout.specs.Number.{word}
use Rattle.layout.specs.Table.{table_size, entry_limit}
use Rattle.layout.specs.Entry.{entry_at}
use Rattle.layout.specs.Code.{record_start, place_byte_at, entries_between}
use Rattle.slot_section.specs.Code.{is_entry, in_reach, low_place, high_place, Collected, MarksBelow}
use Rattle.layout.proofs.Records.{between-nil, between_cons, between-each, between-mem, entries_between-nil, entries_between-cons}
use Rattle.slot_section.proofs.Fields.{is_entry-i, is_entry-e}
use Rattle.slot_section.proofs.Marks.{Marked, marked-none, marked-one}
use Rattle.layout_table.proofs.Spare.{spare_bits, ranges-i, ranges-e}
use Rattle.layout_table.proofs.Places.{known_bytes}
use Rattle.slot_section.proofs.Walks.{by_place}

-- an entry whose slot has this low byte
unfoldable pub slot_is : ℕ → Entry → Bool
slot_is n e = eqb n (e.cell.slot % 256)

-- other low bytes, another slot
slot-free : (e : Entry) (l : List Entry) → none? (slot_is (e.cell.slot % 256)) l ≡ true → all? (other_slot e) l ≡ true
unfolding other_slot slot_is
slot-free e l h =
    all?-i (other_slot e) l
    (λ f m.
    not-i _
    (ne_eqb e.cell.slot f.cell.slot
    (λ same. eqb-false _ _ (none?-e (slot_is (e.cell.slot % 256)) h m) (ap (λ n. n % 256) same))))

------------------------------------------------------------------------
-- a record is an entry exactly if it passes three tests, of which the pass asks the first two of all together

-- its first word has no spare bit
unfoldable pub no_spare : List ℕ → ℕ → Bool
no_spare bs k = eqb (bit_and (word bs (record_start k)) spare_bits) 0

-- a digit of its place is set
abbrev placed : List ℕ → ℕ → Bool
placed bs k = low_place bs k || high_place bs k

-- its output and its slot are in reach
abbrev pub reached : ℕ → ℕ → List ℕ → ℕ → Bool
reached ports clock bs k = in_reach ports clock (entry_at bs k)

-- so it is where the byte is that of a place, and nowhere else below 4
placed-i : (bs : List ℕ) (k : ℕ) → 1 ≤ place_byte_at bs k → place_byte_at bs k ≤ 3 → placed bs k ≡ true
unfolding low_place high_place
placed-i bs k = by_place (λ b. (eqb (b % 2) 1 || eqb (b / 2 % 2) 1) ≡ true) refl refl refl (place_byte_at bs k)

placed-e : (bs : List ℕ) (k : ℕ) → placed bs k ≡ true → 1 ≤ place_byte_at bs k
unfolding low_place high_place
placed-e bs k = go (place_byte_at bs k)
  where
    go : (b : ℕ) → (eqb (b % 2) 1 || eqb (b / 2 % 2) 1) ≡ true → 1 ≤ b
    go zero t = absurd (clash t refl)
    go (suc b) t = omega arith

record Passes (ports clock : ℕ) (bs : List ℕ) (k : ℕ) : Type 0 where
  word : no_spare bs k ≡ true
  place : placed bs k ≡ true
  reach : reached ports clock bs k ≡ true

module _ (ports clock : ℕ) (bs : List ℕ) (known : (i : ℕ) → Fits w8 (get_or bs i 0)) (size : length bs ≡ table_size)
    (few : ports ≤ port_limit) (k : ℕ) (within : k < entry_limit) where
  entry-passes : is_entry ports clock bs k ≡ true → Passes ports clock bs k
  unfolding no_spare in_reach
  entry-passes t =
      let f = is_entry-e ports clock bs (known_bytes bs known) size k within t in
      let cell = (entry_at bs k).cell in
      record {
        word =
            eq-eqb _ 0
            (ranges-i bs (λ i. (known i).fits) k (omega arith) (omega (arith, f.output), f.flow, f.high, f.zero));
        place = placed-i bs k f.low f.high;
        reach = and_i _ _ (lt-ltb cell.output ports f.output) (lt-ltb cell.slot clock f.slot);
      }

  passes-entry : Passes ports clock bs k → is_entry ports clock bs k ≡ true
  unfolding no_spare in_reach
  passes-entry p =
      let cell = (entry_at bs k).cell in
      let ranges = ranges-e bs (λ i. (known i).fits) k (omega arith) (eqb-true _ 0 p.word) in
      is_entry-i ports clock bs (known_bytes bs known) size k within
      (record {
        output = ltb-true cell.output ports (and_l _ (ltb cell.slot clock) p.reach);
        flow = ranges.1;
        low = placed-e bs k p.place;
        high = ranges.2;
        zero = ranges.3;
        slot = ltb-true cell.slot clock (and_r (ltb cell.output ports) _ p.reach);
      })

------------------------------------------------------------------------
-- the pass

-- the records from k on are in reach; no spare bit is gathered exactly if none of their words has one; the sets have
-- the digits of their places; no two have one slot unless `again`, and the low bytes of their slots are marked
pub record Collecting (ports clock : ℕ) (bs : List ℕ) (from to mark : ℕ) (marks : List ℕ) (again : Bool)
    (bits low high k : ℕ) : Type 0 where
  pub start : from ≤ k
  pub end : k ≤ to
  pub reach : all? (reached ports clock bs) (between k to) ≡ true
  pub words : eqb (bit_and bits spare_bits) 0 ≡ all? (no_spare bs) (between k to)
  pub lows : low ≡ set_from (low_place bs) k (to - k)
  pub highs : high ≡ set_from (high_place bs) k (to - k)
  pub slots : again ≡ false → pairwise other_slot (entries_between bs k to) ≡ true
  pub marked : Marked mark marks (λ n. some? (slot_is n) (entries_between bs k to))

module _ (ports clock : ℕ) (bs : List ℕ) (from to mark : ℕ) (marks : List ℕ) where
  pub collecting-start : from ≤ to → MarksBelow mark marks
      → Collecting ports clock bs from to mark marks false 0 0 0 to
  unfolding all? pairwise some? set_from
  collecting-start h below =
      let none = entries_between-nil bs to to (le_refl to) in
      let nil = between-nil to to (le_refl to) in
      let zero : to - to ≡ 0 = omega arith in
      record {
        start = h;
        end = le_refl to;
        reach = ap (all? (reached ports clock bs)) nil;
        words = ap (λ n. eqb n 0) (and_zero_l spare_bits) ∙ sym (ap (all? (no_spare bs)) nil);
        lows = ap (set_from (low_place bs) to) (sym zero);
        highs = ap (set_from (high_place bs) to) (sym zero);
        slots = λ _. ap (pairwise other_slot) none;
        marked =
            marked-none mark marks (λ n. some? (slot_is n) (entries_between bs to to)) below
            (λ n. ap (some? (slot_is n)) none);
      }

  module _ (again : Bool) (bits low high k : ℕ)
      (w : Collecting ports clock bs from to mark marks again bits low high k) (more : from < k) where
    pub collecting-room : to ≤ from + section_room → (low < 2 ^ 63) × (high < 2 ^ 63)
    collecting-room few =
        let few-left : to - k ≤ 63 = omega arith in
        let most : 2 ^ (to - k) ≤ 2 ^ 63 = pow_mono few-left in (
          omega (arith, w.lows, set_from-lt (low_place bs) k (to - k)),
          omega (arith, w.highs, set_from-lt (high_place bs) k (to - k)),
        )

    pub collecting-next : reached ports clock bs (k - 1) ≡ true → (first : ℕ) → first ≡ word bs (record_start (k - 1))
        → (n : ℕ) → n ≡ (entry_at bs (k - 1)).cell.slot % 256 → n < 256 → (place : ℕ) → place ≡ place_byte_at bs (k - 1)
        → Collecting ports clock bs from to mark (set marks n mark) (again || eqb (get_or marks n 0) mark)
        (bit_or bits first) (pushed low (eqb (place % 2) 1)) (pushed high (eqb (place / 2 % 2) 1)) (k - 1)
    unfolding all? pairwise some? slot_is low_place high_place no_spare
    collecting-next here first read n byte few place is =
        let e = entry_at bs (k - 1) in
        let behind = entries_between bs k to in
        let back : k - 1 + 1 ≡ k = omega arith in
        let inside : k - 1 < to = omega (arith, w.end) in
        let run : between (k - 1) to ≡ (k - 1) ∷ between k to =
        between_cons (k - 1) to inside ∙ ap (λ j. (k - 1) ∷ between j to) back in
        let cons : entries_between bs (k - 1) to ≡ e ∷ behind =
        entries_between-cons bs (k - 1) to inside ∙ ap (λ j. e ∷ entries_between bs j to) back in
        record {
          start = omega arith;
          end = omega (arith, w.end);
          reach =
              ap (all? (reached ports clock bs)) run
              ∙ and_i (reached ports clock bs (k - 1)) _ here w.reach;
          words =
              or-none-of 32 bits first spare_bits (omega arith)
              ∙ ap₂ ◌&&◌ w.words (ap (λ n. eqb (bit_and n spare_bits) 0) read)
              ∙ and_comm (all? (no_spare bs) (between k to)) (no_spare bs (k - 1))
              ∙ sym (ap (all? (no_spare bs)) run);
          lows =
              ap₂ pushed w.lows (ap (λ b. eqb (b % 2) 1) is)
              ∙ set_back (low_place bs) k to (omega arith) w.end;
          highs =
              ap₂ pushed w.highs (ap (λ b. eqb (b / 2 % 2) 1) is)
              ∙ set_back (high_place bs) k to (omega arith) w.end;
          slots =
              λ once.
              let earlier = or-false-l again (eqb (get_or marks n 0) mark) once in
              let unmet : some? (slot_is (e.cell.slot % 256)) behind ≡ false =
              ap (λ m. some? (slot_is m) behind) (sym byte)
              ∙ sym (w.marked.each n few)
              ∙ or-false-r again (eqb (get_or marks n 0) mark) once in
              ap (pairwise other_slot) cons
              ∙ and_i (all? (other_slot e) behind) (pairwise other_slot behind)
              (slot-free e behind (none?-by-some? (slot_is (e.cell.slot % 256)) behind unmet)) (w.slots earlier);
          marked =
              marked-one w.marked n few (λ m. some? (slot_is m) (entries_between bs (k - 1) to))
              (λ m. ap (some? (slot_is m)) cons
              ∙ ap (λ x. eqb m x || some? (slot_is m) behind) (sym byte)
              ∙ or_comm (eqb m n) (some? (slot_is m) behind));
        }

  -- what the pass finds, of the bytes of a table
  module _ (known : (i : ℕ) → Fits w8 (get_or bs i 0)) (size : length bs ≡ table_size) (few : ports ≤ port_limit)
      (last : to ≤ entry_limit) (again : Bool) (bits low high k : ℕ)
      (w : Collecting ports clock bs from to mark marks again bits low high k) where
    passed : {j : ℕ} → Memᴰ j (between k to) → is_entry ports clock bs j ≡ true → Passes ports clock bs j
    passed {j} m =
        entry-passes ports clock bs known size few j (omega (arith, between-mem k to m))

    -- a record that is out of reach is no entry
    pub collecting-stop : from < k → reached ports clock bs (k - 1) ≡ false
        → false ≡ all? (is_entry ports clock bs) (between from to)
    collecting-stop more broken =
        let inside : k - 1 < to = omega (arith, w.end) in
        sym (by-fail _ (λ all.
        clash
        (entry-passes ports clock bs known size few (k - 1) (omega arith)
        (between-each (is_entry ports clock bs) from to (k - 1) all (omega arith) inside)).reach
        broken))

    -- the sets together have as many positions as there are records exactly if each has a place
    placed-all : to - k ≤ section_room → eqb (size_of (either low high)) (to - k) ≡ all? (placed bs) (between k to)
    unfolding between
    placed-all fits =
        ap₂ (λ l h. eqb (size_of (either l h)) (to - k)) w.lows w.highs
        ∙ ap (λ s. eqb (size_of s) (to - k)) (either-set_from (low_place bs) (high_place bs) k (to - k) fits)
        ∙ set_from-full (placed bs) k (to - k) fits

    -- all are entries exactly if the words and the places say so
    pub collecting-all : to ≤ from + section_room → k ≤ from
        → (eqb (bit_and bits spare_bits) 0 && eqb (size_of (either low high)) (to - from))
        ≡ all? (is_entry ports clock bs) (between from to)
    collecting-all fits h =
        let e : k ≡ from = omega (arith, w.start) in
        let words = eqb (bit_and bits spare_bits) 0 in
        let places = eqb (size_of (either low high)) (to - k) in
        let all_Placed = placed-all (omega arith) in
        let run = between k to in
        let found : (words && places) ≡ all? (is_entry ports clock bs) (between k to) =
        same (words && places) (all? (is_entry ports clock bs) run)
        (λ t.
        all?-i (is_entry ports clock bs) run
        (λ j m.
        passes-entry ports clock bs known size few j (omega (arith, between-mem k to m))
        (record {
          word = all?-e (no_spare bs) (sym w.words ∙ and_l words places t) m;
          place = all?-e (placed bs) (sym all_Placed ∙ and_r words places t) m;
          reach = all?-e (reached ports clock bs) w.reach m;
        })))
        (λ t.
        and_i words places
        (w.words ∙ all?-mono (is_entry ports clock bs) (no_spare bs) run (λ j m is. (passed m is).word) t)
        (all_Placed ∙ all?-mono (is_entry ports clock bs) (placed bs) run (λ j m is. (passed m is).place) t)) in
        rw e at found

    pub collecting-end : k ≤ from → Collected bs from to again low high
    collecting-end h =
        let e : k ≡ from = omega (arith, w.start) in
        let found : Collected bs k to again low high =
        record { lows = w.lows; highs = w.highs; slots = w.slots } in
        rw e at found
