-- What one pass over the entries of a section found, in terms of the entries: the listed, the crossed and the buffered.
use Prim.Native.Nat.{ℕ, ◌+◌, ◌-◌, ◌*◌, ◌/◌, ◌%◌, ◌≤◌, ◌<◌}
use mathlib.Core.Bool.{Bool, true, false, not, ◌&&◌, ◌||◌}
use mathlib.Core.Path.{◌≡◌, refl, sym, ◌∙◌, ap, ap₂}
use mathlib.Core.List.{List}
use native.Mathlib.Omega.{arith}
use borrow.Author.Tests.{le-leb, lt-leb}
use lib.Dec.{leb, eqb}
use lib.ListN.{length}
use Rattle.laws.specs.Lists.{keep, all?, pairwise, between}
use Rattle.laws.proofs.Tests.{and-false-l, and_false_r}
use Rattle.laws.proofs.Lists.{all?-i, all?-e, mem-keep-in}
use Rattle.laws.proofs.Pairwise.{pairwise-both}
use Rattle.sets.specs.Sets.{set_from, minus, both}
use Rattle.cell.specs.Limits.{port_limit, section_room}
use Rattle.model.specs.State.{Entry, is_listed, is_crossed, is_buffered}
use Rattle.model.specs.Sound.{together, other_slot, other_crosspoint}
use Rattle.layout.specs.Entry.{entry_at, count_in}
use Rattle.layout.specs.Table.{table_size, entry_limit}
use Rattle.layout.specs.Code.{place_byte_at, entries_between, first_record}
use Rattle.layout.proofs.Number.{bytes?}
use Rattle.layout.proofs.Records.{between-each}
use Rattle.slot_section.specs.Code.{is_entry, is_unused, in_range, entries_in, other_output, Collected, heads_in}
use Rattle.slot_check.specs.Code.{room_of, are_sound, is_section, Sorts}
use Rattle.slot_check.specs.Handed.{is_first}
use Rattle.slot_section.proofs.Fields.{is_entry-e, entries-in_range}
use Rattle.slot_check.proofs.Heads.{heads-set}
use Rattle.slot_section.proofs.Walks.{entries_in-keep, listed-set, crossed-set, buffered-set}

-- a question that need not be asked where it is known to hold
pub asked-if : (may b : Bool) → (may ≡ false → b ≡ true) → (not may || b) ≡ b
asked-if true b holds = refl
asked-if false b holds = sym (holds refl)

-- sound entries: one question that is not answered, or all but the last that are
module _ (ports clock : ℕ) (bs : List ℕ) (first end : ℕ) where
  abbrev entry_by_entry : Bool
  entry_by_entry = all? (is_entry ports clock bs) (between first end)

  abbrev slots_differ : Bool
  slots_differ = pairwise other_slot (entries_between bs first end)

  abbrev crosspoints_differ : Bool
  crosspoints_differ = pairwise other_crosspoint (entries_between bs first end)

  abbrev flows_together : Bool
  flows_together = together ports (keep (λ e. is_listed e.place) (entries_between bs first end))

  pub unsound-entry : entry_by_entry ≡ false → false ≡ are_sound ports clock bs first end
  unfolding are_sound
  unsound-entry h = sym (and-false-l entry_by_entry _ h)

  pub unsound-slots : slots_differ ≡ false → false ≡ are_sound ports clock bs first end
  unfolding are_sound
  unsound-slots h = sym (and_false_r entry_by_entry _ (and-false-l slots_differ _ h))

  pub unsound-crosspoints : crosspoints_differ ≡ false → false ≡ are_sound ports clock bs first end
  unfolding are_sound
  unsound-crosspoints h =
      sym (and_false_r entry_by_entry _ (and_false_r slots_differ _ (and-false-l crosspoints_differ flows_together h)))

  pub sound-flows : entry_by_entry ≡ true → slots_differ ≡ true → crosspoints_differ ≡ true
      → flows_together ≡ are_sound ports clock bs first end
  unfolding are_sound
  sound-flows e s x =
      sym
      (ap (λ b. b && (slots_differ && (crosspoints_differ && flows_together))) e
      ∙ ap (λ b. b && (crosspoints_differ && flows_together)) s
      ∙ ap (λ b. b && flows_together) x)

-- a section of n entries likewise
module _ (ports clock : ℕ) (bs : List ℕ) (input : ℕ) {n : ℕ} (e : n ≡ count_in bs input) where
  abbrev roomy : Bool
  roomy = leb (count_in bs input) (room_of ports input)

  pub section-full : room_of ports input < n → false ≡ is_section ports clock bs input
  unfolding is_section
  section-full h = sym (and-false-l roomy _ (lt-leb (count_in bs input) (room_of ports input) (omega arith)))

  pub section-used : all? (is_unused bs) (between (first_record input + n) (first_record input + section_room)) ≡ false
      → false ≡ is_section ports clock bs input
  unfolding is_section
  section-used h = sym (and_false_r roomy _ (and-false-l _ _ (rw e at h)))

  pub section-sound : n ≤ room_of ports input
      → all? (is_unused bs) (between (first_record input + n) (first_record input + section_room)) ≡ true
      → are_sound ports clock bs (first_record input) (first_record input + n) ≡ is_section ports clock bs input
  unfolding is_section
  section-sound few unused =
      let first = first_record input in
      let end = first + count_in bs input in
      ap (λ k. are_sound ports clock bs first (first + k)) e
      ∙ sym
      (ap (λ b. b && (all? (is_unused bs) (between end (first + section_room)) && are_sound ports clock bs first end))
      (le-leb (count_in bs input) (room_of ports input) (omega arith))
      ∙ ap (λ b. b && are_sound ports clock bs first end) (rw e at unused))

-- the entries at the listed and at the crossed positions of a run, by the digits of their places; and of a run at the
-- start of a section, the sets that are handed on
pub record Found (bs : List ℕ) (first end low high : ℕ) : Type 0 where
  pub listed : entries_in bs first (minus low high)
      ≡ keep (λ e. is_listed e.place) (entries_between bs first end)
  pub listed-range : all? in_range (entries_in bs first (minus low high)) ≡ true
  pub crossed : pairwise other_output (entries_in bs first (minus high low))
      ≡ pairwise other_crosspoint (entries_between bs first end)
  pub crossed-range : all? in_range (entries_in bs first (minus high low)) ≡ true
  pub sorts : ◌≡◌ {A = ℕ} (first % section_room) 0
      → Sorts bs (first / section_room) (end - first) (minus low high) (heads_in bs first (minus low high)) (minus high low)
      (both low high)

module _ (ports clock : ℕ) (bs : List ℕ) (bytes : bytes? bs ≡ true) (size : length bs ≡ table_size)
    (ports-few : ports ≤ port_limit) (first end : ℕ) (room : first + section_room ≤ entry_limit) (start : first ≤ end)
    (few : end ≤ first + section_room) (again : Bool) (low high : ℕ) (w : Collected bs first end again low high)
    (entries : all? (is_entry ports clock bs) (between first end) ≡ true) where
  abbrev run : List Entry
  run = entries_between bs first end

  abbrev n : ℕ
  n = end - first

  whole : first + n ≡ end
  whole = omega arith

  places : (j : ℕ) → j < n → (1 ≤ place_byte_at bs (first + j)) × (place_byte_at bs (first + j) ≤ 3)
  places j h =
      let f =
      is_entry-e ports clock bs bytes size (first + j) (omega arith)
      (between-each (is_entry ports clock bs) first end (first + j) entries (omega arith) (omega arith)) in
      (f.low, f.high)

  ranges : all? in_range run ≡ true
  ranges = entries-in_range ports clock bs first end ports-few entries

  kept-range : (p : Entry → Bool) → all? in_range (keep p run) ≡ true
  kept-range p = all?-i in_range (keep p run) (λ e m. all?-e in_range ranges (mem-keep-in p run m))

  listed_of : minus low high ≡ set_from (λ k. is_listed (entry_at bs k).place) first n
  listed_of = ap₂ minus w.lows w.highs ∙ listed-set bs first n (omega arith) places

  crossed-of : minus high low ≡ set_from (λ k. is_crossed (entry_at bs k).place) first n
  crossed-of = ap₂ minus w.highs w.lows ∙ crossed-set bs first n (omega arith) places

  buffered-of : both low high ≡ set_from (λ k. is_buffered (entry_at bs k).place) first n
  buffered-of = ap₂ both w.lows w.highs ∙ buffered-set bs first n (omega arith) places

  listed-run : entries_in bs first (minus low high) ≡ keep (λ e. is_listed e.place) run
  listed-run =
      ap (entries_in bs first) listed_of
      ∙ entries_in-keep (λ e. is_listed e.place) bs first n (omega arith)
      ∙ ap (λ k. keep (λ e. is_listed e.place) (entries_between bs first k)) whole

  crossed-run : entries_in bs first (minus high low) ≡ keep (λ e. is_crossed e.place) run
  crossed-run =
      ap (entries_in bs first) crossed-of
      ∙ entries_in-keep (λ e. is_crossed e.place) bs first n (omega arith)
      ∙ ap (λ k. keep (λ e. is_crossed e.place) (entries_between bs first k)) whole

  pub found : Found bs first end low high
  unfolding other_output other_crosspoint
  found =
      record {
        listed = listed-run;
        listed-range = ap (all? in_range) listed-run ∙ kept-range (λ e. is_listed e.place);
        crossed =
            ap (pairwise other_output) crossed-run
            ∙ sym (pairwise-both (λ e f. eqb e.cell.output f.cell.output) (λ e. is_crossed e.place) run);
        crossed-range = ap (all? in_range) crossed-run ∙ kept-range (λ e. is_crossed e.place);
        sorts =
            λ aligned.
            let at : first ≡ section_room * (first / section_room) = omega arith in
            record {
              listed-is = listed_of ∙ ap (λ k. set_from (λ k. is_listed (entry_at bs k).place) k n) at;
              heads-is =
                  ap (heads_in bs first) listed_of
                  ∙ heads-set bs first n (omega arith) aligned
                  ∙ ap (λ k. set_from (is_first bs (first / section_room)) k n) at;
              crossed-is = crossed-of ∙ ap (λ k. set_from (λ k. is_crossed (entry_at bs k).place) k n) at;
              buffered-is = buffered-of ∙ ap (λ k. set_from (λ k. is_buffered (entry_at bs k).place) k n) at;
            };
      }
