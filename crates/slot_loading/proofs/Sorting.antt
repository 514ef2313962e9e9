-- One pass over the entries of an input, from the last to the first: the digits of their places are pushed into sets.
use Prim.Native.Nat.{ℕ, ◌+◌, ◌*◌, ◌-◌, ◌/◌, ◌%◌, ◌^◌, ◌≤◌, ◌<◌}
use native.Mathlib.Nat.{le_refl}
use native.Mathlib.Omega.{arith}
use mathlib.Core.Path.{◌≡◌, sym, ◌∙◌, ap, ap₂}
use mathlib.Core.List.{List}
use lib.Dec.{eqb}
use lib.Pow.{pow_mono}
use Rattle.sets.specs.Sets.{set_from, pushed, minus, both}
use Rattle.sets.proofs.Members.{set_from-lt, set_back}
use Rattle.cell.specs.Limits.{section_room}
use Rattle.model.specs.State.{is_listed, is_crossed, is_buffered}
use Rattle.layout.specs.Entry.{count_in}
use Rattle.layout.specs.Code.{place_byte_at, ports_in}
use Rattle.layout.specs.Table.{state_of, IsTable}
use Rattle.slot_section.specs.Code.{low_place, high_place}
use Rattle.slot_section.proofs.Walks.{listed-set, crossed-set, buffered-set}
use Rattle.slot_view.specs.CodeView.{InTable, places_in}
use Rattle.slot_view.specs.CodeViewed.{listed_set, crossed_set, buffered_set}
use Rattle.slot_view.proofs.Handed.{kinds}
use Rattle.slot_view.proofs.Own.{table-readable, own-place, own-in-place}
use Rattle.slot_view.proofs.Placed.{in_table-number}
use Rattle.slot_loading.specs.Code.{Sorted}

-- the sets have the digits of the entries from k on
pub record Sorting (table : List ℕ) (first end low high k : ℕ) : Type 0 where
  pub start : first ≤ k
  pub limit : k ≤ end
  pub lows : low ≡ set_from (low_place table) k (end - k)
  pub highs : high ≡ set_from (high_place table) k (end - k)

module _ (table : List ℕ) (first end : ℕ) where
  pub sorting_start : first ≤ end → Sorting table first end 0 0 end
  unfolding set_from
  sorting_start h =
      let none : end - end ≡ 0 = omega arith in
      record {
        start = h;
        limit = le_refl end;
        lows = ap (set_from (low_place table) end) (sym none);
        highs = ap (set_from (high_place table) end) (sym none);
      }

  module _ (low high k : ℕ) (w : Sorting table first end low high k) (more : first < k) where
    pub sorting-room : end ≤ first + section_room → (low < 2 ^ 63) × (high < 2 ^ 63)
    sorting-room few =
        let few-left : end - k ≤ 63 = omega arith in
        let most : 2 ^ (end - k) ≤ 2 ^ 63 = pow_mono few-left in (
          omega (arith, w.lows, set_from-lt (low_place table) k (end - k)),
          omega (arith, w.highs, set_from-lt (high_place table) k (end - k)),
        )

    pub sorting-next : (place : ℕ) → place ≡ place_byte_at table (k - 1)
        → Sorting table first end (pushed low (eqb (place % 2) 1)) (pushed high (eqb (place / 2 % 2) 1)) (k - 1)
    unfolding low_place high_place
    sorting-next place is =
        record {
          start = omega arith;
          limit = omega (arith, w.limit);
          lows =
              ap₂ pushed w.lows (ap (λ b. eqb (b % 2) 1) is)
              ∙ set_back (low_place table) k end (omega arith) w.limit;
          highs =
              ap₂ pushed w.highs (ap (λ b. eqb (b / 2 % 2) 1) is)
              ∙ set_back (high_place table) k end (omega arith) w.limit;
        }

module _ (table : List ℕ) (good : IsTable table) (input : ℕ) (port : input < ports_in table) where
  pub section-few : count_in table input ≤ section_room
  section-few = (table-readable table good).counts input (omega (arith, (table-readable table good).ports))

  inside : (j : ℕ) → j < count_in table input → InTable table (section_room * input + j)
  inside j h =
      in_table-number table (state_of table) good input (section_room * input + j) port (omega arith) (omega arith)

  places : (j : ℕ) → j < count_in table input
      → (1 ≤ place_byte_at table (section_room * input + j)) × (place_byte_at table (section_room * input + j) ≤ 3)
  places j h =
      rw (own-place table good (section_room * input + j) (inside j h)) at
      (own-in-place table good (section_room * input + j) (inside j h))

  pub sorting-end : (end low high k : ℕ) → end ≡ section_room * input + count_in table input
      → Sorting table (section_room * input) end low high k → k ≤ section_room * input
      → Sorted table (places_in table) input (minus low high) (minus high low) (both low high)
  unfolding listed_set crossed_set buffered_set
  sorting-end end low high k last w done =
      let first : ℕ = section_room * input in
      let n : ℕ = count_in table input in
      let by-column = kinds table good input (omega (arith, (table-readable table good).ports)) in
      let at : k ≡ first = omega (arith, w.start) in
      let size : end - k ≡ n = omega arith in
      let lows : low ≡ set_from (low_place table) first n = w.lows ∙ ap₂ (set_from (low_place table)) at size in
      let highs : high ≡ set_from (high_place table) first n = w.highs ∙ ap₂ (set_from (high_place table)) at size in
      record {
        listed-is = ap₂ minus lows highs ∙ listed-set table first n section-few places ∙ by-column is_listed;
        crossed-is = ap₂ minus highs lows ∙ crossed-set table first n section-few places ∙ by-column is_crossed;
        buffered-is = ap₂ both lows highs ∙ buffered-set table first n section-few places ∙ by-column is_buffered;
      }
