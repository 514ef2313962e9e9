-- Whether bytes are a table, and the parts of that question as the code asks them.
use Rattle.std.specs.Prelude.{ℕ, ◌+◌, ◌*◌, Bool, cond, ◌&&◌, ◌≡◌, List, ltb, leb, eqb}
use Rattle.laws.specs.Lists.{keep, all?, pairwise, between}
use Rattle.sets.specs.Sets.{set_from}
use Rattle.cell.specs.Limits.{section_room}
use Rattle.model.specs.State.{Entry, is_listed, is_crossed, is_buffered}
use Rattle.model.specs.Sound.{together, other_slot, other_crosspoint}
use Rattle.layout.specs.Entry.{entry_at, count_in}
use Rattle.layout.specs.Code.{entries_between, first_record}
use Rattle.slot_section.specs.Code.{is_entry, is_unused}
use Rattle.slot_check.specs.Handed.{is_first}

-- how many entries an input may have: none where the switch does not have it
unfoldable pub room_of : ℕ → ℕ → ℕ
room_of ports input = cond (ltb input ports) section_room 0

-- records from one up to another are sound entries, one by one and together
unfoldable pub are_sound : ℕ → ℕ → List ℕ → ℕ → ℕ → Bool
are_sound ports clock bs first end =
    all? (is_entry ports clock bs) (between first end)
    && (pairwise other_slot (entries_between bs first end)
    && (pairwise other_crosspoint (entries_between bs first end)
    && together ports (keep (λ e. is_listed e.place) (entries_between bs first end))))

-- the section of an input: its count, its unused records, and its entries
unfoldable pub is_section : ℕ → ℕ → List ℕ → ℕ → Bool
is_section ports clock bs input =
    let first = first_record input in
    let end = first + count_in bs input in
    leb (count_in bs input) (room_of ports input)
    && (all? (is_unused bs) (between end (first + section_room)) && are_sound ports clock bs first end)

-- an entry has the slot of another
unfoldable pub same_slot : Entry → Entry → Bool
same_slot e f = eqb f.cell.slot e.cell.slot

-- the sets of the first n entries of an input
pub record Sorts (bs : List ℕ) (input n listed heads crossed buffered : ℕ) : Type 0 where
  pub listed-is : listed ≡ set_from (λ k. is_listed (entry_at bs k).place) (section_room * input) n
  pub heads-is : heads ≡ set_from (is_first bs input) (section_room * input) n
  pub crossed-is : crossed ≡ set_from (λ k. is_crossed (entry_at bs k).place) (section_room * input) n
  pub buffered-is : buffered ≡ set_from (λ k. is_buffered (entry_at bs k).place) (section_room * input) n
