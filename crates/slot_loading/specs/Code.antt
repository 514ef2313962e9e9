-- What of a table is in the view so far: its sets input by input, its crosspoints and buffers entry by entry.
--     Sorted                         the cells of an input by their places, as sets of positions
--     SetsBelow                      those of the inputs below a number
--     CrossedBelow, BestBelow        the crosspoints and the buffers, of the entries with numbers below an end
--     LoadedBelow                    both, of the inputs below a number
use Rattle.std.specs.Prelude.{ℕ, ◌*◌, ◌/◌, ◌<◌, ◌≤◌, true, ◌≡◌, List, length, get_or}
use Rattle.cell.specs.Limits.{section_room, port_limit}
use Rattle.model.specs.State.{is_crossed}
use Rattle.layout.specs.Entry.{entry_at}
use Rattle.layout.specs.Table.{place_of, entry_limit}
use Rattle.slot_view.specs.CodeChoices.{BestAmong}
use Rattle.slot_view.specs.CodeView.{InTable, crosspoint_at, Square, places_in}
use Rattle.slot_view.specs.CodeViewed.{listed_set, head_set, crossed_set, buffered_set, key_at, Keyed, Buffered}

------------------------------------------------------------------------
-- the cells of an input

pub record Sorted (table places : List ℕ) (input listed crossed buffered : ℕ) : Type 0 where
  pub listed-is : listed ≡ listed_set table places input
  pub crossed-is : crossed ≡ crossed_set table places input
  pub buffered-is : buffered ≡ buffered_set table places input

-- an array has what it should of the inputs below a number, and 0 of the others
pub record FilledBelow (is : ℕ → ℕ) (n : ℕ) (l : List ℕ) : Type 0 where
  pub size : length l ≡ port_limit
  pub at : (input : ℕ) → input < n → get_or l input 0 ≡ is input
  pub rest : (input : ℕ) → n ≤ input → input < port_limit → get_or l input 0 ≡ 0

pub record SetsBelow (table : List ℕ) (n : ℕ) (listed heads crossed buffered : List ℕ) : Type 0 where
  pub lists : FilledBelow (listed_set table (places_in table)) n listed
  pub firsts : FilledBelow (head_set table (places_in table)) n heads
  pub crosses : FilledBelow (crossed_set table (places_in table)) n crossed
  pub buffers : FilledBelow (buffered_set table (places_in table)) n buffered

------------------------------------------------------------------------
-- the crosspoints

-- the entry with a number is a crossed cell
pub record Crossed (table places : List ℕ) (k : ℕ) : Type 0 where
  pub entry : InTable table k
  pub place : is_crossed (place_of (get_or places k 0)) ≡ true

pub record CrossedBelow (table places : List ℕ) (end : ℕ) (cross keys : List (List ℕ)) : Type 0 where
  pub square : Square cross
  pub keyed : Keyed table cross keys
  pub filled : (k : ℕ) → k < end → Crossed table places k
      → crosspoint_at cross (k / section_room) (entry_at table k).cell.output ≡ k
  pub real : (input output : ℕ) → input < port_limit → output < port_limit → crosspoint_at cross input output < entry_limit
      → Crossed table places (crosspoint_at cross input output)
      × (crosspoint_at cross input output / section_room ≡ input)
      × ((entry_at table (crosspoint_at cross input output)).cell.output ≡ output)

------------------------------------------------------------------------
-- the buffers

pub record BufferedBelow (table places : List ℕ) (output end k : ℕ) : Type 0 where
  pub early : k < end
  pub cell : Buffered table places output k

-- the best of each output, and its key
pub record BestBelow (table places : List ℕ) (end : ℕ) (best rivals : List ℕ) : Type 0 where
  pub size : length best ≡ port_limit
  pub keys-size : length rivals ≡ port_limit
  pub each : (output : ℕ) → output < port_limit → BestAmong table (BufferedBelow table places output end) (get_or best output 0)
  pub keys : (output : ℕ) → output < port_limit → get_or rivals output 0 ≡ key_at table (get_or best output 0)

------------------------------------------------------------------------
-- both

pub record LoadedBelow (table : List ℕ) (n : ℕ) (cross keys : List (List ℕ)) (best rivals : List ℕ) : Type 0 where
  pub crossed : CrossedBelow table (places_in table) (section_room * n) cross keys
  pub bests : BestBelow table (places_in table) (section_room * n) best rivals
