-- How the code of a phase sees the switch: the cells of the table, which stay the same; their places, one byte for each
-- entry (1 in a list, 2 at a crosspoint, 3 in a buffer), which it changes; and the crosspoints, sixteen rows of sixteen
-- numbers of entries. A number of 1,024 or more at a crosspoint says that it is empty.
use Rattle.std.specs.Prelude.{ℕ, ◌*◌, ◌<◌, ◌≤◌, ◌/◌, ◌+◌, true, ◌≡◌, length, get_or, set}
use mathlib.Core.List.{List, [], map, flatten, Memᴰ}
use Rattle.laws.specs.Lists.{numbers_from, up_to}
use Rattle.cell.specs.Limits.{section_room, port_limit}
use Rattle.model.specs.Phase.{Waiting}
use Rattle.model.specs.State.{is_crossed}
use Rattle.layout.specs.Entry.{entry_at, count_in}
use Rattle.layout.specs.Code.{place_byte_at, ports_in}
use Rattle.layout.specs.Table.{place_of, entry_limit}

-- the waiting cell with a number
unfoldable pub waiting_at : List ℕ → List ℕ → ℕ → Waiting
waiting_at table places k = record { at = k; cell = (entry_at table k).cell; place = place_of (get_or places k 0) }

-- the first n waiting cells of an input
unfoldable pub window : List ℕ → List ℕ → ℕ → ℕ → List Waiting
window table places input n = map (waiting_at table places) (numbers_from (section_room * input) n)

-- all waiting cells
unfoldable pub in_table : List ℕ → List ℕ → List Waiting
in_table table places =
    flatten (map (λ i. window table places i (count_in table i)) (up_to (ports_in table)))

-- what stands at a crosspoint
unfoldable pub crosspoint_at : List (List ℕ) → ℕ → ℕ → ℕ
crosspoint_at cross input output = get_or (get_or cross input []) output 0

-- with another number there
unfoldable pub cross_with : List (List ℕ) → ℕ → ℕ → ℕ → List (List ℕ)
cross_with cross input output k = set cross input (set (get_or cross input []) output k)

-- sixteen rows of sixteen places
pub record Square (cross : List (List ℕ)) : Type 0 where
  pub rows : length cross ≡ port_limit
  pub columns : (input : ℕ) → input < port_limit → length (get_or cross input []) ≡ port_limit

-- an entry of the table has this number
pub record InTable (table : List ℕ) (k : ℕ) : Type 0 where
  pub input : k / section_room < ports_in table
  pub position : k < section_room * (k / section_room) + count_in table (k / section_room)

-- each entry has one of the three places
abbrev pub InPlace : List ℕ → List ℕ → Type 0
InPlace table places = (k : ℕ) → InTable table k → (1 ≤ get_or places k 0) × (get_or places k 0 ≤ 3)

-- the crosspoints are those of the places: each crossed cell's number stands at its crosspoint, and each number that
-- stands at a crosspoint is that of a crossed cell of its input and output
pub record Agrees (table places : List ℕ) (cross : List (List ℕ)) : Type 0 where
  pub filled : (e : Waiting) → Memᴰ e (in_table table places) → is_crossed e.place ≡ true
      → crosspoint_at cross e.cell.input e.cell.output ≡ e.at
  pub real : (input output : ℕ) → input < port_limit → output < port_limit → crosspoint_at cross input output < entry_limit
      → InTable table (crosspoint_at cross input output)
      × (is_crossed (waiting_at table places (crosspoint_at cross input output)).place ≡ true)
      × ((waiting_at table places (crosspoint_at cross input output)).cell.input ≡ input)
      × ((waiting_at table places (crosspoint_at cross input output)).cell.output ≡ output)

------------------------------------------------------------------------
-- the places that the table itself has

unfoldable pub places_in : List ℕ → List ℕ
places_in table = map (place_byte_at table) (numbers_from 0 entry_limit)

-- its waiting cells
abbrev pub waiting_in : List ℕ → List Waiting
waiting_in table = in_table table (places_in table)
