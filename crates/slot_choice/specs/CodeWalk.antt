-- The walk along the heads of each input by which a phase chooses: what it asks, what it finds, and what is matched. Only
-- the functions of the choice cite these.
use Rattle.std.specs.Prelude.{ℕ, ◌+◌, ◌*◌, ◌%◌, ◌^◌, ◌<◌, ◌≤◌, Bool, cond, ◌≡◌, List, [], ◌∷◌, map, eqb, ltb, leb, length, get_or}
use Rattle.sets.specs.Sets.{positions, members, first_of}
use Rattle.sets.specs.Code.{with_one}
use Rattle.cell.specs.Limits.{port_limit, section_room}
use Rattle.cell.specs.Order.{key}
use Rattle.model.specs.Phase.{Waiting, Phase, phase, crosspoints}
use Rattle.layout.specs.Entry.{entry_at}
use Rattle.layout_table.specs.CodeEntries.{nowhere}
use Rattle.slot_view.specs.CodeChoices.{of_input, scheduled_of, best_of}
use Rattle.slot_view.specs.CodeView.{places_in, waiting_in, waiting_at, InTable, Agrees}
use Rattle.slot_view.specs.CodeScan.{Readable, some_urgent}
use Rattle.layout.specs.Code.{ports_in}
use Rattle.slot_view.specs.CodeViewed.{no_key, key_at, Keyed}

------------------------------------------------------------------------
-- what the walk asks

-- the crosspoints are those of the table, by the keys of their cells, which are below the key of none
pub record KeysKnown (table : List ℕ) (keys : List (List ℕ)) : Type 0 where
  pub readable : Readable table
  pub cross : List (List ℕ)
  pub agrees : Agrees table (places_in table) cross
  pub keyed : Keyed table cross keys
  pub below : (k : ℕ) → InTable table k → key (entry_at table k).cell < no_key

-- and the best cell there of each output and its key are known
pub record BestKnown (table : List ℕ) (keys : List (List ℕ)) (best least : List ℕ) : Type 0 where
  pub known : KeysKnown table keys
  pub bests : (output : ℕ) → output < port_limit
      → get_or best output 0 ≡ best_of (ports_in table) (crosspoints (waiting_in table)) output
  pub leasts : (output : ℕ) → output < port_limit → get_or least output 0 ≡ key_at table (get_or best output 0)

-- a cell stands at a position in the section of an input
pub record CellAt (table : List ℕ) (input position : ℕ) : Type 0 where
  pub small : position < section_room
  pub inside : InTable table (section_room * input + position)

-- the cell there
abbrev pub cell_at : List ℕ → ℕ → ℕ → Waiting
cell_at table input position = waiting_at table (places_in table) (section_room * input + position)

-- the scheduled cell of an input by its position; there is none at 64 or more
unfoldable pub scheduled_at : List ℕ → ℕ → ℕ → List Waiting
scheduled_at table input position = cond (ltb position section_room) (cell_at table input position ∷ []) []

------------------------------------------------------------------------
-- what it finds

-- the numbers of the cells at a set of positions of an input
abbrev pub numbers_at : ℕ → ℕ → List ℕ
numbers_at input set = map (λ j. section_room * input + j) (members set)

-- the urgent cells of an input, in list order
unfoldable pub urgent_of : Phase → ℕ → List ℕ
urgent_of p input = map (λ e. e.at) (of_input input p.urgent)

-- the scheduled cell of an input, and its urgent cells
pub record Scanned (table : List ℕ) (input scheduled urgent : ℕ) : Type 0 where
  pub scheduled-is : scheduled ≡ scheduled_of (phase (ports_in table) (waiting_in table)) input
  pub fits : urgent < 2 ^ positions
  pub urgent-are : numbers_at input urgent ≡ urgent_of (phase (ports_in table) (waiting_in table)) input

-- those of each input, and whether some cell is urgent
pub record ScannedAll (table scheduled urgent : List ℕ) (some : Bool) : Type 0 where
  pub sizes : (length scheduled ≡ port_limit) × (length urgent ≡ port_limit)
  pub each : (input : ℕ) → input < port_limit → Scanned table input (get_or scheduled input 0) (get_or urgent input 0)
  pub some_is : some ≡ some_urgent (phase (ports_in table) (waiting_in table))

------------------------------------------------------------------------
-- what is matched

-- of an input, where some cell is urgent: its scheduled cell alone, if that stands first in its list; otherwise its
-- urgent cells
unfoldable pub entered : ℕ → ℕ → ℕ → ℕ
entered listed scheduled urgent =
    cond (leb nowhere scheduled) urgent
    (cond (eqb (first_of listed) (scheduled % section_room)) (with_one 0 (scheduled % section_room)) urgent)

-- of the first n inputs; the sets of the others are as before
pub record Entered (listed scheduled old : List ℕ) (n : ℕ) (new : List ℕ) : Type 0 where
  pub size : length new ≡ port_limit
  pub done : (i : ℕ) → i < n → get_or new i 0 ≡ entered (get_or listed i 0) (get_or scheduled i 0) (get_or old i 0)
  pub later : (i : ℕ) → n ≤ i → get_or new i 0 ≡ get_or old i 0
