-- The best crosspoint cell of an output by its row of keys. Only `best_of_each`, its functions and its caller cite these.
use Rattle.std.specs.Prelude.{ℕ, ◌+◌, ◌%◌, ◌^◌, ◌<◌, min, Bool, true, ◌⊎◌, ◌≡◌, List, [], eqb, length, get_or}
use Rattle.sets.specs.Sets.{positions, has, set_from}
use Rattle.cell.specs.Limits.{port_limit}
use Rattle.cell.specs.Order.{first_in_turn, in_turn}
use Rattle.layout_table.specs.CodeEntries.{nowhere}
use Rattle.slot_view.specs.CodeView.{crosspoint_at}

-- the least of four numbers of a row, and of all sixteen
abbrev pub least_of_four : List ℕ → ℕ → ℕ
least_of_four row from =
    min (min (get_or row from 0) (get_or row (from + 1) 0)) (min (get_or row (from + 2) 0) (get_or row (from + 3) 0))

abbrev pub least_of : List ℕ → ℕ
least_of row = min (min (least_of_four row 0) (least_of_four row 4)) (min (least_of_four row 8) (least_of_four row 12))

-- the inputs of a row that have a key
abbrev pub has_key : List ℕ → ℕ → ℕ → Bool
has_key row key i = eqb (get_or row i 0) key

abbrev pub holders_of : List ℕ → ℕ → ℕ
holders_of row key = set_from (has_key row key) 0 port_limit

-- of the first n outputs the least key and the inputs that have it
pub record LeastTo (keys : List (List ℕ)) (n : ℕ) (least holders : List ℕ) : Type 0 where
  pub least_size : length least ≡ port_limit
  pub holders-size : length holders ≡ port_limit
  pub each : (output : ℕ) → output < n
      → (get_or least output 0 ≡ least_of (get_or keys output []))
      × (get_or holders output 0 ≡ holders_of (get_or keys output []) (least_of (get_or keys output [])))

-- the member of a set that comes first in the round that begins at `start`
pub record FirstInRound (set start r : ℕ) : Type 0 where
  pub member : has set r ≡ true
  pub inside : r < positions
  pub first : (i : ℕ) → i < positions → has set i ≡ true → (i ≡ r) ⊎ (in_turn start r i ≡ true)

-- of the inputs that have a key that which comes first in the round of its slot
pub record Leads (ports : ℕ) (row : List ℕ) (key r : ℕ) : Type 0 where
  pub inside : r < port_limit
  pub held : get_or row r 0 ≡ key
  pub first : (i : ℕ) → i < port_limit → get_or row i 0 ≡ key
      → (i ≡ r) ⊎ (in_turn (first_in_turn ports (key % 2 ^ 32)) r i ≡ true)

-- the key is the least of an output, and the number stands at the crosspoint of the input that goes first of those that
-- have it
pub record Leading (ports : ℕ) (cross keys : List (List ℕ)) (output number key : ℕ) : Type 0 where
  pub least : key ≡ least_of (get_or keys output [])
  pub holder : ℕ
  pub holds : Leads ports (get_or keys output []) key holder
  pub number_is : number ≡ min (crosspoint_at cross holder output) nowhere

-- of the first n outputs
pub record LeadingTo (ports : ℕ) (cross keys : List (List ℕ)) (n : ℕ) (best least : List ℕ) : Type 0 where
  pub best-size : length best ≡ port_limit
  pub each : (output : ℕ) → output < n → Leading ports cross keys output (get_or best output 0) (get_or least output 0)
