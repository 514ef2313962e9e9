-- What the choices of a phase ask of the bytes of a table, and what they are.
use Rattle.std.specs.Prelude.{ℕ, ◌<◌, ◌≤◌, Bool, true, ◌≡◌, length, get_or}
use mathlib.Core.List.{List, Memᴰ}
use Rattle.laws.specs.Lists.{some?}
use Rattle.cell.specs.Limits.{port_limit, flow_limit, section_room, clock_end}
use Rattle.model.specs.Phase.{Waiting, Phase}
use Rattle.layout.specs.Table.{table_size, entry_limit}
use Rattle.layout.specs.Entry.{entry_at, count_in}
use Rattle.layout.specs.Code.{ports_in}
use Rattle.slot_view.specs.CodeChoices.{scheduled_of, best_of}
use Rattle.slot_view.specs.CodeView.{InTable, crosspoint_at}

-- the bytes of a table, as far as a phase reads them
pub record Readable (table : List ℕ) : Type 0 where
  pub size : length table ≡ table_size
  pub some : 0 < ports_in table
  pub ports : ports_in table ≤ port_limit
  pub counts : (input : ℕ) → input < port_limit → count_in table input ≤ section_room
  pub outputs : (k : ℕ) → InTable table k → (entry_at table k).cell.output < ports_in table
  pub flows : (k : ℕ) → InTable table k → (entry_at table k).cell.flow < flow_limit
  pub early : (k : ℕ) → InTable table k → (entry_at table k).cell.slot < clock_end

-- the numbers at the crosspoints are those of these cells, each at its input and output
pub record Holds (table : List ℕ) (cross : List (List ℕ)) (cells : List Waiting) : Type 0 where
  pub cell : (e : Waiting) → Memᴰ e cells → e.cell ≡ (entry_at table e.at).cell
  pub inside : (e : Waiting) → Memᴰ e cells → InTable table e.at
  pub filled : (e : Waiting) → Memᴰ e cells → crosspoint_at cross e.cell.input e.cell.output ≡ e.at
  pub real : (input output : ℕ) → input < port_limit → output < port_limit → crosspoint_at cross input output < entry_limit
      → (e : Waiting) × Memᴰ e cells × (e.at ≡ crosspoint_at cross input output)
      × (e.cell.input ≡ input) × (e.cell.output ≡ output)

-- the best cell at the crosspoints of each output, whatever cells they hold
pub record Bests (table : List ℕ) (cross : List (List ℕ)) (best : List ℕ) : Type 0 where
  pub size : length best ≡ port_limit
  pub at : (cells : List Waiting) → Holds table cross cells → (output : ℕ) → output < port_limit
      → get_or best output 0 ≡ best_of (ports_in table) cells output

------------------------------------------------------------------------
-- the choices, input by input

-- some cell is urgent
unfoldable pub some_urgent : Phase → Bool
some_urgent p = some? (λ e. true) p.urgent

-- the scheduled cells of the first n inputs
pub record Scheduled (p : Phase) (n : ℕ) (scheduled : List ℕ) : Type 0 where
  pub at : (i : ℕ) → i < n → get_or scheduled i 0 ≡ scheduled_of p i
