-- What a departure sends, and what it leaves in the table.
--     departed                  the switch without the cells that leave
--     departure_at               what an output with this choice sends
--     Firsts                    the first cell of each input that leaves
--     stays, staying            the entries that stay, of a run of them
--     closed_one, cleared        one entry closes up, records are cleared
--     Removable, removed        what a section that closes up asks, and the table then
use Rattle.std.specs.Prelude.{ℕ, ◌+◌, ◌*◌, ◌-◌, ◌/◌, ◌<◌, ◌≤◌, Bool, true, false, cond, not, ◌≡◌, List, ◌++◌, map, eqb, leb, length, get_or, set, take, drop, replicate}
use Rattle.std.proofs.Math.Option.{Option, none, some}
use Rattle.laws.specs.Lists.{keep, numbers_from}
use Rattle.cell.specs.declared.Cell.{Cell}
use Rattle.cell.specs.Limits.{port_limit, section_room}
use Rattle.model.specs.State.{Entry, Switch}
use Rattle.model.specs.Phase.{Waiting, waiting}
use Rattle.model.specs.Crossbar.{leaving, without}
use Rattle.layout.specs.Table.{header_size, entry_size, section_size, table_size, entry_bytes, section_bytes}
use Rattle.layout.specs.Entry.{entry_at, count_in}
use Rattle.layout.specs.Code.{record_start, record_at}
use Rattle.layout_table.specs.CodeEntries.{nowhere}

-- the switch without the cells that leave
unfoldable pub departed : Switch → Switch
departed s =
    record {
      ports = s.ports;
      clock = s.clock;
      sections = without (leaving s.ports (waiting s.sections)) s.sections;
    }

------------------------------------------------------------------------
-- the answer

-- what an output with this choice sends
unfoldable pub departure_at : List ℕ → ℕ → Option Cell
departure_at table n = elim (leb nowhere n) [ true ↦ none | false ↦ some (entry_at table n).cell ]

------------------------------------------------------------------------
-- what stays

-- for each input the first of its cells among the choices of the outputs below `end`
pub record Firsts (numbers : List ℕ) (end : ℕ) (firsts : List ℕ) : Type 0 where
  pub size : length firsts ≡ port_limit
  pub least : (o : ℕ) → o < end → get_or numbers o 0 < nowhere
      → get_or firsts (get_or numbers o 0 / section_room) 0 ≤ get_or numbers o 0
  pub real : (i : ℕ) → i < port_limit → get_or firsts i 0 < nowhere
      → (get_or firsts i 0 / section_room ≡ i) × (o : ℕ) × (o < end) × (get_or numbers o 0 ≡ get_or firsts i 0)

-- the entry with a number as it waits
unfoldable pub waits_at : List ℕ → ℕ → Waiting
waits_at table k = record { at = k; cell = (entry_at table k).cell; place = (entry_at table k).place }

-- a waiting cell is not its output's choice
unfoldable pub stays : List ℕ → Waiting → Bool
stays numbers e = not (eqb (get_or numbers e.cell.output 0) e.at)

-- those of n entries from a number on that stay
unfoldable pub staying : List ℕ → List ℕ → ℕ → ℕ → List Entry
staying table numbers from n =
    map (λ e. record { cell = e.cell; place = e.place })
    (keep (stays numbers) (map (waits_at table) (numbers_from from n)))

-- one entry closes up to a free record, if it stays
unfoldable pub free_after : List ℕ → List ℕ → ℕ → ℕ → ℕ
free_after table numbers k free = cond (stays numbers (waits_at table k)) (free + 1) free

unfoldable pub closed_one : List ℕ → List ℕ → ℕ → ℕ → List ℕ
closed_one table numbers k free =
    cond (stays numbers (waits_at table k))
    (take (record_start free) table ++ (record_at table k ++ drop (record_start free + entry_size) table))
    table

-- n records are cleared
unfoldable pub cleared_from : List ℕ → ℕ → ℕ → List ℕ
cleared_from table first n =
    take (record_start first) table
    ++ (replicate (entry_size * n) 0 ++ drop (record_start first + entry_size * n) table)

-- the records of an input, with zeros behind its entries; the first that leaves is `from`, or none does
pub record Removable (table numbers : List ℕ) (input from : ℕ) : Type 0 where
  pub size : length table ≡ table_size
  pub port : input < port_limit
  pub count : count_in table input ≤ section_room
  pub own : from < nowhere → (section_room * input ≤ from) × (from ≤ section_room * input + count_in table input)
  pub before : (k : ℕ) → section_room * input ≤ k → k < section_room * input + count_in table input → k < from
      → stays numbers (waits_at table k) ≡ true
  pub outputs : (k : ℕ) → section_room * input ≤ k → k < section_room * input + count_in table input
      → (entry_at table k).cell.output < port_limit
  pub bytes : (k : ℕ) → section_room * input ≤ k → k < section_room * input + count_in table input
      → record_at table k ≡ entry_bytes (entry_at table k)
  pub rest : drop (record_start (section_room * input + count_in table input)) table
      ≡ replicate (section_size - entry_size * count_in table input) 0
      ++ drop (header_size + section_size * (input + 1)) table

-- the table without the cells of an input that leave
unfoldable pub removed : List ℕ → List ℕ → ℕ → List ℕ
removed table numbers input =
    let es = staying table numbers (section_room * input) (count_in table input) in
    set
    (take (header_size + section_size * input) table
    ++ (section_bytes es ++ drop (header_size + section_size * (input + 1)) table))
    (16 + input)
    (length es)
