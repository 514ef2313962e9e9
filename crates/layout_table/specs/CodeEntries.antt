-- What is written into a record, the numbers of its flow, and which of two entries an output sends first.
use Rattle.std.specs.Prelude.{ℕ, ◌+◌, ◌*◌, cond, List, leb}
use Rattle.cell.specs.declared.Cell.{Cell}
use Rattle.cell.specs.Limits.{flow_limit}
use Rattle.cell.specs.Order.{over}
use Rattle.model.specs.State.{Entry}
use Rattle.layout.specs.Entry.{entry_at}
use Rattle.layout.specs.Code.{ports_in}
use Rattle.layout.specs.Table.{place_of, entry_limit}

-- an entry with this byte for its place
unfoldable pub entry_with : Cell → ℕ → Entry
entry_with c place = record { cell = c; place = place_of place }

-- the number of a cell's flow among those of its input, as the first two bytes of its record have it
abbrev pub flow_word : Cell → ℕ
flow_word c = c.output + 256 * c.flow

-- the number of an entry's flow among those that its input can have
abbrev pub flow_number : Entry → ℕ
flow_number e = flow_limit * e.cell.output + e.cell.flow

-- the number of no entry
abbrev pub nowhere : ℕ
nowhere = entry_limit

-- of two numbers of cells the one that an output sends first; either may be of none
unfoldable pub better_of : List ℕ → ℕ → ℕ → ℕ
better_of table held number =
    cond (leb nowhere number) held
    (cond (leb nowhere held) number
    (cond (over (ports_in table) (entry_at table number).cell (entry_at table held).cell) number held))
