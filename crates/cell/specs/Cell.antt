-- Scope 2.1 and 2.9: when two cells are the same, and what an accepted record becomes.
use Rattle.std.specs.Prelude.{ℕ, Bool, ◌&&◌, ◌==◌}
use Rattle.cell.specs.Limits.{fits32}
use Rattle.cell.specs.declared.Cell.{Cell}
use Rattle.cell.specs.declared.Arrival.{Arrival}

-- the cell that the record becomes where it is accepted in this slot
unfoldable pub accepted : ℕ → Arrival → Cell
accepted slot a =
    record { input = a.input; output = a.output; flow = a.flow; rank = a.rank; tag = a.tag; slot = slot }

-- cells are the same when all their fields are equal, the slot included
unfoldable pub same_cell : Cell → Cell → Bool
same_cell c d =
    (c.input == d.input)
    && (c.output == d.output
    && (c.flow == d.flow && (c.rank == d.rank && (c.tag == d.tag && c.slot == d.slot))))

-- a record of numbers of 32 bits
unfoldable pub arrival_fits : Arrival → Bool
arrival_fits a =
    fits32 a.input && fits32 a.output && fits32 a.flow && fits32 a.rank && fits32 a.tag
