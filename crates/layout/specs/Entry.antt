-- Entry number k of a table, k being 64 × input + the position in the section, and what the header says of the sections.
use Rattle.std.specs.Prelude.{ℕ, ◌+◌, ◌*◌, ◌/◌, List, take, drop, get_or}
use Rattle.cell.specs.Limits.{section_room}
use Rattle.model.specs.State.{Entry}
use Rattle.layout.specs.Number.{word}
use Rattle.layout.specs.Table.{entry_of, entry_size, header_size}

unfoldable pub entry_at : List ℕ → ℕ → Entry
entry_at bs k = entry_of (k / section_room) (take entry_size (drop (header_size + entry_size * k) bs))

unfoldable pub clock_in : List ℕ → ℕ
clock_in bs = word bs 8

-- how many entries the section of an input has
unfoldable pub count_in : List ℕ → ℕ → ℕ
count_in bs input = get_or bs (16 + input) 0
