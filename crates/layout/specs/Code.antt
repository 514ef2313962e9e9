-- The records of a table by number (the record k = 64 · input + position stands at byte 32 + 16 · k), bytes put into a
-- byte string, and what the code asks of a table's bytes.
use Rattle.std.specs.Prelude.{ℕ, ◌+◌, ◌*◌, ◌<◌, List, map, ◌++◌, take, drop, length, ◌≡◌}
use Rattle.laws.specs.Lists.{between}
use Rattle.cell.specs.Limits.{section_room}
use Rattle.model.specs.State.{Entry}
use Rattle.layout.specs.Number.{number_at, word}
use Rattle.layout.specs.Table.{header_size, entry_size, entry_limit, table_size}
use Rattle.layout.specs.Entry.{entry_at, count_in}

-- the first byte of a record
abbrev pub record_start : ℕ → ℕ
record_start k = header_size + entry_size * k

-- its bytes
unfoldable pub record_at : List ℕ → ℕ → List ℕ
record_at bs k = take entry_size (drop (record_start k) bs)

-- the byte of its place: 1, 2 or 3 in a table
unfoldable pub place_byte_at : List ℕ → ℕ → ℕ
place_byte_at bs k = number_at 1 2 (record_at bs k)

-- the entries of the records from one up to another
unfoldable pub entries_between : List ℕ → ℕ → ℕ → List Entry
entries_between bs from to = map (entry_at bs) (between from to)

-- the first record of an input, and its section
abbrev pub first_record : ℕ → ℕ
first_record input = section_room * input

unfoldable pub section_at : List ℕ → ℕ → List Entry
section_at bs input = entries_between bs (first_record input) (first_record input + count_in bs input)

-- bytes at a place of a byte string, the others kept
abbrev pub put : ℕ → ℕ → List ℕ → List ℕ → List ℕ
put at width bs old = take at old ++ (bs ++ drop (at + width) old)

-- bytes of a table's length, and the number of one of its records
abbrev pub HasEntry : List ℕ → ℕ → Type 0
HasEntry bs k = (length bs ≡ table_size) × (k < entry_limit)

unfoldable pub ports_in : List ℕ → ℕ
ports_in bs = word bs 4
