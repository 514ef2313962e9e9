-- The bytes of the cells' table, which stands in the table of a host (Fair) and was all of an older one: a layout number, N,
-- the clock, four bytes of zero, the number of entries of each input, one byte each, and sixteen sections of 64 records of 16
-- bytes. Unused records are zero. A table is the bytes of one sound state, and each sound state has one table.
use Rattle.std.specs.Prelude.{ℕ, zero, suc, ◌+◌, ◌*◌, ◌-◌, Bool, true, false, ◌&&◌, List, [], ◌∷◌, ◌++◌, ◌≡◌, eqb, length, take, drop, replicate}
use Rattle.std.proofs.Math.Option.{Option, none, some}
use Rattle.cell.specs.Limits.{port_limit, section_room}
use Rattle.model.specs.State.{Place, listed, crossed, buffered, Entry, Switch}
use Rattle.model.specs.Sound.{sound}
use Rattle.layout.specs.Number.{bytes_of, number_at, word, same_bytes}

abbrev pub layout_number : ℕ
layout_number = 1

abbrev pub header_size : ℕ
header_size = 32

abbrev pub entry_size : ℕ
entry_size = 16

-- how many entries a table has room for
abbrev pub entry_limit : ℕ
entry_limit = port_limit * section_room

abbrev pub section_size : ℕ
section_size = section_room * entry_size

abbrev pub table_size : ℕ
table_size = header_size + entry_limit * entry_size

-- 1 in a list, 2 at a crosspoint, 3 in an output buffer
unfoldable pub place_byte : Place → ℕ
place_byte listed = 1
place_byte crossed = 2
place_byte buffered = 3

unfoldable pub place_of : ℕ → Place
place_of b = elim (eqb b 1) [ true ↦ listed | false ↦ elim (eqb b 2) [ true ↦ crossed | false ↦ buffered ] ]

-- output, flow, place, a zero, rank, tag, slot; the input is the section's number
unfoldable pub entry_bytes : Entry → List ℕ
entry_bytes e =
    bytes_of 1 e.cell.output
    ++ (bytes_of 1 e.cell.flow
    ++ (bytes_of 1 (place_byte e.place)
    ++ (bytes_of 1 0
    ++ (bytes_of 4 e.cell.rank ++ (bytes_of 4 e.cell.tag ++ bytes_of 4 e.cell.slot)))))

unfoldable pub entry_of : ℕ → List ℕ → Entry
entry_of input bs =
    record {
      cell = record {
        input = input;
        output = number_at 1 0 bs;
        flow = number_at 1 1 bs;
        rank = word bs 4;
        tag = word bs 8;
        slot = word bs 12;
      };
      place = place_of (number_at 1 2 bs);
    }

unfoldable pub entries_bytes : List Entry → List ℕ
entries_bytes [] = []
entries_bytes (e ∷ es) = entry_bytes e ++ entries_bytes es

unfoldable pub entries_of : ℕ → ℕ → List ℕ → List Entry
entries_of input zero bs = []
entries_of input (suc n) bs = entry_of input (take entry_size bs) ∷ entries_of input n (drop entry_size bs)

-- a section: its entries, then zeros
unfoldable pub section_bytes : List Entry → List ℕ
section_bytes es = entries_bytes es ++ replicate (section_size - length (entries_bytes es)) 0

-- so many sections, those that the switch does not have being empty
unfoldable pub sections_bytes : ℕ → List (List Entry) → List ℕ
sections_bytes zero sections = []
sections_bytes (suc n) [] = section_bytes [] ++ sections_bytes n []
sections_bytes (suc n) (es ∷ sections) = section_bytes es ++ sections_bytes n sections

unfoldable pub counts_bytes : ℕ → List (List Entry) → List ℕ
counts_bytes zero sections = []
counts_bytes (suc n) [] = bytes_of 1 0 ++ counts_bytes n []
counts_bytes (suc n) (es ∷ sections) = bytes_of 1 (length es) ++ counts_bytes n sections

unfoldable pub encode : Switch → List ℕ
encode s =
    bytes_of 4 layout_number
    ++ (bytes_of 4 s.ports
    ++ (bytes_of 4 s.clock
    ++ (bytes_of 4 0 ++ (counts_bytes port_limit s.sections ++ sections_bytes port_limit s.sections))))

-- the sections from this input on, so many of them, with their counts and their bytes
unfoldable pub sections_of : ℕ → ℕ → List ℕ → List ℕ → List (List Entry)
sections_of input zero counts bs = []
sections_of input (suc n) counts bs =
    entries_of input (number_at 1 0 counts) (take section_size bs) ∷ sections_of (input + 1) n (drop 1 counts) (drop section_size bs)

-- the state that bytes would stand for, whatever they are
unfoldable pub state_of : List ℕ → Switch
state_of bs =
    let ports = word bs 4 in
    record { ports = ports; clock = word bs 8; sections = sections_of 0 ports (drop 16 bs) (drop header_size bs) }

-- the state of a table; none if the bytes are no table of a sound state
unfoldable pub decode : List ℕ → Option Switch
decode bs =
    let s = state_of bs in
    elim (sound s && same_bytes (encode s) bs) [ true ↦ some s | false ↦ none ]

-- whether bytes are the table of a sound state, and that they are
unfoldable pub is_table : List ℕ → Bool
is_table bs = elim (decode bs) [ some s ↦ true | none ↦ false ]

abbrev pub IsTable : List ℕ → Type 0
IsTable bs = decode bs ≡ some (state_of bs)
