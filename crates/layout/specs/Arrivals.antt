-- The arrivals of a slot as bytes: records of 20 bytes, five numbers of 32 bits each. Any bits are a record.
use Rattle.std.specs.Prelude.{ℕ, zero, suc, ◌+◌, ◌/◌, ◌%◌, true, false, List, [], ◌∷◌, ◌++◌, eqb, length, take, drop}
use Rattle.std.proofs.Math.Option.{Option, none, some}
use Rattle.cell.specs.declared.Arrival.{Arrival}
use Rattle.cell.specs.Limits.{port_limit}
use Rattle.layout.specs.Number.{bytes_of, word}

abbrev pub arrival_size : ℕ
arrival_size = 20

-- so many records are looked at: inputs rise and are below 16, so that the seventeenth has a fault or stands behind one
abbrev pub held_limit : ℕ
held_limit = port_limit + 1

-- input, output, flow, rank, tag
unfoldable pub arrival_bytes : Arrival → List ℕ
arrival_bytes a =
    bytes_of 4 a.input
    ++ (bytes_of 4 a.output ++ (bytes_of 4 a.flow ++ (bytes_of 4 a.rank ++ bytes_of 4 a.tag)))

unfoldable pub arrival_of : List ℕ → Arrival
arrival_of bs = record { input = word bs 0; output = word bs 4; flow = word bs 8; rank = word bs 12; tag = word bs 16 }

unfoldable pub arrivals_bytes : List Arrival → List ℕ
arrivals_bytes [] = []
arrivals_bytes (a ∷ records) = arrival_bytes a ++ arrivals_bytes records

unfoldable pub arrivals_of : ℕ → List ℕ → List Arrival
arrivals_of zero bs = []
arrivals_of (suc n) bs = arrival_of (take arrival_size bs) ∷ arrivals_of n (drop arrival_size bs)

-- the records that the bytes are; none if they are no whole number of records
unfoldable pub records_of : List ℕ → Option (List Arrival)
records_of bs =
    elim (eqb (length bs % arrival_size) 0) [ true ↦ some (arrivals_of (length bs / arrival_size) bs) | false ↦ none ]
