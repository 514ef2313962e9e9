-- Contents as a program lends them to the writer: for each slot the number of its arrivals, and for each arrival five
-- numbers, input, output, flow, rank, tag, one after the other.
use Rattle.std.specs.Prelude.{ℕ, zero, suc, ◌+◌, ◌*◌, Bool, true, false, List, [], ◌∷◌, ◌++◌, eqb, length, drop, get_or}
use Rattle.std.specs.Prelude.{Result, Ok, Err}
use Rattle.cell.specs.declared.Arrival.{Arrival}
use Rattle.cell.specs.declared.Refusal.{Refusal}
use Rattle.cell.specs.declared.Refusal.TheVariants.{BadSize, BadLine}
use Rattle.cell.specs.Limits.{ports_in_range}
use Rattle.trace.specs.Contents.{Contents, Written, wrote, turned_back, write}

unfoldable pub arrival_at : List ℕ → Arrival
arrival_at ns =
    record { input = get_or ns 0 0; output = get_or ns 1 0; flow = get_or ns 2 0; rank = get_or ns 3 0; tag = get_or ns 4 0 }

unfoldable pub arrivals_from : ℕ → List ℕ → List Arrival
arrivals_from zero ns = []
arrivals_from (suc n) ns = arrival_at ns ∷ arrivals_from n (drop 5 ns)

unfoldable pub slots_from : List ℕ → List ℕ → List (List Arrival)
slots_from [] ns = []
slots_from (n ∷ counts) ns = arrivals_from n ns ∷ slots_from counts (drop (5 * n) ns)

unfoldable pub total : List ℕ → ℕ
total [] = 0
total (n ∷ counts) = n + total counts

-- there are five numbers for each arrival that is counted
unfoldable pub fit_together : List ℕ → List ℕ → Bool
fit_together counts ns = eqb (length ns) (5 * total counts)

unfoldable pub contents_of : ℕ → ℕ → List ℕ → List ℕ → Contents
contents_of ports first counts ns = record { ports = ports; first = first; slots = slots_from counts ns }

-- 1, then 9, also where the lists do not fit together, then 10
unfoldable pub write_flat : ℕ → ℕ → List ℕ → List ℕ → ℕ → Written
write_flat ports first counts ns room =
    elim (ports_in_range ports) [
      | false ↦ turned_back BadSize
      | true ↦ elim (fit_together counts ns) [
        | false ↦ turned_back BadLine
        | true ↦ write (contents_of ports first counts ns) room
      ]
    ]

-- What the writer answers: the length of the text, or the refusal.
unfoldable pub output_of : Written → Result ℕ Refusal
output_of (wrote t) = Ok (length t)
output_of (turned_back r) = Err r

-- the buffer after the call: a refusal writes nothing, and bytes past the text are kept
unfoldable pub buffer_after : Written → List ℕ → List ℕ
buffer_after (wrote t) buffer = t ++ drop (length t) buffer
buffer_after (turned_back r) buffer = buffer
