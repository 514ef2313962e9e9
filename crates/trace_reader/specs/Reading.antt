-- What the functions of the reader answer, by what the definitions read:
--     verdict_of o     a whole text
--     numbers_after    the numbers lent to the block reader
use Rattle.std.specs.Prelude.{ℕ, zero, suc, true, false, List, [], ◌∷◌, length, Result, Ok, Err}
use Rattle.std.proofs.lemmas.List.Edits.{sets}
use Rattle.cell.specs.declared.Arrival.{Arrival}
use Rattle.trace.specs.declared.Key.TheVariants.{Slot, In, End}
use Rattle.trace_reader.specs.declared.BadText.{BadText}
use Rattle.trace.specs.Contents.{block_limit}
use Rattle.trace.specs.Piece.{Piece, known, more, numbers_of}
use Rattle.trace.specs.Reader.{Cursor, got, bad_at, exactly, begins, arrival, Next, slot_ahead, finished, faulty}
use Rattle.trace.specs.Reader.{Outcome, accepted, refused}

unfoldable pub verdict_of : Outcome → Result ℕ BadText
verdict_of (accepted c) = Ok (length c.slots)
verdict_of (refused r l) = Err (record { refusal = r; line = l })

-- the numbers of some arrivals in place of the first of others
abbrev pub stored : List Arrival → List ℕ → List ℕ
stored rs ns = sets ns 0 (numbers_of rs)

-- the arrivals that are whole before the first bad line, at most `most` of them
unfoldable pub whole_arrivals : ℕ → Cursor → List Arrival
whole_arrivals zero c = []
whole_arrivals (suc most) c =
    elim (begins In c) [
      | false ↦ []
      | true ↦ elim (arrival c) [ got a d ↦ a ∷ whole_arrivals most d | bad_at l ↦ [] ]
    ]

-- those of a block with the clock's number; the line of `end` has none
unfoldable pub whole_of : ℕ → Cursor → List Arrival
whole_of clock c =
    elim (begins End c) [
      | true ↦ []
      | false ↦ elim (exactly Slot clock c) [ got n d ↦ whole_arrivals block_limit d | bad_at l ↦ [] ]
    ]

-- the numbers that the block reader was lent: those of the block's arrivals come first, or those of the arrivals that
-- are whole before a bad line; the others are kept
unfoldable pub numbers_after : List Arrival → Piece Next → List ℕ → List ℕ
numbers_after whole (known (slot_ahead rs c)) ns = stored rs ns
numbers_after whole (known finished) ns = ns
numbers_after whole (known (faulty k)) ns = stored whole ns
numbers_after whole more ns = ns
