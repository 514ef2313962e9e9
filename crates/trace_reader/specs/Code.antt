-- What the private functions of the reader answer, by what the definitions read of a part.
use Rattle.std.specs.Prelude.{ℕ, ◌+◌, ◌-◌, List, length, Result, Ok, Err}
use Rattle.cell.specs.declared.Arrival.{Arrival}
use Rattle.trace.specs.Reader.{from, Read, got, bad_at, Next, slot_ahead, faulty, blocks}

-- an arrival and how many bytes of t were read, which is what they left, or the line at fault
unfoldable pub came_of : List ℕ → Read Arrival → Result (Arrival × ℕ) ℕ
came_of t (got a d) = Ok (a, length t - length d.text)
came_of t (bad_at l) = Err l

-- the arrivals of a block, once its `slot` line is read
unfoldable pub ahead : Read (List Arrival) → Next
ahead (got rs d) = slot_ahead rs d
ahead (bad_at l) = faulty l

-- the slots of a text, after n others, or the line at fault
unfoldable pub ended : ℕ → Read (List (List Arrival)) → Result ℕ ℕ
ended n (got slots d) = Ok (n + length slots)
ended n (bad_at l) = Err l

-- the text after the header, which has two lines
unfoldable pub ended_of : ℕ → List ℕ → Result ℕ ℕ
ended_of first t = ended 0 (blocks (length t) first (from 3 t))
