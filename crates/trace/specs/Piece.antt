-- Reading a text that arrives in pieces. A reader is handed the text that is there so far and whether that is the last of
-- it. It answers once it has the last of the text, or at least as many bytes as any block can have and the start of the
-- line after it; otherwise more text is needed. So its answer does not depend on where the text was cut.
-- Lines are counted from 0 at the start of the piece.
use Rattle.std.specs.Prelude.{ℕ, ◌-◌, Bool, true, false, ◌||◌, List, [], ◌∷◌, leb, length}
use Rattle.cell.specs.declared.Arrival.{Arrival}
use Rattle.trace.specs.declared.Answer.{Answer}
use Rattle.trace.specs.declared.Answer.TheVariants.{Slot, End, Bad, More}
use Rattle.trace.specs.declared.Opening.{Opening}
use Rattle.trace.specs.declared.Opening.TheVariants.{Open, Refused, Short}
use Rattle.trace.specs.Reader.{Next, slot_ahead, finished, faulty, next, Header, opened, refused_at, header}

-- a block has at most 1,232 bytes, a header at most 34
abbrev pub enough : ℕ
enough = 2048

pub data Piece (A : Type 0) : Type 0 where
  known : A → Piece A
  more : Piece A

unfoldable pub decided : Bool → List ℕ → Bool
decided last t = last || leb enough (length t)

unfoldable pub next_in : Bool → ℕ → List ℕ → Piece Next
next_in last clock t =
    elim (decided last t) [ true ↦ known (next clock (record { line = 0; text = t })) | false ↦ more ]

unfoldable pub header_in : Bool → List ℕ → Piece Header
header_in last t = elim (decided last t) [ true ↦ known (header t) | false ↦ more ]

-- five numbers for each arrival: input, output, flow, rank, tag
unfoldable pub numbers_of : List Arrival → List ℕ
numbers_of [] = []
numbers_of (a ∷ rs) = a.input ∷ a.output ∷ a.flow ∷ a.rank ∷ a.tag ∷ numbers_of rs

-- What the block reader answers: how many arrivals, how many bytes and how many lines the block has; or that the text has
-- ended as it must; or the line at fault; or that more text is needed.
unfoldable pub answer_of : List ℕ → Piece Next → Answer
answer_of t (known (slot_ahead rs c)) = Slot (length rs) (length t - length c.text) c.line
answer_of t (known finished) = End
answer_of t (known (faulty k)) = Bad k
answer_of t more = More

-- What the header reader answers.
unfoldable pub opening_of : List ℕ → Piece Header → Opening
opening_of t (known (opened ports first c)) = Open ports first (length t - length c.text)
opening_of t (known (refused_at r l)) = Refused r l
opening_of t more = Short
