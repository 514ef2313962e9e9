-- Scope 7.2: the contents of a text and what the writer makes of them.
use Rattle.std.specs.Prelude.{ℕ, ◌+◌, ◌*◌, Bool, true, false, ◌&&◌, List, [], ◌∷◌, ◌++◌, length, leb}
use Rattle.laws.specs.Lists.{all?}
use Rattle.cell.specs.declared.Arrival.{Arrival}
use Rattle.cell.specs.declared.Refusal.{Refusal}
use Rattle.cell.specs.declared.Refusal.TheVariants.{BadSize, BadLine, ShortBuffer}
use Rattle.cell.specs.Cell.{arrival_fits}
use Rattle.cell.specs.Limits.{ports_in_range, clock_end}
use Rattle.trace.specs.declared.Key.TheVariants.{Ports, First, Slot, In, Out, Flow, Rank, Tag, End}
use Rattle.trace.specs.Line.{line}

-- The slot numbers and the clock at the end follow from these, so they are no part of the contents.
pub record Contents : Type 0 where
  pub ports : ℕ
  pub first : ℕ
  pub slots : List (List Arrival)

-- a block has at most 16 arrivals
abbrev pub block_limit : ℕ
block_limit = 16

-- each of them five numbers, a line each, after the slot's own line
abbrev pub block_numbers : ℕ
block_numbers = 5 * block_limit

abbrev pub block_lines : ℕ
block_lines = 1 + block_numbers

-- for each arrival `in`, `out`, `flow`, `rank`, `tag`
unfoldable pub arrival_text : Arrival → List ℕ
arrival_text a =
    line In a.input
    ++ (line Out a.output ++ (line Flow a.flow ++ (line Rank a.rank ++ line Tag a.tag)))

unfoldable pub arrivals_text : List Arrival → List ℕ
arrivals_text [] = []
arrivals_text (a ∷ rs) = arrival_text a ++ arrivals_text rs

-- for each slot `slot` and its arrivals, the numbers following on from the clock; last `end`, the clock after the last slot
unfoldable pub slots_text : ℕ → List (List Arrival) → List ℕ
slots_text clock [] = line End clock
slots_text clock (rs ∷ slots) = line Slot clock ++ (arrivals_text rs ++ slots_text (clock + 1) slots)

-- first `ports`, then `first`, then the slots
unfoldable pub text : Contents → List ℕ
text c = line Ports c.ports ++ (line First c.first ++ slots_text c.first c.slots)

unfoldable pub block_fits : List Arrival → Bool
block_fits rs = leb (length rs) block_limit && all? arrival_fits rs

-- contents that some text has: no slot has over 16 arrivals, and none is past 4,294,967,294
unfoldable pub has_text : Contents → Bool
has_text c = leb (c.first + length c.slots) clock_end && all? block_fits c.slots

-- What the writer answers for these contents and a buffer of some length.
pub data Written : Type 0 where
  wrote : List ℕ → Written
  turned_back : Refusal → Written

-- ports out of range give 1 before contents that no text has give 9, and a short buffer comes last
unfoldable pub write : Contents → ℕ → Written
write c room =
    elim (ports_in_range c.ports) [
      | false ↦ turned_back BadSize
      | true ↦ elim (has_text c) [
        | false ↦ turned_back BadLine
        | true ↦ elim (leb (length (text c)) room) [ false ↦ turned_back ShortBuffer | true ↦ wrote (text c) ]
      ]
    ]
