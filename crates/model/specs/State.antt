-- The state of the crossbar. A cell waits in the list of its input, at a crosspoint, or in the buffer of its output.
-- An entry is a waiting cell with its place. The entries of an input are a section; those in its list stand there in
-- the order of the list, the others anywhere between. So each cell is in one place, which belongs to its input and
-- output: the crosspoint of input i and output o holds the entry of section i that goes to o and is `crossed`, and
-- the buffer of output o the entries that go to o and are `buffered`.
use Rattle.std.specs.Prelude.{ℕ, Bool, true, false, replicate, []}
use mathlib.Core.List.{List, map, flatten}
use Rattle.cell.specs.declared.Cell.{Cell}

pub data Place : Type 0 where
  listed crossed buffered : Place

pub record Entry : Type 0 where
  pub cell : Cell
  pub place : Place

-- N, the number of the next slot, and a section for each input
pub record Switch : Type 0 where
  pub ports : ℕ
  pub clock : ℕ
  pub sections : List (List Entry)

-- A fresh switch has N, no cells and a first slot number.
unfoldable pub fresh : ℕ → ℕ → Switch
fresh ports first = record { ports = ports; clock = first; sections = replicate ports [] }

unfoldable pub is_listed : Place → Bool
is_listed listed = true
is_listed crossed = false
is_listed buffered = false

unfoldable pub is_crossed : Place → Bool
is_crossed listed = false
is_crossed crossed = true
is_crossed buffered = false

unfoldable pub is_buffered : Place → Bool
is_buffered listed = false
is_buffered crossed = false
is_buffered buffered = true

-- all waiting cells, wherever in the switch they wait
unfoldable pub cells : Switch → List Cell
cells s = map (λ e. e.cell) (flatten s.sections)
