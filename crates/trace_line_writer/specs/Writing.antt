-- Putting a text into a buffer, from a place on.
--     place_after at size     the place after so many bytes
--     line_of key n           the line with that key and number
--     lines_text ls           line after line
--     with_text buffer at t   the buffer with the text there, if it fits
--     Ends, Put              what a function that measures the text or puts it does
use Rattle.std.specs.Prelude.{ℕ, ◌+◌, min, true, false, List, [], ◌∷◌, ◌++◌, ◌≡◌, leb, length, take, drop}
use Rattle.trace.specs.declared.Key.{Key}
use Rattle.trace.specs.Line.{line}
use Rattle.trace_line_writer.specs.declared.TraceLine.{TraceLine}

-- the largest place, which is past the end of every buffer
abbrev pub last_place : ℕ
last_place = 18446744073709551615

-- a place past the end of the buffer says that the bytes do not fit
abbrev pub place_after : ℕ → ℕ → ℕ
place_after at size = min (at + size) last_place

abbrev pub line_of : Key → ℕ → TraceLine
line_of k n = record { key = k; number = n }

unfoldable pub lines_text : List TraceLine → List ℕ
lines_text [] = []
lines_text (l ∷ ls) = line l.key l.number ++ lines_text ls

-- where the text does not fit, the buffer is as it was
unfoldable pub with_text : List ℕ → ℕ → List ℕ → List ℕ
with_text buffer at t =
    elim (leb (at + length t) (length buffer)) [
      | true ↦ take at buffer ++ (t ++ drop (at + length t) buffer)
      | false ↦ buffer
    ]

-- What a function that measures a text answers: the place after it.
pub record Ends (at : ℕ) (t : List ℕ) (next : ℕ) : Type 0 where
  pub place : next ≡ place_after at (length t)

-- What a public function leaves of a buffer and answers: all of the text or nothing of it, and the place after it.
pub record Put (buffer : List ℕ) (at : ℕ) (t : List ℕ) (after : List ℕ) (next : ℕ) : Type 0 where
  pub bytes : after ≡ with_text buffer at t
  pub ends : Ends at t next
