-- The steps of the writer, as the code takes them.
--     Tried            what a function that puts line after line does
--     Room, Written    what a function that writes a text without a test asks for and does
use Rattle.std.specs.Prelude.{ℕ, ◌+◌, ◌≤◌, List, ◌≡◌, length}
use Rattle.std.proofs.lemmas.List.Edits.{sets}
use Rattle.trace_line_writer.specs.Writing.{Ends}

-- What a function that puts line after line leaves and answers: all of the text where it fits, as many bytes as there
-- were, and the place after the text. So one text after another is the two as one.
pub record Tried (buffer : List ℕ) (at : ℕ) (t : List ℕ) (after : List ℕ) (next : ℕ) : Type 0 where
  pub bytes : at + length t ≤ length buffer → after ≡ sets buffer at t
  pub same : length after ≡ length buffer
  pub ends : Ends at t next

-- a text that ends at a place of a buffer of so many bytes has room before it
abbrev pub Room : List ℕ → ℕ → ℕ → Type 0
Room t end size = (length t ≤ end) × (end ≤ size)

-- What a function that writes a text before a place leaves and answers: the text, and where it starts.
pub record Written (buffer : List ℕ) (end : ℕ) (t : List ℕ) (after : List ℕ) (start : ℕ) : Type 0 where
  pub bytes : after ≡ sets buffer start t
  pub starts : start + length t ≡ end
