-- What the reader of a line answers, by what the definitions read.
use Rattle.std.specs.Prelude.{ℕ, ◌-◌, List, length, Option, Some, None}
use Rattle.std.proofs.Math.Option.{Option as Math, none, some}
use Rattle.trace_line_reader.specs.declared.Line.{Line}

-- how many bytes of t were read is what they left
unfoldable pub line_of : List ℕ → Math (ℕ × List ℕ) → Option Line
line_of t none = None
line_of t (some s) = Some (record { number = s.0; length = length t - length s.1 })
