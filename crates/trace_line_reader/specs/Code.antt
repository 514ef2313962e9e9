-- What the private function of the reader of a line answers.
use Rattle.std.specs.Prelude.{ℕ, List}
use Rattle.std.proofs.Math.Option.{Option, bind, map}
use Rattle.trace.specs.Line.{up_to_line_feed, read_number}

-- a line behind its key: the number, and what follows the line feed
unfoldable pub read_body : List ℕ → Option (ℕ × List ℕ)
read_body t = bind (up_to_line_feed t) (λ s. map (λ n. (n, s.1)) (read_number s.0))
