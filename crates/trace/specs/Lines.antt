-- Scope 8: the lines that the player writes of a departure and of a refusal.
use Rattle.std.specs.Prelude.{ℕ, List, [], ◌∷◌, ◌++◌}
use Rattle.std.proofs.Math.Option.{Option, none, some}
use Rattle.cell.specs.declared.Cell.{Cell}
use Rattle.cell.specs.declared.Refusal.{Refusal}
use Rattle.cell.specs.Refusal.{number}
use Rattle.trace.specs.declared.Key.TheVariants.{In, Out, Flow, Rank, Tag, Refused, Line}
use Rattle.trace.specs.Line.{line}

-- for each departure `out`, `in`, `flow`, `rank`, `tag`
unfoldable pub departure_text : Option Cell → List ℕ
departure_text none = []
departure_text (some c) =
    line Out c.output ++ (line In c.input ++ (line Flow c.flow ++ (line Rank c.rank ++ line Tag c.tag)))

-- outputs rising
unfoldable pub departures_text : List (Option Cell) → List ℕ
departures_text [] = []
departures_text (d ∷ ds) = departure_text d ++ departures_text ds

-- `refused` with the number, and `line`
unfoldable pub refusal_text : Refusal → ℕ → List ℕ
refusal_text r l = line Refused (number r) ++ line Line l
