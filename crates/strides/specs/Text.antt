-- What the program prints.
use Rattle.std.specs.Prelude.{ℕ}
use mathlib.Core.List.{List, [], ◌∷◌, ◌++◌, map, flatten}
use Rattle.laws.specs.Lists.{numbers_from}
use Rattle.model.specs.Fair.{weight_limit, stride}
use Rattle.trace.specs.Line.{decimal}

-- the line of a weight: its stride in decimal digits, and a line feed
unfoldable pub stride_line : ℕ → List ℕ
stride_line w = decimal (stride w) ++ (10 ∷ [])

-- the lines of so many weights from one on
unfoldable pub lines_from : ℕ → ℕ → List ℕ
lines_from w n = flatten (map stride_line (numbers_from w n))

unfoldable pub strides_text : List ℕ
strides_text = lines_from 1 weight_limit
