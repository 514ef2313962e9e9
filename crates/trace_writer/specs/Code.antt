-- Whether lists are the contents of some text, as the code finds it.
use Rattle.std.specs.Prelude.{ℕ, ◌+◌, Bool, ◌&&◌, List, leb, length}
use Rattle.laws.specs.Lists.{all?}
use Rattle.cell.specs.Limits.{clock_end}
use Rattle.trace.specs.Contents.{block_limit}
use Rattle.trace.specs.Flat.{fit_together}

-- no more arrivals than a block may have
abbrev pub few : ℕ → Bool
few n = leb n block_limit

-- they fit together, no slot has too many arrivals, and none is past the clock's end
unfoldable pub flat_has_text : ℕ → List ℕ → List ℕ → Bool
flat_has_text first counts ns = fit_together counts ns && (all? few counts && leb (first + length counts) clock_end)
