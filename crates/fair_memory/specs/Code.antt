-- A memory with one rank put.
use Rattle.std.specs.Prelude.{ℕ, set}
use Rattle.model.specs.Fair.{Memory}

-- of the last cell that left an output
unfoldable pub with_left : Memory → ℕ → ℕ → Memory
with_left m o rank = record { fair = m.fair; left = set m.left o rank; given = m.given }

-- the last one given to a flow
unfoldable pub with_given : Memory → ℕ → ℕ → Memory
with_given m k rank = record { fair = m.fair; left = m.left; given = set m.given k rank }
