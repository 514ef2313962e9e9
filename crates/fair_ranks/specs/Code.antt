-- A memory as the code goes through it: the rank that a stride is put on, and the memory after the records of a slot,
-- which have their ranks, and after its departures.
use Rattle.std.specs.Prelude.{ℕ, max, cond, List, [], ◌∷◌, get_or, set}
use Rattle.std.proofs.Math.Option.{Option}
use Rattle.cell.specs.declared.Arrival.{Arrival}
use Rattle.cell.specs.declared.Cell.{Cell}
use Rattle.model.specs.Fair.{Memory, is_fair, flow_index, left_after}

unfoldable pub last_rank : Memory → Arrival → ℕ
last_rank m a = max (get_or m.given (flow_index a) 0) (get_or m.left a.output 0)

-- the ranks given, after records
unfoldable pub given_by : Memory → List Arrival → List ℕ → List ℕ
given_by m [] given = given
given_by m (a ∷ made) given =
    given_by m made (cond (is_fair m a.output) (set given (flow_index a) a.rank) given)

unfoldable pub with_records : Memory → List Arrival → Memory
with_records m made = record { fair = m.fair; left = m.left; given = given_by m made m.given }

unfoldable pub with_record : Memory → Arrival → Memory
with_record m a = with_records m (a ∷ [])

-- the departures of the outputs from 0 on, and that of one output
unfoldable pub with_departures : Memory → List (Option Cell) → Memory
with_departures m ds = record { fair = m.fair; left = left_after m 0 ds m.left; given = m.given }

unfoldable pub with_departure : Memory → ℕ → Option Cell → Memory
with_departure m o d = record { fair = m.fair; left = left_after m o (d ∷ []) m.left; given = m.given }
