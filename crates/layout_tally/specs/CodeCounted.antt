-- What a slot call makes of the tally, by what its checks came to and by its answer.
use Rattle.std.specs.Prelude.{ℕ, List, Ok, Err}
use Rattle.cell.specs.Checked.{Checked}
use Rattle.cell.specs.declared.Tally.{Tally}
use Rattle.model.specs.Tally.{after_run, after_refused}
use Rattle.layout_answer.specs.Code.{sent_in}

-- a slot that ran counts its records and the departures of its answer, a refused one only itself
unfoldable pub counted_by : Checked → ℕ → List ℕ → Tally → Tally
counted_by (Ok _) many answer t = after_run many (sent_in answer) t
counted_by (Err fault) many answer t = after_refused t
