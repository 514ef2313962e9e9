-- What a slot on lent records comes to, as the code answers it.
use Rattle.std.specs.Prelude.{ℕ, List, Result, Ok, Err, ◌≡◌}
use Rattle.laws.specs.Lists.{count}
use Rattle.cell.specs.Checked.{Checked}
use Rattle.cell.specs.declared.Fault.{Fault}
use Rattle.model.specs.Checks.{Outcome, done, refused, refusal_of}
use Rattle.model.specs.Crossbar.{Course}
use Rattle.model.specs.Tally.{is_sent}
use Rattle.layout.specs.Host.{table_after, answer_after}

-- how many cells leave, or what turns the slot back
unfoldable pub ended_of : Outcome Course → Result ℕ Fault
ended_of (done c) = Ok (count is_sent c.departures)
ended_of (refused r place) = Err (record { refusal = r; place = place })

-- what a slot leaves where nothing is counted: its refusal, the table and the answer's buffer
abbrev pub SoundLeaves : Outcome Course → List ℕ → List ℕ → Checked → List ℕ → List ℕ → Type 0
SoundLeaves o table answer checked table' answer' =
    (checked ≡ refusal_of o) × ((table' ≡ table_after table o) × (answer' ≡ answer_after answer o))
