-- A slot on what a caller lends as bytes, for a tally of the right length.
use Rattle.cell.specs.Checked.{Checked}
use Rattle.std.specs.Prelude.{ℕ, List, ◌≡◌}
use Rattle.model.specs.Checks.{Outcome, refusal_of}
use Rattle.model.specs.Crossbar.{Course}
use Rattle.model.specs.Tally.{tally_after, arrival_count}
use Rattle.layout.specs.Arrivals.{records_of}
use Rattle.layout.specs.Host.{slot_of, table_after, answer_after}
use Rattle.layout.specs.Table.{decode}
use Rattle.layout.specs.TallyBytes.{tally_size, tally_of, tally_bytes}

-- what a slot on a lent table, on lent arrivals and with so much room for the answer comes to
unfoldable pub lent_slot : List ℕ → List ℕ → ℕ → Outcome Course
lent_slot table arrivals room = slot_of (decode table) (records_of arrivals) room tally_size

-- what it leaves: its refusal, the table, the answer's buffer and the tally
abbrev pub LentLeaves : Outcome Course → List ℕ → List ℕ → List ℕ → List ℕ → Checked → List ℕ → List ℕ → List ℕ → Type 0
LentLeaves o table arrivals answer tally checked table' answer' tally' =
    (checked ≡ refusal_of o)
    × ((table' ≡ table_after table o)
    × ((answer' ≡ answer_after answer o)
    × (tally' ≡ tally_bytes (tally_after (arrival_count (records_of arrivals)) o (tally_of tally)))))
