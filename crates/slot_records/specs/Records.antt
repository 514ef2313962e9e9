-- A slot on lent records.
use Rattle.std.specs.Prelude.{ℕ, List}
use Rattle.std.proofs.Math.Option.{some}
use Rattle.cell.specs.declared.Arrival.{Arrival}
use Rattle.model.specs.Checks.{Outcome}
use Rattle.model.specs.Crossbar.{Course}
use Rattle.layout.specs.Host.{slot_of}
use Rattle.layout.specs.Table.{decode}
use Rattle.layout.specs.TallyBytes.{tally_size}

-- what a slot on a lent table, on lent records and with so much room for the answer comes to
unfoldable pub records_slot : List ℕ → ℕ → List Arrival → Outcome Course
records_slot table room records = slot_of (decode table) (some records) room tally_size
