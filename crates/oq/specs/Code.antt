-- A slot call on what the host lends, for a tally of the right length.
--     lent_call, LentLeaves    what it comes to, and what it leaves
--     table_held, HeldLeaves   a slot with held records on a table, and what it leaves
use Rattle.std.specs.Prelude.{ℕ, List, ◌≡◌}
use Rattle.std.proofs.Math.Option.{some}
use Rattle.cell.specs.declared.Arrival.{Arrival}
use Rattle.cell.specs.Checked.{Checked}
use Rattle.model.specs.Checks.{Outcome, done, refused, refusal_of}
use Rattle.model.specs.Fair.{fair_slot_oq, fair_after_oq}
use Rattle.model.specs.Oq.{Served}
use Rattle.layout.specs.Arrivals.{records_of}
use Rattle.layout.specs.Engine.{oq, lent_slot, table_after, answer_after}
use Rattle.layout.specs.Fair.{fair_number_oq, fair_bytes, fair_of, decode_fair_oq}
use Rattle.layout.specs.TallyBytes.{tally_size}

-- with so much room for the answer
abbrev pub lent_call : List ℕ → List ℕ → ℕ → Outcome Served
lent_call table arrivals room = lent_slot oq (decode_fair_oq table) (records_of arrivals) room tally_size

-- its refusal, the table and the answer's buffer
abbrev pub LentLeaves : Outcome Served → List ℕ → List ℕ → List ℕ → Checked → List ℕ → List ℕ → Type 0
LentLeaves o table arrivals answer checked table' answer' =
    (checked ≡ refusal_of o) × ((table' ≡ table_after oq table arrivals o) × (answer' ≡ answer_after oq answer o))

-- the table after a slot with these records
unfoldable pub table_held : List ℕ → List Arrival → Outcome Served → List ℕ
table_held table records (done d) = fair_bytes fair_number_oq (fair_after_oq (fair_of table) (some records) (done d))
table_held table records (refused r place) = table

abbrev pub HeldLeaves : List ℕ → List Arrival → List ℕ → Checked → List ℕ → List ℕ → Type 0
HeldLeaves table records answer checked table' answer' =
    let o = fair_slot_oq (fair_of table) (some records) in
    (checked ≡ refusal_of o) × ((table' ≡ table_held table records o) × (answer' ≡ answer_after oq answer o))
