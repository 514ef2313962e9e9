-- A slot call on what the host lends, for a tally of the right length.
--     lent_slot, LentLeaves, SlotLeaves    what it comes to, and what it leaves
--     is_plain                             whether a table has no fair output
--     RanLeaves                           what the slot leaves on a sound table, by its records
use Rattle.std.specs.Prelude.{ℕ, Bool, ◌&&◌, List, ◌≡◌, eqb}
use Rattle.std.proofs.Math.Option.{some}
use Rattle.cell.specs.declared.Arrival.{Arrival}
use Rattle.cell.specs.Checked.{Checked}
use Rattle.model.specs.Checks.{Outcome, done, refused, refusal_of}
use Rattle.model.specs.Crossbar.{Course}
use Rattle.model.specs.Fair.{fair_after}
use Rattle.model.specs.Tally.{arrival_count}
use Rattle.layout.specs.Arrivals.{records_of}
use Rattle.layout.specs.Frame.{is_framed}
use Rattle.layout.specs.Engine.{crossbar, lent_slot as lent_slot_of, table_after, answer_after, tally_after}
use Rattle.layout.specs.Fair.{fair_number, memory_start, fair_bytes, fair_of, decode_fair}
use Rattle.layout.specs.Number.{word}
use Rattle.layout.specs.TallyBytes.{tally_size, tally_of, tally_bytes}

-- with so much room for the answer
abbrev pub lent_slot : List ℕ → List ℕ → ℕ → Outcome Course
lent_slot table arrivals room = lent_slot_of crossbar (decode_fair table) (records_of arrivals) room tally_size

-- its refusal, the table and the answer's buffer
abbrev pub LentLeaves : Outcome Course → List ℕ → List ℕ → List ℕ → Checked → List ℕ → List ℕ → Type 0
LentLeaves o table arrivals answer checked table' answer' =
    (checked ≡ refusal_of o)
    × ((table' ≡ table_after crossbar table arrivals o) × (answer' ≡ answer_after crossbar answer o))

-- and the tally
abbrev pub SlotLeaves : Outcome Course → List ℕ → List ℕ → List ℕ → List ℕ → Checked → List ℕ → List ℕ → List ℕ → Type 0
SlotLeaves o table arrivals answer tally checked table' answer' tally' =
    (checked ≡ refusal_of o)
    × ((table' ≡ table_after crossbar table arrivals o)
    × ((answer' ≡ answer_after crossbar answer o)
    × (tally' ≡ tally_bytes (tally_after crossbar (arrival_count (records_of arrivals)) o (tally_of tally)))))

-- the frame is right, and no output is marked
unfoldable pub is_plain : List ℕ → Bool
is_plain table = is_framed fair_number table && eqb (word table memory_start) 0

-- the table after a slot with these records
unfoldable pub table_ran : List ℕ → List Arrival → Outcome Course → List ℕ
table_ran table records (done c) = fair_bytes fair_number (fair_after (fair_of table) (some records) (done c))
table_ran table records (refused r place) = table

-- the refusal, the table and the answer's buffer
abbrev pub RanLeaves : Outcome Course → List Arrival → List ℕ → List ℕ → Checked → List ℕ → List ℕ → Type 0
RanLeaves o records table answer checked table' answer' =
    (checked ≡ refusal_of o) × ((table' ≡ table_ran table records o) × (answer' ≡ answer_after crossbar answer o))
