-- Results as numbers, buffers filled, and a slot on the table of the cells alone, where ranks stand: 2, 10, 3, then record
-- by record 4 to 8. Bytes of a buffer past its answer are kept. The host's calls are in Engine, those of cues in Cues.
use Rattle.std.specs.Prelude.{ℕ, ◌+◌, ◌*◌, true, false, List, ◌++◌, Ok, Err, ltb, eqb, length, drop}
use Rattle.std.proofs.Math.Option.{Option, none, some}
use Rattle.cell.specs.declared.Arrival.{Arrival}
use Rattle.cell.specs.Checked.{Checked}
use Rattle.cell.specs.declared.Refusal.TheVariants.{BrokenTable, ShortBuffer}
use Rattle.cell.specs.Refusal.{number}
use Rattle.model.specs.State.{Switch}
use Rattle.model.specs.Checks.{Outcome, done, refused}
use Rattle.model.specs.Crossbar.{Course, answer_of, slot}
use Rattle.layout.specs.Answer.{answer_bytes, answer_size}
use Rattle.layout.specs.Table.{encode}
use Rattle.layout.specs.TallyBytes.{tally_size}

-- a buffer whose first bytes are these, its other bytes kept
unfoldable pub filled : List ℕ → List ℕ → List ℕ
filled bs buffer = bs ++ drop (length bs) buffer

-- 0 is done; a refusal is its number and 256 times the record's place
unfoldable pub result_of : {A : Type 0} → Outcome A → ℕ
result_of (done a) = 0
result_of (refused r place) = number r + 256 * place

-- the same of what a check came to
abbrev pub fault_result : Checked → ℕ
fault_result (Ok _) = 0
fault_result (Err fault) = number fault.refusal + 256 * fault.place

-- Slot. The lent table, arrivals and tally are looked at first, then the buffer for the answer; the rest is the slot's.
unfoldable pub slot_of : Option Switch → Option (List Arrival) → ℕ → ℕ → Outcome Course
slot_of none records room tally = refused BrokenTable 0
slot_of (some s) none room tally = refused BrokenTable 0
slot_of (some s) (some records) room tally =
    elim (eqb tally tally_size) [
      | false ↦ refused BrokenTable 0
      | true ↦ elim (ltb room answer_size) [ true ↦ refused ShortBuffer 0 | false ↦ slot s (some records) ]
    ]

-- the table and the answer's buffer after it: a refused slot keeps them
unfoldable pub table_after : List ℕ → Outcome Course → List ℕ
table_after table (done c) = encode c.switch
table_after table (refused r place) = table

unfoldable pub answer_after : List ℕ → Outcome Course → List ℕ
answer_after answer (done c) = filled (answer_bytes (answer_of c)) answer
answer_after answer (refused r place) = answer
