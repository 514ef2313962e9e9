-- The lent records, taken.
--     sets-raised            the sets of the cells by place, when the clock is raised
--     taken, taken-refused   the records have arrived, or a fault is found
use Rattle.std.proofs.Common.{◌≡◌, ℕ, ◌≤◌, List, Result, Ok, Err, refl, sym, ap, ◌∙◌}
use Rattle.cell.specs.Checked.{no_fault}
use Rattle.cell.specs.declared.Arrival.{Arrival}
use Rattle.cell.specs.declared.Fault.{Fault}
use Rattle.model.specs.Checks.{done, refused}
use Rattle.model.specs.Crossbar.{arrive, run}
use Rattle.layout.specs.Answer.{answer_size}
use Rattle.layout.specs.Table.{state_of, encode, IsTable}
use Rattle.slot_faults.specs.CodeFault.{coming, fault_in}
use Rattle.slot_faults.proofs.Slots.{slot-fault}
use Rattle.slot_faults.proofs.Stored.{table-ports}
use Rattle.slot_arrival.specs.CodeArrival.{raised, arrived, Arriving}
use Rattle.slot_arrival.proofs.OneByOne.{came-none, came-state}
use Rattle.slot_arrival.proofs.Opening.{sets-kept}
use Rattle.slot_check.specs.declared.Sets.{Sets}
use Rattle.slot_course.specs.Code.{course_of, SetsIn}
use Rattle.slot_course.proofs.Course.{run-course}
use Rattle.slot_records.specs.CodeTaken.{Entered, Taken}
use Rattle.slot_records.specs.Records.{records_slot}
use Rattle.slot_records.proofs.Looking.{lent-slot}

-- the clock is raised, and the sets stay
pub sets-raised : (table : List ℕ) (records : List Arrival) → Arriving table records → (new : List ℕ)
    → new ≡ encode (raised (state_of table)) → (sets : Sets) → SetsIn table sets → SetsIn new sets
unfolding arrived coming arrive
sets-raised table records g new e sets w =
    let now = came-state table records g 0 new (came-none table records g new e) in
    sets-kept table new g.sound now.0
    (sym (table-ports new now.0) ∙ ap (λ s. s.ports) now.1 ∙ table-ports table g.sound)
    (ap (λ s. s.sections) now.1) sets.listed sets.heads sets.crossed sets.buffered w

module _ (table : List ℕ) (t : IsTable table) (records : List Arrival) where
  outcome : (room : ℕ) → answer_size ≤ room → records_slot table room records
      ≡ elim (fault_in (state_of table) records) [
        | Ok _ ↦ done (run (state_of table) (coming (state_of table) records))
        | Err fault ↦ refused fault.refusal fault.place
      ]
  outcome room space = lent-slot table room t space records ∙ slot-fault (state_of table) records

  pub taken : {T : Type 0} (x : T) (new : List ℕ) → fault_in (state_of table) records ≡ no_fault
      → Entered table records new → (room : ℕ) → answer_size ≤ room → Taken table room records (Ok x) new
  unfolding arrived
  taken x new clear (is, w) room space = (
    space,
    (
      is,
      rw clear at (outcome room space)
          ∙ ap done (run-course (state_of table) (coming (state_of table) records) ∙ ap course_of (sym w)),
    ),
  )

  pub taken-refused : {T : Type 0} (result : Result T Fault) (fault : Fault) → result ≡ Err fault
      → fault_in (state_of table) records ≡ Err fault → (room : ℕ) → answer_size ≤ room
      → Taken table room records result table
  taken-refused result fault e found room space = rw e (refl, rw found at (outcome room space))
