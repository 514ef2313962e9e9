-- A slot of the output-queued switch, step by step.
--     joined-buffers                 when its cells have joined, all cells wait in buffers
--     ran-table, ran-answer          what the departure makes of it
--     served-refused, served-runs    what the slot leaves, by what was found
use Prim.Native.Nat.{ℕ}
use mathlib.Core.Bool.{true}
use mathlib.Core.List.{List, [], ◌∷◌}
use mathlib.Core.Option.{some}
use mathlib.Core.Path.{◌≡◌, refl, sym, ap, ap₂, ◌∙◌}
use Rattle.std.specs.Prelude.{Err}
use Rattle.cell.specs.declared.Arrival.{Arrival}
use Rattle.cell.specs.declared.Cell.{Cell}
use Rattle.cell.specs.Checked.{Checked, no_fault}
use Rattle.cell.specs.declared.Fault.{Fault}
use Rattle.cell.specs.Limits.{port_limit}
use Rattle.model.specs.Checks.{Outcome, refusal_of}
use Rattle.model.specs.Crossbar.{leaving, departures_of}
use Rattle.model.specs.Oq.{Served, all_buffered, join_buffers, run_oq, slot_oq}
use Rattle.model.specs.Phase.{waiting}
use Rattle.model.specs.State.{Switch}
use Rattle.model.proofs.OqSound.{all-buffered-join}
use Rattle.layout.specs.Answer.{departures_bytes}
use Rattle.layout.specs.Code.{ports_in}
use Rattle.layout.specs.Host.{filled}
use Rattle.layout.specs.CodeOq.{oq_answer_after}
use Rattle.layout.specs.Table.{state_of, encode, IsTable}
use Rattle.slot_faults.specs.CodeFault.{coming, fault_in}
use Rattle.slot_faults.proofs.Slots.{slot-oq-fault}
use Rattle.slot_faults.proofs.Stored.{table-ports}
use Rattle.slot_departure.specs.Code.{departed}
use Rattle.oq_slot.specs.Code.{joined, joined_all, table_served, ServedLeaves}

all-joined : (cs : List Cell) (s : Switch) → all_buffered s ≡ true
    → all_buffered (record { ports = s.ports; clock = s.clock; sections = join_buffers cs s.sections }) ≡ true
unfolding join_buffers joined
all-joined [] s h = h
all-joined (c ∷ cs) s h = all-joined cs (joined c s) (all-buffered-join c s h)

module _ (s : Switch) (records : List Arrival) (table : List ℕ) (good : IsTable table)
    (state : state_of table ≡ joined_all s records) where
  pub joined-buffers : all_buffered s ≡ true → all_buffered (state_of table) ≡ true
  unfolding joined_all all_buffered
  joined-buffers h = ap all_buffered state ∙ all-joined (coming s records) s h

  pub ran-table : (new : List ℕ) → new ≡ encode (departed (state_of table))
      → new ≡ encode (run_oq s (coming s records)).switch
  unfolding joined_all departed run_oq
  ran-table new w = w ∙ ap (λ z. encode (departed z)) state

  pub ran-answer : (answer new : List ℕ)
      → new ≡ filled (departures_bytes port_limit (departures_of (ports_in table)
      (leaving (ports_in table) (waiting (state_of table).sections)))) answer
      → new ≡ filled (departures_bytes port_limit (run_oq s (coming s records)).departures) answer
  unfolding joined_all run_oq
  ran-answer answer new w =
      w
      ∙ ap₂ (λ n z. filled (departures_bytes port_limit (departures_of n (leaving n (waiting z.sections)))) answer)
      (sym (table-ports table good) ∙ ap (λ z. z.ports) state) state

------------------------------------------------------------------------
-- by what was found

module _ (table answer : List ℕ) (records : List Arrival) where
  abbrev outcome : Outcome Served
  outcome = slot_oq (state_of table) (some records)

  pub served-refused : (fault : Fault) (result : Checked) → fault_in (state_of table) records ≡ Err fault
      → result ≡ Err fault → ServedLeaves outcome table answer result table answer
  unfolding refusal_of table_served oq_answer_after
  served-refused fault result found e = rw (slot-oq-fault (state_of table) records, found) (e, (refl, refl))

  pub served-runs : fault_in (state_of table) records ≡ no_fault → (table' answer' : List ℕ)
      → table' ≡ encode (run_oq (state_of table) (coming (state_of table) records)).switch
      → answer'
      ≡ filled (departures_bytes port_limit (run_oq (state_of table) (coming (state_of table) records)).departures) answer
      → ServedLeaves outcome table answer no_fault table' answer'
  unfolding refusal_of table_served oq_answer_after
  served-runs found table' answer' p q = rw (slot-oq-fault (state_of table) records, found) (refl, (p, q))
