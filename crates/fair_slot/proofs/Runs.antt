-- A slot on a sound table, with room for the answer.
--     runs-refused     a fault was found
--     runs-ranked      none was, so the ranks can be made
--     made-clear, runs-made    and the cells took the slot with the ranks made: they ran, and what is left
use Prim.Native.Nat.{ℕ, ◌-◌, ◌≤◌}
use mathlib.Core.Bool.{true}
use mathlib.Core.List.{List, ◌++◌, map, append_assoc}
use mathlib.Core.Option.{none, some}
use mathlib.Core.Path.{◌≡◌, refl, sym, ap, ap₂, ◌∙◌}
use borrow.Rule.Slice.PartMut.{put_mid}
use lib.ListN.{length, take}
use Rattle.laws.specs.Lists.{all?}
use Rattle.cell.specs.declared.Arrival.{Arrival}
use Rattle.std.specs.Prelude.{Err}
use Rattle.cell.specs.Checked.{Checked, no_fault}
use Rattle.cell.specs.declared.Fault.{Fault}
use Rattle.cell.specs.Cell.{arrival_fits}
use Rattle.cell.specs.Limits.{port_limit}
use Rattle.model.specs.Checks.{Outcome, done, refused, refusal_of, no_departures}
use Rattle.model.specs.CodeFair.{rankable}
use Rattle.model.specs.Crossbar.{Course, run, slot}
use Rattle.model.specs.Emulation.{lent}
use Rattle.model.specs.Fair.{Memory, make, remembered, after_of, fair_slot, Fair}
use Rattle.model.specs.Sound.{sound}
use Rattle.model.specs.State.{Switch, cells}
use Rattle.model.proofs.FairChecks.{becoming, fair-runs, made-fit, records-rankable, slot-made}
use Rattle.model.proofs.FairMemory.{left-trailing}
use Rattle.layout.specs.Answer.{answer_size, departures_in}
use Rattle.layout.specs.Frame.{is_fair_table}
use Rattle.layout.specs.Engine.{crossbar, answer_after}
use Rattle.layout.specs.Fair.{fair_number, core_start, memory_start, fair_bytes, fair_of, core_in}
use Rattle.layout.specs.Host.{table_after as core_after, answer_after as core_answer}
use Rattle.layout.specs.Memory.{word_size, memory_size, memory_bytes, memory_of}
use Rattle.layout.specs.Table.{encode, table_size}
use Rattle.layout.specs.Number.{bytes_of}
use Rattle.layout.proofs.Limits.{goes}
use Rattle.layout.proofs.Number.{bytes?}
use Rattle.layout.proofs.Read.{outputs-read}
use Rattle.layout.proofs.Table.{decode-sound, length-encode}
use Rattle.slot_call.specs.CodeEnded.{SoundLeaves}
use Rattle.slot_records.proofs.Looking.{lent-slot}
use Rattle.slot_records.specs.Records.{records_slot}
use Rattle.fair_faults.specs.CodeFairFault.{fair_fault_in}
use Rattle.fair_faults.proofs.Slots.{fair-by-fault, fair-clear}
use Rattle.fair_slot.specs.Code.{RanLeaves, table_ran}
use Rattle.fair_slot.proofs.Tables.{Parts, parts, head-length, put-memory, memory-behind}

-- both engines' definitions answer alike
pub same_answer : (answer : List ℕ) (o : Outcome Course) → core_answer answer o ≡ answer_after crossbar answer o
unfolding core_answer answer_after
same_answer answer (done c) = refl
same_answer answer (refused r place) = refl

module _ (table answer : List ℕ) (records : List Arrival) where
  abbrev x : Fair Switch
  x = fair_of table

  -- a fault was found
  pub runs-refused : (fault : Fault) (result : Checked) → fair_fault_in x.core x.memory records ≡ Err fault
      → result ≡ Err fault → RanLeaves (fair_slot x (some records)) records table answer result table answer
  unfolding refusal_of table_ran answer_after
  runs-refused fault result found bad =
      let turned : fair_slot x (some records) ≡ refused fault.refusal fault.place =
      fair-by-fault run x records ∙ rw found in
      rw turned (bad, (refl, refl))

  module _ (none_found : fair_fault_in x.core x.memory records ≡ no_fault) where
    pub runs-ranked : all? (rankable x.memory) records ≡ true
    runs-ranked =
        records-rankable _ _ _ x.memory 1 none records (fair-clear x.core x.memory records none_found).1

    abbrev course : Course
    course = run x.core (becoming x.core.clock x.memory records)

    runs : fair_slot x (some records) ≡ done course
    runs =
        let w = fair-clear x.core x.memory records none_found in
        fair-runs (λ s. s.ports) (λ s. s.clock) cells run x records w.0 w.1

    made-runs : slot x.core (some (map (make x.memory) records)) ≡ done course
    made-runs = sym (slot-made x records (fair-clear x.core x.memory records none_found).1) ∙ runs

    made-fits : all? arrival_fits records ≡ true → lent (some (map (make x.memory) records)) ≡ true
    unfolding lent
    made-fits fit = made-fit x.memory records runs-ranked fit

    -- what the cells did with the ranks made
    module _ (b : bytes? table ≡ true) (t : is_fair_table table ≡ true) (fit : all? arrival_fits records ≡ true)
        (room : answer_size ≤ length answer) (made : List Arrival) (is : made ≡ map (make x.memory) records) where
      known : Parts table
      known = parts table b t

      core-runs : records_slot (core_in table) (length answer) made ≡ done course
      unfolding fair_of
      core-runs =
          lent-slot (core_in table) (length answer) known.core room made
          ∙ ap (λ l. slot x.core (some l)) is
          ∙ made-runs

      good : sound x.core ≡ true
      unfolding fair_of
      good = decode-sound (core_in table) _ known.core

      -- the departures that its answer has are those that are remembered
      module _ (answer' : List ℕ) (wrote : answer' ≡ core_answer answer (done course)) where
        memory_same : remembered x.memory records (departures_in port_limit answer')
            ≡ remembered x.memory records course.departures
        unfolding remembered no_departures
        memory_same =
            let read : departures_in port_limit answer'
            ≡ course.departures ++ no_departures (port_limit - x.core.ports) =
            ap (departures_in port_limit) wrote
            ∙ outputs-read x.core _ good (made-fits fit) answer course made-runs in
            rw (read, left-trailing x.memory 0 course.departures _ x.memory.left)

      -- they ran
      pub made-clear : (ran : Checked) (core answer' : List ℕ)
          → SoundLeaves (records_slot (core_in table) (length answer) made) (core_in table) answer ran core answer'
          → ran ≡ no_fault
      unfolding refusal_of
      made-clear ran core answer' (f, (n, a)) = f ∙ ap refusal_of core-runs

      pub runs-made : (ran : Checked) (core answer' : List ℕ)
          → SoundLeaves (records_slot (core_in table) (length answer) made) (core_in table) answer ran core answer'
          → (new : List ℕ) → let all = put_mid core_start table_size table core in
          let whole = put_mid memory_start (length all - memory_start) all new in
          (m : Memory) → m ≡ x.memory
          → ((l : List Arrival) → made ≡ map (make m) l
          → memory_of new ≡ remembered m l (departures_in port_limit answer'))
          → bytes? whole ≡ true → length new ≡ memory_size
          → RanLeaves (fair_slot x (some records)) records table answer ran whole answer'
      unfolding refusal_of core_after table_ran after_of fair_bytes
      runs-made ran core answer' (f, (n, a)) new m same remembers bs size =
          let cells_are : core ≡ encode course.switch = n ∙ ap (core_after (core_in table)) core-runs in
          let whole-course =
          goes x.core (map (make x.memory) records) good (made-fit x.memory records runs-ranked fit) course
          made-runs in
          let many : length core ≡ table_size =
          ap length cells_are ∙ length-encode course.switch whole-course.good in
          let whole = put-memory table core known.size many new in
          let behind : bytes? ((take core_start table ++ core) ++ new) ≡ true =
          ap bytes? (append_assoc (take core_start table) core new ∙ sym whole) ∙ bs in
          let wrote : answer' ≡ core_answer answer (done course) = a ∙ ap (core_answer answer) core-runs in
          let memory : new ≡ memory_bytes (remembered x.memory records course.departures) =
          sym (memory-behind (take core_start table ++ core) new (head-length table core known.size many) behind size)
          ∙ ap memory_bytes
          (remembers records (is ∙ ap (λ k. map (make k) records) (sym same))
          ∙ ap (λ k. remembered k records (departures_in port_limit answer')) same
          ∙ memory_same answer' wrote) in (
            f ∙ ap refusal_of (core-runs ∙ sym runs),
            (
              whole
                  ∙ ap₂ (λ p q. p ++ (q ++ new)) known.front cells_are
                  ∙ ap (λ q. bytes_of word_size fair_number ++ (encode course.switch ++ q)) memory
                  ∙ ap (table_ran table records) (sym runs),
              wrote ∙ same_answer answer (done course) ∙ ap (answer_after crossbar answer) (sym runs),
            ),
          )
