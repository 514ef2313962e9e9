-- The crossbar with its memory: a slot call keeps the table sound, and the ranks given above those that wait.
--     Sure, sure-fresh          what is kept, and that a fresh switch has it
--     fair-clear, fair-fit      the records of an accepted slot, with the ranks made
--     fair-limits               an accepted slot is within the limits
--     sure-after                a slot call keeps what is kept
--     fair-sound-after, -oq     it keeps a table sound, whatever ranks it remembers; -oq, of the output-queued switch
--     fair-after-ports, -oq     and it keeps N
use Prim.Native.Nat.{ℕ, ◌+◌}
use mathlib.Core.Bool.{Bool, true, false, ◌&&◌}
use mathlib.Core.Path.{◌≡◌, refl, ◌∙◌, ap, subst}
use mathlib.Core.Logic.{◌⊎◌}
use mathlib.Core.List.Memᴰ
use mathlib.Core.List.{List, map, Memᴰ}
use mathlib.Core.Option.{Option, none, some}
use lib.Dec.{eqb}
use Rattle.laws.specs.Lists.{keep, all?}
use Rattle.laws.proofs.Lists.{mem-keep-in}
use Rattle.laws.proofs.Tests.{and_i, and_l, and_r}
use Rattle.cell.specs.declared.Arrival.{Arrival}
use Rattle.cell.specs.declared.Cell.{Cell}
use Rattle.cell.specs.declared.Refusal.{Refusal}
use Rattle.cell.specs.Cell.{arrival_fits, same_cell}
use Rattle.cell.specs.Limits.{clock_end, fits32, ports_in_range}
use Rattle.model.specs.State.{Entry, Switch, fresh, cells}
use Rattle.model.specs.Checks.{done, first_fault}
use Rattle.model.specs.Crossbar.{Course, run}
use Rattle.model.specs.Emulation.{lent, Within}
use Rattle.model.specs.Fair.{make, marks_in_range, sound_memory, record_fault_from, remembered, Fair, marked, slot_of}
use Rattle.model.specs.Fair.{after_of, fair_slot, fair_after, fair_slot_oq, fair_after_oq}
use Rattle.model.specs.Oq.{join_buffers, sound_oq, run_oq}
use Rattle.model.specs.Phase.{Waiting, waiting}
use Rattle.model.specs.Sound.{sound}
use Rattle.model.proofs.Bags.{bag-mem}
use Rattle.model.proofs.CellOrder.{same-cell-refl, same-cell-path}
use Rattle.model.proofs.CourseLimits.{within-limits}
use Rattle.model.proofs.FairChecks.{becoming, becoming-made, records-rankable, made-fit, record-clear-first}
use Rattle.model.proofs.FairChecks.{FairCalled, fair-run, fair-refusal, fair-called}
use Rattle.model.proofs.FairMemory.{memory-fresh, memory-after}
use Rattle.model.proofs.FairRanks.{RanksGiven, ranks-after, departures-fit}
use Rattle.model.proofs.OqSound.{sound-oq-table, joined-sound, run-oq-sound}
use Rattle.model.proofs.Related.{arriving, flatten-empty}
use Rattle.model.proofs.SoundLaws.{sound-e}
use Rattle.model.proofs.SoundSlot.{sound-fresh, run-cells, settled-count, settled-sound, run_sound}

-- the cells are sound by this test, and so is the memory
abbrev pub sound_with : (Switch → Bool) → Fair Switch → Bool
sound_with sound_cells x = sound_cells x.core && sound_memory x.core.ports x.memory

-- a slot call of the crossbar, and of the output-queued switch
abbrev called_fair : (x : Fair Switch) (records : List Arrival)
    → FairCalled (λ s. s.ports) (λ s. s.clock) cells run x records
called_fair = fair-called (λ s. s.ports) (λ s. s.clock) cells run

abbrev called_oq : (x : Fair Switch) (records : List Arrival)
    → FairCalled (λ s. s.ports) (λ s. s.clock) cells run_oq x records
called_oq = fair-called (λ s. s.ports) (λ s. s.clock) cells run_oq

-- What is kept: the cells and the memory are sound, and no waiting cell at a fair output has a rank above the last one
-- given to its flow.
pub record Sure (x : Fair Switch) : Type 0 where
  pub table : sound x.core ≡ true
  pub memory : sound_memory x.core.ports x.memory ≡ true
  pub ranks : RanksGiven x.memory (cells x.core)

pub sure-fresh : (ports first marks : ℕ) → ports_in_range ports ≡ true → fits32 first ≡ true
    → marks_in_range ports marks ≡ true → Sure (marked marks (fresh ports first))
unfolding marked fresh cells
sure-fresh ports first marks p f m =
    record {
      table = sound-fresh ports first p f;
      memory = memory-fresh ports marks m;
      ranks = λ d i.
          absurd (Memᴰ.not-nil
          (subst (λ l. Memᴰ d (map (λ e. e.cell) l)) (flatten-empty {A = Entry} ports) i));
    }

-- the records of a call, with the ranks made
abbrev pub made : Fair Switch → List Arrival → List Arrival
made x records = map (make x.memory) records

abbrev pub first_in : Fair Switch → List Arrival → Option (Refusal × ℕ)
first_in x records = record_fault_from x.core.ports x.core.clock (cells x.core) x.memory 1 none records

-- where the records have no fault, nor have those with the ranks made
pub fair-clear : (x : Fair Switch) (records : List Arrival) → first_in x records ≡ none
    → first_fault x.core.ports (cells x.core) (arriving x.core (made x records)) ≡ none
fair-clear x records clear =
    ap (first_fault x.core.ports (cells x.core)) (becoming-made x.core.clock x.memory records)
    ∙ record-clear-first x.core.ports x.core.clock (cells x.core) x.memory records clear

-- an accepted slot
module _ (x : Fair Switch) (records : List Arrival) (fits : all? arrival_fits records ≡ true)
    (clear : first_in x records ≡ none) where
  -- the records with the ranks made fit
  pub fair-fit : all? arrival_fits (made x records) ≡ true
  fair-fit =
      made-fit x.memory records
      (records-rankable x.core.ports x.core.clock (cells x.core) x.memory 1 none records clear) fits

  memory-run-oq : sound_oq x.core ≡ true → sound_memory x.core.ports x.memory ≡ true
      → sound_memory x.core.ports
      (remembered x.memory records (run_oq x.core (arriving x.core (made x records))).departures) ≡ true
  unfolding run_oq
  memory-run-oq table h =
      let s = x.core in
      memory-after s.ports x.memory records (run_oq s (arriving s (made x records))).departures h
      (records-rankable s.ports s.clock (cells s) x.memory 1 none records clear)
      (departures-fit s.ports (s.clock + 1) (join_buffers (arriving s (made x records)) s.sections)
      (joined-sound s (made x records) (sound-oq-table s table) (fair-clear x records clear) fair-fit))

  module _ (table : sound x.core ≡ true) (ticks : eqb x.core.clock clock_end ≡ false) where
    abbrev course : Course
    course = run x.core (arriving x.core (made x records))

    memory-run : sound_memory x.core.ports x.memory ≡ true
        → sound_memory x.core.ports (remembered x.memory records course.departures) ≡ true
    unfolding run
    memory-run h =
        let s = x.core in
        memory-after s.ports x.memory records course.departures h
        (records-rankable s.ports s.clock (cells s) x.memory 1 none records clear)
        (departures-fit s.ports (s.clock + 1) course.settled
        (settled-sound s (made x records) table fair-fit ticks (fair-clear x records clear)))

    -- a cell that waits afterwards came in this slot, or waited
    came-or-waited : (d : Cell) → Memᴰ d (cells course.switch)
        → Memᴰ d (becoming x.core.clock x.memory records) ⊎ Memᴰ d (cells x.core)
    came-or-waited d i =
        let s = x.core in
        let cs = arriving s (made x records) in
        let settled : List Waiting = waiting course.settled in
        let w = Memᴰ.of_map (λ e. e.cell) (keep _ settled) (subst (λ l. Memᴰ d l) (run-cells s cs) i) in
        subst (λ l. Memᴰ d l ⊎ Memᴰ d (cells s)) (becoming-made s.clock x.memory records)
        (Memᴰ.append_cases cs
        (bag-mem same_cell same-cell-refl same-cell-path (map (λ e. e.cell) settled) _
        (settled-count s (made x records) table fair-fit ticks (fair-clear x records clear))
        (subst (λ c. Memᴰ c (map (λ e. e.cell) settled)) w.2
        (Memᴰ.map (λ e. e.cell) (mem-keep-in _ settled w.1)))))

sure-run : (x : Fair Switch) → Sure x → (records : List Arrival) → all? arrival_fits records ≡ true
    → eqb x.core.clock clock_end ≡ false → first_in x records ≡ none
    → Sure (fair_after x (some records) (done (run x.core (arriving x.core (made x records)))))
unfolding after_of run
sure-run x sure records fits ticks clear =
    let s = x.core in
    let c : Course = run s (arriving s (made x records)) in
    let from = came-or-waited x records fits clear sure.table ticks in
    let ports = (sound-e s sure.table).ports in
    let fit = fair-fit x records fits clear in
    record {
      table = run_sound s (made x records) sure.table fit ticks (fair-clear x records clear);
      memory = memory-run x records fits clear sure.table ticks sure.memory;
      ranks =
          ranks-after s.ports s.clock (cells s) x.memory records ports sure.memory sure.ranks clear
          c.departures (cells c.switch) from;
    }

pub fair-limits : (x : Fair Switch) → Sure x → (arrivals : Option (List Arrival)) → lent arrivals ≡ true
    → Within (fair_slot x arrivals)
unfolding slot_of lent
fair-limits x sure none fits = tt
fair-limits x sure (some records) fits = go (called_fair x records)
  where
    go : FairCalled (λ s. s.ports) (λ s. s.clock) cells run x records → Within (fair_slot x (some records))
    go (fair-run ticks clear e) =
        rw e
        (within-limits x.core (made x records) sure.table (fair-fit x records fits clear) ticks
        (fair-clear x records clear))
    go (fair-refusal r place e) = rw e tt

pub sure-after : (x : Fair Switch) → Sure x → (arrivals : Option (List Arrival)) → lent arrivals ≡ true
    → Sure (fair_after x arrivals (fair_slot x arrivals))
unfolding slot_of after_of lent
sure-after x sure none fits = sure
sure-after x sure (some records) fits = go (called_fair x records)
  where
    go : FairCalled (λ s. s.ports) (λ s. s.clock) cells run x records
        → Sure (fair_after x (some records) (fair_slot x (some records)))
    go (fair-run ticks clear e) = rw e (sure-run x sure records fits ticks clear)
    go (fair-refusal r place e) = rw e sure

-- a sound table stays so, whatever ranks it remembers
pub fair-sound-after : (x : Fair Switch) (arrivals : Option (List Arrival)) → lent arrivals ≡ true
    → sound_with sound x ≡ true → sound_with sound (fair_after x arrivals (fair_slot x arrivals)) ≡ true
unfolding slot_of after_of lent run
fair-sound-after x none fits h = h
fair-sound-after x (some records) fits h = go (called_fair x records)
  where
    table : sound x.core ≡ true
    table = and_l (sound x.core) (sound_memory x.core.ports x.memory) h

    memory : sound_memory x.core.ports x.memory ≡ true
    memory = and_r (sound x.core) (sound_memory x.core.ports x.memory) h

    go : FairCalled (λ s. s.ports) (λ s. s.clock) cells run x records
        → sound_with sound (fair_after x (some records) (fair_slot x (some records))) ≡ true
    go (fair-run ticks clear e) =
        rw e
        (and_i _ _
        (run_sound x.core (made x records) table (fair-fit x records fits clear) ticks (fair-clear x records clear))
        (memory-run x records fits clear table ticks memory))
    go (fair-refusal r place e) = rw e h

pub fair-sound-after-oq : (x : Fair Switch) (arrivals : Option (List Arrival)) → lent arrivals ≡ true
    → sound_with sound_oq x ≡ true → sound_with sound_oq (fair_after_oq x arrivals (fair_slot_oq x arrivals)) ≡ true
unfolding slot_of after_of lent run_oq
fair-sound-after-oq x none fits h = h
fair-sound-after-oq x (some records) fits h = go (called_oq x records)
  where
    table : sound_oq x.core ≡ true
    table = and_l (sound_oq x.core) (sound_memory x.core.ports x.memory) h

    memory : sound_memory x.core.ports x.memory ≡ true
    memory = and_r (sound_oq x.core) (sound_memory x.core.ports x.memory) h

    go : FairCalled (λ s. s.ports) (λ s. s.clock) cells run_oq x records
        → sound_with sound_oq (fair_after_oq x (some records) (fair_slot_oq x (some records))) ≡ true
    go (fair-run ticks clear e) =
        rw e
        (and_i _ _
        (run-oq-sound x.core (made x records) table (fair-fit x records fits clear) ticks
        (fair-clear x records clear))
        (memory-run-oq x records fits clear table memory))
    go (fair-refusal r place e) = rw e h

-- N stays
pub fair-after-ports : (x : Fair Switch) (arrivals : Option (List Arrival))
    → (fair_after x arrivals (fair_slot x arrivals)).core.ports ≡ x.core.ports
unfolding slot_of after_of run
fair-after-ports x none = refl
fair-after-ports x (some records) = go (called_fair x records)
  where
    go : FairCalled (λ s. s.ports) (λ s. s.clock) cells run x records
        → (fair_after x (some records) (fair_slot x (some records))).core.ports ≡ x.core.ports
    go (fair-run ticks clear e) = rw e
    go (fair-refusal r place e) = rw e

pub fair-after-ports-oq : (x : Fair Switch) (arrivals : Option (List Arrival))
    → (fair_after_oq x arrivals (fair_slot_oq x arrivals)).core.ports ≡ x.core.ports
unfolding slot_of after_of run_oq
fair-after-ports-oq x none = refl
fair-after-ports-oq x (some records) = go (called_oq x records)
  where
    go : FairCalled (λ s. s.ports) (λ s. s.clock) cells run_oq x records
        → (fair_after_oq x (some records) (fair_slot_oq x (some records))).core.ports ≡ x.core.ports
    go (fair-run ticks clear e) = rw e
    go (fair-refusal r place e) = rw e
