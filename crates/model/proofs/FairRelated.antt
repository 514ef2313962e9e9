-- A switch and the PIFO switch, each with a memory of ranks. Where the two hold the same cells and remember the same,
-- they make the same ranks, so that a slot call comes to what it comes to where these ranks stand.
--     same-record-faults    the checks look only at the bag of the cells in the switch
--     KeptFair              what is kept between calls: what the two switches keep without memories, and equal memories
--     Follows               a switch that sends what the PIFO switch sends where the ranks stand
--     fair-step             it does so where outputs are fair, and the memories stay equal
use Prim.Native.Nat.{ℕ, ◌+◌}
use mathlib.Core.Bool.{Bool, true, false, cond}
use mathlib.Core.List.{List, [], ◌∷◌, map}
use mathlib.Core.Option.{Option, none, some}
use mathlib.Core.Path.{◌≡◌, refl, sym, ◌∙◌, ap, ap₂}
use lib.Dec.{eqb}
use Rattle.laws.specs.Lists.{all?}
use Rattle.cell.specs.declared.Arrival.{Arrival}
use Rattle.cell.specs.declared.Cell.{Cell}
use Rattle.cell.specs.declared.Refusal.{Refusal}
use Rattle.cell.specs.declared.Refusal.TheVariants.{BadWeight, RankEnd}
use Rattle.cell.specs.Cell.{accepted, arrival_fits}
use Rattle.cell.specs.Limits.{clock_end}
use Rattle.model.specs.State.{Switch, cells}
use Rattle.model.specs.Checks.{Outcome, done, refused, refusal, no_departures, fault, first_fault}
use Rattle.model.specs.Emulation.{lent}
use Rattle.model.specs.Fair.{Memory, make, bad_weight, rank_end, record_fault, record_fault_from, remembered, Fair}
use Rattle.model.specs.Fair.{slot_of, after_of, fair_slot_pifo, fair_after_pifo}
use Rattle.model.specs.Pifo.{Pifo, queued, Sent, sent_departures, run_pifo}
use Rattle.model.proofs.Admitted.{same-fault}
use Rattle.model.proofs.Bags.{SameBag}
use Rattle.model.proofs.FairChecks.{becoming, becoming-made, records-first, records-next, records-rankable, made-fit}
use Rattle.model.proofs.FairChecks.{record-clear-first, fair-end, fair-fault, fair-runs}
use Rattle.model.proofs.Related.{Related, arriving}

-- the checks of a record, by what 4 to 6 say of it, and by what 4 to 8 say
abbrev ranked : Memory → Arrival → Option Refusal → Option Refusal → Option Refusal
ranked m a early late =
    elim early [
      | some r ↦ some r
      | none ↦ cond (bad_weight m a) (some BadWeight) (cond (rank_end m a) (some RankEnd) late)
    ]

module _ (ports clock : ℕ) (waiting waiting' : List Cell) (bag : SameBag waiting waiting') (m : Memory) where
  same-record-fault : (before : Option Cell) (a : Arrival)
      → record_fault ports clock waiting m before a ≡ record_fault ports clock waiting' m before a
  unfolding record_fault
  same-record-fault before a =
      let c = accepted clock (make m a) in
      ap (ranked m a (fault ports [] before c)) (same-fault ports waiting waiting' bag before c)

  pub same-record-faults : (place : ℕ) (before : Option Cell) (records : List Arrival)
      → record_fault_from ports clock waiting m place before records
      ≡ record_fault_from ports clock waiting' m place before records
  unfolding record_fault_from
  same-record-faults place before [] = refl
  same-record-faults place before (a ∷ records) =
      go (record_fault ports clock waiting m before a) refl
      (same-record-faults (place + 1) (some (accepted clock (make m a))) records)
    where
      go : (o : Option Refusal) → record_fault ports clock waiting m before a ≡ o
          → record_fault_from ports clock waiting m (place + 1) (some (accepted clock (make m a))) records
          ≡ record_fault_from ports clock waiting' m (place + 1) (some (accepted clock (make m a))) records
          → record_fault_from ports clock waiting m place before (a ∷ records)
          ≡ record_fault_from ports clock waiting' m place before (a ∷ records)
      go none e rec =
          records-next ports clock waiting m place before a records e
          ∙ rec
          ∙ sym (records-next ports clock waiting' m place before a records (sym (same-record-fault before a) ∙ e))
      go (some r) e rec =
          records-first ports clock waiting m place before a records e
          ∙ sym (records-first ports clock waiting' m place before a records (sym (same-record-fault before a) ∙ e))

-- What is kept between calls.
pub record KeptFair (K : Switch → Pifo → Type 0) (x : Fair Switch) (y : Fair Pifo) : Type 0 where
  pub cores : K x.core y.core
  pub memories : x.memory ≡ y.memory

-- A switch that keeps K with the PIFO switch, by what an accepted slot of it runs and leaves, and by how the departures
-- of a slot call are read.
pub record Follows {R : Type 0} (runs : Switch → List Cell → R) (departures : R → List (Option Cell))
    (state : R → Switch) (read : ℕ → Outcome R → List (Option Cell)) (K : Switch → Pifo → Type 0) : Type 0 where
  pub related : (s : Switch) (q : Pifo) → K s q → Related s q
  pub sends : (s : Switch) (q : Pifo) → K s q → (records : List Arrival) → all? arrival_fits records ≡ true
      → eqb s.clock clock_end ≡ false → first_fault s.ports (cells s) (arriving s records) ≡ none
      → departures (runs s (arriving s records)) ≡ (run_pifo q (arriving s records)).departures
  pub keeps : (s : Switch) (q : Pifo) → K s q → (records : List Arrival) → all? arrival_fits records ≡ true
      → eqb s.clock clock_end ≡ false → first_fault s.ports (cells s) (arriving s records) ≡ none
      → K (state (runs s (arriving s records))) (run_pifo q (arriving s records)).pifo
  pub read_done : (ports : ℕ) (c : R) → read ports (done c) ≡ departures c
  pub read-refused : (ports : ℕ) (r : Refusal) (place : ℕ) → read ports (refused r place) ≡ no_departures ports

module _ {R : Type 0} (runs : Switch → List Cell → R) (departures : R → List (Option Cell)) (state : R → Switch)
    (read : ℕ → Outcome R → List (Option Cell)) (K : Switch → Pifo → Type 0)
    (follows : Follows runs departures state read K) where
  abbrev slots : Fair Switch → Option (List Arrival) → Outcome R
  slots = slot_of (λ s. s.ports) (λ s. s.clock) cells runs

  -- What a call comes to: both are refused alike or send the same, and the switches stay so kept.
  pub record FairStep (x : Fair Switch) (y : Fair Pifo) (a : Option (List Arrival)) (o : Outcome R) (o' : Outcome Sent)
      : Type 0 where
    pub refusals : refusal o ≡ refusal o'
    pub sent : (ports : ℕ) → read ports o ≡ sent_departures ports o'
    pub kept : KeptFair K (after_of departures state x a o) (fair_after_pifo y a o')

  module _ (x : Fair Switch) (y : Fair Pifo) (kept : KeptFair K x y) where
    refused-alike : (a : Option (List Arrival)) (r : Refusal) (place : ℕ)
        → FairStep x y a (refused r place) (refused r place)
    unfolding after_of refusal sent_departures
    refused-alike a r place =
        record { refusals = refl; sent = λ ports. follows.read-refused ports r place; kept = kept }

    same : Related x.core y.core
    same = follows.related x.core y.core kept.cores

    same_end : eqb y.core.clock clock_end ≡ eqb x.core.clock clock_end
    same_end = ap (λ n. eqb n clock_end) (sym same.clock)

    module _ (records : List Arrival) where
      abbrev first : Option (Refusal × ℕ)
      first =
          record_fault_from x.core.ports x.core.clock (cells x.core) x.memory 1 none records

      same_first :
          record_fault_from y.core.ports y.core.clock (queued y.core) y.memory 1 none records ≡ first
      same_first =
          ap₂ (λ n k. record_fault_from n k (queued y.core) y.memory 1 none records) (sym same.ports)
          (sym same.clock)
          ∙ ap (λ m. record_fault_from x.core.ports x.core.clock (queued y.core) m 1 none records)
          (sym kept.memories)
          ∙ sym (same-record-faults x.core.ports x.core.clock (cells x.core) (queued y.core) same.bag
          x.memory 1 none records)

      -- the records with the ranks made, and the cells that they become
      abbrev made : List Arrival
      made = map (make x.memory) records

      slots-run : eqb x.core.clock clock_end ≡ false → first ≡ none
          → slots x (some records) ≡ done (runs x.core (arriving x.core made))
      slots-run h k =
          fair-runs (λ s. s.ports) (λ s. s.clock) cells runs x records h k
          ∙ ap (λ cs. done (runs x.core cs)) (sym (becoming-made x.core.clock x.memory records))

      pifo-run : eqb x.core.clock clock_end ≡ false → first ≡ none
          → fair_slot_pifo y (some records) ≡ done (run_pifo y.core (arriving x.core made))
      pifo-run h k =
          fair-runs (λ s. s.ports) (λ s. s.clock) queued run_pifo y records (same_end ∙ h) (same_first ∙ k)
          ∙ ap₂ (λ n m. done (run_pifo y.core (becoming n m records))) (sym same.clock) (sym kept.memories)
          ∙ ap (λ cs. done (run_pifo y.core cs)) (sym (becoming-made x.core.clock x.memory records))

      module _ (fits : all? arrival_fits records ≡ true) (ticks : eqb x.core.clock clock_end ≡ false)
          (clear : first ≡ none) where
        made-clear : first_fault x.core.ports (cells x.core) (arriving x.core made) ≡ none
        made-clear =
            ap (first_fault x.core.ports (cells x.core)) (becoming-made x.core.clock x.memory records)
            ∙ record-clear-first x.core.ports x.core.clock (cells x.core) x.memory records clear

        made-fits : all? arrival_fits made ≡ true
        made-fits =
            made-fit x.memory records
            (records-rankable x.core.ports x.core.clock (cells x.core) x.memory 1 none records clear) fits

        run-alike : FairStep x y (some records) (done (runs x.core (arriving x.core made)))
            (done (run_pifo y.core (arriving x.core made)))
        unfolding after_of refusal sent_departures
        run-alike =
            let e = follows.sends x.core y.core kept.cores made made-fits ticks made-clear in
            record {
              refusals = refl;
              sent = λ ports. follows.read_done ports (runs x.core (arriving x.core made)) ∙ e;
              kept =
                  record {
                    cores = follows.keeps x.core y.core kept.cores made made-fits ticks made-clear;
                    memories = ap₂ (λ m ds. remembered m records ds) kept.memories e;
                  };
            }

    pub fair-step : (a : Option (List Arrival)) → lent a ≡ true → FairStep x y a (slots x a) (fair_slot_pifo y a)
    unfolding slot_of lent
    fair-step none fits = refused-alike none _ 0
    fair-step (some records) fits = go (eqb x.core.clock clock_end) refl (first records) refl
      where
        go : (b : Bool) → eqb x.core.clock clock_end ≡ b → (o : Option (Refusal × ℕ)) → first records ≡ o
            → FairStep x y (some records) (slots x (some records)) (fair_slot_pifo y (some records))
        go true h o k =
            rw (
              fair-end (λ s. s.ports) (λ s. s.clock) cells runs x records h,
              fair-end (λ s. s.ports) (λ s. s.clock) queued run_pifo y records (same_end ∙ h),
            )
            (refused-alike (some records) _ 0)
        go false h (some f) k =
            rw (
              fair-fault (λ s. s.ports) (λ s. s.clock) cells runs x records h f k,
              fair-fault (λ s. s.ports) (λ s. s.clock) queued run_pifo y records (same_end ∙ h) f (same_first records ∙ k),
            )
            (refused-alike (some records) f.0 f.1)
        go false h none k =
            rw (slots-run records h k, pifo-run records h k) (run-alike records fits h k)
