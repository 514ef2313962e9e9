-- A slot by the fault of its records.
--     fault-end, fault-early, fault-clear    the clock is at its end; it is not; no fault is found
--     slot-fault, slot-oq-fault              a slot of the crossbar, of the output-queued switch
--     first-seventeen, seventeen-tell        no record behind the seventeenth is looked at
use Prim.Native.Nat.{ℕ, ◌+◌, ◌≤◌, ◌<◌, min}
use native.Mathlib.Omega.{arith}
use mathlib.Core.Bool.{Bool, true, false}
use mathlib.Core.Logic.{◌⊎◌, inl, inr}
use mathlib.Core.List.{List, [], ◌∷◌, ◌++◌}
use mathlib.Core.Option.{Option, none, some, some-ne-none}
use mathlib.Core.Path.{◌≡◌, refl, sym, ap, ◌∙◌}
use borrow.Author.Tests.{ltb-true, ltb-false, eq-eqb, ne_eqb}
use lib.Dec.{ltb, eqb}
use lib.ListN.{length, take, drop, length-map, take-append-drop}
use lib.Seq.{length-take-le, take_all}
use Rattle.std.specs.Prelude.{Ok, Err}
use Rattle.cell.specs.Checked.{Checked, no_fault, fault_with}
use Rattle.cell.specs.declared.Arrival.{Arrival}
use Rattle.cell.specs.declared.Cell.{Cell}
use Rattle.cell.specs.declared.Refusal.{Refusal}
use Rattle.cell.specs.declared.Refusal.TheVariants.{ClockEnd}
use Rattle.cell.specs.Cell.{accepted}
use Rattle.cell.specs.Limits.{clock_end, port_limit}
use Rattle.model.specs.State.{Switch, cells}
use Rattle.model.specs.Checks.{Outcome, done, refused, fault, fault_from, first_fault}
use Rattle.model.specs.Crossbar.{run, slot}
use Rattle.model.specs.Oq.{run_oq, slot_oq}
use Rattle.model.proofs.Admitted.{few-records}
use Rattle.model.proofs.CheckOrder.{faults-first, faults-next}
use Rattle.slot_faults.specs.CodeFault.{coming, fault_in, fault_of}
use Rattle.slot_faults.proofs.Faults.{clear-not}
use Rattle.slot_faults.proofs.Records.{coming-take}

------------------------------------------------------------------------
-- the fault of a slot's records

-- what a slot comes to: by the clock's end and the first fault of a record, and by the fault that is one of these
abbrev by_checks : {A : Type 0} → A → Bool → Option (Refusal × ℕ) → Outcome A
by_checks x b o =
    elim b [
      | true ↦ refused ClockEnd 0
      | false ↦ elim o [ some f ↦ refused f.0 f.1 | none ↦ done x ]
    ]

abbrev by_fault : {A : Type 0} → A → Checked → Outcome A
by_fault x f = elim f [ Ok _ ↦ done x | Err fault ↦ refused fault.refusal fault.place ]

module _ (s : Switch) (records : List Arrival) where
  abbrev first : Option (Refusal × ℕ)
  first = first_fault s.ports (cells s) (coming s records)

  pub fault-end : s.clock ≡ clock_end → fault_in s records ≡ fault_with ClockEnd 0
  unfolding fault_in
  fault-end e = rw (eq-eqb s.clock clock_end e, fault_in)

  pub fault-early : (s.clock ≡ clock_end → ⊥) → fault_in s records ≡ fault_of first
  unfolding fault_in
  fault-early early = rw (ne_eqb s.clock clock_end early, fault_in)

  -- by whether the clock is at its end, and by the first fault of a record
  by-fault : (P : Bool → Option (Refusal × ℕ) → Checked → Type 0) → P true first (fault_with ClockEnd 0)
      → ((o : Option (Refusal × ℕ)) → P false o (fault_of o)) → P (eqb s.clock clock_end) first (fault_in s records)
  unfolding fault_in
  by-fault P late early = go (eqb s.clock clock_end)
    where
      go : (b : Bool) → P b first (elim b [ true ↦ fault_with ClockEnd 0 | false ↦ fault_of first ])
      go true = late
      go false = early first

  pub fault-clear : fault_in s records ≡ no_fault
      → (eqb s.clock clock_end ≡ false) × (first_fault s.ports (cells s) (coming s records) ≡ none)
  unfolding fault_of
  fault-clear =
      by-fault (λ b o f. f ≡ no_fault → (b ≡ false) × (o ≡ none)) (λ e. absurd (clear-not (sym e))) each
    where
      each : (o : Option (Refusal × ℕ)) → fault_of o ≡ no_fault → (false ≡ false) × (o ≡ none)
      each none e = (refl, refl)
      each (some f) e = absurd (clear-not (sym e))

  checked : {A : Type 0} (x : A) → by_checks x (eqb s.clock clock_end) first ≡ by_fault x (fault_in s records)
  unfolding fault_of
  checked x = by-fault (λ b o f. by_checks x b o ≡ by_fault x f) refl each
    where
      each : (o : Option (Refusal × ℕ)) → by_checks x false o ≡ by_fault x (fault_of o)
      each none = refl
      each (some f) = refl

  pub slot-fault : slot s (some records)
      ≡ elim (fault_in s records) [
        | Ok _ ↦ done (run s (coming s records))
        | Err fault ↦ refused fault.refusal fault.place
      ]
  unfolding slot coming
  slot-fault = checked (run s (coming s records))

  pub slot-oq-fault : slot_oq s (some records)
      ≡ elim (fault_in s records) [
        | Ok _ ↦ done (run_oq s (coming s records))
        | Err fault ↦ refused fault.refusal fault.place
      ]
  unfolding slot_oq coming
  slot-oq-fault = checked (run_oq s (coming s records))

------------------------------------------------------------------------
-- the first records of a slot

-- so many are looked at
pub first-seventeen : (records : List Arrival) → take (min (length records) 17) records ≡ take 17 records
first-seventeen records = go (ltb (length records) 17) refl
  where
    go : (b : Bool) → ltb (length records) 17 ≡ b → take (min (length records) 17) records ≡ take 17 records
    go true e =
        let few : length records < 17 = ltb-true (length records) 17 e in
        take_all (min (length records) 17) records (omega arith) ∙ sym (take_all 17 records (omega arith))
    go false e =
        let many : 17 ≤ length records = ltb-false (length records) 17 e in
        let end : min (length records) 17 ≡ 17 = omega arith in
        ap (λ k. take k records) end

module _ (ports : ℕ) (waiting : List Cell) where
  -- a fault stays the first one with more records behind it
  fault-front : (place : ℕ) (before : Option Cell) (cs more : List Cell) (f : Refusal × ℕ)
      → fault_from ports waiting place before cs ≡ some f → fault_from ports waiting place before (cs ++ more) ≡ some f
  unfolding fault_from
  fault-front place before [] more f e = absurd (some-ne-none f (sym e))
  fault-front place before (c ∷ cs) more f e =
      go (fault ports waiting before c) refl (λ q. fault-front (place + 1) (some c) cs more f q)
    where
      go : (o : Option Refusal) → fault ports waiting before c ≡ o
          → (fault_from ports waiting (place + 1) (some c) cs ≡ some f
          → fault_from ports waiting (place + 1) (some c) (cs ++ more) ≡ some f)
          → fault_from ports waiting place before (c ∷ (cs ++ more)) ≡ some f
      go (some r) q again =
          faults-first ports waiting place before c (cs ++ more) q
          ∙ sym (faults-first ports waiting place before c cs q)
          ∙ e
      go none q again =
          faults-next ports waiting place before c (cs ++ more) q
          ∙ again (sym (faults-next ports waiting place before c cs q) ∙ e)

  -- inputs rise, so there are no more records without a fault than ports, and the first seventeen tell
  fault-first : ports ≤ port_limit → (cs : List Cell) → 17 ≤ length cs
      → (f : Refusal × ℕ) × (first_fault ports waiting (take 17 cs) ≡ some f) × (first_fault ports waiting cs ≡ some f)
  unfolding first_fault
  fault-first p cs many = go (fault_from ports waiting 1 none (take 17 cs)) refl
    where
      go : (o : Option (Refusal × ℕ)) → fault_from ports waiting 1 none (take 17 cs) ≡ o
          → (f : Refusal × ℕ)
          × (fault_from ports waiting 1 none (take 17 cs) ≡ some f) × (fault_from ports waiting 1 none cs ≡ some f)
      go none q =
          absurd (omega (arith, length-take-le 17 cs many, few-records ports waiting (take 17 cs) q))
      go (some f) q = (
        f,
        q,
        ap (fault_from ports waiting 1 none) (sym (take-append-drop 17 cs))
            ∙ fault-front 1 none (take 17 cs) (drop 17 cs) f q,
      )

-- no records are behind the seventeenth, or the first seventeen have the fault of all
pub seventeen-tell : (s : Switch) (records : List Arrival) → s.ports ≤ port_limit
    → (take 17 records ≡ records)
    ⊎ ((r : Refusal) × (place : ℕ) × (fault_in s (take 17 records) ≡ fault_with r place) × (fault_in s records ≡ fault_with r place))
unfolding coming fault_in fault_of
seventeen-tell s records p = go (ltb (length records) 17) refl (eqb s.clock clock_end) refl
  where
    go : (b : Bool) → ltb (length records) 17 ≡ b → (d : Bool) → eqb s.clock clock_end ≡ d
        → (take 17 records ≡ records)
        ⊎ ((r : Refusal) × (place : ℕ) × (fault_in s (take 17 records) ≡ fault_with r place) × (fault_in s records ≡ fault_with r place))
    go true e d q = inl (take_all 17 records (omega (arith, ltb-true (length records) 17 e)))
    go false e true q = inr (ClockEnd, 0, rw (q, fault_in), rw (q, fault_in))
    go false e false q =
        let many : 17 ≤ length records = ltb-false (length records) 17 e in
        let told = fault-first s.ports (cells s) p (coming s records)
        (omega (arith, length-map records (accepted s.clock))) in
        let first : first_fault s.ports (cells s) (coming s (take 17 records)) ≡ some told.0 =
        ap (first_fault s.ports (cells s)) (sym (coming-take s 17 records)) ∙ told.1 in
        inr (told.0.0, told.0.1, rw (q, first, fault_in), rw (q, told.2, fault_in))
