-- A slot where some outputs are fair, by the fault of its records.
--     fair-end, fair-early, fair-clear    the clock is at its end; it is not; no fault is found
--     fair-by-fault                       a slot of either switch
--     fair-seventeen                      no record behind the seventeenth is looked at
use Prim.Native.Nat.{ℕ, ◌≤◌}
use native.Mathlib.Omega.{arith}
use mathlib.Core.Bool.{Bool, true, false}
use mathlib.Core.Logic.{◌⊎◌, inl, inr}
use mathlib.Core.List.{List}
use mathlib.Core.Option.{Option, none, some}
use mathlib.Core.Path.{◌≡◌, refl, sym}
use borrow.Author.Tests.{ltb-true, ltb-false, eq-eqb, ne_eqb}
use lib.Dec.{ltb, eqb}
use lib.ListN.{length, take}
use lib.Seq.{take_all}
use Rattle.std.specs.Prelude.{Ok, Err}
use Rattle.cell.specs.declared.Arrival.{Arrival}
use Rattle.cell.specs.declared.Cell.{Cell}
use Rattle.cell.specs.Checked.{Checked, no_fault, fault_with}
use Rattle.cell.specs.declared.Refusal.{Refusal}
use Rattle.cell.specs.declared.Refusal.TheVariants.{ClockEnd}
use Rattle.cell.specs.Limits.{clock_end, port_limit}
use Rattle.model.specs.State.{Switch, cells}
use Rattle.model.specs.Checks.{Outcome, done, refused}
use Rattle.model.specs.Fair.{Memory, Fair, slot_of}
use Rattle.model.proofs.FairChecks.{becoming, fair-first}
use Rattle.slot_faults.specs.CodeFault.{fault_of}
use Rattle.slot_faults.proofs.Faults.{clear-not}
use Rattle.fair_faults.specs.CodeFairFault.{first_fair, fair_fault_in}

module _ (s : Switch) (m : Memory) (records : List Arrival) where
  pub fair-end : s.clock ≡ clock_end → fair_fault_in s m records ≡ fault_with ClockEnd 0
  unfolding fair_fault_in
  fair-end e = rw (eq-eqb s.clock clock_end e, fair_fault_in)

  pub fair-early : (s.clock ≡ clock_end → ⊥) → fair_fault_in s m records ≡ fault_of (first_fair s m records)
  unfolding fair_fault_in
  fair-early early = rw (ne_eqb s.clock clock_end early, fair_fault_in)

  pub fair-clear : fair_fault_in s m records ≡ no_fault → (eqb s.clock clock_end ≡ false) × (first_fair s m records ≡ none)
  unfolding fair_fault_in fault_of
  fair-clear h = go (eqb s.clock clock_end) refl (first_fair s m records) refl
    where
      go : (b : Bool) → eqb s.clock clock_end ≡ b → (o : Option (Refusal × ℕ)) → first_fair s m records ≡ o
          → (eqb s.clock clock_end ≡ false) × (first_fair s m records ≡ none)
      go true e o q = absurd (clear-not (sym (rw (e, fair_fault_in) at h)))
      go false e (some f) q = absurd (clear-not (sym (rw (e, q, fair_fault_in) at h)))
      go false e none q = (e, q)

  -- no records are behind the seventeenth, or the first seventeen have the fault of all
  pub fair-seventeen : s.ports ≤ port_limit
      → (take 17 records ≡ records)
      ⊎ ((r : Refusal) × (place : ℕ) × (fair_fault_in s m (take 17 records) ≡ fault_with r place)
      × (fair_fault_in s m records ≡ fault_with r place))
  unfolding fair_fault_in fault_of
  fair-seventeen p = go (ltb (length records) 17) refl (eqb s.clock clock_end) refl
    where
      go : (b : Bool) → ltb (length records) 17 ≡ b → (d : Bool) → eqb s.clock clock_end ≡ d
          → (take 17 records ≡ records)
          ⊎ ((r : Refusal) × (place : ℕ) × (fair_fault_in s m (take 17 records) ≡ fault_with r place)
          × (fair_fault_in s m records ≡ fault_with r place))
      go true e d q = inl (take_all 17 records (omega (arith, ltb-true (length records) 17 e)))
      go false e true q = inr (ClockEnd, 0, rw (q, fair_fault_in), rw (q, fair_fault_in))
      go false e false q =
          let told = fair-first s.ports s.clock (cells s) m p records (ltb-false (length records) 17 e) in
          inr (told.0.0, told.0.1, rw (q, told.1, fair_fault_in), rw (q, told.2, fair_fault_in))

-- the slot of a switch that is given by what a slot of its cells does
module _ {R : Type 0} (runs : Switch → List Cell → R) (x : Fair Switch) (records : List Arrival) where
  abbrev ran : Outcome R
  ran = done (runs x.core (becoming x.core.clock x.memory records))

  -- what it comes to, by the clock's end and the first fault of a record, and by the fault that is one of these
  abbrev by_checks : Bool → Option (Refusal × ℕ) → Outcome R
  by_checks b o =
      elim b [
        | true ↦ refused ClockEnd 0
        | false ↦ elim o [ some f ↦ refused f.0 f.1 | none ↦ ran ]
      ]

  abbrev pub by_fault : Checked → Outcome R
  by_fault f = elim f [ Ok _ ↦ ran | Err fault ↦ refused fault.refusal fault.place ]

  pub fair-by-fault : slot_of (λ s. s.ports) (λ s. s.clock) cells runs x (some records)
      ≡ by_fault (fair_fault_in x.core x.memory records)
  unfolding slot_of fair_fault_in fault_of
  fair-by-fault = go (eqb x.core.clock clock_end) (first_fair x.core x.memory records)
    where
      go : (b : Bool) (o : Option (Refusal × ℕ))
          → by_checks b o ≡ by_fault (elim b [ true ↦ fault_with ClockEnd 0 | false ↦ fault_of o ])
      go true o = refl
      go false none = refl
      go false (some f) = refl
