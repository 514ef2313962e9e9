-- What is lent to a slot of either engine, before its records are looked at.
--     lent-refused    where it is turned back
--     lent-whole      torn records may be looked at before the table is
--     lent-room       where it is not, it is a table, whole records, and room for the answer
--     lent-called     then it is the slot of its state with its records
use Prim.Native.Nat.{ℕ, ◌/◌, ◌%◌, ◌≤◌}
use mathlib.Core.Bool.{Bool, true, false, ◌&&◌}
use mathlib.Core.List.{List}
use mathlib.Core.Option.{some}
use mathlib.Core.Path.{◌≡◌, refl, sym, ap, ap₂, ◌∙◌}
use borrow.Author.Tests.{ltb-true, ltb-false, eqb-true, eqb-false}
use lib.Dec.{ltb, eqb}
use lib.ListN.{length}
use Rattle.std.specs.Prelude.{Ok, Err}
use Rattle.cell.specs.Checked.{Checked, no_fault}
use Rattle.cell.specs.declared.Arrival.{Arrival}
use Rattle.cell.specs.declared.Fault.{Fault}
use Rattle.cell.specs.declared.Refusal.TheVariants.{BrokenTable}
use Rattle.model.specs.Checks.{Outcome, refused}
use Rattle.layout.specs.Arrivals.{arrival_size, arrivals_of, records_of}
use Rattle.layout.specs.Engine.{Engine, decoded, lent_slot}
use Rattle.layout.specs.Fair.{fair_of}
use Rattle.layout.specs.Frame.{is_table_with}
use Rattle.layout.specs.TallyBytes.{tally_size}
use Rattle.layout.proofs.Arrivals.{records_of-whole, records_of-broken}
use Rattle.layout.proofs.Engine.{lent_slot-arrivals, lent_slot-short, lent_slot-slot}
use Rattle.layout.proofs.Fair.{is-table-with, is_table_with-none}
use Rattle.slot_faults.proofs.Faults.{clear-not}
use Rattle.fair_faults.specs.Lent.{lent_fault}

pub lent-whole : (is_table : Bool) (arrivals room size : ℕ)
    → lent_fault (eqb (arrivals % arrival_size) 0 && is_table) arrivals room size ≡ lent_fault is_table arrivals room size
unfolding lent_fault
lent-whole is_table arrivals room size = go is_table (eqb (arrivals % arrival_size) 0) refl
  where
    go : (t w : Bool) → eqb (arrivals % arrival_size) 0 ≡ w
        → lent_fault (w && t) arrivals room size ≡ lent_fault t arrivals room size
    go false false f = refl
    go false true f = refl
    go true false f = rw (f, lent_fault)
    go true true f = refl

-- nothing turns it back
pub record Lends (is_table : Bool) (arrivals room size : ℕ) : Type 0 where
  pub sound : is_table ≡ true
  pub whole : arrivals % arrival_size ≡ 0
  pub long : size ≤ room

pub lent-room : (is_table : Bool) (arrivals room size : ℕ) → lent_fault is_table arrivals room size ≡ no_fault
    → Lends is_table arrivals room size
unfolding lent_fault
lent-room is_table arrivals room size h =
    go is_table refl (eqb (arrivals % arrival_size) 0) refl (ltb room size) refl
  where
    go : (t : Bool) → is_table ≡ t → (w : Bool) → eqb (arrivals % arrival_size) 0 ≡ w
        → (l : Bool) → ltb room size ≡ l → Lends is_table arrivals room size
    go false e w f l g = absurd (clear-not (sym (rw (e, lent_fault) at h)))
    go true e false f l g = absurd (clear-not (sym (rw (e, f, lent_fault) at h)))
    go true e true f true g = absurd (clear-not (sym (rw (e, f, g, lent_fault) at h)))
    go true e true f false g =
        record { sound = e; whole = eqb-true _ 0 f; long = ltb-false room size g }

module _ {R : Type 0} (e : Engine R) (table arrivals : List ℕ) (room : ℕ) where
  abbrev is_table : Bool
  is_table = is_table_with e.number e.sound table

  abbrev lent : Outcome R
  lent = lent_slot e (decoded e table) (records_of arrivals) room tally_size

  abbrev all : List Arrival
  all = arrivals_of (length arrivals / arrival_size) arrivals

  parts : is_table ≡ true → length arrivals % arrival_size ≡ 0
      → lent ≡ lent_slot e (some (fair_of table)) (some all) room tally_size
  parts t whole =
      ap₂ (λ x a. lent_slot e x a room tally_size) (is-table-with e.number e.sound table t)
      (records_of-whole arrivals whole)

  -- the outcome that a fault is
  refused_as : Checked → Outcome R
  refused_as (Ok _) = refused BrokenTable 0
  refused_as (Err fault) = refused fault.refusal fault.place

  pub lent-refused : (fault : Fault) → lent_fault is_table (length arrivals) room e.room ≡ Err fault
      → lent ≡ refused fault.refusal fault.place
  unfolding lent_fault lent_slot refused_as
  lent-refused fault h =
      go is_table refl (eqb (length arrivals % arrival_size) 0) refl (ltb room e.room) refl
    where
      go : (t : Bool) → is_table ≡ t → (w : Bool) → eqb (length arrivals % arrival_size) 0 ≡ w
          → (l : Bool) → ltb room e.room ≡ l → lent ≡ refused fault.refusal fault.place
      go false p w q l s =
          ap (λ x. lent_slot e x (records_of arrivals) room tally_size) (is_table_with-none e.number e.sound table p)
          ∙ ap refused_as (rw (p, lent_fault) at h)
      go true p false q l s =
          ap (λ a. lent_slot e (decoded e table) a room tally_size) (records_of-broken arrivals (eqb-false _ 0 q))
          ∙ lent_slot-arrivals e (decoded e table) room tally_size
          ∙ ap refused_as (rw (p, q, lent_fault) at h)
      go true p true q true s =
          parts p (eqb-true _ 0 q)
          ∙ lent_slot-short e (fair_of table) all room (ltb-true room e.room s)
          ∙ ap refused_as (rw (p, q, s, lent_fault) at h)
      go true p true q false s = absurd (clear-not (rw (p, q, s, lent_fault) at h))

  pub lent-called : Lends is_table (length arrivals) room e.room → lent ≡ e.slot (fair_of table) (some all)
  lent-called clear =
      parts clear.sound clear.whole ∙ lent_slot-slot e (fair_of table) all room clear.long
