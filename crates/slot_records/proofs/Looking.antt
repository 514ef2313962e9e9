-- A slot on lent records.
--     lent-table, lent-short, lent-slot           2, 10, then what the clock and the records say
--     first-seventeen, lent-first, tally-first    it looks at no record behind the seventeenth
use Prim.Native.Nat.{ℕ, ◌≤◌, ◌<◌}
use mathlib.Core.Bool.{Bool, true, false}
use mathlib.Core.Logic.{◌⊎◌, inl, inr}
use mathlib.Core.List.{List}
use mathlib.Core.Option.{Option, none, some}
use mathlib.Core.Path.{◌≡◌, refl, sym, ap, ◌∙◌}
use borrow.Author.Tests.{lt-ltb, le-ltb}
use lib.Dec.{ltb}
use lib.ListN.{length, take}
use Rattle.laws.proofs.Tests.{clash}
use Rattle.cell.specs.Checked.{fault_with}
use Rattle.cell.specs.declared.Arrival.{Arrival}
use Rattle.cell.specs.declared.Refusal.{Refusal}
use Rattle.cell.specs.declared.Refusal.TheVariants.{BrokenTable, ShortBuffer}
use Rattle.cell.specs.declared.Tally.{Tally}
use Rattle.model.specs.State.{Switch}
use Rattle.model.specs.Checks.{Outcome, refused}
use Rattle.model.specs.Crossbar.{Course, slot}
use Rattle.model.specs.Tally.{tally_after}
use Rattle.layout.specs.Answer.{answer_size}
use Rattle.layout.specs.Host.{slot_of}
use Rattle.layout.specs.Table.{state_of, decode, is_table, IsTable}
use Rattle.layout.specs.TallyBytes.{tally_size}
use Rattle.layout.proofs.Table.{is_table-some, decode-sound, sound-ports}
use Rattle.slot_faults.specs.CodeFault.{fault_in}
use Rattle.slot_faults.proofs.Slots.{slot-fault, seventeen-tell}
pub use Rattle.slot_faults.proofs.Slots.{first-seventeen}
use Rattle.slot_records.specs.Records.{records_slot}

------------------------------------------------------------------------
-- a slot on lent records

module _ (table : List ℕ) (room : ℕ) where
  pub lent-table : is_table table ≡ false → (records : List Arrival) → records_slot table room records ≡ refused BrokenTable 0
  unfolding records_slot slot_of
  lent-table h records = go (decode table) refl
    where
      go : (o : Option Switch) → decode table ≡ o → slot_of (decode table) (some records) room tally_size ≡ refused BrokenTable 0
      go none e = rw e
      go (some s) e = absurd (clash (is_table-some table s e) h)

  module _ (t : IsTable table) where
    pub lent-short : room < answer_size → (records : List Arrival) → records_slot table room records ≡ refused ShortBuffer 0
    unfolding records_slot slot_of
    lent-short h records = rw (t, lt-ltb room answer_size h, slot_of)

    pub lent-slot : answer_size ≤ room → (records : List Arrival)
        → records_slot table room records ≡ slot (state_of table) (some records)
    unfolding records_slot slot_of
    lent-slot h records = rw (t, le-ltb room answer_size h, slot_of)

------------------------------------------------------------------------
-- the first records of a slot

-- a slot with more records than are looked at is refused, with the first of them as with all
abbrev Refused : Outcome Course → Outcome Course → Type 0
Refused o p = (r : Refusal) × (place : ℕ) × (o ≡ refused r place) × (p ≡ refused r place)

slot-refused : (s : Switch) (records : List Arrival) (r : Refusal) (place : ℕ) → fault_in s records ≡ fault_with r place
    → slot s (some records) ≡ refused r place
slot-refused s records r place e = rw e at (slot-fault s records)

module _ (table : List ℕ) (room : ℕ) (records : List Arrival) where
  abbrev Told : Type 0
  Told = (take 17 records ≡ records) ⊎ Refused (records_slot table room (take 17 records)) (records_slot table room records)

  -- there are no more of them, or it is refused
  all-or-refused : Told
  unfolding records_slot slot_of
  all-or-refused = go (decode table) refl (ltb room answer_size) refl
    where
      go : (o : Option Switch) → decode table ≡ o → (b : Bool) → ltb room answer_size ≡ b → Told
      go none t b l = inr (BrokenTable, 0, rw t, rw t)
      go (some s) t true l = inr (ShortBuffer, 0, rw (t, l, slot_of), rw (t, l, slot_of))
      go (some s) t false l =
          elim (seventeen-tell s records (sound-ports s (decode-sound table s t))) [
            | inl e ↦ inl e
            | inr (r, place, one, two) ↦
                inr (
                  r,
                  place,
                  rw (t, l, slot_of) (slot-refused s (take 17 records) r place one),
                  rw (t, l, slot_of) (slot-refused s records r place two),
                )
          ]

  pub lent-first : records_slot table room (take 17 records) ≡ records_slot table room records
  lent-first = elim all-or-refused [ inl e ↦ ap (records_slot table room) e | inr h ↦ h.2 ∙ sym h.3 ]

  -- and it is counted as with all
  pub tally-first : (t : Tally) → tally_after (length (take 17 records)) (records_slot table room records) t
      ≡ tally_after (length records) (records_slot table room records) t
  unfolding tally_after
  tally-first t =
      elim all-or-refused [
        | inl e ↦ ap (λ l. tally_after (length l) (records_slot table room records) t) e
        | inr h ↦
            ap (λ o. tally_after (length (take 17 records)) o t) h.3
            ∙ sym (ap (λ o. tally_after (length records) o t) h.3)
      ]
