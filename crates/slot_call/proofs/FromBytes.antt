-- A slot on bytes.
--     lent-torn, lent-called   no whole number of records, or the slot on the first of them
use Prim.Native.Nat.{ℕ, ◌/◌, ◌%◌, min}
use mathlib.Core.Bool.{false}
use mathlib.Core.List.{List}
use mathlib.Core.Option.{Option, none, some}
use mathlib.Core.Path.{◌≡◌, refl, sym, ap, ap₂, ◌∙◌}
use lib.ListN.{length, take}
use Rattle.cell.specs.Checked.{Checked, fault_with}
use Rattle.cell.specs.declared.Arrival.{Arrival}
use Rattle.cell.specs.declared.Refusal.TheVariants.{BrokenTable}
use Rattle.cell.specs.declared.Tally.{Tally}
use Rattle.model.specs.State.{Switch}
use Rattle.model.specs.Checks.{refused, refusal_of}
use Rattle.model.specs.Tally.{tally_after, arrival_count, after_refused}
use Rattle.layout.specs.Arrivals.{arrival_size, arrivals_of, records_of}
use Rattle.layout.specs.Host.{slot_of, table_after, answer_after}
use Rattle.layout.specs.Table.{decode}
use Rattle.layout.specs.TallyBytes.{tally_of, tally_bytes}
use Rattle.layout.proofs.Arrivals.{records_of-whole, records_of-broken}
use Rattle.layout_arrivals.proofs.Reading.{first-records}
use Rattle.layout_tally.specs.Counted.{counted_as}
use Rattle.slot_call.specs.CodeLent.{lent_slot, LentLeaves}
use Rattle.slot_records.proofs.Looking.{lent-first, tally-first}
use Rattle.slot_records.specs.Records.{records_slot}

module _ (table arrivals : List ℕ) (room : ℕ) where
  lent-broken : records_of arrivals ≡ none → lent_slot table arrivals room ≡ refused BrokenTable 0
  unfolding lent_slot slot_of
  lent-broken e = go (decode table) refl
    where
      go : (o : Option Switch) → decode table ≡ o → lent_slot table arrivals room ≡ refused BrokenTable 0
      go none t = rw t
      go (some s) t = rw (t, e)

  lent-whole : (records : List Arrival) → records_of arrivals ≡ some records
      → lent_slot table arrivals room ≡ records_slot table room records
  unfolding lent_slot records_slot
  lent-whole records e = rw e

module _ (table arrivals answer tally : List ℕ) where
  -- no whole number of records
  pub lent-torn : (length arrivals % arrival_size ≡ 0 → ⊥) → (before after : Tally) (tally' : List ℕ) → before ≡ tally_of tally
      → after ≡ counted_as false 0 0 before → tally' ≡ tally_bytes after
      → LentLeaves (lent_slot table arrivals (length answer)) table arrivals answer tally (fault_with BrokenTable 0) table answer tally'
  unfolding refusal_of table_after answer_after tally_after counted_as
  lent-torn torn before after tally' b c d =
      let outcome : lent_slot table arrivals (length answer) ≡ refused BrokenTable 0 =
      lent-broken table arrivals (length answer) (records_of-broken arrivals torn) in
      rw outcome (refl, (refl, (refl, d ∙ ap tally_bytes (c ∙ ap after_refused b))))

  -- the slot was called with the first records and the tally
  module _ (whole : length arrivals % arrival_size ≡ 0) (records : List Arrival) (many : ℕ) (count : many ≡ min (length arrivals / arrival_size) 17)
      (read : take (min (length arrivals / arrival_size) 17) records ≡ arrivals_of (min (length arrivals / arrival_size) 17) arrivals) where
    all : List Arrival
    all = arrivals_of (length arrivals / arrival_size) arrivals

    first : take many records ≡ take 17 all
    unfolding all
    first = ap (λ k. take k records) count ∙ read ∙ first-records (length arrivals / arrival_size) arrivals

    outcome : records_slot table (length answer) (take many records) ≡ lent_slot table arrivals (length answer)
    unfolding all
    outcome =
        ap (records_slot table (length answer)) first
        ∙ lent-first table (length answer) all
        ∙ sym (lent-whole table arrivals (length answer) all (records_of-whole arrivals whole))

    counted-all : (t : Tally)
        → tally_after (length (take many records)) (records_slot table (length answer) (take many records)) t
        ≡ tally_after (arrival_count (records_of arrivals)) (lent_slot table arrivals (length answer)) t
    unfolding all arrival_count
    counted-all t =
        let same : lent_slot table arrivals (length answer) ≡ records_slot table (length answer) all =
        lent-whole table arrivals (length answer) all (records_of-whole arrivals whole) in
        ap₂ (λ k o. tally_after k o t) (ap length first) (outcome ∙ same)
        ∙ tally-first table (length answer) all t
        ∙ sym (ap₂ (λ k o. tally_after k o t) (ap arrival_count (records_of-whole arrivals whole)) same)

    pub lent-called : (checked : Checked) (before after : Tally) (table' answer' tally' : List ℕ) → before ≡ tally_of tally
        → checked ≡ refusal_of (records_slot table (length answer) (take many records))
        → after
        ≡ tally_after (length (take many records)) (records_slot table (length answer) (take many records)) before
        → table' ≡ table_after table (records_slot table (length answer) (take many records))
        → answer' ≡ answer_after answer (records_slot table (length answer) (take many records)) → tally' ≡ tally_bytes after
        → LentLeaves (lent_slot table arrivals (length answer)) table arrivals answer tally checked table' answer' tally'
    lent-called checked before after table' answer' tally' b e₁ e₂ e₃ e₄ e₅ = (
      e₁ ∙ ap refusal_of outcome,
      (
        e₃ ∙ ap (table_after table) outcome,
        (
          e₄ ∙ ap (answer_after answer) outcome,
          e₅ ∙ ap tally_bytes (e₂ ∙ counted-all before ∙ ap (tally_after _ _) b),
        ),
      ),
    )
