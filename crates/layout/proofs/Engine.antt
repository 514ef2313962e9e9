-- Laws of an engine's calls on bytes: what start, check and slot are refused for, and what a wrong tally keeps.
use Prim.Native.Nat.{ℕ, ◌≤◌, ◌<◌}
use mathlib.Core.Bool.{true, false}
use mathlib.Core.Path.{◌≡◌, refl}
use mathlib.Core.List.{List}
use mathlib.Core.Option.{Option, none, some}
use borrow.Author.Tests.{lt-ltb, le-ltb, ne_eqb, eq-eqb}
use lib.ListN.{length}
use Rattle.cell.specs.declared.Arrival.{Arrival}
use Rattle.cell.specs.declared.Refusal.TheVariants.{BadSize, BrokenTable, NoSuchPort, ShortBuffer}
use Rattle.cell.specs.Limits.{ports_in_range}
use Rattle.model.specs.State.{Switch, fresh}
use Rattle.model.specs.Checks.{Outcome, done, refused}
use Rattle.model.specs.Fair.{Fair, marked, marks_in_range, start_fair}
use Rattle.model.specs.Tally.{arrival_count}
use Rattle.layout.specs.Arrivals.{records_of}
use Rattle.layout.specs.Engine.{Engine, start_call, decoded, check_call, lent_slot, slot_call, tally_after, tally_bytes_after}
use Rattle.layout.specs.Fair.{fair_size}
use Rattle.layout.specs.TallyBytes.{tally_of, tally_bytes, tally_size}

------------------------------------------------------------------------
-- start: 1 comes before 4, and 4 before 10

module _ (ports first marks : ℕ) (buffer : List ℕ) where
  pub start_call-size : ports_in_range ports ≡ false → start_call ports first marks buffer ≡ refused BadSize 0
  unfolding start_call start_fair
  start_call-size h = rw (h, start_call, start_fair)

  module _ (size : ports_in_range ports ≡ true) where
    pub start_call-marks : marks_in_range ports marks ≡ false → start_call ports first marks buffer ≡ refused NoSuchPort 0
    unfolding start_call start_fair
    start_call-marks h = rw (size, h, start_call, start_fair)

    pub start_call-short : marks_in_range ports marks ≡ true → length buffer < fair_size
        → start_call ports first marks buffer ≡ refused ShortBuffer 0
    unfolding start_call start_fair
    start_call-short h short = rw (size, h, lt-ltb (length buffer) fair_size short, start_call, start_fair)

    pub start_call-done : marks_in_range ports marks ≡ true → fair_size ≤ length buffer
        → start_call ports first marks buffer ≡ done (marked marks (fresh ports first))
    unfolding start_call start_fair
    start_call-done h room = rw (size, h, le-ltb (length buffer) fair_size room, start_call, start_fair)

module _ {R : Type 0} (e : Engine R) where
  ------------------------------------------------------------------------
  -- check

  pub check_call-table : (table : List ℕ) (x : Fair Switch) → decoded e table ≡ some x → check_call e table ≡ 0
  unfolding check_call
  check_call-table table x h = rw (h, check_call)

  pub check_call-broken : (table : List ℕ) → decoded e table ≡ none → check_call e table ≡ 2
  unfolding check_call
  check_call-broken table h = rw (h, check_call)

  ------------------------------------------------------------------------
  -- slot: 2, then 10, then what the slot itself finds

  pub lent_slot-arrivals : (x : Option (Fair Switch)) (room tally : ℕ) → lent_slot e x none room tally ≡ refused BrokenTable 0
  unfolding lent_slot
  lent_slot-arrivals none room tally = refl
  lent_slot-arrivals (some x) room tally = refl

  lent_slot-tally : (x : Option (Fair Switch)) (records : Option (List Arrival)) (room tally : ℕ) → (tally ≡ tally_size → ⊥)
      → lent_slot e x records room tally ≡ refused BrokenTable 0
  unfolding lent_slot
  lent_slot-tally none records room tally h = refl
  lent_slot-tally (some x) none room tally h = refl
  lent_slot-tally (some x) (some records) room tally h = rw (ne_eqb tally tally_size h, lent_slot)

  pub lent_slot-short : (x : Fair Switch) (records : List Arrival) (room : ℕ) → room < e.room
      → lent_slot e (some x) (some records) room tally_size ≡ refused ShortBuffer 0
  unfolding lent_slot
  lent_slot-short x records room h = rw (lt-ltb room e.room h, lent_slot)

  pub lent_slot-slot : (x : Fair Switch) (records : List Arrival) (room : ℕ) → e.room ≤ room
      → lent_slot e (some x) (some records) room tally_size ≡ e.slot x (some records)
  unfolding lent_slot
  lent_slot-slot x records room h = rw (le-ltb room e.room h, lent_slot)

  module _ (table arrivals answer tally : List ℕ) where
    pub slot_call-arrivals : records_of arrivals ≡ none → slot_call e table arrivals answer tally ≡ refused BrokenTable 0
    unfolding slot_call
    slot_call-arrivals h = rw h (lent_slot-arrivals (decoded e table) (length answer) (length tally))

    pub slot_call-tally : (length tally ≡ tally_size → ⊥) → slot_call e table arrivals answer tally ≡ refused BrokenTable 0
    unfolding slot_call
    slot_call-tally h = lent_slot-tally (decoded e table) (records_of arrivals) (length answer) (length tally) h

    module _ (x : Fair Switch) (records : List Arrival) (t : decoded e table ≡ some x) (a : records_of arrivals ≡ some records)
        (c : length tally ≡ tally_size) where
      pub slot_call-slot : e.room ≤ length answer → slot_call e table arrivals answer tally ≡ e.slot x (some records)
      unfolding slot_call
      slot_call-slot h = rw (t, a, c) (lent_slot-slot x records (length answer) h)

  ------------------------------------------------------------------------
  -- the tally: one of another length is kept by every slot

  module _ (arrivals tally : List ℕ) (o : Outcome R) where
    pub tally_bytes_after-broken : (length tally ≡ tally_size → ⊥) → tally_bytes_after e arrivals tally o ≡ tally
    unfolding tally_bytes_after
    tally_bytes_after-broken h = rw (ne_eqb (length tally) tally_size h, tally_bytes_after)

    pub tally_bytes_after-counts : length tally ≡ tally_size
        → tally_bytes_after e arrivals tally o
        ≡ tally_bytes (tally_after e (arrival_count (records_of arrivals)) o (tally_of tally))
    unfolding tally_bytes_after
    tally_bytes_after-counts h = rw (eq-eqb (length tally) tally_size h, tally_bytes_after)
