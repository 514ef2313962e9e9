-- The host's calls of a switch on bytes: start, check and slot. One text for both engines, the crossbar and the output-queued
-- switch. For a slot the order is 2, 10, 3, then record by record 4, 5, 6, 14, 15, 7, 8; at start 1 comes before 4, and 4
-- before 10. Bytes of a buffer past its answer are kept.
use Rattle.std.specs.Prelude.{ℕ, Bool, true, false, List, ◌≡◌, ltb, eqb, length}
use Rattle.std.proofs.Math.Option.{Option, none, some}
use Rattle.laws.specs.Lists.{count}
use Rattle.cell.specs.declared.Arrival.{Arrival}
use Rattle.cell.specs.declared.Cell.{Cell}
use Rattle.cell.specs.declared.Refusal.TheVariants.{BrokenTable, ShortBuffer}
use Rattle.cell.specs.declared.Tally.{Tally}
use Rattle.cell.specs.Limits.{port_limit}
use Rattle.cell.specs.Refusal.{number as refusal_number}
use Rattle.model.specs.State.{Switch}
use Rattle.model.specs.Sound.{sound as sound_switch}
use Rattle.model.specs.Checks.{Outcome, done, refused}
use Rattle.model.specs.Crossbar.{Course, answer_of}
use Rattle.model.specs.Fair.{Fair, fair_slot, fair_slot_oq, after_of, start_fair}
use Rattle.model.specs.Oq.{Served, sound_oq}
use Rattle.model.specs.Tally.{is_sent, after_run, after_refused, arrival_count}
use Rattle.layout.specs.Answer.{answer_bytes, answer_size, departures_bytes, departures_size}
use Rattle.layout.specs.Arrivals.{records_of}
use Rattle.layout.specs.Fair.{fair_number, fair_number_oq, fair_size, fair_bytes, fair_of, decode_with}
use Rattle.layout.specs.Host.{filled, result_of}
use Rattle.layout.specs.TallyBytes.{tally_of, tally_bytes, tally_size}

-- An engine: the number of its tables, what makes its cells sound, one slot and what comes of it, and the bytes of its
-- answer.
pub record Engine (R : Type 0) : Type 0 where
  pub number : ℕ
  pub sound : Switch → Bool
  pub slot : Fair Switch → Option (List Arrival) → Outcome R
  pub departures : R → List (Option Cell)
  pub state : R → Switch
  pub room : ℕ
  pub answer : R → List ℕ

abbrev pub crossbar : Engine Course
crossbar =
    record {
      number = fair_number;
      sound = sound_switch;
      slot = fair_slot;
      departures = λ c. c.departures;
      state = λ c. c.switch;
      room = answer_size;
      answer = λ c. answer_bytes (answer_of c);
    }

-- its answer is the departures alone
abbrev pub oq : Engine Served
oq =
    record {
      number = fair_number_oq;
      sound = sound_oq;
      slot = fair_slot_oq;
      departures = λ c. c.departures;
      state = λ c. c.switch;
      room = departures_size;
      answer = λ c. departures_bytes port_limit c.departures;
    }

-- Start: the fresh table, or 1, then 4, then 10.
unfoldable pub start_call : ℕ → ℕ → ℕ → List ℕ → Outcome (Fair Switch)
start_call ports first marks buffer =
    elim (start_fair ports first marks) [
      | refused r place ↦ refused r place
      | done x ↦ elim (ltb (length buffer) fair_size) [ true ↦ refused ShortBuffer 0 | false ↦ done x ]
    ]

-- the buffer after a call that writes a table with this number, if it is done
unfoldable pub buffer_after : ℕ → List ℕ → Outcome (Fair Switch) → List ℕ
buffer_after number buffer (done x) = filled (fair_bytes number x) buffer
buffer_after number buffer (refused r place) = buffer

module _ {R : Type 0} (e : Engine R) where
  abbrev pub decoded : List ℕ → Option (Fair Switch)
  decoded = decode_with e.number e.sound

  -- Check: 0 for the table of a sound state, 2 for anything else.
  unfoldable pub check_call : List ℕ → ℕ
  check_call table = elim (decoded table) [ some x ↦ 0 | none ↦ refusal_number BrokenTable ]

  -- Slot. The lent table, arrivals and tally are looked at first, then the buffer for the answer; the rest is the slot's.
  unfoldable pub lent_slot : Option (Fair Switch) → Option (List Arrival) → ℕ → ℕ → Outcome R
  lent_slot none records room tally = refused BrokenTable 0
  lent_slot (some x) none room tally = refused BrokenTable 0
  lent_slot (some x) (some records) room tally =
      elim (eqb tally tally_size) [
        | false ↦ refused BrokenTable 0
        | true ↦ elim (ltb room e.room) [ true ↦ refused ShortBuffer 0 | false ↦ e.slot x (some records) ]
      ]

  unfoldable pub slot_call : List ℕ → List ℕ → List ℕ → List ℕ → Outcome R
  slot_call table arrivals answer tally = lent_slot (decoded table) (records_of arrivals) (length answer) (length tally)

  -- the table, the answer and the tally after the call: a refused slot changes only the tally's count of refused slots,
  -- and not even that where the tally has the wrong length
  unfoldable pub table_after : List ℕ → List ℕ → Outcome R → List ℕ
  table_after table arrivals (done c) =
      fair_bytes e.number (after_of e.departures e.state (fair_of table) (records_of arrivals) (done c))
  table_after table arrivals (refused r place) = table

  unfoldable pub answer_after : List ℕ → Outcome R → List ℕ
  answer_after answer (done c) = filled (e.answer c) answer
  answer_after answer (refused r place) = answer

  unfoldable pub tally_after : ℕ → Outcome R → Tally → Tally
  tally_after many (done c) t = after_run many (count is_sent (e.departures c)) t
  tally_after many (refused r place) t = after_refused t

  unfoldable pub tally_bytes_after : List ℕ → List ℕ → Outcome R → List ℕ
  tally_bytes_after arrivals tally o =
      elim (eqb (length tally) tally_size) [
        | true ↦ tally_bytes (tally_after (arrival_count (records_of arrivals)) o (tally_of tally))
        | false ↦ tally
      ]

  -- what a slot call that comes to this leaves: its result, the table, the answer's buffer and the tally
  abbrev pub CallLeaves : Outcome R → List ℕ → List ℕ → List ℕ → List ℕ → ℕ → List ℕ → List ℕ → List ℕ → Type 0
  CallLeaves o table arrivals answer tally result table' answer' tally' =
      (result ≡ result_of o)
      × ((table' ≡ table_after table arrivals o)
      × ((answer' ≡ answer_after answer o) × (tally' ≡ tally_bytes_after arrivals tally o)))
