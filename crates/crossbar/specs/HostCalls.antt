-- Demand 3 on the bytes: for every list of calls of the host, from the table that start gives and the cue store that
-- cue_start gives, the crossbar answers as the PIFO switch does. The bytes of table and store are handed from call to
-- call; a slot call lends any arrivals, any buffer that an answer fits into, and any tally; a cue call any name.
use Rattle.std.specs.Prelude.{ℕ, ◌+◌, ◌-◌, ◌≤◌, Bool, true, false, ◌&&◌, List, [], ◌∷◌, ◌++◌, map, ◌≡◌, ltb, leb, eqb, length, take, get_or}
use Rattle.std.proofs.Math.Option.{some}
use Rattle.laws.specs.Lists.{all?}
use Rattle.cell.specs.declared.Arrival.{Arrival}
use Rattle.cell.specs.declared.Refusal.TheVariants.{RankOrder}
use Rattle.cell.specs.Limits.{port_limit, ports_in_range, fits32}
use Rattle.model.specs.Checks.{Outcome, refused, refusal, no_departures}
use Rattle.model.specs.Crossbar.{Course}
use Rattle.model.specs.Cues.{set_cue, drop_cue, return_to}
use Rattle.model.specs.Emulation.{Within, Agree}
use Rattle.model.specs.Emulation as Emulation
use Rattle.model.specs.Fair.{Fair, marked, marks_in_range, is_fair, fair_slot_pifo}
use Rattle.model.specs.Pifo.{Pifo, fresh_pifo, Sent, sent_departures}
use Rattle.model.specs.Rehearsal.{Rehearsal, begun, next, shadow_after}
use Rattle.model.specs.Rehearsal as Model
use Rattle.model.specs.State.{Switch}
use Rattle.layout.specs.Answer.{departures_bytes, answer_size, departures_in, answer_read, departures_size}
use Rattle.layout.specs.Arrivals.{records_of}
use Rattle.layout.specs.Cues.{store_size, decode_store, store_call, store_buffer, set_call, drop_call, return_call, store_after}
use Rattle.layout.specs.Cues.{table_returned}
use Rattle.layout.specs.Engine.{crossbar, start_call, buffer_after, slot_call, table_after, answer_after}
use Rattle.layout.specs.Fair.{fair_number, fair_size, fair_of, decode_fair}
use Rattle.layout.specs.Host.{result_of}
use Rattle.layout.specs.TallyBytes.{tally_size}

-- What a slot call is lent besides the table.
pub record Slot : Type 0 where
  pub arrivals : List ℕ
  pub answer : List ℕ
  pub tally : List ℕ

-- a slot call, or a cue set, dropped or returned to, with its name
pub data Call : Type 0 where
  takes : Slot → Call
  sets : List ℕ → Call
  drops : List ℕ → Call
  returns : List ℕ → Call

-- any bytes as arrivals, also no whole number of records; a buffer of sufficient length with any contents; any 32 bytes
unfoldable pub lendable : Slot → Bool
lendable c =
    all? (λ b. ltb b 256) c.arrivals && (leb answer_size (length c.answer) && eqb (length c.tally) tally_size)

-- any name
unfoldable pub callable : Call → Bool
callable (takes c) = lendable c
callable (sets name) = true
callable (drops name) = true
callable (returns name) = true

abbrev pub outcome : List ℕ → Slot → Outcome Course
outcome table c = slot_call crossbar table c.arrivals c.answer c.tally

abbrev pub shadow : Fair Pifo → Slot → Outcome Sent
shadow q c = fair_slot_pifo q (records_of c.arrivals)

-- the PIFO switch is given the same call
unfoldable pub given : Call → Model.Call
given (takes c) = Model.takes (records_of c.arrivals)
given (sets name) = Model.sets name
given (drops name) = Model.drops name
given (returns name) = Model.returns name

-- the table and the cue store after a call
unfoldable pub table_next : List ℕ → List ℕ → Call → List ℕ
table_next table store (takes c) = table_after crossbar table c.arrivals (outcome table c)
table_next table store (sets name) = table
table_next table store (drops name) = table
table_next table store (returns name) = table_returned table (return_call table store name)

unfoldable pub store_next : List ℕ → List ℕ → Call → List ℕ
store_next table store (takes c) = store
store_next table store (sets name) = store_after store (set_call table store name)
store_next table store (drops name) = store_after store (drop_call store name)
store_next table store (returns name) = store

-- a slot call of two switches of so many ports, lent this buffer
pub record AnswersAlike (ports : ℕ) (answer : List ℕ) (o : Outcome Course) (o' : Outcome Sent) : Type 0 where
  -- refused exactly when the other refuses, with the same number and the same place
  pub refusals : refusal o ≡ refusal o'
  -- the host reads at each output the cell that the PIFO switch sends, or none exactly where it sends none
  pub departures : (answer_read ports (result_of o) (answer_after crossbar answer o)).departures ≡ sent_departures ports o'
  -- done, it reads none at the outputs from N to 15, and the answer's bytes are the bytes of these departures
  pub outputs : result_of o ≡ 0
      → departures_in port_limit (answer_after crossbar answer o)
      ≡ sent_departures ports o' ++ no_departures (port_limit - ports)
  pub bytes : result_of o ≡ 0
      → take departures_size (answer_after crossbar answer o) ≡ departures_bytes port_limit (sent_departures ports o')
  -- refused, the buffer is kept
  pub kept : (result_of o ≡ 0 → ⊥) → answer_after crossbar answer o ≡ answer

-- refusal 7 never names a record at a fair output
abbrev pub NeverFalls : List ℕ → Slot → Type 0
NeverFalls table c =
    (records : List Arrival) (k : ℕ) → records_of c.arrivals ≡ some records
    → outcome table c ≡ refused RankOrder (k + 1)
    → is_fair (fair_of table).memory (get_or (map (λ a. a.output) records) k 0) ≡ false

-- What a call answers: a slot as above, within the limits, and no rank falls at a fair output; a cue call is refused
-- exactly when the other refuses, with the same number.
abbrev pub CallAlike : ℕ → List ℕ → List ℕ → Rehearsal (Fair Pifo) → Call → Type 0
CallAlike ports table store y (takes c) =
    AnswersAlike ports c.answer (outcome table c) (shadow y.switch c)
    × Within (outcome table c)
    × NeverFalls table c
CallAlike ports table store y (sets name) =
    refusal (set_call table store name) ≡ refusal (set_cue name y.switch y.cues)
CallAlike ports table store y (drops name) = refusal (drop_call store name) ≡ refusal (drop_cue name y.cues)
CallAlike ports table store y (returns name) = refusal (return_call table store name) ≡ refusal (return_to name y.cues)

-- after the list the table is that of a state in which the same cells wait as in the PIFO switch and which remembers
-- the same, and the store that of cues which agree with its own
abbrev pub SameState : List ℕ → List ℕ → Rehearsal (Fair Pifo) → Type 0
SameState table store y =
    (x : Rehearsal (Fair Switch))
    × (decode_fair table ≡ some x.switch)
    × (decode_store store ≡ some x.cues)
    × Emulation.SameState x.switch y.switch
    × Agree Emulation.SameState x.cues y.cues

-- call by call both answer alike, all along the limits are kept
abbrev pub Alike : ℕ → List ℕ → List ℕ → Rehearsal (Fair Pifo) → List Call → Type 0
Alike ports table store y [] = SameState table store y
Alike ports table store y (call ∷ calls) =
    CallAlike ports table store y call
    × Alike ports (table_next table store call) (store_next table store call) (next shadow_after y (given call)) calls

-- for every N from 1 to 16, every first slot of 32 bits, any marks below N, and every list of calls
abbrev pub Demand3 : Type 0
Demand3 = (ports first marks : ℕ) (buffer store_room : List ℕ) (calls : List Call)
    → ports_in_range ports ≡ true → fits32 first ≡ true → marks_in_range ports marks ≡ true
    → fair_size ≤ length buffer → store_size ≤ length store_room → all? callable calls ≡ true
    → Alike ports (take fair_size (buffer_after fair_number buffer (start_call ports first marks buffer)))
    (take store_size (store_buffer store_room (store_call store_room))) (begun (marked marks (fresh_pifo ports first))) calls
