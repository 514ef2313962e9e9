-- For every list of slot calls of the host, from the table that oq_start gives, whatever outputs are fair, the
-- output-queued switch answers as the PIFO switch does that is told the same marks and makes its ranks from the ranks
-- it gave and the cells it sent itself. The bytes of the table are handed from call to call; a call lends any arrivals,
-- any buffer that an answer fits into, and any tally.
use Rattle.std.specs.Prelude.{ℕ, ◌-◌, ◌≤◌, Bool, true, ◌&&◌, List, [], ◌∷◌, ◌++◌, ◌≡◌, ltb, leb, eqb, length, take}
use Rattle.std.proofs.Math.Option.{some}
use Rattle.laws.specs.Lists.{all?}
use Rattle.cell.specs.Limits.{port_limit, ports_in_range, fits32}
use Rattle.model.specs.Checks.{Outcome, refusal, no_departures}
use Rattle.model.specs.Emulation.{SameState}
use Rattle.model.specs.Fair.{Fair, marks_in_range, marked, fair_slot_pifo, fair_after_pifo}
use Rattle.model.specs.Oq.{Served}
use Rattle.model.specs.Pifo.{Pifo, fresh_pifo, Sent, sent_departures}
use Rattle.model.specs.State.{Switch}
use Rattle.layout.specs.Answer.{departures_bytes, departures_in, departures_size}
use Rattle.layout.specs.Arrivals.{records_of}
use Rattle.layout.specs.Engine.{oq, start_call, buffer_after, slot_call, table_after, answer_after}
use Rattle.layout.specs.Fair.{fair_number_oq, fair_size, decode_fair_oq}
use Rattle.layout.specs.Host.{result_of}
use Rattle.layout.specs.TallyBytes.{tally_size}

-- What a slot call is lent besides the table.
pub record Call : Type 0 where
  pub arrivals : List ℕ
  pub answer : List ℕ
  pub tally : List ℕ

-- any bytes as arrivals, also no whole number of records; a buffer of sufficient length with any contents; any 32 bytes
unfoldable pub lendable : Call → Bool
lendable c =
    all? (λ b. ltb b 256) c.arrivals
    && (leb departures_size (length c.answer) && eqb (length c.tally) tally_size)

abbrev pub outcome : List ℕ → Call → Outcome Served
outcome table c = slot_call oq table c.arrivals c.answer c.tally

-- the PIFO switch is given the same call
abbrev pub shadow : Fair Pifo → Call → Outcome Sent
shadow y c = fair_slot_pifo y (records_of c.arrivals)

-- a slot call of two switches of so many ports, lent this buffer
pub record AnswersAlike (ports : ℕ) (answer : List ℕ) (o : Outcome Served) (o' : Outcome Sent) : Type 0 where
  -- refused exactly when the other refuses, with the same number and the same place
  pub refusals : refusal o ≡ refusal o'
  -- done, the host reads at each output the cell that the PIFO switch sends, or none exactly where it sends none, and
  -- none at the outputs from N to 15; and the answer's bytes are the bytes of these departures
  pub outputs : result_of o ≡ 0
      → departures_in port_limit (answer_after oq answer o) ≡ sent_departures ports o' ++ no_departures (port_limit - ports)
  pub bytes : result_of o ≡ 0
      → take departures_size (answer_after oq answer o) ≡ departures_bytes port_limit (sent_departures ports o')
  -- refused, the buffer is kept
  pub kept : (result_of o ≡ 0 → ⊥) → answer_after oq answer o ≡ answer

-- after the list the table is that of a state in which the same cells wait as in the PIFO switch, and which remembers
-- what that one remembers
abbrev pub SameTable : List ℕ → Fair Pifo → Type 0
SameTable table y = (x : Fair Switch) × (decode_fair_oq table ≡ some x) × SameState x y

-- call by call both answer alike
abbrev pub Alike : ℕ → List ℕ → Fair Pifo → List Call → Type 0
Alike ports table y [] = SameTable table y
Alike ports table y (c ∷ calls) =
    AnswersAlike ports c.answer (outcome table c) (shadow y c)
    × Alike ports (table_after oq table c.arrivals (outcome table c))
    (fair_after_pifo y (records_of c.arrivals) (shadow y c)) calls

-- for every N from 1 to 16, every first slot of 32 bits, any outputs below N fair, every buffer of sufficient length
-- and every list of calls
abbrev pub OqHostAlike : Type 0
OqHostAlike = (ports first marks : ℕ) (buffer : List ℕ) (calls : List Call)
    → ports_in_range ports ≡ true → fits32 first ≡ true → marks_in_range ports marks ≡ true → fair_size ≤ length buffer
    → all? lendable calls ≡ true
    → Alike ports (take fair_size (buffer_after fair_number_oq buffer (start_call ports first marks buffer)))
    (marked marks (fresh_pifo ports first)) calls
