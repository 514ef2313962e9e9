-- What comes of a slot whose records have been taken, as the code answers it.
--     refused-, ran-table and -answer    the table and the answer's buffer
--     refused-slot, ran-slot             what a slot answers
--     refused-ended, ran-ended           the same with the cells that leave
--     ended-ran, ended-refused           what is made of that: the answer, and the tally
use Rattle.std.proofs.Common.{◌≡◌, ℕ, ◌≤◌, true, false, List, Result, Ok, Err, length, refl, sym, ap, ◌∙◌, subst, arith}
use Rattle.laws.specs.Lists.{count, up_to}
use Rattle.cell.specs.Checked.{Checked, no_fault}
use Rattle.cell.specs.Limits.{port_limit}
use Rattle.cell.specs.declared.Fault.{Fault}
use Rattle.cell.specs.declared.Tally.{Tally}
use Rattle.model.specs.Checks.{Outcome, done, refused, refusal_of}
use Rattle.model.specs.Crossbar.{Course, answer_of, departures_of}
use Rattle.model.specs.Tally.{is_sent, tally_after}
use Rattle.layout.specs.Answer.{answer_bytes}
use Rattle.layout.specs.Host.{filled, table_after, answer_after}
use Rattle.layout.specs.Table.{state_of, encode, IsTable}
use Rattle.layout.proofs.Table.{sound-ports}
use Rattle.slot_view.proofs.Placed.{length-numbers}
use Rattle.layout_answer.specs.Code.{sent_in}
use Rattle.layout_answer.proofs.Departures.{sent-filled}
use Rattle.layout_tally.specs.Counted.{counted_as}
use Rattle.slot_faults.proofs.Stored.{table-sound}
use Rattle.slot_course.specs.Code.{course_of}
use Rattle.slot_call.specs.CodeEnded.{ended_of}

------------------------------------------------------------------------
-- a slot that is turned back

module _ (o : Outcome Course) (fault : Fault) (e : o ≡ refused fault.refusal fault.place) where
  pub refused-slot : (checked : Checked) → checked ≡ Err fault → checked ≡ refusal_of o
  unfolding refusal_of
  refused-slot checked f = rw e f

  pub refused-ended : (ended : Result ℕ Fault) → ended ≡ Err fault → ended ≡ ended_of o
  unfolding ended_of
  refused-ended ended f = rw e f

  pub refused-table : (table new : List ℕ) → new ≡ table → new ≡ table_after table o
  unfolding table_after
  refused-table table new f = rw e f

  pub refused-answer : (answer : List ℕ) → answer ≡ answer_after answer o
  unfolding answer_after
  refused-answer answer = rw e refl

------------------------------------------------------------------------
-- a slot that runs, from the table after its arrivals

module _ (table : List ℕ) (o : Outcome Course) (e : o ≡ done (course_of (state_of table))) where
  pub ran-slot : no_fault ≡ refusal_of o
  unfolding refusal_of
  ran-slot = rw e refl

  pub ran-table : (old new : List ℕ) → new ≡ encode (course_of (state_of table)).switch → new ≡ table_after old o
  unfolding table_after
  ran-table old new f = rw e f

  pub ran-answer : (answer new : List ℕ) → new ≡ filled (answer_bytes (answer_of (course_of (state_of table)))) answer
      → new ≡ answer_after answer o
  unfolding answer_after
  ran-answer answer new f = rw e f

  -- each port sends a cell or none
  few-departures : IsTable table → length (course_of (state_of table)).departures ≤ port_limit
  unfolding course_of departures_of up_to
  few-departures t =
      let few : (state_of table).ports ≤ port_limit = sound-ports (state_of table) (table-sound table t) in
      subst (λ k. k ≤ port_limit) (sym (length-numbers _ 0 (state_of table).ports)) few

  pub ran-ended : IsTable table → (answer new : List ℕ) (sent : ℕ)
      → new ≡ filled (answer_bytes (answer_of (course_of (state_of table)))) answer → sent ≡ sent_in new
      → Ok sent ≡ ended_of o
  unfolding ended_of
  ran-ended t answer new sent f d =
      let out : sent ≡ count is_sent (course_of (state_of table)).departures =
      d ∙ ap sent_in f ∙ sent-filled (course_of (state_of table)) answer (few-departures t) in
      rw e (ap Ok out)

------------------------------------------------------------------------
-- what is made of it

-- it ran, and its tally is the one with these departures
pub ended-ran : (o : Outcome Course) (sent : ℕ) → Ok sent ≡ ended_of o
    → (no_fault ≡ refusal_of o) × ((n : ℕ) (t : Tally) → counted_as true n sent t ≡ tally_after n o t)
unfolding ended_of refusal_of counted_as tally_after
ended-ran (done c) sent e =
    let same : sent ≡ count is_sent c.departures = cc in (refl, λ n t. ap (λ k. counted_as true n k t) same)
ended-ran (refused r place) sent e = let z : ◌≡◌ {A = ℕ} 0 1 = cc in absurd (omega arith)

-- it was turned back
pub ended-refused : (o : Outcome Course) (fault : Fault) → Err fault ≡ ended_of o
    → (Err fault ≡ refusal_of o) × ((n : ℕ) (t : Tally) → counted_as false n 0 t ≡ tally_after n o t)
unfolding ended_of refusal_of counted_as tally_after
ended-refused (done c) fault e = let z : ◌≡◌ {A = ℕ} 0 1 = cc in absurd (omega arith)
ended-refused (refused r place) fault e =
    let same : ◌≡◌ {A = Fault} fault (record { refusal = r; place = place }) = cc in (ap Err same, λ n t. refl)
