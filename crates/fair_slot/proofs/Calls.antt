-- A slot call on what the host lends.
--     lent_runs, lent-refuses              what the slot leaves, and where something was found before its records
--     records-fit                          the records that are looked at have numbers of 32 bits
--     clear_room                           a slot that ran had room for its answer
--     slot-leaves                          what the call leaves, with the tally
use Prim.Native.Nat.{ℕ, zero, suc, ◌/◌, ◌≤◌, min}
use native.Mathlib.Omega.{arith}
use mathlib.Core.Bool.{Bool, true, false}
use mathlib.Core.Logic.{inl, inr}
use mathlib.Core.List.{List, [], ◌∷◌, ◌++◌}
use mathlib.Core.Option.{Option, none, some}
use mathlib.Core.Path.{◌≡◌, refl, sym, ap, ap₂, ◌∙◌, subst}
use borrow.Author.Tests.{ltb-false}
use lib.Dec.{ltb}
use lib.ListN.{length, take, drop}
use Rattle.laws.specs.Lists.{all?, count}
use Rattle.laws.proofs.Lists.{all?-nil, all?-cons}
use Rattle.laws.proofs.Tests.{and_i, and_l, and_r}
use Rattle.cell.specs.declared.Arrival.{Arrival}
use Rattle.cell.specs.declared.Cell.{Cell}
use Rattle.std.specs.Prelude.{Ok, Err}
use Rattle.cell.specs.Checked.{Checked, no_fault}
use Rattle.cell.specs.declared.Fault.{Fault}
use Rattle.cell.specs.declared.Tally.{Tally}
use Rattle.cell.specs.Cell.{arrival_fits}
use Rattle.cell.specs.Limits.{port_limit}
use Rattle.model.specs.Checks.{Outcome, done, refused, refusal_of}
use Rattle.model.specs.Crossbar.{Course, answer_of, run}
use Rattle.model.specs.Fair.{Fair, after_of, fair_slot}
use Rattle.model.specs.State.{Switch}
use Rattle.model.specs.Tally.{is_sent, after_run, arrival_count}
use Rattle.model.proofs.FairChecks.{becoming}
use Rattle.layout.specs.Answer.{answer_size, answer_bytes}
use Rattle.layout.specs.Arrivals.{arrival_size, arrivals_of, records_of, held_limit}
use Rattle.layout.specs.Frame.{is_fair_table}
use Rattle.layout.specs.Engine.{crossbar, lent_slot as lent_slot_of, table_after, answer_after, tally_after}
use Rattle.layout.specs.Fair.{decode_fair, fair_number, fair_bytes, fair_of}
use Rattle.layout.specs.Host.{filled}
use Rattle.layout.specs.TallyBytes.{tally_of, tally_bytes}
use Rattle.layout.proofs.Answer.{answer-parts}
use Rattle.layout.proofs.Arrivals.{length-arrivals_of, records_of-whole, records_of-some, records_of-fits}
use Rattle.layout.proofs.Fair.{is-table-with, decode_with-some}
use Rattle.layout.proofs.Limits.{length-departures}
use Rattle.layout.proofs.Number.{bytes?}
use Rattle.layout.proofs.Table.{sound-ports}
use Rattle.layout_answer.specs.Code.{sent_in}
use Rattle.layout_answer.proofs.Departures.{sent-departures}
use Rattle.layout_arrivals.proofs.Reading.{first-records}
use Rattle.layout_tally.specs.CodeCounted.{counted_by}
use Rattle.slot_faults.proofs.Faults.{clear-not}
use Rattle.fair_faults.specs.CodeFairFault.{fair_fault_in}
use Rattle.fair_faults.specs.Lent.{lent_fault}
use Rattle.fair_faults.proofs.Lent.{Lends, lent-refused, lent-called}
use Rattle.fair_faults.proofs.Slots.{fair-by-fault, fair-seventeen}
use Rattle.fair_slot.specs.Code.{lent_slot, LentLeaves, SlotLeaves, RanLeaves, table_ran}
use Rattle.fair_slot.proofs.Plain.{refused-not}

all?-take : {A : Type 0} (p : A → Bool) (n : ℕ) (l : List A) → all? p l ≡ true → all? p (take n l) ≡ true
all?-take p zero l h = all?-nil p
all?-take p (suc n) [] h = h
all?-take p (suc n) (a ∷ l) h =
    let both = sym (all?-cons p a l) ∙ h in
    all?-cons p a (take n l)
    ∙ and_i (p a) (all? p (take n l)) (and_l (p a) (all? p l) both) (all?-take p n l (and_r (p a) (all? p l) both))

------------------------------------------------------------------------
-- the slot

-- the table, the arrivals and the room are right
module _ (table arrivals answer : List ℕ)
    (clear : Lends (is_fair_table table) (length arrivals) (length answer) answer_size) where
  abbrev x : Fair Switch
  x = fair_of table

  abbrev every : List Arrival
  every = arrivals_of (length arrivals / arrival_size) arrivals

  few-ports : x.core.ports ≤ port_limit
  few-ports = sound-ports x.core (decode_with-some _ _ table x (is-table-with _ _ table clear.sound)).1

  module _ (records : List Arrival) (many : ℕ) (number : many ≡ min (length arrivals / arrival_size) held_limit)
      (read : take (min (length arrivals / arrival_size) held_limit) records
      ≡ arrivals_of (min (length arrivals / arrival_size) held_limit) arrivals)
    where
      first : take many records ≡ take held_limit every
      first = ap (λ k. take k records) number ∙ read ∙ first-records (length arrivals / arrival_size) arrivals

      pub records-fit : bytes? arrivals ≡ true → all? arrival_fits (take many records) ≡ true
      records-fit b =
          ap (all? arrival_fits) first
          ∙ all?-take arrival_fits held_limit every
          (records_of-fits arrivals every b (records_of-whole arrivals clear.whole))

      comes : lent_slot table arrivals (length answer) ≡ fair_slot x (some every)
      comes = lent-called crossbar table arrivals (length answer) clear

      -- all records are looked at, or the slot is refused
      whole-runs : (fault : Checked) (table' answer' : List ℕ)
          → RanLeaves (fair_slot x (some (take held_limit every))) (take held_limit every) table answer
          fault table' answer'
          → LentLeaves (fair_slot x (some every)) table arrivals answer fault table' answer'
      unfolding refusal_of table_ran table_after answer_after
      whole-runs fault table' answer' (f, (n, a)) =
          elim (fair-seventeen x.core x.memory every few-ports) [
            | inl e ↦ (
              f ∙ ap (λ l. refusal_of (fair_slot x (some l))) e,
              (
                n
                    ∙ ap (λ l. table_ran table l (fair_slot x (some l))) e
                    ∙ same-table (fair_slot x (some every)),
                a ∙ ap (λ l. answer_after crossbar answer (fair_slot x (some l))) e,
              ),
            )
            | inr (r, place, p, q) ↦
                let one : fair_slot x (some (take held_limit every)) ≡ refused r place =
                fair-by-fault run x (take held_limit every) ∙ rw p in
                let two : fair_slot x (some every) ≡ refused r place = fair-by-fault run x every ∙ rw q in
                rw two (
                  f ∙ ap refusal_of one,
                  (
                    n ∙ ap (table_ran table (take held_limit every)) one,
                    a ∙ ap (answer_after crossbar answer) one,
                  ),
                )
          ]
        where
          same-table : (o : Outcome Course) → table_ran table every o ≡ table_after crossbar table arrivals o
          same-table (done c) =
              ap (λ a. fair_bytes fair_number (after_of (λ d. d.departures) (λ d. d.switch) x a (done c)))
              (sym (records_of-whole arrivals clear.whole))
          same-table (refused r place) = refl

      pub lent_runs : (fault : Checked) (table' answer' : List ℕ)
          → RanLeaves (fair_slot x (some (take many records))) (take many records) table answer fault table' answer'
          → LentLeaves (lent_slot table arrivals (length answer)) table arrivals answer fault table' answer'
      lent_runs fault table' answer' h =
          rw comes
          (whole-runs fault table' answer'
          (subst (λ l. RanLeaves (fair_slot x (some l)) l table answer fault table' answer') first h))

-- something was found
pub lent-refuses : (table arrivals answer : List ℕ) (fault : Fault) (result : Checked)
    → lent_fault (is_fair_table table) (length arrivals) (length answer) answer_size ≡ Err fault
    → result ≡ Err fault
    → LentLeaves (lent_slot table arrivals (length answer)) table arrivals answer result table answer
unfolding refusal_of table_after answer_after
lent-refuses table arrivals answer fault result found e =
    rw (lent-refused crossbar table arrivals (length answer) fault found) (e, (refl, refl))

------------------------------------------------------------------------
-- a slot that ran

record Ran (table arrivals : List ℕ) (room : ℕ) (c : Course) : Type 0 where
  state : Fair Switch
  records : List Arrival
  sound : decode_fair table ≡ some state
  whole : records_of arrivals ≡ some records
  long : answer_size ≤ room
  runs : fair_slot state (some records) ≡ done c

ran : (table arrivals : List ℕ) (room : ℕ) (c : Course) → lent_slot table arrivals room ≡ done c
    → Ran table arrivals room c
unfolding lent_slot_of
ran table arrivals room c q = go (decode_fair table) refl (records_of arrivals) refl (ltb room answer_size) refl
  where
    go : (o : Option (Fair Switch)) → decode_fair table ≡ o → (a : Option (List Arrival)) → records_of arrivals ≡ a
        → (b : Bool) → ltb room answer_size ≡ b → Ran table arrivals room c
    go none e a f b l = absurd (refused-not (rw e at q))
    go (some s) e none f b l = absurd (refused-not (rw (e, f) at q))
    go (some s) e (some records) f true l = absurd (refused-not (rw (e, f, l, lent_slot_of) at q))
    go (some s) e (some records) f false l =
        record {
          state = s;
          records = records;
          sound = e;
          whole = f;
          long = ltb-false room answer_size l;
          runs = rw (e, f, l, lent_slot_of) at q;
        }

-- one departure for each output
run-outputs : (s : Switch) (cs : List Cell) → length (run s cs).departures ≡ s.ports
unfolding run
run-outputs s cs = length-departures s.ports _

ran-outputs : (x : Fair Switch) (records : List Arrival) (c : Course) → fair_slot x (some records) ≡ done c
    → length c.departures ≡ x.core.ports
ran-outputs x records c h = go (fair_fault_in x.core x.memory records) refl
  where
    go : (f : Checked) → fair_fault_in x.core x.memory records ≡ f → length c.departures ≡ x.core.ports
    go (Ok done_with) e =
        let cs = becoming x.core.clock x.memory records in
        let came : fair_slot x (some records) ≡ done (run x.core cs) = fair-by-fault run x records ∙ rw e in
        let same : run x.core cs ≡ c = cc in
        ap (λ d. length d.departures) (sym same) ∙ run-outputs x.core cs
    go (Err fault) e =
        let came : fair_slot x (some records) ≡ refused fault.refusal fault.place = fair-by-fault run x records ∙ rw e in
        absurd (refused-not (sym came ∙ h))

-- it had room for its answer
pub clear_room : (table arrivals : List ℕ) (room : ℕ) (f : Checked) → f ≡ refusal_of (lent_slot table arrivals room)
    → f ≡ no_fault → answer_size ≤ room
unfolding refusal_of
clear_room table arrivals room f e c = go (lent_slot table arrivals room) refl
  where
    go : (o : Outcome Course) → lent_slot table arrivals room ≡ o → answer_size ≤ room
    go (done d) q = (ran table arrivals room d q).long
    go (refused r place) q = absurd (clear-not (sym c ∙ e ∙ ap refusal_of q))

------------------------------------------------------------------------
-- the tally

module _ (table arrivals answer : List ℕ) (t : Tally) where
  -- as the definitions count
  counts : (o : Outcome Course) → lent_slot table arrivals (length answer) ≡ o
      → counted_by (refusal_of o) (length arrivals / arrival_size) (answer_after crossbar answer o) t
      ≡ tally_after crossbar (arrival_count (records_of arrivals)) o t
  unfolding counted_by refusal_of answer_after tally_after filled arrival_count sent_in answer_of
  counts (refused r place) q = refl
  counts (done c) q =
      let x = ran table arrivals (length answer) c q in
      let good = (decode_with-some _ _ table x.state x.sound).1 in
      let few : length c.departures ≤ port_limit =
      omega (arith, ran-outputs x.state x.records c x.runs, sound-ports x.state.core good) in
      let all = (records_of-some arrivals x.records x.whole).1 in
      let many : length arrivals / arrival_size ≡ arrival_count (records_of arrivals) =
      sym
      (ap arrival_count x.whole
      ∙ ap length (sym all)
      ∙ length-arrivals_of (length arrivals / arrival_size) arrivals) in
      let rest = drop (length (answer_bytes (answer_of c))) answer in
      let sent : sent_in (answer_bytes (answer_of c) ++ rest) ≡ count is_sent c.departures =
      ap sent_in (answer-parts (answer_of c) rest) ∙ sent-departures port_limit c.departures _ few in
      ap₂ (λ n k. after_run n k t) many sent

  -- what the call leaves, with the tally counted from it
  pub slot-leaves : (tally : List ℕ) (fault : Checked) (table' answer' tally' : List ℕ)
      → LentLeaves (lent_slot table arrivals (length answer)) table arrivals answer fault table' answer'
      → (after : Tally) → t ≡ tally_of tally → after ≡ counted_by fault (length arrivals / arrival_size) answer' t
      → tally' ≡ tally_bytes after
      → SlotLeaves (lent_slot table arrivals (length answer)) table arrivals answer tally fault table' answer' tally'
  slot-leaves tally fault table' answer' tally' (f, (n, a)) after b c w = (
    f,
    (
      n,
      (
        a,
        w
            ∙ ap tally_bytes
            (c
            ∙ ap₂ (λ p q. counted_by p (length arrivals / arrival_size) q t) f a
            ∙ counts _ refl
            ∙ ap (tally_after crossbar (arrival_count (records_of arrivals)) _) b),
      ),
    ),
  )
