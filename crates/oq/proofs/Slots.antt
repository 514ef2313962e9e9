-- A slot call on what the host lends.
--     lent-held, lent-refuses              what the slot leaves, and where something was found before its records
--     clear_room                           a slot that ran had room for its answer
--     slot-tally, slot-called              what the call answers and leaves
use Prim.Native.Nat.{ℕ, zero, suc, ◌+◌, ◌*◌, ◌/◌, ◌≤◌, min}
use native.Mathlib.Omega.{arith}
use mathlib.Core.Bool.{Bool, true, false}
use mathlib.Core.Logic.{inl, inr}
use mathlib.Core.List.{List, [], ◌∷◌, map}
use mathlib.Core.Option.{Option, none, some}
use mathlib.Core.Path.{◌≡◌, refl, sym, ap, ap₂, ◌∙◌, subst}
use borrow.Author.Tests.{ltb-false}
use lib.Dec.{ltb}
use lib.ListN.{length, take}
use Rattle.cell.specs.declared.Arrival.{Arrival}
use Rattle.cell.specs.Cell.{arrival_fits}
use Rattle.cell.specs.Checked.{Checked, no_fault}
use Rattle.cell.specs.declared.Fault.{Fault}
use Rattle.cell.specs.declared.Refusal.{Refusal}
use Rattle.cell.specs.declared.Refusal.TheVariants.{BrokenTable}
use Rattle.laws.specs.Lists.{all?}
use Rattle.laws.proofs.Lists.{all?-nil, all?-cons}
use Rattle.laws.proofs.Tests.{and_i, and_l, and_r}
use Rattle.std.specs.Prelude.{Err}
use Rattle.cell.specs.declared.Tally.{Tally}
use Rattle.cell.specs.Limits.{port_limit}
use Rattle.cell.specs.Refusal.{number}
use Rattle.model.specs.Checks.{Outcome, done, refused, refusal_of}
use Rattle.model.specs.Fair.{Fair, make, fair_slot_oq}
use Rattle.model.specs.Oq.{Served, sound_oq, run_oq}
use Rattle.model.specs.State.{Switch, cells}
use Rattle.model.specs.Tally.{after_run, arrival_count}
use Rattle.model.proofs.FairChecks.{FairCalled, fair-run, fair-refusal, fair-called, slot-made-oq}
use Rattle.model.proofs.OqSound.{sound-oq-table}
use Rattle.layout.specs.Answer.{departures_size}
use Rattle.layout.specs.Arrivals.{arrival_size, arrivals_of, records_of, held_limit}
use Rattle.layout.specs.CodeFair.{is_fair_oq_table}
use Rattle.layout.specs.Engine.{oq, lent_slot, slot_call, table_after, answer_after, tally_after, CallLeaves}
use Rattle.layout.specs.Fair.{fair_number_oq, fair_of, decode_fair_oq}
use Rattle.layout.specs.Host.{fault_result, filled, result_of}
use Rattle.layout.specs.TallyBytes.{tally_size, tally_of, tally_bytes}
use Rattle.layout.proofs.Arrivals.{length-arrivals_of, records_of-whole, records_of-some, records_of-fits}
use Rattle.layout.proofs.Engine.{slot_call-tally, tally_bytes_after-broken}
use Rattle.layout.proofs.Engine.{tally_bytes_after-counts}
use Rattle.layout.proofs.Fair.{decode_with-some, is-table-with}
use Rattle.layout.proofs.Host.{result-fault}
use Rattle.layout.proofs.OqRead.{served-outputs}
use Rattle.layout.proofs.Number.{bytes?}
use Rattle.layout.proofs.Table.{sound-ports}
use Rattle.layout_answer.specs.Code.{sent_in}
use Rattle.layout_answer.proofs.Departures.{sent-departures}
use Rattle.layout_arrivals.proofs.Reading.{first-records}
use Rattle.layout_tally.specs.CodeCounted.{counted_by}
use Rattle.slot_faults.proofs.Faults.{clear-not}
use Rattle.fair_faults.specs.Lent.{lent_fault}
use Rattle.fair_faults.proofs.Lent.{Lends, lent-refused, lent-called}
use Rattle.oq.specs.Code.{lent_call, LentLeaves, table_held, HeldLeaves}
use Rattle.oq.proofs.Held.{first-tell}

------------------------------------------------------------------------
-- the slot

-- the table after a slot with the records that were lent
same-table : (table arrivals : List ℕ) (records : List Arrival) → records_of arrivals ≡ some records
    → (o : Outcome Served) → table_held table records o ≡ table_after oq table arrivals o
unfolding table_held table_after
same-table table arrivals records e (done d) = rw e refl
same-table table arrivals records e (refused r place) = refl

all?-take : {A : Type 0} (p : A → Bool) (n : ℕ) (l : List A) → all? p l ≡ true → all? p (take n l) ≡ true
all?-take p zero l h = all?-nil p
all?-take p (suc n) [] h = h
all?-take p (suc n) (x ∷ l) h =
    all?-cons p x (take n l)
    ∙ and_i (p x) (all? p (take n l)) (and_l _ _ (sym (all?-cons p x l) ∙ h))
    (all?-take p n l (and_r (p x) (all? p l) (sym (all?-cons p x l) ∙ h)))

few-ports : (table : List ℕ) → is_fair_oq_table table ≡ true → (fair_of table).core.ports ≤ port_limit
few-ports table t =
    let h = decode_with-some fair_number_oq sound_oq table _ (is-table-with fair_number_oq sound_oq table t) in
    sound-ports (fair_of table).core (sound-oq-table (fair_of table).core h.1)

-- the table, the arrivals and the room are right, and the slot was taken with the first records
module _ (table arrivals answer : List ℕ) (clear : Lends (is_fair_oq_table table) (length arrivals) (length answer) departures_size)
    (records : List Arrival) (many : ℕ) (count : many ≡ min (length arrivals / arrival_size) held_limit)
    (read : take (min (length arrivals / arrival_size) held_limit) records
    ≡ arrivals_of (min (length arrivals / arrival_size) held_limit) arrivals) where
  abbrev lent : List Arrival
  lent = arrivals_of (length arrivals / arrival_size) arrivals

  firsts : take many records ≡ take held_limit lent
  firsts = ap (λ k. take k records) count ∙ read ∙ first-records (length arrivals / arrival_size) arrivals

  called : lent_call table arrivals (length answer) ≡ fair_slot_oq (fair_of table) (some lent)
  called = lent-called oq table arrivals (length answer) clear

  pub lent-held : (fault : Checked) (table' answer' : List ℕ)
      → HeldLeaves table (take many records) answer fault table' answer'
      → LentLeaves (lent_call table arrivals (length answer)) table arrivals answer fault table' answer'
  unfolding table_held table_after
  lent-held fault table' answer' held =
      elim (first-tell (fair_of table) lent (few-ports table clear.sound)) [
        | inl e ↦
            let h : HeldLeaves table lent answer fault table' answer' =
            subst (λ l. HeldLeaves table l answer fault table' answer') (firsts ∙ e) held in
            rw called (
              h.0,
              (
                h.1.0
                    ∙ same-table table arrivals lent (records_of-whole arrivals clear.whole)
                    (fair_slot_oq (fair_of table) (some lent)),
                h.1.1,
              ),
            )
        | inr a ↦
            let h : HeldLeaves table (take held_limit lent) answer fault table' answer' =
            subst (λ l. HeldLeaves table l answer fault table' answer') firsts held in
            rw (called, a.all) (
              h.0 ∙ ap refusal_of a.first,
              (
                h.1.0 ∙ ap (table_held table (take held_limit lent)) a.first,
                h.1.1 ∙ ap (answer_after oq answer) a.first,
              ),
            )
      ]

  -- they fit
  pub firsts-fit : bytes? arrivals ≡ true → all? arrival_fits (take many records) ≡ true
  firsts-fit b =
      ap (all? arrival_fits) firsts
      ∙ all?-take arrival_fits held_limit lent (records_of-fits arrivals lent b (records_of-whole arrivals clear.whole))

-- something was found
pub lent-refuses : (table arrivals answer : List ℕ) (fault : Fault) (result : Checked)
    → lent_fault (is_fair_oq_table table) (length arrivals) (length answer) departures_size ≡ Err fault
    → result ≡ Err fault
    → LentLeaves (lent_call table arrivals (length answer)) table arrivals answer result table answer
unfolding refusal_of table_after answer_after
lent-refuses table arrivals answer fault result found e =
    rw (lent-refused oq table arrivals (length answer) fault found) (e, (refl, refl))

------------------------------------------------------------------------
-- a slot that ran

record Ran (table arrivals : List ℕ) (room : ℕ) (d : Served) : Type 0 where
  state : Fair Switch
  records : List Arrival
  sound : decode_fair_oq table ≡ some state
  whole : records_of arrivals ≡ some records
  long : departures_size ≤ room
  runs : fair_slot_oq state (some records) ≡ done d

refused-not : {r : Refusal} {place : ℕ} {d : Served} → refused r place ≡ done d → ⊥
refused-not e = let z : ◌≡◌ {A = ℕ} 0 1 = cc in omega arith

ran : (table arrivals : List ℕ) (room : ℕ) (d : Served) → lent_call table arrivals room ≡ done d
    → Ran table arrivals room d
unfolding lent_slot
ran table arrivals room d q = go (decode_fair_oq table) refl (records_of arrivals) refl (ltb room departures_size) refl
  where
    go : (o : Option (Fair Switch)) → decode_fair_oq table ≡ o → (a : Option (List Arrival)) → records_of arrivals ≡ a
        → (b : Bool) → ltb room departures_size ≡ b → Ran table arrivals room d
    go none e a f b l = absurd (refused-not (rw e at q))
    go (some x) e none f b l = absurd (refused-not (rw (e, f) at q))
    go (some x) e (some records) f true l = absurd (refused-not (rw (e, f, l, lent_slot) at q))
    go (some x) e (some records) f false l =
        record {
          state = x;
          records = records;
          sound = e;
          whole = f;
          long = ltb-false room departures_size l;
          runs = rw (e, f, l, lent_slot) at q;
        }

-- it had room for its answer
pub clear_room : (table arrivals : List ℕ) (room : ℕ) (f : Checked) → f ≡ refusal_of (lent_call table arrivals room)
    → f ≡ no_fault → departures_size ≤ room
unfolding refusal_of
clear_room table arrivals room f e c = go (lent_call table arrivals room) refl
  where
    go : (o : Outcome Served) → lent_call table arrivals room ≡ o → departures_size ≤ room
    go (done d) q = (ran table arrivals room d q).long
    go (refused r place) q = absurd (clear-not (sym c ∙ e ∙ ap refusal_of q))

-- it sent a cell or none at each output
ran-outputs : (x : Fair Switch) (records : List Arrival) (d : Served) → fair_slot_oq x (some records) ≡ done d
    → length d.departures ≡ x.core.ports
ran-outputs x records d q = go (fair-called (λ s. s.ports) (λ s. s.clock) cells run_oq x records)
  where
    go : FairCalled (λ s. s.ports) (λ s. s.clock) cells run_oq x records → length d.departures ≡ x.core.ports
    go (fair-run ticks clear e) =
        served-outputs x.core (some (map (make x.memory) records)) d (sym (slot-made-oq x records clear) ∙ q)
    go (fair-refusal r place e) = absurd (refused-not (sym e ∙ q))

------------------------------------------------------------------------
-- the tally

module _ (table arrivals answer : List ℕ) (t : Tally) where
  -- as the definitions count
  counts : (o : Outcome Served) → lent_call table arrivals (length answer) ≡ o
      → counted_by (refusal_of o) (length arrivals / arrival_size) (answer_after oq answer o) t
      ≡ tally_after oq (arrival_count (records_of arrivals)) o t
  unfolding counted_by refusal_of answer_after tally_after filled arrival_count sent_in
  counts (refused r place) q = refl
  counts (done d) q =
      let x = ran table arrivals (length answer) d q in
      let good = (decode_with-some fair_number_oq sound_oq table x.state x.sound).1 in
      let few : length d.departures ≤ port_limit =
      omega (
        arith,
        ran-outputs x.state x.records d x.runs,
        sound-ports x.state.core (sound-oq-table x.state.core good),
      ) in
      let all = (records_of-some arrivals x.records x.whole).1 in
      let many : length arrivals / arrival_size ≡ arrival_count (records_of arrivals) =
      sym
      (ap arrival_count x.whole
      ∙ ap length (sym all)
      ∙ length-arrivals_of (length arrivals / arrival_size) arrivals) in
      ap₂ (λ n k. after_run n k t) many (sent-departures port_limit d.departures _ few)

------------------------------------------------------------------------
-- the call

module _ (table arrivals answer tally : List ℕ) where
  abbrev outcome : Outcome Served
  outcome = slot_call oq table arrivals answer tally

  -- 2: a tally of another length is kept
  pub slot-tally : (length tally ≡ tally_size → ⊥) → (result : ℕ) → result ≡ number BrokenTable
      → CallLeaves oq outcome table arrivals answer tally result table answer tally
  unfolding result_of table_after answer_after
  slot-tally h result r =
      rw (slot_call-tally oq table arrivals answer tally h) (
        let k : result ≡ 2 + 256 * 0 = omega arith in k,
        (refl, (refl, sym (tally_bytes_after-broken oq arrivals tally (refused BrokenTable 0) h))),
      )

  module _ (size : length tally ≡ tally_size) where
    same-call : outcome ≡ lent_call table arrivals (length answer)
    unfolding slot_call
    same-call = ap (lent_slot oq (decode_fair_oq table) (records_of arrivals) (length answer)) size

    pub slot-called : (fault : Checked) (table' answer' tally' : List ℕ)
        → LentLeaves (lent_call table arrivals (length answer)) table arrivals answer fault table' answer'
        → (before after : Tally) → before ≡ tally_of tally
        → after ≡ counted_by fault (length arrivals / arrival_size) answer' before → tally' ≡ tally_bytes after
        → (result : ℕ) → result ≡ fault_result fault
        → CallLeaves oq outcome table arrivals answer tally result table' answer' tally'
    slot-called fault table' answer' tally' (f, (n, a)) before after b c w result r =
        rw same-call (
          r ∙ ap fault_result f ∙ result-fault _,
          (
            n,
            (
              a,
              w
                  ∙ ap tally_bytes
                  (c
                  ∙ ap₂ (λ x y. counted_by x (length arrivals / arrival_size) y before) f a
                  ∙ counts table arrivals answer before _ refl
                  ∙ ap (tally_after oq (arrival_count (records_of arrivals)) _) b)
                  ∙ sym (tally_bytes_after-counts oq arrivals tally _ size),
            ),
          ),
        )
