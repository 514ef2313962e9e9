-- For every list of slot calls the output-queued switch answers on the bytes as the PIFO switch does: by induction over
-- the list, with the step on the definitions and the laws of the bytes. What is kept between calls: the table is that
-- of a state with N ports that the model's induction keeps beside the PIFO switch, and both remember the same.
--     oq-host-alike    any list, from the table that oq_start writes
use Prim.Native.Nat.{ℕ, ◌-◌, ◌≤◌}
use native.Mathlib.Omega.{arith}
use mathlib.Core.Bool.{true}
use mathlib.Core.List.{List, [], ◌∷◌, ◌++◌, map}
use mathlib.Core.Option.{Option, none, some}
use mathlib.Core.Path.{◌≡◌, refl, sym, ap, subst, ◌∙◌}
use borrow.Author.Tests.{leb-true, eqb-true}
use lib.Dec.{leb, eqb}
use lib.ListN.{length, take}
use Rattle.laws.specs.Lists.{all?}
use Rattle.laws.proofs.Lists.{all?-cons}
use Rattle.laws.proofs.Tests.{and_i, and_l, and_r}
use Rattle.cell.specs.declared.Arrival.{Arrival}
use Rattle.cell.specs.Limits.{port_limit, ports_in_range, fits32}
use Rattle.model.specs.Checks.{Outcome, done, refused, no_departures}
use Rattle.model.specs.Emulation.{lent}
use Rattle.model.specs.Fair.{Fair, make, marks_in_range, sound_memory, marked, slot_of, after_of, fair_slot_pifo, fair_after_pifo}
use Rattle.model.specs.Fair.{fair_slot_oq, fair_after_oq}
use Rattle.model.specs.Oq.{sound_oq, Served, run_oq, served_departures}
use Rattle.model.specs.Pifo.{Pifo, fresh_pifo, Sent}
use Rattle.model.specs.State.{Switch, fresh, cells}
use Rattle.model.proofs.FairChecks.{FairCalled, fair-run, fair-refusal, fair-called, slot-made-oq}
use Rattle.model.proofs.FairMemory.{memory-fresh}
use Rattle.model.proofs.FairRelated.{KeptFair, FairStep}
use Rattle.model.proofs.FairSound.{fair-fit, fair-sound-after-oq, fair-after-ports-oq, sound_with}
use Rattle.model.proofs.OqAlike.{KeptOq, kept-oq-fresh}
use Rattle.model.proofs.OqFair.{oq-follows, oq-step}
use Rattle.model.proofs.OqSound.{sound-oq-table}
use Rattle.model.proofs.Related.{related-same-waiting}
use Rattle.layout.specs.Answer.{departures_bytes, departures_in, departures_size}
use Rattle.layout.specs.Arrivals.{records_of}
use Rattle.layout.specs.Engine.{oq, start_call, buffer_after, table_after, answer_after}
use Rattle.layout.specs.Fair.{fair_number_oq, fair_size, fair_bytes, decode_fair_oq}
use Rattle.layout.specs.Host.{filled, result_of}
use Rattle.layout.specs.TallyBytes.{tally_size}
use Rattle.layout.proofs.Arrivals.{records_of-lent}
use Rattle.layout.proofs.Engine.{start_call-done, slot_call-arrivals, slot_call-slot}
use Rattle.layout.proofs.Fair.{length-fair_bytes, decode_with-some, decode_fair_oq-fair_bytes}
use Rattle.layout.proofs.Host.{take-filled, result-refused}
use Rattle.layout.proofs.Number.{is_byte, bytes?}
use Rattle.layout.proofs.OqRead.{outputs-served, bytes-served}
use Rattle.oq.specs.HostCalls.{Call, lendable, outcome, shadow, AnswersAlike, Alike, OqHostAlike}
use Rattle.oq.proofs.Held.{same_answer}

-- what a call that can be lent is
parts : (c : Call) → lendable c ≡ true
    → (bytes? c.arrivals ≡ true) × (departures_size ≤ length c.answer) × (length c.tally ≡ tally_size)
unfolding lendable bytes? is_byte
parts c h =
    let room : leb departures_size (length c.answer) ≡ true = search (and_l, and_r) in
    let tally : eqb (length c.tally) tally_size ≡ true = search (and_l, and_r) in
    (search and_l, leb-true departures_size (length c.answer) room, eqb-true (length c.tally) tally_size tally)

-- such a call comes to the slot's own outcome
call-slot : (table : List ℕ) (x : Fair Switch) (c : Call) → decode_fair_oq table ≡ some x → lendable c ≡ true
    → outcome table c ≡ fair_slot_oq x (records_of c.arrivals)
unfolding slot_of
call-slot table x c t h = go (records_of c.arrivals) refl
  where
    go : (o : Option (List Arrival)) → records_of c.arrivals ≡ o
        → outcome table c ≡ fair_slot_oq x (records_of c.arrivals)
    go none e = slot_call-arrivals oq table c.arrivals c.answer c.tally e ∙ sym (ap (fair_slot_oq x) e)
    go (some records) e =
        slot_call-slot oq table c.arrivals c.answer c.tally x records t e (parts c h).2 (parts c h).1
        ∙ sym (ap (fair_slot_oq x) e)

-- the table after the call is that of the switch after it
decode-after : (table arrivals : List ℕ) (x : Fair Switch) (o : Outcome Served) → decode_fair_oq table ≡ some x
    → sound_with sound_oq (fair_after_oq x (records_of arrivals) o) ≡ true
    → decode_fair_oq (table_after oq table arrivals o) ≡ some (fair_after_oq x (records_of arrivals) o)
unfolding table_after after_of
decode-after table arrivals x (done d) t h =
    let after : Fair Switch = fair_after_oq x (records_of arrivals) (done d) in
    ap (λ y. decode_fair_oq (fair_bytes fair_number_oq (fair_after_oq y (records_of arrivals) (done d))))
    (sym (decode_with-some fair_number_oq sound_oq table x t).3)
    ∙ decode_fair_oq-fair_bytes after (and_l (sound_oq after.core) _ h) (and_r (sound_oq after.core) _ h)
decode-after table arrivals x (refused r place) t h = t

-- what the host reads of a slot that ran
outputs-fair : (x : Fair Switch) → sound_oq x.core ≡ true → (a : Option (List Arrival)) → lent a ≡ true
    → (answer : List ℕ) (d : Served) → fair_slot_oq x a ≡ done d
    → departures_in port_limit (answer_after oq answer (done d)) ≡ d.departures ++ no_departures (port_limit - x.core.ports)
unfolding slot_of lent
outputs-fair x good none l answer d e =
    let never : ◌≡◌ {A = ℕ} 0 1 = cc in
    absurd (omega arith)
outputs-fair x good (some records) l answer d e = go (fair-called (λ s. s.ports) (λ s. s.clock) cells run_oq x records)
  where
    go : FairCalled (λ s. s.ports) (λ s. s.clock) cells run_oq x records
        → departures_in port_limit (answer_after oq answer (done d)) ≡ d.departures ++ no_departures (port_limit - x.core.ports)
    go (fair-run ticks clear f) =
        ap (departures_in port_limit) (sym (same_answer answer (done d)))
        ∙ outputs-served x.core good (some (map (make x.memory) records)) (fair-fit x records l clear) answer d
        (sym (slot-made-oq x records clear) ∙ e)
    go (fair-refusal r place f) =
        let never : ◌≡◌ {A = ℕ} 0 1 = cc in
        absurd (omega arith)

-- both answer alike on the bytes where they do on the definitions
module _ (x : Fair Switch) (y : Fair Pifo) (a : Option (List Arrival)) (good : sound_oq x.core ≡ true)
    (l : lent a ≡ true) (answer : List ℕ) where
  abbrev Step : Outcome Served → Outcome Sent → Type 0
  Step o p = FairStep run_oq (λ c. c.departures) (λ c. c.switch) served_departures KeptOq oq-follows x y a o p

  answers : (o : Outcome Served) (p : Outcome Sent) → fair_slot_oq x a ≡ o → Step o p
      → AnswersAlike x.core.ports answer o p
  unfolding result_of answer_after served_departures
  answers (done d) p e h =
      record {
        refusals = h.refusals;
        outputs = λ _.
            outputs-fair x good a l answer d e
            ∙ ap (λ ds. ds ++ no_departures (port_limit - x.core.ports)) (h.sent x.core.ports);
        bytes = λ _.
            ap (take departures_size) (sym (same_answer answer (done d)))
            ∙ bytes-served answer d
            ∙ ap (departures_bytes port_limit) (h.sent x.core.ports);
        kept = λ n. absurd (n refl);
      }
  answers (refused r place) p e h =
      record {
        refusals = h.refusals;
        outputs = λ z. absurd (result-refused Served r place z);
        bytes = λ z. absurd (result-refused Served r place z);
        kept = λ _. refl;
      }

-- What is kept between calls: the table is that of a state that stands beside the PIFO switch.
record Stands (ports : ℕ) (table : List ℕ) (x : Fair Switch) (y : Fair Pifo) : Type 0 where
  switch : decode_fair_oq table ≡ some x
  kept : KeptFair KeptOq x y
  its-ports : x.core.ports ≡ ports

module _ (ports : ℕ) (table : List ℕ) (x : Fair Switch) (y : Fair Pifo) (st : Stands ports table x y) (c : Call)
    (h : lendable c ≡ true) where
  abbrev a : Option (List Arrival)
  a = records_of c.arrivals

  whole : lent a ≡ true
  whole = records_of-lent c.arrivals (parts c h).0

  called : outcome table c ≡ fair_slot_oq x a
  called = call-slot table x c st.switch h

  stepped : Step x y a st.kept.cores.table whole c.answer (fair_slot_oq x a) (fair_slot_pifo y a)
  stepped = oq-step x y st.kept a whole

  answered : AnswersAlike ports c.answer (outcome table c) (shadow y c)
  answered =
      subst (λ n. AnswersAlike n c.answer (outcome table c) (shadow y c)) st.its-ports
      (rw called
      (answers x y a st.kept.cores.table whole c.answer (fair_slot_oq x a) (fair_slot_pifo y a) refl stepped))

  sound-next : sound_with sound_oq (fair_after_oq x a (fair_slot_oq x a)) ≡ true
  sound-next =
      let s = decode_with-some fair_number_oq sound_oq table x st.switch in
      fair-sound-after-oq x a whole (and_i (sound_oq x.core) _ s.1 s.2)

  stands-next : Stands ports (table_after oq table c.arrivals (outcome table c)) (fair_after_oq x a (fair_slot_oq x a))
      (fair_after_pifo y a (shadow y c))
  stands-next =
      record {
        switch =
            ap (λ o. decode_fair_oq (table_after oq table c.arrivals o)) called
            ∙ decode-after table c.arrivals x (fair_slot_oq x a) st.switch sound-next;
        kept = stepped.kept;
        its-ports = fair-after-ports-oq x a ∙ st.its-ports;
      }

alike : (ports : ℕ) (table : List ℕ) (x : Fair Switch) (y : Fair Pifo) → Stands ports table x y
    → (calls : List Call) → all? lendable calls ≡ true → Alike ports table y calls
alike ports table x y st [] h = (
  x,
  st.switch,
  (related-same-waiting x.core y.core st.kept.cores.related, st.kept.memories),
)
alike ports table x y st (c ∷ calls) h =
    let both = rw (all?-cons lendable c calls) at h in
    let mine = and_l (lendable c) (all? lendable calls) both in (
      answered ports table x y st c mine,
      alike ports (table_after oq table c.arrivals (outcome table c))
          (fair_after_oq x (records_of c.arrivals) (fair_slot_oq x (records_of c.arrivals)))
          (fair_after_pifo y (records_of c.arrivals) (shadow y c)) (stands-next ports table x y st c mine) calls
          (and_r (lendable c) (all? lendable calls) both),
    )

-- what oq_start leaves is the table of a fresh switch
started : (ports first marks : ℕ) (buffer : List ℕ) → ports_in_range ports ≡ true → fits32 first ≡ true
    → marks_in_range ports marks ≡ true → fair_size ≤ length buffer
    → decode_fair_oq (take fair_size (buffer_after fair_number_oq buffer (start_call ports first marks buffer)))
    ≡ some (marked marks (fresh ports first))
unfolding buffer_after marked fresh
started ports first marks buffer p f m room =
    let x : Fair Switch = marked marks (fresh ports first) in
    let cells-sound : sound_oq x.core ≡ true = (kept-oq-fresh ports first p f).table in
    let memory : sound_memory x.core.ports x.memory ≡ true = memory-fresh ports marks m in
    ap (λ o. decode_fair_oq (take fair_size (buffer_after fair_number_oq buffer o)))
    (start_call-done ports first marks buffer p m room)
    ∙ ap (λ n. decode_fair_oq (take n (filled (fair_bytes fair_number_oq x) buffer)))
    (sym (length-fair_bytes fair_number_oq x (sound-oq-table x.core cells-sound) memory))
    ∙ ap decode_fair_oq (take-filled (fair_bytes fair_number_oq x) buffer)
    ∙ decode_fair_oq-fair_bytes x cells-sound memory

pub oq-host-alike : OqHostAlike
unfolding marked fresh
oq-host-alike ports first marks buffer calls p f m room h =
    alike ports _ (marked marks (fresh ports first)) (marked marks (fresh_pifo ports first))
    (record {
      switch = started ports first marks buffer p f m room;
      kept = record { cores = kept-oq-fresh ports first p f; memories = refl };
      its-ports = refl;
    })
    calls h
