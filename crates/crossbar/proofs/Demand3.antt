-- Demand 3 on the bytes: by induction over the list, with demand 3's step on the definitions and the laws of the bytes.
-- What is kept between calls: the table is that of a state with N ports and the store that of cues with such states,
-- which the model's induction keeps beside the PIFO switch and its cues. A slot that ran is one of the cells alone, of
-- the records with the ranks made (`below`), so its answer is read as without a fair output.
use Prim.Native.Nat.{ℕ, ◌-◌, ◌≤◌}
use mathlib.Core.Bool.{true, ◌&&◌}
use mathlib.Core.List.{List, [], ◌∷◌, ◌++◌, map}
use mathlib.Core.Option.{Option, none, some}
use mathlib.Core.Path.{◌≡◌, refl, sym, ap, subst, ◌∙◌}
use lib.Dec.{ltb, leb, eqb}
use lib.ListN.{length, take, drop, get_or}
use lib.Seq.{take_at}
use borrow.Author.Tests.{leb-true, eqb-true, ne_eqb}
use Rattle.laws.specs.Lists.{all?}
use Rattle.laws.proofs.Lists.{all?-cons}
use Rattle.laws.proofs.Tests.{and_i, and_l, and_r}
use Rattle.cell.specs.declared.Arrival.{Arrival}
use Rattle.cell.specs.declared.Refusal.TheVariants.{BrokenTable}
use Rattle.cell.specs.Limits.{port_limit, ports_in_range, fits32}
use Rattle.model.specs.Checks.{Outcome, done, refused, refusal, no_departures}
use Rattle.model.specs.Crossbar.{Course, answer_of, refused_answer, slot_answer, slot, run}
use Rattle.model.specs.Cues.{Cues, no_cues, set_cue, drop_cue, return_to, sound_cues}
use Rattle.model.specs.Emulation.{lent, Agree}
use Rattle.model.specs.Emulation as Model
use Rattle.model.specs.Fair.{Fair, marked, is_fair, marks_in_range, sound_memory, slot_of, fair_slot, fair_after}
use Rattle.model.specs.Fair.{after_of}
use Rattle.model.specs.Pifo.{Pifo, fresh_pifo, Sent}
use Rattle.model.specs.Rehearsal as Calls
use Rattle.model.specs.Rehearsal.{Rehearsal, begun, left, next, crossbar_after, shadow_after}
use Rattle.model.specs.Sound.{sound}
use Rattle.model.specs.State.{Switch, fresh, cells}
use Rattle.model.proofs.CueLaws.{Both, both-begun, agree-next, agree-map, set-refusal, drop-refusal, return-refusal}
use Rattle.model.proofs.CueSound.{set-sound, drop-sound, return-sound, no-cues-sound}
use Rattle.model.proofs.Demand3.{KeptRanks, StepRanks, step-ranks, kept_same, ranks-fresh}
use Rattle.model.proofs.FairChecks.{FairCalled, fair-run, fair-refusal, fair-called, slot-made}
use Rattle.model.proofs.FairSound.{Sure, made, fair-fit, fair-after-ports}
use Rattle.layout.specs.Answer.{departures_bytes, answer_bytes, answer_size, answer_read, departures_size}
use Rattle.layout.specs.Arrivals.{records_of}
use Rattle.layout.specs.Cues.{store_size, store_bytes, decode_store, store_call, store_buffer, set_call, return_call}
use Rattle.layout.specs.Cues.{store_after, table_returned, sound_fair, fair_cues}
use Rattle.layout.specs.Engine.{crossbar, start_call, buffer_after, table_after, answer_after}
use Rattle.layout.specs.Fair.{fair_number, fair_size, fair_bytes, fair_of, decode_fair}
use Rattle.layout.specs.Host.{result_of, filled}
use Rattle.layout.specs.Host as Host
use Rattle.layout.specs.TallyBytes.{tally_size}
use Rattle.layout.proofs.Answer.{length-departures_bytes, answer-parts}
use Rattle.layout.proofs.Arrivals.{records_of-lent}
use Rattle.layout.proofs.Cues.{fair-fit as cues-fit, sound_fair-core, sound_fair-memory, store_call-done, set_call-cues}
use Rattle.layout.proofs.Cues.{drop_call-cues, return_call-cues}
use Rattle.layout.proofs.Engine.{start_call-done, slot_call-arrivals, slot_call-slot}
use Rattle.layout.proofs.Fair.{length-fair_bytes, decode_with-some, decode_fair-fair_bytes}
use Rattle.layout.proofs.Host.{take-filled, result-refused}
use Rattle.layout.proofs.Number.{is_byte, bytes?}
use Rattle.layout.proofs.Read.{answer-read, outputs-read}
use Rattle.layout.proofs.Stores.{length-store_bytes, decode_store-store_bytes, decode_store-some}
use Rattle.crossbar.specs.HostCalls.{Slot, Call, takes, sets, drops, returns, lendable, callable, outcome, shadow}
use Rattle.crossbar.specs.HostCalls.{given, table_next, store_next, AnswersAlike, NeverFalls, CallAlike, Alike}
use Rattle.crossbar.specs.HostCalls.{Demand3}

-- what a slot call that can be lent is
parts : (c : Slot) → lendable c ≡ true
    → (bytes? c.arrivals ≡ true) × (answer_size ≤ length c.answer) × (length c.tally ≡ tally_size)
unfolding lendable bytes? is_byte
parts c h =
    let rest = and_r (all? (λ b. ltb b 256) c.arrivals) (leb answer_size (length c.answer) && eqb (length c.tally) tally_size) h in (
      and_l (all? (λ b. ltb b 256) c.arrivals) (leb answer_size (length c.answer) && eqb (length c.tally) tally_size) h,
      leb-true answer_size (length c.answer) (and_l (leb answer_size (length c.answer)) (eqb (length c.tally) tally_size) rest),
      eqb-true (length c.tally) tally_size (and_r (leb answer_size (length c.answer)) (eqb (length c.tally) tally_size) rest),
    )

-- such a call comes to the slot's own outcome
call-slot : (table : List ℕ) (x : Fair Switch) (c : Slot) → decode_fair table ≡ some x → lendable c ≡ true
    → outcome table c ≡ fair_slot x (records_of c.arrivals)
unfolding slot_of
call-slot table x c t h = go (records_of c.arrivals) refl
  where
    go : (o : Option (List Arrival)) → records_of c.arrivals ≡ o
        → outcome table c ≡ fair_slot x (records_of c.arrivals)
    go none e = slot_call-arrivals crossbar table c.arrivals c.answer c.tally e ∙ sym (ap (fair_slot x) e)
    go (some records) e =
        slot_call-slot crossbar table c.arrivals c.answer c.tally x records t e (parts c h).2 (parts c h).1
        ∙ sym (ap (fair_slot x) e)

-- and its records are of 32 bits
call-lent : (c : Slot) → lendable c ≡ true → lent (records_of c.arrivals) ≡ true
call-lent c h = records_of-lent c.arrivals (parts c h).0

-- the answer's departures are those of the slot
answer-departures : (answer : List ℕ) (c : Course)
    → take departures_size (answer_after crossbar answer (done c)) ≡ departures_bytes port_limit c.departures
unfolding answer_after answer_of filled
answer-departures answer c =
    ap (take departures_size) (answer-parts (answer_of c) (drop (length (answer_bytes (answer_of c))) answer))
    ∙ take_at (departures_bytes port_limit c.departures) _ departures_size (length-departures_bytes port_limit c.departures)

-- the state of a table is the one that its bytes would stand for
table-state : (table : List ℕ) (x : Fair Switch) → decode_fair table ≡ some x → fair_of table ≡ x
table-state table x t = sym (decode_with-some fair_number sound table x t).3

-- the table after the call is that of the switch after it
decode-after : (table : List ℕ) (x : Fair Switch) (arrivals : List ℕ) (o : Outcome Course) → decode_fair table ≡ some x
    → Sure (fair_after x (records_of arrivals) o)
    → decode_fair (table_after crossbar table arrivals o) ≡ some (fair_after x (records_of arrivals) o)
unfolding table_after after_of
decode-after table x arrivals (done c) t h =
    ap (λ y. decode_fair (fair_bytes fair_number (fair_after y (records_of arrivals) (done c)))) (table-state table x t)
    ∙ decode_fair-fair_bytes (fair_after x (records_of arrivals) (done c)) h.table h.memory
decode-after table x arrivals (refused r place) t h = t

-- a slot that ran is one of the cells alone, of the records with the ranks made
below : (x : Fair Switch) (a : Option (List Arrival)) → lent a ≡ true → (c : Course) → fair_slot x a ≡ done c
    → (made : List Arrival) × (slot x.core (some made) ≡ done c) × (lent (some made) ≡ true)
unfolding slot_of lent result_of
below x none l c e = absurd (result-refused Course BrokenTable 0 (ap result_of e))
below x (some records) l c e = go (fair-called (λ s. s.ports) (λ s. s.clock) cells run x records)
  where
    go : FairCalled (λ s. s.ports) (λ s. s.clock) cells run x records
        → (made : List Arrival) × (slot x.core (some made) ≡ done c) × (lent (some made) ≡ true)
    go (fair-run ticks clear runs) = (made x records, sym (slot-made x records clear) ∙ e, fair-fit x records l clear)
    go (fair-refusal r place refuses) = absurd (result-refused Course r place (ap result_of (sym refuses ∙ e)))

-- both answer alike on the bytes where they do on the definitions
module _ (x : Fair Switch) (good : sound x.core ≡ true) (a : Option (List Arrival)) (l : lent a ≡ true)
    (answer : List ℕ) where
  answers : (o : Outcome Course) (p : Outcome Sent) → fair_slot x a ≡ o → Model.AnswersAlike x.core.ports o p
      → AnswersAlike x.core.ports answer o p
  unfolding result_of answer_after Host.answer_after answer_of slot_answer answer_read refused_answer
  answers (done c) p e h =
      let m = below x a l c e in
      record {
        refusals = h.refusals;
        departures =
            ap (λ r. r.departures) (answer-read x.core (some m.0) good m.2 answer (done c) m.1)
            ∙ h.departures;
        outputs = λ _.
            outputs-read x.core (some m.0) good m.2 answer c m.1
            ∙ ap (λ ds. ds ++ no_departures (port_limit - x.core.ports)) h.departures;
        bytes = λ _. answer-departures answer c ∙ ap (departures_bytes port_limit) h.departures;
        kept = λ n. absurd (n refl);
      }
  answers (refused r place) p e h =
      let never = result-refused Course r place in
      let ports : ℕ = x.core.ports in
      let read : answer_read ports (result_of {A = Course} (refused r place)) answer ≡ refused_answer ports =
      rw (ne_eqb _ 0 never, answer_read) in
      record {
        refusals = h.refusals;
        departures = ap (λ y. y.departures) read ∙ h.departures;
        outputs = λ z. absurd (never z);
        bytes = λ z. absurd (never z);
        kept = λ _. refl;
      }

-- What is kept of a switch and its shadow: what the model keeps, and N.
abbrev Beside : ℕ → Fair Switch → Fair Pifo → Type 0
Beside ports x y = KeptRanks x y × (x.core.ports ≡ ports)

beside-step : (ports : ℕ) (x : Fair Switch) (y : Fair Pifo) (a : Option (List Arrival))
    → Model.callable (Calls.takes a) ≡ true → Beside ports x y → Beside ports (crossbar_after x a) (shadow_after y a)
unfolding Model.callable
beside-step ports x y a l h = ((step-ranks x y h.0 a l).kept, fair-after-ports x a ∙ h.1)

-- What is kept between calls: table and store are those of a rehearsal that stands beside the PIFO switch's.
record Stands (ports : ℕ) (table store : List ℕ) (x : Rehearsal (Fair Switch)) (y : Rehearsal (Fair Pifo)) : Type 0
  where
    switch : decode_fair table ≡ some x.switch
    cues : decode_store store ≡ some x.cues
    both : Both (Beside ports) x y

-- the store after a call, and the table after a return, are those of what the cues say
store-after : (store : List ℕ) (cues : Cues (Fair Switch)) (o : Outcome (Cues (Fair Switch)))
    → decode_store store ≡ some cues → ((new : Cues (Fair Switch)) → o ≡ done new → sound_cues sound_fair new ≡ true)
    → decode_store (store_after store o) ≡ some (left cues o)
unfolding store_after left
store-after store cues (done new) d h = decode_store-store_bytes fair_cues cues-fit new (h new refl)
store-after store cues (refused r place) d h = d

table-returned : (table : List ℕ) (x : Fair Switch) (o : Outcome (Fair Switch)) → decode_fair table ≡ some x
    → ((new : Fair Switch) → o ≡ done new → sound_fair new ≡ true)
    → decode_fair (table_returned table o) ≡ some (left x o)
unfolding table_returned left
table-returned table x (done new) d h =
    let good = h new refl in
    decode_fair-fair_bytes new (sound_fair-core new good) (sound_fair-memory new good)
table-returned table x (refused r place) d h = d

-- the model's call is one that it takes
given-callable : (c : Call) → callable c ≡ true → Model.callable (given c) ≡ true
unfolding callable given Model.callable
given-callable (takes c) h = call-lent c h
given-callable (sets name) h = refl
given-callable (drops name) h = refl
given-callable (returns name) h = refl

module _ (ports : ℕ) (table store : List ℕ) (x : Rehearsal (Fair Switch)) (y : Rehearsal (Fair Pifo))
    (st : Stands ports table store x y) where
  s : Fair Switch
  s = x.switch

  kept : KeptRanks s y.switch
  unfolding s
  kept = st.both.switches.0

  agree : Agree (Beside ports) x.cues y.cues
  agree = st.both.cues

  sounds : sound_cues sound_fair x.cues ≡ true
  sounds = (decode_store-some fair_cues store x.cues st.cues).0

  sets-cue : (name : List ℕ) → set_call table store name ≡ set_cue name s x.cues
  unfolding s
  sets-cue name = set_call-cues table store name x.switch x.cues st.switch st.cues

  returns_to : (name : List ℕ) → return_call table store name ≡ return_to name x.cues
  returns_to name = return_call-cues table store name x.switch x.cues st.switch st.cues

  -- a slot call comes to what the model says of it
  slot_step : (c : Slot) → lendable c ≡ true → StepRanks s y.switch (records_of c.arrivals)
  slot_step c h = step-ranks s y.switch kept (records_of c.arrivals) (call-lent c h)

  never-falls : (c : Slot) → lendable c ≡ true → NeverFalls table c
  unfolding s
  never-falls c h records k e falls =
      let named = ap (fair_slot x.switch) (sym e) ∙ sym (call-slot table x.switch c st.switch h) ∙ falls in
      let never = subst (λ a. Model.NeverFalls x.switch a) e (slot_step c h).falls in
      ap (λ z. is_fair z.memory (get_or (map (λ a. a.output) records) k 0))
      (table-state table x.switch st.switch)
      ∙ never k named

  answered : (c : Call) → callable c ≡ true → CallAlike ports table store y c
  unfolding callable s
  answered (takes c) h =
      let e = call-slot table s c st.switch h in
      let r = slot_step c h in (
        subst (λ k. AnswersAlike k c.answer (outcome table c) (shadow y.switch c)) st.both.switches.1
            (answers s kept.sure.table (records_of c.arrivals) (call-lent c h) c.answer (outcome table c)
            (shadow y.switch c) (sym e)
            (subst (λ o. Model.AnswersAlike s.core.ports o (shadow y.switch c)) (sym e)
            (r.answers s.core.ports))),
        subst Model.Within (sym e) r.limits,
        never-falls c h,
      )
  answered (sets name) h =
      ap refusal (sets-cue name)
      ∙ set-refusal (Beside ports) name x.cues y.cues agree x.switch y.switch
  answered (drops name) h =
      ap refusal (drop_call-cues store name x.cues st.cues)
      ∙ drop-refusal (Beside ports) name x.cues y.cues agree
  answered (returns name) h =
      ap refusal (returns_to name) ∙ return-refusal (Beside ports) name x.cues y.cues agree

  table-next : (c : Call) → callable c ≡ true
      → decode_fair (table_next table store c) ≡ some (next crossbar_after x (given c)).switch
  unfolding callable table_next next given s
  table-next (takes c) h =
      let a = records_of c.arrivals in
      ap (λ o. decode_fair (table_after crossbar table c.arrivals o)) (call-slot table s c st.switch h)
      ∙ decode-after table s c.arrivals (fair_slot s a) st.switch (slot_step c h).kept.sure
  table-next (sets name) h = st.switch
  table-next (drops name) h = st.switch
  table-next (returns name) h =
      ap (λ o. decode_fair (table_returned table o)) (returns_to name)
      ∙ table-returned table s (return_to name x.cues) st.switch
      (λ new e. return-sound sound_fair name x.cues new sounds e)

  table-sound : sound_fair s ≡ true
  unfolding s sound_fair
  table-sound =
      and_i (sound x.switch.core) (sound_memory x.switch.core.ports x.switch.memory)
      kept.sure.table kept.sure.memory

  store-next : (c : Call) → decode_store (store_next table store c) ≡ some (next crossbar_after x (given c)).cues
  unfolding store_next next given s
  store-next (takes c) = st.cues
  store-next (sets name) =
      ap (λ o. decode_store (store_after store o)) (sets-cue name)
      ∙ store-after store x.cues (set_cue name s x.cues) st.cues
      (λ new e. set-sound sound_fair name s x.cues new sounds table-sound e)
  store-next (drops name) =
      ap (λ o. decode_store (store_after store o)) (drop_call-cues store name x.cues st.cues)
      ∙ store-after store x.cues (drop_cue name x.cues) st.cues
      (λ new e. drop-sound sound_fair name x.cues new sounds e)
  store-next (returns name) = st.cues

  stands-next : (c : Call) → callable c ≡ true
      → Stands ports (table_next table store c) (store_next table store c)
      (next crossbar_after x (given c)) (next shadow_after y (given c))
  stands-next c h =
      record {
        switch = table-next c h;
        cues = store-next c;
        both =
            agree-next (Beside ports) Model.callable crossbar_after shadow_after (beside-step ports) x y (given c)
            (given-callable c h) st.both;
      }

alike : (ports : ℕ) (table store : List ℕ) (x : Rehearsal (Fair Switch)) (y : Rehearsal (Fair Pifo))
    → Stands ports table store x y → (calls : List Call) → all? callable calls ≡ true → Alike ports table store y calls
alike ports table store x y st [] h =
    let same : (s : Fair Switch) (q : Fair Pifo) → Beside ports s q → Model.SameState s q =
    λ s q b. kept_same s q b.0 in (
      x,
      st.switch,
      st.cues,
      same x.switch y.switch st.both.switches,
      agree-map (Beside ports) Model.SameState same x.cues y.cues st.both.cues,
    )
alike ports table store x y st (c ∷ calls) h =
    let both = rw (all?-cons callable c calls) at h in
    let mine = and_l (callable c) (all? callable calls) both in (
      answered ports table store x y st c mine,
      alike ports (table_next table store c) (store_next table store c) (next crossbar_after x (given c))
          (next shadow_after y (given c)) (stands-next ports table store x y st c mine) calls
          (and_r (callable c) (all? callable calls) both),
    )

-- what start leaves is the table of a fresh switch, marked
started : (ports first marks : ℕ) (buffer : List ℕ) → ports_in_range ports ≡ true → fits32 first ≡ true
    → marks_in_range ports marks ≡ true → fair_size ≤ length buffer
    → decode_fair (take fair_size (buffer_after fair_number buffer (start_call ports first marks buffer)))
    ≡ some (marked marks (fresh ports first))
unfolding buffer_after
started ports first marks buffer p f m room =
    let x : Fair Switch = marked marks (fresh ports first) in
    let sure : Sure x = (ranks-fresh ports first marks p f m).sure in
    ap (λ o. decode_fair (take fair_size (buffer_after fair_number buffer o)))
    (start_call-done ports first marks buffer p m room)
    ∙ ap (λ n. decode_fair (take n (filled (fair_bytes fair_number x) buffer)))
    (sym (length-fair_bytes fair_number x sure.table sure.memory))
    ∙ ap decode_fair (take-filled (fair_bytes fair_number x) buffer)
    ∙ decode_fair-fair_bytes x sure.table sure.memory

-- what cue_start leaves is the store with no cue held
store-started : (buffer : List ℕ) → store_size ≤ length buffer
    → decode_store (take store_size (store_buffer buffer (store_call buffer))) ≡ some no_cues
unfolding store_buffer
store-started buffer room =
    let sure : sound_cues sound_fair no_cues ≡ true = no-cues-sound sound_fair in
    ap (λ o. decode_store (take store_size (store_buffer buffer o))) (store_call-done buffer room)
    ∙ ap (λ n. decode_store (take n (filled (store_bytes no_cues) buffer)))
    (sym (length-store_bytes fair_cues cues-fit no_cues sure))
    ∙ ap decode_store (take-filled (store_bytes no_cues) buffer)
    ∙ decode_store-store_bytes fair_cues cues-fit no_cues sure

pub demand-3 : Demand3
unfolding fresh begun marked
demand-3 ports first marks buffer store_room calls p f m room more h =
    let x = marked marks (fresh ports first) in
    let y = marked marks (fresh_pifo ports first) in
    alike ports _ _ (begun x) (begun y)
    (record {
      switch = started ports first marks buffer p f m room;
      cues = store-started store_room more;
      both = both-begun (Beside ports) x y (ranks-fresh ports first marks p f m, refl);
    })
    calls h
