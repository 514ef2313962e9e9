-- A block's slot, by its outcome: what it writes, and what the table is then.
--     course-left, served-left     what a slot of each engine leaves
--     slot-stopped, slot-ran       from what the slot on held records leaves to what a turn asks of it
--     played-stopped, played-ran   and back, by the answer
use Prim.Native.Nat.{ℕ, ◌≤◌}
use native.Mathlib.Omega.{arith}
use mathlib.Core.Bool.{true}
use mathlib.Core.List.{List, ◌++◌}
use mathlib.Core.Option.{Option, some}
use mathlib.Core.Path.{◌≡◌, refl, sym, ap, ◌∙◌}
use lib.ListN.{length, take}
use lib.Seq.{take_at}
use Rattle.cell.specs.declared.Arrival.{Arrival}
use Rattle.cell.specs.declared.Cell.{Cell}
use Rattle.std.specs.Prelude.{Err}
use Rattle.cell.specs.Checked.{Checked, no_fault}
use Rattle.cell.specs.declared.Fault.{Fault}
use Rattle.cell.specs.declared.Refusal.{Refusal}
use Rattle.cell.specs.Cell.{arrival_fits}
use Rattle.cell.specs.Limits.{port_limit}
use Rattle.laws.specs.Lists.{all?}
use Rattle.model.specs.Checks.{Outcome, done, refused, refusal_of}
use Rattle.model.specs.Crossbar.{answer_of, slot}
use Rattle.model.specs.Oq.{slot_oq}
use Rattle.model.specs.State.{Switch}
use Rattle.trace.specs.declared.Key.TheVariants.{Slot}
use Rattle.trace.specs.Line.{line}
use Rattle.trace.specs.Lines.{departures_text, refusal_text}
use Rattle.layout.specs.Answer.{answer_size, departures_bytes, departures_in, departures_size}
use Rattle.layout.specs.Host.{filled, table_after, answer_after}
use Rattle.layout.specs.Table.{state_of, encode}
use Rattle.layout.proofs.Answer.{length-departures_bytes, answer-parts}
use Rattle.layout.proofs.OqRead.{bytes-served}
use Rattle.slot_records.specs.Records.{records_slot}
use Rattle.slot_records.proofs.Looking.{lent-slot}
use Rattle.slot_call.specs.CodeEnded.{SoundLeaves}
use Rattle.oq_slot.specs.Code.{ServedLeaves, table_served}
use Rattle.player_text.specs.Player.{line_of, crossbar, oq}
use Rattle.player_text.proofs.SameText.{seen}
use Rattle.player_turns.specs.declared.Engine.{Engine}
use Rattle.player_turns.specs.declared.Engine.TheVariants.{Crossbar, Oq}
use Rattle.player_turns.specs.declared.Played.{Played}
use Rattle.player_turns.specs.declared.Played.TheVariants.{Ran, Stopped}
use Rattle.player_lines.specs.Writing.{Wrote}
use Rattle.player_turns.specs.Turns.{machine_of, TableOf}
use Rattle.player_turns.specs.Code.{table_taken, SlotLeft, slot_text, played_of, SlotPlayed}
use Rattle.player_turns.proofs.Engines.{table_is, table-sound, went}
use Rattle.player_lines.proofs.Sent.{departures-taken}

-- what a slot of each engine leaves

module _ {A : Type 0} (f : A → List (Option Cell) × Switch) (table table' answer' : List ℕ) where
  -- where it ran
  record Made (x : A) : Type 0 where
    switch : table' ≡ encode (f x).1
    departures : take departures_size answer' ≡ departures_bytes port_limit (f x).0

  seen-left : (o : Outcome A) (checked : Checked) → checked ≡ refusal_of o → ((x : A) → o ≡ done x → Made x)
      → ((r : Refusal) (place : ℕ) → o ≡ refused r place → table' ≡ table)
      → SlotLeft (seen f o) table checked table' answer'
  unfolding refusal_of table_taken
  seen-left (done x) checked e ran kept =
      let made = ran x refl in
      record {
        refusal = e;
        switch = made.switch;
        departures = λ y g. let same : f x ≡ y = cc in rw (← same) made.departures;
      }
  seen-left (refused r place) checked e ran kept =
      record { refusal = e; switch = kept r place refl; departures = λ y g. cc }

module _ (engine : Engine) (table answer : List ℕ) (rs : List Arrival) (checked : Checked) (table' answer' : List ℕ) where
  pub course-left : engine ≡ Crossbar → TableOf engine table → answer_size ≤ length answer
      → SoundLeaves (records_slot table (length answer) rs) table answer checked table' answer'
      → SlotLeft ((machine_of engine).slot (state_of table) rs) table checked table' answer'
  unfolding machine_of crossbar table_after answer_after answer_of filled
  course-left is good room leaves =
      let (e, (t, a)) = rw (lent-slot table (length answer) (table_is engine table good) room rs) at leaves in
      rw is
      (seen-left (λ c. (c.departures, c.switch)) table table' answer' (slot (state_of table) (some rs)) checked e
      (λ c o. record {
        switch = rw o at t;
        departures =
            ap (take departures_size) ((rw o at a) ∙ answer-parts (answer_of c) _)
            ∙ take_at (departures_bytes port_limit c.departures) _ departures_size
            (length-departures_bytes port_limit c.departures);
      })
      (λ r place o. rw o at t))

  pub served-left : engine ≡ Oq → ServedLeaves (slot_oq (state_of table) (some rs)) table answer checked table' answer'
      → SlotLeft ((machine_of engine).slot (state_of table) rs) table checked table' answer'
  unfolding machine_of oq table_served
  served-left is (e, (t, a)) =
      rw is
      (seen-left (λ d. (d.departures, d.switch)) table table' answer' (slot_oq (state_of table) (some rs)) checked e
      (λ d o. record {
        switch = rw o at t;
        departures = ap (take departures_size) (rw o at a) ∙ bytes-served answer d;
      })
      (λ r place o. rw o at t))

-- the fault of an outcome tells it
outcome-at : {A : Type 0} (o : Outcome A) {fault : Fault} → Err fault ≡ refusal_of o → o ≡ refused fault.refusal fault.place
unfolding refusal_of
outcome-at (done c) e = cc
outcome-at (refused s p) {fault} e =
    let told : Fault = record { refusal = s; place = p } in
    let same : fault ≡ told = cc in
    ap (λ f. refused f.refusal f.place) (sym same)

outcome-clear : {A : Type 0} (o : Outcome A) → no_fault ≡ refusal_of o → (x : A) × (o ≡ done x)
unfolding refusal_of
outcome-clear (done x) e = (x, refl)
outcome-clear (refused s p) e =
    let never : ◌≡◌ {A = ℕ} 0 1 = cc in
    absurd (omega arith)

module _ (engine : Engine) (table : List ℕ) (good : TableOf engine table) (held rs : List Arrival) (same : held ≡ rs)
    (clock l : ℕ) (buffer : List ℕ) (found : Checked) (table' answer' : List ℕ)
    (left : SlotLeft ((machine_of engine).slot (state_of table) held) table found table' answer') where
  abbrev outcome : Outcome (List (Option Cell) × Switch)
  outcome = (machine_of engine).slot (state_of table) rs

  here : SlotLeft outcome table found table' answer'
  here = rw same at left

  pub slot-stopped : {fault : Fault} → found ≡ Err fault → (buffer' : List ℕ) (n k : ℕ) → k ≡ line_of l fault.place
      → Wrote (refusal_text fault.refusal k) buffer buffer' n
      → SlotPlayed outcome clock l table buffer table' buffer' (Stopped n)
  unfolding slot_text played_of
  slot-stopped {fault} f buffer' n k m w =
      let o : outcome ≡ refused fault.refusal fault.place = outcome-at outcome (sym f ∙ here.refusal) in
      let x : Wrote (slot_text clock l (refused fault.refusal fault.place)) buffer buffer' n = rw m at w in
      record {
        result = ap Stopped x.count ∙ sym (ap (played_of clock l) o);
        bytes = x.bytes ∙ sym (ap (λ o. filled (slot_text clock l o) buffer) o);
        switch = here.switch;
      }

  pub slot-ran : all? arrival_fits rs ≡ true → found ≡ no_fault → (buffer' : List ℕ) (n : ℕ)
      → Wrote (line Slot clock ++ departures_text (departures_in 16 answer')) buffer buffer' n
      → SlotPlayed outcome clock l table buffer table' buffer' (Ran n)
  unfolding slot_text played_of
  slot-ran fits f buffer' n w =
      let (x, o) = outcome-clear outcome (sym f ∙ here.refusal) in
      let g = went engine (state_of table) (table-sound engine table good) rs fits o in
      let sent : departures_text (departures_in 16 answer') ≡ departures_text x.0 =
      departures-taken x.0 answer' (here.departures x o) g.few g.fit in
      let y : Wrote (slot_text clock l (done x)) buffer buffer' n = rw sent at w in
      record {
        result = ap Ran y.count ∙ sym (ap (played_of clock l) o);
        bytes = y.bytes ∙ sym (ap (λ o. filled (slot_text clock l o) buffer) o);
        switch = here.switch;
      }

-- what the answer tells

module _ (clock l : ℕ) (o : Outcome (List (Option Cell) × Switch)) {table buffer table' buffer' : List ℕ} {r : Played}
    (p : SlotPlayed o clock l table buffer table' buffer' r) {n : ℕ} where
  pub played-stopped : r ≡ Stopped n
      → (why : Refusal) × (place : ℕ) × (o ≡ refused why place) × (table' ≡ table)
      × Wrote (refusal_text why (line_of l place)) buffer buffer' n
  unfolding played_of slot_text table_taken
  played-stopped h = go o refl
    where
      go : (x : Outcome (List (Option Cell) × Switch)) → o ≡ x
          → (why : Refusal) × (place : ℕ) × (o ≡ refused why place) × (table' ≡ table)
          × Wrote (refusal_text why (line_of l place)) buffer buffer' n
      go (done c) e =
          let never : ◌≡◌ {A = ℕ} 0 1 = cc (p.result ∙ ap (played_of clock l) e) in
          absurd (omega arith)
      go (refused why place) e =
          let size : n ≡ length (refusal_text why (line_of l place)) = cc (p.result ∙ ap (played_of clock l) e) in (
            why,
            place,
            e,
            p.switch ∙ ap (table_taken table) e,
            record { bytes = p.bytes ∙ ap (λ o. filled (slot_text clock l o) buffer) e; count = size },
          )

  pub played-ran : r ≡ Ran n
      → (x : List (Option Cell) × Switch) × (o ≡ done x) × (table' ≡ encode x.1)
      × Wrote (line Slot clock ++ departures_text x.0) buffer buffer' n
  unfolding played_of slot_text table_taken
  played-ran h = go o refl
    where
      go : (x : Outcome (List (Option Cell) × Switch)) → o ≡ x
          → (x : List (Option Cell) × Switch) × (o ≡ done x) × (table' ≡ encode x.1)
          × Wrote (line Slot clock ++ departures_text x.0) buffer buffer' n
      go (refused why place) e =
          let never : ◌≡◌ {A = ℕ} 0 1 = cc (p.result ∙ ap (played_of clock l) e) in
          absurd (omega arith)
      go (done x) e =
          let size : n ≡ length (line Slot clock ++ departures_text x.0) =
          cc (p.result ∙ ap (played_of clock l) e) in (
            x,
            e,
            p.switch ∙ ap (table_taken table) e,
            record { bytes = p.bytes ∙ ap (λ o. filled (slot_text clock l o) buffer) e; count = size },
          )
