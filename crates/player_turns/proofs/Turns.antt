-- The turns by their kinds.
--     header-short, -refused, -open               at the header
--     next_more, -end, -bad, -stopped, -ran       at a block or the end
--     rests                                       behind the end
--     block_size                                  how many arrivals and lines a block has
use Prim.Native.Nat.{ℕ, ◌+◌, ◌*◌, ◌≤◌}
use native.Mathlib.Omega.{arith}
use mathlib.Core.Bool.{Bool, true, false}
use mathlib.Core.List.{List, [], ◌∷◌, ◌++◌, append-nil}
use mathlib.Core.Option.{Option}
use mathlib.Core.Path.{◌≡◌, refl, sym, ap, ap₂, subst, ◌∙◌}
use lib.ListN.{length, drop, length-drop, drop_of_length-le}
use lib.Seq.{length-sets, sets-eq}
use Rattle.cell.specs.declared.Arrival.{Arrival}
use Rattle.cell.specs.declared.Refusal.{Refusal}
use Rattle.cell.specs.declared.Refusal.TheVariants.{BadLine}
use Rattle.cell.specs.Cell.{arrival_fits}
use Rattle.laws.specs.Lists.{all?}
use Rattle.cell.specs.declared.Cell.{Cell}
use Rattle.model.specs.Checks.{Outcome, done}
use Rattle.model.specs.Sound.{sound}
use Rattle.model.specs.State.{Switch, fresh}
use Rattle.trace.specs.declared.Answer.{Answer}
use Rattle.trace.specs.declared.Answer.TheVariants.{Slot as SlotBlock, End as EndBlock, Bad, More}
use Rattle.trace.specs.declared.Key.TheVariants.{Ports, First, Slot, End}
use Rattle.trace.specs.declared.Opening.{Opening}
use Rattle.trace.specs.declared.Opening.TheVariants.{Open, Refused, Short}
use Rattle.trace.specs.Flat.{arrival_at, arrivals_from}
use Rattle.trace.specs.Line.{line}
use Rattle.trace.specs.Piece.{known, decided, next_in, header_in, numbers_of, answer_of, opening_of}
use Rattle.trace.specs.Reader.{from, next}
use Rattle.trace.specs.Reader.{slot_ahead, header}
use Rattle.trace.proofs.Blocks.{block_fits-e, next-exact}
use Rattle.trace.proofs.Flat.{length-numbers_of}
use Rattle.trace.proofs.RoundTrip.{header-exact}
use Rattle.trace.specs.Lines.{departures_text, refusal_text}
use Rattle.trace_reader.specs.Reading.{numbers_after, stored}
use Rattle.trace_reader.proofs.Answered.{opening-open-e, opening-refused-e, opening-short-e}
use Rattle.trace_reader.proofs.Answered.{Ahead, answer-slot-e, answer-end-e, answer-bad-e, answer-more-e}
use Rattle.trace_reader.proofs.Answers.{header_in-more, header_in-known, next_in-more, next_in-known, opening-short, block_more}
use Rattle.trace_reader.proofs.Pieces.{next-line}
use Rattle.layout.specs.Entry.{clock_in}
use Rattle.layout.specs.Host.{filled}
use Rattle.layout.specs.Table.{encode, state_of, table_size}
use Rattle.layout.proofs.Table.{decode-length, encode-clock, length-encode, sound-clock, state_of-encode, encode-decode}
use Rattle.player_text.proofs.SameText.{header-first}
use Rattle.player_turns.specs.declared.Engine.{Engine}
use Rattle.player_turns.specs.declared.Played.{Played}
use Rattle.player_turns.specs.declared.Played.TheVariants.{Ran, Stopped}
use Rattle.player_turns.specs.declared.Stage.{Stage}
use Rattle.player_turns.specs.declared.Stage.TheVariants.{Opening as OpeningStage, Playing, Ended, TurnedBack}
use Rattle.player_text.specs.Player.{line_of}
use Rattle.player_text.specs.Turn.{Standing, playing, ended, turned_back, Turn, ending, slot_turn, next_turn, header_turn, turn}
use Rattle.player_lines.specs.Writing.{Wrote}
use Rattle.player_turns.specs.Turns.{machine_of, TableOf, standing, line_at, table_then, Stands}
use Rattle.player_turns.specs.Code.{Turned, Closed, SlotPlayed}
use Rattle.player_turns.proofs.Engines.{sound_of, sound-of, table_is, table-sound, table-made, fresh-of, fresh-sound}
use Rattle.player_turns.proofs.Engines.{ticks-of, went}
use Rattle.player_turns.proofs.Slots.{played-stopped, played-ran}

-- the player's table is that of its switch
pub table_stays : (engine : Engine) (stage : Stage) (l : ℕ) (table : List ℕ) → Stands engine stage l table
    → table_then (standing stage l table) table ≡ table
unfolding table_then standing
table_stays engine OpeningStage l table h = refl
table_stays engine Playing l table h = encode-decode table (state_of table) (table_is engine table (h.good refl))
table_stays engine Ended l table h = refl
table_stays engine TurnedBack l table h = refl

-- a stage at the end, and where the player stands then
pub data At : Stage → Standing → Type 0 where
  at-end : At Ended ended
  at-refusal : At TurnedBack turned_back

at-standing : {end : Stage} {over : Standing} → At end over → (l : ℕ) (table : List ℕ) → standing end l table ≡ over
unfolding standing
at-standing at-end l table = refl
at-standing at-refusal l table = refl

at_table : {end : Stage} {over : Standing} → At end over → (table : List ℕ) → table_then over table ≡ table
unfolding table_then
at_table at-end table = refl
at_table at-refusal table = refl

at-plays : {end : Stage} {over : Standing} → At end over → end ≡ Playing → ⊥
at-plays at-end e = let z : ◌≡◌ {A = ℕ} 0 1 = cc in omega arith
at-plays at-refusal e = let z : ◌≡◌ {A = ℕ} 0 1 = cc in omega arith

at-line : {end : Stage} {over : Standing} → At end over → 0 ≡ line_at over
unfolding line_at
at-line at-end = refl
at-line at-refusal = refl

at-stands : (engine : Engine) {end : Stage} {over : Standing} → At end over → (table : List ℕ) → length table ≡ table_size
    → Stands engine end 0 table
at-stands engine at table size =
    record {
      size = size;
      number = at-line at ∙ ap line_at (sym (at-standing at 0 table));
      good = λ e. absurd (at-plays at e);
      few = λ e. absurd (at-plays at e);
    }

------------------------------------------------------------------------
-- three kinds of turns, whatever they play

module _ (engine : Engine) (T : Turn) (text table buffer : List ℕ) where
  -- it waits for more text
  waits : (stage : Stage) (l : ℕ) → T ≡ record { written = []; left = text; after = standing stage l table }
      → Stands engine stage l table
      → Turned engine T text table buffer table buffer stage l 0 0
  unfolding filled
  waits stage l e s =
      subst (λ T. Turned engine T text table buffer table buffer stage l 0 0) (sym e)
      (record {
        wrote = record { bytes = refl; count = refl };
        used = omega arith;
        left = refl;
        after = refl;
        stands = s;
        table = sym (table_stays engine stage l table s);
      })

  -- it is the last one
  ends : {end : Stage} {over : Standing} → At end over → (t buffer' : List ℕ) (stage : Stage) (l used n m : ℕ)
      → T ≡ ending over t text → length table ≡ table_size → Wrote t buffer buffer' n → Closed end n stage l used m
      → Turned engine T text table buffer table buffer' stage l used m
  unfolding ending
  ends at t buffer' stage l used n m e size w c =
      subst (λ T. Turned engine T text table buffer table buffer' stage l used m) (sym e)
      (record {
        wrote = record { bytes = w.bytes; count = c.count ∙ w.count };
        used = omega (arith, c.kept);
        left = ap (λ k. drop k text) (sym c.kept);
        after = ap (λ s. standing s l table) c.there ∙ at-standing at l table;
        stands = rw (c.there, c.none) (at-stands engine at table size);
        table = sym (at_table at table);
      })

  -- the player goes on with a sound switch
  plays : (t buffer' table' : List ℕ) (s : Switch) (l used n : ℕ)
      → T ≡ record { written = t; left = drop used text; after = playing l s } → used ≤ length text
      → sound_of engine s ≡ true → table' ≡ encode s → l ≤ 3 + 81 * s.clock → Wrote t buffer buffer' n
      → Turned engine T text table buffer table' buffer' Playing l used n
  unfolding standing clock_in table_then line_at
  plays t buffer' table' s l used n e within fine same few w =
      let good : sound s ≡ true = sound-of engine s fine in
      let state : state_of table' ≡ s = ap state_of same ∙ state_of-encode s good in
      let clock : clock_in table' ≡ s.clock = ap clock_in same ∙ encode-clock s (sound-clock s good) in
      subst (λ T. Turned engine T text table buffer table' buffer' Playing l used n) (sym e)
      (record {
        wrote = w;
        used = omega (arith, length-drop used text);
        left = refl;
        after = ap (playing l) state;
        stands = record {
          size = ap length same ∙ length-encode s good;
          number = refl;
          good = λ _. rw same (table-made engine s fine);
          few = λ _. omega (arith, clock);
        };
        table = same;
      })

-- nothing is left to do
turn-rests : (engine : Engine) {end : Stage} {over : Standing} → At end over → (last : Bool) (l : ℕ) (t table : List ℕ)
    → turn (machine_of engine) last (standing end l table) t ≡ ending over [] t
unfolding turn standing
turn-rests engine at-end last l t table = refl
turn-rests engine at-refusal last l t table = refl

pub rests : (engine : Engine) {end : Stage} {over : Standing} → At end over → (last : Bool) (stage : Stage) (l : ℕ)
    (t table buffer : List ℕ)
    → length table ≡ table_size → stage ≡ end → (stage' : Stage) (l' used m : ℕ) → Closed end 0 stage' l' used m
    → Turned engine (turn (machine_of engine) last (standing stage l table) t) t table buffer table buffer stage' l' used m
unfolding filled
rests engine at last stage l t table buffer size e stage' l' used m c =
    ends engine (turn (machine_of engine) last (standing stage l table) t) t table buffer at [] buffer stage' l' used 0 m
    (ap (λ s. turn (machine_of engine) last (standing s l table) t) e ∙ turn-rests engine at last l t table) size
    (record { bytes = refl; count = refl }) c

------------------------------------------------------------------------
-- the header

-- a buffer of a table's size is the table
filled-table : (s : Switch) (table : List ℕ) → sound s ≡ true → length table ≡ table_size
    → filled (encode s) table ≡ encode s
unfolding filled
filled-table s table good size =
    let none : drop (length (encode s)) table ≡ [] =
    drop_of_length-le table {i = length (encode s)} (omega (arith, length-encode s good)) in
    ap (λ l. encode s ++ l) none ∙ append-nil (encode s)

module _ (engine : Engine) (last : Bool) (t table buffer : List ℕ) (size : length table ≡ table_size) {o : Opening}
    (e : o ≡ opening_of t (header_in last t)) where
  abbrev at_header : Turn
  at_header = header_turn (machine_of engine) t (header_in last t)

  header_read : (o ≡ Short → ⊥) → header_in last t ≡ known (header t)
  header_read h = go (decided last t) refl
    where
      go : (b : Bool) → decided last t ≡ b → header_in last t ≡ known (header t)
      go true d = header_in-known last t d
      go false d = absurd (h (e ∙ opening-short last t d))

  pub header-short : o ≡ Short → Turned engine at_header t table buffer table buffer OpeningStage 1 0 0
  unfolding header_turn standing line_at
  header-short h =
      let more = header_in-more last t (opening-short-e last t e h) in
      let never : (P : Type 0) → OpeningStage ≡ Playing → P =
      λ P p. (let z : ◌≡◌ {A = ℕ} 0 1 = cc in absurd (omega arith)) in
      waits engine at_header t table buffer OpeningStage 1 (ap (header_turn (machine_of engine) t) more)
      (record { size = size; number = refl; good = never _; few = never _ })

  pub header_refused : {r : Refusal} {l : ℕ} → o ≡ Refused r l → (buffer' : List ℕ) (stage : Stage) (l' used n m : ℕ)
      → Wrote (refusal_text r l) buffer buffer' n → Closed TurnedBack n stage l' used m
      → Turned engine at_header t table buffer table buffer' stage l' used m
  unfolding header_turn
  header_refused {r} {l} h buffer' stage l' used n m w c =
      let read = header_read (λ k. (let z : ◌≡◌ {A = ℕ} 0 1 = cc in omega arith)) in
      ends engine at_header t table buffer at-refusal (refusal_text r l) buffer' stage l' used n m
      (ap (header_turn (machine_of engine) t) (read ∙ ap known (opening-refused-e last t e h))) size w c

  pub header-open : {ports first i : ℕ} → o ≡ Open ports first i → (table' buffer' : List ℕ) (n : ℕ)
      → table' ≡ filled (encode (fresh ports first)) table
      → Wrote (line Ports ports ++ line First first) buffer buffer' n
      → Turned engine at_header t table buffer table' buffer' Playing 3 i n
  unfolding header_turn fresh
  header-open {ports} {first} {i} h table' buffer' n start w =
      let read = header_read (λ k. (let z : ◌≡◌ {A = ℕ} 0 1 = cc in omega arith)) in
      let (there, within) = opening-open-e last t e h in
      let (range, _) = rw there at (header-exact t) in
      let fine = fresh-sound engine ports first range (header-first t there) in
      let made : table' ≡ encode (fresh ports first) =
      start ∙ filled-table (fresh ports first) table (sound-of engine (fresh ports first) fine) size in
      plays engine at_header t table buffer (line Ports ports ++ line First first) buffer' table' (fresh ports first) 3 i n
      (ap (header_turn (machine_of engine) t) (read ∙ ap known there)
      ∙ ap (λ s. record { written = line Ports ports ++ line First first; left = drop i t; after = playing 3 s })
      (fresh-of engine ports first))
      within fine made (omega arith) w

------------------------------------------------------------------------
-- a block or the end

-- the numbers of arrivals, as the reader hands them on

arrivals-numbers : (rs : List Arrival) (zs : List ℕ) → arrivals_from (length rs) (numbers_of rs ++ zs) ≡ rs
unfolding arrivals_from arrival_at numbers_of
arrivals-numbers [] zs = refl
arrivals-numbers (a ∷ rs) zs = ap (λ l. a ∷ l) (arrivals-numbers rs zs)

module _ (engine : Engine) (last : Bool) (l : ℕ) (t table buffer : List ℕ) (good : TableOf engine table)
    (few : l ≤ 3 + 81 * clock_in table) (clock : ℕ) (here : clock ≡ clock_in table) {b : Answer}
    (e : b ≡ answer_of t (next_in last clock t)) where
  abbrev at_next : Turn
  at_next = next_turn (machine_of engine) l (state_of table) t (next_in last (clock_in table) t)

  sized : length table ≡ table_size
  sized = decode-length table (state_of table) (table_is engine table good)

  at-clock : at_next ≡ next_turn (machine_of engine) l (state_of table) t (next_in last clock t)
  at-clock = ap (λ n. next_turn (machine_of engine) l (state_of table) t (next_in last n t)) (sym here)

  next-read : (b ≡ More → ⊥) → next_in last clock t ≡ known (next clock (from 0 t))
  next-read h = go (decided last t) refl
    where
      go : (x : Bool) → decided last t ≡ x → next_in last clock t ≡ known (next clock (from 0 t))
      go true d = next_in-known last t clock d
      go false d = absurd (h (e ∙ sym (block_more last clock t d []).0))

  pub next_more : b ≡ More → Turned engine at_next t table buffer table buffer Playing l 0 0
  unfolding next_turn standing line_at
  next_more h =
      let unread = next_in-more last t clock (answer-more-e last clock t e h) in
      waits engine at_next t table buffer Playing l (at-clock ∙ ap (next_turn (machine_of engine) l (state_of table) t) unread)
      (record { size = sized; number = refl; good = λ _. good; few = λ _. few })

  module _ (buffer' : List ℕ) (stage : Stage) (l' used n m : ℕ) where
    pub next-end : Closed Ended n stage l' used m → b ≡ EndBlock → Wrote (line End clock) buffer buffer' n
        → Turned engine at_next t table buffer table buffer' stage l' used m
    unfolding next_turn state_of clock_in
    next-end c h w =
        let read = next-read (λ k. (let z : ◌≡◌ {A = ℕ} 0 1 = cc in omega arith)) in
        ends engine at_next t table buffer at-end (line End (clock_in table)) buffer' stage l' used n m
        (at-clock ∙ ap (next_turn (machine_of engine) l (state_of table) t) (read ∙ ap known (answer-end-e last clock t e h)))
        sized (rw here at w) c

    pub next-bad : Closed TurnedBack n stage l' used m → {k : ℕ} → b ≡ Bad k
        → Wrote (refusal_text BadLine (l + k)) buffer buffer' n
        → Turned engine at_next t table buffer table buffer' stage l' used m
    unfolding next_turn
    next-bad c {k} h w =
        let read = next-read (λ k. (let z : ◌≡◌ {A = ℕ} 0 1 = cc in omega arith)) in
        ends engine at_next t table buffer at-refusal (refusal_text BadLine (l + k)) buffer' stage l' used n m
        (at-clock ∙ ap (next_turn (machine_of engine) l (state_of table) t) (read ∙ ap known (answer-bad-e last clock t e h)))
        sized w c

  module _ {count i lines : ℕ} (h : b ≡ SlotBlock count i lines) where
    ahead : Ahead clock t count i lines
    ahead = answer-slot-e last clock t e h

    there : next_in last clock t ≡ known (slot_ahead ahead.rs (from lines (drop i t)))
    there = next-read (λ k. (let z : ◌≡◌ {A = ℕ} 0 1 = cc in omega arith)) ∙ ap known ahead.there

    block-lines : (lines ≡ 0 + (1 + 5 * length ahead.rs)) × (length ahead.rs ≤ 16)
    block-lines = next-line clock (from 0 t) ahead.there

    -- at most 16 arrivals and 81 lines
    pub block_size : (count ≤ 16) × (lines ≤ 81)
    block_size =
        let (many, less) = block-lines in
        (omega (arith, ahead.count), omega arith)

    block-fits : all? arrival_fits ahead.rs ≡ true
    block-fits = (block_fits-e ahead.rs (rw ahead.there at (next-exact clock (from 0 t))).1).1

    -- the numbers that the reader was lent
    module _ (whole : List Arrival) (lent : List ℕ) {numbers : List ℕ}
        (held : numbers ≡ numbers_after whole (next_in last clock t) lent) (size : length lent ≡ 80) where
      held-stored : numbers ≡ stored ahead.rs lent
      unfolding numbers_after
      held-stored = held ∙ ap (λ x. numbers_after whole x lent) there

      pub numbers-size : length numbers ≡ 80
      numbers-size = ap length held-stored ∙ length-sets lent 0 (numbers_of ahead.rs) ∙ size

      same-arrivals : arrivals_from count numbers ≡ ahead.rs
      same-arrivals =
          let n = length-numbers_of ahead.rs in
          let few = block-lines.1 in
          ap₂ arrivals_from (sym ahead.count)
          (held-stored ∙ sets-eq (numbers_of ahead.rs) lent 0 (omega arith))
          ∙ arrivals-numbers ahead.rs _

      outcome : Outcome (List (Option Cell) × Switch)
      outcome = (machine_of engine).slot (state_of table) (arrivals_from count numbers)

      at_slot : at_next ≡ slot_turn (state_of table).clock l t (from lines (drop i t)) outcome
      unfolding next_turn outcome
      at_slot =
          at-clock
          ∙ ap (next_turn (machine_of engine) l (state_of table) t) there
          ∙ ap (λ rs. slot_turn (state_of table).clock l t (from lines (drop i t))
          ((machine_of engine).slot (state_of table) rs))
          (sym same-arrivals)

      module _ {table' buffer' : List ℕ} {r : Played} {n : ℕ}
          (p : SlotPlayed ((machine_of engine).slot (state_of table) (arrivals_from count numbers)) clock l table buffer table'
          buffer' r) where
        pub next-stopped : r ≡ Stopped n → (stage : Stage) (l' used m : ℕ) → Closed TurnedBack n stage l' used m
            → Turned engine at_next t table buffer table' buffer' stage l' used m
        unfolding slot_turn outcome
        next-stopped f stage l' used m shut =
            let (why, place, o, kept, w) = played-stopped clock l outcome p f in
            subst (λ x. Turned engine at_next t table buffer x buffer' stage l' used m) (sym kept)
            (ends engine at_next t table buffer at-refusal (refusal_text why (line_of l place)) buffer' stage l' used n m
            (at_slot ∙ ap (slot_turn (state_of table).clock l t (from lines (drop i t))) o)
            sized w shut)

        pub next-ran : r ≡ Ran n → Turned engine at_next t table buffer table' buffer' Playing (l + lines) i n
        unfolding slot_turn outcome state_of clock_in
        next-ran f =
            let (x, o, made, w) = played-ran clock l outcome p f in
            let ran : (machine_of engine).slot (state_of table) ahead.rs ≡ done x =
            ap (λ rs. (machine_of engine).slot (state_of table) rs) (sym same-arrivals) ∙ o in
            let less = block_size.1 in
            plays engine at_next t table buffer (line Slot (clock_in table) ++ departures_text x.0) buffer' table' x.1
            (l + lines) i n
            (at_slot ∙ ap (slot_turn (clock_in table) l t (from lines (drop i t))) o)
            ahead.within
            (went engine (state_of table) (table-sound engine table good) ahead.rs block-fits ran).good made
            (omega (arith, (ticks-of engine).rises (state_of table) ahead.rs ran))
            (subst (λ k. Wrote (line Slot k ++ departures_text x.0) buffer buffer' n) here w)
