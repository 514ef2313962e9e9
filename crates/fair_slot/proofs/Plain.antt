-- A slot on a table with no fair output: its cells take the slot, and the memory stays.
--     plain_other, plain_by    whether no output is marked, by each test in turn
--     plain-framed             then the frame is right
--     plain-leaves             what the slot leaves
--     refused-not              a refused slot did not run
use Prim.Native.Nat.{ℕ}
use native.Mathlib.Omega.{arith}
use mathlib.Core.Bool.{Bool, true, false, cond, ◌&&◌}
use mathlib.Core.List.{List, ◌++◌}
use mathlib.Core.Option.{Option, none, some}
use mathlib.Core.Path.{◌≡◌, refl, sym, ap, ◌∙◌}
use borrow.Author.Tests.{eqb-true}
use borrow.Rule.Slice.PartMut.{put_mid}
use lib.Dec.{ltb, eqb}
use lib.ListN.{length, take, drop, take-append-drop}
use lib.Seq.{drop-drop}
use Rattle.laws.proofs.Tests.{and_l, and_r}
use Rattle.cell.specs.declared.Arrival.{Arrival}
use Rattle.cell.specs.Checked.{Checked}
use Rattle.cell.specs.declared.Refusal.{Refusal}
use Rattle.cell.specs.declared.Tally.{Tally}
use Rattle.model.specs.Checks.{Outcome, done, refused, refusal_of}
use Rattle.model.specs.Crossbar.{Course}
use Rattle.model.specs.Fair.{Fair, after_of}
use Rattle.model.specs.State.{Switch}
use Rattle.model.specs.Tally.{arrival_count, tally_after as core_tally}
use Rattle.model.proofs.FairChecks.{unmarked-slot, unmarked-remembered}
use Rattle.layout.specs.Answer.{answer_size}
use Rattle.layout.specs.Arrivals.{records_of}
use Rattle.layout.specs.Frame.{is_framed}
use Rattle.layout.specs.Engine.{crossbar, lent_slot as lent_slot_of, table_after, answer_after, tally_after}
use Rattle.layout.specs.Fair.{fair_number, core_start, memory_start, fair_bytes, fair_of, decode_fair, core_in, memory_in}
use Rattle.layout.specs.Host.{slot_of, table_after as core_after}
use Rattle.layout.specs.Memory.{memory_of}
use Rattle.layout.specs.Number.{word}
use Rattle.layout.specs.Table.{is_table, decode, encode, state_of, table_size}
use Rattle.layout.specs.TallyBytes.{tally_size, tally_of, tally_bytes}
use Rattle.layout.proofs.Fair.{decode_fair-tests, framed-with}
use Rattle.layout.proofs.Memory.{word-drop}
use Rattle.layout.proofs.Number.{bytes?}
use Rattle.layout.proofs.Table.{is_table-some, is-table}
use Rattle.slot_call.specs.CodeLent.{lent_slot as core_slot, LentLeaves as CoreLeaves}
use Rattle.fair_slot.specs.Code.{lent_slot, SlotLeaves, is_plain}
use Rattle.fair_slot.proofs.Runs.{same_answer}

pub plain_other : (table : List ℕ) → is_framed fair_number table ≡ false → false ≡ is_plain table
unfolding is_plain
plain_other table h = rw h

pub plain_by : (table : List ℕ) → is_framed fair_number table ≡ true → (marks : ℕ) → marks ≡ word table memory_start
    → eqb marks 0 ≡ is_plain table
unfolding is_plain
plain_by table h marks e = rw (h, e)

-- no table, for the cells alone
no_table : (bs : List ℕ) → is_table bs ≡ false → decode bs ≡ none
unfolding is_table
no_table bs h = go (decode bs) refl
  where
    go : (o : Option Switch) → decode bs ≡ o → decode bs ≡ none
    go none e = e
    go (some s) e =
        let never : ◌≡◌ {A = ℕ} 0 1 = cc (is_table-some bs s e) in
        absurd (omega arith)

same-tally : (many : ℕ) (o : Outcome Course) (t : Tally) → core_tally many o t ≡ tally_after crossbar many o t
unfolding core_tally tally_after
same-tally many (done c) t = refl
same-tally many (refused r place) t = refl

pub refused-not : {r : Refusal} {place : ℕ} {c : Course} → refused r place ≡ done c → ⊥
refused-not e = let z : ◌≡◌ {A = ℕ} 0 1 = cc in omega arith

-- a slot that ran was lent whole records
ran-records : (x : Option (Fair Switch)) (a : Option (List Arrival)) (room : ℕ) (c : Course)
    → lent_slot_of crossbar x a room tally_size ≡ done c → (records : List Arrival) × (a ≡ some records)
unfolding lent_slot_of
ran-records none a room c e = absurd (refused-not e)
ran-records (some x) none room c e = absurd (refused-not e)
ran-records (some x) (some records) room c e = (records, refl)

pub plain-framed : (table : List ℕ) → is_plain table ≡ true → is_framed fair_number table ≡ true
unfolding is_plain
plain-framed table plain = and_l (is_framed fair_number table) (eqb (word table memory_start) 0) plain

module _ (table arrivals : List ℕ) (b : bytes? table ≡ true) (plain : is_plain table ≡ true) where
  framed : is_framed fair_number table ≡ true
  framed = plain-framed table plain

  no-marks : (fair_of table).memory.fair ≡ 0
  unfolding is_plain fair_of memory_of
  no-marks =
      word-drop memory_start 0 table
      ∙ eqb-true _ _ (and_r (is_framed fair_number table) (eqb (word table memory_start) 0) plain)

  tests : decode_fair table ≡ cond (is_table (core_in table)) (some (fair_of table)) none
  tests = decode_fair-tests table b ∙ ap (λ f. cond (f && is_table (core_in table)) (some (fair_of table)) none) framed

  same-slot : (room : ℕ) → core_slot (core_in table) arrivals room ≡ lent_slot table arrivals room
  unfolding core_slot slot_of lent_slot_of fair_of
  same-slot room = go (is_table (core_in table)) refl (records_of arrivals) refl (ltb room answer_size) refl
    where
      go : (t : Bool) → is_table (core_in table) ≡ t → (a : Option (List Arrival)) → records_of arrivals ≡ a
          → (short : Bool) → ltb room answer_size ≡ short
          → core_slot (core_in table) arrivals room ≡ lent_slot table arrivals room
      go false t a e short l =
          let one : decode (core_in table) ≡ none = no_table (core_in table) t in
          let two : decode_fair table ≡ none = tests ∙ rw t in
          rw (one, two)
      go true t none e short l =
          let one : decode (core_in table) ≡ some (state_of (core_in table)) = is-table (core_in table) t in
          let two : decode_fair table ≡ some (fair_of table) = tests ∙ rw t in
          rw (one, two, e)
      go true t (some records) e true l =
          let one : decode (core_in table) ≡ some (state_of (core_in table)) = is-table (core_in table) t in
          let two : decode_fair table ≡ some (fair_of table) = tests ∙ rw t in
          rw (one, two, e, l, slot_of, lent_slot_of)
      go true t (some records) e false l =
          let one : decode (core_in table) ≡ some (state_of (core_in table)) = is-table (core_in table) t in
          let two : decode_fair table ≡ some (fair_of table) = tests ∙ rw t in
          rw (one, two, e, l, slot_of, lent_slot_of) (sym (unmarked-slot (fair_of table) no-marks (some records)))

  -- nothing is remembered
  kept : (c : Course) (records : List Arrival)
      → fair_bytes fair_number (after_of (λ d. d.departures) (λ d. d.switch) (fair_of table) (some records) (done c))
      ≡ fair_bytes fair_number (record { core = c.switch; memory = memory_of (memory_in table) })
  unfolding after_of fair_of
  kept c records =
      ap (λ m. fair_bytes fair_number (record { core = c.switch; memory = m }))
      (unmarked-remembered (fair_of table).memory no-marks records c.departures)

  -- the table, with the cells after the slot
  same-table : (room : ℕ) (o : Outcome Course) → lent_slot table arrivals room ≡ o
      → put_mid core_start table_size table (core_after (core_in table) o) ≡ table_after crossbar table arrivals o
  unfolding core_after table_after after_of
  same-table room (refused r place) e =
      ap (λ l. take core_start table ++ l) (take-append-drop table_size (drop core_start table))
      ∙ take-append-drop core_start table
  same-table room (done c) e =
      let (records, whole) = ran-records (decode_fair table) (records_of arrivals) room c e in
      ap (λ l. take core_start table ++ (encode c.switch ++ l)) (drop-drop table_size core_start table)
      ∙ framed-with fair_number table framed b c.switch
      ∙ sym
      (ap (λ a. fair_bytes fair_number (after_of (λ d. d.departures) (λ d. d.switch) (fair_of table) a (done c))) whole
      ∙ kept c records)

  pub plain-leaves : (answer tally : List ℕ) (fault : Checked) (core answer' tally' : List ℕ)
      → CoreLeaves (core_slot (core_in table) arrivals (length answer)) (core_in table) arrivals answer tally
      fault core answer' tally'
      → SlotLeaves (lent_slot table arrivals (length answer)) table arrivals answer tally
      fault (put_mid core_start table_size table core) answer' tally'
  plain-leaves answer tally fault core answer' tally' (f, (n, (a, t))) =
      let same = same-slot (length answer) in (
        f ∙ ap refusal_of same,
        (
          ap (put_mid core_start table_size table) (n ∙ ap (core_after (core_in table)) same)
              ∙ same-table (length answer) _ refl,
          (
            a ∙ same_answer answer _ ∙ ap (answer_after crossbar answer) same,
            t
                ∙ ap tally_bytes
                (same-tally (arrival_count (records_of arrivals)) _ (tally_of tally)
                ∙ ap (λ o. tally_after crossbar (arrival_count (records_of arrivals)) o (tally_of tally)) same),
          ),
        ),
      )
