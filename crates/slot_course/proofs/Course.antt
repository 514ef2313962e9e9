-- The steps of a slot, one after the other, are the course of the definition.
--     phase-table                       the table after a phase
--     phased-none, phased-more          what the phases leave
--     run-course                        a slot's course, from where its cells have arrived
--     ran-table, ran-answer             what the departure makes of it
use Prim.Native.Nat.{ℕ, ◌+◌, ◌≤◌, ◌<◌}
use mathlib.Core.Bool.{true, false}
use mathlib.Core.Path.{◌≡◌, refl, sym, ◌∙◌, ap, ap₂}
use mathlib.Core.List.{List, ◌++◌, append_assoc}
use mathlib.Core.Logic.{◌⊎◌, inl, inr, ◌≢◌}
use borrow.Author.Tests.{eqb-true, eqb-false}
use lib.Dec.{eqb}
use lib.ListN.{length, get_or, set, drop, length-append}
use lib.Seq.{get_or-set_same, get_or-set_other}
use native.Mathlib.Omega.{arith}
use native.Mathlib.Numerals.{add-one}
use Rattle.laws.proofs.Tests.{either}
use Rattle.model.specs.State.{Switch}
use Rattle.model.specs.Phase.{phase, waiting}
use Rattle.cell.specs.declared.Cell.{Cell}
use Rattle.model.specs.Crossbar.{Course, arrive, run, leaving, departures_of, occupancies, answer_of}
use Rattle.layout.specs.Answer.{departures_bytes, words_bytes, answer_bytes, answer_size, departures_size, first_occupancy, second_occupancy}
use Rattle.layout.specs.Answer.{occupancies_size}
use Rattle.layout.specs.Host.{filled}
use Rattle.layout.specs.Number.{bytes_of}
use Rattle.layout.specs.Table.{IsTable, encode, state_of}
use Rattle.layout.proofs.Answer.{length-departures_bytes, length-words_bytes, words_bytes-same, length-answer_bytes}
use Rattle.layout.proofs.Put.{put_next}
use Rattle.layout.specs.Code.{ports_in, put}
use Rattle.cell.specs.Limits.{port_limit}
use Rattle.slot_view.proofs.Placed.{decode-ports}
use Rattle.slot_moves.specs.CodeMoved.{after_phase, OccupanciesOf}
use Rattle.slot_moves.proofs.Encoded.{after-state, after_table}
use Rattle.slot_departure.specs.Code.{departed}
use Rattle.slot_course.specs.Code.{course_of, after_phases, proposals_after, no_report, Phased, Scheduled}
use Rattle.slot_course.specs.declared.phase.Report.{Report}

-- a slot's course is that of the switch when its cells have arrived and its clock has risen
pub run-course : (s : Switch) (cs : List Cell)
    → run s cs ≡ course_of (record { ports = s.ports; clock = s.clock + 1; sections = arrive cs s.sections })
unfolding run course_of
run-course s cs = refl

------------------------------------------------------------------------
-- one phase

module _ (table new : List ℕ) (good : IsTable table) (e : new ≡ encode (after_phase (state_of table))) where
  pub phase-state : state_of new ≡ after_phase (state_of table)
  phase-state = ap state_of e ∙ after-state table good

  pub phase-table : IsTable new
  phase-table = rw e (after_table table good)

------------------------------------------------------------------------
-- the two phases

-- the parts of an answer one behind the other
four-parts : (a b c d : List ℕ) → ((a ++ b) ++ c) ++ d ≡ a ++ (b ++ (c ++ d))
four-parts a b c d = simp append_assoc

-- how many crosspoints of each output hold a cell in the next phase of a switch
abbrev told-by : Switch → List ℕ
told-by s = occupancies s.ports (phase s.ports (waiting s.sections))

module _ (s : Switch) where
  pub phased-none : (table : List ℕ) (reports : List Report) → IsTable table → s ≡ state_of table
      → Phased s 0 table reports
  unfolding after_phases
  phased-none table reports good e =
      record {
        good = good;
        state = sym e;
        reported = record { counted = λ k b. absurd (omega arith); told = λ k b. absurd (omega arith) };
      }

  pub phased-more : (n : ℕ) (report : Report) (table new : List ℕ) (reports : List Report)
      → Phased s n table reports → n < length reports → new ≡ encode (after_phase (state_of table))
      → report.proposals ≡ (phase (state_of table).ports (waiting (state_of table).sections)).proposals
      → OccupanciesOf (state_of table) report.occupancy → Phased s (n + 1) new (set reports n report)
  unfolding after_phases proposals_after
  phased-more n report table new reports h b e p o =
      record {
        good = phase-table table new h.good e;
        state =
            phase-state table new h.good e ∙ ap after_phase h.state ∙ ap (λ k. after_phases k s) (sym (add-one n));
        reported =
            record { counted = λ k l. counted k (either (eqb k n)) l; told = λ k l. told k (either (eqb k n)) l };
      }
    where
      after : List Report
      after = set reports n report

      this : (k : ℕ) → k ≡ n → get_or after k no_report ≡ report
      this k q = ap (λ j. get_or after j no_report) q ∙ get_or-set_same reports n report no_report b

      others : (k : ℕ) → k ≢ n → get_or after k no_report ≡ get_or reports k no_report
      others k other = get_or-set_other reports n k report no_report other

      counted : (k : ℕ) → (eqb k n ≡ true) ⊎ (eqb k n ≡ false) → k < n + 1
          → (get_or after k no_report).proposals ≡ proposals_after k s
      counted k (inl t) l =
          let q : k ≡ n = eqb-true k n t in
          ap (λ r. r.proposals) (this k q)
          ∙ p
          ∙ ap (λ u. (phase u.ports (waiting u.sections)).proposals) (h.state ∙ ap (λ j. after_phases j s) (sym q))
      counted k (inr f) l =
          let other : k ≢ n = eqb-false k n f in
          ap (λ r. r.proposals) (others k other) ∙ h.reported.counted k (omega arith)

      told : (k : ℕ) → (eqb k n ≡ true) ⊎ (eqb k n ≡ false) → k < n + 1
          → OccupanciesOf (after_phases k s) (get_or after k no_report).occupancy
      told k (inl t) l x m =
          let q : k ≡ n = eqb-true k n t in
          ap (λ r. get_or r.occupancy x 0) (this k q)
          ∙ o x m
          ∙ ap (λ u. get_or (told-by u) x 0) (h.state ∙ ap (λ j. after_phases j s) (sym q))
      told k (inr f) l x m =
          let other : k ≢ n = eqb-false k n f in
          ap (λ r. get_or r.occupancy x 0) (others k other) ∙ h.reported.told k (omega arith) x m

  ------------------------------------------------------------------------
  -- the slot

  abbrev course : Course
  course = course_of s

  module _ (table best : List ℕ) (reports : List Report) (h : Scheduled s table best reports) where
    abbrev one : Report
    one = get_or reports 0 no_report

    abbrev two : Report
    two = get_or reports 1 no_report

    -- the table and the answer when the departure is done and the counts are written
    pub ran-table : (new : List ℕ) → new ≡ encode (departed (state_of table)) → new ≡ encode course.switch
    unfolding departed course_of after_phases after_phase
    ran-table new w = w ∙ ap (λ u. encode (departed u)) h.state

    answers : departures_of (ports_in table) (leaving (ports_in table) (waiting (state_of table).sections))
        ≡ course.departures
    unfolding course_of after_phases after_phase
    answers =
        ap₂ (λ n u. departures_of n (leaving n (waiting u.sections)))
        (decode-ports table (state_of table) h.good ∙ ap (λ u. u.ports) h.state) h.state

    first-is : one.proposals ≡ course.one.proposals
    unfolding after_phases proposals_after course_of
    first-is = h.reported.counted 0 (omega arith)

    second_is : two.proposals ≡ course.two.proposals
    unfolding after_phases proposals_after after_phase course_of
    second_is = h.reported.counted 1 (omega arith)

    first-told : words_bytes port_limit one.occupancy ≡ words_bytes port_limit (answer_of course).occupancy_one
    unfolding after_phases course_of answer_of
    first-told = words_bytes-same port_limit one.occupancy (answer_of course).occupancy_one (h.reported.told 0 (omega arith))

    second-told : words_bytes port_limit two.occupancy ≡ words_bytes port_limit (answer_of course).occupancy_two
    unfolding after_phases after_phase course_of answer_of
    second-told = words_bytes-same port_limit two.occupancy (answer_of course).occupancy_two (h.reported.told 1 (omega arith))

    made_bytes : List ℕ
    made_bytes = bytes_of 4 course.one.proposals ++ bytes_of 4 course.two.proposals

    pub ran-answer : (answer sent made between new : List ℕ) → answer_size ≤ length answer
        → sent ≡ filled (departures_bytes 16 (departures_of (ports_in table) (leaving (ports_in table) (waiting (state_of table).sections)))) answer
        → made ≡ put departures_size 8 (bytes_of 4 one.proposals ++ bytes_of 4 two.proposals) sent
        → between ≡ put first_occupancy occupancies_size (words_bytes port_limit one.occupancy) made
        → new ≡ put second_occupancy occupancies_size (words_bytes port_limit two.occupancy) between
        → new ≡ filled (answer_bytes (answer_of course)) answer
    unfolding filled answer_bytes answer_of bytes_of made_bytes
    ran-answer answer sent made between new room leaves proposed told-one told-two =
        let out = departures_of (ports_in table) (leaving (ports_in table) (waiting (state_of table).sections)) in
        let ds : List ℕ = departures_bytes 16 out in
        let ps : List ℕ = bytes_of 4 one.proposals ++ bytes_of 4 two.proposals in
        let fs : List ℕ = words_bytes port_limit one.occupancy in
        let ss : List ℕ = words_bytes port_limit two.occupancy in
        let size : length ds ≡ departures_size = length-departures_bytes 16 out in
        let front : sent ≡ put 0 departures_size ds answer = leaves ∙ ap (λ n. ds ++ drop n answer) size in
        let second : made ≡ put 0 first_occupancy (ds ++ ps) answer =
        put_next 0 departures_size 8 ds ps answer sent made size refl (omega arith) front proposed in
        let three : between ≡ put 0 second_occupancy ((ds ++ ps) ++ fs) answer =
        put_next 0 first_occupancy occupancies_size (ds ++ ps) fs answer made between
        (length-append ds ps ∙ ap (λ n. n + 8) size) (length-words_bytes port_limit one.occupancy) (omega arith) second told-one in
        let four : new ≡ put 0 answer_size (((ds ++ ps) ++ fs) ++ ss) answer =
        put_next 0 second_occupancy occupancies_size ((ds ++ ps) ++ fs) ss answer between new
        (length-append (ds ++ ps) fs ∙ ap₂ ◌+◌ (length-append ds ps ∙ ap (λ n. n + 8) size) (length-words_bytes port_limit one.occupancy))
        (length-words_bytes port_limit two.occupancy) room three told-two in
        let whole : ((ds ++ ps) ++ fs) ++ ss ≡ answer_bytes (answer_of course) =
        four-parts ds ps fs ss
        ∙ ap₂ (λ x y. x ++ (y ++ (fs ++ ss))) (ap (departures_bytes 16) answers)
        (ap₂ (λ x y. bytes_of 4 x ++ bytes_of 4 y) first-is second_is)
        ∙ ap₂ (λ x y. departures_bytes 16 course.departures ++ (made_bytes ++ (x ++ y))) first-told second-told in
        four
        ∙ ap (λ bs. bs ++ drop answer_size answer) whole
        ∙ ap (λ n. answer_bytes (answer_of course) ++ drop n answer) (sym (length-answer_bytes (answer_of course)))
