-- Scope 3: a slot on the bytes of a sound table, from where its cells have arrived.
use Rattle.std.specs.Prelude.{List, [], ◌≡◌, get_or, ℕ, zero, suc, ◌<◌}
use Rattle.model.specs.State.{Switch}
use Rattle.model.specs.Phase.{waiting, phase, moved}
use Rattle.model.specs.Crossbar.{Course, leaving, departures_of, without}
use Rattle.layout.specs.Table.{IsTable, state_of}
use Rattle.slot_check.specs.declared.Sets.{Sets}
use Rattle.slot_view.specs.CodeView.{places_in}
use Rattle.slot_view.specs.CodeViewed.{BestBuffered, SetsOf}
use Rattle.slot_moves.specs.CodeMoved.{after_phase, OccupanciesOf}
use Rattle.slot_course.specs.declared.phase.Report.{Report}

-- the course of a slot whose cells have arrived and whose clock has risen
unfoldable pub course_of : Switch → Course
course_of s =
    let arrived = s.sections in
    let one = phase s.ports (waiting arrived) in
    let between = moved one arrived in
    let two = phase s.ports (waiting between) in
    let settled = moved two between in
    let out = leaving s.ports (waiting settled) in
    record {
      arrived = arrived;
      one = one;
      between = between;
      two = two;
      settled = settled;
      departures = departures_of s.ports out;
      switch = record { ports = s.ports; clock = s.clock; sections = without out settled };
    }

-- the switch after so many phases
unfoldable pub after_phases : ℕ → Switch → Switch
after_phases zero s = s
after_phases (suc n) s = after_phase (after_phases n s)

-- the proposals that the phase after so many phases makes
unfoldable pub proposals_after : ℕ → Switch → ℕ
proposals_after n s = (phase (after_phases n s).ports (waiting (after_phases n s).sections)).proposals

-- the sets of a table's cells by place
abbrev pub SetsIn : List ℕ → Sets → Type 0
SetsIn table sets = SetsOf table (places_in table) sets.listed sets.heads sets.crossed sets.buffered

-- no report: it stands for what lies past the end
abbrev pub no_report : Report
no_report = record { proposals = 0; occupancy = [] }

-- the first n phases have reported: each its proposals, and the occupancy of each output in it
pub record Reported (s : Switch) (n : ℕ) (reports : List Report) : Type 0 where
  pub counted : (k : ℕ) → k < n → (get_or reports k no_report).proposals ≡ proposals_after k s
  pub told : (k : ℕ) → k < n → OccupanciesOf (after_phases k s) (get_or reports k no_report).occupancy

-- where the phases stand after so many: the table is that of the switch then, and each has reported
pub record Phased (s : Switch) (n : ℕ) (table : List ℕ) (reports : List Report) : Type 0 where
  pub good : IsTable table
  pub state : state_of table ≡ after_phases n s
  pub reported : Reported s n reports

-- what the two phases leave
pub record Scheduled (s : Switch) (table best : List ℕ) (reports : List Report) : Type 0 where
  pub good : IsTable table
  pub state : state_of table ≡ after_phases 2 s
  pub bests : BestBuffered table (places_in table) best
  pub reported : Reported s 2 reports
