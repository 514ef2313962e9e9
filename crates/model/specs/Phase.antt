-- Scope 3.2 to 3.8, scheduling: one phase. Unlike the source, every blocked head may take part in the matching
-- (scope 1.3). All choices use the state at the start of the phase, save the output's choice.
-- Each step below is a list of waiting cells, made from those before it:
--     lists, crosspoints   the cells in the lists and at the crosspoints as the phase starts
--     heads, scheduled, urgent, candidates, matched   rules 1 to 4
--     straight, sent       rule 5
--     filled, pulled       rule 6
use Rattle.std.specs.Prelude.{ℕ, ◌+◌, ◌*◌, Bool, cond, not, ◌&&◌, ◌||◌, ltb, eqb}
use mathlib.Core.List.{List, [], ◌∷◌, ◌++◌, map, flatten}
use Rattle.std.proofs.Math.Option.{Option}
use Rattle.laws.specs.Lists.{keep, some?, none?, all?, count, least, first?, up_to}
use Rattle.cell.specs.declared.Cell.{Cell}
use Rattle.cell.specs.Flow.{same_flow}
use Rattle.cell.specs.Limits.{section_room}
use Rattle.cell.specs.Order.{over}
use Rattle.matching.specs.Matching.{matched, proposals}
use Rattle.model.specs.State.{Place, crossed, buffered, Entry, is_listed, is_crossed}

-- An entry and its number, 64 × input + its position in the section of its input.
pub record Waiting : Type 0 where
  pub at : ℕ
  pub cell : Cell
  pub place : Place

unfoldable pub number_from : ℕ → List Entry → List Waiting
number_from at [] = []
number_from at (e ∷ es) = record { at = at; cell = e.cell; place = e.place } ∷ number_from (at + 1) es

unfoldable pub number_sections : ℕ → List (List Entry) → List (List Waiting)
number_sections input [] = []
number_sections input (s ∷ ss) = number_from (section_room * input) s ∷ number_sections (input + 1) ss

unfoldable pub numbered : List (List Entry) → List (List Waiting)
numbered sections = number_sections 0 sections

-- all waiting cells of the switch
unfoldable pub waiting : List (List Entry) → List Waiting
waiting sections = flatten (numbered sections)

-- of all waiting cells those in the lists
unfoldable pub lists : List Waiting → List Waiting
lists all = keep (λ e. is_listed e.place) all

-- and those at the crosspoints
unfoldable pub crosspoints : List Waiting → List Waiting
crosspoints all = keep (λ e. is_crossed e.place) all

unfoldable pub same_input : Waiting → Waiting → Bool
same_input e f = eqb e.cell.input f.cell.input

unfoldable pub same_output : Waiting → Waiting → Bool
same_output e f = eqb e.cell.output f.cell.output

-- of two cells in the lists: both are of one input, and e stands before f
unfoldable pub ahead : Waiting → Waiting → Bool
ahead e f = same_input e f && ltb e.at f.at

-- both go to one output, and e has the higher output priority
unfoldable pub beats : ℕ → Waiting → Waiting → Bool
beats ports e f = same_output e f && over ports e.cell f.cell

unfoldable pub among : List Waiting → Waiting → Bool
among l e = some? (λ f. eqb f.at e.at) l

-- the crosspoint of a cell's input and output is this one's
unfoldable pub same_crosspoint : Waiting → Waiting → Bool
same_crosspoint h x = same_input h x && same_output h x

-- 1. head cells are the first of each flow in an input's list
unfoldable pub heads : List Waiting → List Waiting
heads lists = least (λ e f. same_flow e.cell f.cell && ahead e f) lists

-- a head is blocked if its crosspoint holds a cell of lower output priority; otherwise it is normal
unfoldable pub blocked : ℕ → List Waiting → Waiting → Bool
blocked ports crosspoints h = some? (λ x. same_crosspoint h x && beats ports h x) crosspoints

-- its crosspoint is empty
unfoldable pub crosspoint_empty : List Waiting → Waiting → Bool
crosspoint_empty crosspoints h = none? (same_crosspoint h) crosspoints

-- it is normal, and its crosspoint is empty
unfoldable pub ready : ℕ → List Waiting → Waiting → Bool
ready ports crosspoints h = not (blocked ports crosspoints h) && crosspoint_empty crosspoints h

-- 2. the scheduled cell of an input is the first normal head in its list whose crosspoint is empty, if there is one
unfoldable pub scheduled : ℕ → List Waiting → List Waiting → List Waiting
scheduled ports crosspoints hs = least ahead (keep (ready ports crosspoints) hs)

-- 3. a blocked head is urgent if it stands before the scheduled cell of its input (or there is none) and has higher
-- output priority than every cell in the crosspoints of its output
unfoldable pub is_urgent : ℕ → List Waiting → List Waiting → Waiting → Bool
is_urgent ports crosspoints ss h =
    blocked ports crosspoints h
    && (all? (ahead h) (keep (same_input h) ss)
    && all? (beats ports h) (keep (same_output h) crosspoints))

unfoldable pub urgent : ℕ → List Waiting → List Waiting → List Waiting → List Waiting
urgent ports crosspoints ss hs = keep (is_urgent ports crosspoints ss) hs

-- 4. the urgent cells and those scheduled cells that stand first in their list are matched, if a cell is urgent
unfoldable pub takes_part : List Waiting → List Waiting → List Waiting → Waiting → Bool
takes_part lists us ss e = among us e || (among ss e && none? (λ f. ahead f e) lists)

unfoldable pub candidates : List Waiting → List Waiting → List Waiting → List Waiting
candidates lists [] ss = []
candidates lists (u ∷ us) ss = keep (takes_part lists (u ∷ us) ss) lists

-- 5. a matched urgent cell goes straight to its output buffer
unfoldable pub straight : List Waiting → List Waiting → List Waiting
straight us ms = keep (among us) ms

-- every input without one sends its scheduled cell to the crosspoint
unfoldable pub sent : List Waiting → List Waiting → List Waiting
sent ss straights = keep (λ s. none? (same_input s) straights) ss

-- a cell is at this crosspoint, of an input and an output
unfoldable pub at_crosspoint : ℕ → ℕ → Waiting → Bool
at_crosspoint input output x = eqb x.cell.input input && eqb x.cell.output output

-- how many crosspoints of an output, one for each input, hold one of some cells
unfoldable pub occupancy : ℕ → List Waiting → ℕ → ℕ
occupancy ports filled output = count (λ input. some? (at_crosspoint input output) filled) (up_to ports)

-- the cell of highest output priority among those of some cells that go to an output, if there is one
unfoldable pub best_for : ℕ → List Waiting → ℕ → Option Waiting
best_for ports filled output = first? (keep (λ x. eqb x.cell.output output) (least (beats ports) filled))

-- 6. The choice of an output, made after the sending, among the cells at its crosspoints, those just filled included: the
-- one of highest output priority, if there is one, and how many of its crosspoints hold a cell. An output to which a
-- straight cell came chooses and counts too.
pub record OutputChoice : Type 0 where
  pub best : Option Waiting
  pub occupancy : ℕ

unfoldable pub output_choice : ℕ → List Waiting → ℕ → OutputChoice
output_choice ports filled output = record { best = best_for ports filled output; occupancy = occupancy ports filled output }

-- an output that got no straight cell takes the best
unfoldable pub pulled : ℕ → List Waiting → List Waiting → List Waiting
pulled ports filled straights = keep (λ x. none? (same_output x) straights) (least (beats ports) filled)

pub record Phase : Type 0 where
  pub scheduled : List Waiting
  pub urgent : List Waiting
  pub candidates : List Waiting
  pub matched : List Waiting
  pub proposals : ℕ
  pub straight : List Waiting
  pub sent : List Waiting
  pub filled : List Waiting
  pub pulled : List Waiting

-- a phase of a switch of so many ports
unfoldable pub phase : ℕ → List Waiting → Phase
phase ports all =
    let hs = heads (lists all) in
    let ss = scheduled ports (crosspoints all) hs in
    let us = urgent ports (crosspoints all) ss hs in
    let cs = candidates (lists all) us ss in
    let ms = matched ahead (beats ports) cs in
    let straights = straight us ms in
    let sents = sent ss straights in
    let full = crosspoints all ++ sents in
    record {
      scheduled = ss;
      urgent = us;
      candidates = cs;
      matched = ms;
      proposals = proposals ahead (beats ports) cs;
      straight = straights;
      sent = sents;
      filled = full;
      pulled = pulled ports full straights;
    }

-- where a cell is after rule 5, before the outputs choose
unfoldable pub place_sent : Phase → Waiting → Place
place_sent p e = cond (among p.straight e) buffered (cond (among p.sent e) crossed e.place)

-- where a cell is after rule 6, at the end of the phase
unfoldable pub place_after : Phase → Waiting → Place
place_after p e = cond (among p.pulled e) buffered (place_sent p e)

unfoldable pub placed_by : (Waiting → Place) → List (List Entry) → List (List Entry)
placed_by place sections = map (map (λ e. record { cell = e.cell; place = place e })) (numbered sections)

-- the sections after rule 5: the straight cells are gone, and the crosspoints of the sent cells are filled
unfoldable pub after_sending : Phase → List (List Entry) → List (List Entry)
after_sending p sections = placed_by (place_sent p) sections

-- the sections after rule 6
unfoldable pub moved : Phase → List (List Entry) → List (List Entry)
moved p sections = placed_by (place_after p) sections
