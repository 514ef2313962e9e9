-- Slot calls with what they are to answer, and the tests that the definitions answer so: for tables of worked examples.
use Rattle.std.specs.Prelude.{ℕ, ◌+◌, Bool, true, false, ◌&&◌, List, [], ◌∷◌, ◌++◌, map, eqb, length}
use Rattle.std.proofs.Math.Option.{Option, none, some}
use Rattle.laws.specs.Lists.{keep, some?, all?, same_list}
use Rattle.cell.specs.declared.Arrival.{Arrival}
use Rattle.cell.specs.declared.Cell.{Cell}
use Rattle.cell.specs.Cell.{same_cell}
use Rattle.cell.specs.Refusal.{number}
use Rattle.model.specs.State.{Place, listed, crossed, buffered, Entry, Switch, fresh, is_listed, is_crossed}
use Rattle.model.specs.State.{is_buffered}
use Rattle.model.specs.Checks.{Outcome, done, refused}
use Rattle.model.specs.Crossbar.{Course, answer_of}
use Rattle.model.specs.Emulation.{cells_at}
use Rattle.model.specs.Fair.{Fair, marked, fair_slot, fair_after, fair_slot_pifo, fair_after_pifo, fair_slot_oq, fair_after_oq}
use Rattle.model.specs.Oq.{Served}
use Rattle.model.specs.Pifo.{Pifo, fresh_pifo, Sent}

-- Where the cells wait: the lists, input by input and in their order; the cells at the crosspoints and those in the
-- buffers, in any order.
pub record Tables : Type 0 where
  pub lists : List (List Cell)
  pub crosspoints : List Cell
  pub buffers : List Cell

-- What a slot call is to answer: the departures, output by output, with the proposals of both phases; or a refusal's
-- number and place. Before that, where they are said: the tables after arrival, after phase one and after phase two; and
-- how many crosspoints of each output held a cell, in phase one and in phase two.
pub data Expected : Type 0 where
  sends : List (Option Cell) → ℕ → ℕ → Expected
  refuses : ℕ → ℕ → Expected
  passes : Tables → Tables → Tables → Expected → Expected
  occupies : List ℕ → List ℕ → Expected → Expected

pub record Call : Type 0 where
  pub arrivals : List Arrival
  pub expected : Expected

unfoldable pub same_departure : Option Cell → Option Cell → Bool
same_departure none none = true
same_departure none (some d) = false
same_departure (some c) none = false
same_departure (some c) (some d) = same_cell c d

-- the cells of the second list, which names each once, and no others, in any order
unfoldable pub same_cells : List Cell → List Cell → Bool
same_cells cs ds = eqb (length cs) (length ds) && all? (λ d. some? (same_cell d) cs) ds

-- the cells wait as the tables say
unfoldable pub stand : Tables → List (List Entry) → Bool
stand t sections =
    same_list (same_list same_cell) (map (λ s. cells_at is_listed (s ∷ [])) sections) t.lists
    && (same_cells (cells_at is_crossed sections) t.crosspoints
    && same_cells (cells_at is_buffered sections) t.buffers)

-- an accepted slot passes through these tables
unfoldable pub course_passes : Tables → Tables → Tables → Outcome Course → Bool
course_passes a b s (done c) = stand a c.arrived && (stand b c.between && stand s c.settled)
course_passes a b s (refused r place) = false

-- so many crosspoints of each output hold a cell in the two phases
unfoldable pub course_occupies : List ℕ → List ℕ → Outcome Course → Bool
course_occupies one two (done c) =
    same_list eqb (answer_of c).occupancy_one one && same_list eqb (answer_of c).occupancy_two two
course_occupies one two (refused r place) = false

-- the departures and proposals are these, or the refusal
unfoldable pub crossbar_answers : Expected → Outcome Course → Bool
crossbar_answers (sends ds one two) (done c) =
    same_list same_departure c.departures ds && (eqb c.one.proposals one && eqb c.two.proposals two)
crossbar_answers (sends ds one two) (refused r place) = false
crossbar_answers (refuses n p) (done c) = false
crossbar_answers (refuses n p) (refused r place) = eqb (number r) n && eqb place p
crossbar_answers (passes a b s e) o = course_passes a b s o && crossbar_answers e o
crossbar_answers (occupies one two e) o = course_occupies one two o && crossbar_answers e o

-- The PIFO switch and the output-queued switch have no lists and no crosspoints, and make no proposals: of what is
-- expected they have the departures or the refusal. A slot of either is given by its departures.
unfoldable pub departures_answer : {A : Type 0} → (A → List (Option Cell)) → Expected → Outcome A → Bool
departures_answer departures (sends ds one two) (done c) = same_list same_departure (departures c) ds
departures_answer departures (sends ds one two) (refused r place) = false
departures_answer departures (refuses n p) (done c) = false
departures_answer departures (refuses n p) (refused r place) = eqb (number r) n && eqb place p
departures_answer departures (passes a b s e) o = departures_answer departures e o
departures_answer departures (occupies one two e) o = departures_answer departures e o

unfoldable pub pifo_answers : Expected → Outcome Sent → Bool
pifo_answers e o = departures_answer (λ c. c.departures) e o

unfoldable pub oq_answers : Expected → Outcome Served → Bool
oq_answers e o = departures_answer (λ c. c.departures) e o

-- call by call, each call getting the switch that the call before returned, or left in refusing; last the clock
unfoldable pub crossbar_runs : Fair Switch → List Call → ℕ → Bool
crossbar_runs x [] clock = eqb x.core.clock clock
crossbar_runs x (c ∷ calls) clock =
    let a = some c.arrivals in
    let o = fair_slot x a in
    crossbar_answers c.expected o && crossbar_runs (fair_after x a o) calls clock

unfoldable pub pifo_runs : Fair Pifo → List Call → ℕ → Bool
pifo_runs x [] clock = eqb x.core.clock clock
pifo_runs x (c ∷ calls) clock =
    let a = some c.arrivals in
    let o = fair_slot_pifo x a in
    pifo_answers c.expected o && pifo_runs (fair_after_pifo x a o) calls clock

unfoldable pub oq_runs : Fair Switch → List Call → ℕ → Bool
oq_runs x [] clock = eqb x.core.clock clock
oq_runs x (c ∷ calls) clock =
    let a = some c.arrivals in
    let o = fair_slot_oq x a in
    oq_answers c.expected o && oq_runs (fair_after_oq x a o) calls clock

-- all three switches, fresh with N and a first slot, and these outputs fair
unfoldable pub all_run_marked : ℕ → ℕ → ℕ → List Call → ℕ → Bool
all_run_marked n first marks calls clock =
    crossbar_runs (marked marks (fresh n first)) calls clock
    && (pifo_runs (marked marks (fresh_pifo n first)) calls clock
    && oq_runs (marked marks (fresh n first)) calls clock)

-- no output fair
unfoldable pub all_run : ℕ → ℕ → List Call → ℕ → Bool
all_run n first calls clock = all_run_marked n first 0 calls clock

-- The switch that has N, a clock and these tables.
unfoldable pub enter_at : Place → ℕ → List Cell → List Entry
enter_at p input cs = map (λ c. record { cell = c; place = p }) (keep (λ c. eqb c.input input) cs)

unfoldable pub sections_from : ℕ → List (List Cell) → List Cell → List Cell → List (List Entry)
sections_from input [] xs bs = []
sections_from input (l ∷ ls) xs bs =
    (enter_at listed input l ++ enter_at crossed input xs ++ enter_at buffered input bs)
    ∷ sections_from (input + 1) ls xs bs

unfoldable pub switch_with : ℕ → ℕ → Tables → Switch
switch_with n clock t =
    record { ports = n; clock = clock; sections = sections_from 0 t.lists t.crosspoints t.buffers }

-- input, output, flow, rank, tag
unfoldable pub arrival : ℕ → ℕ → ℕ → ℕ → ℕ → Arrival
arrival i o f r t = record { input = i; output = o; flow = f; rank = r; tag = t }

-- the cell that such a record becomes in a slot
unfoldable pub cell : ℕ → ℕ → ℕ → ℕ → ℕ → ℕ → Cell
cell i o f r t s = record { input = i; output = o; flow = f; rank = r; tag = t; slot = s }

unfoldable pub call : List Arrival → Expected → Call
call records e = record { arrivals = records; expected = e }

unfoldable pub tables : List (List Cell) → List Cell → List Cell → Tables
tables lists crosspoints buffers = record { lists = lists; crosspoints = crosspoints; buffers = buffers }
