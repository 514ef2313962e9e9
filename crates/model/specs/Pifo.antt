-- Scope 4, the PIFO switch: no lists, crosspoints or phases. Its state is N, a clock and a
-- queue of cells for each output; what it remembers of fair outputs is in Fair.
use Rattle.std.specs.Prelude.{ℕ, ◌+◌, true, false, eqb, replicate}
use mathlib.Core.List.{List, [], ◌∷◌, ◌++◌, map, flatten}
use Rattle.std.proofs.Math.Option.{Option, none, some}
use Rattle.laws.specs.Lists.{keep, some?, least, update, first?}
use Rattle.cell.specs.declared.Cell.{Cell}
use Rattle.cell.specs.declared.Arrival.{Arrival}
use Rattle.cell.specs.declared.Refusal.TheVariants.{BrokenTable, ClockEnd}
use Rattle.cell.specs.Cell.{accepted}
use Rattle.cell.specs.Limits.{clock_end}
use Rattle.cell.specs.Order.{over}
use Rattle.model.specs.Checks.{Outcome, done, refused, no_departures, first_fault}

pub record Pifo : Type 0 where
  pub ports : ℕ
  pub clock : ℕ
  pub queues : List (List Cell)

-- fresh, the clock is the first slot and the queues are empty
unfoldable pub fresh_pifo : ℕ → ℕ → Pifo
fresh_pifo ports first = record { ports = ports; clock = first; queues = replicate ports [] }

unfoldable pub queued : Pifo → List Cell
queued s = flatten s.queues

-- each new cell joins its output's queue
unfoldable pub join : List Cell → List (List Cell) → List (List Cell)
join [] queues = queues
join (c ∷ cs) queues = join cs (update c.output (λ q. q ++ (c ∷ [])) queues)

-- the cell of highest output priority in a queue, if any
unfoldable pub best : ℕ → List Cell → Option Cell
best ports q = first? (least (over ports) q)

-- the queue without it: all cells that another is over. On the queues that occur, where no two cells share input and
-- slot, just the best cell goes (`rest-just-best` in proofs/PifoRest).
unfoldable pub rest : ℕ → List Cell → List Cell
rest ports q = keep (λ c. some? (λ d. over ports d c) q) q

-- An accepted slot: for each output the cell that it sends, or none, and the switch after it.
pub record Sent : Type 0 where
  pub departures : List (Option Cell)
  pub pifo : Pifo

unfoldable pub run_pifo : Pifo → List Cell → Sent
run_pifo s cs =
    let queues = join cs s.queues in
    record {
      departures = map (best s.ports) queues;
      pifo = record { ports = s.ports; clock = s.clock + 1; queues = map (rest s.ports) queues };
    }

-- 1. arrivals that are no whole number of records, then the clock's end; 2. the checks of the records, with the cells
-- in its own queues before the slot; 3. a refused slot sends nothing; 4. otherwise the slot runs
unfoldable pub slot_pifo : Pifo → Option (List Arrival) → Outcome Sent
slot_pifo s none = refused BrokenTable 0
slot_pifo s (some records) =
    elim (eqb s.clock clock_end) [
      | true ↦ refused ClockEnd 0
      | false ↦
          let cs = map (accepted s.clock) records in
          elim (first_fault s.ports (queued s) cs) [ some f ↦ refused f.0 f.1 | none ↦ done (run_pifo s cs) ]
    ]

-- the departures of a slot call of a switch of so many ports, whatever its outcome
unfoldable pub sent_departures : ℕ → Outcome Sent → List (Option Cell)
sent_departures ports (done d) = d.departures
sent_departures ports (refused r place) = no_departures ports
