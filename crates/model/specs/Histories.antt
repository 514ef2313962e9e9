-- Histories of the switch, worked out by hand from scope 3 and 6, and the test that
-- the definitions give them. In a row, cells are named by letters: input, output, flow, rank, tag, slot. A cell of rank
-- 5 is written "the 5". The tables of a slot are the lists, the crosspoints and the buffers, after arrival and after
-- each phase.
use Rattle.std.specs.Prelude.{ℕ, Bool, ◌&&◌, List, [], ◌∷◌, map, replicate}
use Rattle.std.proofs.Math.Option.{Option, none, some}
use Rattle.laws.specs.Lists.{up_to}
use Rattle.cell.specs.declared.Arrival.{Arrival}
use Rattle.cell.specs.declared.Cell.{Cell}
use Rattle.model.specs.Calls.{Tables, tables, Call, call, Expected, sends, refuses, passes, occupies, crossbar_runs, all_run}
use Rattle.model.specs.Calls.{switch_with, arrival, cell}
use Rattle.model.specs.Fair.{marked}
use Rattle.model.specs.Sound.{sound}

-- A row has N, a clock, slot calls, and the clock after them.
pub data History : Type 0 where
  -- from a fresh switch; the PIFO switch and the output-queued switch answer the same
  fresh : ℕ → ℕ → List Call → ℕ → History
  -- from a switch with these tables, which are sound: a host may lend them, though no fresh switch need come to them
  lent : ℕ → ℕ → Tables → List Call → ℕ → History

unfoldable pub given : History → Bool
given (fresh ports first calls clock) = all_run ports first calls clock
given (lent ports first t calls clock) =
    let s = switch_with ports first t in crossbar_runs (marked 0 s) calls clock && sound s

-- the record that becomes this cell
unfoldable pub record_of : Cell → Arrival
record_of c = arrival c.input c.output c.flow c.rank c.tag

-- a slot that accepts these cells: the tables after arrival, after phase one and after phase two, the departures and
-- the proposals of both phases
unfoldable pub runs : List Cell → Tables → Tables → Tables → List (Option Cell) → ℕ → ℕ → Call
runs cs arrived between settled departures one two =
    call (map record_of cs) (passes arrived between settled (sends departures one two))

-- a slot in which so many crosspoints of each output hold a cell when it chooses, in phase one and in phase two
unfoldable pub crowded : List ℕ → List ℕ → Call → Call
crowded one two c = call c.arrivals (occupies one two c.expected)

-- The show of scope 9.3. Slot 0: a, b, c are normal and scheduled, and none is urgent; output 0 takes b, the 1, then
-- c, the 2. Slot 1: u is blocked by a and over it, so urgent, and alone it is matched by one proposal; output 0 reads
-- no crosspoint then, and takes a in phase two. So output 0 has 3 filled crosspoints and then 2 in slot 0, and that of a
-- in both phases of slot 1.
unfoldable pub three_inputs : History
three_inputs =
    let a = cell 0 0 0 9 1 0 in
    let b = cell 1 0 0 1 2 0 in
    let c = cell 2 0 0 2 3 0 in
    let u = cell 0 0 1 0 4 1 in
    fresh 3 0
    (crowded (3 ∷ 0 ∷ 0 ∷ []) (2 ∷ 0 ∷ 0 ∷ [])
    (runs (a ∷ b ∷ c ∷ [])
    (tables ((a ∷ []) ∷ (b ∷ []) ∷ (c ∷ []) ∷ []) [] [])
    (tables ([] ∷ [] ∷ [] ∷ []) (a ∷ c ∷ []) (b ∷ []))
    (tables ([] ∷ [] ∷ [] ∷ []) (a ∷ []) (b ∷ c ∷ []))
    (some b ∷ none ∷ none ∷ []) 0 0)
    ∷ crowded (1 ∷ 0 ∷ 0 ∷ []) (1 ∷ 0 ∷ 0 ∷ [])
    (runs (u ∷ [])
    (tables ((u ∷ []) ∷ [] ∷ [] ∷ []) (a ∷ []) (c ∷ []))
    (tables ([] ∷ [] ∷ [] ∷ []) (a ∷ []) (c ∷ u ∷ []))
    (tables ([] ∷ [] ∷ [] ∷ []) [] (c ∷ u ∷ a ∷ []))
    (some u ∷ none ∷ none ∷ []) 1 0)
    ∷ call [] (sends (some c ∷ none ∷ none ∷ []) 0 0)
    ∷ call [] (sends (some a ∷ none ∷ none ∷ []) 0 0)
    ∷ [])
    4

-- Two urgent cells of a pair of ports. Slot 0 leaves p and q at their crosspoints. Slot 1: a is urgent and refused for
-- t, the 1; in phase two v, the 2 at its crosspoint, is over a. Slot 2: b goes to the front, before a. Both are blocked
-- by p, c by q, and over p and q, so all are urgent. Output 0 keeps c, the 6, and refuses b, the 8; then input 0
-- proposes a, the 5, which is kept: three proposals. Phase two: of b and c output 0 keeps c.
unfoldable pub two_of_pair : History
two_of_pair =
    let p = cell 0 0 0 90 1 0 in
    let q = cell 1 0 0 91 2 0 in
    let r = cell 2 0 0 1 3 0 in
    let s = cell 3 0 0 2 4 0 in
    let a = cell 0 0 1 5 5 1 in
    let t = cell 2 0 0 1 6 1 in
    let v = cell 3 0 0 2 7 1 in
    let b = cell 0 0 2 8 8 2 in
    let c = cell 1 0 1 6 9 2 in
    fresh 4 0
    (runs (p ∷ q ∷ r ∷ s ∷ [])
    (tables ((p ∷ []) ∷ (q ∷ []) ∷ (r ∷ []) ∷ (s ∷ []) ∷ []) [] [])
    (tables ([] ∷ [] ∷ [] ∷ [] ∷ []) (p ∷ q ∷ s ∷ []) (r ∷ []))
    (tables ([] ∷ [] ∷ [] ∷ [] ∷ []) (p ∷ q ∷ []) (r ∷ s ∷ []))
    (some r ∷ none ∷ none ∷ none ∷ []) 0 0
    ∷ runs (a ∷ t ∷ v ∷ [])
    (tables ((a ∷ []) ∷ [] ∷ (t ∷ []) ∷ (v ∷ []) ∷ []) (p ∷ q ∷ []) (s ∷ []))
    (tables ((a ∷ []) ∷ [] ∷ [] ∷ [] ∷ []) (p ∷ q ∷ v ∷ []) (s ∷ t ∷ []))
    (tables ((a ∷ []) ∷ [] ∷ [] ∷ [] ∷ []) (p ∷ q ∷ []) (s ∷ t ∷ v ∷ []))
    (some t ∷ none ∷ none ∷ none ∷ []) 3 0
    ∷ runs (b ∷ c ∷ [])
    (tables ((b ∷ a ∷ []) ∷ (c ∷ []) ∷ [] ∷ [] ∷ []) (p ∷ q ∷ []) (s ∷ v ∷ []))
    (tables ((b ∷ []) ∷ (c ∷ []) ∷ [] ∷ [] ∷ []) (p ∷ q ∷ []) (s ∷ v ∷ a ∷ []))
    (tables ((b ∷ []) ∷ [] ∷ [] ∷ [] ∷ []) (p ∷ q ∷ []) (s ∷ v ∷ a ∷ c ∷ []))
    (some s ∷ none ∷ none ∷ none ∷ []) 3 2
    ∷ [])
    3

-- Slot 1: h, the 5, is blocked by p and over it, so urgent; s, the 1, and t, the 2, are scheduled and first in their
-- lists. Output 0 keeps s, and each made one proposal. s and t go to their crosspoints, and output 0 takes s; in phase
-- two t is over h, which is not urgent. A rank of 4 is a falling one: h waits in the list. Slot 2: w goes to the front
-- and is scheduled; h stands behind it and is not urgent, so nothing is matched and output 0 takes p. In phase two h is
-- normal.
unfoldable pub behind_scheduled : History
behind_scheduled =
    let p = cell 0 0 0 9 1 0 in
    let q = cell 1 0 0 1 2 0 in
    let r = cell 2 0 0 2 3 0 in
    let h = cell 0 0 1 5 4 1 in
    let s = cell 1 0 0 1 5 1 in
    let t = cell 2 0 0 2 6 1 in
    let w = cell 0 1 0 7 7 2 in
    fresh 3 0
    (call (map record_of (p ∷ q ∷ r ∷ [])) (sends (some q ∷ none ∷ none ∷ []) 0 0)
    ∷ runs (h ∷ s ∷ t ∷ [])
    (tables ((h ∷ []) ∷ (s ∷ []) ∷ (t ∷ []) ∷ []) (p ∷ []) (r ∷ []))
    (tables ((h ∷ []) ∷ [] ∷ [] ∷ []) (p ∷ t ∷ []) (r ∷ s ∷ []))
    (tables ((h ∷ []) ∷ [] ∷ [] ∷ []) (p ∷ []) (r ∷ s ∷ t ∷ []))
    (some s ∷ none ∷ none ∷ []) 3 0
    ∷ call (arrival 0 0 1 4 8 ∷ []) (refuses 7 1)
    ∷ runs (w ∷ [])
    (tables ((w ∷ h ∷ []) ∷ [] ∷ [] ∷ []) (p ∷ []) (r ∷ t ∷ []))
    (tables ((h ∷ []) ∷ [] ∷ [] ∷ []) [] (r ∷ t ∷ w ∷ p ∷ []))
    (tables ([] ∷ [] ∷ [] ∷ []) [] (r ∷ t ∷ w ∷ p ∷ h ∷ []))
    (some r ∷ some w ∷ none ∷ []) 0 0
    ∷ [])
    3

-- Slot 0 leaves p, the 9, at its crosspoint and r, the 6, in the buffer; slot 1 goes as in the row above and leaves a
-- in the list. Slot 2: b and a are urgent; input 0 proposes b, the first in its list, and output 0 keeps it. Of the
-- buffer's 6 and 2 both are over b, the 8, and one over a, the 5: by the smaller cushion a would have gone first.
unfoldable pub list_order : History
list_order =
    let p = cell 0 0 0 9 1 0 in
    let q = cell 1 0 0 1 2 0 in
    let r = cell 2 0 0 6 3 0 in
    let a = cell 0 0 1 5 4 1 in
    let s = cell 1 0 0 1 5 1 in
    let t = cell 2 0 1 2 6 1 in
    let b = cell 0 0 2 8 7 2 in
    fresh 3 0
    (call (map record_of (p ∷ q ∷ r ∷ [])) (sends (some q ∷ none ∷ none ∷ []) 0 0)
    ∷ call (map record_of (a ∷ s ∷ t ∷ [])) (sends (some s ∷ none ∷ none ∷ []) 3 0)
    ∷ runs (b ∷ [])
    (tables ((b ∷ a ∷ []) ∷ [] ∷ [] ∷ []) (p ∷ []) (r ∷ t ∷ []))
    (tables ((a ∷ []) ∷ [] ∷ [] ∷ []) (p ∷ []) (r ∷ t ∷ b ∷ []))
    (tables ([] ∷ [] ∷ [] ∷ []) (p ∷ []) (r ∷ t ∷ b ∷ a ∷ []))
    (some t ∷ none ∷ none ∷ []) 1 1
    ∷ [])
    3

-- Slot 0 leaves a, the 9, and b, the 3, at their crosspoints. Slot 1: h, the 5, is blocked by a, but b is over it: not
-- urgent, and nothing is matched. Output 0 takes b, and in phase two h is urgent and goes straight.
unfoldable pub not_over_all : History
not_over_all =
    let a = cell 0 0 0 9 1 0 in
    let b = cell 1 0 0 3 2 0 in
    let c = cell 2 0 0 1 3 0 in
    let d = cell 3 0 0 2 4 0 in
    let h = cell 0 0 1 5 5 1 in
    fresh 4 0
    (call (map record_of (a ∷ b ∷ c ∷ d ∷ [])) (sends (some c ∷ none ∷ none ∷ none ∷ []) 0 0)
    ∷ runs (h ∷ [])
    (tables ((h ∷ []) ∷ [] ∷ [] ∷ [] ∷ []) (a ∷ b ∷ []) (d ∷ []))
    (tables ((h ∷ []) ∷ [] ∷ [] ∷ [] ∷ []) (a ∷ []) (d ∷ b ∷ []))
    (tables ([] ∷ [] ∷ [] ∷ [] ∷ []) (a ∷ []) (d ∷ b ∷ h ∷ []))
    (some d ∷ none ∷ none ∷ none ∷ []) 0 1
    ∷ [])
    2

-- u is blocked by z, stands first and is over z, so urgent. s, the 3, is scheduled and first in its list. x is normal,
-- and its crosspoint holds p; so y is scheduled, but not first, and takes no part. Output 0 keeps s and refuses u:
-- two proposals. s is not urgent and goes to its crosspoint, y to its own, and output 0 takes y, the 1. In phase two s
-- is over u, x is scheduled, and output 0 takes s. Output 0 has z, s and y and then z and s, output 1 p and then x.
unfoldable pub scheduled_matched : History
scheduled_matched =
    let z = cell 0 0 0 9 1 0 in
    let u = cell 0 0 1 5 2 1 in
    let s = cell 1 0 0 3 3 2 in
    let p = cell 2 1 0 1 4 0 in
    let x = cell 2 1 0 2 5 1 in
    let y = cell 2 0 0 1 6 2 in
    let before = tables ((u ∷ []) ∷ (s ∷ []) ∷ (x ∷ y ∷ []) ∷ []) (z ∷ p ∷ []) [] in
    lent 3 3 before
    (crowded (3 ∷ 1 ∷ 0 ∷ []) (2 ∷ 1 ∷ 0 ∷ [])
    (runs [] before
    (tables ((u ∷ []) ∷ [] ∷ (x ∷ []) ∷ []) (z ∷ s ∷ []) (y ∷ p ∷ []))
    (tables ((u ∷ []) ∷ [] ∷ [] ∷ []) (z ∷ []) (y ∷ p ∷ s ∷ x ∷ []))
    (some y ∷ some p ∷ none ∷ []) 2 0)
    ∷ [])
    4

-- p is of x's rank and came earlier, so p is over x: x is normal, but its crosspoint is full. y is scheduled. Outputs
-- 0 and 1 take p and y; in phase two x is scheduled.
unfoldable pub full_crosspoint : History
full_crosspoint =
    let p = cell 0 0 0 3 1 0 in
    let x = cell 0 0 0 3 2 1 in
    let y = cell 0 1 0 5 3 2 in
    let before = tables ((x ∷ y ∷ []) ∷ [] ∷ []) (p ∷ []) [] in
    lent 2 3 before
    (runs [] before
    (tables ((x ∷ []) ∷ [] ∷ []) [] (p ∷ y ∷ []))
    (tables ([] ∷ [] ∷ []) [] (p ∷ y ∷ x ∷ []))
    (some p ∷ some y ∷ []) 0 0
    ∷ [])
    4

-- u goes to the front, before the scheduled s. It is blocked by z and over z and y: urgent, and alone in the matching,
-- as s is not first. u goes straight, so input 0 does not send s, and output 0 takes neither z nor y. In phase two s is
-- sent, and output 0 takes y, the 8. Output 0 has z and y in both phases, output 1 none and then s.
unfoldable pub straight_alone : History
straight_alone =
    let z = cell 0 0 0 9 1 0 in
    let y = cell 1 0 0 8 2 0 in
    let s = cell 0 1 0 4 3 1 in
    let u = cell 0 0 1 5 4 2 in
    lent 2 2
    (tables ((s ∷ []) ∷ [] ∷ []) (z ∷ y ∷ []) [])
    (crowded (2 ∷ 0 ∷ []) (2 ∷ 1 ∷ [])
    (runs (u ∷ [])
    (tables ((u ∷ s ∷ []) ∷ [] ∷ []) (z ∷ y ∷ []) [])
    (tables ((s ∷ []) ∷ [] ∷ []) (z ∷ y ∷ []) (u ∷ []))
    (tables ([] ∷ [] ∷ []) (z ∷ []) (u ∷ s ∷ y ∷ []))
    (some u ∷ some s ∷ []) 1 0)
    ∷ [])
    3

-- n goes right behind b, the last of its flow; e goes to the front, since k, of its flow, is at a crosspoint and not in
-- the list. No head is blocked. a and d are scheduled, e is not: k, the 5, is over it and fills its crosspoint. Outputs
-- 0 and 1 take a, the 2, and d; in phase two b is scheduled, and output 0 takes b, the 3.
unfoldable pub arrivals : History
arrivals =
    let a = cell 0 0 0 2 1 1 in
    let b = cell 0 0 0 3 2 2 in
    let c = cell 0 1 1 1 3 3 in
    let d = cell 1 1 0 4 4 2 in
    let k = cell 1 0 0 5 5 0 in
    let n = cell 0 0 0 3 6 4 in
    let e = cell 1 0 0 6 7 4 in
    lent 2 4
    (tables ((a ∷ b ∷ c ∷ []) ∷ (d ∷ []) ∷ []) (k ∷ []) [])
    (runs (n ∷ e ∷ [])
    (tables ((a ∷ b ∷ n ∷ c ∷ []) ∷ (e ∷ d ∷ []) ∷ []) (k ∷ []) [])
    (tables ((b ∷ n ∷ c ∷ []) ∷ (e ∷ []) ∷ []) (k ∷ []) (a ∷ d ∷ []))
    (tables ((n ∷ c ∷ []) ∷ (e ∷ []) ∷ []) (k ∷ []) (a ∷ d ∷ b ∷ []))
    (some a ∷ some d ∷ []) 0 0
    ∷ [])
    5

-- Equal ranks and slots, N = 2, slot 1: input 1 goes first.
unfoldable pub tie_of_inputs : History
tie_of_inputs =
    let a = cell 0 0 0 4 1 1 in
    let b = cell 1 0 0 4 2 1 in
    fresh 2 1
    (runs (a ∷ b ∷ [])
    (tables ((a ∷ []) ∷ (b ∷ []) ∷ []) [] [])
    (tables ([] ∷ [] ∷ []) (a ∷ []) (b ∷ []))
    (tables ([] ∷ [] ∷ []) [] (a ∷ b ∷ []))
    (some b ∷ none ∷ []) 0 0
    ∷ call [] (sends (some a ∷ none ∷ []) 0 0)
    ∷ [])
    3

-- Three equal ranks in each of slots 0, 1 and 2, N = 3. Those of slot s leave from input s on, in slots 3 s and after:
-- their slot has the turn, and not the slot in which they leave.
unfoldable pub turn_of_each : History
turn_of_each =
    let at : ℕ → ℕ → Cell = λ slot input. cell input 0 0 4 input slot in
    let three : ℕ → List Arrival = λ slot. map (λ input. record_of (at slot input)) (up_to 3) in
    let leaves : Cell → Expected = λ c. sends (some c ∷ none ∷ none ∷ []) 0 0 in
    fresh 3 0
    (call (three 0) (leaves (at 0 0))
    ∷ call (three 1) (leaves (at 0 1))
    ∷ call (three 2) (leaves (at 0 2))
    ∷ call [] (leaves (at 1 1))
    ∷ call [] (leaves (at 1 2))
    ∷ call [] (leaves (at 1 0))
    ∷ call [] (leaves (at 2 2))
    ∷ call [] (leaves (at 2 0))
    ∷ call [] (leaves (at 2 1))
    ∷ [])
    9

-- N = 16, slot 15: input 15 goes first, and then the round starts again.
unfoldable pub turn_of_the_last_input : History
turn_of_the_last_input =
    let a = cell 0 0 0 4 1 15 in
    let b = cell 1 0 0 4 2 15 in
    let c = cell 15 0 0 4 3 15 in
    let leaves : Cell → Expected = λ c. sends (some c ∷ replicate 15 none) 0 0 in
    fresh 16 15
    (call (map record_of (a ∷ b ∷ c ∷ [])) (leaves c)
    ∷ call [] (leaves a)
    ∷ call [] (leaves b)
    ∷ [])
    18

-- Equal ranks: in slot 1 output 0 takes c, of slot 0 and input 2, before d, of slot 1 and input 0.
unfoldable pub tie_of_slots : History
tie_of_slots =
    let a = cell 0 0 0 1 1 0 in
    let b = cell 1 0 0 2 2 0 in
    let c = cell 2 0 0 4 3 0 in
    let d = cell 0 0 0 4 4 1 in
    fresh 3 0
    (call (map record_of (a ∷ b ∷ c ∷ [])) (sends (some a ∷ none ∷ none ∷ []) 0 0)
    ∷ runs (d ∷ [])
    (tables ((d ∷ []) ∷ [] ∷ [] ∷ []) (c ∷ []) (b ∷ []))
    (tables ([] ∷ [] ∷ [] ∷ []) (d ∷ []) (b ∷ c ∷ []))
    (tables ([] ∷ [] ∷ [] ∷ []) [] (b ∷ c ∷ d ∷ []))
    (some b ∷ none ∷ none ∷ []) 0 0
    ∷ call [] (sends (some c ∷ none ∷ none ∷ []) 0 0)
    ∷ call [] (sends (some d ∷ none ∷ none ∷ []) 0 0)
    ∷ [])
    4

-- Slot 0 leaves p and q at their crosspoints. Slot 1: u and v, equal in rank and slot, are urgent; output 0 keeps v, as
-- input 1 goes first in slot 1, and both made a proposal. In phase two u is alone.
unfoldable pub tie_of_urgent : History
tie_of_urgent =
    let p = cell 0 0 0 9 1 0 in
    let q = cell 1 0 0 9 2 0 in
    let r = cell 2 0 0 1 3 0 in
    let s = cell 3 0 0 2 4 0 in
    let u = cell 0 0 1 5 5 1 in
    let v = cell 1 0 1 5 6 1 in
    fresh 4 0
    (call (map record_of (p ∷ q ∷ r ∷ s ∷ [])) (sends (some r ∷ none ∷ none ∷ none ∷ []) 0 0)
    ∷ runs (u ∷ v ∷ [])
    (tables ((u ∷ []) ∷ (v ∷ []) ∷ [] ∷ [] ∷ []) (p ∷ q ∷ []) (s ∷ []))
    (tables ((u ∷ []) ∷ [] ∷ [] ∷ [] ∷ []) (p ∷ q ∷ []) (s ∷ v ∷ []))
    (tables ([] ∷ [] ∷ [] ∷ [] ∷ []) (p ∷ q ∷ []) (s ∷ u ∷ v ∷ []))
    (some s ∷ none ∷ none ∷ none ∷ []) 2 1
    ∷ [])
    2

-- After slot 0 a, the 9, is at its crosspoint and c, the 2, in the buffer; b, the 1, has left. A rank below a's falls,
-- and so does one below c's; out of turn comes before it. A rank below b's passes: e goes through its crosspoint, and a
-- follows in phase two.
unfoldable pub falling_ranks : History
falling_ranks =
    let a = cell 0 0 0 9 1 0 in
    let b = cell 1 0 0 1 2 0 in
    let c = cell 2 0 0 2 3 0 in
    let e = cell 1 0 0 0 4 1 in
    fresh 3 0
    (call (map record_of (a ∷ b ∷ c ∷ [])) (sends (some b ∷ none ∷ none ∷ []) 0 0)
    ∷ call (arrival 0 0 0 8 5 ∷ []) (refuses 7 1)
    ∷ call (arrival 0 0 1 0 5 ∷ arrival 2 0 0 1 6 ∷ []) (refuses 7 2)
    ∷ call (arrival 0 1 0 0 5 ∷ arrival 0 0 0 8 6 ∷ []) (refuses 6 2)
    ∷ runs (e ∷ [])
    (tables ([] ∷ (e ∷ []) ∷ [] ∷ []) (a ∷ []) (c ∷ []))
    (tables ([] ∷ [] ∷ [] ∷ []) (a ∷ []) (c ∷ e ∷ []))
    (tables ([] ∷ [] ∷ [] ∷ []) [] (c ∷ e ∷ a ∷ []))
    (some e ∷ none ∷ none ∷ []) 0 0
    ∷ [])
    2

-- Input 1 has 64 cells: 62 in the buffer, x at a crosspoint, y in the list. Another is refused at its place, after its
-- rank was looked at. Without one, output 0 sends the earliest of the equal ranks; so input 1 has 63, and m passes.
unfoldable pub full_input : History
full_input =
    let x = cell 1 0 0 1 62 62 in
    let y = cell 1 0 0 1 63 63 in
    let n = cell 0 1 0 1 64 64 in
    let m = cell 1 1 0 1 65 65 in
    lent 2 64
    (tables ([] ∷ (y ∷ []) ∷ []) (x ∷ []) (map (λ k. cell 1 0 0 1 k k) (up_to 62)))
    (call (map record_of (n ∷ m ∷ [])) (refuses 8 2)
    ∷ call (map record_of (n ∷ cell 1 0 0 0 66 64 ∷ [])) (refuses 7 2)
    ∷ call (map record_of (n ∷ [])) (sends (some (cell 1 0 0 1 0 0) ∷ some n ∷ []) 0 0)
    ∷ call (map record_of (m ∷ [])) (sends (some (cell 1 0 0 1 1 1) ∷ some m ∷ []) 0 0)
    ∷ [])
    66

-- Ports come before flows, flows before turns, and a record before the next.
unfoldable pub order_of_checks : History
order_of_checks =
    fresh 2 0
    (call (arrival 2 0 8 1 1 ∷ []) (refuses 4 1)
    ∷ call (arrival 0 2 8 1 1 ∷ []) (refuses 4 1)
    ∷ call (arrival 0 0 8 1 1 ∷ []) (refuses 5 1)
    ∷ call (arrival 1 0 0 1 1 ∷ arrival 1 0 8 1 2 ∷ []) (refuses 5 2)
    ∷ call (arrival 1 0 0 1 1 ∷ arrival 0 0 0 1 2 ∷ []) (refuses 6 2)
    ∷ call (arrival 0 0 8 1 1 ∷ arrival 2 0 0 1 2 ∷ []) (refuses 5 1)
    ∷ [])
    0

-- Slot 4,294,967,294 is the last; the clock's end comes before the records are looked at.
unfoldable pub last_slot : History
last_slot =
    let a = cell 0 0 0 1 1 4294967294 in
    fresh 1 4294967294
    (call (map record_of (a ∷ [])) (sends (some a ∷ []) 0 0)
    ∷ call [] (refuses 3 0)
    ∷ call (arrival 1 0 8 1 2 ∷ []) (refuses 3 0)
    ∷ [])
    4294967295

-- There too equal ranks take turns: 4,294,967,294 mod 3 is 2.
unfoldable pub turn_of_the_last_slot : History
turn_of_the_last_slot =
    let at : ℕ → Cell = λ input. cell input 0 0 4 input 4294967294 in
    fresh 3 4294967294
    (call (map (λ input. record_of (at input)) (up_to 3)) (sends (some (at 2) ∷ none ∷ none ∷ []) 0 0)
    ∷ call [] (refuses 3 0)
    ∷ [])
    4294967295
