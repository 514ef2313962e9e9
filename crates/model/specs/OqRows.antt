-- Histories of the output-queued switch worked out by hand, with its table after each call, and the test that the
-- definitions give them. In a row, cells are named by letters: input, output, flow, rank, tag, slot. A cell of rank 5
-- is written "the 5".
use Rattle.std.specs.Prelude.{ℕ, Bool, ◌&&◌, ◌||◌, List, [], ◌∷◌, map, eqb}
use Rattle.std.proofs.Math.Option.{none, some}
use Rattle.laws.specs.Lists.{same_list}
use Rattle.cell.specs.Cell.{same_cell}
use Rattle.cell.specs.declared.Cell.{Cell}
use Rattle.model.specs.State.{Place, buffered, Entry, Switch, fresh, is_listed, is_crossed, is_buffered}
use Rattle.model.specs.Oq.{slot_oq, oq_after}
use Rattle.model.specs.Calls.{Expected, sends, refuses, Call, call, oq_answers, cell}
use Rattle.model.specs.Histories.{record_of}

unfoldable pub same_place : Place → Place → Bool
same_place p q = (is_listed p && is_listed q) || ((is_crossed p && is_crossed q) || (is_buffered p && is_buffered q))

unfoldable pub same_entry : Entry → Entry → Bool
same_entry e f = same_cell e.cell f.cell && same_place e.place f.place

-- a slot call with what it is to answer, and the sections after it
pub record Leaves : Type 0 where
  pub call : Call
  pub sections : List (List Entry)

-- call by call the answer and the sections, entry by entry; last the clock
unfoldable pub oq_leaves : Switch → List Leaves → ℕ → Bool
oq_leaves s [] clock = eqb s.clock clock
oq_leaves s (c ∷ calls) clock =
    let o = slot_oq s (some c.call.arrivals) in
    oq_answers c.call.expected o
    && (same_list (same_list same_entry) (oq_after s o).sections c.sections
    && oq_leaves (oq_after s o) calls clock)

-- the records of these cells, what the call is to answer, and the cells that are left in the buffers, input by input
unfoldable pub leaves : List Cell → Expected → List (List Cell) → Leaves
leaves cs e left =
    record {
      call = call (map record_of cs) e;
      sections = map (map (λ c. record { cell = c; place = buffered })) left;
    }

-- N = 2. Slot 0: a, the 5, and b, the 3, join the buffer of output 1, which sends b; a waits in the section of input
-- 0, and that of input 1 is empty. Slot 1: c, the 7 of a's flow, joins behind a, and d the buffer of output 0. Output 0
-- sends d, and output 1 sends a, which is over c; c alone is left. Slot 2: e, of c's flow, has rank 6, below that of c
-- in the switch: 7 at place 1, and nothing moves. Slot 2 again, without records: output 1 sends c, and the switch is
-- empty.
unfoldable pub two_outputs : Bool
two_outputs =
    let a = cell 0 1 0 5 1 0 in
    let b = cell 1 1 0 3 2 0 in
    let c = cell 0 1 0 7 3 1 in
    let d = cell 1 0 0 7 4 1 in
    let e = cell 0 1 0 6 5 2 in
    oq_leaves (fresh 2 0)
    (leaves (a ∷ b ∷ []) (sends (none ∷ some b ∷ []) 0 0) ((a ∷ []) ∷ [] ∷ [])
    ∷ leaves (c ∷ d ∷ []) (sends (some d ∷ some a ∷ []) 0 0) ((c ∷ []) ∷ [] ∷ [])
    ∷ leaves (e ∷ []) (refuses 7 1) ((c ∷ []) ∷ [] ∷ [])
    ∷ leaves [] (sends (none ∷ some c ∷ []) 0 0) ([] ∷ [] ∷ [])
    ∷ [])
    3

-- N = 2, all to output 0. Slot 0 sends b, the 1, and leaves a, the 5. Slot 1 sends d, the 1; c, the 2 of another flow
-- than a's, stands behind a in the section of input 0, though it is over a and leaves before it.
unfoldable pub last_in_section : Bool
last_in_section =
    let a = cell 0 0 0 5 1 0 in
    let b = cell 1 0 0 1 2 0 in
    let c = cell 0 0 1 2 3 1 in
    let d = cell 1 0 0 1 4 1 in
    oq_leaves (fresh 2 0)
    (leaves (a ∷ b ∷ []) (sends (some b ∷ none ∷ []) 0 0) ((a ∷ []) ∷ [] ∷ [])
    ∷ leaves (c ∷ d ∷ []) (sends (some d ∷ none ∷ []) 0 0) ((a ∷ c ∷ []) ∷ [] ∷ [])
    ∷ leaves [] (sends (some c ∷ none ∷ []) 0 0) ((a ∷ []) ∷ [] ∷ [])
    ∷ leaves [] (sends (some a ∷ none ∷ []) 0 0) ([] ∷ [] ∷ [])
    ∷ [])
    4
