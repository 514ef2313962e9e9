-- Head by head: up to the first ready one none is scheduled, and from there on that one is. The positions of the urgent ones
-- are gathered.
use Rattle.std.proofs.Common.{ℕ, ◌<◌, ◌≡◌, Bool, List, sym, ◌∙◌, ap, subst, arith}
use Rattle.sets.specs.Sets.{first_of}
use Rattle.sets.proofs.Members.{rest-less}
use Rattle.model.specs.Phase.{crosspoint_empty, is_urgent, crosspoints}
use Rattle.layout.specs.Code.{ports_in}
use Rattle.slot_view.specs.CodeView.{waiting_in}
use Rattle.slot_choice.specs.CodeWalk.{CellAt, cell_at, scheduled_at}
use Rattle.slot_choice.proofs.Walked.{walked-cell, walked-known, walked_next, walked_one, walked_none}
use Rattle.slot_choice.proofs.Walked.{early-start, early-known, early-next, ScheduledAt, scheduled-here}
use Rattle.slot_choice.proofs.Walked.{Early, scheduled-end}
use Rattle.slot_choice.proofs.scan.Goals.{else-loop-left-test, then-loop-left-test+then-is_ready}
use Rattle.slot_choice.proofs.scan.Goals as goal

-- whether the crosspoint of the next head is empty
empty : (table : List ℕ) (input left : ℕ) {position : ℕ} {ready : Bool} → position ≡ first_of left
    → ready ≡ crosspoint_empty (crosspoints (waiting_in table)) (cell_at table input position)
    → crosspoint_empty (crosspoints (waiting_in table)) (cell_at table input (first_of left)) ≡ ready
empty table input left is tested =
    ap (λ j. crosspoint_empty (crosspoints (waiting_in table)) (cell_at table input j)) (sym is) ∙ sym tested

------------------------------------------------------------------------
-- up to the first ready head

pub loop-left-init : goal.loop-left-init
loop-left-init c =
    subst (Early c.args.table.now c.args.input 0) (sym c.requires.input_bound.1)
    (early-start _ _ (omega (arith, c.ranges.heads.fits, c.requires.input_bound.1)))

pub is_ready-requires-clause-cell_at : goal.is_ready-requires-clause-cell_at
is_ready-requires-clause-cell_at c =
    let some : 0 < c.loop-left.left = omega (arith, c.loop-left-test.true) in
    subst (CellAt c.args.table.now c.args.input) (sym c.first-position.ensures)
    (walked-cell _ _ c.requires.best_known.known.readable c.requires.input_bound.0 c.loop-left.invariant.walked some)

pub is_urgent-member-requires-clause-cell_at : goal.is_urgent-member-requires-clause-cell_at
is_urgent-member-requires-clause-cell_at c =
    let some : 0 < c.loop-left.left = omega (arith, c.loop-left-test.true) in
    subst (CellAt c.args.table.now c.args.input) (sym c.first-position.ensures)
    (walked-cell _ _ c.requires.best_known.known.readable c.requires.input_bound.0 c.loop-left.invariant.walked some)

pub with_if-urgent-requires : goal.with_if-urgent-requires
with_if-urgent-requires c =
    let some : 0 < c.loop-left.left = omega (arith, c.loop-left-test.true) in
    let here = walked-cell _ _ c.requires.best_known.known.readable c.requires.input_bound.0 c.loop-left.invariant.walked some in
    omega (arith, here.small, c.first-position.ensures)

pub loop-left-smaller : goal.loop-left-smaller
loop-left-smaller c =
    let some : 0 < c.loop-left.left = omega (arith, c.loop-left-test.true) in
    omega (arith, c.rest-left.ensures, rest-less c.loop-left.left some c.loop-left.invariant.walked.visited.fits)

pub loop-left-preserved : goal.loop-left-preserved
loop-left-preserved c =
    let table = c.args.table.now in
    let readable = c.requires.best_known.known.readable in
    let some : 0 < c.loop-left.left = omega (arith, c.loop-left-test.true) in
    let full =
    empty table c.args.input c.loop-left.left c.first-position.ensures c.is_ready.ensures ∙ c.if-is_ready.false in
    rw (c.with_if-urgent.ensures, c.first-position.ensures, c.rest-left.ensures)
    (early-next _ _ readable c.requires.input_bound.0 c.loop-left.invariant some full c.is_urgent-member.result
    (c.is_urgent-member.ensures
    ∙ ap (λ j. is_urgent (ports_in table) (crosspoints (waiting_in table)) (scheduled_at table c.args.input 64)
    (cell_at table c.args.input j)) c.first-position.ensures
    ∙ early-known _ _ readable c.requires.input_bound.0 c.loop-left.invariant some full))

------------------------------------------------------------------------
-- from there on

pub is_urgent-member-requires-in-loop-left-2-clause-cell_at : goal.is_urgent-member-requires-in-loop-left-2-clause-cell_at
is_urgent-member-requires-in-loop-left-2-clause-cell_at c =
    let some : 0 < c.loop-left-2.left = omega (arith, c.loop-left-2-test.true) in
    subst (CellAt c.args.table.now c.args.input) (sym c.first-position-in-loop-left-2.ensures)
    (walked-cell _ _ c.requires.best_known.known.readable c.requires.input_bound.0 c.loop-left-2.invariant some)

pub with_if-urgent-requires-in-loop-left-2 : goal.with_if-urgent-requires-in-loop-left-2
with_if-urgent-requires-in-loop-left-2 c =
    let some : 0 < c.loop-left-2.left = omega (arith, c.loop-left-2-test.true) in
    let here = walked-cell _ _ c.requires.best_known.known.readable c.requires.input_bound.0 c.loop-left-2.invariant some in
    omega (arith, here.small, c.first-position-in-loop-left-2.ensures)

pub loop-left-2-smaller : goal.loop-left-2-smaller
loop-left-2-smaller c =
    let some : 0 < c.loop-left-2.left = omega (arith, c.loop-left-2-test.true) in
    omega (arith, c.rest-left-in-loop-left-2.ensures, rest-less c.loop-left-2.left some c.loop-left-2.invariant.visited.fits)

pub loop-left-2-preserved : goal.loop-left-2-preserved
loop-left-2-preserved c =
    let table = c.args.table.now in
    let readable = c.requires.best_known.known.readable in
    let some : 0 < c.loop-left-2.left = omega (arith, c.loop-left-2-test.true) in
    let position = c.first-position-in-loop-left-2.ensures in
    rw (c.with_if-urgent-in-loop-left-2.ensures, position, c.rest-left-in-loop-left-2.ensures)
    (walked_next _ _ readable c.requires.input_bound.0 c.loop-left-2.invariant some c.is_urgent-member-in-loop-left-2.result
    (c.is_urgent-member-in-loop-left-2.ensures
    ∙ ap (λ j. is_urgent (ports_in table) (crosspoints (waiting_in table))
    (scheduled_at table c.args.input c.first-scheduled.result) (cell_at table c.args.input j))
    position
    ∙ walked-known _ _ readable c.requires.input_bound.0 c.loop-left-2.invariant some _
    (subst (ScheduledAt table c.args.input readable c.requires.input_bound.0) (sym c.first-scheduled.ensures)
    (elim c.loop-left-test.branch [
      | else-loop-left-test w ↦
          scheduled-end _ _ readable c.requires.input_bound.0 c.loop-left.invariant w.loop-left-test.false
      | then-loop-left-test+then-is_ready w ↦
          scheduled-here _ _ readable c.requires.input_bound.0 c.loop-left.invariant (omega (arith, w.loop-left-test.true))
          (empty table c.args.input c.loop-left.left w.first-position.ensures w.is_ready.ensures
          ∙ w.if-is_ready.true)
    ]))))

pub returns-then-scheduled-lt-CELLS : goal.returns-then-scheduled-lt-CELLS
returns-then-scheduled-lt-CELLS c =
    let readable = c.requires.best_known.known.readable in
    walked_one _ _ readable c.requires.input_bound.0 c.loop-left-2.invariant c.loop-left-2-test.false _
    (subst (ScheduledAt c.args.table.now c.args.input readable c.requires.input_bound.0) (sym c.first-scheduled.ensures)
    (elim c.loop-left-test.branch [
      | else-loop-left-test w ↦
          scheduled-end _ _ readable c.requires.input_bound.0 c.loop-left.invariant w.loop-left-test.false
      | then-loop-left-test+then-is_ready w ↦
          scheduled-here _ _ readable c.requires.input_bound.0 c.loop-left.invariant (omega (arith, w.loop-left-test.true))
          (empty c.args.table.now c.args.input c.loop-left.left w.first-position.ensures w.is_ready.ensures
          ∙ w.if-is_ready.true)
    ])) c.if-scheduled-lt-CELLS.true

pub returns-else-scheduled-lt-CELLS : goal.returns-else-scheduled-lt-CELLS
returns-else-scheduled-lt-CELLS c =
    let readable = c.requires.best_known.known.readable in
    walked_none _ _ readable c.requires.input_bound.0 c.loop-left-2.invariant c.loop-left-2-test.false _
    (subst (ScheduledAt c.args.table.now c.args.input readable c.requires.input_bound.0) (sym c.first-scheduled.ensures)
    (elim c.loop-left-test.branch [
      | else-loop-left-test w ↦
          scheduled-end _ _ readable c.requires.input_bound.0 c.loop-left.invariant w.loop-left-test.false
      | then-loop-left-test+then-is_ready w ↦
          scheduled-here _ _ readable c.requires.input_bound.0 c.loop-left.invariant (omega (arith, w.loop-left-test.true))
          (empty c.args.table.now c.args.input c.loop-left.left w.first-position.ensures w.is_ready.ensures
          ∙ w.if-is_ready.true)
    ])) c.if-scheduled-lt-CELLS.false
