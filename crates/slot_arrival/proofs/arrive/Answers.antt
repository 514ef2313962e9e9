-- The cell of the record, of the slot before the clock, enters, and the sets are opened at its position (proofs/Opening).
use Rattle.std.proofs.Common.{◌≡◌, ◌+◌, ◌-◌, ◌*◌, ◌∙◌, ap, arith}
use Rattle.cell.specs.Cell.{accepted}
use Rattle.layout.specs.Entry.{clock_in}
use Rattle.layout.specs.Table.{encode, state_of}
use Rattle.slot_faults.specs.CodeFault.{section_in}
use Rattle.slot_faults.proofs.Stored.{table-length}
use Rattle.slot_arrival.specs.CodeArrival.{entered as entered_by, enter_place}
use Rattle.slot_arrival.proofs.Opening.{place-room, input-low, sets-room, sets-arrived}
use Rattle.slot_arrival.proofs.Typed.{arrival-fits}
use Rattle.slot_arrival.proofs.arrive.Goals as goal
use Rattle.slot_arrival.proofs.arrive.Goals.{After-cell_of, After-enter-at}

-- the cell that enters
cell-is : (c : After-cell_of) → c.cell_of.result ≡ accepted (clock_in c.args.table.now - 1) c.args.a
cell-is c = c.cell_of.ensures ∙ ap (λ k. accepted (k - 1) c.args.a) c.clock_of-clock.ensures

-- its number
at : (c : After-enter-at)
    → c.cell_of.result ≡ accepted (clock_in c.args.table.now - 1) c.args.a
    →
    let a = c.args in
    c.enter-at.result
    ≡ 64 * a.a.input + enter_place (accepted (clock_in a.table.now - 1) a.a) (section_in a.table.now a.a.input)
unfolding accepted
at c is =
    let a = c.args in
    c.enter-at.ensures.value ∙ ap (λ d. 64 * d.input + enter_place d (section_in a.table.now d.input)) is

pub clock_of-clock-requires : goal.clock_of-clock-requires
clock_of-clock-requires c = table-length _ c.requires.may_enter.sound

pub enter-at-requires-clause-input_bound : goal.enter-at-requires-clause-input_bound
unfolding accepted
enter-at-requires-clause-input_bound c =
    let may = c.requires.may_enter in
    rw c.cell_of.ensures (may.input, may.room)

pub enter-at-requires-clause-output_bound : goal.enter-at-requires-clause-output_bound
unfolding accepted
enter-at-requires-clause-output_bound c =
    let may = c.requires.may_enter in
    rw c.cell_of.ensures (may.output, may.flow)

pub overflow_sub-at : goal.overflow_sub-at
overflow_sub-at c =
    let here = goal.at.overflow_sub-at c in
    omega (arith, at here.After-enter-at (cell-is here.After-cell_of))

pub open_sets-requires-clause-input_lt_port_limit : goal.open_sets-requires-clause-input_lt_port_limit
open_sets-requires-clause-input_lt_port_limit c =
    let a = c.args in
    let may = c.requires.may_enter in
    let few = place-room a.table.now a.a may in
    let here = goal.at.open_sets-requires-clause-input_lt_port_limit c in
    (input-low a.table.now a.a may, omega (arith, at here.After-enter-at (cell-is here.After-cell_of)))

pub open_sets-requires-clause-input_bound : goal.open_sets-requires-clause-input_bound
open_sets-requires-clause-input_bound c = sets-room _ _ c.requires.may_enter _ _ _ _ c.requires.sets_of

pub returns-clause-sets_of_2 : goal.returns-clause-sets_of_2
returns-clause-sets_of_2 c =
    let opened = c.open_sets.ensures in
    let here = goal.at.returns-clause-sets_of_2 c in
    let is = cell-is here.After-cell_of in
    sets-arrived _ _ c.requires.may_enter _ _ _ _ c.requires.sets_of (arrival-fits c.args.a _ c.well_formed.1.1.0) _
    (c.enter-at.ensures.table_after ∙ ap (λ d. encode (entered_by d (state_of c.args.table.now))) is) _
    (omega (arith, at here.After-enter-at is)) _ _ _ _ opened.listed_after opened.heads_after opened.crossed_after
    opened.buffered_after

pub returns-clause-fits : goal.returns-clause-fits
returns-clause-fits c = arrival-fits c.args.a _ c.well_formed.1.1.0
