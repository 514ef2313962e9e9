-- A fault, or the slot with the ranks made, which are then remembered.
use Rattle.std.proofs.Common.{◌≡◌, length, map, sym, ap, ◌∙◌, arith}
use Rattle.laws.specs.Lists.{all?}
use Rattle.cell.specs.Checked.{no_fault}
use Rattle.cell.proofs.Checked.{handed_on}
use Rattle.model.specs.CodeFair.{rankable}
use Rattle.model.specs.Fair.{make}
use Rattle.layout.specs.Fair.{memory_in}
use Rattle.layout.specs.Memory.{memory_of}
use Rattle.layout.specs.Table.{table_size}
use Rattle.layout.proofs.Table.{decode-length}
use Rattle.layout_table.proofs.Places.{known_bytes}
use Rattle.slot_faults.proofs.Faults.{clear-not}
use Rattle.oq.proofs.Held.{whole-size, memory-part, memory-size, core-table, two_size, two-memory}
use Rattle.oq.proofs.Held.{fault-leaves, clear-rankable, served-clear, fair-leaves}
use Rattle.oq.proofs.slot.fair_slot.Goals as goal
use Rattle.oq.proofs.slot.fair_slot.Goals.{After-sound_slot}

-- the cells keep their length
core-size : (c : After-sound_slot) → length c.sound_slot.new.table ≡ table_size
core-size c =
    c.sound_slot.auto.table
    ∙ decode-length _ _ (core-table c.args.table.now (known_bytes _ c.slice_known-1.given) c.requires.sound).0

-- the ranks were made from the memory of the table
ranked : (c : After-sound_slot)
    → let a = c.args in
    c.make_ranks.new.records ≡ map (make (memory_of (memory_in a.table.now))) a.records.now
ranked c =
    c.make_ranks.ensures
    ∙ ap (λ l. map (make (memory_of l)) c.args.records.now)
    (memory-part c.args.table.now (known_bytes _ c.slice_known-1.given) c.requires.sound)

pub table_fault-requires-clause-table_len : goal.table_fault-requires-clause-table_len
table_fault-requires-clause-table_len c = whole-size _ (known_bytes _ c.slice_known-1.given) c.requires.sound

pub table_fault-requires-clause-core : goal.table_fault-requires-clause-core
table_fault-requires-clause-core c = (core-table _ (known_bytes _ c.slice_known-1.given) c.requires.sound).0

pub returns-in_err-table_fault : goal.returns-in_err-table_fault
returns-in_err-table_fault c =
    let a = c.args in
    fault-leaves a.table.now (known_bytes _ c.slice_known-1.given) c.requires.sound a.records.now a.answer.now _ _
    (sym c.table_fault.ensures ∙ c.in_err-table_fault.was) (handed_on _ _ c.from_residual.ensures.1)

pub slice_bounds-make_ranks-count : goal.slice_bounds-make_ranks-count
slice_bounds-make_ranks-count c = omega (arith, whole-size _ (known_bytes _ c.slice_known-1.given) c.requires.sound)

pub slice_bounds-make_ranks-start : goal.slice_bounds-make_ranks-start
slice_bounds-make_ranks-start c = omega (arith, whole-size _ (known_bytes _ c.slice_known-1.given) c.requires.sound)

pub make_ranks-requires-clause-memory_len : goal.make_ranks-requires-clause-memory_len
make_ranks-requires-clause-memory_len c =
    let bytes = known_bytes _ c.slice_known-1.given in
    ap length (memory-part _ bytes c.requires.sound) ∙ memory-size _ bytes c.requires.sound

pub make_ranks-requires-clause-all_rankable : goal.make_ranks-requires-clause-all_rankable
make_ranks-requires-clause-all_rankable c =
    let a = c.args in
    let bytes = known_bytes _ c.slice_known-1.given in
    ap (λ l. all? (rankable (memory_of l)) a.records.now) (memory-part _ bytes c.requires.sound)
    ∙ clear-rankable a.table.now bytes c.requires.sound a.records.now a.answer.now
    (sym c.table_fault.ensures ∙ c.in_ok-table_fault.was)

pub slice_bounds-sound_slot-end : goal.slice_bounds-sound_slot-end
slice_bounds-sound_slot-end c = omega (arith, whole-size _ (known_bytes _ c.slice_known-1.given) c.requires.sound)

pub sound_slot-requires-clause-table : goal.sound_slot-requires-clause-table
sound_slot-requires-clause-table c = core-table _ (known_bytes _ c.slice_known-1.given) c.requires.sound

pub returns-in_err-sound_slot : goal.returns-in_err-sound_slot
returns-in_err-sound_slot c =
    let a = c.args in
    let at = (goal.at.returns-in_err-sound_slot c).After-sound_slot in
    let bytes = known_bytes _ c.slice_known-1.given in
    let ran =
    served-clear a.table.now bytes c.requires.sound a.records.now a.answer.now
    (sym c.table_fault.ensures ∙ c.in_ok-table_fault.was) c.make_ranks.new.records (ranked at) c.requires.fits
    c.sound_slot.result c.sound_slot.new.table c.sound_slot.new.answer (core-size at) c.sound_slot.ensures in
    absurd (clear-not (sym ran ∙ c.in_err-sound_slot.was))

pub slice_bounds-remember-count : goal.slice_bounds-remember-count
slice_bounds-remember-count c =
    let at = (goal.at.slice_bounds-remember-count c).After-sound_slot in
    omega (
      arith,
      two_size c.args.table.now (known_bytes _ c.slice_known-1.given) c.requires.sound c.sound_slot.new.table (core-size at),
    )

pub slice_bounds-remember-start : goal.slice_bounds-remember-start
slice_bounds-remember-start c =
    let at = (goal.at.slice_bounds-remember-start c).After-sound_slot in
    omega (
      arith,
      two_size c.args.table.now (known_bytes _ c.slice_known-1.given) c.requires.sound c.sound_slot.new.table (core-size at),
    )

pub remember-requires : goal.remember-requires
remember-requires c =
    let at = (goal.at.remember-requires c).After-sound_slot in
    let bytes = known_bytes _ c.slice_known-1.given in (
      ap length (two-memory c.args.table.now bytes c.requires.sound c.sound_slot.new.table (core-size at))
          ∙ memory-size _ bytes c.requires.sound,
      omega (arith, c.requires.room, c.sound_slot.auto.answer),
    )

pub returns : goal.returns
returns c =
    let a = c.args in
    let at = (goal.at.returns c).After-sound_slot in
    let bytes = known_bytes _ c.slice_known-1.given in
    let t = c.requires.sound in
    fair-leaves a.table.now bytes t a.records.now a.answer.now
    (sym c.table_fault.ensures ∙ c.in_ok-table_fault.was) c.make_ranks.new.records (ranked at) c.requires.fits no_fault
    c.sound_slot.new.table c.sound_slot.new.answer (core-size at)
    (sym c.in_ok-sound_slot.was ∙ c.sound_slot.ensures.0, c.sound_slot.ensures.1) c.remember.new.memory
    (known_bytes _ c.type_inv.table)
    (c.remember.auto.memory
    ∙ ap length (two-memory a.table.now bytes t c.sound_slot.new.table (core-size at))
    ∙ memory-size a.table.now bytes t)
    c.remember.ensures
