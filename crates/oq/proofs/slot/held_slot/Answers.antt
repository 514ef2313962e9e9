-- Where no output is fair the cells alone take the slot.
use Rattle.std.proofs.Common.{length, sym, ap, ◌∙◌, arith}
use Rattle.layout.specs.Memory.{memory_of}
use Rattle.layout_table.proofs.Places.{known_bytes}
use Rattle.oq.proofs.Held.{whole-size, memory-part, memory-size, core-table, plain-leaves}
use Rattle.oq.proofs.slot.held_slot.Goals as goal

pub slice_bounds-marks_of-count : goal.slice_bounds-marks_of-count
slice_bounds-marks_of-count c = omega (arith, whole-size _ (known_bytes _ c.slice_known-1.given) c.requires.sound)

pub slice_bounds-marks_of-start : goal.slice_bounds-marks_of-start
slice_bounds-marks_of-start c = omega (arith, whole-size _ (known_bytes _ c.slice_known-1.given) c.requires.sound)

pub marks_of-requires : goal.marks_of-requires
marks_of-requires c =
    let bytes = known_bytes _ c.slice_known-1.given in
    ap length (memory-part _ bytes c.requires.sound) ∙ memory-size _ bytes c.requires.sound

pub slice_bounds-sound_slot-end : goal.slice_bounds-sound_slot-end
slice_bounds-sound_slot-end c = omega (arith, whole-size _ (known_bytes _ c.slice_known-1.given) c.requires.sound)

pub sound_slot-requires-clause-table : goal.sound_slot-requires-clause-table
sound_slot-requires-clause-table c = core-table _ (known_bytes _ c.slice_known-1.given) c.requires.sound

pub returns-then-marks_of-eq0 : goal.returns-then-marks_of-eq0
returns-then-marks_of-eq0 c =
    let a = c.args in
    let bytes = known_bytes _ c.slice_known-1.given in
    plain-leaves _ bytes c.requires.sound a.records.now a.answer.now
    (ap (λ l. (memory_of l).fair) (sym (memory-part _ bytes c.requires.sound))
    ∙ sym c.marks_of.ensures
    ∙ c.if-marks_of-eq0.true)
    c.sound_slot.result _ _ c.sound_slot.ensures
