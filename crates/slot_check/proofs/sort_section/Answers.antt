-- Each question in turn: one that is not answered, or all of them.
use Rattle.std.proofs.Common.{◌≤◌, sym, ◌∙◌, arith}
use Rattle.slot_check.proofs.Parts.{room_of-le}
use Rattle.slot_check.proofs.Sections.{section-full, section-used, section-sound}
use Rattle.slot_check.proofs.sort_section.Goals as goal
use Rattle.slot_check.proofs.sort_section.Goals.{Else-room-count}

-- it has at most 64 entries
few : (c : Else-room-count) → c.count_of-count.result ≤ 64
few c =
    let a = c.args in
    room_of-le a.ports a.input c.count_of-count.result (omega (arith, c.if-room-count.false, c.room.ensures))

pub returns-then-room-count-clause-sound_value : goal.returns-then-room-count-clause-sound_value
returns-then-room-count-clause-sound_value c =
    let a = c.args in
    section-full a.ports a.clock a.bytes.now a.input c.count_of-count.ensures
    (omega (arith, c.if-room-count.true, c.room.ensures))

pub overflow_add-end : goal.overflow_add-end
overflow_add-end c = omega (arith, few (goal.at.overflow_add-end c).Else-room-count)

pub are_unused-requires : goal.are_unused-requires
are_unused-requires c =
    let small = few (goal.at.are_unused-requires c).Else-room-count in
    (c.requires.bytes_len.0, omega (arith, small), omega arith)

pub returns-then-not-are_unused-clause-sound_value : goal.returns-then-not-are_unused-clause-sound_value
returns-then-not-are_unused-clause-sound_value c =
    let a = c.args in
    section-used a.ports a.clock a.bytes.now a.input c.count_of-count.ensures
    (sym c.are_unused.ensures ∙ c.if-not-are_unused.true)

pub sort_entries-requires-clause-first_le_end : goal.sort_entries-requires-clause-first_le_end
sort_entries-requires-clause-first_le_end c =
    let small = few (goal.at.sort_entries-requires-clause-first_le_end c).Else-room-count in
    (omega arith, omega (arith, small))

pub returns-clause-sound_value : goal.returns-clause-sound_value
returns-clause-sound_value c =
    let a = c.args in
    c.sort_entries.ensures.sound_value
    ∙ section-sound a.ports a.clock a.bytes.now a.input c.count_of-count.ensures
    (omega (arith, c.room.ensures, c.if-room-count.false))
    (sym c.are_unused.ensures ∙ c.if-not-are_unused.false)
