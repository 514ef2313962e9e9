-- The block's answer says how the turn goes: a slot, the end, a bad line, or more text is needed.
use Prim.Native.Nat.{◌+◌, ◌*◌, ◌≤◌}
use native.Mathlib.Omega.{arith}
use mathlib.Core.Path.{◌≡◌, refl, sym}
use borrow.Author.Rules.{rules}
use lib.ListN.{length}
use Rattle.cell.specs.declared.Refusal.TheVariants.{BadLine}
use Rattle.trace.specs.declared.Key.TheVariants.{End}
use Rattle.trace.proofs.Tests.{fits32-i}
use Rattle.trace.specs.Lines.{refusal_text}
use Rattle.layout.proofs.Table.{decode-length}
use Rattle.player_turns.proofs.Engines.{table_is}
use Rattle.player_lines.proofs.Lines.{line-le, wrote-put, wrote-refusal}
use Rattle.player_turns.proofs.Turns.{block_size, numbers-size, next_more, next-end, next-bad, next-stopped, next-ran}
use Rattle.player_turns.proofs.next_turn.Statement.{statement}
use Rattle.player_turns.proofs.next_turn.Tie as tie

-- the number of the line is small enough for what is added to it
line-room : (c : tie.After-clock_of-clock) → c.args.line ≤ 3 + 81 * 4294967295
line-room c = omega (arith, c.requires.1.0, c.clock_of-clock.ensures, c.clock_of-clock.type_inv)

-- the sizes of a block
sizes : (c : tie.In-Slot) → (c.in-Slot.count ≤ 16) × (c.in-Slot.lines ≤ 81)
    × (length c.read_block.new.numbers ≡ 80)
sizes c =
    let a = c.args in
    let size = block_size a.engine a.last a.line a.text.now a.table.now a.out.now
    c.requires.0 c.requires.1.0 c.clock_of-clock.result c.clock_of-clock.ensures c.read_block.ensures.0 c.in-Slot.is in
    let length = numbers-size a.engine a.last a.line a.text.now a.table.now a.out.now
    c.requires.0 c.requires.1.0 c.clock_of-clock.result c.clock_of-clock.ensures c.read_block.ensures.0 c.in-Slot.is
    _ _ c.read_block.ensures.1 refl in
    (size.0, size.1, length)

clock-of-requires : tie.Need-clock_of-clock-requires
clock-of-requires c κs = decode-length _ _ (table_is _ _ c.requires.0)

read-block-requires : tie.Need-read_block-requires
read-block-requires c κs = search rules

enum-known-count : tie.Need-enum_known-count
enum-known-count c = search rules

slice-aggregate-play-slot : tie.Need-slice_bounds-play_slot-end
slice-aggregate-play-slot c = sym (sizes c.before).2

play-slot-requires : tie.Need-play_slot-requires
play-slot-requires c κs =
    let clock = c.clock_of-clock in
    let block = sizes c.before.before.before in
    let few : c.args.line ≤ 3 + 81 * clock.result = omega (arith, c.requires.1.0, clock.ensures) in
    (c.requires.0, ((clock.ensures, few), ((block.2, block.0), c.requires.1.1)))

enum-known-written : tie.Need-enum_known-written
enum-known-written c = search rules

cast-t30 : tie.Need-overflow_cast-result
cast-t30 c = search rules

add-t31 : tie.Need-overflow_add-result
add-t31 c =
    let slot = c.before.before.before.before.before.before.before.before.before in
    omega (arith, line-room slot.before.before.before, (sizes slot).1)

enum-known-written-2 : tie.Need-enum_known-written-in-Stopped-1
enum-known-written-2 c = search rules

over-requires : tie.Need-over-requires
over-requires c κs = search rules

enum_told : tie.Need-enum_told-1
enum_told c = search rules

put-line-requires : tie.Need-put_line-requires
put-line-requires c κs = search rules

over-requires-2 : tie.Need-over-requires-in-End
over-requires-2 c κs = search rules

enum-known-k : tie.Need-enum_known-k
enum-known-k c = search rules

cast-put-refusal : tie.Need-overflow_cast-k
cast-put-refusal c = search rules

add-put-refusal : tie.Need-overflow_add-line
add-put-refusal c = omega (arith, line-room c.before.before.before.before)

put-refusal-requires : tie.Need-put_refusal-written-requires
put-refusal-requires c κs = search rules

over-requires-3 : tie.Need-over-requires-in-Bad
over-requires-3 c κs = search rules

enum-told-2 : tie.Need-enum_told-in-More
enum-told-2 c = search rules

same_length : tie.Need-shape_of-table-in-Ran
same_length c = search rules

same-length-2 : tie.Need-shape_of-out-in-Ran
same-length-2 c = search rules

returns : tie.Need-returns-in-Ran
returns c =
    next-ran _ _ _ _ _ _ c.requires.0 c.requires.1.0 _ c.clock_of-clock.ensures c.read_block.ensures.0 c.in-Slot.is _ _
    c.read_block.ensures.1 refl c.play_slot.ensures c.in-Ran.is

same-length-3 : tie.Need-shape_of-table-in-Stopped
same-length-3 c = search rules

same-length-4 : tie.Need-shape_of-out-in-Stopped
same-length-4 c = search rules

returns-2 : tie.Need-returns-in-Stopped
returns-2 c =
    next-stopped _ _ _ _ _ _ c.requires.0 c.requires.1.0 _ c.clock_of-clock.ensures c.read_block.ensures.0 c.in-Slot.is _ _
    c.read_block.ensures.1 refl c.play_slot.ensures c.in-Stopped.is _ _ _ _ c.over.ensures

same-length-5 : tie.Need-shape_of-table-in-End
same-length-5 c = search rules

same-length-6 : tie.Need-shape_of-out-in-End
same-length-6 c = search rules

returns-3 : tie.Need-returns-in-End
returns-3 c =
    let size = line-le End c.clock_of-clock.result (fits32-i _ (omega (arith, c.clock_of-clock.type_inv))) in
    next-end _ _ _ _ _ _ c.requires.0 c.requires.1.0 _ c.clock_of-clock.ensures c.read_block.ensures.0 _ _ _ _ _ _
    c.over-in-End.ensures c.in-End.is
    (wrote-put (omega (arith, size, c.requires.1.1)) (omega (arith, c.well_formed)) c.put_line.ensures)

same-length-7 : tie.Need-shape_of-table-in-Bad
same-length-7 c = search rules

same-length-8 : tie.Need-shape_of-out-in-Bad
same-length-8 c = search rules

returns-4 : tie.Need-returns-in-Bad
unfolding refusal_text
returns-4 c =
    let room = line-room c.before.before.before.before.before.before.before.before in
    next-bad _ _ _ _ _ _ c.requires.0 c.requires.1.0 _ c.clock_of-clock.ensures c.read_block.ensures.0 _ _ _ _ _ _
    c.over-in-Bad.ensures c.in-Bad.is
    (wrote-refusal BadLine (c.args.line + c.in-Bad.k) (omega (arith, room)) c.requires.1.1
    (omega (arith, c.well_formed)) c.put_refusal-written.ensures)

same-length-9 : tie.Need-shape_of-table-in-More
same-length-9 c = search rules

returns-5 : tie.Need-returns-in-More
returns-5 c =
    next_more _ _ _ _ _ _ c.requires.0 c.requires.1.0 _ c.clock_of-clock.ensures c.read_block.ensures.0 c.in-More.is

pub next_turn_spec : {M : Type 1} → statement M
next_turn_spec =
    tie.close
    (tie.spec
    clock-of-requires
    read-block-requires
    enum-known-count
    slice-aggregate-play-slot
    play-slot-requires
    enum-known-written
    cast-t30
    add-t31
    enum-known-written-2
    over-requires
    enum_told
    put-line-requires
    over-requires-2
    enum-known-k
    cast-put-refusal
    add-put-refusal
    put-refusal-requires
    over-requires-3
    enum-told-2
    same_length
    same-length-2
    returns
    same-length-3
    same-length-4
    returns-2
    same-length-5
    same-length-6
    returns-3
    same-length-7
    same-length-8
    returns-4
    same-length-9
    returns-5)
