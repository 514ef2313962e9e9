-- Four numbers one behind the other.
use native.Mathlib.Omega.{arith}
use mathlib.Core.Path.{◌∙◌, ap₂}
use Prim.Native.Nat.{◌+◌, ◌*◌}
use borrow.Author.Rules.{rules}
use Rattle.layout.proofs.Put.{put_four}
use Rattle.layout.specs.Code.{put}
use Rattle.layout_table.proofs.Entries.{entry-words}
use Rattle.layout_table.proofs.entry.write_entry.Statement.{statement}
use Rattle.layout_table.proofs.entry.write_entry.Tie as tie

start-of-requires : tie.Need-start_of-at-requires
start-of-requires c κs = search rules

mul-write-u32 : tie.Need-overflow_mul-c
mul-write-u32 c = search rules

add-write-u32 : tie.Need-overflow_add-c
add-write-u32 c = search rules

mul-write-u32-2 : tie.Need-overflow_mul-place
mul-write-u32-2 c = search rules

add-write-u32-2 : tie.Need-overflow_add-c-2
add-write-u32-2 c = search rules

write-u32-requires : tie.Need-write_u32-requires
write-u32-requires c κs = search rules

add-write-u32-3 : tie.Need-overflow_add-at
add-write-u32-3 c = search rules

write-u32-requires-2 : tie.Need-write_u32-requires-2
write-u32-requires-2 c κs = search rules

add-write-u32-4 : tie.Need-overflow_add-at-2
add-write-u32-4 c = search rules

write-u32-requires-3 : tie.Need-write_u32-requires-3
write-u32-requires-3 c κs = search rules

add-write-u32-5 : tie.Need-overflow_add-at-3
add-write-u32-5 c = search rules

write-u32-requires-4 : tie.Need-write_u32-requires-4
write-u32-requires-4 c κs = search rules

same_length : tie.Need-shape_of-bytes
same_length c = search rules

returns : tie.Need-returns
returns c =
    let d = c.before.before in
    let x = d.before.before.before.before in
    let b = x.before.before.before.before in
    let a = b.before.before.before.before in
    let at = a.before.before.before.before in
    let start = at.before.before in
    let cell = start.args.c in
    let p = start.args.place in
    let old = start.args.bytes.now in
    let fits = start.requires.1 in
    put_four at.start_of-at.result (cell.output + 256 * cell.flow + 65536 * p) cell.rank cell.tag cell.slot
    old a.write_u32.new.bytes b.write_u32-2.new.bytes x.write_u32-3.new.bytes d.write_u32-4.new.bytes
    (omega (arith, at.start_of-at.ensures, start.requires.0.0, start.requires.0.1))
    a.write_u32.ensures b.write_u32-2.ensures x.write_u32-3.ensures d.write_u32-4.ensures
    ∙ ap₂ (λ n bs. put n 16 bs old) at.start_of-at.ensures
    (entry-words cell p fits.0 fits.1 fits.2 fits.3)

pub write_entry_spec : {M : Type 1} → statement M
write_entry_spec =
    tie.close
    (tie.spec
    start-of-requires
    mul-write-u32
    add-write-u32
    mul-write-u32-2
    add-write-u32-2
    write-u32-requires
    add-write-u32-3
    write-u32-requires-2
    add-write-u32-4
    write-u32-requires-3
    add-write-u32-5
    write-u32-requires-4
    same_length
    returns)
