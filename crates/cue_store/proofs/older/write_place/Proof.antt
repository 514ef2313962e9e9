-- The name, the table's number, the older table and zeros, one behind the other.
use mathlib.Core.Path.{◌∙◌, ap}
use borrow.Author.Rules.{rules}
use Rattle.cue_store.specs.CodeOlder.{number_for}
use Rattle.cue_store.proofs.OlderPlaces.{place-put}
use Rattle.cue_store.proofs.older.write_place.Statement.{statement}
use Rattle.cue_store.proofs.older.write_place.Tie as tie

old-start-of-requires : tie.Need-old_start_of-from-requires
old-start-of-requires c κs = search rules

start-of-requires : tie.Need-start_of-at-requires
start-of-requires c κs = search rules

add-table : tie.Need-overflow_add-table
add-table c = search rules

read-u64-requires : tie.Need-read_u64-requires
read-u64-requires c κs = search rules

number-for-requires : tie.Need-number_for-number-requires
number-for-requires c κs = search rules

copy-requires : tie.Need-copy-requires
copy-requires c κs = search rules

write-u32-requires : tie.Need-write_u32-requires
write-u32-requires c κs = search rules

add-copy : tie.Need-overflow_add-from
add-copy c = search rules

add-copy-2 : tie.Need-overflow_add-table-2
add-copy-2 c = search rules

copy-requires-2 : tie.Need-copy-requires-2
copy-requires-2 c κs = search rules

add-clear : tie.Need-overflow_add-table-3
add-clear c = search rules

clear-requires : tie.Need-clear-requires
clear-requires c κs = search rules

same_length : tie.Need-shape_of-store
same_length c = search rules

returns : tie.Need-returns
returns c =
    let a = c.args in
    place-put a.k c.old_start_of-from.result c.start_of-at.result c.number_for-number.result
    a.old.now a.store.now c.copy.new.bytes c.write_u32.new.bytes c.copy-2.new.bytes
    c.clear.new.bytes c.requires.0 c.requires.1 c.requires.2 c.old_start_of-from.ensures
    c.start_of-at.ensures (c.number_for-number.ensures ∙ ap number_for c.read_u64.ensures)
    c.copy.ensures c.write_u32.ensures c.copy-2.ensures c.clear.ensures

pub write_place_spec : {M : Type 1} → statement M
write_place_spec =
    tie.close
    (tie.spec
    old-start-of-requires
    start-of-requires
    add-table
    read-u64-requires
    number-for-requires
    copy-requires
    write-u32-requires
    add-copy
    add-copy-2
    copy-requires-2
    add-clear
    clear-requires
    same_length
    returns)
