-- The name at the place's first byte, and the table behind it.
use borrow.Author.Rules.{rules}
use Rattle.cue_store.proofs.PlaceBytes.{cue-put}
use Rattle.cue_store.proofs.place.write_cue.Statement.{statement}
use Rattle.cue_store.proofs.place.write_cue.Tie as tie

start-of-requires : tie.Need-start_of-at-requires
start-of-requires c κs = search rules

write-u64-requires : tie.Need-write_u64-requires
write-u64-requires c κs = search rules

add-copy : tie.Need-overflow_add-at
add-copy c = search rules

copy-requires : tie.Need-copy-requires
copy-requires c κs = search rules

same_length : tie.Need-shape_of-store
same_length c = search rules

returns : tie.Need-returns
returns c =
    let a = c.args in
    cue-put a.k c.start_of-at.result a.number a.table.now a.store.now c.write_u64.new.bytes
    c.copy.new.bytes c.requires.0 c.requires.1 c.requires.2 c.start_of-at.ensures
    c.write_u64.ensures c.copy.ensures

pub write_cue_spec : {M : Type 1} → statement M
write_cue_spec =
    tie.close
    (tie.spec start-of-requires write-u64-requires add-copy copy-requires same_length returns)
