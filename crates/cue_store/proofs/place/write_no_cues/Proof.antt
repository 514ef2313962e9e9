-- The layout's number over the first of the zeros is a store without cues.
use borrow.Author.Rules.{rules}
use Rattle.cue_store.proofs.PlaceBytes.{no-cues-put}
use Rattle.cue_store.proofs.place.write_no_cues.Statement.{statement}
use Rattle.cue_store.proofs.place.write_no_cues.Tie as tie

clear-requires : tie.Need-clear-requires
clear-requires c κs = search rules

write-u32-requires : tie.Need-write_u32-requires
write-u32-requires c κs = search rules

same_length : tie.Need-shape_of-store
same_length c = search rules

returns : tie.Need-returns
returns c =
    no-cues-put c.args.store.now c.clear.new.bytes
    c.write_u32.new.bytes c.clear.ensures c.write_u32.ensures

pub write_no_cues_spec : {M : Type 1} → statement M
write_no_cues_spec = tie.close (tie.spec clear-requires write-u32-requires same_length returns)
