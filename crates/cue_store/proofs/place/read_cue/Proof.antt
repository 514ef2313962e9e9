-- The table behind the name, over the whole of the lent one.
use borrow.Author.Rules.{rules}
use Rattle.cue_store.proofs.PlaceBytes.{cue-read}
use Rattle.cue_store.proofs.place.read_cue.Statement.{statement}
use Rattle.cue_store.proofs.place.read_cue.Tie as tie

start-of-requires : tie.Need-start_of-requires
start-of-requires c κs = search rules

add-copy : tie.Need-overflow_add-start_of
add-copy c = search rules

copy-requires : tie.Need-copy-requires
copy-requires c κs = search rules

same_length : tie.Need-shape_of-table
same_length c = search rules

returns : tie.Need-returns
returns c =
    cue-read c.args.k c.start_of.result c.args.store.now c.args.table.now
    c.copy.new.bytes c.requires.2 c.start_of.ensures c.copy.ensures

pub read_cue_spec : {M : Type 1} → statement M
read_cue_spec = tie.close (tie.spec start-of-requires add-copy copy-requires same_length returns)
