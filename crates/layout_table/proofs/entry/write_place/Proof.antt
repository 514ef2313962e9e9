-- The byte stands behind the record's start.
use Prim.Native.Nat.{◌+◌}
use mathlib.Core.Path.{ap}
use lib.ListN.{set}
use borrow.Author.Rules.{rules}
use Rattle.layout_table.proofs.entry.write_place.Statement.{statement}
use Rattle.layout_table.proofs.entry.write_place.Tie as tie

start-of-requires : tie.Need-start_of-requires
start-of-requires c κs = search rules

add-bytes : tie.Need-overflow_add-bytes
add-bytes c = search rules

slice-write-bytes : tie.Need-bounds-bytes-start_of
slice-write-bytes c = search rules

same_length : tie.Need-shape_of-bytes
same_length c = search rules

returns : tie.Need-returns
returns c =
    let start = c.before.before in
    ap (λ n. set start.args.bytes.now (n + 2) start.args.place) c.start_of.ensures

pub write_place_spec : {M : Type 1} → statement M
write_place_spec =
    tie.close (tie.spec start-of-requires add-bytes slice-write-bytes same_length returns)
