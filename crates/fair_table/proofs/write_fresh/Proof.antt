-- `fair_table::write_fresh` meets its contract: the number, the table of a fresh switch, and no memory.
-- Assumes nothing.
use mathlib.Core.Path.{refl, ap, ◌∙◌}
use lib.ListN.{length}
use borrow.Author.Rules.{rules}
use Rattle.fair_table.proofs.Written.{fresh-written, fresh-room}
use Rattle.fair_table.proofs.write_fresh.Statement.{statement}
use Rattle.fair_table.proofs.write_fresh.Tie as tie

write-u32-requires : tie.Need-write_u32-requires
write-u32-requires c κs = search rules

fresh-requires : tie.Need-fresh-requires
fresh-requires c κs = search rules

sub-write-fresh : tie.Need-slice_bounds-write_fresh-count
sub-write-fresh c = search rules

part-write-fresh-start : tie.Need-slice_bounds-write_fresh-start
part-write-fresh-start c = search rules

part-write-fresh-end : tie.Need-slice_bounds-write_fresh-end
part-write-fresh-end c = search rules

write-fresh-requires : tie.Need-write_fresh-requires
write-fresh-requires c κs = search rules

sub-write-no-memory : tie.Need-slice_bounds-write_no_memory-count
sub-write-no-memory c = search rules

part-write-no-memory-start : tie.Need-slice_bounds-write_no_memory-start
part-write-no-memory-start c = search rules

part-write-no-memory-end : tie.Need-slice_bounds-write_no_memory-end
part-write-no-memory-end c = search rules

write-no-memory-requires : tie.Need-write_no_memory-requires
write-no-memory-requires c κs = search rules

returns : tie.Need-returns
returns c =
    let a = c.args in
    fresh-written a.number a.ports a.first a.marks _ _ a.table.now c.write_u32.new.bytes _
    c.write_fresh.new.table _ _ c.requires c.write_u32.ensures c.fresh.ensures.0
    c.fresh.ensures.1 c.write_fresh.ensures refl c.write_no_memory.ensures refl

same_length : tie.Need-shape_of-table
same_length c =
    let a = c.args in
    ap length (returns c) ∙ fresh-room a.number a.ports a.first a.marks a.table.now c.requires

pub write_fresh_spec : {M : Type 1} → statement M
write_fresh_spec =
    tie.close
    (tie.spec
    write-u32-requires
    fresh-requires
    sub-write-fresh
    part-write-fresh-start
    part-write-fresh-end
    write-fresh-requires
    sub-write-no-memory
    part-write-no-memory-start
    part-write-no-memory-end
    write-no-memory-requires
    same_length
    returns)
