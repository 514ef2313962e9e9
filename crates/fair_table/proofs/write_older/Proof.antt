-- `fair_table::write_older` meets its contract: the number, the bytes of the older table, and no memory.
-- Assumes nothing.
use native.Mathlib.Omega.{arith}
use mathlib.Core.Path.{refl}
use borrow.Author.Rules.{rules}
use Rattle.layout.proofs.Table.{decode-length, is-table}
use Rattle.fair_table.proofs.Written.{older-written}
use Rattle.fair_table.proofs.write_older.Statement.{statement}
use Rattle.fair_table.proofs.write_older.Tie as tie

write-u32-requires : tie.Need-write_u32-requires
write-u32-requires c κs = search rules

copy-requires : tie.Need-copy-requires
copy-requires c κs =
    let size = decode-length c.args.core.now _ (is-table c.args.core.now c.requires.0) in
    (omega arith, omega (arith, c.requires.1))

sub-write-no-memory : tie.Need-slice_bounds-write_no_memory-count
sub-write-no-memory c = search rules

part-write-no-memory-start : tie.Need-slice_bounds-write_no_memory-start
part-write-no-memory-start c = search rules

part-write-no-memory-end : tie.Need-slice_bounds-write_no_memory-end
part-write-no-memory-end c = search rules

write-no-memory-requires : tie.Need-write_no_memory-requires
write-no-memory-requires c κs = search rules

same_length : tie.Need-shape_of-table
same_length c = search rules

returns : tie.Need-returns
returns c =
    let a = c.args in
    older-written a.number a.core.now a.table.now c.write_u32.new.bytes c.copy.new.bytes _ _
    c.requires.0 c.requires.1 c.write_u32.ensures c.copy.ensures
    c.write_no_memory.ensures refl

pub write_older_spec : {M : Type 1} → statement M
write_older_spec =
    tie.close
    (tie.spec
    write-u32-requires
    copy-requires
    sub-write-no-memory
    part-write-no-memory-start
    part-write-no-memory-end
    write-no-memory-requires
    same_length
    returns)
