-- `layout_table::header::write_fresh` meets its contract: the header put into a cleared buffer is the table of a fresh switch.
-- Assumes nothing.
use Rattle.layout_table.proofs.Fresh.{header-put}
use borrow.Author.Rules.{rules}
use Rattle.layout_table.proofs.header.write_fresh.Statement.{statement}
use Rattle.layout_table.proofs.header.write_fresh.Tie as tie

clear-requires : tie.Need-clear-requires
clear-requires c κs = search rules

write-u32-requires : tie.Need-write_u32-requires
write-u32-requires c κs = search rules

write-u32-requires-2 : tie.Need-write_u32-requires-2
write-u32-requires-2 c κs = search rules

write-u32-requires-3 : tie.Need-write_u32-requires-3
write-u32-requires-3 c κs = search rules

same_length : tie.Need-shape_of-table
same_length c = search rules

returns : tie.Need-returns
returns c =
    let clock = c.before.before in
    let ports = clock.before.before.before.before in
    let layout = ports.before.before.before.before in
    let cleared = layout.before.before.before.before in
    let a = cleared.before.before.before.args in
    header-put a.switch.ports a.switch.clock a.table.now cleared.clear.new.bytes layout.write_u32.new.bytes
    ports.write_u32-2.new.bytes clock.write_u32-3.new.bytes cleared.clear.ensures layout.write_u32.ensures
    ports.write_u32-2.ensures clock.write_u32-3.ensures

pub write_fresh_spec : {M : Type 1} → statement M
write_fresh_spec =
    tie.close
    (tie.spec
    clear-requires
    write-u32-requires
    write-u32-requires-2
    write-u32-requires-3
    same_length
    returns)
