-- Two numbers of 64 bits are a record.
use borrow.Author.Rules.{rules}
use Rattle.layout.proofs.Number.{bytes?-i}
use Rattle.layout_table.proofs.Entries.{record-copied}
use Rattle.layout_table.proofs.entry.copy_record.Statement.{statement}
use Rattle.layout_table.proofs.entry.copy_record.Tie as tie

start-of-requires : tie.Need-start_of-old-requires
start-of-requires c κs = search rules

start-of-requires-2 : tie.Need-start_of-new-requires
start-of-requires-2 c κs = search rules

read-u64-requires : tie.Need-read_u64-low-requires
read-u64-requires c κs = search rules

add-read-u64 : tie.Need-overflow_add-old
add-read-u64 c = search rules

read-u64-requires-2 : tie.Need-read_u64-high-requires
read-u64-requires-2 c κs = search rules

write-u64-requires : tie.Need-write_u64-requires
write-u64-requires c κs = search rules

add-write-u64 : tie.Need-overflow_add-new
add-write-u64 c = search rules

write-u64-requires-2 : tie.Need-write_u64-requires-2
write-u64-requires-2 c κs = search rules

same_length : tie.Need-shape_of-bytes
same_length c = search rules

returns : tie.Need-returns
returns c =
    record-copied c.args.from c.args.to c.start_of-old.result c.start_of-new.result
    c.read_u64-low.result c.read_u64-high.result c.args.bytes.now c.write_u64.new.bytes
    c.write_u64-2.new.bytes (bytes?-i _ (λ i. (c.slice_known-1.given i).fits)) c.requires.0 c.requires.1
    c.requires.2 c.start_of-old.ensures c.start_of-new.ensures c.read_u64-low.ensures
    c.read_u64-high.ensures c.write_u64.ensures c.write_u64-2.ensures

pub copy_record_spec : {M : Type 1} → statement M
copy_record_spec =
    tie.close
    (tie.spec
    start-of-requires
    start-of-requires-2
    read-u64-requires
    add-read-u64
    read-u64-requires-2
    write-u64-requires
    add-write-u64
    write-u64-requires-2
    same_length
    returns)
