-- The marks, then zeros.
use borrow.Author.Rules.{rules}
use Rattle.fair_memory.proofs.Words.{no-memory}
use Rattle.fair_memory.proofs.write_no_memory.Statement.{statement}
use Rattle.fair_memory.proofs.write_no_memory.Tie as tie

write-u32-requires : tie.Need-write_u32-requires
write-u32-requires c κs = search rules

sub-clear : tie.Need-overflow_sub-clear
sub-clear c = search rules

clear-requires : tie.Need-clear-requires
clear-requires c κs = search rules

same_length : tie.Need-shape_of-memory
same_length c = search rules

returns : tie.Need-returns
returns c =
    let zeros = c.before.before in
    let marks = zeros.before.before.before.before in
    let start = marks.before.before.before in
    no-memory start.args.marks start.args.memory.now marks.write_u32.new.bytes zeros.clear.new.bytes
    start.requires marks.write_u32.ensures zeros.clear.ensures

pub write_no_memory_spec : {M : Type 1} → statement M
write_no_memory_spec =
    tie.close (tie.spec write-u32-requires sub-clear clear-requires same_length returns)
