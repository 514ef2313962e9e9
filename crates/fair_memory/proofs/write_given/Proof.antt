-- The word of the flow is put.
use mathlib.Core.Path.{ap, ◌∙◌}
use native.Mathlib.Omega.{arith}
use borrow.Author.Rules.{rules}
use Rattle.layout.specs.Memory.{memory_of}
use Rattle.fair_memory.specs.Code.{with_given}
use Rattle.layout.proofs.Number.{below-fits32}
use Rattle.layout.proofs.Memory.{memory_of-given}
use Rattle.fair_memory.proofs.write_given.Statement.{statement}
use Rattle.fair_memory.proofs.write_given.Tie as tie

mul-write-u32 : tie.Need-overflow_mul-index
mul-write-u32 c = search rules

add-write-u32 : tie.Need-overflow_add-index
add-write-u32 c = search rules

write-u32-requires : tie.Need-write_u32-requires
write-u32-requires c κs = search rules

same_length : tie.Need-shape_of-memory
same_length c = search rules

returns : tie.Need-returns
unfolding with_given
returns c =
    let call = c.before.before in
    let start = call.before.before.before in
    let a = start.args in
    ap memory_of call.write_u32.ensures
    ∙ memory_of-given a.memory.now start.requires.0 a.index a.rank (below-fits32 a.rank (omega arith))
    start.requires.1

pub write_given_spec : {M : Type 1} → statement M
write_given_spec =
    tie.close (tie.spec mul-write-u32 add-write-u32 write-u32-requires same_length returns)
