-- Sixteen bytes are zero if both their halves are.
use Prim.Native.Nat.{◌+◌}
use mathlib.Core.Bool.{◌&&◌}
use mathlib.Core.Path.{sym, ◌∙◌, ap, ap₂}
use borrow.Author.Rules.{rules}
use lib.Dec.{eqb}
use Rattle.sets.proofs.Operations.{or-none}
use Rattle.layout.specs.Number.{number_at}
use Rattle.layout_table.proofs.Places.{known_bytes}
use Rattle.slot_section.proofs.Fields.{is_unused-halves}
use Rattle.slot_section.proofs.record_bits.Statement.{statement}
use Rattle.slot_section.proofs.record_bits.Tie as tie

start-of-requires : tie.Need-start_of-requires
start-of-requires c κs = search rules

read-u64-requires : tie.Need-read_u64-requires
read-u64-requires c κs = search rules

start-of-requires-2 : tie.Need-start_of-requires-2
start-of-requires-2 c κs = search rules

add-read-u64 : tie.Need-overflow_add-start_of
add-read-u64 c = search rules

read-u64-requires-2 : tie.Need-read_u64-requires-2
read-u64-requires-2 c κs = search rules

returns : tie.Need-returns
returns c =
    let bs = c.args.bytes.now in
    or-none c.read_u64.result c.read_u64-2.result
    ∙ ap₂ (λ x y. eqb x 0 && eqb y 0) (c.read_u64.ensures ∙ ap (λ n. number_at 8 n bs) c.start_of.ensures)
    (c.read_u64-2.ensures ∙ ap (λ n. number_at 8 (n + 8) bs) c.start_of-2.ensures)
    ∙ sym
    (is_unused-halves bs (known_bytes bs c.shared_slice_known-1.given) c.requires.0 c.args.k
    c.requires.1)

pub record_bits_spec : {M : Type 1} → statement M
record_bits_spec =
    tie.close
    (tie.spec
    start-of-requires
    read-u64-requires
    start-of-requires-2
    add-read-u64
    read-u64-requires-2
    returns)
