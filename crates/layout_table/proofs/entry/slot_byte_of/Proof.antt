-- The slot's first byte is its low one.
use Prim.Native.Nat.{◌+◌}
use mathlib.Core.Path.{◌∙◌, ap}
use native.Mathlib.Omega.{arith}
use borrow.Author.Rules.{rules}
use lib.ListN.{get_or}
use Rattle.layout_table.proofs.Spare.{slot-byte}
use Rattle.layout_table.proofs.entry.slot_byte_of.Statement.{statement}
use Rattle.layout_table.proofs.entry.slot_byte_of.Tie as tie

start-of-requires : tie.Need-start_of-requires
start-of-requires c κs = search rules

add-result : tie.Need-overflow_add-result
add-result c = search rules

shared-slice-read-result : tie.Need-bounds-bytes-start_of
shared-slice-read-result c = search rules

returns : tie.Need-returns
returns c =
    let known = c.before.before in
    let a = known.before.args in
    ap (λ n. get_or a.bytes.now (n + 12) 0) c.before.start_of.ensures
    ∙ slot-byte a.bytes.now (λ i. (known.shared_slice_known-1.given i).fits) a.k (omega arith)

pub slot_byte_of_spec : {M : Type 1} → statement M
slot_byte_of_spec =
    tie.close (tie.spec start-of-requires add-result shared-slice-read-result returns)
