-- The place stands at its place in the record.
use Prim.Native.Nat.{◌+◌}
use mathlib.Core.Path.{◌≡◌, sym, ◌∙◌, ap}
use borrow.Author.Rules.{rules}
use lib.ListN.{get_or}
use Rattle.layout.specs.Table.{place_of}
use Rattle.layout.specs.Code.{place_byte_at}
use Rattle.layout.proofs.Records.{place_byte_at-byte, entry_at-place}
use Rattle.layout_table.proofs.entry.place_of.Statement.{statement}
use Rattle.layout_table.proofs.entry.place_of.Tie as tie

start-of-requires : tie.Need-start_of-requires
start-of-requires c κs = search rules

add-result : tie.Need-overflow_add-result
add-result c = search rules

shared-slice-read-result : tie.Need-bounds-bytes-start_of
shared-slice-read-result c = search rules

returns : tie.Need-returns
returns c =
    let a = c.before.before.before.args in
    let bs = a.bytes.now in
    let at = c.before.start_of.result in
    let byte : get_or bs (at + 2) 0 ≡ place_byte_at bs a.k =
    ap (λ n. get_or bs (n + 2) 0) c.before.start_of.ensures ∙ sym (place_byte_at-byte bs a.k) in
    (byte, ap place_of byte ∙ sym (entry_at-place bs a.k))

pub place_of_spec : {M : Type 1} → statement M
place_of_spec = tie.close (tie.spec start-of-requires add-result shared-slice-read-result returns)
