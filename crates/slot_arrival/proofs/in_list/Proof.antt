-- The first number of the record has the flow and the place.
use Prim.Native.Nat.{◌+◌, ◌*◌, ◌<◌}
use mathlib.Core.Path.{◌≡◌, refl, sym, ◌∙◌, ap}
use native.Mathlib.Omega.{arith}
use borrow.Author.Rules.{rules}
use Rattle.layout.specs.Entry.{entry_at}
use Rattle.layout.specs.Number.{word}
use Rattle.layout.specs.Code.{record_start, place_byte_at}
use Rattle.layout.proofs.Records.{entry_at-output, entry_at-flow, entry_at-place}
use Rattle.layout_table.specs.CodeEntries.{flow_word}
use Rattle.layout_table.proofs.Entries.{head-word}
use Rattle.slot_faults.proofs.Faults.{own-flow}
use Rattle.slot_arrival.proofs.Arriving.{in-list-word}
use Rattle.slot_arrival.proofs.in_list.Statement.{statement}
use Rattle.slot_arrival.proofs.in_list.Tie as tie

start-of-requires : tie.Need-start_of-requires
start-of-requires c κs = search rules

read-u32-requires : tie.Need-read_u32-requires
read-u32-requires c κs = search rules

add-result : tie.Need-overflow_add-result
add-result c = search rules

returns : tie.Need-returns
returns c =
    let a = c.args in
    let bs = a.table.now in
    let own = c.requires.1.1 in
    let e = entry_at bs a.k in
    let output : e.cell.output < 256 =
    omega (arith, entry_at-output bs a.k, c.shared_slice_known-1.given (record_start a.k)) in
    let flow : e.cell.flow < 256 =
    omega (arith, entry_at-flow bs a.k, c.shared_slice_known-1.given (record_start a.k + 1)) in
    let first : c.read_u32.result ≡ flow_word e.cell + 65536 * place_byte_at bs a.k =
    c.read_u32.ensures
    ∙ ap (word bs) c.start_of.ensures
    ∙ head-word bs a.k (omega (arith, c.requires.0)) c.requires.1.0 in
    in-list-word a.c e (place_byte_at bs a.k) c.read_u32.result a.flow (sym (entry_at-place bs a.k)) first
    (omega arith) (omega arith) (own-flow bs a.k a.c _ _ own.0 own.2 output refl own.1)

pub in_list_spec : {M : Type 1} → statement M
in_list_spec = tie.close (tie.spec start-of-requires read-u32-requires add-result returns)
