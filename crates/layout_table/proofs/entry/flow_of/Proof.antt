-- The flow stands at its place in the record.
use Prim.Native.Nat.{◌+◌}
use mathlib.Core.Path.{sym, ◌∙◌, ap}
use borrow.Author.Rules.{rules}
use lib.ListN.{get_or}
use Rattle.layout.proofs.Records.{entry_at-flow}
use Rattle.layout_table.proofs.entry.flow_of.Statement.{statement}
use Rattle.layout_table.proofs.entry.flow_of.Tie as tie

start-of-requires : tie.Need-start_of-requires
start-of-requires c κs = search rules

add-result : tie.Need-overflow_add-result
add-result c = search rules

shared-slice-read-result : tie.Need-bounds-bytes-start_of
shared-slice-read-result c = search rules

returns : tie.Need-returns
returns c =
    let a = c.before.before.before.args in
    ap (λ n. get_or a.bytes.now (n + 1) 0) c.before.start_of.ensures ∙ sym (entry_at-flow a.bytes.now a.k)

pub flow_of_spec : {M : Type 1} → statement M
flow_of_spec = tie.close (tie.spec start-of-requires add-result shared-slice-read-result returns)
