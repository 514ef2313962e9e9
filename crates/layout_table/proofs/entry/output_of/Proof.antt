-- The output stands at its place in the record.
use mathlib.Core.Path.{sym, ◌∙◌, ap}
use borrow.Author.Rules.{rules}
use lib.ListN.{get_or}
use Rattle.layout.proofs.Records.{entry_at-output}
use Rattle.layout_table.proofs.entry.output_of.Statement.{statement}
use Rattle.layout_table.proofs.entry.output_of.Tie as tie

start-of-requires : tie.Need-start_of-requires
start-of-requires c κs = search rules

shared-slice-read-result : tie.Need-bounds-bytes-start_of
shared-slice-read-result c = search rules

returns : tie.Need-returns
returns c =
    let a = c.before.before.before.args in
    ap (λ n. get_or a.bytes.now n 0) c.before.start_of.ensures ∙ sym (entry_at-output a.bytes.now a.k)

pub output_of_spec : {M : Type 1} → statement M
output_of_spec = tie.close (tie.spec start-of-requires shared-slice-read-result returns)
