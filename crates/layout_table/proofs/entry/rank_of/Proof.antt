-- The rank stands at its place in the record.
use Prim.Native.Nat.{◌+◌}
use mathlib.Core.Path.{sym, ◌∙◌, ap}
use borrow.Author.Rules.{rules}
use Rattle.layout.specs.Number.{word}
use Rattle.layout.proofs.Records.{entry_at-rank}
use Rattle.layout_table.proofs.entry.rank_of.Statement.{statement}
use Rattle.layout_table.proofs.entry.rank_of.Tie as tie

start-of-requires : tie.Need-start_of-requires
start-of-requires c κs = search rules

add-read-u32 : tie.Need-overflow_add-start_of
add-read-u32 c = search rules

read-u32-requires : tie.Need-read_u32-requires
read-u32-requires c κs = search rules

returns : tie.Need-returns
returns c =
    let a = c.before.before.before.args in
    c.read_u32.ensures
    ∙ ap (λ n. word a.bytes.now (n + 4)) c.before.start_of.ensures
    ∙ sym (entry_at-rank a.bytes.now a.k)

pub rank_of_spec : {M : Type 1} → statement M
rank_of_spec = tie.close (tie.spec start-of-requires add-read-u32 read-u32-requires returns)
