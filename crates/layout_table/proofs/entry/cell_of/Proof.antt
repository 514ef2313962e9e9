-- A cell, field by field.
use mathlib.Core.Path.{sym}
use borrow.Author.Rules.{rules}
use Rattle.layout.proofs.Records.{entry_at-input}
use Rattle.layout_table.proofs.entry.cell_of.Statement.{statement}
use Rattle.layout_table.proofs.entry.cell_of.Tie as tie

cast-t4 : tie.Need-overflow_cast-result
cast-t4 c = search rules

output-of-requires : tie.Need-output_of-requires
output-of-requires c κs = search rules

cast-t6 : tie.Need-overflow_cast-result-2
cast-t6 c = search rules

flow-of-requires : tie.Need-flow_of-requires
flow-of-requires c κs = search rules

cast-t8 : tie.Need-overflow_cast-result-3
cast-t8 c = search rules

rank-of-requires : tie.Need-rank_of-requires
rank-of-requires c κs = search rules

tag-of-requires : tie.Need-tag_of-requires
tag-of-requires c κs = search rules

slot-of-requires : tie.Need-slot_of-requires
slot-of-requires c κs = search rules

returns : tie.Need-returns
returns c =
    let read = c.before.before.before.before in
    let a = read.before.before.args in
    λ i.
    record {
      input = sym (entry_at-input a.bytes.now a.k) i;
      output = read.output_of.ensures i;
      flow = c.before.before.before.flow_of.ensures i;
      rank = c.before.before.rank_of.ensures i;
      tag = c.before.tag_of.ensures i;
      slot = c.slot_of.ensures i;
    }

pub cell_of_spec : {M : Type 1} → statement M
cell_of_spec =
    tie.close
    (tie.spec
    cast-t4
    output-of-requires
    cast-t6
    flow-of-requires
    cast-t8
    rank-of-requires
    tag-of-requires
    slot-of-requires
    returns)
