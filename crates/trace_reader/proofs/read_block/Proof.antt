-- `trace_reader::read_block` meets its contract. Assumes nothing.
use mathlib.Core.Path.{sym, ◌∙◌}
use Rattle.trace_reader.proofs.Answers.{block_more, block-known, numbers-end}
use borrow.Author.Rules.{rules}
use Rattle.trace_reader.proofs.read_block.Statement.{statement}
use Rattle.trace_reader.proofs.read_block.Tie as tie

decided-requires : tie.Need-decided-requires
decided-requires c κs = search rules

returns : tie.Need-returns-then-not-decided
returns c =
    let d = sym c.decided.ensures ∙ c.if-not-decided.true in
    block_more _ _ _ d _

begins-requires : tie.Need-begins-requires
begins-requires c κs = search rules

read-end-requires : tie.Need-read_end-requires
read-end-requires c κs = sym c.begins.ensures ∙ c.if-begins.true

returns-2 : tie.Need-returns-then-begins
returns-2 c =
    let d = sym c.decided.ensures ∙ c.if-not-decided.false in
    let b = sym c.begins.ensures ∙ c.if-begins.true in
    block-known _ _ _ d _ (c.read_end.ensures, numbers-end _ _ b _)

read-slot-requires : tie.Need-read_slot-requires
read-slot-requires c κs = sym c.begins.ensures ∙ c.if-begins.false

returns-3 : tie.Need-returns
returns-3 c =
    let d = sym c.decided.ensures ∙ c.if-not-decided.false in
    block-known _ _ _ d _ c.read_slot.ensures

pub read_block_spec : {M : Type 1} → statement M
read_block_spec =
    tie.close
    (tie.spec
    decided-requires
    returns
    begins-requires
    read-end-requires
    returns-2
    read-slot-requires
    returns-3)
