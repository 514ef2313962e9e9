-- Nothing follows the head that leaves, or a cell does.
use Rattle.std.proofs.Common.{◌+◌, ◌*◌, ◌/◌, ◌%◌, ◌≤◌, sym, ◌∙◌, ap, subst}
use Rattle.layout_table.specs.CodeEntries.{flow_word}
use Rattle.layout.specs.Entry.{entry_at}
use Rattle.slot_steps.proofs.Rules.{next-is, heads-end, heads-found}
use Rattle.slot_steps.proofs.heads_left.Goals as goal

pub returns-then-next-ge-CELLS : goal.returns-then-next-ge-CELLS
returns-then-next-ge-CELLS c =
    let a = c.args in
    let next = next-is a.list (a.k % 64) c.without.ensures c.from.ensures c.first-next.ensures in
    c.without-others.ensures
    ∙ sym (heads-end a.table.now a.list a.heads a.k (subst (λ n. 64 ≤ n) next c.if-next-ge-CELLS.true))

pub returns : goal.returns
returns c =
    let a = c.args in
    let next = next-is a.list (a.k % 64) c.without.ensures c.from.ensures c.first-next.ensures in
    let flow =
    c.flow_word_of.ensures.0 ∙ ap (λ n. flow_word (entry_at a.table.now (64 * (a.k / 64) + n)).cell) next in
    heads-found a.table.now a.list a.heads a.k c.with_if.ensures c.without-others.ensures next flow
    c.flow_word_of-2.ensures.0 c.if-next-ge-CELLS.false
