-- Only a fair output remembers, and only a flow that a switch has.
use native.Mathlib.Omega.{arith}
use mathlib.Core.Logic.{⊎_elim}
use mathlib.Core.Path.{sym, ◌∙◌}
use Rattle.fair_ranks.proofs.Remembering.{length-given, record-put, record-kept, record-beyond}
use Rattle.fair_ranks.proofs.remember_record.Goals as goal

pub returns-then-index-lt-FLOWS : goal.returns-then-index-lt-FLOWS
returns-then-index-lt-FLOWS c =
    c.write_given.ensures
    ∙ record-put _ c.args.a c.flow_index-index.result (sym c.is_marked.ensures ∙ c.if-is_marked.true)
    c.flow_index-index.ensures

pub returns-else-is_marked : goal.returns-else-is_marked
returns-else-is_marked c =
    let a = c.args.a in
    let size = length-given c.args.memory.now in
    let flow = c.flow_index-index in
    ⊎_elim
    (λ w. record-beyond _ a (omega (arith, size, flow.ensures, w.1)))
    (λ w. record-kept _ a (sym c.is_marked.ensures ∙ w))
    c.else-is_marked.either
