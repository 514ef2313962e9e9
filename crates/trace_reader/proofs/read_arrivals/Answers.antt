-- One arrival further, or the first line that is none.
use Rattle.std.proofs.Common.{sym, ◌∙◌, arith}
use Rattle.trace_reader.proofs.Records.{walked_start, walked_more, walked_stop, walked-full, walked-bad}
use Rattle.trace_reader.proofs.read_arrivals.Goals as goal

pub loop-k-init : goal.loop-k-init
loop-k-init c = walked_start _ _ _ c.requires

pub returns-then-not-begins : goal.returns-then-not-begins
returns-then-not-begins c =
    let d = walked_stop c.loop-k.invariant (sym c.begins.ensures ∙ c.if-not-begins.true) in
    record { value = d.0; numbers_after = d.1 }

pub overflow_add-at : goal.overflow_add-at
overflow_add-at c =
    let b = sym c.begins.ensures ∙ c.if-not-begins.false in
    let w = walked_more c.loop-k.invariant c.loop-k-test.true b c.read_arrival.ensures c.in-Ok.is c.store.ensures in
    omega (arith, w.within)

pub returns-in-Err : goal.returns-in-Err
returns-in-Err c =
    let b = sym c.begins.ensures ∙ c.if-not-begins.false in
    let d = walked-bad c.loop-k.invariant c.loop-k-test.true b c.read_arrival.ensures c.in-Err.is in
    record { value = d.0; numbers_after = d.1 }

pub loop-k-preserved : goal.loop-k-preserved
loop-k-preserved c =
    let b = sym c.begins.ensures ∙ c.if-not-begins.false in
    walked_more c.loop-k.invariant c.loop-k-test.true b c.read_arrival.ensures c.in-Ok.is c.store.ensures

pub returns : goal.returns
returns c =
    let d = walked-full c.loop-k.invariant c.loop-k-test.false in
    record { value = d.0; numbers_after = d.1 }
