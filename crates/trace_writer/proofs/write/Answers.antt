-- Each return is one case of the writer's definition.
use Rattle.std.proofs.Common.{sym, ◌∙◌, arith}
use Rattle.trace_writer.proofs.Flat.{fit32-i}
use Rattle.trace_writer.proofs.Writing.{write-size, write-no-text, write-too-long, write-whole}
use Rattle.trace_writer.proofs.write.Goals as goal

pub returns-then-not-ports_in_range : goal.returns-then-not-ports_in_range
returns-then-not-ports_in_range c =
    let a = write-size _ _ _ _ _ (sym c.ports_in_range.ensures ∙ c.if-not-ports_in_range.true) in
    record { value = a.0; out_after = a.1 }

pub returns-then-not-has_text : goal.returns-then-not-has_text
returns-then-not-has_text c =
    let r = sym c.ports_in_range.ensures ∙ c.if-not-ports_in_range.false in
    let n = fit32-i c.args.numbers.now c.type_inv.numbers in
    let a = write-no-text _ _ _ _ _ r n (sym c.has_text.ensures ∙ c.if-not-has_text.true) in
    record { value = a.0; out_after = a.1 }

pub returns-then-out-size : goal.returns-then-out-size
returns-then-out-size c =
    let r = sym c.ports_in_range.ensures ∙ c.if-not-ports_in_range.false in
    let n = fit32-i c.args.numbers.now c.type_inv.numbers in
    let t = sym c.has_text.ensures ∙ c.if-not-has_text.false in
    let a = write-too-long _ _ _ _ _ r n t c.pour_contents-size.ensures c.if-out-size.true in
    record { value = a.0; out_after = a.1 }

pub returns : goal.returns
returns c =
    let r = sym c.ports_in_range.ensures ∙ c.if-not-ports_in_range.false in
    let n = fit32-i c.args.numbers.now c.type_inv.numbers in
    let t = sym c.has_text.ensures ∙ c.if-not-has_text.false in
    let a =
    write-whole _ _ _ _ _ r n t c.pour_contents-size.ensures c.if-out-size.false (omega arith) c.pour_contents.ensures in
    record { value = a.0; out_after = a.1 }
