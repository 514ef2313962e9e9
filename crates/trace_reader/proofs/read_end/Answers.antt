-- Each `return` is a case of what stands at the line of `end`.
use Rattle.trace.specs.declared.Key.TheVariants.{End}
use Rattle.trace_line_reader.proofs.Lines.{number-bad, number-got}
use Rattle.trace_reader.proofs.Answers.{end-bad, end-other, end_more, end-end}
use Rattle.trace_reader.proofs.read_end.Goals as goal

pub returns-in_default : goal.returns-in_default
returns-in_default c = end-bad _ _ c.requires (number-bad End 0 _ c.read_line.ensures c.in_default.is)

pub returns-then-end-clock : goal.returns-then-end-clock
returns-then-end-clock c =
    let p = number-got End 0 _ c.read_line.ensures c.in-Some.is in
    end-other _ _ c.requires c.in-Some.end.length p c.if-end-clock.true

pub returns-then-end-text : goal.returns-then-end-text
returns-then-end-text c =
    let p = number-got End 0 _ c.read_line.ensures c.in-Some.is in
    end_more _ _ c.requires _ p c.if-end-clock.false c.if-end-text.true

pub returns : goal.returns
returns c =
    let p = number-got End 0 _ c.read_line.ensures c.in-Some.is in
    end-end _ _ c.requires _ p c.if-end-clock.false c.if-end-text.false
