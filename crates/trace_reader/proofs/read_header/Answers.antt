-- Each `return` is a case of the header.
use Rattle.std.proofs.Common.{sym, ◌∙◌, arith}
use Rattle.trace.specs.declared.Key.TheVariants.{Ports, First}
use Rattle.trace_line_reader.proofs.Lines.{rest, taken, number-bad}
use Rattle.trace_reader.proofs.Answers.{opening-short, opening-bad-ports, opening-bad-size}
use Rattle.trace_reader.proofs.Answers.{opening-bad-first, opening-open}
use Rattle.trace_reader.proofs.read_header.Goals as goal

pub returns-then-not-decided : goal.returns-then-not-decided
returns-then-not-decided c = sym (opening-short _ _ (sym c.decided.ensures ∙ c.if-not-decided.true))

pub returns-in_default : goal.returns-in_default
returns-in_default c =
    let d = sym c.decided.ensures ∙ c.if-not-decided.false in
    sym (opening-bad-ports _ _ d (number-bad Ports 1 _ c.read_line.ensures c.in_default.is))

pub returns-then-not-ports_in_range : goal.returns-then-not-ports_in_range
returns-then-not-ports_in_range c =
    let d = sym c.decided.ensures ∙ c.if-not-decided.false in
    let p = taken Ports 1 _ c.read_line.ensures c.in-Some.is in
    sym (opening-bad-size _ _ d p.read (sym c.ports_in_range.ensures ∙ c.if-not-ports_in_range.true))

pub slice_bounds-read_line-count : goal.slice_bounds-read_line-count
slice_bounds-read_line-count c = (taken Ports 1 _ c.read_line.ensures c.in-Some.is).within

pub slice_bounds-read_line-start : goal.slice_bounds-read_line-start
slice_bounds-read_line-start c = (taken Ports 1 _ c.read_line.ensures c.in-Some.is).within

pub returns-in_default-read_line : goal.returns-in_default-read_line
returns-in_default-read_line c =
    let d = sym c.decided.ensures ∙ c.if-not-decided.false in
    let p = taken Ports 1 _ c.read_line.ensures c.in-Some.is in
    let r = sym c.ports_in_range.ensures ∙ c.if-not-ports_in_range.false in
    let f = number-bad First 2 (rest c.args.text.now c.in-Some.ports.length) c.read_line-2.ensures c.in_default-read_line.is in
    sym (opening-bad-first _ _ d p.read r f)

pub overflow_add-result : goal.overflow_add-result
overflow_add-result c =
    let p = taken Ports 1 _ c.read_line.ensures c.in-Some.is in
    let f = taken First 2 (rest c.args.text.now c.in-Some.ports.length) c.read_line-2.ensures c.in-Some-read_line.is in
    omega (arith, p, f)

pub returns : goal.returns
returns c =
    let d = sym c.decided.ensures ∙ c.if-not-decided.false in
    let p = taken Ports 1 _ c.read_line.ensures c.in-Some.is in
    let r = sym c.ports_in_range.ensures ∙ c.if-not-ports_in_range.false in
    let f = taken First 2 (rest c.args.text.now c.in-Some.ports.length) c.read_line-2.ensures c.in-Some-read_line.is in
    sym (opening-open _ _ d p.read r f.read (omega (arith, p, f)))
