-- By the next byte: what is read is what stands behind the digits so far.
use Rattle.std.proofs.Common.{[], refl, true, ◌≡◌, ◌+◌, ◌*◌, ◌-◌, sym, ap, ◌∙◌, arith}
use lib.ListN.{drop, get_or, drop_of_length-le}
use Rattle.trace.specs.Line.{is_digit}
use Rattle.trace.proofs.Line.{is_digit-e}
use Rattle.trace_line_reader.proofs.Lines.{line_of-none, line_of-some}
use Rattle.trace_line_reader.proofs.Numbers.{is_digit-ascii, drop_here, read_body-nil, read_body-stray, read_body-first}
use Rattle.trace_line_reader.proofs.Numbers.{continued, continued-nil, continued-line-feed, continued-stray, continued-zero, continued-digit, continued-over}
use Rattle.trace_line_reader.specs.Code.{read_body}
use Rattle.trace_line_reader.proofs.read_number.Goals as goal

pub returns-then-text-start : goal.returns-then-text-start
returns-then-text-start c =
    sym (line_of-none _ (ap read_body (drop_of_length-le _ c.if-text-start.true) ∙ read_body-nil [] refl))

pub returns-then-not-is_ascii_digit : goal.returns-then-not-is_ascii_digit
returns-then-not-is_ascii_digit c =
    let d = sym (is_digit-ascii _) ∙ sym c.is_ascii_digit.ensures.value ∙ c.if-not-is_ascii_digit.true in
    sym (line_of-none _ (ap read_body (drop_here _ _ c.if-text-start.false) ∙ read_body-stray _ _ d))

pub loop-at-init : goal.loop-at-init
loop-at-init c =
    let d = sym (is_digit-ascii _) ∙ sym c.is_ascii_digit.ensures.value ∙ c.if-not-is_ascii_digit.false in
    record {
      small = omega (arith, is_digit-e _ d);
      here = ap read_body (drop_here _ _ c.if-text-start.false) ∙ read_body-first _ _ d
          ∙ ap (λ n. continued n (drop (c.args.start + 1) c.args.text.now)) (sym c.from-number.ensures);
    }

pub returns-then-byte-eq10 : goal.returns-then-byte-eq10
returns-then-byte-eq10 c =
    let l = c.loop-at in
    sym (line_of-some _
    (l.invariant.here ∙ ap (continued l.number) (drop_here _ _ c.loop-at-test.true)
    ∙ continued-line-feed _ _ _ l.invariant.small c.if-byte-eq10.true) (omega arith))

pub returns-then-not-is_ascii_digit-2 : goal.returns-then-not-is_ascii_digit-2
returns-then-not-is_ascii_digit-2 c =
    let l = c.loop-at in
    let d = sym (is_digit-ascii _) ∙ sym c.is_ascii_digit-in-loop-at.ensures.value ∙ c.if-not-is_ascii_digit-2.true in
    sym (line_of-none _
    (l.invariant.here ∙ ap (continued l.number) (drop_here _ _ c.loop-at-test.true)
    ∙ continued-stray _ _ _ c.if-byte-eq10.false d))

pub returns-then-number-eq0 : goal.returns-then-number-eq0
returns-then-number-eq0 c =
    let l = c.loop-at in
    let d = sym (is_digit-ascii _) ∙ sym c.is_ascii_digit-in-loop-at.ensures.value ∙ c.if-not-is_ascii_digit-2.false in
    sym (line_of-none _
    (l.invariant.here ∙ ap (continued l.number) (drop_here _ _ c.loop-at-test.true)
    ∙ continued-zero _ _ _ c.if-number-eq0.true d))

pub returns-then-from-more : goal.returns-then-from-more
returns-then-from-more c =
    let l = c.loop-at in
    let b = get_or c.args.text.now l.at 0 in
    let d : is_digit b ≡ true =
    sym (is_digit-ascii b) ∙ sym c.is_ascii_digit-in-loop-at.ensures.value ∙ c.if-not-is_ascii_digit-2.false in
    let m : 10 * c.from.result + c.from-in-loop-at.result ≡ 10 * l.number + (b - 48) = cc in
    sym (line_of-none _
    (l.invariant.here ∙ ap (continued l.number) (drop_here _ _ c.loop-at-test.true)
    ∙ continued-digit _ _ _ c.if-number-eq0.false d ∙ continued-over _ _ (omega (arith, c.if-from-more.true, c.from-in-loop-at-2.ensures, m))))

pub loop-at-preserved : goal.loop-at-preserved
loop-at-preserved c =
    let l = c.loop-at in
    let b = get_or c.args.text.now l.at 0 in
    let d : is_digit b ≡ true =
    sym (is_digit-ascii b) ∙ sym c.is_ascii_digit-in-loop-at.ensures.value ∙ c.if-not-is_ascii_digit-2.false in
    let m : 10 * c.from.result + c.from-in-loop-at.result ≡ 10 * l.number + (b - 48) = cc in
    record {
      small = omega (arith, c.if-from-more.false, c.from-in-loop-at-2.ensures);
      here = l.invariant.here ∙ ap (continued l.number) (drop_here _ _ c.loop-at-test.true)
          ∙ continued-digit _ _ _ c.if-number-eq0.false d
          ∙ ap (λ n. continued n (drop (l.at + 1) c.args.text.now)) (sym m);
    }

pub returns : goal.returns
returns c =
    let l = c.loop-at in
    sym (line_of-none _
    (l.invariant.here ∙ ap (continued l.number) (drop_of_length-le _ c.loop-at-test.false) ∙ continued-nil _))
