-- A line is its key and what is read behind it.
use Rattle.std.proofs.Common.{sym, ap, ◌∙◌, arith, length}
use lib.ListN.{drop}
use Rattle.trace_line_reader.specs.Code.{read_body}
use Rattle.trace_line_reader.specs.Reading.{line_of}
use Rattle.trace_line_reader.proofs.Lines.{line_of-none, read_line-short, read_line-missing, read_line-behind}
use Rattle.trace_line_reader.proofs.Marks.{after-starts, after-starts-not}
use Rattle.trace_line_reader.proofs.read_line.Goals as goal

pub returns-then-text-mark : goal.returns-then-text-mark
returns-then-text-mark c = sym (line_of-none _ (read_line-short _ _ (omega (arith, ap length c.key_text-mark.ensures))))

pub returns-then-not-starts_with : goal.returns-then-not-starts_with
returns-then-not-starts_with c =
    let h = after-starts-not _ _ (rw c.key_text-mark.ensures at c.starts_with.ensures.value) c.if-not-starts_with.true in
    sym (line_of-none _ (read_line-missing _ _ h))

pub returns : goal.returns
returns c =
    let t = c.args.text.now in
    let h = after-starts _ _ (rw c.key_text-mark.ensures at c.starts_with.ensures.value) c.if-not-starts_with.false in
    c.read_number.ensures
    ∙ ap (λ k. line_of t (read_body (drop (length k) t))) c.key_text-mark.ensures
    ∙ ap (line_of t) (sym (read_line-behind _ _ h))
