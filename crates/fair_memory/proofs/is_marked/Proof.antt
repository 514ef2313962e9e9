-- The bit of the output, where a number of 32 bits has one.
use Prim.Native.Nat.{◌/◌, ◌%◌, ◌^◌}
use native.Mathlib.Omega.{arith}
use mathlib.Core.Path.{sym, ap, ◌∙◌}
use borrow.Author.Rules.{rules}
use lib.Dec.{eqb}
use Rattle.model.specs.Fair.{is_fair}
use Rattle.fair_memory.proofs.Words.{no-bit}
use Rattle.fair_memory.proofs.is_marked.Statement.{statement}
use Rattle.fair_memory.proofs.is_marked.Tie as tie

marks-of-requires : tie.Need-marks_of-marks-requires
marks-of-requires c κs = search rules

shr-result : tie.Need-overflow_shr-result
shr-result c = search rules

returns : tie.Need-returns-then-output-lt32
unfolding is_fair
returns c =
    let call = c.before in
    let o = call.before.before.args.output in
    ap (λ marks. eqb (marks / 2 ^ o % 2) 1) call.marks_of-marks.ensures

returns-2 : tie.Need-returns
unfolding is_fair
returns-2 c =
    let call = c.before in
    let o = call.before.before.args.output in
    let marks = call.marks_of-marks.result in
    sym (no-bit marks o (omega arith) (omega arith)) ∙ ap (λ n. eqb (n / 2 ^ o % 2) 1) call.marks_of-marks.ensures

pub is_marked_spec : {M : Type 1} → statement M
is_marked_spec = tie.close (tie.spec marks-of-requires shr-result returns returns-2)
