-- The last digit of what is left is written.
use Rattle.std.proofs.Common.{ℕ, ◌+◌, ◌-◌, ◌*◌, ◌/◌, ◌%◌, ◌≡◌, ◌++◌, ◌∷◌, [], sym, ap, ◌∙◌, arith}
use Rattle.trace.specs.Line.{decimal}
use Rattle.trace.proofs.Lengths.{decimal-tens}
use Rattle.trace_line_writer.proofs.Decimals.{length-decimal-some, decimal-one}
use Rattle.trace_line_writer.proofs.Pour.{left-byte, left-done}
use Rattle.trace_line_writer.proofs.write_number.Goals as goal

pub overflow_sub-place : goal.overflow_sub-place
overflow_sub-place c = omega (arith, length-decimal-some c.loop-rest.rest)

pub bounds-out-place : goal.bounds-out-place
bounds-out-place c = omega (arith, length-decimal-some c.loop-rest.rest)

pub bounds-out-place-in-loop-rest : goal.bounds-out-place-in-loop-rest
bounds-out-place-in-loop-rest c = omega (arith, length-decimal-some c.loop-rest.rest)

pub returns-then-rest-lt10 : goal.returns-then-rest-lt10
returns-then-rest-lt10 c =
    let rest = c.loop-rest.rest in
    let h = c.if-rest-lt10.true in
    let e : rest % 10 ≡ rest = omega (arith, h) in
    left-done (left-byte _ (decimal-one rest h ∙ ap (λ d. (48 + d) ∷ []) e) c.loop-rest.invariant)

-- the digit that is written is the last one
digit : (n : ℕ) → n - 10 * (n / 10) ≡ n % 10
digit n = omega arith

pub loop-rest-preserved : goal.loop-rest-preserved
loop-rest-preserved c =
    let rest = c.loop-rest.rest in
    left-byte _
    (decimal-tens rest (omega (arith, c.if-rest-lt10.false)) ∙ ap (λ d. decimal (rest / 10) ++ ((48 + d) ∷ [])) (sym (digit rest)))
    c.loop-rest.invariant
