-- A line is put in front of those that stand.
use Rattle.std.proofs.Common.{rules, arith, ◌≡◌, ◌≤◌, subst}
use Rattle.model.specs.Fair.{stride}
use Rattle.trace_line_writer.proofs.Pour.{written_byte, written_then}
use Rattle.strides.specs.Text.{stride_line}
use Rattle.strides.proofs.Lines.{Ends, behind, line-room, ends-none, ends-line, ends-text}
use Rattle.strides.proofs.text.Goals as goal

pub loop-weight-init : goal.loop-weight-init
loop-weight-init c = ends-none _ (search rules)

pub overflow_sub-place : goal.overflow_sub-place
overflow_sub-place c =
    let at = c.loop-weight in
    omega (arith, line-room at.weight (omega arith) (omega arith) at.invariant)

pub write_number-place-requires : goal.write_number-place-requires
unfolding stride
write_number-place-requires c =
    let at = c.loop-weight in (
      omega (arith, line-room at.weight (omega arith) (omega arith) at.invariant),
      search rules,
    )

pub loop-weight-preserved : goal.loop-weight-preserved
unfolding stride stride_line
loop-weight-preserved c =
    let at = c.loop-weight in
    let low : 1 ≤ at.weight = omega arith in
    let room : 1 ≤ at.place = omega (arith, line-room at.weight low (omega arith) at.invariant) in
    ends-line at.weight low (omega arith) at.invariant
    (written_then (written_byte at.out at.place _ room) c.write_number-place.ensures)

pub returns : goal.returns
returns c =
    let at = c.loop-weight in
    let none : at.weight ≡ 0 = omega arith in
    ends-text at.out at.place (subst (λ w. Ends (behind w) at.out at.place) none at.invariant)
