-- The numbers of a set begin with that of its first member.
use Rattle.std.proofs.Common.{◌+◌, ◌*◌, sym, ◌∙◌, ap, arith}
use Rattle.sets.proofs.Members.{first-position}
use Rattle.slot_matching.specs.CodeProposing.{next_in}
use Rattle.slot_matching.proofs.Numbers.{next-none, next-some}
use Rattle.slot_matching.proofs.next_in.Goals as goal

pub returns-then-set-eq0 : goal.returns-then-set-eq0
returns-then-set-eq0 c = sym (ap (λ s. next_in s c.args.input) c.if-set-eq0.true ∙ next-none c.args.input)

pub overflow_add-result : goal.overflow_add-result
overflow_add-result c =
    record { fits = omega (arith, c.first.ensures, first-position c.args.set (omega arith) c.ranges.set.fits) }

pub overflow_cast-result : goal.overflow_cast-result
overflow_cast-result c =
    record { fits = omega (arith, c.first.ensures, first-position c.args.set (omega arith) c.ranges.set.fits) }

pub returns : goal.returns
returns c =
    ap (λ f. 64 * c.args.input + f) c.first.ensures
    ∙ sym (next-some c.args.set c.args.input (omega arith) c.ranges.set.fits)
