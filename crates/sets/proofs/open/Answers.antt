-- The set as an operation on digits (proofs/Operations).
use Rattle.std.proofs.Common.{false, ◌∙◌, ap, bit_or, arith}
use mathlib.Core.Path.{ap₂}
use Rattle.sets.specs.Sets.{pushed}
use Rattle.sets.proofs.Operations.{opened-or, from_less}
use Rattle.sets.proofs.open.Goals as goal

pub push-requires : goal.push-requires
push-requires c =
    let a = c.args in
    omega (arith, from_less a.set c.ranges.set.fits a.j c.requires.0, c.requires.1, c.from.ensures)

pub returns : goal.returns
returns c =
    let a = c.args in
    ap₂ bit_or c.below.ensures (c.push.ensures ∙ ap (λ s. pushed s false) c.from.ensures)
    ∙ opened-or a.set c.ranges.set.fits a.j c.requires.0 c.requires.1
