-- From the last input to the first, each is pushed as one that has the key or not.
use Rattle.std.proofs.Common.{◌-◌, ◌^◌, ◌<◌, ◌≤◌, refl, ◌∙◌, ap, arith}
use lib.Pow.{pow_mono}
use Rattle.sets.specs.Sets.{pushed, set_from}
use Rattle.sets.proofs.Members.{set_from-lt, set_back}
use Rattle.slot_leaders.specs.CodeKeys.{has_key}
use Rattle.slot_leaders.proofs.holders_of.Goals as goal

pub loop-input-init : goal.loop-input-init
unfolding set_from
loop-input-init c = refl

pub push-holders-requires : goal.push-holders-requires
push-holders-requires c =
    let l = c.loop-input in
    let some : 0 < l.input = c.loop-input-test.true in
    let few : 16 - l.input ≤ 63 = omega arith in
    let most : 2 ^ (16 - l.input) ≤ 2 ^ 63 = pow_mono few in
    omega (arith, l.invariant, set_from-lt (has_key c.args.row.now c.args.key) l.input (16 - l.input))

pub loop-input-preserved : goal.loop-input-preserved
loop-input-preserved c =
    let l = c.loop-input in
    let has = has_key c.args.row.now c.args.key in
    c.push-holders.ensures
    ∙ ap (λ s. pushed s (has (l.input - 1))) l.invariant
    ∙ set_back has l.input 16 c.loop-input-test.true l.auto.input
