use Rattle.std.proofs.Common.{◌≡◌, ◌<◌, not, ◌||◌, sym, ◌∙◌, ap, arith}
use Rattle.laws.specs.Lists.{pairwise}
use Rattle.laws.proofs.Tests.{or_l}
use Rattle.model.specs.Sound.{other_slot}
use Rattle.layout.specs.Code.{entries_between}
use Rattle.slot_check.proofs.Slots.{met_start, met-stop, met_next}
use Rattle.slot_check.proofs.slots_differ.Goals as goal
use Rattle.slot_check.proofs.slots_differ.Goals.{Else-not-may}

-- two may have one slot: the answer is that of the walk
asked : (c : Else-not-may)
    → let a = c.args in
    pairwise other_slot (entries_between a.bytes.now a.first a.end)
    ≡ (not a.may || pairwise other_slot (entries_between a.bytes.now a.first a.end))
asked c =
    let a = c.args in
    ap (λ b. b || pairwise other_slot (entries_between a.bytes.now a.first a.end)) (sym (ap not c.if-not-may.false))

pub returns-then-not-may : goal.returns-then-not-may
returns-then-not-may c =
    let a = c.args in
    sym (or_l (not a.may) (pairwise other_slot (entries_between a.bytes.now a.first a.end)) (ap not c.if-not-may.true))

pub loop-k-init : goal.loop-k-init
loop-k-init c = met_start c.args.bytes.now c.args.first

pub returns-then-shares_slot : goal.returns-then-shares_slot
returns-then-shares_slot c =
    let low : c.slot_byte_of-byte.result < 256 = omega (arith, c.slot_byte_of-byte.ensures) in
    sym (met-stop _ _ c.loop-k.invariant c.slot_byte_of-byte.result c.slot_byte_of-byte.ensures low _ c.loop-k-test.true
    (sym c.shares_slot.ensures ∙ c.if-shares_slot.true))
    ∙ asked (goal.at.returns-then-shares_slot c).Else-not-may

pub loop-k-preserved : goal.loop-k-preserved
loop-k-preserved c =
    let low : c.slot_byte_of-byte.result < 256 = omega (arith, c.slot_byte_of-byte.ensures) in
    rw c.with.ensures
    (met_next _ _ c.loop-k.invariant c.slot_byte_of-byte.result c.slot_byte_of-byte.ensures low
    (sym c.shares_slot.ensures ∙ c.if-shares_slot.false) (omega arith))

pub returns : goal.returns
returns c =
    let a = c.args in
    let l = c.loop-k in
    let all : l.k ≡ a.end = omega arith in
    sym (ap (λ k. pairwise other_slot (entries_between a.bytes.now a.first k)) (sym all) ∙ l.invariant.apart)
    ∙ asked (goal.at.returns c).Else-not-may
