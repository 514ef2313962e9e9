use Rattle.std.proofs.Common.{◌≡◌, refl, ◌∙◌, ap, arith}
use Rattle.laws.specs.Lists.{all?, between}
use Rattle.slot_section.specs.Code.{is_unused}
use Rattle.slot_section.proofs.Walks.{each-end, gather-more}
use Rattle.slot_section.proofs.bits_of.Goals as goal

pub loop-k-init : goal.loop-k-init
loop-k-init c = let a = c.args in each-end (is_unused a.bytes.now) a.from a.from _ refl (omega arith)

pub loop-k-preserved : goal.loop-k-preserved
loop-k-preserved c =
    let l = c.loop-k in
    gather-more (is_unused c.args.bytes.now) c.args.from l.k l.bits c.record_bits-bits.result (omega arith) l.invariant
    c.record_bits-bits.ensures

pub returns : goal.returns
returns c =
    let a = c.args in
    let end : c.loop-k.k ≡ a.to = omega arith in
    c.loop-k.invariant ∙ ap (λ k. all? (is_unused a.bytes.now) (between a.from k)) end
