use Rattle.std.proofs.Common.{◌≡◌, ◌+◌, ◌-◌, sym, ◌∙◌, ap, eqb, arith}
use Rattle.slot_section.specs.Code.{is_unused}
use Rattle.slot_section.proofs.Walks.{gather-start, gather-block, gather-end}
use Rattle.slot_section.proofs.are_unused.Goals as goal
use Rattle.slot_section.proofs.are_unused.Goals.{else-loop-k-test, then-loop-k-test+else-k-end-k-gt8}

pub loop-k-init : goal.loop-k-init
loop-k-init c =
    let a = c.args in
    record {
      begun = omega arith;
      within = omega arith;
      gathered =
          gather-start (is_unused a.bytes.now) a.from (a.to - 8) a.to (omega arith) (omega arith) c.bits_of-bits.result
          c.bits_of-bits.ensures;
    }

pub loop-k-preserved : goal.loop-k-preserved
loop-k-preserved c =
    let a = c.args in
    let l = c.loop-k in
    record {
      begun = omega arith;
      within = omega arith;
      gathered =
          gather-block (is_unused a.bytes.now) a.from (a.to - 8) a.to (omega arith) (omega arith) l.bits
          c.bits_of-bits-in-loop-k.result l.k (l.k + 8) l.invariant.begun (omega arith) l.invariant.gathered
          c.bits_of-bits-in-loop-k.ensures;
    }

pub returns : goal.returns
returns c =
    let a = c.args in
    let l = c.loop-k in
    elim c.loop-k-test.branch [
      | else-loop-k-test w ↦
          ap (λ b. eqb b 0) w.bits-is
          ∙ gather-end (is_unused a.bytes.now) a.from (a.to - 8) a.to (omega arith) (omega arith) l.bits l.k (omega arith)
          l.invariant.within l.invariant.gathered
      | then-loop-k-test+else-k-end-k-gt8 w ↦
          ap (λ b. eqb b 0) w.bits-is
          ∙ gather-end (is_unused a.bytes.now) a.from (a.to - 8) a.to (omega arith) (omega arith) _ (l.k + 8)
          (omega arith) (omega arith)
          (gather-block (is_unused a.bytes.now) a.from (a.to - 8) a.to (omega arith) (omega arith) l.bits
          w.bits_of-bits-in-loop-k.result l.k (l.k + 8) l.invariant.begun (omega arith) l.invariant.gathered
          w.bits_of-bits-in-loop-k.ensures)
    ]
