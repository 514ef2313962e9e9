-- The output has no cell, or its cell and the first of its input so far are set beside one another.
use Rattle.std.proofs.Common.{◌+◌, sym, subst, arith}
use Rattle.slot_departure.specs.Code.{Firsts}
use Rattle.slot_departure.proofs.Firsts.{firsts_same, firsts_min}
use Rattle.slot_departure.proofs.first_leaving.Goals.{then-number-lt-NOWHERE, else-number-lt-NOWHERE}
use Rattle.slot_departure.proofs.first_leaving.Goals as goal

pub loop-number-preserved : goal.loop-number-preserved
loop-number-preserved c =
    let best = c.args.best.now in
    let l = c.loop-number in
    elim c.if-number-lt-NOWHERE.branch [
      | then-number-lt-NOWHERE w ↦
          subst (Firsts best (l.number-index + 1)) (sym w.firsts-is)
          (firsts_min best l.number-index l.firsts l.invariant w.min.result w.if-number-lt-NOWHERE.true w.min.ensures)
      | else-number-lt-NOWHERE w ↦
          subst (Firsts best (l.number-index + 1)) (sym w.firsts-is)
          (firsts_same best l.number-index l.firsts l.invariant (λ small. absurd (omega (arith, w.if-number-lt-NOWHERE.false))))
    ]
