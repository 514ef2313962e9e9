-- One byte more is put.
use Rattle.std.proofs.Common.{◌≡◌, sym, drop, length-drop, arith}
use lib.Seq.{get_or-drop}
use Rattle.layout.proofs.Runs.{put-more}
use Rattle.layout.proofs.run.copy.Goals as goal

pub loop-i-preserved : goal.loop-i-preserved
loop-i-preserved c =
    let a = c.args in
    let l = c.loop-i in
    put-more a.at l.i _ (drop a.start a.from.now) a.bytes.now l.bytes (omega arith)
    (omega (arith, length-drop a.start a.from.now)) l.invariant
    (sym (get_or-drop a.start a.from.now l.i 0))
