-- Cell by cell, those passed are looked at for their outputs (proofs/Buffers).
use Prim.Native.Nat.{◌<◌}
use native.Mathlib.Omega.{arith}
use borrow.Author.Rules.{rules}
use Rattle.sets.specs.Sets.{first_of}
use Rattle.sets.proofs.Members.{rest-less}
use Rattle.slot_view.proofs.Own.{table-readable}
use Rattle.slot_loading.proofs.Walk.{walk-position}
use Rattle.slot_loading.proofs.Buffers.{Choosing, choosing-start, choosing-this, choosing-next, choosing-end}
use Rattle.slot_loading.proofs.load_buffered.Statement.{statement}
use Rattle.slot_loading.proofs.load_buffered.Tie as tie

abbrev invariant-loop : tie.invariant-loop-left
invariant-loop table input buffered best₀ rivals₀ left₀ best rivals left = Choosing table input best rivals left

abbrev decreases-loop : tie.decreases-loop-left
decreases-loop table input buffered best₀ rivals₀ left₀ best rivals left = left

-- where a position is left
module _ (c : tie.In-loop-left invariant-loop decreases-loop) where
  some : 0 < c.loop-left.left
  some = omega (arith, c.loop-left-test.true)

  position : first_of c.loop-left.left < 64
  position = walk-position c.loop-left.invariant.walk some

  port : c.args.input < 16
  port =
      omega (arith, c.requires.1.0, (table-readable c.args.table.now c.requires.0).ports)

loop-holds : tie.Need-loop-left-init invariant-loop decreases-loop
loop-holds c =
    let a = c.args in
    rw c.requires.1.1.0
    (choosing-start a.table.now c.requires.0 a.input c.requires.1.0 a.best.now a.rivals.now
    c.requires.1.1.1)

mul-choose-cell : tie.Need-overflow_mul-input invariant-loop decreases-loop
mul-choose-cell c = omega (arith, port c)

first-requires : tie.Need-first-requires invariant-loop decreases-loop
first-requires c κs = search rules

add-choose-cell : tie.Need-overflow_add-input invariant-loop decreases-loop
add-choose-cell c = omega (arith, port c.before, position c.before, c.first.ensures)

choose-cell-requires : tie.Need-choose_cell-requires invariant-loop decreases-loop
choose-cell-requires c κs =
    let a = c.args in
    let l = c.loop-left in
    let this = choosing-this a.table.now c.requires.0 a.input c.requires.1.0 l.best l.rivals l.left l.invariant (some c.before.before.before) in
    (c.requires.0, rw c.first.ensures this)

rest-requires : tie.Need-rest-left-requires invariant-loop decreases-loop
rest-requires c κs = some c.before.before.before.before

loop-less : tie.Need-loop-left-smaller invariant-loop decreases-loop
loop-less c =
    let l = c.loop-left in
    omega (arith, c.rest-left.ensures, rest-less l.left (some c.before.before.before.before.before) l.invariant.walk.fits)

loop-again : tie.Need-loop-left-preserved invariant-loop decreases-loop
loop-again c =
    let a = c.args in
    let l = c.loop-left in
    rw c.rest-left.ensures
    (choosing-next a.table.now c.requires.0 a.input c.requires.1.0 l.best l.rivals l.left l.invariant (some c.before.before.before.before.before) _ _
    (rw c.first.ensures at c.choose_cell.ensures))

returns : tie.Need-returns invariant-loop decreases-loop
returns c =
    let a = c.args in
    let l = c.loop-left in
    choosing-end a.table.now c.requires.0 a.input c.requires.1.0 l.best l.rivals l.left l.invariant c.loop-left-test.false

pub load_buffered_spec : {M : Type 1} → statement M
load_buffered_spec =
    tie.close
    (tie.spec
    invariant-loop
    decreases-loop
    loop-holds
    mul-choose-cell
    first-requires
    add-choose-cell
    choose-cell-requires
    rest-requires
    loop-less
    loop-again
    returns)
