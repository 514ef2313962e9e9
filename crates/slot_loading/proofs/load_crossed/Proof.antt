-- Cell by cell, those passed are at their crosspoints (proofs/Crossing).
use Prim.Native.Nat.{◌<◌}
use native.Mathlib.Omega.{arith}
use borrow.Author.Rules.{rules}
use Rattle.sets.specs.Sets.{first_of}
use Rattle.sets.proofs.Members.{rest-less}
use Rattle.slot_view.proofs.Own.{table-readable}
use Rattle.slot_loading.proofs.Walk.{walk-position}
use Rattle.slot_loading.proofs.Crossing.{Crossing, crossing-start, crossing-this, crossing-next, crossing-end}
use Rattle.slot_loading.proofs.load_crossed.Statement.{statement}
use Rattle.slot_loading.proofs.load_crossed.Tie as tie

abbrev invariant-loop : tie.invariant-loop-left
invariant-loop table input crossed cross₀ keys₀ left₀ cross keys left = Crossing table input cross keys left

abbrev decreases-loop : tie.decreases-loop-left
decreases-loop table input crossed cross₀ keys₀ left₀ cross keys left = left

-- where a position is left
module _ (c : tie.In-loop-left invariant-loop decreases-loop) where
  some : 0 < c.loop-left.left
  some = omega (arith, c.loop-left-test.true)

  position : first_of c.loop-left.left < 64
  position = walk-position c.loop-left.invariant.walk some

  port : c.args.input < 16
  port =
      omega (arith, c.requires.1.0, (table-readable c.args.table.now c.requires.0).ports)

loop-holds : tie.Need-loop-left-init invariant-loop decreases-loop
loop-holds c =
    let a = c.args in
    rw c.requires.1.1.0
    (crossing-start a.table.now c.requires.0 a.input c.requires.1.0 a.cross.now a.keys.now
    c.requires.1.1.1)

mul-cross-cell : tie.Need-overflow_mul-input invariant-loop decreases-loop
mul-cross-cell c = omega (arith, port c)

first-requires : tie.Need-first-requires invariant-loop decreases-loop
first-requires c κs = search rules

add-cross-cell : tie.Need-overflow_add-input invariant-loop decreases-loop
add-cross-cell c = omega (arith, port c.before, position c.before, c.first.ensures)

cross-cell-requires : tie.Need-cross_cell-requires invariant-loop decreases-loop
cross-cell-requires c κs =
    let a = c.args in
    let l = c.loop-left in
    let this = crossing-this a.table.now c.requires.0 a.input c.requires.1.0 l.cross l.keys l.left l.invariant (some c.before.before.before) in
    (c.requires.0, rw c.first.ensures this)

rest-requires : tie.Need-rest-left-requires invariant-loop decreases-loop
rest-requires c κs = some c.before.before.before.before

loop-less : tie.Need-loop-left-smaller invariant-loop decreases-loop
loop-less c =
    let l = c.loop-left in
    omega (arith, c.rest-left.ensures, rest-less l.left (some c.before.before.before.before.before) l.invariant.walk.fits)

loop-again : tie.Need-loop-left-preserved invariant-loop decreases-loop
loop-again c =
    let a = c.args in
    let l = c.loop-left in
    rw c.rest-left.ensures
    (crossing-next a.table.now c.requires.0 a.input c.requires.1.0 l.cross l.keys l.left l.invariant (some c.before.before.before.before.before) _ _
    (rw c.first.ensures at c.cross_cell.ensures))

returns : tie.Need-returns invariant-loop decreases-loop
returns c =
    let a = c.args in
    let l = c.loop-left in
    crossing-end a.table.now c.requires.0 a.input c.requires.1.0 l.cross l.keys l.left l.invariant c.loop-left-test.false

pub load_crossed_spec : {M : Type 1} → statement M
load_crossed_spec =
    tie.close
    (tie.spec
    invariant-loop
    decreases-loop
    loop-holds
    mul-cross-cell
    first-requires
    add-cross-cell
    cross-cell-requires
    rest-requires
    loop-less
    loop-again
    returns)
