-- None of the entries passed has the slot (proofs/Slots).
use Prim.Native.Nat.{◌+◌, ◌<◌}
use mathlib.Core.Path.{◌≡◌, sym, ◌∙◌, ap}
use native.Mathlib.Omega.{arith}
use borrow.Author.Rules.{rules}
use Rattle.sets.specs.Sets.{first_of}
use Rattle.sets.proofs.Members.{first-position, rest-less}
use Rattle.layout.specs.Entry.{entry_at}
use Rattle.slot_check.proofs.Slots.{Unshared, unshared-start, unshared-end, unshared-stop, unshared-next}
use Rattle.slot_check.proofs.shares_slot.Statement.{statement}
use Rattle.slot_check.proofs.shares_slot.Tie as tie

abbrev invariant-loop : tie.invariant-loop-left
invariant-loop bytes k first others slot left₀ left = Unshared bytes (entry_at bytes k) first others left

abbrev decreases-loop : tie.decreases-loop-left
decreases-loop bytes k first others slot left₀ left = left

-- where a position is left, it is one
module _ (c : tie.In-loop-left invariant-loop decreases-loop) where
  some : 0 < c.loop-left.left
  some = omega (arith, c.loop-left-test.true)

  position : first_of c.loop-left.left < 64
  position = first-position c.loop-left.left some c.loop-left.invariant.visited.fits

-- the slot of the entry there
slot : (c : tie.After-slot_of invariant-loop decreases-loop)
    →
    let a = c.args in
    c.slot_of.result ≡ (entry_at a.bytes.now (a.first + first_of c.loop-left.left)).cell.slot
slot c =
    let a = c.args in
    c.slot_of.ensures ∙ ap (λ j. (entry_at a.bytes.now (a.first + j)).cell.slot) c.first.ensures

slot-of-requires : tie.Need-slot_of-slot-requires invariant-loop decreases-loop
slot-of-requires c κs = search rules

loop-holds : tie.Need-loop-left-init invariant-loop decreases-loop
loop-holds c =
    unshared-start _ _ _ _ c.ranges.others.fits

first-requires : tie.Need-first-requires invariant-loop decreases-loop
first-requires c κs = search rules

add-slot-of : tie.Need-overflow_add-first invariant-loop decreases-loop
add-slot-of c =
    omega (arith, position c.before, c.first.ensures, c.requires.2)

slot-of-requires-2 : tie.Need-slot_of-requires invariant-loop decreases-loop
slot-of-requires-2 c κs =
    (c.requires.0, omega (arith, position c.before, c.first.ensures, c.requires.2))

returns : tie.Need-returns-then-slot_of-slot invariant-loop decreases-loop
returns c =
    unshared-stop _ _ _ _ c.loop-left.invariant (some c.before.before.before)
    (sym (slot c.before) ∙ c.if-slot_of-slot.true ∙ c.slot_of-slot.ensures)

rest-requires : tie.Need-rest-left-requires invariant-loop decreases-loop
rest-requires c κs = some c.before.before.before

loop-less : tie.Need-loop-left-smaller invariant-loop decreases-loop
loop-less c =
    let l = c.loop-left in
    omega (arith, c.rest-left.ensures, rest-less l.left (some c.before.before.before.before) l.invariant.visited.fits)

loop-again : tie.Need-loop-left-preserved invariant-loop decreases-loop
loop-again c =
    rw c.rest-left.ensures
    (unshared-next _ _ _ _ c.loop-left.invariant (some c.before.before.before.before) (λ same.
    c.if-slot_of-slot.false (slot c.before.before ∙ same ∙ sym c.slot_of-slot.ensures)))

returns-2 : tie.Need-returns invariant-loop decreases-loop
returns-2 c = unshared-end _ _ _ _ c.loop-left.invariant c.loop-left-test.false

pub shares_slot_spec : {M : Type 1} → statement M
shares_slot_spec =
    tie.close
    (tie.spec
    invariant-loop
    decreases-loop
    slot-of-requires
    loop-holds
    first-requires
    add-slot-of
    slot-of-requires-2
    returns
    rest-requires
    loop-less
    loop-again
    returns-2)
