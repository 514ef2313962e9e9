use Rattle.player_turns.proofs.take_turns.Statement.{statement}
use Rattle.player_turns.proofs.take_turns.Tie as tie
use Prim.Native.Nat.{◌-◌}
use mathlib.Core.Path.{refl, sym, ◌∙◌, ap}
use borrow.Author.Rules.{rules}
use native.Mathlib.Omega.{arith}
use lib.ListN.{length, length-drop}
use Rattle.player_turns.specs.Turns.{standing}
use Rattle.layout.proofs.Parts.{part-behind}
use Rattle.player_turns.proofs.Taking.{Going, going-none, going-room, going-length}
use Rattle.player_turns.proofs.Taking.{going-stops, all-within, all_room, all-length, going_on, going-ends}

abbrev invariant-loop : tie.invariant-loop-out
invariant-loop engine line text last table₀ out₀ stage₀ line₀ used₀ written₀ table out stage line' used written =
    Going engine last (standing stage₀ line table₀) text table₀ out₀ table out stage line' used written

abbrev decreases-loop : tie.decreases-loop-out
decreases-loop engine line text last table₀ out₀ stage₀ line₀ used₀ written₀ table out stage line' used written =
    length out₀ - written

loop-holds : tie.Need-loop-out-init invariant-loop decreases-loop
loop-holds c = going-none _ _ _ _ _ _ _ _ refl c.requires

sub-loop : tie.Need-overflow_sub-out invariant-loop decreases-loop
sub-loop c = going-room _ _ _ _ _ _ c.loop-out.invariant

sub-take-turn : tie.Need-slice_bounds-take_turn-count invariant-loop decreases-loop
sub-take-turn c = c.loop-out.invariant.within

part-take-turn-start : tie.Need-slice_bounds-take_turn-start invariant-loop decreases-loop
part-take-turn-start c = c.loop-out.invariant.within

part-take-turn-end : tie.Need-slice_bounds-take_turn-end invariant-loop decreases-loop
part-take-turn-end c = search rules

sub-take-turn-2 : tie.Need-slice_bounds-take_turn-count-in-loop-out invariant-loop decreases-loop
sub-take-turn-2 c = going-room _ _ _ _ _ _ c.loop-out.invariant

part-take-turn-start-2 : tie.Need-slice_bounds-take_turn-start-in-loop-out invariant-loop decreases-loop
part-take-turn-start-2 c = going-room _ _ _ _ _ _ c.loop-out.invariant

part-take-turn-end-2 : tie.Need-slice_bounds-take_turn-end-in-loop-out invariant-loop decreases-loop
part-take-turn-end-2 c = search rules

take-turn-requires : tie.Need-take_turn-turn-requires invariant-loop decreases-loop
take-turn-requires c κs =
    let out = c.loop-out.out in
    let written = c.loop-out.written in (
      c.loop-out.invariant.stands,
      omega (arith, c.loop-out-test.true, ap length (part-behind out written), length-drop written out),
    )

add-used : tie.Need-overflow_add-used invariant-loop decreases-loop
add-used c =
    omega (arith, all-within _ _ _ _ _ _ c.loop-out.invariant c.take_turn-turn.ensures c.take_turn-turn.auto.out)

add-written : tie.Need-overflow_add-written invariant-loop decreases-loop
add-written c =
    omega (arith, all_room _ _ _ _ _ _ c.loop-out.invariant c.take_turn-turn.ensures c.take_turn-turn.auto.out)

loop-less : tie.Need-loop-out-smaller invariant-loop decreases-loop
loop-less c =
    omega (arith, all_room _ _ _ _ _ _ c.loop-out.invariant c.take_turn-turn.ensures c.take_turn-turn.auto.out)

loop-again : tie.Need-loop-out-preserved invariant-loop decreases-loop
loop-again c =
    going_on _ _ _ _ _ _ c.loop-out.invariant c.take_turn-turn.ensures c.take_turn-turn.auto.out
    (λ e. omega arith)

same_length : tie.Need-shape_of-table-after-loop-out invariant-loop decreases-loop
same_length c = c.loop-out.invariant.stands.size ∙ sym c.requires.size

same-length-2 : tie.Need-shape_of-out-after-loop-out invariant-loop decreases-loop
same-length-2 c = going-length _ _ _ _ _ _ c.loop-out.invariant

returns : tie.Need-returns-after-loop-out invariant-loop decreases-loop
returns c = going-stops _ _ _ _ _ _ _ _ _ _ _ _ c.loop-out.invariant (omega (arith, c.loop-out-test.false))

pub take_turns_spec : {M : Type 1} → statement M
take_turns_spec =
    tie.close
    (tie.spec
    invariant-loop
    decreases-loop
    loop-holds
    sub-loop
    sub-take-turn
    part-take-turn-start
    part-take-turn-end
    sub-take-turn-2
    part-take-turn-start-2
    part-take-turn-end-2
    take-turn-requires
    add-used
    add-written
    loop-less
    loop-again
    same_length
    same-length-2
    returns
    -- the turn wrote nothing
    (λ c. c.take_turn-turn.ensures.stands.size ∙ sym c.requires.size)
    (λ c. all-length _ _ _ _ _ _ c.loop-out.invariant c.take_turn-turn.ensures c.take_turn-turn.auto.out)
    (λ c.
    going-ends _ _ _ _ _ _ c.loop-out.invariant c.take_turn-turn.ensures c.take_turn-turn.auto.out (omega arith)))
