-- The answer is that for the bytes not yet looked at.
use Prim.Native.Nat.{ℕ, ◌^◌, ◌<◌}
use native.Mathlib.Omega.{arith}
use mathlib.Core.Path.{◌≡◌, sym, ◌∙◌, ap}
use borrow.Author.Rules.{rules}
use Rattle.cue_store.specs.Names.{is_name}
use Rattle.cue_store.proofs.NameLoops.{spelt, is_name-zero, is_name-spelt, spelt-end, spelt-stop, spelt-next}
use Rattle.cue_store.proofs.name.is_name.Statement.{statement}
use Rattle.cue_store.proofs.name.is_name.Tie as tie

abbrev invariant-loop : tie.invariant-loop-rest
invariant-loop number rest₀ rest = (w : ℕ) × (rest < 256 ^ w) × (is_name number ≡ spelt w rest)

abbrev decreases-loop : tie.decreases-loop-rest
decreases-loop number rest₀ rest = rest

returns : tie.Need-returns-then-number-eq0 invariant-loop decreases-loop
returns c = sym (ap is_name c.if-number-eq0.true ∙ is_name-zero)

loop-holds : tie.Need-loop-rest-init invariant-loop decreases-loop
loop-holds c =
    let room : c.args.number < 256 ^ 8 = omega arith in
    (8, room, is_name-spelt c.args.number (omega arith) room)

cast-is-letter : tie.Need-overflow_cast-rest invariant-loop decreases-loop
cast-is-letter c = omega arith

is-letter-requires : tie.Need-is_letter-requires invariant-loop decreases-loop
is-letter-requires c κs = search rules

returns-2 : tie.Need-returns-then-not-is_letter invariant-loop decreases-loop
returns-2 c =
    let l = c.loop-rest in
    sym
    (l.invariant.2
    ∙ spelt-stop l.invariant.0 l.rest c.loop-rest-test.true l.invariant.1
    (sym c.is_letter.ensures ∙ c.if-not-is_letter.true))

loop-less : tie.Need-loop-rest-smaller invariant-loop decreases-loop
loop-less c = omega arith

loop-again : tie.Need-loop-rest-preserved invariant-loop decreases-loop
loop-again c =
    let l = c.loop-rest in
    let next = spelt-next l.invariant.0 l.rest c.loop-rest-test.true l.invariant.1
    (sym c.is_letter.ensures ∙ c.if-not-is_letter.false) in
    (next.0, next.1, l.invariant.2 ∙ next.2)

returns-3 : tie.Need-returns invariant-loop decreases-loop
returns-3 c = sym (c.loop-rest.invariant.2 ∙ spelt-end _ _ c.loop-rest-test.false)

pub is_name_spec : {M : Type 1} → statement M
is_name_spec =
    tie.close
    (tie.spec
    invariant-loop
    decreases-loop
    returns
    loop-holds
    cast-is-letter
    is-letter-requires
    returns-2
    loop-less
    loop-again
    returns-3)
