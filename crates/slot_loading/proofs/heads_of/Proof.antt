-- The heads of the listed cells passed are found (proofs/Heading).
use Prim.Native.Nat.{◌+◌, ◌*◌, ◌<◌}
use native.Mathlib.Omega.{arith}
use mathlib.Core.Path.{◌≡◌, sym, ◌∙◌, ap, subst}
use borrow.Author.Rules.{rules}
use Rattle.sets.specs.Sets.{first_of}
use Rattle.sets.proofs.Members.{rest-less}
use Rattle.layout.specs.Entry.{entry_at}
use Rattle.layout_table.specs.CodeEntries.{flow_word}
use Rattle.slot_view.proofs.Own.{table-readable}
use Rattle.slot_loading.proofs.Walk.{walk-position}
use Rattle.slot_loading.proofs.Heading.{Heading, no_flow, heading-start, heading-next, heading-end}
use Rattle.slot_loading.proofs.heads_of.Statement.{statement}
use Rattle.slot_loading.proofs.heads_of.Tie as tie

abbrev invariant-loop : tie.invariant-loop-left
invariant-loop table input listed heads₀ last₀ left₀ heads last left = Heading table input heads last left

abbrev decreases-loop : tie.decreases-loop-left
decreases-loop table input listed heads₀ last₀ left₀ heads last left = left

-- where a position is left
module _ (c : tie.In-loop-left invariant-loop decreases-loop) where
  some : 0 < c.loop-left.left
  some = omega (arith, c.loop-left-test.true)

  position : first_of c.loop-left.left < 64
  position = walk-position c.loop-left.invariant.walk some

  port : c.args.input < 16
  port =
      omega (arith, c.requires.1.0, (table-readable c.args.table.now c.requires.0).ports)

loop-holds : tie.Need-loop-left-init invariant-loop decreases-loop
loop-holds c =
    let a = c.args in
    subst (Heading a.table.now a.input 0 no_flow) (sym c.requires.1.1)
    (heading-start a.table.now c.requires.0 a.input c.requires.1.0)

first-requires : tie.Need-first-j-requires invariant-loop decreases-loop
first-requires c κs = search rules

mul-flow-word-of : tie.Need-overflow_mul-input invariant-loop decreases-loop
mul-flow-word-of c = omega (arith, port c.before)

add-flow-word-of : tie.Need-overflow_add-input invariant-loop decreases-loop
add-flow-word-of c = omega (arith, port c.before, position c.before, c.first-j.ensures)

flow-word-of-requires : tie.Need-flow_word_of-flow-requires invariant-loop decreases-loop
flow-word-of-requires c κs = (
  (table-readable c.args.table.now c.requires.0).size,
  omega (arith, port c.before, position c.before, c.first-j.ensures),
)

with-if-requires : tie.Need-with_if-heads-requires invariant-loop decreases-loop
with-if-requires c κs = omega (arith, position c.before.before, c.first-j.ensures)

rest-requires : tie.Need-rest-left-requires invariant-loop decreases-loop
rest-requires c κs = some c.before.before.before

loop-less : tie.Need-loop-left-smaller invariant-loop decreases-loop
loop-less c =
    let l = c.loop-left in
    omega (arith, c.rest-left.ensures, rest-less l.left (some c.before.before.before.before) l.invariant.walk.fits)

loop-again : tie.Need-loop-left-preserved invariant-loop decreases-loop
loop-again c =
    let a = c.args in
    let l = c.loop-left in
    let flow : c.flow_word_of-flow.result ≡ flow_word (entry_at a.table.now (64 * a.input + first_of l.left)).cell =
    c.flow_word_of-flow.ensures.0
    ∙ ap (λ j. flow_word (entry_at a.table.now (64 * a.input + j)).cell) c.first-j.ensures in
    rw (c.rest-left.ensures, c.with_if-heads.ensures, c.first-j.ensures)
    (heading-next a.table.now c.requires.0 a.input c.requires.1.0 l.heads l.last l.left l.invariant
    (some c.before.before.before.before) c.flow_word_of-flow.result flow)

returns : tie.Need-returns invariant-loop decreases-loop
returns c =
    let a = c.args in
    let l = c.loop-left in
    heading-end a.table.now c.requires.0 a.input c.requires.1.0 l.heads l.last l.left l.invariant
    c.loop-left-test.false

pub heads_of_spec : {M : Type 1} → statement M
heads_of_spec =
    tie.close
    (tie.spec
    invariant-loop
    decreases-loop
    loop-holds
    first-requires
    mul-flow-word-of
    add-flow-word-of
    flow-word-of-requires
    with-if-requires
    rest-requires
    loop-less
    loop-again
    returns)
