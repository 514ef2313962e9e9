-- The entries passed go to different outputs, which are gathered (proofs/Crossed).
use Prim.Native.Nat.{◌+◌, ◌<◌}
use mathlib.Core.Path.{◌≡◌, ◌∙◌, ap}
use native.Mathlib.Omega.{arith}
use borrow.Author.Rules.{rules}
use Rattle.sets.specs.Sets.{first_of}
use Rattle.sets.proofs.Members.{first-position, rest-less, visited-member}
use Rattle.layout.specs.Entry.{entry_at}
use Rattle.slot_section.specs.Code.{in_range}
use Rattle.slot_section.proofs.Walks.{in_range-e, entries_in-each}
use Rattle.slot_section.proofs.Crossed.{Crossed, crossed-start, crossed-next, crossed-end}
use Rattle.slot_section.proofs.crosspoints_differ.Statement.{statement}
use Rattle.slot_section.proofs.crosspoints_differ.Tie as tie

abbrev invariant-loop : tie.invariant-loop-left
invariant-loop bytes first crossed twice₀ outputs₀ left₀ twice outputs left =
    Crossed bytes first crossed twice outputs left

abbrev decreases-loop : tie.decreases-loop-left
decreases-loop bytes first crossed twice₀ outputs₀ left₀ twice outputs left = left

-- where a position is left: its record is one of the table, and its output one that there can be
module _ (c : tie.In-loop-left invariant-loop decreases-loop) where
  some : 0 < c.loop-left.left
  some = omega (arith, c.loop-left-test.true)

  position : first_of c.loop-left.left < 64
  position = first-position c.loop-left.left some c.loop-left.invariant.visited.fits

  port : let a = c.args in
      (entry_at a.bytes.now (a.first + first_of c.loop-left.left)).cell.output < 16
  port =
      (in_range-e _
      (entries_in-each in_range c.args.bytes.now c.args.first c.args.crossed c.requires.1
      (visited-member c.loop-left.invariant.visited some))).0

-- the output of the entry at hand
output : (c : tie.After-output_of-output invariant-loop decreases-loop)
    → let at-loop = c.before.before.before in
    let a = c.args in
    c.output_of-output.result ≡ (entry_at a.bytes.now (a.first + first_of c.loop-left.left)).cell.output
output c =
    let a = c.args in
    c.output_of-output.ensures ∙ ap (λ j. (entry_at a.bytes.now (a.first + j)).cell.output) c.first.ensures

below : (c : tie.After-output_of-output invariant-loop decreases-loop) → c.output_of-output.result < 64
below c = omega (arith, output c, port c.before.before)

loop-holds : tie.Need-loop-left-init invariant-loop decreases-loop
loop-holds c =
    crossed-start c.args.bytes.now c.args.first c.args.crossed
    c.ranges.crossed.fits

first-requires : tie.Need-first-requires invariant-loop decreases-loop
first-requires c κs = search rules

add-output-of : tie.Need-overflow_add-first invariant-loop decreases-loop
add-output-of c = omega (arith, position c.before, c.first.ensures)

output-of-requires : tie.Need-output_of-output-requires invariant-loop decreases-loop
output-of-requires c κs =
    (c.requires.0.0, omega (arith, position c.before, c.first.ensures))

cast-output : tie.Need-overflow_cast-output invariant-loop decreases-loop
cast-output c = search rules

has-requires : tie.Need-has-twice-requires invariant-loop decreases-loop
has-requires c κs = below c

with-requires : tie.Need-with-outputs-requires invariant-loop decreases-loop
with-requires c κs = below c.before

rest-requires : tie.Need-rest-left-requires invariant-loop decreases-loop
rest-requires c κs = some c.before.before.before.before

loop-less : tie.Need-loop-left-smaller invariant-loop decreases-loop
loop-less c =
    let in-loop = c.before.before.before.before.before in
    let l = c.loop-left in
    omega (arith, c.rest-left.ensures, rest-less l.left (some in-loop) l.invariant.visited.fits)

loop-again : tie.Need-loop-left-preserved invariant-loop decreases-loop
loop-again c =
    let at = c.before.before.before in
    let in-loop = at.before.before in
    let a = c.args in
    let l = c.loop-left in
    rw (c.has-twice.ensures, c.with-outputs.ensures, c.rest-left.ensures)
    (crossed-next a.bytes.now a.first a.crossed l.twice l.outputs l.left l.invariant (some in-loop)
    c.output_of-output.result (output at) (below at))

returns : tie.Need-returns invariant-loop decreases-loop
returns c =
    let a = c.args in
    let l = c.loop-left in
    crossed-end a.bytes.now a.first a.crossed l.twice l.outputs l.left l.invariant c.loop-left-test.false

pub crosspoints_differ_spec : {M : Type 1} → statement M
crosspoints_differ_spec =
    tie.close
    (tie.spec
    invariant-loop
    decreases-loop
    loop-holds
    first-requires
    add-output-of
    output-of-requires
    cast-output
    has-requires
    with-requires
    rest-requires
    loop-less
    loop-again
    returns)
