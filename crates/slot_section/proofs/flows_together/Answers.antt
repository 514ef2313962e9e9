use Rattle.std.proofs.Common.{◌≡◌, ◌+◌, ◌<◌, ◌∙◌, ap, arith}
use mathlib.Core.List.{Memᴰ}
use Rattle.sets.specs.Sets.{first_of}
use Rattle.sets.proofs.Members.{first-position, rest-less}
use Rattle.cell.specs.Order.{key}
use Rattle.model.specs.State.{Entry}
use Rattle.layout.specs.Entry.{entry_at}
use Rattle.layout_table.specs.CodeEntries.{flow_number}
use Rattle.layout_table.proofs.Places.{known_bytes}
use Rattle.slot_section.specs.Code.{entries_in}
use Rattle.slot_section.proofs.Walks.{in_range-e}
use Rattle.slot_section.proofs.Grouping.{Good, section-good, this-good, flows-start, flows-next, flows-end, flows-heads}
use Rattle.slot_section.proofs.flows_together.Goals as goal
use Rattle.slot_section.proofs.flows_together.Goals.{In-loop-left}

-- where a position is left: its record is one of the table, and its entry one of the section's
module _ (c : In-loop-left) where
  some : 0 < c.loop-left.left
  some = omega (arith, c.loop-left-test.true)

  position : first_of c.loop-left.left < 64
  position = first-position c.loop-left.left some c.loop-left.invariant.visited.fits

  good : (g : Entry) → Memᴰ g (entries_in c.args.bytes.now c.args.first c.args.listed) → Good c.args.first g
  good =
      let pre = c.requires.bytes_len in
      section-good c.args.bytes.now (known_bytes c.args.bytes.now c.type_inv.bytes) pre.0 c.args.first c.args.listed pre.1 pre.2 c.requires.listed_value

  this : Good c.args.first (entry_at c.args.bytes.now (c.args.first + first_of c.loop-left.left))
  this = this-good _ _ _ _ _ _ _ _ _ _ c.loop-left.invariant some good

pub loop-left-init : goal.loop-left-init
loop-left-init c =
    let a = c.args in
    flows-start a.bytes.now a.first a.listed a.mark a.marks.now c.ranges.listed.fits c.requires.marks_below 0

pub overflow_add-k : goal.overflow_add-k
overflow_add-k c = omega (arith, position (goal.at.overflow_add-k c).In-loop-left, c.first-position.ensures)

pub flow_number-flow-requires-clause-has_entry : goal.flow_number-flow-requires-clause-has_entry
flow_number-flow-requires-clause-has_entry c =
    let at = (goal.at.flow_number-flow-requires-clause-has_entry c).In-loop-left in
    (c.requires.bytes_len.0, omega (arith, position at, c.first-position.ensures))

pub flow_number-flow-requires-clause-k_bound : goal.flow_number-flow-requires-clause-k_bound
flow_number-flow-requires-clause-k_bound c =
    let ranges = in_range-e _ (this (goal.at.flow_number-flow-requires-clause-k_bound c).In-loop-left).range in
    rw c.first-position.ensures ranges

pub key_of-key-requires : goal.key_of-key-requires
key_of-key-requires c =
    let at = (goal.at.key_of-key-requires c).In-loop-left in
    (c.requires.bytes_len.0, omega (arith, position at, c.first-position.ensures))

pub with_if-heads-requires : goal.with_if-heads-requires
with_if-heads-requires c =
    omega (arith, position (goal.at.with_if-heads-requires c).In-loop-left, c.first-position.ensures)

pub loop-left-smaller : goal.loop-left-smaller
loop-left-smaller c =
    let l = c.loop-left in
    let more = some (goal.at.loop-left-smaller c).In-loop-left in
    omega (arith, c.rest-left.ensures, rest-less l.left more l.invariant.visited.fits)

pub loop-left-preserved : goal.loop-left-preserved
loop-left-preserved c =
    let a = c.args in
    let l = c.loop-left in
    let at = (goal.at.loop-left-preserved c).In-loop-left in
    let flow : c.flow_number-flow.result ≡ flow_number (entry_at a.bytes.now (a.first + first_of l.left)) =
    c.flow_number-flow.ensures.0
    ∙ ap (λ j. flow_number (entry_at a.bytes.now (a.first + j))) c.first-position.ensures in
    let first : c.key_of-key.result ≡ key (entry_at a.bytes.now (a.first + first_of l.left)).cell =
    c.key_of-key.ensures ∙ ap (λ j. key (entry_at a.bytes.now (a.first + j)).cell) c.first-position.ensures in
    rw (c.breaks_flow-broken.ensures, c.with_if-heads.ensures, c.first-position.ensures, c.rest-left.ensures)
    (flows-next _ _ _ _ _ _ _ _ _ _ l.invariant (some at) (good at) c.flow_number-flow.result c.key_of-key.result flow
    c.flow_number-flow.ensures.1 first)

pub returns-clause-by_index : goal.returns-clause-by_index
returns-clause-by_index c = flows-end _ _ _ _ _ _ _ _ _ _ c.loop-left.invariant c.loop-left-test.false

pub returns-clause-heads_value : goal.returns-clause-heads_value
returns-clause-heads_value c = flows-heads _ _ _ _ _ _ _ _ _ _ c.loop-left.invariant c.loop-left-test.false
