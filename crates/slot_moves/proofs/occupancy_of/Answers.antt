-- The crosspoints of the inputs passed are counted.
use Rattle.std.proofs.Common.{◌+◌, refl, sym, ◌∙◌, ap₂, arith}
use Rattle.laws.specs.Lists.{count, numbers_from, up_to}
use Rattle.slot_view.specs.CodeView.{crosspoint_at}
use Rattle.slot_moves.specs.CodeMoves.{filled_at}
use Rattle.slot_moves.proofs.Counting.{filled_at-more, filled_at-few, counts-is, counts-few}
use Rattle.slot_moves.proofs.occupancy_of.Goals as goal

pub loop-input-init : goal.loop-input-init
unfolding filled_at count up_to numbers_from
loop-input-init c = refl

pub overflow_add-count : goal.overflow_add-count
overflow_add-count c = record {
  fits = omega (
    arith,
    filled_at-few c.args.cross.now c.loop-input.input c.args.output,
    c.loop-input.invariant,
    c.from-count.ensures,
    counts-few,
  );
}

pub loop-input-preserved : goal.loop-input-preserved
unfolding crosspoint_at
loop-input-preserved c =
    ap₂ ◌+◌ c.loop-input.invariant (c.from-count.ensures ∙ counts-is _)
    ∙ sym (filled_at-more c.args.cross.now c.loop-input.input c.args.output)
