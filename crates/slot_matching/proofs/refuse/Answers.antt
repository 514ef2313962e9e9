-- The candidates of one input change.
use Rattle.std.proofs.Common.{◌/◌, ◌∙◌, ap}
use lib.ListN.{set}
use Rattle.slot_matching.specs.CodeProposing.{next_in, rest, without}
use Rattle.slot_matching.proofs.refuse.Goals as goal

pub returns : goal.returns
unfolding rest without
returns c = record {
  others = ap (set c.args.left.now (c.args.k / 64)) c.without-rest.ensures;
  goes_on = c.next_in.ensures ∙ ap (λ set. next_in set (c.args.k / 64)) c.without-rest.ensures;
}
