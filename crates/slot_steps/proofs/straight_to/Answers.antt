-- The cell moves and its ports are marked; for no cell nothing changes.
use Rattle.std.proofs.Common.{true, refl, sym, ap}
use lib.ListN.{set}
use Rattle.slot_steps.proofs.Rules.{mark-some}
use Rattle.slot_steps.proofs.Steps.{straight_none}
use Rattle.slot_steps.proofs.straight_to.Goals as goal

pub returns-then-number-ge-NOWHERE : goal.returns-then-number-ge-NOWHERE
returns-then-number-ge-NOWHERE c =
    let p = c.requires.table_len in
    straight_none _ c.if-number-ge-NOWHERE.true _ _ p.0 _ _ _ _ _ p.1 p.2 p.4 p.5

pub returns : goal.returns
returns c =
    let marked = sym (mark-some c.args.number c.args.output c.if-number-ge-NOWHERE.false) in
    record {
      to-buffer = c.write_place.ensures;
      left-list = c.leave_list.ensures.listed_after;
      left-heads = c.leave_list.ensures.heads_after;
      best-in = c.enter.ensures;
      from-input = refl;
      to-output = ap (λ o. set c.args.outputs.now o true) marked;
    }
