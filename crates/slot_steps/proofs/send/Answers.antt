-- The cell moves to its crosspoint; for no cell nothing changes.
use Rattle.std.proofs.Common.{◌/◌, sym, ◌∙◌, ap, ap₂}
use Rattle.slot_view.specs.CodeView.{cross_with}
use Rattle.slot_view.proofs.Keys.{key_at-cell}
use Rattle.slot_steps.proofs.Steps.{crossed-none}
use Rattle.slot_steps.proofs.send.Goals as goal

pub returns-then-number-ge-NOWHERE : goal.returns-then-number-ge-NOWHERE
returns-then-number-ge-NOWHERE c =
    let p = c.requires.table_len in
    crossed-none _ c.if-number-ge-NOWHERE.true _ _ p.0 _ _ p.4 p.5 _ _ p.1 p.2

pub returns : goal.returns
returns c =
    let a = c.args in
    let goes = c.output_of-output.ensures in
    let key = c.key_of-key.ensures ∙ sym (key_at-cell a.table.now a.number c.if-number-ge-NOWHERE.false) in
    record {
      to-crosspoint = c.write_place.ensures;
      left-list = c.leave_list.ensures.listed_after;
      left-heads = c.leave_list.ensures.heads_after;
      filled = c.fill.ensures.cross_after ∙ ap (λ o. cross_with a.cross.now (a.number / 64) o a.number) goes;
      keyed = c.fill.ensures.keys_after ∙ ap₂ (λ o k. cross_with a.keys.now o (a.number / 64) k) goes key;
      best-in = c.enter.ensures;
    }
