use Rattle.std.proofs.Common.{◌≡◌, ◌+◌, ◌-◌, ◌∙◌, ap, arith}
use Rattle.layout.specs.Code.{record_start, record_at}
use Rattle.layout.specs.Table.{entry_size}
use Rattle.slot_arrival.specs.CodeArrival.{moved_up}
use Rattle.slot_arrival.proofs.Insert.{moved_up-none, moved_up-more}
use Rattle.slot_arrival.proofs.move_up.Goals as goal

pub loop-k-init : goal.loop-k-init
loop-k-init c = record { within = omega arith; moved = moved_up-none _ entry_size _ }

pub loop-k-preserved : goal.loop-k-preserved
unfolding record_at
loop-k-preserved c =
    let l = c.loop-k in
    let back : l.k ≡ l.k - 1 + 1 = omega arith in
    let next = ap (λ n. moved_up (record_start n) (record_start c.args.end) entry_size c.args.table.now) back in
    record {
      within = omega arith;
      moved =
          c.copy_record.ensures
          ∙ moved_up-more (record_start (l.k - 1)) (record_start (l.k - 1 + 1)) (record_start c.args.end) entry_size
          c.args.table.now l.table (omega arith) (omega arith) (omega arith) (l.invariant.moved ∙ next);
    }

pub returns : goal.returns
returns c =
    let end : c.loop-k.k ≡ c.args.at = omega arith in
    c.loop-k.invariant.moved
    ∙ ap (λ n. moved_up (record_start n) (record_start c.args.end) entry_size c.args.table.now) end
