-- Four numbers of 64 bits fill the tally.
use Rattle.layout_tally.proofs.Counts.{put-tally}
use Rattle.layout_tally.proofs.write.Goals as goal

pub returns : goal.returns
returns c =
    let run = c.write_u64 in
    let refused = c.write_u64-2 in
    let arrived = c.write_u64-3 in
    let departed = c.write_u64-4 in
    put-tally c.args.t c.args.bytes.now run.new.bytes refused.new.bytes arrived.new.bytes departed.new.bytes c.requires
    run.ensures refused.ensures arrived.ensures departed.ensures
