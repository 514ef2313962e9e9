-- The four counts, one behind the other.
use Rattle.layout_tally.proofs.Counts.{made-read}
use Rattle.layout_tally.proofs.read.Goals as goal

pub returns : goal.returns
returns c =
    made-read c.args.bytes.now _ _ _ _ c.read_u64.ensures c.read_u64-2.ensures c.read_u64-3.ensures c.read_u64-4.ensures
