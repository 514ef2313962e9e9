-- One number behind the other.
use Rattle.std.proofs.Common.{arith}
use Rattle.layout.proofs.Number.{length-bytes_of}
use Rattle.layout.proofs.Put.{put_next}
use Rattle.layout.specs.Answer.{departures_size}
use Rattle.layout.specs.Number.{bytes_of}
use Rattle.layout_answer.proofs.write_proposals.Goals as goal

pub returns : goal.returns
returns c =
    let a = c.args in
    put_next departures_size 4 4 (bytes_of 4 a.first) (bytes_of 4 a.second) a.answer.now c.write_u32.new.bytes
    c.write_u32-2.new.bytes (length-bytes_of 4 a.first) (length-bytes_of 4 a.second) (omega arith)
    c.write_u32.ensures c.write_u32-2.ensures
