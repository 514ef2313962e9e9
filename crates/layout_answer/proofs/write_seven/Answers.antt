-- Seven numbers one behind the other.
use Rattle.std.proofs.Common.{arith}
use Rattle.layout.proofs.Put.{put-seven}
use Rattle.layout_answer.proofs.write_seven.Goals as goal

pub returns : goal.returns
returns c =
    let a = c.args in
    let one = c.write_u32 in
    let two = c.write_u32-2 in
    let three = c.write_u32-3 in
    let four = c.write_u32-4 in
    let five = c.write_u32-5 in
    let six = c.write_u32-6 in
    let seven = c.write_u32-7 in
    put-seven a.at a.sent a.c.input a.c.output a.c.flow a.answer.now one.new.bytes two.new.bytes three.new.bytes
    four.new.bytes (omega arith) one.ensures two.ensures three.ensures four.ensures a.c.rank a.c.tag a.c.slot
    five.new.bytes six.new.bytes seven.new.bytes c.requires five.ensures six.ensures seven.ensures
