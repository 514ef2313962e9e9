use Rattle.std.proofs.Common.{arith}
use Rattle.trace_line_writer.proofs.Lines.{put-two}
use Rattle.trace_writer.proofs.Writing.{tried-contents}
use Rattle.trace_writer.proofs.pour_contents.Goals as goal

pub returns : goal.returns
returns c =
    let h = rw (c.new.ensures, c.new-2.ensures) at (put-two _ _ c.put_lines-slots.ensures) in
    tried-contents _ _ _ _ (omega arith) h c.pour_slots.ensures
