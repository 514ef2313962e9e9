use Rattle.std.proofs.lemmas.List.{append-nil}
use Rattle.trace.specs.Contents.{arrival_text}
use Rattle.trace_line_writer.specs.Writing.{lines_text}
use Rattle.trace_writer.proofs.put_arrival.Goals as goal

pub returns : goal.returns
unfolding arrival_text lines_text
returns c =
    rw (
      c.new.ensures,
      c.new-2.ensures,
      c.new-3.ensures,
      c.new-4.ensures,
      c.new-5.ensures,
      append-nil,
    ) at c.put_five.ensures
