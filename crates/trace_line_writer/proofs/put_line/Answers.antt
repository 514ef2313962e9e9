use Rattle.trace_line_writer.proofs.put_line.Goals as goal

pub returns : goal.returns
returns c = rw c.new.ensures at c.put_one.ensures
