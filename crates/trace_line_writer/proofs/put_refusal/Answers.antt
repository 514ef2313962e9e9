use Rattle.std.proofs.lemmas.List.{append-nil}
use Rattle.trace.specs.Lines.{refusal_text}
use Rattle.trace_line_writer.specs.Writing.{lines_text}
use Rattle.trace_line_writer.proofs.put_refusal.Goals as goal

pub returns : goal.returns
unfolding refusal_text lines_text
returns c = rw (c.new.ensures, c.number.ensures, append-nil) at c.put_lines.ensures
