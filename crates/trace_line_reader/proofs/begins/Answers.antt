-- The bytes that are looked for are the key's.
use Rattle.trace_line_reader.proofs.Marks.{begins-starts}
use Rattle.trace_line_reader.proofs.begins.Goals as goal

pub returns : goal.returns
returns c = begins-starts _ _ _ (rw c.key_text.ensures at c.starts_with.ensures.value)
