-- The reader's verdict is that of the grammar, which tells the slots.
use Rattle.std.proofs.Common.{◌∙◌}
use Rattle.trace.specs.Reader.{read}
use Rattle.bench_reader.proofs.Slots.{slots-accepted, slots-refused}
use Rattle.bench_reader.proofs.crossbar_trace_slots.Goals as goal

pub returns-in-Ok : goal.returns-in-Ok
returns-in-Ok c = c.from.ensures ∙ slots-accepted _ _ (read c.args.text.now) _ c.verify.ensures c.in-Ok.is

pub returns-in-Err : goal.returns-in-Err
returns-in-Err c = slots-refused _ _ (read c.args.text.now) _ c.verify.ensures c.in-Err.is
