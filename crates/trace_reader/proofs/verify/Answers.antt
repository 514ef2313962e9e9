-- The header's answer says how the text goes on.
use Rattle.std.proofs.Common.{true}
use Rattle.trace_reader.proofs.Whole.{verdict-mapped, verdict-refused, whole-decided}
use Rattle.trace_reader.proofs.Answered.{opening-open-e, opening-refused-e, opening-short-e}
use Rattle.trace_reader.proofs.verify.Goals as goal

pub slice_bounds-verify_blocks-count : goal.slice_bounds-verify_blocks-count
slice_bounds-verify_blocks-count c = (opening-open-e true _ c.read_header.ensures c.in-Open.is).1

pub slice_bounds-verify_blocks-start : goal.slice_bounds-verify_blocks-start
slice_bounds-verify_blocks-start c = (opening-open-e true _ c.read_header.ensures c.in-Open.is).1

pub returns-in-Open : goal.returns-in-Open
returns-in-Open c =
    let h = (opening-open-e true _ c.read_header.ensures c.in-Open.is).0 in
    verdict-mapped _ c.in-Open.used h c.verify_blocks.result c.map_err.result c.verify_blocks.ensures c.map_err.ensures.cases

pub returns-in-Refused : goal.returns-in-Refused
returns-in-Refused c = verdict-refused _ (opening-refused-e true _ c.read_header.ensures c.in-Refused.is)

pub returns-in-Short : goal.returns-in-Short
returns-in-Short c = whole-decided _ (opening-short-e true _ c.read_header.ensures c.in-Short.is)
