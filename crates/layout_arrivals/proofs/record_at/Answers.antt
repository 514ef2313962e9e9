-- The record whose fields are read is the one at its place.
use Rattle.layout_arrivals.proofs.Reading.{arrival_at-fields}
use Rattle.layout_arrivals.proofs.record_at.Goals as goal

pub returns : goal.returns
returns c =
    arrival_at-fields c.args.arrivals.now c.args.k _
    c.read_u32.ensures c.read_u32-2.ensures c.read_u32-3.ensures c.read_u32-4.ensures c.read_u32-5.ensures
