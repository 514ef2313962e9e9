-- Two zeros one behind the other.
use Rattle.std.proofs.Common.{◌+◌, ◌∙◌, ap, arith}
use Rattle.layout.specs.Number.{bytes_of}
use Rattle.layout.specs.Code.{record_start, put}
use Rattle.layout.proofs.Put.{put_two}
use Rattle.slot_departure.proofs.Staying.{zero-words}
use Rattle.slot_departure.proofs.clear_one.Goals as goal

pub returns : goal.returns
returns c =
    let at = c.start_of-at.ensures in
    let old = c.args.table.now in
    put_two (record_start c.args.k) 0 0 old c.write_u64.new.bytes c.write_u64-2.new.bytes
    (omega (arith, c.requires.0, c.requires.1)) (c.write_u64.ensures ∙ ap (λ n. put n 8 (bytes_of 8 0) old) at)
    (c.write_u64-2.ensures ∙ ap (λ n. put (n + 8) 8 (bytes_of 8 0) c.write_u64.new.bytes) at)
    ∙ ap (λ bs. put (record_start c.args.k) 16 bs old) zero-words
