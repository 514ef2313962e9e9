use Rattle.std.proofs.Common.{arith}
use Rattle.cue_store.proofs.OlderPlaces.{places-first, places-next, places-last}
use Rattle.cue_store.proofs.older.write_new.Goals as goal

pub loop-k-init : goal.loop-k-init
loop-k-init c =
    places-first c.args.old.now c.args.store.now c.write_u32.new.bytes c.copy.new.bytes
    c.requires.0 c.requires.1 c.write_u32.ensures c.copy.ensures

pub loop-k-preserved : goal.loop-k-preserved
loop-k-preserved c =
    let l = c.loop-k in
    places-next l.k c.args.old.now l.store c.write_place.new.store c.requires.0 l.invariant.0 (omega arith)
    l.invariant.1 c.write_place.ensures

pub returns : goal.returns
returns c =
    let l = c.loop-k in
    places-last l.k c.args.old.now l.store l.invariant.0 (omega arith) (omega arith) l.invariant.1
