-- `crossbar::cues::cue_start` meets its contract: 10, else a store with no cue held.
-- Assumes nothing.
use borrow.Author.Rules.{rules}
use Rattle.crossbar.proofs.CueCalls.{store-starts-short, store-starts}
use Rattle.crossbar.proofs.cues.cue_start.Statement.{statement}
use Rattle.crossbar.proofs.cues.cue_start.Tie as tie

number-requires : tie.Need-number-requires
number-requires c κs = search rules

returns : tie.Need-returns-then-store-lt-STORE_BYTES
returns c = store-starts-short _ c.if-store-lt-STORE_BYTES.true _ c.number.ensures

write-no-cues-requires : tie.Need-write_no_cues-requires
write-no-cues-requires c κs = search rules

same_length : tie.Need-shape_of-store
same_length c = search rules

returns-2 : tie.Need-returns
returns-2 c =
    store-starts _ _ c.if-store-lt-STORE_BYTES.false c.write_no_cues.ensures

pub cue_start_spec : {M : Type 1} → statement M
cue_start_spec =
    tie.close
    (tie.spec
    number-requires
    returns
    write-no-cues-requires
    same_length
    returns-2)
