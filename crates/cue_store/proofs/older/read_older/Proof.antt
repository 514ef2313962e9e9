-- The length, the number, and then whether the places in the new layout are a store.
use mathlib.Core.Path.{sym, ◌∙◌}
use borrow.Author.Rules.{rules}
use Rattle.layout_table.proofs.Places.{known_bytes}
use Rattle.cue_store.proofs.OlderStore.{read-other-length, read-other-number, read-places}
use Rattle.cue_store.proofs.older.read_older.Statement.{statement}
use Rattle.cue_store.proofs.older.read_older.Tie as tie

returns : tie.Need-returns-then-old-ne-OLD_STORE_BYTES
returns c = read-other-length _ _ c.if-old-ne-OLD_STORE_BYTES.true

read-u32-requires : tie.Need-read_u32-requires
read-u32-requires c κs = search rules

returns-2 : tie.Need-returns-then-read_u32-ne-LAYOUT
returns-2 c = read-other-number _ _ (λ e. c.if-read_u32-ne-LAYOUT.true (c.read_u32.ensures ∙ e))

write-new-requires : tie.Need-write_new-requires
write-new-requires c κs = search rules

is-store-requires : tie.Need-is_store-requires
is-store-requires c κs = search rules

same_length : tie.Need-shape_of-store
same_length c = search rules

returns-3 : tie.Need-returns
returns-3 c =
    let old = c.args.old.now in
    read-places old c.write_new.new.store c.is_store.result
    (known_bytes old c.shared_slice_known-1.given) c.if-old-ne-OLD_STORE_BYTES.false
    (sym c.read_u32.ensures ∙ c.if-read_u32-ne-LAYOUT.false) c.write_new.ensures c.is_store.ensures

pub read_older_spec : {M : Type 1} → statement M
read_older_spec =
    tie.close
    (tie.spec
    returns
    read-u32-requires
    returns-2
    write-new-requires
    is-store-requires
    same_length
    returns-3)
