-- 2, then 10, else the store as it was read.
use Rattle.std.proofs.Common.{◌∙◌, sym, refl}
use Rattle.crossbar.proofs.OlderCueCalls.{convert-broken, convert-short, convert-done}
use Rattle.crossbar.proofs.convert_cues.write.Goals as goal

pub returns-then-not-read_older : goal.returns-then-not-read_older
returns-then-not-read_older c =
    let call = convert-broken c.args.old.now c.args.store.now (sym c.read_older.ensures.value ∙ c.if-not-read_older.true) _ refl in
    record { value = call.0; store_after = call.1 }

pub returns-then-store-lt-STORE_BYTES : goal.returns-then-store-lt-STORE_BYTES
returns-then-store-lt-STORE_BYTES c =
    let call = convert-short c.args.old.now c.args.store.now (sym c.read_older.ensures.value ∙ c.if-not-read_older.false) c.if-store-lt-STORE_BYTES.true _ refl in
    record { value = call.0; store_after = call.1 }

pub returns : goal.returns
returns c =
    let read = c.read_older.ensures in
    let call = convert-done c.args.old.now c.args.store.now (sym read.value ∙ c.if-not-read_older.false) _ _ read.converted
    c.if-store-lt-STORE_BYTES.false c.copy.ensures in
    record { value = call.0; store_after = call.1 }
