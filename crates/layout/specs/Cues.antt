-- The cue stores of the host and its calls on them. A cue holds a switch with its memory, as the host's table does; in an
-- older store it holds a switch alone.
use Rattle.std.specs.Prelude.{ℕ, Bool, true, false, ◌&&◌, List, map, ltb, length}
use Rattle.std.proofs.Math.Option.{Option, none, some}
use Rattle.cell.specs.declared.Refusal.TheVariants.{BrokenTable, ShortBuffer}
use Rattle.cell.specs.Refusal.{number as refusal_number}
use Rattle.model.specs.Checks.{Outcome, done, refused}
use Rattle.model.specs.Cues.{Cue, Cues, no_cues, set_cue, drop_cue, return_to}
use Rattle.model.specs.Fair.{Fair, sound_memory, marked}
use Rattle.model.specs.Sound.{sound as sound_switch}
use Rattle.model.specs.State.{Switch}
use Rattle.layout.specs.Fair.{fair_number, fair_size, fair_bytes, fair_of, decode_fair}
use Rattle.layout.specs.Host.{filled}
use Rattle.layout.specs.Stores.{Layout, place_size_by, store_size_by, store_bytes_by, cue_by, decode_by}
use Rattle.layout.specs.Table.{layout_number, table_size, encode, state_of}

unfoldable pub sound_fair : Fair Switch → Bool
sound_fair x = sound_switch x.core && sound_memory x.core.ports x.memory

abbrev pub fair_cues : Layout (Fair Switch)
fair_cues =
    record { number = fair_number; size = fair_size; bytes = fair_bytes fair_number; state = fair_of; sound = sound_fair }

abbrev pub older_cues : Layout Switch
older_cues =
    record { number = layout_number; size = table_size; bytes = encode; state = state_of; sound = sound_switch }

abbrev pub place_size : ℕ
place_size = place_size_by fair_cues

abbrev pub store_size : ℕ
store_size = store_size_by fair_cues

abbrev pub store_bytes : Cues (Fair Switch) → List ℕ
store_bytes = store_bytes_by fair_cues

abbrev pub cue_of : List ℕ → Option (Cue (Fair Switch))
cue_of = cue_by fair_cues

abbrev pub decode_store : List ℕ → Option (Cues (Fair Switch))
decode_store = decode_by fair_cues

-- whether bytes are a store
unfoldable pub is_store : List ℕ → Bool
is_store bs = elim (decode_store bs) [ some cues ↦ true | none ↦ false ]

-- Start of a store: no cue held, or 10.
unfoldable pub store_call : List ℕ → Outcome (Cues (Fair Switch))
store_call buffer = elim (ltb (length buffer) store_size) [ true ↦ refused ShortBuffer 0 | false ↦ done no_cues ]

unfoldable pub store_buffer : List ℕ → Outcome (Cues (Fair Switch)) → List ℕ
store_buffer buffer (done cues) = filled (store_bytes cues) buffer
store_buffer buffer (refused r place) = buffer

-- Check of a store: 0 or 2.
unfoldable pub store_check_call : List ℕ → ℕ
store_check_call store = elim (decode_store store) [ some cues ↦ 0 | none ↦ refusal_number BrokenTable ]

-- Setting, dropping and returning: 2 for a switch or a cue store that is not sound, then what the cues say.
unfoldable pub set_of : Option (Fair Switch) → Option (Cues (Fair Switch)) → List ℕ → Outcome (Cues (Fair Switch))
set_of none cues name = refused BrokenTable 0
set_of (some x) none name = refused BrokenTable 0
set_of (some x) (some cues) name = set_cue name x cues

unfoldable pub set_call : List ℕ → List ℕ → List ℕ → Outcome (Cues (Fair Switch))
set_call table store name = set_of (decode_fair table) (decode_store store) name

unfoldable pub drop_of : Option (Cues (Fair Switch)) → List ℕ → Outcome (Cues (Fair Switch))
drop_of none name = refused BrokenTable 0
drop_of (some cues) name = drop_cue name cues

unfoldable pub drop_call : List ℕ → List ℕ → Outcome (Cues (Fair Switch))
drop_call store name = drop_of (decode_store store) name

-- a return is lent the switch too, which it writes
unfoldable pub return_of : Option (Fair Switch) → Option (Cues (Fair Switch)) → List ℕ → Outcome (Fair Switch)
return_of none cues name = refused BrokenTable 0
return_of (some x) none name = refused BrokenTable 0
return_of (some x) (some cues) name = return_to name cues

unfoldable pub return_call : List ℕ → List ℕ → List ℕ → Outcome (Fair Switch)
return_call table store name = return_of (decode_fair table) (decode_store store) name

-- the store after setting or dropping, and the table after a return: in refusing, as they were
unfoldable pub store_after : List ℕ → Outcome (Cues (Fair Switch)) → List ℕ
store_after store (done cues) = store_bytes cues
store_after store (refused r place) = store

unfoldable pub table_returned : List ℕ → Outcome (Fair Switch) → List ℕ
table_returned table (done x) = fair_bytes fair_number x
table_returned table (refused r place) = table

------------------------------------------------------------------------
-- the older store

abbrev pub old_store_size : ℕ
old_store_size = store_size_by older_cues

abbrev pub decode_old_store : List ℕ → Option (Cues Switch)
decode_old_store = decode_by older_cues

-- the same cue, of another switch
unfoldable pub cue_with : {S T : Type 0} → (S → T) → Option (Cue S) → Option (Cue T)
cue_with f none = none
cue_with f (some c) = some (record { name = c.name; switch = f c.switch })

-- the same cues in the new layout: no output is fair, and all else is kept
unfoldable pub converted : Cues Switch → Cues (Fair Switch)
converted cues = map (cue_with (marked 0)) cues

-- Writing an older store in the new layout: 2 where it is not sound by its own rules, then 10.
unfoldable pub convert_cues_call : List ℕ → List ℕ → Outcome (Cues (Fair Switch))
convert_cues_call old buffer =
    elim (decode_old_store old) [
      | none ↦ refused BrokenTable 0
      | some cues ↦
          elim (ltb (length buffer) store_size) [ true ↦ refused ShortBuffer 0 | false ↦ done (converted cues) ]
    ]
