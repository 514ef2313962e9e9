-- Laws of the cue stores of the host: what is read from the bytes of sound cues is those cues, a store is accepted exactly
-- if it is the bytes of sound cues, and what the calls come to.
use Prim.Native.Nat.{ℕ, ◌≤◌, ◌<◌}
use mathlib.Core.Bool.{true, false, true≢false}
use mathlib.Core.Path.{◌≡◌, refl, sym, ◌∙◌, ap}
use mathlib.Core.List.{List}
use mathlib.Core.Option.{Option, none, some}
use borrow.Author.Tests.{lt-ltb, le-ltb}
use lib.ListN.{length}
use Rattle.laws.proofs.Tests.{and_i, and_l, and_r}
use Rattle.cell.specs.declared.Refusal.TheVariants.{BrokenTable, ShortBuffer}
use Rattle.model.specs.Checks.{done, refused}
use Rattle.model.specs.Cues.{Cues, no_cues, set_cue, drop_cue, return_to}
use Rattle.model.specs.Fair.{Fair, sound_memory}
use Rattle.model.specs.Sound.{sound}
use Rattle.model.specs.State.{Switch}
use Rattle.layout.specs.Frame.{is_fair_table}
use Rattle.layout.specs.Fair.{fair_number, fair_bytes, decode_fair}
use Rattle.layout.specs.Cues.{store_size, decode_store, is_store, store_call, set_of, set_call}
use Rattle.layout.specs.CodeCues.{cues_of}
use Rattle.layout.specs.Cues.{drop_of, drop_call, return_of, return_call, sound_fair, fair_cues, older_cues}
use Rattle.layout.proofs.Fair.{length-fair_bytes, fair_of-fair_bytes, decode_with-some, decode_fair-fair_bytes}
use Rattle.layout.proofs.Fair.{is_table_with-some}
use Rattle.layout.proofs.Stores.{Fit, decode_store-cues}
use Rattle.layout.proofs.Table.{length-encode, state_of-encode}

-- both tables fit
pub older-fit : Fit older_cues
older-fit = record { long = length-encode; back = state_of-encode }

-- a sound switch with its memory
module _ (x : Fair Switch) (h : sound_fair x ≡ true) where
  pub sound_fair-core : sound x.core ≡ true
  unfolding sound_fair
  sound_fair-core = search and_l

  pub sound_fair-memory : sound_memory x.core.ports x.memory ≡ true
  unfolding sound_fair
  sound_fair-memory = search and_r

pub fair-fit : Fit fair_cues
fair-fit =
    record {
      long = λ x h. length-fair_bytes fair_number x (sound_fair-core x h) (sound_fair-memory x h);
      back = λ x h. fair_of-fair_bytes fair_number x (sound_fair-core x h) (sound_fair-memory x h);
    }

-- a table is the bytes of a sound switch with its memory
pub decode_fair-sound : (bs : List ℕ) (x : Fair Switch) → decode_fair bs ≡ some x
    → (sound_fair x ≡ true) × (fair_bytes fair_number x ≡ bs)
unfolding sound_fair
decode_fair-sound bs x e =
    let h = decode_with-some fair_number sound bs x e in
    (and_i (sound x.core) (sound_memory x.core.ports x.memory) h.1 h.2, sym h.0)

pub is_fair_table-bytes : (x : Fair Switch) → sound_fair x ≡ true → is_fair_table (fair_bytes fair_number x) ≡ true
is_fair_table-bytes x h =
    is_table_with-some fair_number sound (fair_bytes fair_number x) x
    (decode_fair-fair_bytes x (sound_fair-core x h) (sound_fair-memory x h))

pub is_store-some : (bs : List ℕ) (cues : Cues (Fair Switch)) → decode_store bs ≡ some cues → is_store bs ≡ true
unfolding is_store
is_store-some bs cues e = rw (e, is_store)

pub is-store : (bs : List ℕ) → is_store bs ≡ true → decode_store bs ≡ some (cues_of bs)
unfolding is_store
is-store bs h = go (decode_store bs) refl h
  where
    go : (o : Option (Cues (Fair Switch))) → decode_store bs ≡ o → elim o [ some cues ↦ true | none ↦ false ] ≡ true
        → decode_store bs ≡ some (cues_of bs)
    go none e h = absurd (true≢false (sym h))
    go (some cues) e h = e ∙ ap some (sym (decode_store-cues fair_cues fair-fit bs cues e))

------------------------------------------------------------------------
-- the calls: 10 at start; 2 for a table or a store that is not sound, then what the cues say

pub store_call-short : (buffer : List ℕ) → length buffer < store_size → store_call buffer ≡ refused ShortBuffer 0
unfolding store_call
store_call-short buffer short = rw (lt-ltb (length buffer) store_size short, store_call)

pub store_call-done : (buffer : List ℕ) → store_size ≤ length buffer → store_call buffer ≡ done no_cues
unfolding store_call
store_call-done buffer room = rw (le-ltb (length buffer) store_size room, store_call)

-- a store that is not sound is refused for any switch
set_of-store : (x : Option (Fair Switch)) (name : List ℕ) → set_of x none name ≡ refused BrokenTable 0
unfolding set_of
set_of-store none name = refl
set_of-store (some x) name = refl

return_of-store : (x : Option (Fair Switch)) (name : List ℕ) → return_of x none name ≡ refused BrokenTable 0
unfolding return_of
return_of-store none name = refl
return_of-store (some x) name = refl

module _ (table store name : List ℕ) where
  pub set_call-table : decode_fair table ≡ none → set_call table store name ≡ refused BrokenTable 0
  unfolding set_call set_of
  set_call-table e = rw e

  pub set_call-store : decode_store store ≡ none → set_call table store name ≡ refused BrokenTable 0
  unfolding set_call
  set_call-store e = rw e (set_of-store (decode_fair table) name)

  pub set_call-cues : (x : Fair Switch) (cues : Cues (Fair Switch)) → decode_fair table ≡ some x → decode_store store ≡ some cues
      → set_call table store name ≡ set_cue name x cues
  unfolding set_call set_of
  set_call-cues x cues t e = rw (t, e)

  pub return_call-table : decode_fair table ≡ none → return_call table store name ≡ refused BrokenTable 0
  unfolding return_call return_of
  return_call-table e = rw e

  pub return_call-store : decode_store store ≡ none → return_call table store name ≡ refused BrokenTable 0
  unfolding return_call
  return_call-store e = rw e (return_of-store (decode_fair table) name)

  pub return_call-cues : (x : Fair Switch) (cues : Cues (Fair Switch)) → decode_fair table ≡ some x → decode_store store ≡ some cues
      → return_call table store name ≡ return_to name cues
  unfolding return_call return_of
  return_call-cues x cues t e = rw (t, e)

module _ (store name : List ℕ) where
  pub drop_call-store : decode_store store ≡ none → drop_call store name ≡ refused BrokenTable 0
  unfolding drop_call drop_of
  drop_call-store e = rw e

  pub drop_call-cues : (cues : Cues (Fair Switch)) → decode_store store ≡ some cues → drop_call store name ≡ drop_cue name cues
  unfolding drop_call drop_of
  drop_call-cues cues e = rw e
