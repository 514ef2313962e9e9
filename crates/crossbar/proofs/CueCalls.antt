-- What the cue calls of the host answer and leave: each way that a call can go.
use Prim.Native.Nat.{ℕ, ◌+◌, ◌*◌, ◌≤◌, ◌<◌}
use native.Mathlib.Omega.{arith}
use mathlib.Core.Bool.{Bool, true, false, true≢false, false≢true}
use mathlib.Core.List.{List, ◌++◌}
use mathlib.Core.Option.{Option, none, some}
use mathlib.Core.Path.{◌≡◌, refl, sym, ap, ap₂, ◌∙◌}
use borrow.Author.Tests.{lt-ltb, le-ltb, ltb-true, ltb-false}
use lib.Dec.{ltb}
use lib.ListN.{length, replicate, set, get_or, get_or-eq_default}
use Rattle.cell.specs.declared.Refusal.{Refusal}
use Rattle.cell.specs.declared.Refusal.TheVariants.{BrokenTable, BadName, CuesFull, NoSuchCue}
use Rattle.cell.specs.Refusal.{number}
use Rattle.model.specs.Checks.{Outcome, done, refused}
use Rattle.model.specs.Cues.{cue_limit, Cue, Cues, no_cues, well_named, first_place, is_free, is_named, set_cue, drop_cue}
use Rattle.model.specs.Cues.{return_to}
use Rattle.model.specs.Fair.{Fair}
use Rattle.model.specs.Sound.{sound}
use Rattle.model.specs.State.{Switch}
use Rattle.layout.specs.Code.{put}
use Rattle.layout.specs.Frame.{is_fair_table}
use Rattle.layout.specs.Cues.{sound_fair, fair_cues, place_size, store_size, store_bytes, decode_store, is_store}
use Rattle.layout.specs.CodeCues.{cues_of}
use Rattle.layout.specs.Cues.{store_call, store_buffer, store_check_call}
use Rattle.layout.specs.Cues.{set_call, drop_call, return_call, store_after, table_returned}
use Rattle.layout.specs.Fair.{fair_number, fair_size, fair_bytes, fair_of, decode_fair}
use Rattle.layout.specs.Host.{filled, result_of}
use Rattle.layout.specs.Number.{bytes_of}
use Rattle.layout.proofs.Cues.{fair-fit, decode_fair-sound, is-store, is_store-some, set_call-table, set_call-store}
use Rattle.layout.proofs.Cues.{set_call-cues}
use Rattle.layout.proofs.Cues.{store_call-short, store_call-done, drop_call-store, drop_call-cues, return_call-table}
use Rattle.layout.proofs.Cues.{return_call-store, return_call-cues}
use Rattle.layout.proofs.Fair.{is-table-with, is_table_with-none}
use Rattle.layout.proofs.Stores.{decode_store-length}
use Rattle.model.proofs.CueLaws.{held, roomy, cue, set-bad, set-held, set_new, set_full, drop-bad, drop-held, drop-new}
use Rattle.model.proofs.CueLaws.{return-bad, return_held, return_new}
use Rattle.model.proofs.FirstPlace.{first_passes, first-most}
use Rattle.cue_store.specs.Code.{place_start, table_at, place_of, place_for}
use Rattle.cue_store.specs.Names.{name_number}
use Rattle.crossbar.specs.CodeHeldPlace.{HeldAt, HeldNowhere}
use Rattle.cue_store.proofs.Names.{number-zero, number-some}
use Rattle.cue_store.proofs.Found.{place-named, place-free, table-at, put-cue, put-free, cues-four}

-- a result is that of an outcome, and what was lent is as the outcome leaves it
abbrev pub Stored : Outcome (Cues (Fair Switch)) → List ℕ → ℕ → List ℕ → Type 0
Stored o store result store' = (result ≡ result_of o) × (store' ≡ store_after store o)

abbrev pub Returned : Outcome (Fair Switch) → List ℕ → ℕ → List ℕ → Type 0
Returned o table result table' = (result ≡ result_of o) × (table' ≡ table_returned table o)

stored_refused : (o : Outcome (Cues (Fair Switch))) (store : List ℕ) (r : Refusal) (result : ℕ) → o ≡ refused r 0
    → result ≡ number r → Stored o store result store
unfolding result_of store_after
stored_refused o store r result e h = rw e (let k : result ≡ number r + 256 * 0 = omega arith in k, refl)

stored-done : (o : Outcome (Cues (Fair Switch))) (store store' : List ℕ) (cues : Cues (Fair Switch)) → o ≡ done cues
    → store' ≡ store_bytes cues → Stored o store 0 store'
unfolding result_of store_after
stored-done o store store' cues e h = rw e (refl, h)

returned-refused : (o : Outcome (Fair Switch)) (table : List ℕ) (r : Refusal) (result : ℕ) → o ≡ refused r 0
    → result ≡ number r → Returned o table result table
unfolding result_of table_returned
returned-refused o table r result e h = rw e (let k : result ≡ number r + 256 * 0 = omega arith in k, refl)

returned-done : (o : Outcome (Fair Switch)) (table table' : List ℕ) (x : Fair Switch) → o ≡ done x
    → table' ≡ fair_bytes fair_number x
    → Returned o table 0 table'
unfolding result_of table_returned
returned-done o table table' x e h = rw e (refl, h)

-- bytes that are no table, or no store
table_none : (bs : List ℕ) → is_fair_table bs ≡ false → decode_fair bs ≡ none
table_none bs h = is_table_with-none fair_number sound bs h

store-none : (bs : List ℕ) → is_store bs ≡ false → decode_store bs ≡ none
store-none bs h = go (decode_store bs) refl
  where
    go : (o : Option (Cues (Fair Switch))) → decode_store bs ≡ o → decode_store bs ≡ none
    go none e = e
    go (some cues) e = absurd (true≢false (sym (is_store-some bs cues e) ∙ h))

pub store_length : (bs : List ℕ) → is_store bs ≡ true → length bs ≡ store_size
store_length bs h = decode_store-length fair_cues fair-fit bs (cues_of bs) (is-store bs h)

-- the switch of a table
module _ (bs : List ℕ) (h : is_fair_table bs ≡ true) where
  table-some : decode_fair bs ≡ some (fair_of bs)
  table-some = is-table-with fair_number sound bs h

  table-exact : (sound_fair (fair_of bs) ≡ true) × (fair_bytes fair_number (fair_of bs) ≡ bs)
  table-exact = decode_fair-sound bs (fair_of bs) table-some

  pub table-length : length bs ≡ fair_size
  table-length =
      ap length (sym table-exact.1) ∙ fair-fit.long (fair_of bs) table-exact.0

------------------------------------------------------------------------
-- the places that the code finds are those of the definitions

module _ (store name : List ℕ) (cues : Cues (Fair Switch)) (d : decode_store store ≡ some cues) (w : well_named name ≡ true) where
  four : length cues ≡ cue_limit
  four = cues-four store cues d

  -- the place that holds the name, and the lowest free one
  old : ℕ
  old = first_place (is_named name) cues

  free : ℕ
  free = first_place is_free cues

  found : place_of store (name_number name) ≡ old
  unfolding old
  found = place-named store cues d name w

  place-for : place_for store (name_number name) ≡ elim (ltb old cue_limit) [ true ↦ old | false ↦ free ]
  unfolding place_for free
  place-for = ap₂ {B = ℕ} {C = ℕ} (λ n f. elim (ltb n cue_limit) [ true ↦ n | false ↦ f ]) found (place-free store cues d)

  place-held : ltb old cue_limit ≡ true → place_for store (name_number name) ≡ old
  place-held h = place-for ∙ ap {B = ℕ} (λ b. elim b [ true ↦ old | false ↦ free ]) h

  place-new : ltb old cue_limit ≡ false → place_for store (name_number name) ≡ free
  place-new h = place-for ∙ ap {B = ℕ} (λ b. elim b [ true ↦ old | false ↦ free ]) h

  pub place-for-most : place_for store (name_number name) ≤ cue_limit
  unfolding old free
  place-for-most = go (ltb old cue_limit) refl
    where
      go : (b : Bool) → ltb old cue_limit ≡ b → place_for store (name_number name) ≤ cue_limit
      go true h = omega (arith, place-held h, first-most (is_named name) cues, four)
      go false h = omega (arith, place-new h, first-most is_free cues, four)

  is_held : old < cue_limit → held name cues ≡ true
  unfolding old
  is_held h = lt-ltb old (length cues) (omega (arith, four))

  is_lost : cue_limit ≤ old → held name cues ≡ false
  unfolding old
  is_lost h = le-ltb old (length cues) (omega (arith, four))

  set_at : (x : Fair Switch) (k : ℕ) → place_for store (name_number name) ≡ k → k < cue_limit
      → set_cue name x cues ≡ done (set cues k (cue name x))
  unfolding old free
  set_at x k e inside = go (ltb old cue_limit) refl
    where
      go : (b : Bool) → ltb old cue_limit ≡ b → set_cue name x cues ≡ done (set cues k (cue name x))
      go true h =
          set-held name cues x w (is_held (ltb-true old cue_limit h))
          ∙ ap (λ n. done (set cues n (cue name x))) (sym (place-held h) ∙ e)
      go false h =
          let here : free ≡ k = sym (place-new h) ∙ e in
          let room : roomy cues ≡ true = lt-ltb free (length cues) (omega (arith, here, four)) in
          set_new name cues x w (is_lost (ltb-false old cue_limit h)) room
          ∙ ap (λ n. done (set cues n (cue name x))) here

  set-none : (x : Fair Switch) → place_for store (name_number name) ≡ cue_limit → set_cue name x cues ≡ refused CuesFull 0
  unfolding old free
  set-none x e = go (ltb old cue_limit) refl
    where
      go : (b : Bool) → ltb old cue_limit ≡ b → set_cue name x cues ≡ refused CuesFull 0
      go true h = absurd (omega (arith, ltb-true old cue_limit h, place-held h))
      go false h =
          set_full name cues x w (is_lost (ltb-false old cue_limit h))
          (le-ltb free (length cues) (omega (arith, sym (place-new h) ∙ e, four)))

  drop_at : (k : ℕ) → place_of store (name_number name) ≡ k → k < cue_limit → drop_cue name cues ≡ done (set cues k none)
  unfolding old
  drop_at k e inside =
      let here : old ≡ k = sym found ∙ e in
      drop-held name cues w (is_held (omega (arith, here))) ∙ ap (λ n. done (set cues n none)) here

  drop-none : place_of store (name_number name) ≡ cue_limit → drop_cue name cues ≡ refused NoSuchCue 0
  drop-none e = drop-new name cues w (is_lost (omega (arith, sym found ∙ e)))

  -- where a name is found stands a cue
  held-cue : old < length cues → (c : Cue (Fair Switch)) × (get_or cues old none ≡ some c)
  unfolding old is_named
  held-cue inside = go (get_or cues old none) refl (first_passes (is_named name) cues none inside)
    where
      go : (p : Option (Cue (Fair Switch))) → get_or cues old none ≡ p → is_named name (get_or cues old none) ≡ true
          → (c : Cue (Fair Switch)) × (get_or cues old none ≡ some c)
      go none e h = absurd (false≢true (sym (ap (is_named name) e) ∙ h))
      go (some c) e h = (c, e)

  return-at : (k : ℕ) → place_of store (name_number name) ≡ k → k < cue_limit
      → (x : Fair Switch) × (return_to name cues ≡ done x) × (table_at store k ≡ fair_bytes fair_number x)
  unfolding old
  return-at k e inside =
      let here : old ≡ k = sym found ∙ e in
      let c = held-cue (omega (arith, here, four)) in (
        c.0.switch,
        return_held name cues c.0 w c.1,
        ap (table_at store) (sym here) ∙ table-at store cues d old c.0 (omega (arith, here)) c.1,
      )

  return-none : place_of store (name_number name) ≡ cue_limit → return_to name cues ≡ refused NoSuchCue 0
  unfolding old
  return-none e = return_new name cues w (get_or-eq_default cues none (omega (arith, sym found ∙ e, four)))

------------------------------------------------------------------------
-- the calls, with the number of the name and the place that the code found

module _ (store name : List ℕ) (number : ℕ) (is : number ≡ name_number name) where
  unnamed : number ≡ 0 → well_named name ≡ false
  unnamed z = number-zero name (sym is ∙ z)

  named : (number ≡ 0 → ⊥) → well_named name ≡ true
  named n = number-some name (λ z. n (is ∙ z))

  -- a place of the store, or none
  module _ (h : is_store store ≡ true) (n : number ≡ 0 → ⊥) (k : ℕ) (full : k ≡ cue_limit → ⊥) where
    pub inside-for : k ≡ place_for store number → k < cue_limit
    inside-for e =
        omega (arith, e ∙ ap (place_for store) is, place-for-most store name (cues_of store) (is-store store h) (named n))

module _ (store name : List ℕ) where
  pub held-broken : is_store store ≡ false → HeldNowhere store name BrokenTable
  held-broken h =
      record {
        drops = drop_call-store store name (store-none store h);
        returns = λ table t. return_call-store table store name (store-none store h);
      }

  module _ (h : is_store store ≡ true) where
    held_cues : Cues (Fair Switch)
    held_cues = cues_of store

    held-stand : decode_store store ≡ some held_cues
    unfolding held_cues
    held-stand = is-store store h

    drops-cue : drop_call store name ≡ drop_cue name held_cues
    drops-cue = drop_call-cues store name held_cues held-stand

    returns_to : (table : List ℕ) → is_fair_table table ≡ true → return_call table store name ≡ return_to name held_cues
    returns_to table t = return_call-cues table store name (fair_of table) held_cues (table-some table t) held-stand

    pub held-badly-named : name_number name ≡ 0 → HeldNowhere store name BadName
    held-badly-named z =
        let bad = unnamed store name (name_number name) refl z in
        record {
          drops = drops-cue ∙ drop-bad name held_cues bad;
          returns = λ table t. returns_to table t ∙ return-bad name held_cues bad;
        }

    module _ (number : ℕ) (is : number ≡ name_number name) (n : number ≡ 0 → ⊥) where
      well : well_named name ≡ true
      well = named store name number is n

      pub held-nowhere : place_of store number ≡ cue_limit → HeldNowhere store name NoSuchCue
      held-nowhere full =
          let none_there = ap (place_of store) (sym is) ∙ full in
          record {
            drops = drops-cue ∙ drop-none store name held_cues held-stand well none_there;
            returns = λ table t. returns_to table t ∙ return-none store name held_cues held-stand well none_there;
          }

      pub held-at : (k : ℕ) → k ≡ place_of store number → k < cue_limit → HeldAt store name k
      held-at k e inside =
          record { sound = h; named = λ z. n (is ∙ z); found = e ∙ ap (place_of store) is; inside = inside }

  -- no place: the calls leave all as it was
  pub drop-nowhere : (r : Refusal) (result : ℕ) → HeldNowhere store name r → result ≡ number r
      → Stored (drop_call store name) store result store
  drop-nowhere r result p e = stored_refused _ store r result p.drops e

  pub return-nowhere : (table : List ℕ) → is_fair_table table ≡ true → (r : Refusal) (result : ℕ) → HeldNowhere store name r
      → result ≡ number r → Returned (return_call table store name) table result table
  return-nowhere table t r result p e = returned-refused _ table r result (p.returns table t) e

  -- a place
  module _ (k : ℕ) (p : HeldAt store name k) where
    named-so : well_named name ≡ true
    named-so = named store name (name_number name) refl p.named

    pub drop-done : (store' : List ℕ) → store' ≡ put (place_start k) place_size (replicate place_size 0) store
        → Stored (drop_call store name) store 0 store'
    drop-done store' e =
        stored-done _ store store' (set (cues_of store) k none)
        (drop_call-cues store name (cues_of store) (is-store store p.sound)
        ∙ drop_at store name (cues_of store) (is-store store p.sound) named-so k (sym p.found) p.inside)
        (e ∙ put-free store (cues_of store) (is-store store p.sound) k p.inside)

    pub return-done : (table : List ℕ) → is_fair_table table ≡ true → (table' : List ℕ) → table' ≡ table_at store k
        → Returned (return_call table store name) table 0 table'
    return-done table t table' e =
        let back = return-at store name (cues_of store) (is-store store p.sound) named-so k (sym p.found) p.inside in
        returned-done _ table table' back.0
        (return_call-cues table store name (fair_of table) (cues_of store) (table-some table t) (is-store store p.sound)
        ∙ back.1)
        (e ∙ back.2)

module _ (table store name : List ℕ) where
  pub set-broken-table : is_fair_table table ≡ false → (result : ℕ) → result ≡ 2
      → Stored (set_call table store name) store result store
  set-broken-table h result r =
      stored_refused _ store BrokenTable result (set_call-table table store name (table_none table h)) r

  pub set-broken-store : is_store store ≡ false → (result : ℕ) → result ≡ 2
      → Stored (set_call table store name) store result store
  set-broken-store h result r =
      stored_refused _ store BrokenTable result (set_call-store table store name (store-none store h)) r

  pub return-broken-table : is_fair_table table ≡ false → (result : ℕ) → result ≡ 2
      → Returned (return_call table store name) table result table
  return-broken-table h result r =
      returned-refused _ table BrokenTable result (return_call-table table store name (table_none table h)) r

  module _ (t : is_fair_table table ≡ true) (h : is_store store ≡ true) (number : ℕ) (is : number ≡ name_number name) where
    x : Fair Switch
    x = fair_of table

    state : decode_fair table ≡ some x
    unfolding x
    state = table-some table t

    exact : fair_bytes fair_number x ≡ table
    unfolding x
    exact = (table-exact table t).1

    cues : Cues (Fair Switch)
    cues = cues_of store

    stands : decode_store store ≡ some cues
    unfolding cues
    stands = is-store store h

    sets-cue : set_call table store name ≡ set_cue name x cues
    sets-cue = set_call-cues table store name x cues state stands

    pub set-badly-named : number ≡ 0 → (result : ℕ) → result ≡ 11
        → Stored (set_call table store name) store result store
    set-badly-named z result r =
        stored_refused _ store BadName result (sets-cue ∙ set-bad name cues x (unnamed store name number is z)) r

    module _ (n : number ≡ 0 → ⊥) (k : ℕ) where
      w : well_named name ≡ true
      w = named store name number is n

      pub set-no-room : k ≡ place_for store number → k ≡ cue_limit → (result : ℕ) → result ≡ 12
          → Stored (set_call table store name) store result store
      set-no-room e full result r =
          stored_refused _ store CuesFull result
          (sets-cue ∙ set-none store name cues stands w x (sym (e ∙ ap (place_for store) is) ∙ full)) r

      pub set-done : k ≡ place_for store number → (k ≡ cue_limit → ⊥) → (store' : List ℕ)
          → store' ≡ put (place_start k) place_size (bytes_of 8 number ++ table) store
          → Stored (set_call table store name) store 0 store'
      set-done e full store' p =
          let few = inside-for store name number is h n k full e in
          stored-done _ store store' (set cues k (cue name x))
          (sets-cue ∙ set_at store name cues stands w x k (sym (e ∙ ap (place_for store) is)) few)
          (p
          ∙ ap₂ (λ m bs. put (place_start k) place_size (bytes_of 8 m ++ bs) store) is (sym exact)
          ∙ put-cue store cues stands k name x few w)

------------------------------------------------------------------------
-- starting and checking a store

pub store-starts-short : (buffer : List ℕ) → length buffer < store_size → (result : ℕ) → result ≡ 10
    → (result ≡ result_of (store_call buffer)) × (buffer ≡ store_buffer buffer (store_call buffer))
unfolding result_of store_buffer
store-starts-short buffer short result r =
    rw (store_call-short buffer short) (let k : result ≡ 10 + 256 * 0 = omega arith in k, refl)

pub store-starts : (buffer after : List ℕ) → store_size ≤ length buffer → after ≡ filled (store_bytes no_cues) buffer
    → (0 ≡ result_of (store_call buffer)) × (after ≡ store_buffer buffer (store_call buffer))
unfolding result_of store_buffer
store-starts buffer after room h = rw (store_call-done buffer room) (refl, h)

pub store-passes : (store : List ℕ) → is_store store ≡ true → 0 ≡ store_check_call store
unfolding store_check_call
store-passes store h = rw (is-store store h, store_check_call)

pub store-refused : (store : List ℕ) (result : ℕ) → is_store store ≡ false → result ≡ 2 → result ≡ store_check_call store
unfolding store_check_call
store-refused store result h r = rw (store-none store h, store_check_call) r
