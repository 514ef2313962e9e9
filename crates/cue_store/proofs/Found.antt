-- What the code finds in a cue store, and what a place put anew makes of it, said of the cues that the store holds.
use Prim.Native.Nat.{ℕ, ◌+◌, ◌≤◌, ◌<◌}
use mathlib.Core.Bool.{true}
use mathlib.Core.List.{List, ◌++◌, map}
use mathlib.Core.Option.{Option, none, some}
use mathlib.Core.Path.{◌≡◌, refl, sym, ◌∙◌, ap}
use native.Mathlib.Nat.{zero-add}
use native.Mathlib.Omega.{arith}
use borrow.Author.Tests.{ne_eqb}
use lib.Dec.{eqb, lit≤}
use lib.ListN.{length, take, drop, replicate, set, get_or, length-drop, length-replicate}
use lib.ListN.{get_or-map, length-map}
use lib.Seq.{take_at, drop_at, take-take, take-add, drop-drop, length-take-le, ext_get_or}
use Rattle.laws.specs.Lists.{all?, up_to}
use Rattle.laws.proofs.Lists.{all?-e, get_or-mem}
use Rattle.laws.proofs.Numbers.{length-numbers_from, numbers_from-at}
use Rattle.laws.proofs.Tests.{eqb-turned}
use Rattle.model.specs.Cues.{cue_limit, name_limit, well_named, first_place, is_named, is_free}
use Rattle.model.specs.Cues.{Cue, Cues, sound_cue, sound_cues}
use Rattle.model.specs.Fair.{Fair}
use Rattle.model.specs.State.{Switch}
use Rattle.layout.specs.Code.{put}
use Rattle.layout.specs.Cues.{sound_fair, fair_cues, place_size, store_size, store_bytes, decode_store}
use Rattle.layout.specs.CodeCues.{cue_bytes}
use Rattle.layout.specs.Fair.{fair_number, fair_size, fair_bytes}
use Rattle.layout.specs.Number.{bytes_of, number_of, number_at}
use Rattle.layout.specs.Stores.{name_bytes, cue_bytes_by}
use Rattle.layout.proofs.Cues.{fair-fit}
use Rattle.layout.proofs.Stores.{length-name_bytes, zero-parts, decode_store-some, decode_store-length, sound_cue-name}
use Rattle.layout.proofs.Stores.{sound_cues-length, sound_cues-each, store_bytes-place, store_bytes-set}
use Rattle.cue_store.specs.Code.{place_start, name_at, table_at, place_of}
use Rattle.cue_store.specs.Names.{name_number}
use Rattle.model.proofs.FirstPlace.{first-ext, first-map}
use Rattle.cue_store.proofs.Names.{number-zeros, number-bytes, name-bytes, name-positive, number-name, same_name}

------------------------------------------------------------------------
-- the parts of a place

-- the bytes of a place
abbrev pub place_at : List ℕ → ℕ → List ℕ
place_at store k = take place_size (drop (place_start k) store)

pub drop-take : (n m : ℕ) (l : List ℕ) → n ≤ length l → drop n (take (n + m) l) ≡ take m (drop n l)
drop-take n m l h = rw (take-add n m l) (drop_at (take n l) (take m (drop n l)) n (length-take-le n l h))

-- its first eight are those of the name
pub name-part : (store : List ℕ) (k : ℕ) → name_at store k ≡ number_of (take name_limit (place_at store k))
unfolding name_at number_at
name-part store k =
    ap number_of (sym (take-take name_limit place_size (drop (place_start k) store) (lit≤ tt)))

-- and the others the table's
pub table-part : (store : List ℕ) (k : ℕ) → length store ≡ store_size → k < cue_limit
    → table_at store k ≡ drop name_limit (place_at store k)
unfolding table_at
table-part store k size few =
    sym
    (drop-take name_limit fair_size (drop (place_start k) store) (simp length-drop (omega arith))
    ∙ ap (take fair_size) (drop-drop name_limit (place_start k) store))

------------------------------------------------------------------------
-- the numbers of the names

-- the number of a cue's name, and 0 for a free place
unfoldable pub number_in : Option (Cue (Fair Switch)) → ℕ
number_in none = 0
number_in (some c) = number_of c.name

pub cue-number : (c : Option (Cue (Fair Switch))) → sound_cue sound_fair c ≡ true
    → number_of (take name_limit (cue_bytes c)) ≡ number_in c
unfolding number_in cue_bytes_by
cue-number none h =
    ap number_of
    (ap (take name_limit) (zero-parts fair_cues)
    ∙ take_at (replicate name_limit 0) (replicate fair_size 0) name_limit (length-replicate {A = ℕ} name_limit 0))
    ∙ number-zeros name_limit
cue-number (some c) h =
    ap number_of
    (take_at (name_bytes c.name) (fair_bytes fair_number c.switch) name_limit (length-name_bytes c.name (sound_cue-name sound_fair c h)))
    ∙ number-bytes c.name

-- whether its number is that of a name
same_in : (name : List ℕ) (c : Option (Cue (Fair Switch))) → well_named name ≡ true → sound_cue sound_fair c ≡ true
    → eqb (number_in c) (number_of name) ≡ is_named name c
unfolding number_in is_named
same_in name none h k =
    let some-letter : 1 ≤ number_of name = name-positive name h in
    ne_eqb 0 (number_of name) (omega arith)
same_in name (some c) h k =
    eqb-turned (number_of c.name) (number_of name) ∙ same_name name c.name h (sound_cue-name sound_fair c k)

free_in : (c : Option (Cue (Fair Switch))) → sound_cue sound_fair c ≡ true → eqb (number_in c) 0 ≡ is_free c
unfolding number_in is_free
free_in none k = refl
free_in (some c) k =
    let some-letter : 1 ≤ number_of c.name = name-positive c.name (sound_cue-name sound_fair c k) in
    ne_eqb (number_of c.name) 0 (omega arith)

-- cues whose names have the numbers that stand in the bytes
module _ (store : List ℕ) (cues : Cues (Fair Switch)) (four : length cues ≡ cue_limit)
    (names : (k : ℕ) → k < cue_limit → name_at store k ≡ number_in (get_or cues k none)) where
  numbers : map (name_at store) (up_to cue_limit) ≡ map number_in cues
  unfolding up_to number_in
  numbers =
      let found = map (name_at store) (up_to cue_limit) in
      let many : length found ≡ cue_limit = length-map (up_to cue_limit) (name_at store) ∙ length-numbers_from 0 cue_limit in
      ext_get_or 0 found (map number_in cues)
      (many ∙ sym (length-map cues number_in ∙ four))
      (λ k m.
      let few : k < cue_limit = omega arith in
      numbers_from-at (name_at store) 0 cue_limit k 0 few
      ∙ ap (name_at store) (zero-add k)
      ∙ names k few
      ∙ sym (get_or-map number_in cues k none))

  place-number : (n : ℕ) → place_of store n ≡ first_place (λ c. eqb (number_in c) n) cues
  unfolding place_of
  place-number n =
      sym (first-map (λ m. eqb m n) (name_at store) (up_to cue_limit))
      ∙ ap (first_place (λ m. eqb m n)) numbers
      ∙ first-map (λ m. eqb m n) number_in cues

  pub place-name : all? (sound_cue sound_fair) cues ≡ true → (name : List ℕ) → well_named name ≡ true
      → place_of store (number_of name) ≡ first_place (is_named name) cues
  place-name each name h =
      place-number (number_of name)
      ∙ first-ext (λ c. eqb (number_in c) (number_of name)) (is_named name) cues
      (λ c m. same_in name c h (all?-e (sound_cue sound_fair) each m))

------------------------------------------------------------------------
-- a store of cues

module _ (store : List ℕ) (cues : Cues (Fair Switch)) (d : decode_store store ≡ some cues) where
  pub good : sound_cues sound_fair cues ≡ true
  good = (decode_store-some fair_cues store cues d).0

  pub cues-four : length cues ≡ cue_limit
  cues-four = sound_cues-length sound_fair cues good

  pub good-each : all? (sound_cue sound_fair) cues ≡ true
  good-each = sound_cues-each sound_fair cues good

  pub good-at : (k : ℕ) → k < cue_limit → sound_cue sound_fair (get_or cues k none) ≡ true
  good-at k few = all?-e (sound_cue sound_fair) good-each (get_or-mem cues k none (omega (arith, cues-four)))

  pub place_at_lem : (k : ℕ) → k < cue_limit → place_at store k ≡ cue_bytes (get_or cues k none)
  place_at_lem k few =
      ap (λ bs. place_at bs k) (sym (decode_store-some fair_cues store cues d).1) ∙ store_bytes-place fair_cues fair-fit cues good k few

  pub number-at : (k : ℕ) → k < cue_limit → name_at store k ≡ number_in (get_or cues k none)
  number-at k few =
      name-part store k
      ∙ ap (λ bs. number_of (take name_limit bs)) (place_at_lem k few)
      ∙ cue-number (get_or cues k none) (good-at k few)

  pub name_free : (k : ℕ) → k < cue_limit → get_or cues k none ≡ none → name_at store k ≡ 0
  unfolding number_in
  name_free k few e = number-at k few ∙ ap number_in e

  pub name-at : (k : ℕ) (c : Cue (Fair Switch)) → k < cue_limit → get_or cues k none ≡ some c
      → name_at store k ≡ number_of c.name
  unfolding number_in
  name-at k c few e = number-at k few ∙ ap number_in e

  pub place-named : (name : List ℕ) → well_named name ≡ true
      → place_of store (name_number name) ≡ first_place (is_named name) cues
  place-named name h =
      ap (place_of store) (number-name name h) ∙ place-name store cues cues-four number-at good-each name h

  pub place-free : place_of store 0 ≡ first_place is_free cues
  place-free =
      place-number store cues cues-four number-at 0
      ∙ first-ext (λ c. eqb (number_in c) 0) is_free cues (λ c m. free_in c (all?-e (sound_cue sound_fair) good-each m))

  pub table-at : (k : ℕ) (c : Cue (Fair Switch)) → k < cue_limit → get_or cues k none ≡ some c
      → table_at store k ≡ fair_bytes fair_number c.switch
  unfolding cue_bytes_by
  table-at k c few e =
      let well : well_named c.name ≡ true = sound_cue-name sound_fair c (ap (sound_cue sound_fair) (sym e) ∙ good-at k few) in
      table-part store k (decode_store-length fair_cues fair-fit store cues d) few
      ∙ ap (drop name_limit) (place_at_lem k few ∙ ap cue_bytes e)
      ∙ drop_at (name_bytes c.name) (fair_bytes fair_number c.switch) name_limit (length-name_bytes c.name well)

  put-place : (k : ℕ) (c : Option (Cue (Fair Switch))) → k < cue_limit
      → put (place_start k) place_size (cue_bytes c) store ≡ store_bytes (set cues k c)
  put-place k c few =
      ap (put (place_start k) place_size (cue_bytes c)) (sym (decode_store-some fair_cues store cues d).1)
      ∙ store_bytes-set fair_cues fair-fit cues good k few c

  pub put-cue : (k : ℕ) (name : List ℕ) (x : Fair Switch) → k < cue_limit → well_named name ≡ true
      → put (place_start k) place_size (bytes_of 8 (name_number name) ++ fair_bytes fair_number x) store
      ≡ store_bytes (set cues k (some (record { name = name; switch = x })))
  unfolding cue_bytes_by
  put-cue k name x few h =
      ap (λ bs. put (place_start k) place_size (bs ++ fair_bytes fair_number x) store)
      (ap (bytes_of 8) (number-name name h) ∙ name-bytes name h)
      ∙ put-place k (some (record { name = name; switch = x })) few

  pub put-free : (k : ℕ) → k < cue_limit
      → put (place_start k) place_size (replicate place_size 0) store ≡ store_bytes (set cues k none)
  unfolding cue_bytes_by
  put-free k few = put-place k none few
