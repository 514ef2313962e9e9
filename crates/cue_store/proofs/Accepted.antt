-- When bytes are a cue store: exactly if they have its length, its header is right and every place is.
use Prim.Native.Nat.{ℕ, ◌*◌, ◌≤◌, ◌<◌}
use mathlib.Core.Bool.{Bool, true, false, ◌&&◌}
use mathlib.Core.List.{List, [], ◌++◌, map}
use mathlib.Core.Option.{Option, none, some}
use mathlib.Core.Path.{◌≡◌, refl, sym, ◌∙◌, ap, ap₂}
use native.Mathlib.Omega.{arith}
use borrow.Author.Tests.{eqb-true, eqb-false, eq-eqb}
use lib.Dec.{eqb}
use lib.ListN.{length, take, drop, replicate, get_or, length-drop, length-replicate, length-map}
use lib.ListN.{get_or-map}
use lib.Seq.{drop_at, take-add, drop-drop, length-take-le, ext_get_or}
use Rattle.laws.specs.Lists.{all?, pairwise, up_to, between}
use Rattle.laws.proofs.Lists.{all?-i, all?-e, all?-places, get_or-mem}
use Rattle.laws.proofs.Numbers.{numbers_from-mem, mem-numbers_from}
use Rattle.laws.proofs.Tests.{and_i, and_l, and_r, by-fail, clash, same}
use Rattle.model.specs.Cues.{cue_limit, name_limit, well_named, first_place, is_named, other_name}
use Rattle.model.specs.Cues.{Cue, Cues, sound_cue, sound_cues}
use Rattle.model.specs.Fair.{Fair}
use Rattle.model.specs.Sound.{sound}
use Rattle.model.specs.State.{Switch}
use Rattle.layout.specs.Frame.{is_fair_table}
use Rattle.layout.specs.Cues.{sound_fair, fair_cues, place_size, store_size, cue_of, store_bytes}
use Rattle.layout.specs.CodeCues.{cue_bytes, cues_of}
use Rattle.layout.specs.Cues.{decode_store, is_store}
use Rattle.layout.specs.Fair.{fair_number, fair_size, fair_of}
use Rattle.layout.specs.Number.{bytes_of, number_of, number_at, word, same_bytes}
use Rattle.layout.specs.Stores.{store_header_size, name_of, store_header, pieces, cue_bytes_by, store_bytes_by, cue_by, cues_by}
use Rattle.layout.proofs.Cues.{fair-fit, decode_fair-sound, is_fair_table-bytes, is_store-some, is-store}
use Rattle.layout.proofs.Fair.{is-table-with}
use Rattle.layout.proofs.Number.{bytes?, bytes?-take, bytes?-drop, bytes_of-number_of}
use Rattle.layout.proofs.Number.{same_bytes-refl, same_bytes-exact}
use Rattle.layout.proofs.Pieces.{piece_of, count-pieces}
use Rattle.layout.proofs.Stores.{zero-parts, cue_of-cue_bytes, sound_cue-name, sound_cue-switch, decode_store-some}
use Rattle.layout.proofs.Stores.{decode_store-length, decode_store-some-iff, store_bytes-whole}
use Rattle.cue_store.specs.Code.{place_start, name_at, table_at, place_of, is_place, is_header}
use Rattle.cue_store.specs.Names.{is_name}
use Rattle.cue_store.proofs.CueNames.{first-named, other-named}
use Rattle.cue_store.proofs.Found.{place_at, name-part, table-part, number_in, cue-number}
use Rattle.cue_store.proofs.Found.{place-name, good, cues-four, good-each, good-at, place_at_lem, number-at}
use Rattle.cue_store.proofs.Found.{name_free, name-at, table-at}
use Rattle.cue_store.proofs.Names.{name-positive, is_name-i, is_name-well, is_name-bytes}
use Rattle.cue_store.proofs.PlaceTests.{is_cue, place-zeros, place-cue}

-- what the bytes of a store are
pub record Store (bs : List ℕ) : Type 0 where
  pub size : length bs ≡ store_size
  pub header : is_header bs ≡ true
  pub places : (k : ℕ) → k < cue_limit → is_place bs k ≡ true

------------------------------------------------------------------------
-- a store passes

header_of : (cues : Cues (Fair Switch)) → is_header (store_bytes cues) ≡ true
unfolding is_header store_bytes_by store_header bytes_of word number_at number_of same_bytes
header_of cues = refl

module _ (bs : List ℕ) (cues : Cues (Fair Switch)) (d : decode_store bs ≡ some cues) where
  others-of : pairwise other_name cues ≡ true
  unfolding sound_cues
  others-of = let sounds = good bs cues d in search and_r

  zeros_of : (k : ℕ) → k < cue_limit → get_or cues k none ≡ none → is_place bs k ≡ true
  zeros_of k few e =
      let zeros : List ℕ = replicate fair_size 0 in
      let table : table_at bs k ≡ zeros =
      table-part bs k (decode_store-length fair_cues fair-fit bs cues d) few
      ∙ ap (drop name_limit) (place_at_lem bs cues d k few ∙ ap cue_bytes e ∙ (zero-parts fair_cues))
      ∙ drop_at (replicate name_limit 0) zeros name_limit (length-replicate {A = ℕ} name_limit 0) in
      place-zeros bs k (name_free bs cues d k few e) ∙ ap (same_bytes zeros) table ∙ same_bytes-refl zeros

  cue-of : (k : ℕ) (c : Cue (Fair Switch)) → k < cue_limit → get_or cues k none ≡ some c → is_place bs k ≡ true
  cue-of k c few e =
      let fine : sound_cue sound_fair (some c) ≡ true = ap (sound_cue sound_fair) (sym e) ∙ good-at bs cues d k few in
      let well : well_named c.name ≡ true = sound_cue-name sound_fair c fine in
      let number : name_at bs k ≡ number_of c.name = name-at bs cues d k c few e in
      let some-letter : 1 ≤ number_of c.name = name-positive c.name well in
      let first : place_of bs (name_at bs k) ≡ k =
      ap (place_of bs) number
      ∙ place-name bs cues (cues-four bs cues d) (number-at bs cues d) (good-each bs cues d) c.name well
      ∙ first-named cues k c others-of (omega (arith, cues-four bs cues d)) e in
      let table : is_fair_table (table_at bs k) ≡ true =
      ap is_fair_table (table-at bs cues d k c few e)
      ∙ is_fair_table-bytes c.switch (sound_cue-switch sound_fair c fine) in
      place-cue bs k (λ z. omega arith)
      ∙ and_i (is_name (name_at bs k)) _ (ap is_name number ∙ is_name-i c.name well)
      (and_i (eqb (place_of bs (name_at bs k)) k) _ (eq-eqb _ k first) table)

  place-of : (k : ℕ) → k < cue_limit → is_place bs k ≡ true
  place-of k few = go (get_or cues k none) refl
    where
      go : (o : Option (Cue (Fair Switch))) → get_or cues k none ≡ o → is_place bs k ≡ true
      go none e = zeros_of k few e
      go (some c) e = cue-of k c few e

  store_of : Store bs
  store_of =
      record {
        size = decode_store-length fair_cues fair-fit bs cues d;
        header = ap is_header (sym (decode_store-some fair_cues bs cues d).1) ∙ header_of cues;
        places = place-of;
      }

pub is_store-e : (bs : List ℕ) → is_store bs ≡ true → Store bs
is_store-e bs h = store_of bs (cues_of bs) (is-store bs h)

------------------------------------------------------------------------
-- what passes is a store

-- the bytes of a place are those of a sound cue, or of none
abbrev Held : List ℕ → Type 0
Held p = (sound_cue sound_fair (cue_of p) ≡ true) × (cue_bytes (cue_of p) ≡ p)

held : (p : List ℕ) (c : Option (Cue (Fair Switch))) → sound_cue sound_fair c ≡ true → p ≡ cue_bytes c → Held p
held p c g e =
    let back : cue_of p ≡ c = ap cue_of e ∙ cue_of-cue_bytes fair_cues fair-fit c g in
    (ap (sound_cue sound_fair) back ∙ g, ap cue_bytes back ∙ sym e)

module _ (bs : List ℕ) (h : bytes? bs ≡ true) (t : Store bs) where
  -- a place is its name and its table
  place-parts : (k : ℕ) → k < cue_limit → place_at bs k ≡ bytes_of 8 (name_at bs k) ++ table_at bs k
  unfolding name_at number_at table_at
  place-parts k few =
      let p : List ℕ = drop (place_start k) bs in
      let long : name_limit ≤ length p = simp length-drop (omega (arith, t.size)) in
      let name : bytes? (take name_limit p) ≡ true = bytes?-take name_limit p (bytes?-drop (place_start k) bs h) in
      take-add name_limit fair_size p
      ∙ ap₂ ◌++◌ (sym (bytes_of-number_of 8 (take name_limit p) name (length-take-le name_limit p long)))
      (ap (take fair_size) (drop-drop name_limit (place_start k) bs))

  held-zeros : (k : ℕ) → k < cue_limit → name_at bs k ≡ 0 → place_at bs k ≡ cue_bytes none
  unfolding bytes_of
  held-zeros k few z =
      let zeros : List ℕ = replicate fair_size 0 in
      let table : zeros ≡ table_at bs k =
      same_bytes-exact zeros (table_at bs k) (sym (place-zeros bs k z) ∙ t.places k few) in
      place-parts k few ∙ ap₂ (λ n bs. bytes_of 8 n ++ bs) z (sym table) ∙ sym (zero-parts fair_cues)

  -- what the test of a place with a name says
  module _ (k : ℕ) (few : k < cue_limit) (z : name_at bs k ≡ 0 → ⊥) where
    test_at : is_cue bs k ≡ true
    test_at = sym (place-cue bs k z) ∙ t.places k few

    name-test : is_name (name_at bs k) ≡ true
    name-test = let test = test_at in search and_l

    first-test : place_of bs (name_at bs k) ≡ k
    first-test = let test = test_at in eqb-true (place_of bs (name_at bs k)) k (search (and_l, and_r))

    table-test : is_fair_table (table_at bs k) ≡ true
    table-test = let test = test_at in search and_r

  held-cue : (k : ℕ) → k < cue_limit → (name_at bs k ≡ 0 → ⊥) → Held (place_at bs k)
  unfolding sound_cue cue_bytes_by
  held-cue k few z =
      let n = name_at bs k in
      let name = name-test k few z in
      let table = decode_fair-sound (table_at bs k) _ (is-table-with fair_number sound (table_at bs k) (table-test k few z)) in
      held (place_at bs k) (some (record { name = name_of (bytes_of 8 n); switch = fair_of (table_at bs k) }))
      (and_i (well_named (name_of (bytes_of 8 n))) _ (is_name-well n name) table.0)
      (place-parts k few ∙ ap₂ ◌++◌ (sym (is_name-bytes n name)) (sym table.1))

  held_at : (k : ℕ) → k < cue_limit → Held (place_at bs k)
  unfolding sound_cue
  held_at k few = go (eqb (name_at bs k) 0) refl
    where
      go : (b : Bool) → eqb (name_at bs k) 0 ≡ b → Held (place_at bs k)
      go true e = held (place_at bs k) none refl (held-zeros k few (eqb-true (name_at bs k) 0 e))
      go false e = held-cue k few (eqb-false (name_at bs k) 0 e)

  -- the cues by their numbers
  count-cues : length (cues_of bs) ≡ cue_limit
  unfolding cues_by
  count-cues =
      length-map (pieces place_size cue_limit (drop store_header_size bs)) cue_of
      ∙ count-pieces place_size cue_limit (drop store_header_size bs)

  piece-at : (d : List ℕ) (k : ℕ) → k < cue_limit
      → get_or (pieces place_size cue_limit (drop store_header_size bs)) k d ≡ place_at bs k
  piece-at d k few =
      piece_of place_size cue_limit (drop store_header_size bs) d k few
      ∙ ap (take place_size) (drop-drop (place_size * k) store_header_size bs)

  cue-at : (k : ℕ) → k < cue_limit → get_or (cues_of bs) k none ≡ cue_of (place_at bs k)
  unfolding cues_by cue_by name_of
  cue-at k few =
      get_or-map cue_of (pieces place_size cue_limit (drop store_header_size bs)) k [] ∙ ap cue_of (piece-at [] k few)

  sound-at : all? (sound_cue sound_fair) (cues_of bs) ≡ true
  sound-at =
      all?-places (sound_cue sound_fair) none (cues_of bs)
      (λ k m.
      let few : k < cue_limit = omega (arith, count-cues) in
      ap (sound_cue sound_fair) (cue-at k few) ∙ (held_at k few).0)

  numbers-at : (k : ℕ) → k < cue_limit → name_at bs k ≡ number_in (get_or (cues_of bs) k none)
  numbers-at k few =
      name-part bs k
      ∙ ap (λ p. number_of (take name_limit p)) (sym (held_at k few).1)
      ∙ cue-number (cue_of (place_at bs k)) (held_at k few).0
      ∙ ap number_in (sym (cue-at k few))

  -- each is the first with its name
  first-at : (k : ℕ) (c : Cue (Fair Switch)) → k < length (cues_of bs) → get_or (cues_of bs) k none ≡ some c
      → first_place (is_named c.name) (cues_of bs) ≡ k
  unfolding number_in
  first-at k c m e =
      let few : k < cue_limit = omega (arith, count-cues) in
      let well : well_named c.name ≡ true =
      sound_cue-name sound_fair c (ap (sound_cue sound_fair) (sym e) ∙ all?-e (sound_cue sound_fair) sound-at (get_or-mem (cues_of bs) k none m)) in
      let number : name_at bs k ≡ number_of c.name = numbers-at k few ∙ ap number_in e in
      let some-letter : 1 ≤ number_of c.name = name-positive c.name well in
      sym (place-name bs (cues_of bs) count-cues numbers-at sound-at c.name well)
      ∙ ap (place_of bs) (sym number)
      ∙ first-test k few (λ z. omega arith)

  sounds-at : sound_cues sound_fair (cues_of bs) ≡ true
  unfolding sound_cues
  sounds-at =
      and_i (eqb (length (cues_of bs)) cue_limit) _ (eq-eqb (length (cues_of bs)) cue_limit count-cues)
      (and_i (all? (sound_cue sound_fair) (cues_of bs)) _ sound-at (other-named (cues_of bs) first-at))

  places-at : map cue_bytes (cues_of bs) ≡ pieces place_size cue_limit (drop store_header_size bs)
  places-at =
      let places = pieces place_size cue_limit (drop store_header_size bs) in
      let four : length (map cue_bytes (cues_of bs)) ≡ cue_limit = length-map (cues_of bs) cue_bytes ∙ count-cues in
      ext_get_or (cue_bytes none) (map cue_bytes (cues_of bs)) places
      (four ∙ sym (count-pieces place_size cue_limit (drop store_header_size bs)))
      (λ k m.
      let few : k < cue_limit = omega arith in
      get_or-map cue_bytes (cues_of bs) k none
      ∙ ap cue_bytes (cue-at k few)
      ∙ (held_at k few).1
      ∙ sym (piece-at (cue_bytes none) k few))

  bytes-at : store_bytes (cues_of bs) ≡ bs
  unfolding is_header
  bytes-at =
      let header = t.header in
      let layout : word bs 0 ≡ fair_number = eqb-true (word bs 0) fair_number (search and_l) in
      let zeros : replicate 12 0 ≡ take 12 (drop 4 bs) =
      same_bytes-exact (replicate 12 0) (take 12 (drop 4 bs)) (search and_r) in
      store_bytes-whole fair_cues fair-fit bs (cues_of bs) h t.size layout (sym zeros) (sym places-at)

  pub is_store-i : is_store bs ≡ true
  is_store-i = is_store-some bs (cues_of bs) ((decode_store-some-iff fair_cues fair-fit bs (cues_of bs)).1 (sounds-at, bytes-at))

------------------------------------------------------------------------
-- the tests of the code

-- one that fails
module _ (bs : List ℕ) where
  not-store : (Store bs → ⊥) → is_store bs ≡ false
  not-store broken = by-fail (is_store bs) (λ h. broken (is_store-e bs h))

  pub other-size : (length bs ≡ store_size → ⊥) → is_store bs ≡ false
  other-size h = not-store (λ t. h t.size)

  pub other-header : is_header bs ≡ false → is_store bs ≡ false
  other-header h = not-store (λ t. clash t.header h)

pub accepted : (bs : List ℕ) → bytes? bs ≡ true
    → is_store bs ≡ (eqb (length bs) store_size && (is_header bs && all? (is_place bs) (up_to cue_limit)))
unfolding up_to
accepted bs h =
    let places = all? (is_place bs) (up_to cue_limit) in
    same (is_store bs) _
    (λ s.
    let t = is_store-e bs s in
    and_i (eqb (length bs) store_size) _ (eq-eqb (length bs) store_size t.size)
    (and_i (is_header bs) places t.header
    (all?-i (is_place bs) (up_to cue_limit) (λ k m. t.places k (omega (arith, (mem-numbers_from 0 cue_limit m).1))))))
    (λ s.
    is_store-i bs h
    (record {
      size = eqb-true (length bs) store_size (and_l (eqb (length bs) store_size) _ s);
      header = and_l (is_header bs) places (and_r (eqb (length bs) store_size) _ s);
      places = λ k few.
          all?-e (is_place bs) (and_r (is_header bs) places (and_r (eqb (length bs) store_size) _ s))
          (numbers_from-mem 0 cue_limit (omega arith) (omega arith));
    }))

-- where the size and the header are right, the places are all that is left
pub places-left : (bs : List ℕ) → bytes? bs ≡ true → length bs ≡ store_size → is_header bs ≡ true
    → is_store bs ≡ all? (is_place bs) (between 0 cue_limit)
unfolding up_to between
places-left bs h size header =
    accepted bs h
    ∙ ap₂ (λ a b. a && (b && all? (is_place bs) (up_to cue_limit))) (eq-eqb (length bs) store_size size) header
