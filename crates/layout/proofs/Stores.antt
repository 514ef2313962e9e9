-- Laws of a cue store's bytes, from the name over the cue to the whole, for any layout of its tables: what is read from the
-- bytes of sound cues is those cues, and a store is accepted exactly if it is the bytes of sound cues.
use Prim.Native.Nat.{ℕ, zero, suc, ◌+◌, ◌*◌, ◌-◌, ◌≤◌, ◌<◌}
use mathlib.Core.Bool.{Bool, true, false, ◌&&◌}
use mathlib.Core.Path.{◌≡◌, refl, sym, ◌∙◌, ap, ap₂}
use mathlib.Core.Logic.{◌↔◌}
use mathlib.Core.List.{List, [], ◌∷◌, ◌++◌, map, flatten, append_assoc}
use mathlib.Core.Option.{Option, none, some, some-injective, some-ne-none}
use native.Mathlib.Omega.{arith}
use borrow.Author.Tests.{lt-ltb, leb-true, eqb-true, eq-eqb, ne_eqb}
use lib.Dec.{eqb}
use lib.ListN.{length, take, drop, get_or, set, replicate, length-append, length-replicate, length-drop, length-map}
use lib.ListN.{take-append-drop, replicate-append-replicate, get_or-map}
use lib.Seq.{take_at, drop_at, drop-drop, drop-append-add}
use Rattle.laws.specs.Lists.{all?}
use Rattle.laws.proofs.Tests.{and_i, and_l, and_r, cond-fail}
use Rattle.laws.proofs.Lists.{all?-mono, get_d_any}
use Rattle.model.specs.Cues.{cue_limit, name_limit, Cue, Cues, no_cues, is_letter, well_named, sound_cue, sound_cues}
use Rattle.layout.specs.Code.{put}
use Rattle.layout.specs.Number.{bytes_of, word, same_bytes}
use Rattle.layout.specs.Stores.{Layout, store_header_size, place_size_by, store_size_by, name_bytes, name_of, pieces}
use Rattle.layout.specs.Stores.{store_header, cue_bytes_by, store_bytes_by, cue_by, cues_by, decode_by}
use Rattle.layout.proofs.Number.{bytes?, is_byte, bytes?-append, zeros-bytes}
use Rattle.layout.proofs.Number.{bytes_of-at, same_bytes-refl, same_bytes-exact}
use Rattle.layout.proofs.Pieces.{sized, length-flatten, flatten-pieces, pieces-flatten, piece-at, put-piece}
use Rattle.layout.proofs.Pieces.{flatten-zeros}

------------------------------------------------------------------------
-- a name

-- what a well-formed name says here: at least one letter, at most eight, and letters only
module _ (name : List ℕ) (h : well_named name ≡ true) where
  well_named-some : 0 < length name
  unfolding well_named
  well_named-some = leb-true 1 (length name) (search and_l)

  well_named-few : length name ≤ name_limit
  unfolding well_named
  well_named-few = leb-true (length name) name_limit (search (and_l, and_r))

  well_named-letters : all? is_letter name ≡ true
  unfolding well_named
  well_named-letters = search and_r

letter-range : (b : ℕ) → is_letter b ≡ true → (0 < b) × (b < 256)
unfolding is_letter
letter-range b h =
    let least : 97 ≤ b = leb-true 97 b (search and_l) in
    let most : b ≤ 122 = leb-true b 122 (search and_r) in
    (omega arith, omega arith)

letters-bytes : (name : List ℕ) → all? is_letter name ≡ true → bytes? name ≡ true
unfolding bytes? is_byte
letters-bytes name h = all?-mono is_letter is_byte name (λ b m l. lt-ltb b 256 (letter-range b l).1) h

-- letters before zeros are read back
name_of-letters : (name : List ℕ) (n : ℕ) → all? is_letter name ≡ true → name_of (name ++ replicate n 0) ≡ name
unfolding name_of all?
name_of-letters [] zero h = refl
name_of-letters [] (suc n) h = refl
name_of-letters (b ∷ bs) n h =
    let some-letter : 0 < b = (letter-range b (and_l (is_letter b) (all? is_letter bs) h)).0 in
    cond-fail (eqb b 0) [] _ (ne_eqb b 0 (omega arith))
    ∙ ap (λ l. b ∷ l) (name_of-letters bs n (and_r (is_letter b) (all? is_letter bs) h))

pub length-name_bytes : (name : List ℕ) → well_named name ≡ true → length (name_bytes name) ≡ name_limit
unfolding name_bytes
length-name_bytes name h = simp (length-append, length-replicate) (omega (arith, well_named-few name h))

pub name_bytes-bytes : (name : List ℕ) → well_named name ≡ true → bytes? (name_bytes name) ≡ true
unfolding name_bytes
name_bytes-bytes name h =
    bytes?-append name (replicate (name_limit - length name) 0) (letters-bytes name (well_named-letters name h))
    (zeros-bytes (name_limit - length name))

pub name_of-name_bytes : (name : List ℕ) → well_named name ≡ true → name_of (name_bytes name) ≡ name
unfolding name_bytes
name_of-name_bytes name h = name_of-letters name (name_limit - length name) (well_named-letters name h)

------------------------------------------------------------------------
-- cues

-- what sound cues say, and a sound cue
module _ {S : Type 0} (sound : S → Bool) where
  pub sound_cues-length : (cues : Cues S) → sound_cues sound cues ≡ true → length cues ≡ cue_limit
  unfolding sound_cues
  sound_cues-length cues h = eqb-true (length cues) cue_limit (search and_l)

  pub sound_cues-each : (cues : Cues S) → sound_cues sound cues ≡ true → all? (sound_cue sound) cues ≡ true
  unfolding sound_cues
  sound_cues-each cues h = search (and_l, and_r)

  pub sound_cue-name : (c : Cue S) → sound_cue sound (some c) ≡ true → well_named c.name ≡ true
  unfolding sound_cue
  sound_cue-name c h = search and_l

  pub sound_cue-switch : (c : Cue S) → sound_cue sound (some c) ≡ true → sound c.switch ≡ true
  unfolding sound_cue
  sound_cue-switch c h = search and_r

-- setting one before or after all are mapped
map-set : {A B : Type 0} (f : A → B) (l : List A) (k : ℕ) (x : A) → map f (set l k x) ≡ set (map f l) k (f x)
map-set f [] k x = refl
map-set f (y ∷ l) zero x = refl
map-set f (y ∷ l) (suc k) x = ap (λ m. f y ∷ m) (map-set f l k x)

pub length-store_header : (number : ℕ) → length (store_header number) ≡ store_header_size
unfolding store_header bytes_of
length-store_header number = refl

pub store_bytes-no_cues : {S : Type 0} (l : Layout S)
    → store_bytes_by l no_cues ≡ bytes_of 4 l.number ++ replicate (12 + place_size_by l * cue_limit) 0
unfolding store_bytes_by store_header no_cues cue_bytes_by
store_bytes-no_cues l =
    append_assoc (bytes_of 4 l.number) (replicate 12 0) (flatten (replicate cue_limit (replicate (place_size_by l) 0)))
    ∙ ap (λ bs. bytes_of 4 l.number ++ (replicate 12 0 ++ bs)) (flatten-zeros (place_size_by l) cue_limit)
    ∙ ap (λ bs. bytes_of 4 l.number ++ bs) (replicate-append-replicate 12 (place_size_by l * cue_limit) 0)

-- a free place is zeros
pub zero-parts : {S : Type 0} (l : Layout S) → cue_bytes_by l none ≡ replicate name_limit 0 ++ replicate l.size 0
unfolding cue_bytes_by
zero-parts l = sym (replicate-append-replicate name_limit l.size 0)

-- what a layout's tables are to be: each sound switch has one of the size, which stands for it
pub record Fit {S : Type 0} (l : Layout S) : Type 0 where
  pub long : (s : S) → l.sound s ≡ true → length (l.bytes s) ≡ l.size
  pub back : (s : S) → l.sound s ≡ true → l.state (l.bytes s) ≡ s

module _ {S : Type 0} (l : Layout S) (fit : Fit l) where
  pub length-cue_bytes : (p : Option (Cue S)) → sound_cue l.sound p ≡ true → length (cue_bytes_by l p) ≡ place_size_by l
  unfolding cue_bytes_by
  length-cue_bytes none h = length-replicate {A = ℕ} (place_size_by l) 0
  length-cue_bytes (some c) h =
      length-append (name_bytes c.name) (l.bytes c.switch)
      ∙ ap₂ ◌+◌ (length-name_bytes c.name (sound_cue-name l.sound c h))
      (fit.long c.switch (sound_cue-switch l.sound c h))

  pub cue_of-cue_bytes : (p : Option (Cue S)) → sound_cue l.sound p ≡ true → cue_by l (cue_bytes_by l p) ≡ p
  unfolding cue_by cue_bytes_by name_of
  cue_of-cue_bytes none h = ap (cue_by l) (zero-parts l)
  cue_of-cue_bytes (some c) h =
      let from : List ℕ → S → Option (Cue S) =
      λ name s. elim (eqb (length name) 0) [ true ↦ none | false ↦ some (record { name = name; switch = s }) ] in
      let table : List ℕ = l.bytes c.switch in
      let w : well_named c.name ≡ true = sound_cue-name l.sound c h in
      let size : length (name_bytes c.name) ≡ name_limit = length-name_bytes c.name w in
      let named : name_of (take name_limit (name_bytes c.name ++ table)) ≡ c.name =
      ap name_of (take_at (name_bytes c.name) table name_limit size) ∙ name_of-name_bytes c.name w in
      let state : l.state (drop name_limit (name_bytes c.name ++ table)) ≡ c.switch =
      ap l.state (drop_at (name_bytes c.name) table name_limit size)
      ∙ fit.back c.switch (sound_cue-switch l.sound c h) in
      ap₂ from named state ∙ rw (ne_eqb (length c.name) 0 (omega (arith, well_named-some c.name w)))

  -- the places, one after the other: each of its size, and what is read from them
  pub places-sized : (cues : Cues S) → all? (sound_cue l.sound) cues ≡ true
      → sized (place_size_by l) (map (cue_bytes_by l) cues) ≡ true
  unfolding sized all?
  places-sized [] h = refl
  places-sized (p ∷ cues) h =
      let one : sound_cue l.sound p ≡ true = search and_l in
      let others : all? (sound_cue l.sound) cues ≡ true = search and_r in
      and_i (eqb (length (cue_bytes_by l p)) (place_size_by l)) (sized (place_size_by l) (map (cue_bytes_by l) cues))
      (eq-eqb (length (cue_bytes_by l p)) (place_size_by l) (length-cue_bytes p one)) (places-sized cues others)

  places-cues : (cues : Cues S) → all? (sound_cue l.sound) cues ≡ true → map (cue_by l) (map (cue_bytes_by l) cues) ≡ cues
  unfolding all?
  places-cues [] h = refl
  places-cues (p ∷ cues) h =
      let one : sound_cue l.sound p ≡ true = search and_l in
      let others : all? (sound_cue l.sound) cues ≡ true = search and_r in
      ap₂ ◌∷◌ (cue_of-cue_bytes p one) (places-cues cues others)

  -- the store of sound cues
  module _ (cues : Cues S) (h : sound_cues l.sound cues ≡ true) where
    count-places : length (map (cue_bytes_by l) cues) ≡ cue_limit
    count-places = length-map cues (cue_bytes_by l) ∙ sound_cues-length l.sound cues h

    all-sized : sized (place_size_by l) (map (cue_bytes_by l) cues) ≡ true
    all-sized = places-sized cues (sound_cues-each l.sound cues h)

    pub length-store_bytes : length (store_bytes_by l cues) ≡ store_size_by l
    unfolding store_bytes_by
    length-store_bytes =
        length-append (store_header l.number) (flatten (map (cue_bytes_by l) cues))
        ∙ ap₂ ◌+◌ (length-store_header l.number)
        (length-flatten (place_size_by l) (map (cue_bytes_by l) cues) all-sized
        ∙ ap (λ n. place_size_by l * n) count-places
        ∙ omega arith)

    -- its places, cut apart
    pub store_bytes-pieces : pieces (place_size_by l) cue_limit (drop store_header_size (store_bytes_by l cues))
        ≡ map (cue_bytes_by l) cues
    unfolding store_bytes_by
    store_bytes-pieces =
        ap₂ (pieces (place_size_by l)) (sym count-places)
        (drop_at (store_header l.number) (flatten (map (cue_bytes_by l) cues)) store_header_size
        (length-store_header l.number))
        ∙ pieces-flatten (place_size_by l) (map (cue_bytes_by l) cues) all-sized

    pub cues_of-store_bytes : cues_by l (store_bytes_by l cues) ≡ cues
    unfolding cues_by
    cues_of-store_bytes =
        ap (map (cue_by l)) store_bytes-pieces ∙ places-cues cues (sound_cues-each l.sound cues h)

    -- one place of it read, and one written
    module _ (k : ℕ) (inside : k < cue_limit) where
      within : k < length (map (cue_bytes_by l) cues)
      within = omega (arith, count-places)

      pub store_bytes-place : take (place_size_by l) (drop (store_header_size + place_size_by l * k) (store_bytes_by l cues))
          ≡ cue_bytes_by l (get_or cues k none)
      unfolding store_bytes_by
      store_bytes-place =
          ap (λ n. take (place_size_by l) (drop (n + place_size_by l * k) (store_bytes_by l cues)))
          (sym (length-store_header l.number))
          ∙ ap (take (place_size_by l))
          (drop-append-add (store_header l.number) (flatten (map (cue_bytes_by l) cues)) (place_size_by l * k))
          ∙ piece-at (place_size_by l) (map (cue_bytes_by l) cues) k all-sized within
          ∙ get_d_any (map (cue_bytes_by l) cues) k [] (cue_bytes_by l none) within
          ∙ get_or-map (cue_bytes_by l) cues k none

      pub store_bytes-set : (p : Option (Cue S))
          → put (store_header_size + place_size_by l * k) (place_size_by l) (cue_bytes_by l p) (store_bytes_by l cues)
          ≡ store_bytes_by l (set cues k p)
      unfolding store_bytes_by
      store_bytes-set p =
          ap (λ n. put (n + place_size_by l * k) (place_size_by l) (cue_bytes_by l p) (store_bytes_by l cues))
          (sym (length-store_header l.number))
          ∙ put-piece (place_size_by l) (map (cue_bytes_by l) cues) k (cue_bytes_by l p) (store_header l.number) all-sized within
          ∙ ap (λ xs. store_header l.number ++ flatten xs) (sym (map-set (cue_bytes_by l) cues k p))

------------------------------------------------------------------------
-- what is accepted

-- whether the bytes are those of the cues that they would stand for, and these are sound
abbrev whole? : {S : Type 0} → Layout S → List ℕ → Bool
whole? l bs = sound_cues l.sound (cues_by l bs) && same_bytes (store_bytes_by l (cues_by l bs)) bs

-- the bytes of sound cues
pub decode_store-some : {S : Type 0} (l : Layout S) (bs : List ℕ) (cues : Cues S) → decode_by l bs ≡ some cues
    → (sound_cues l.sound cues ≡ true) × (store_bytes_by l cues ≡ bs)
unfolding decode_by
decode_store-some l bs cues e = go (whole? l bs) refl e
  where
    go : (b : Bool) → whole? l bs ≡ b → elim b [ true ↦ some (cues_by l bs) | false ↦ none ] ≡ some cues
        → (sound_cues l.sound cues ≡ true) × (store_bytes_by l cues ≡ bs)
    go true t e =
        let held : cues_by l bs ≡ cues = some-injective (cues_by l bs) cues e in
        let same : store_bytes_by l (cues_by l bs) ≡ bs =
        same_bytes-exact _ bs (and_r (sound_cues l.sound (cues_by l bs)) _ t) in
        (ap (sound_cues l.sound) (sym held) ∙ and_l _ _ t, ap (store_bytes_by l) (sym held) ∙ same)
    go false t e = absurd (some-ne-none cues (sym e))

module _ {S : Type 0} (l : Layout S) (fit : Fit l) where
  pub decode_store-store_bytes : (cues : Cues S) → sound_cues l.sound cues ≡ true
      → decode_by l (store_bytes_by l cues) ≡ some cues
  unfolding decode_by
  decode_store-store_bytes cues h =
      let bs : List ℕ = store_bytes_by l cues in
      let back : cues_by l bs ≡ cues = cues_of-store_bytes l fit cues h in
      let exact : same_bytes (store_bytes_by l (cues_by l bs)) bs ≡ true = rw back (same_bytes-refl bs) in
      let soundly : sound_cues l.sound (cues_by l bs) ≡ true = ap (sound_cues l.sound) back ∙ h in
      rw (and_i (sound_cues l.sound (cues_by l bs)) _ soundly exact, decode_by) (ap some back)

  pub decode_store-some-iff : (bs : List ℕ) (cues : Cues S)
      → (decode_by l bs ≡ some cues) ↔ ((sound_cues l.sound cues ≡ true) × (store_bytes_by l cues ≡ bs))
  decode_store-some-iff bs cues = (decode_store-some l bs cues, λ h. rw (← h.1) (decode_store-store_bytes cues h.0))

  -- bytes of the length, with the number, zeros, and places that are those of cues
  pub store_bytes-whole : (bs : List ℕ) (cues : Cues S) → bytes? bs ≡ true → length bs ≡ store_size_by l
      → word bs 0 ≡ l.number → take 12 (drop 4 bs) ≡ replicate 12 0
      → pieces (place_size_by l) cue_limit (drop store_header_size bs) ≡ map (cue_bytes_by l) cues → store_bytes_by l cues ≡ bs
  unfolding store_bytes_by store_header word
  store_bytes-whole bs cues h size first zeros cut =
      let places : flatten (map (cue_bytes_by l) cues) ≡ drop store_header_size bs =
      ap flatten (sym cut)
      ∙ flatten-pieces (place_size_by l) cue_limit (drop store_header_size bs)
      (length-drop store_header_size bs ∙ omega arith) in
      append_assoc (bytes_of 4 l.number) (replicate 12 0) (flatten (map (cue_bytes_by l) cues))
      ∙ ap₂ (λ n tail. bytes_of 4 n ++ tail) (sym first)
      (ap₂ ◌++◌ (sym zeros) (places ∙ sym (drop-drop 12 4 bs)) ∙ take-append-drop 12 (drop 4 bs))
      ∙ bytes_of-at 4 0 bs h (omega arith) (drop 4 bs) refl

  -- an accepted store has its length
  pub decode_store-length : (bs : List ℕ) (cues : Cues S) → decode_by l bs ≡ some cues → length bs ≡ store_size_by l
  decode_store-length bs cues e =
      let h = decode_store-some l bs cues e in
      rw (← h.1) (length-store_bytes l fit cues h.0)

  -- sound cues of the same bytes are the same
  pub store_bytes-injective : (cs ds : Cues S) → sound_cues l.sound cs ≡ true → sound_cues l.sound ds ≡ true
      → store_bytes_by l cs ≡ store_bytes_by l ds → cs ≡ ds
  store_bytes-injective cs ds h k e =
      sym (cues_of-store_bytes l fit cs h) ∙ ap (cues_by l) e ∙ cues_of-store_bytes l fit ds k

  -- an accepted store is the bytes of the cues that it would stand for
  pub decode_store-cues : (bs : List ℕ) (cues : Cues S) → decode_by l bs ≡ some cues → cues_by l bs ≡ cues
  decode_store-cues bs cues e =
      let h = decode_store-some l bs cues e in
      ap (cues_by l) (sym h.1) ∙ cues_of-store_bytes l fit cues h.0
