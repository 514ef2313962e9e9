-- An older cue store and its places in the new layout: they are the store of the same cues (new-store), and bytes are an
-- older store exactly if they have its length and number and those places are a store's (older-accepted). So is what the
-- code reads (read-..).
use Prim.Native.Nat.{ℕ, zero, suc, ◌+◌, ◌*◌, ◌<◌}
use mathlib.Core.Bool.{Bool, true, false, true≢false}
use mathlib.Core.List.{List, [], ◌∷◌, ◌++◌, map, flatten, map-map, append_assoc}
use mathlib.Core.Option.{Option, none, some}
use mathlib.Core.Path.{◌≡◌, refl, sym, ◌∙◌, ap, ap₂}
use native.Mathlib.Nat.{zero-add, mul-suc}
use native.Mathlib.Omega.{arith}
use borrow.Author.Tests.{eqb-true, eq-eqb}
use lib.Dec.{eqb}
use lib.ListN.{length, take, drop, replicate, length-drop, length-map}
use lib.Seq.{take_at, drop_at, drop-drop, length-take-le, ext_get_or}
use Rattle.laws.specs.Lists.{all?, up_to}
use Rattle.laws.proofs.Numbers.{length-numbers_from, numbers_from-at}
use Rattle.laws.proofs.Tests.{and_i, and_l, and_r, by-fail, clash, same}
use Rattle.model.specs.Cues.{cue_limit, Cues, sound_cue, sound_cues}
use Rattle.model.specs.Fair.{Fair}
use Rattle.model.specs.Sound.{sound}
use Rattle.model.specs.State.{Switch}
use Rattle.layout.specs.Cues.{sound_fair, fair_cues, older_cues, place_size, old_store_size}
use Rattle.layout.specs.CodeCues.{old_place_size}
use Rattle.layout.specs.Cues.{store_bytes, is_store, decode_old_store, cue_with, converted}
use Rattle.layout.specs.CodeCues.{cue_bytes, cues_of}
use Rattle.layout.specs.Fair.{fair_number}
use Rattle.layout.specs.Memory.{word_size}
use Rattle.layout.specs.Number.{bytes_of, number_of, number_at, word}
use Rattle.layout.specs.Stores.{store_header_size, store_header, pieces, cue_bytes_by, store_bytes_by}
use Rattle.layout.specs.Table.{layout_number}
use Rattle.layout.proofs.Cues.{older-fit, fair-fit, sound_fair-core, is_store-some, is-store}
use Rattle.layout.proofs.Number.{bytes?}
use Rattle.layout.proofs.OlderCues.{sound_cues-with, converted-sound}
use Rattle.layout.proofs.Pieces.{sized, piece_of, count-pieces, pieces-flatten}
use Rattle.layout.proofs.Stores.{sound_cues-each, decode_store-some, decode_store-length, decode_store-store_bytes}
use Rattle.layout.proofs.Stores.{decode_store-some-iff, store_bytes-pieces, store_bytes-whole}
use Rattle.cue_store.specs.CodeOlder.{old_place_at, new_place, new_up_to, new_store, is_old_store, Converted}
use Rattle.cue_store.proofs.OlderPlaces.{older-place, length-new, new-older}

-- the places of an older store, one after the other
abbrev old_places : List ℕ → List (List ℕ)
old_places old = pieces old_place_size cue_limit (drop store_header_size old)

-- by their numbers
module _ (old : List ℕ) where
  old-places : map (old_place_at old) (up_to cue_limit) ≡ old_places old
  unfolding up_to old_place_at
  old-places =
      let numbered : List (List ℕ) = map (old_place_at old) (up_to cue_limit) in
      let many : length numbered ≡ cue_limit =
      length-map (up_to cue_limit) (old_place_at old) ∙ length-numbers_from 0 cue_limit in
      ext_get_or [] numbered (old_places old) (many ∙ sym (count-pieces old_place_size cue_limit (drop store_header_size old)))
      (λ k m.
      let few : k < cue_limit = omega arith in
      numbers_from-at (old_place_at old) 0 cue_limit k [] few
      ∙ ap (old_place_at old) (zero-add k)
      ∙ sym
      (piece_of old_place_size cue_limit (drop store_header_size old) [] k few
      ∙ ap (take old_place_size) (drop-drop (old_place_size * k) store_header_size old)))

  new-parts : new_store old
      ≡ bytes_of word_size fair_number ++ (take 12 (drop word_size old) ++ flatten (map new_place (old_places old)))
  unfolding new_up_to
  new-parts =
      ap (λ ps. bytes_of word_size fair_number ++ (take 12 (drop word_size old) ++ flatten ps))
      (sym (map-map new_place (old_place_at old) (up_to cue_limit)) ∙ ap (map new_place) old-places)

------------------------------------------------------------------------
-- the places of older cues are those of the same cues

new-places : (cues : Cues Switch) → all? (sound_cue sound) cues ≡ true
    → map new_place (map (cue_bytes_by older_cues) cues) ≡ map cue_bytes (converted cues)
unfolding all? converted
new-places [] h = refl
new-places (p ∷ cues) h =
    let one : sound_cue sound p ≡ true = search and_l in
    let others : all? (sound_cue sound) cues ≡ true = search and_r in
    ap₂ ◌∷◌ (older-place p one) (new-places cues others)

header-zeros : (cues : Cues Switch) → take 12 (drop word_size (store_bytes_by older_cues cues)) ≡ replicate 12 0
unfolding store_bytes_by store_header bytes_of
header-zeros cues = refl

header-number : (cues : Cues Switch) → word (store_bytes_by older_cues cues) 0 ≡ layout_number
unfolding store_bytes_by store_header bytes_of word number_at number_of
header-number cues = refl

module _ (old : List ℕ) (cues : Cues Switch) (d : decode_old_store old ≡ some cues) where
  good : sound_cues sound cues ≡ true
  good = (decode_store-some older_cues old cues d).0

  whole : store_bytes_by older_cues cues ≡ old
  whole = (decode_store-some older_cues old cues d).1

  cut : old_places old ≡ map (cue_bytes_by older_cues) cues
  cut = ap old_places (sym whole) ∙ store_bytes-pieces older_cues older-fit cues good

  pub new-store : new_store old ≡ store_bytes (converted cues)
  unfolding store_bytes_by store_header
  new-store =
      new-parts old
      ∙ ap₂ (λ zeros ps. bytes_of word_size fair_number ++ (zeros ++ flatten ps))
      (ap (λ bs. take 12 (drop word_size bs)) (sym whole) ∙ header-zeros cues)
      (ap (map new_place) cut ∙ new-places cues (sound_cues-each sound cues good))
      ∙ sym
      (append_assoc (bytes_of word_size fair_number) (replicate 12 0) (flatten (map cue_bytes (converted cues))))

  new-accepted : is_store (new_store old) ≡ true
  new-accepted =
      ap is_store new-store
      ∙ is_store-some (store_bytes (converted cues)) (converted cues)
      (decode_store-store_bytes fair_cues fair-fit (converted cues) (converted-sound cues good))

  old-number : word old 0 ≡ layout_number
  old-number = ap (λ bs. word bs 0) (sym whole) ∙ header-number cues

------------------------------------------------------------------------
-- and where those places are a store's, the older ones are of the same cues

sized-pieces : (size n : ℕ) (bs : List ℕ) → length bs ≡ size * n → sized size (pieces size n bs) ≡ true
unfolding sized pieces all?
sized-pieces size zero bs h = refl
sized-pieces size (suc n) bs h =
    let next : size * suc n ≡ size * n + size = mul-suc size n in
    and_i (eqb (length (take size bs)) size) (sized size (pieces size n (drop size bs)))
    (eq-eqb (length (take size bs)) size (length-take-le size bs (omega arith)))
    (sized-pieces size n (drop size bs) (length-drop size bs ∙ omega arith))

sized_new : (ps : List (List ℕ)) → sized old_place_size ps ≡ true → sized place_size (map new_place ps) ≡ true
unfolding sized all?
sized_new [] h = refl
sized_new (p ∷ ps) h =
    let one : eqb (length p) old_place_size ≡ true = search and_l in
    let others : sized old_place_size ps ≡ true = search and_r in
    and_i (eqb (length (new_place p)) place_size) (sized place_size (map new_place ps))
    (eq-eqb (length (new_place p)) place_size (length-new p (eqb-true (length p) old_place_size one)))
    (sized_new ps others)

abbrev cores : Cues (Fair Switch) → Cues Switch
cores cues = map (cue_with (λ x. x.core)) cues

same-places : (ps : List (List ℕ)) (cues : Cues (Fair Switch)) → sized old_place_size ps ≡ true
    → all? (sound_cue sound_fair) cues ≡ true → map new_place ps ≡ map cue_bytes cues
    → ps ≡ map (cue_bytes_by older_cues) (cores cues)
unfolding sized all?
same-places [] [] s h e = refl
same-places [] (c ∷ cues) s h e = absurd (let z : ◌≡◌ {A = ℕ} 0 1 = cc in omega arith)
same-places (p ∷ ps) [] s h e = absurd (let z : ◌≡◌ {A = ℕ} 0 1 = cc in omega arith)
same-places (p ∷ ps) (c ∷ cues) s h e =
    let one : eqb (length p) old_place_size ≡ true = and_l (eqb (length p) old_place_size) (sized old_place_size ps) s in
    let rest : sized old_place_size ps ≡ true = and_r (eqb (length p) old_place_size) (sized old_place_size ps) s in
    let fine : sound_cue sound_fair c ≡ true = and_l (sound_cue sound_fair c) (all? (sound_cue sound_fair) cues) h in
    let others : all? (sound_cue sound_fair) cues ≡ true = and_r (sound_cue sound_fair c) (all? (sound_cue sound_fair) cues) h in
    let first : new_place p ≡ cue_bytes c = cc in
    let later : map new_place ps ≡ map cue_bytes cues = cc in
    ap₂ ◌∷◌ (new-older p (eqb-true (length p) old_place_size one) c fine first) (same-places ps cues rest others later)

module _ (old : List ℕ) (h : bytes? old ≡ true) (size : length old ≡ old_store_size) (number : word old 0 ≡ layout_number)
    (s : is_store (new_store old) ≡ true) where
  abbrev cues : Cues (Fair Switch)
  cues = cues_of (new_store old)

  sure : (sound_cues sound_fair cues ≡ true) × (store_bytes cues ≡ new_store old)
  sure = decode_store-some fair_cues (new_store old) (cues_of (new_store old)) (is-store (new_store old) s)

  places-sized : sized old_place_size (old_places old) ≡ true
  places-sized =
      sized-pieces old_place_size cue_limit (drop store_header_size old) (length-drop store_header_size old ∙ omega arith)

  places-cut : map new_place (old_places old) ≡ map cue_bytes cues
  unfolding bytes_of
  places-cut =
      let ps : List (List ℕ) = map new_place (old_places old) in
      let four : length ps ≡ cue_limit =
      length-map (old_places old) new_place ∙ count-pieces old_place_size cue_limit (drop store_header_size old) in
      let twelve : length (take 12 (drop word_size old)) ≡ 12 =
      length-take-le 12 (drop word_size old) (omega (arith, length-drop word_size old)) in
      let behind : drop store_header_size (new_store old) ≡ flatten ps =
      ap (drop store_header_size) (new-parts old)
      ∙ drop_at (take 12 (drop word_size old)) (flatten ps) 12 twelve in
      sym (pieces-flatten place_size ps (sized_new (old_places old) places-sized))
      ∙ ap₂ (pieces place_size) four (sym behind ∙ ap (drop store_header_size) (sym sure.1))
      ∙ store_bytes-pieces fair_cues fair-fit cues sure.0

  zeros : take 12 (drop word_size old) ≡ replicate 12 0
  unfolding bytes_of store_bytes_by store_header
  zeros =
      let twelve : length (take 12 (drop word_size old)) ≡ 12 =
      length-take-le 12 (drop word_size old) (omega (arith, length-drop word_size old)) in
      sym
      (ap (λ bs. take 12 (drop word_size bs)) (new-parts old)
      ∙ take_at (take 12 (drop word_size old)) (flatten (map new_place (old_places old))) 12 twelve)
      ∙ ap (λ bs. take 12 (drop word_size bs)) (sym sure.1)

  old-accepted : decode_old_store old ≡ some (cores cues)
  old-accepted =
      (decode_store-some-iff older_cues older-fit old (cores cues)).1 (
        sound_cues-with sound_fair sound (λ x. x.core) sound_fair-core cues sure.0,
        store_bytes-whole older_cues older-fit old (cores cues) h size number zeros
            (same-places (old_places old) cues places-sized (sound_cues-each sound_fair cues sure.0) places-cut),
      )

------------------------------------------------------------------------
-- the tests of the code

-- whether bytes are an older store, and then its cues in the new layout
abbrev Read : List ℕ → Bool → List ℕ → Type 0
Read old result store = (result ≡ is_old_store old) × Converted old store

module _ (old : List ℕ) where
  pub is_old_store-some : (cues : Cues Switch) → decode_old_store old ≡ some cues → is_old_store old ≡ true
  unfolding is_old_store
  is_old_store-some cues e = rw (e, is_old_store)

  pub is-old-store : is_old_store old ≡ true → (cues : Cues Switch) × (decode_old_store old ≡ some cues)
  unfolding is_old_store
  is-old-store h = go (decode_old_store old) refl h
    where
      go : (o : Option (Cues Switch)) → decode_old_store old ≡ o → elim o [ some cues ↦ true | none ↦ false ] ≡ true
          → (cues : Cues Switch) × (decode_old_store old ≡ some cues)
      go none e h = absurd (true≢false (sym h))
      go (some cues) e h = (cues, e)

  pub old-store-none : is_old_store old ≡ false → decode_old_store old ≡ none
  old-store-none h = go (decode_old_store old) refl
    where
      go : (o : Option (Cues Switch)) → decode_old_store old ≡ o → decode_old_store old ≡ none
      go none e = e
      go (some cues) e = absurd (clash (is_old_store-some cues e) h)

  not-older : ((cues : Cues Switch) → decode_old_store old ≡ some cues → ⊥) → is_old_store old ≡ false
  not-older broken = by-fail (is_old_store old) (λ h. let c = is-old-store h in broken c.0 c.1)

  -- one that is none is not converted
  refused : (store : List ℕ) → is_old_store old ≡ false → Read old false store
  refused store h = (sym h, λ cues e. absurd (clash (is_old_store-some cues e) h))

  pub read-other-length : (store : List ℕ) → (length old ≡ old_store_size → ⊥) → Read old false store
  read-other-length store n =
      refused store (not-older (λ cues e. n (decode_store-length older_cues older-fit old cues e)))

  pub read-other-number : (store : List ℕ) → (word old 0 ≡ layout_number → ⊥) → Read old false store
  read-other-number store n = refused store (not-older (λ cues e. n (old-number old cues e)))

  -- else it is one exactly if its places in the new layout are a store
  older-accepted : bytes? old ≡ true → length old ≡ old_store_size → word old 0 ≡ layout_number
      → is_store (new_store old) ≡ is_old_store old
  older-accepted h size number =
      same (is_store (new_store old)) (is_old_store old)
      (λ s. is_old_store-some (cores (cues_of (new_store old))) (old-accepted old h size number s))
      (λ s. let c = is-old-store s in new-accepted old c.0 c.1)

  pub read-places : (store : List ℕ) (result : Bool) → bytes? old ≡ true → length old ≡ old_store_size
      → word old 0 ≡ layout_number → store ≡ new_store old → result ≡ is_store store → Read old result store
  read-places store result h size number wrote test =
      (test ∙ ap is_store wrote ∙ older-accepted h size number, λ cues e. wrote ∙ new-store old cues e)
