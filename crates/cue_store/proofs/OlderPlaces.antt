-- A place of an older cue store in the new layout: that of an older cue is that of the same cue (older-place), and where it
-- is the place of a cue, the older one is that of the same cue (new-older); and what the code writes.
use Prim.Native.Nat.{ℕ, ◌+◌, ◌*◌, ◌-◌, ◌≤◌, ◌<◌}
use mathlib.Core.Bool.{true}
use mathlib.Core.List.{List, [], ◌∷◌, ◌++◌, map, flatten, append_assoc, append-nil}
use mathlib.Core.Option.{Option, none, some}
use mathlib.Core.Path.{◌≡◌, refl, sym, ◌∙◌, ap, ap₂}
use native.Mathlib.Nat.{zero-add}
use native.Mathlib.Numerals.{add-one}
use native.Mathlib.Omega.{arith}
use borrow.Author.Tests.{ne_eqb}
use lib.Dec.{eqb, lit≤}
use lib.ListN.{length, take, drop, replicate, length-append, length-drop, length-replicate, take-append-drop}
use lib.ListN.{replicate-append-replicate}
use lib.Seq.{take_at, drop_at, drop-drop, take-take, take_all, length-take-le}
use Rattle.laws.specs.Lists.{numbers_from, up_to}
use Rattle.laws.proofs.Lists.{flatten-map-append}
use Rattle.laws.proofs.Numbers.{numbers_from-more}
use Rattle.laws.proofs.Tests.{cond-fail}
use Rattle.cell.specs.Limits.{port_limit}
use Rattle.model.specs.Cues.{cue_limit, name_limit, Cue, sound_cue}
use Rattle.model.specs.Fair.{Fair, flow_count, no_memory, marked}
use Rattle.model.specs.Sound.{sound}
use Rattle.model.specs.State.{Switch}
use Rattle.layout.specs.Code.{put}
use Rattle.layout.specs.Cues.{sound_fair, older_cues, place_size, store_size, old_store_size, cue_with}
use Rattle.layout.specs.CodeCues.{old_place_size, cue_bytes}
use Rattle.layout.specs.Fair.{fair_number, core_start, memory_start, fair_bytes}
use Rattle.layout.specs.Memory.{word_size, memory_size, memory_bytes}
use Rattle.layout.specs.Number.{bytes_of, number_of, number_at}
use Rattle.layout.specs.Stores.{store_header_size, name_bytes, cue_bytes_by}
use Rattle.layout.specs.Table.{table_size, encode}
use Rattle.layout.proofs.Cues.{older-fit, sound_fair-core}
use Rattle.layout.proofs.Memory.{memory_bytes-none}
use Rattle.layout.proofs.Number.{length-bytes_of}
use Rattle.layout.proofs.Put.{length-put, take_put, put_next}
use Rattle.layout.proofs.Stores.{zero-parts, length-name_bytes, length-cue_bytes, sound_cue-name, sound_cue-switch}
use Rattle.layout.proofs.Table.{length-encode}
use Rattle.cue_store.specs.Code.{place_start}
use Rattle.cue_store.specs.CodeOlder.{old_place_start, old_place_at, number_for, new_place, new_up_to}
use Rattle.cue_store.proofs.Found.{drop-take}
use Rattle.cue_store.proofs.Names.{number-zeros, number-bytes, name-positive}

-- where nothing is remembered and no output is fair, a memory is zeros
no-memory : memory_bytes (no_memory 0) ≡ replicate memory_size 0
unfolding bytes_of
no-memory = memory_bytes-none 0 ∙ replicate-append-replicate word_size (word_size * port_limit + word_size * flow_count) 0

-- a name and an older table
place-new : (name table : List ℕ) → length name ≡ name_limit
    → new_place (name ++ table)
    ≡ name ++ (bytes_of word_size (number_for (number_of name)) ++ (table ++ replicate memory_size 0))
unfolding new_place
place-new name table size =
    ap₂ (λ n t. n ++ (bytes_of word_size (number_for (number_of n)) ++ (t ++ replicate memory_size 0)))
    (take_at name table name_limit size) (drop_at name table name_limit size)

number-for : (name : List ℕ) (n : ℕ) → number_of name ≡ n → (n ≡ 0 → ⊥) → number_for (number_of name) ≡ fair_number
unfolding number_for
number-for name n e z = cond-fail (eqb (number_of name) 0) 0 fair_number (ne_eqb (number_of name) 0 (λ f. z (sym e ∙ f)))

-- the place of an older cue
pub older-place : (p : Option (Cue Switch)) → sound_cue sound p ≡ true
    → new_place (cue_bytes_by older_cues p) ≡ cue_bytes (cue_with (marked 0) p)
unfolding cue_bytes_by cue_with number_for bytes_of fair_bytes marked
older-place none h =
    let zeros : ℕ → List ℕ = λ n. replicate n 0 in
    ap new_place (zero-parts older_cues)
    ∙ place-new (zeros name_limit) (zeros table_size) (length-replicate {A = ℕ} name_limit 0)
    ∙ ap (λ n. zeros name_limit ++ (bytes_of word_size (number_for n) ++ (zeros table_size ++ zeros memory_size)))
    (number-zeros name_limit)
    ∙ ap (λ bs. zeros name_limit ++ (zeros word_size ++ bs)) (replicate-append-replicate table_size memory_size 0)
    ∙ ap (λ bs. zeros name_limit ++ bs) (replicate-append-replicate word_size (table_size + memory_size) 0)
    ∙ replicate-append-replicate name_limit (word_size + (table_size + memory_size)) 0
older-place (some c) h =
    let well = sound_cue-name sound c h in
    let name : List ℕ = name_bytes c.name in
    let table : List ℕ = encode c.switch in
    place-new name table (length-name_bytes c.name well)
    ∙ ap₂ (λ n m. name ++ (bytes_of word_size n ++ (table ++ m)))
    (number-for name (number_of c.name) (number-bytes c.name)
    (λ z. omega (arith, name-positive c.name well)))
    (sym no-memory)

------------------------------------------------------------------------
-- and back

-- the older place in a place: the name and the table
unfoldable old_of : List ℕ → List ℕ
old_of p = take name_limit p ++ take table_size (drop (name_limit + word_size) p)

module _ (name number table rest : List ℕ) (n : length name ≡ name_limit) (w : length number ≡ word_size)
    (t : length table ≡ table_size) where
  old-parts : old_of (name ++ (number ++ (table ++ rest))) ≡ name ++ table
  unfolding old_of
  old-parts =
      let whole : List ℕ = name ++ (number ++ (table ++ rest)) in
      ap₂ ◌++◌ (take_at name (number ++ (table ++ rest)) name_limit n)
      (ap (take table_size)
      (sym (drop-drop word_size name_limit whole)
      ∙ ap (drop word_size) (drop_at name (number ++ (table ++ rest)) name_limit n)
      ∙ drop_at number (table ++ rest) word_size w)
      ∙ take_at table rest table_size t)

module _ (p : List ℕ) (size : length p ≡ old_place_size) where
  name-size : length (take name_limit p) ≡ name_limit
  name-size = length-take-le name_limit p (omega arith)

  table-size : length (drop name_limit p) ≡ table_size
  table-size = length-drop name_limit p ∙ omega arith

  pub length-new : length (new_place p) ≡ place_size
  unfolding new_place
  length-new =
      simp (length-append, length-replicate, length-bytes_of) (omega (arith, name-size, table-size))

  old-new : old_of (new_place p) ≡ p
  unfolding new_place
  old-new =
      old-parts (take name_limit p) (bytes_of word_size (number_for (number_of (take name_limit p)))) (drop name_limit p)
      (replicate memory_size 0) name-size (length-bytes_of word_size _) table-size
      ∙ take-append-drop name_limit p

pub new-older : (p : List ℕ) → length p ≡ old_place_size → (q : Option (Cue (Fair Switch)))
    → sound_cue sound_fair q ≡ true → new_place p ≡ cue_bytes q → p ≡ cue_bytes_by older_cues (cue_with (λ x. x.core) q)
unfolding cue_bytes_by cue_with fair_bytes sound_cue
new-older p size none h e =
    sym (old-new p size)
    ∙ ap old_of (e ∙ sym (older-place none refl))
    ∙ old-new (cue_bytes_by older_cues none) (length-cue_bytes older_cues older-fit none refl)
new-older p size (some c) h e =
    let core = sound_fair-core c.switch (sound_cue-switch sound_fair c h) in
    sym (old-new p size)
    ∙ ap old_of e
    ∙ old-parts (name_bytes c.name) (bytes_of word_size fair_number) (encode c.switch.core)
    (memory_bytes c.switch.memory) (length-name_bytes c.name (sound_cue-name sound_fair c h))
    (length-bytes_of word_size fair_number) (length-encode c.switch.core core)

------------------------------------------------------------------------
-- what the code writes

-- the parts of a place one behind the other: the name, the table's number, the table, zeros
pub place-put : (k from at n : ℕ) (old first named numbered tabled last : List ℕ) → length old ≡ old_store_size
    → length first ≡ store_size → k < cue_limit → from ≡ old_place_start k → at ≡ place_start k
    → n ≡ number_for (number_at name_limit from old)
    → named ≡ put at name_limit (take name_limit (drop from old)) first
    → numbered ≡ put (at + name_limit) word_size (bytes_of word_size n) named
    → tabled ≡ put (at + name_limit + core_start) table_size (take table_size (drop (from + name_limit) old)) numbered
    → last ≡ put (at + name_limit + memory_start) memory_size (replicate memory_size 0) tabled
    → last ≡ put (place_start k) place_size (new_place (old_place_at old k)) first
unfolding new_place old_place_at number_at
place-put k from at n old first named numbered tabled last size room few own here is p1 p2 p3 p4 =
    let behind : List ℕ = drop from old in
    let place : List ℕ = take old_place_size behind in
    let name : List ℕ = take name_limit behind in
    let word : List ℕ = bytes_of word_size n in
    let table : List ℕ = take table_size (drop (from + name_limit) old) in
    let zeros : List ℕ = replicate memory_size 0 in
    let long : length behind ≡ old_store_size - from = length-drop from old ∙ ap (λ m. m - from) size in
    let past : length (drop (from + name_limit) old) ≡ old_store_size - (from + name_limit) =
    length-drop (from + name_limit) old ∙ ap (λ m. m - (from + name_limit)) size in
    let name-long : length name ≡ name_limit = length-take-le name_limit behind (omega arith) in
    let table-long : length table ≡ table_size = length-take-le table_size (drop (from + name_limit) old) (omega arith) in
    let second : numbered ≡ put at (name_limit + word_size) (name ++ word) first =
    put_next at name_limit word_size name word first named numbered name-long (length-bytes_of word_size n) (omega arith)
    p1 p2 in
    let third_at : at + name_limit + core_start ≡ at + (name_limit + word_size) = omega arith in
    let third : tabled ≡ put at (name_limit + word_size + table_size) ((name ++ word) ++ table) first =
    put_next at (name_limit + word_size) table_size (name ++ word) table first numbered tabled
    (length-append name word ∙ ap₂ ◌+◌ name-long (length-bytes_of word_size n)) table-long (omega arith) second
    (p3 ∙ ap (λ m. put m table_size table numbered) third_at) in
    let fourth-at : at + name_limit + memory_start ≡ at + (name_limit + word_size + table_size) = omega arith in
    let fourth : last ≡ put at place_size (((name ++ word) ++ table) ++ zeros) first =
    put_next at (name_limit + word_size + table_size) memory_size ((name ++ word) ++ table) zeros first tabled last
    (length-append (name ++ word) table
    ∙ ap₂ ◌+◌ (length-append name word ∙ ap₂ ◌+◌ name-long (length-bytes_of word_size n)) table-long)
    (length-replicate {A = ℕ} memory_size 0) (omega arith) third
    (p4 ∙ ap (λ m. put m memory_size zeros tabled) fourth-at) in
    let name-same : take name_limit place ≡ name = take-take name_limit old_place_size behind (lit≤ tt) in
    let table_same : drop name_limit place ≡ table =
    drop-take name_limit table_size behind (omega arith) ∙ ap (take table_size) (drop-drop name_limit from old) in
    let parts : new_place place ≡ ((name ++ word) ++ table) ++ zeros =
    ap₂ (λ m t. m ++ (bytes_of word_size (number_for (number_of m)) ++ (t ++ zeros))) name-same table_same
    ∙ ap (λ m. name ++ (bytes_of word_size m ++ (table ++ zeros))) (sym is)
    ∙ simp append_assoc in
    fourth
    ∙ ap₂ (λ m bs. put m place_size bs first) here (sym parts ∙ ap (λ m. new_place (take old_place_size (drop m old))) own)

-- the number and the header's other bytes
pub places-first : (old first numbered last : List ℕ) → length old ≡ old_store_size → length first ≡ store_size
    → numbered ≡ put 0 word_size (bytes_of word_size fair_number) first
    → last ≡ put word_size 12 (take 12 (drop word_size old)) numbered
    → (length last ≡ store_size) × (take (place_start 0) last ≡ new_up_to 0 old)
unfolding new_up_to flatten up_to numbers_from
places-first old first numbered last size room p1 p2 =
    let number : List ℕ = bytes_of word_size fair_number in
    let rest : List ℕ = take 12 (drop word_size old) in
    let number-long : length number ≡ word_size = length-bytes_of word_size fair_number in
    let rest-long : length rest ≡ 12 = length-take-le 12 (drop word_size old) (omega (arith, length-drop word_size old)) in
    let numbered-long : length numbered ≡ store_size =
    ap length p1 ∙ length-put 0 word_size number first number-long (omega arith) ∙ room in (
      ap length p2 ∙ length-put word_size 12 rest numbered rest-long (omega arith) ∙ numbered-long,
      ap (take store_header_size) p2
          ∙ take_put word_size 12 rest numbered rest-long (omega arith)
          ∙ ap (λ bs. take word_size bs ++ rest) p1
          ∙ ap (λ bs. bs ++ rest) (take_put 0 word_size number first number-long (omega arith))
          ∙ ap (λ bs. number ++ bs) (sym (append-nil rest)),
    )

-- one place more
more-places : (k : ℕ) (old : List ℕ) → new_up_to (k + 1) old ≡ new_up_to k old ++ new_place (old_place_at old k)
unfolding new_up_to flatten up_to
more-places k old =
    let one : ℕ → List ℕ = λ j. new_place (old_place_at old j) in
    let places : List ℕ = flatten (map one (numbers_from 0 k)) in
    let more : flatten (map one (numbers_from 0 (k + 1))) ≡ places ++ one k =
    ap (λ l. flatten (map one l)) (ap (numbers_from 0) (add-one k) ∙ numbers_from-more 0 k)
    ∙ flatten-map-append one (numbers_from 0 k) ((0 + k) ∷ [])
    ∙ ap (λ bs. places ++ bs) (append-nil (one (0 + k)) ∙ ap one (zero-add k)) in
    ap (λ bs. bytes_of word_size fair_number ++ (take 12 (drop word_size old) ++ bs)) more ∙ simp append_assoc

pub places-next : (k : ℕ) (old store last : List ℕ) → length old ≡ old_store_size → length store ≡ store_size
    → k < cue_limit → take (place_start k) store ≡ new_up_to k old
    → last ≡ put (place_start k) place_size (new_place (old_place_at old k)) store
    → (length last ≡ store_size) × (take (place_start (k + 1)) last ≡ new_up_to (k + 1) old)
unfolding old_place_at
places-next k old store last size room few so_far placed =
    let place : List ℕ = old_place_at old k in
    let place-long : length place ≡ old_place_size =
    length-take-le old_place_size (drop (old_place_start k) old) (omega (arith, length-drop (old_place_start k) old)) in
    let long : length (new_place place) ≡ place_size = length-new place place-long in
    let next : place_start (k + 1) ≡ place_start k + place_size = omega arith in (
      ap length placed ∙ length-put (place_start k) place_size (new_place place) store long (omega arith) ∙ room,
      ap₂ take next placed
          ∙ take_put (place_start k) place_size (new_place place) store long (omega arith)
          ∙ ap (λ bs. bs ++ new_place place) so_far
          ∙ sym (more-places k old),
    )

pub places-last : (k : ℕ) (old store : List ℕ) → length store ≡ store_size → k ≤ cue_limit → cue_limit ≤ k
    → take (place_start k) store ≡ new_up_to k old → store ≡ new_up_to cue_limit old
places-last k old store size most least so_far =
    let all : k ≡ cue_limit = omega arith in
    sym (take_all store_size store (omega arith)) ∙ ap (λ n. take (place_start n) store) (sym all)
    ∙ so_far ∙ ap (λ n. new_up_to n old) all
