-- Laws of the table, from the entry over the section to the whole: what is read from the bytes of a sound state is that
-- state, and a table is accepted exactly if it is the bytes of a sound state.
use Prim.Native.Nat.{ℕ, zero, suc, ◌+◌, ◌*◌, ◌-◌, ◌^◌, ◌≤◌, ◌<◌}
use mathlib.Core.Bool.{Bool, true, false, ◌&&◌, true≢false}
use mathlib.Core.Path.{◌≡◌, refl, sym, ◌∙◌, ap, ap₂}
use mathlib.Core.Logic.{◌↔◌}
use mathlib.Core.List.{List, [], ◌∷◌, ◌++◌, append_assoc}
use mathlib.Core.Option.{Option, none, some, some-injective, some-ne-none}
use native.Mathlib.Omega.{arith}
use borrow.Author.Tests.{ltb-true, leb-true, eqb-true}
use lib.Dec.{ltb, eqb, lit≤}
use lib.ListN.{length, drop, replicate, length-append, length-replicate}
use lib.Seq.{take_at, drop_at}
use Rattle.laws.specs.Lists.{all?}
use Rattle.laws.proofs.Tests.{and_i, and_l, and_r}
use Rattle.cell.specs.Limits.{fits32, ports_in_range, port_limit, section_room}
use Rattle.model.specs.State.{Place, listed, crossed, buffered, Entry, Switch}
use Rattle.model.specs.Sound.{sound_entry, sound_section, sound_sections, sound}
use Rattle.layout.specs.Number.{bytes_of, number_at, number_of, word, same_bytes}
use Rattle.layout.specs.Table.{header_size, entry_size, section_size, table_size, place_byte, place_of, entry_bytes}
use Rattle.layout.specs.Table.{entry_of, entries_bytes, entries_of, section_bytes, sections_bytes, counts_bytes}
use Rattle.layout.specs.Table.{sections_of, encode, state_of, decode, is_table, IsTable}
use Rattle.layout.proofs.Number.{bytes?, bytes?-append, zeros-bytes, take-first, drop-first, length-bytes_of}
use Rattle.layout.proofs.Number.{bytes_of-bytes, number_of-bytes_of, number_of-word, number_at-here, fits32-below}
use Rattle.layout.proofs.Number.{same_bytes-refl, same_bytes-exact}

------------------------------------------------------------------------
-- the place of an entry

pub place_byte-range : (p : Place) → (1 ≤ place_byte p) × (place_byte p ≤ 3)
unfolding place_byte
place_byte-range listed = (lit≤ tt, lit≤ tt)
place_byte-range crossed = (lit≤ tt, lit≤ tt)
place_byte-range buffered = (lit≤ tt, lit≤ tt)

pub place_of-place_byte : (p : Place) → place_of (place_byte p) ≡ p
unfolding place_of place_byte
place_of-place_byte listed = refl
place_of-place_byte crossed = refl
place_of-place_byte buffered = refl

place_of-bytes_of : (p : Place) → place_of (number_of (bytes_of 1 (place_byte p))) ≡ p
place_of-bytes_of p =
    ap place_of (number_of-bytes_of 1 (place_byte p) (omega (arith, (place_byte-range p).1))) ∙ place_of-place_byte p

------------------------------------------------------------------------
-- an entry

pub length-entry_bytes : (e : Entry) → length (entry_bytes e) ≡ entry_size
unfolding entry_bytes
length-entry_bytes e = simp (length-append, length-bytes_of)

pub entry_bytes-bytes : (e : Entry) → bytes? (entry_bytes e) ≡ true
unfolding entry_bytes
entry_bytes-bytes e = search (bytes?-append, bytes_of-bytes) depth 12

-- its place among them
pub entry_bytes-place : (e : Entry) → number_at 1 2 (entry_bytes e) ≡ place_byte e.place
unfolding entry_bytes number_at number_of bytes_of
entry_bytes-place e = let b = place_byte-range e.place in omega arith

pub length-entries_bytes : (es : List Entry) → length (entries_bytes es) ≡ entry_size * length es
unfolding entries_bytes
length-entries_bytes [] = refl
length-entries_bytes (e ∷ es) =
    length-append (entry_bytes e) (entries_bytes es)
    ∙ ap₂ ◌+◌ (length-entry_bytes e) (length-entries_bytes es)
    ∙ omega arith

pub entries_bytes-append : (es fs : List Entry) → entries_bytes (es ++ fs) ≡ entries_bytes es ++ entries_bytes fs
unfolding entries_bytes
entries_bytes-append [] fs = refl
entries_bytes-append (e ∷ es) fs =
    ap (λ bs. entry_bytes e ++ bs) (entries_bytes-append es fs)
    ∙ sym (append_assoc (entry_bytes e) (entries_bytes es) (entries_bytes fs))

pub entries_bytes-bytes : (es : List Entry) → bytes? (entries_bytes es) ≡ true
unfolding entries_bytes bytes? all?
entries_bytes-bytes [] = refl
entries_bytes-bytes (e ∷ es) =
    bytes?-append (entry_bytes e) (entries_bytes es) (entry_bytes-bytes e) (entries_bytes-bytes es)

------------------------------------------------------------------------
-- a section

pub length-section_bytes : (es : List Entry) → length es ≤ section_room → length (section_bytes es) ≡ section_size
unfolding section_bytes
length-section_bytes es h =
    let size : length (entries_bytes es) ≡ entry_size * length es = length-entries_bytes es in
    length-append (entries_bytes es) (replicate (section_size - length (entries_bytes es)) 0)
    ∙ ap (λ n. length (entries_bytes es) + n) (length-replicate (section_size - length (entries_bytes es)) 0)
    ∙ omega arith

pub section_bytes-bytes : (es : List Entry) → bytes? (section_bytes es) ≡ true
unfolding section_bytes
section_bytes-bytes es =
    bytes?-append (entries_bytes es) (replicate (section_size - length (entries_bytes es)) 0)
    (entries_bytes-bytes es) (zeros-bytes (section_size - length (entries_bytes es)))

-- what a sound section says here: it has at most 64 entries, and each is sound
module _ (ports clock input : ℕ) (es : List Entry) (h : sound_section ports clock input es ≡ true) where
  pub sound_section-size : length es ≤ section_room
  unfolding sound_section
  sound_section-size = leb-true (length es) section_room (search and_l)

  pub sound_section-entries : all? (sound_entry ports clock input) es ≡ true
  unfolding sound_section
  sound_section-entries = search (and_l, and_r)

------------------------------------------------------------------------
-- the counts and the sections

pub length-counts_bytes : (n : ℕ) (sections : List (List Entry)) → length (counts_bytes n sections) ≡ n
unfolding counts_bytes
length-counts_bytes zero sections = refl
length-counts_bytes (suc n) [] =
    length-append (bytes_of 1 0) (counts_bytes n [])
    ∙ ap₂ ◌+◌ (length-bytes_of 1 0) (length-counts_bytes n [])
    ∙ omega arith
length-counts_bytes (suc n) (es ∷ sections) =
    length-append (bytes_of 1 (length es)) (counts_bytes n sections)
    ∙ ap₂ ◌+◌ (length-bytes_of 1 (length es)) (length-counts_bytes n sections)
    ∙ omega arith

pub counts_bytes-bytes : (n : ℕ) (sections : List (List Entry)) → bytes? (counts_bytes n sections) ≡ true
unfolding counts_bytes bytes? all?
counts_bytes-bytes zero sections = refl
counts_bytes-bytes (suc n) [] =
    bytes?-append (bytes_of 1 0) (counts_bytes n []) (bytes_of-bytes 1 0) (counts_bytes-bytes n [])
counts_bytes-bytes (suc n) (es ∷ sections) =
    bytes?-append (bytes_of 1 (length es)) (counts_bytes n sections)
    (bytes_of-bytes 1 (length es)) (counts_bytes-bytes n sections)

pub length-sections_bytes : (ports clock input n : ℕ) (sections : List (List Entry))
    → sound_sections ports clock input sections ≡ true → length (sections_bytes n sections) ≡ section_size * n
unfolding sections_bytes sound_sections
length-sections_bytes ports clock input zero sections h = refl
length-sections_bytes ports clock input (suc n) [] h =
    length-append (section_bytes []) (sections_bytes n [])
    ∙ ap₂ ◌+◌ (length-section_bytes [] (lit≤ tt)) (length-sections_bytes ports clock input n [] refl)
    ∙ omega arith
length-sections_bytes ports clock input (suc n) (es ∷ sections) h =
    let here : sound_section ports clock input es ≡ true = search and_l in
    let later : sound_sections ports clock (input + 1) sections ≡ true = search and_r in
    length-append (section_bytes es) (sections_bytes n sections)
    ∙ ap₂ ◌+◌
    (length-section_bytes es (sound_section-size ports clock input es here))
    (length-sections_bytes ports clock (input + 1) n sections later)
    ∙ omega arith

pub sections_bytes-bytes : (n : ℕ) (sections : List (List Entry)) → bytes? (sections_bytes n sections) ≡ true
unfolding sections_bytes bytes? all?
sections_bytes-bytes zero sections = refl
sections_bytes-bytes (suc n) [] =
    bytes?-append (section_bytes []) (sections_bytes n []) (section_bytes-bytes []) (sections_bytes-bytes n [])
sections_bytes-bytes (suc n) (es ∷ sections) =
    bytes?-append (section_bytes es) (sections_bytes n sections) (section_bytes-bytes es) (sections_bytes-bytes n sections)

-- the count of the first section
count-first : (es : List Entry) (counts bs : List ℕ) → length es ≤ section_room
    → number_at 1 0 (bytes_of 1 (length es) ++ counts ++ bs) ≡ length es
count-first es counts bs h =
    let small : length es < 256 ^ 1 = omega arith in
    rw (append_assoc (bytes_of 1 (length es)) counts bs) (number_at-here 1 (length es) (counts ++ bs) small)

------------------------------------------------------------------------
-- what is read back

-- a switch of at most sixteen ports whose clock has 32 bits
module _ (ports clock : ℕ) (few : ports ≤ port_limit) (early : fits32 clock ≡ true) where
  pub entry_of-entry_bytes : (input : ℕ) (e : Entry) → sound_entry ports clock input e ≡ true
      → entry_of input (entry_bytes e) ≡ e
  unfolding entry_of entry_bytes sound_entry word number_at bytes_of
  entry_of-entry_bytes input e h =
      let c = e.cell in
      let i : eqb c.input input ≡ true = search and_l in
      let o : ltb c.output ports ≡ true = search (and_l, and_r) in
      let f : ltb c.flow 8 ≡ true = search (and_l, and_r) in
      let r : fits32 c.rank ≡ true = search (and_l, and_r) in
      let t : fits32 c.tag ≡ true = search (and_l, and_r) in
      let s : ltb c.slot clock ≡ true = search (and_l, and_r) depth 7 in
      let output : c.output < 256 = omega (arith, ltb-true) in
      let flow : c.flow < 256 = omega (arith, ltb-true) in
      let slot : c.slot < 256 ^ 4 = omega (arith, ltb-true, fits32-below clock early) in
      let place : place_of (number_of (bytes_of 1 (place_byte e.place))) ≡ e.place = place_of-bytes_of e.place in
      λ k.
      record {
        cell = record {
          input = sym (eqb-true c.input input i) k;
          output = number_of-bytes_of 1 c.output output k;
          flow = number_of-bytes_of 1 c.flow flow k;
          rank = number_of-word c.rank r k;
          tag = number_of-word c.tag t k;
          slot = number_of-bytes_of 4 c.slot slot k;
        };
        place = place k;
      }

  pub entries_of-entries_bytes : (input : ℕ) (es : List Entry) (bs : List ℕ)
      → all? (sound_entry ports clock input) es ≡ true → entries_of input (length es) (entries_bytes es ++ bs) ≡ es
  unfolding entries_of entries_bytes all?
  entries_of-entries_bytes input [] bs h = refl
  entries_of-entries_bytes input (e ∷ es) bs h =
      let head : sound_entry ports clock input e ≡ true = search and_l in
      let tail : all? (sound_entry ports clock input) es ≡ true = search and_r in
      ap₂ ◌∷◌
      (ap (entry_of input) (take-first (entry_bytes e) (entries_bytes es) bs entry_size (length-entry_bytes e))
      ∙ entry_of-entry_bytes input e head)
      (ap (entries_of input (length es)) (drop-first (entry_bytes e) (entries_bytes es) bs entry_size (length-entry_bytes e))
      ∙ entries_of-entries_bytes input es bs tail)

  pub entries_of-section_bytes : (input : ℕ) (es : List Entry) → all? (sound_entry ports clock input) es ≡ true
      → entries_of input (length es) (section_bytes es) ≡ es
  unfolding section_bytes
  entries_of-section_bytes input es h = entries_of-entries_bytes input es _ h

  -- so many sections, and behind their counts any bytes
  pub sections_of-sections_bytes : (input n : ℕ) (sections : List (List Entry)) (bs : List ℕ)
      → sound_sections ports clock input sections ≡ true → length sections ≤ n
      → sections_of input (length sections) (counts_bytes n sections ++ bs) (sections_bytes n sections) ≡ sections
  unfolding sections_of counts_bytes sections_bytes sound_sections
  sections_of-sections_bytes input n [] bs h room = refl
  sections_of-sections_bytes input zero (es ∷ sections) bs h room = absurd (omega arith)
  sections_of-sections_bytes input (suc n) (es ∷ sections) bs h room =
      let here : sound_section ports clock input es ≡ true = search and_l in
      let later : sound_sections ports clock (input + 1) sections ≡ true = search and_r in
      let few : length es ≤ section_room = sound_section-size ports clock input es here in
      let less : length sections ≤ n = omega arith in
      ap₂ ◌∷◌
      (ap₂ (entries_of input)
      (count-first es (counts_bytes n sections) bs few)
      (take_at (section_bytes es) (sections_bytes n sections) section_size (length-section_bytes es few))
      ∙ entries_of-section_bytes input es (sound_section-entries ports clock input es here))
      (ap₂ (sections_of (input + 1) (length sections))
      (drop-first (bytes_of 1 (length es)) (counts_bytes n sections) bs 1 (length-bytes_of 1 (length es)))
      (drop_at (section_bytes es) (sections_bytes n sections) section_size (length-section_bytes es few))
      ∙ sections_of-sections_bytes (input + 1) n sections bs later less)

------------------------------------------------------------------------
-- the table

-- what a sound state says here
pub sound-ports : (s : Switch) → sound s ≡ true → s.ports ≤ port_limit
unfolding sound ports_in_range
sound-ports s h = leb-true s.ports port_limit (search (and_l, and_r))

pub sound-some : (s : Switch) → sound s ≡ true → 0 < s.ports
unfolding sound ports_in_range
sound-some s h = leb-true 1 s.ports (search (and_l, and_r))

pub sound-clock : (s : Switch) → sound s ≡ true → fits32 s.clock ≡ true
unfolding sound
sound-clock s h = search (and_l, and_r)

pub sound-length : (s : Switch) → sound s ≡ true → length s.sections ≡ s.ports
unfolding sound
sound-length s h = eqb-true (length s.sections) s.ports (search (and_l, and_r))

pub sound-sections : (s : Switch) → sound s ≡ true → sound_sections s.ports s.clock 0 s.sections ≡ true
unfolding sound
sound-sections s h = search (and_l, and_r)

pub length-encode : (s : Switch) → sound s ≡ true → length (encode s) ≡ table_size
unfolding encode
length-encode s h =
    let sections = length-sections_bytes s.ports s.clock 0 port_limit s.sections (sound-sections s h) in
    simp (length-append, length-bytes_of, length-counts_bytes, sections)

pub encode-bytes : (s : Switch) → bytes? (encode s) ≡ true
unfolding encode
encode-bytes s = search (bytes?-append, bytes_of-bytes, counts_bytes-bytes, sections_bytes-bytes) depth 9

-- the parts of the table
pub encode-ports : (s : Switch) → s.ports ≤ port_limit → word (encode s) 4 ≡ s.ports
unfolding encode word number_at bytes_of
encode-ports s h = number_of-bytes_of 4 s.ports (omega arith)

pub encode-clock : (s : Switch) → fits32 s.clock ≡ true → word (encode s) 8 ≡ s.clock
unfolding encode word number_at bytes_of
encode-clock s h = number_of-word s.clock h

pub encode-counts : (s : Switch)
    → drop 16 (encode s) ≡ counts_bytes port_limit s.sections ++ sections_bytes port_limit s.sections
unfolding encode bytes_of
encode-counts s = refl

pub encode-sections : (s : Switch) → drop header_size (encode s) ≡ sections_bytes port_limit s.sections
unfolding encode bytes_of
encode-sections s =
    drop_at (counts_bytes port_limit s.sections) (sections_bytes port_limit s.sections) port_limit
    (length-counts_bytes port_limit s.sections)

pub sections_of-encode : (s : Switch) → sound s ≡ true
    → sections_of 0 (word (encode s) 4) (drop 16 (encode s)) (drop header_size (encode s)) ≡ s.sections
sections_of-encode s h =
    let few : s.ports ≤ port_limit = sound-ports s h in
    let many : length s.sections ≤ port_limit = omega (arith, sound-length s h) in
    rw (encode-ports s few, encode-counts s, encode-sections s, ← sound-length s h)
    (sections_of-sections_bytes s.ports s.clock few (sound-clock s h) 0 port_limit s.sections
    (sections_bytes port_limit s.sections) (sound-sections s h) many)

pub state_of-encode : (s : Switch) → sound s ≡ true → state_of (encode s) ≡ s
unfolding state_of
state_of-encode s h =
    λ k.
    record {
      ports = encode-ports s (sound-ports s h) k;
      clock = encode-clock s (sound-clock s h) k;
      sections = sections_of-encode s h k;
    }

------------------------------------------------------------------------
-- decode

-- whether the bytes are those of the state that they would stand for, and it is sound
abbrev whole? : List ℕ → Bool
whole? bs = sound (state_of bs) && same_bytes (encode (state_of bs)) bs

-- what is accepted is the bytes of a sound state
decode-some : (bs : List ℕ) (s : Switch) → decode bs ≡ some s → (sound s ≡ true) × (encode s ≡ bs)
unfolding decode
decode-some bs s e = go (whole? bs) refl e
  where
    go : (b : Bool) → whole? bs ≡ b → elim b [ true ↦ some (state_of bs) | false ↦ none ] ≡ some s
        → (sound s ≡ true) × (encode s ≡ bs)
    go true t e =
        let state : state_of bs ≡ s = some-injective (state_of bs) s e in
        let same : encode (state_of bs) ≡ bs = same_bytes-exact _ bs (and_r (sound (state_of bs)) _ t) in
        (ap sound (sym state) ∙ and_l _ _ t, ap encode (sym state) ∙ same)
    go false t e = absurd (some-ne-none s (sym e))

pub decode-encode : (s : Switch) → sound s ≡ true → decode (encode s) ≡ some s
unfolding decode
decode-encode s h =
    let back : state_of (encode s) ≡ s = state_of-encode s h in
    let exact : same_bytes (encode (state_of (encode s))) (encode s) ≡ true = rw back (same_bytes-refl (encode s)) in
    rw (and_i (sound (state_of (encode s))) _ (ap sound back ∙ h) exact, decode) (ap some back)

pub decode-sound : (bs : List ℕ) (s : Switch) → decode bs ≡ some s → sound s ≡ true
decode-sound bs s e = (decode-some bs s e).0

pub encode-decode : (bs : List ℕ) (s : Switch) → decode bs ≡ some s → encode s ≡ bs
encode-decode bs s e = (decode-some bs s e).1

pub decode-some-iff : (bs : List ℕ) (s : Switch) → (decode bs ≡ some s) ↔ ((sound s ≡ true) × (encode s ≡ bs))
decode-some-iff bs s = (decode-some bs s, λ h. rw (← h.1) (decode-encode s h.0))

-- an accepted table has its length, and its bytes are bytes
pub decode-length : (bs : List ℕ) (s : Switch) → decode bs ≡ some s → length bs ≡ table_size
decode-length bs s e = rw (← encode-decode bs s e) (length-encode s (decode-sound bs s e))

pub decode-bytes : (bs : List ℕ) (s : Switch) → decode bs ≡ some s → bytes? bs ≡ true
decode-bytes bs s e = rw (← encode-decode bs s e) (encode-bytes s)

-- two sound states of one table are the same
pub encode_injective : (s t : Switch) → sound s ≡ true → sound t ≡ true → encode s ≡ encode t → s ≡ t
encode_injective s t h k e = sym (state_of-encode s h) ∙ ap state_of e ∙ state_of-encode t k

-- an accepted table is the bytes of the state that it would stand for
pub decode-state : (bs : List ℕ) (s : Switch) → decode bs ≡ some s → state_of bs ≡ s
decode-state bs s e = ap state_of (sym (encode-decode bs s e)) ∙ state_of-encode s (decode-sound bs s e)

pub is_table-some : (bs : List ℕ) (s : Switch) → decode bs ≡ some s → is_table bs ≡ true
unfolding is_table
is_table-some bs s e = rw (e, is_table)

pub is-table : (bs : List ℕ) → is_table bs ≡ true → IsTable bs
unfolding is_table
is-table bs h = go (decode bs) refl h
  where
    go : (o : Option Switch) → decode bs ≡ o → elim o [ some s ↦ true | none ↦ false ] ≡ true → IsTable bs
    go none e h = absurd (true≢false (sym h))
    go (some s) e h = e ∙ ap some (sym (decode-state bs s e))
