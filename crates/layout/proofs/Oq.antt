-- Laws of the output-queued switch's older table.
--     length-encode_oq, state_of_oq-encode_oq               the bytes of a sound state
--     decode_oq-encode_oq, decode_oq-some, decode_oq-length what is accepted is the bytes of a sound state
--     encode_oq-injective                                each sound state has its own
--     oq-inner, oq-outer                                the table behind the number, and back
--     is_oq_table-some, is-oq-table, is_oq_table-tests      whether bytes are a table, and by four tests
--     not-both                                          no bytes are an older table of both switches
use Prim.Native.Nat.{ℕ, ◌+◌}
use mathlib.Core.Bool.{Bool, true, false, ◌&&◌, true≢false}
use mathlib.Core.Path.{◌≡◌, refl, sym, ◌∙◌, ap, ap₂}
use mathlib.Core.List.{List, ◌++◌}
use mathlib.Core.Option.{Option, none, some, some-injective, some-ne-none}
use native.Mathlib.Omega.{arith}
use borrow.Author.Tests.{eqb-true, eq-eqb}
use lib.Dec.{eqb}
use lib.ListN.{length, take, drop, take-append-drop, length-append}
use lib.Seq.{drop_at, length-take-le}
use Rattle.laws.proofs.Tests.{and_i, and_l, and_r, same}
use Rattle.model.specs.Oq.{all_buffered, sound_oq}
use Rattle.model.specs.State.{Switch}
use Rattle.model.proofs.OqSound.{sound-oq-i, sound-oq-table, sound-oq-buffered}
use Rattle.layout.specs.Number.{bytes_of, number_of, number_at, word, same_bytes}
use Rattle.layout.specs.CodeOq.{is_oq_table}
use Rattle.layout.specs.Oq.{oq_number, oq_number_size, encode_oq, state_of_oq, decode_oq}
use Rattle.layout.specs.CodeOq.{oq_table_size}
use Rattle.layout.specs.Table.{encode, state_of, decode, is_table}
use Rattle.layout.proofs.Number.{bytes?, bytes?-take, length-bytes_of, bytes_of-number_of}
use Rattle.layout.proofs.Number.{same_bytes-refl, same_bytes-exact}
use Rattle.layout.proofs.Table.{length-encode, state_of-encode, decode-encode, decode-sound, encode-decode}
use Rattle.layout.proofs.Table.{decode-length, is_table-some, is-table}

pub length-encode_oq : (s : Switch) → sound_oq s ≡ true → length (encode_oq s) ≡ oq_table_size
unfolding encode_oq
length-encode_oq s h =
    length-append (bytes_of oq_number_size oq_number) (encode s)
    ∙ ap₂ ◌+◌ (length-bytes_of oq_number_size oq_number) (length-encode s (sound-oq-table s h))

-- the bytes behind the number
pub drop-encode_oq : (s : Switch) → drop oq_number_size (encode_oq s) ≡ encode s
unfolding encode_oq
drop-encode_oq s = drop_at (bytes_of oq_number_size oq_number) (encode s) oq_number_size (length-bytes_of oq_number_size oq_number)

pub state_of_oq-encode_oq : (s : Switch) → sound_oq s ≡ true → state_of_oq (encode_oq s) ≡ s
unfolding state_of_oq
state_of_oq-encode_oq s h = ap state_of (drop-encode_oq s) ∙ state_of-encode s (sound-oq-table s h)

-- whether the bytes are those of the state that they would stand for, and it is sound
abbrev whole? : List ℕ → Bool
whole? bs = sound_oq (state_of_oq bs) && same_bytes (encode_oq (state_of_oq bs)) bs

-- what is accepted is the bytes of a sound state
pub decode_oq-some : (bs : List ℕ) (s : Switch) → decode_oq bs ≡ some s
    → (bs ≡ encode_oq s) × (sound_oq s ≡ true) × (s ≡ state_of_oq bs)
unfolding decode_oq
decode_oq-some bs s e = go (whole? bs) refl e
  where
    go : (b : Bool) → whole? bs ≡ b → elim b [ true ↦ some (state_of_oq bs) | false ↦ none ] ≡ some s
        → (bs ≡ encode_oq s) × (sound_oq s ≡ true) × (s ≡ state_of_oq bs)
    go true t e =
        let state : state_of_oq bs ≡ s = some-injective (state_of_oq bs) s e in
        let same : encode_oq (state_of_oq bs) ≡ bs = same_bytes-exact _ bs (and_r (sound_oq (state_of_oq bs)) _ t) in
        (sym same ∙ ap encode_oq state, ap sound_oq (sym state) ∙ and_l _ _ t, sym state)
    go false t e = absurd (some-ne-none s (sym e))

pub decode_oq-encode_oq : (s : Switch) → sound_oq s ≡ true → decode_oq (encode_oq s) ≡ some s
unfolding decode_oq
decode_oq-encode_oq s h =
    let back : state_of_oq (encode_oq s) ≡ s = state_of_oq-encode_oq s h in
    let exact : same_bytes (encode_oq (state_of_oq (encode_oq s))) (encode_oq s) ≡ true =
    rw back (same_bytes-refl (encode_oq s)) in
    rw (and_i (sound_oq (state_of_oq (encode_oq s))) _ (ap sound_oq back ∙ h) exact, decode_oq) (ap some back)

pub decode_oq-length : (bs : List ℕ) (s : Switch) → decode_oq bs ≡ some s → length bs ≡ oq_table_size
decode_oq-length bs s e =
    let h = decode_oq-some bs s e in
    ap length h.0 ∙ length-encode_oq s h.1

-- two sound states of one table are the same
pub encode_oq-injective : (s t : Switch) → sound_oq s ≡ true → sound_oq t ≡ true → encode_oq s ≡ encode_oq t → s ≡ t
encode_oq-injective s t h k e = sym (state_of_oq-encode_oq s h) ∙ ap state_of_oq e ∙ state_of_oq-encode_oq t k

-- the bytes behind the number are a table
pub oq-inner : (bs : List ℕ) (s : Switch) → decode_oq bs ≡ some s → decode (drop oq_number_size bs) ≡ some s
oq-inner bs s e =
    let h = decode_oq-some bs s e in
    ap (λ l. decode (drop oq_number_size l)) h.0
    ∙ ap decode (drop-encode_oq s)
    ∙ decode-encode s (sound-oq-table s h.1)

-- and back: the number, then a table in which every cell waits in a buffer
pub oq-outer : (bs : List ℕ) (s : Switch) → length bs ≡ oq_table_size
    → take oq_number_size bs ≡ bytes_of oq_number_size oq_number → decode (drop oq_number_size bs) ≡ some s → all_buffered s ≡ true → decode_oq bs ≡ some s
unfolding encode_oq
oq-outer bs s size front inner buffered =
    let whole : bs ≡ encode_oq s =
    sym (take-append-drop oq_number_size bs) ∙ ap₂ ◌++◌ front (sym (encode-decode (drop oq_number_size bs) s inner)) in
    ap decode_oq whole
    ∙ decode_oq-encode_oq s (sound-oq-i s (decode-sound (drop oq_number_size bs) s inner) buffered)

-- no bytes are an older table of both switches
pub not-both : (bs : List ℕ) (s t : Switch) → decode bs ≡ some s → decode_oq bs ≡ some t → ⊥
not-both bs s t e f = omega (arith, decode-length bs s e, decode_oq-length bs t f)

pub is_oq_table-some : (bs : List ℕ) (s : Switch) → decode_oq bs ≡ some s → is_oq_table bs ≡ true
unfolding is_oq_table
is_oq_table-some bs s e = rw (e, is_oq_table)

pub is-oq-table : (bs : List ℕ) → is_oq_table bs ≡ true → decode_oq bs ≡ some (state_of_oq bs)
unfolding is_oq_table
is-oq-table bs h = go (decode_oq bs) refl h
  where
    go : (o : Option Switch) → decode_oq bs ≡ o → elim o [ some s ↦ true | none ↦ false ] ≡ true
        → decode_oq bs ≡ some (state_of_oq bs)
    go none e h = absurd (true≢false (sym h))
    go (some s) e h = e ∙ ap some (decode_oq-some bs s e).2

-- its four tests: the length, the number, the table behind it, and where its cells wait
module _ (bs : List ℕ) where
  abbrev pub tests : Bool
  tests =
      eqb (length bs) oq_table_size
      && (eqb (word bs 0) oq_number && (is_table (drop oq_number_size bs) && all_buffered (state_of_oq bs)))

  tested : is_oq_table bs ≡ true → tests ≡ true
  unfolding state_of_oq encode_oq word number_at number_of bytes_of
  tested t =
      let e = is-oq-table bs t in
      let h = decode_oq-some bs (state_of_oq bs) e in
      let number : word bs 0 ≡ oq_number = ap (λ l. word l 0) h.0 in
      let table : is_table (drop oq_number_size bs) ≡ true = is_table-some _ _ (oq-inner bs (state_of_oq bs) e) in
      let buffered : all_buffered (state_of_oq bs) ≡ true = sound-oq-buffered (state_of_oq bs) h.1 in
      and_i _ _ (eq-eqb _ _ (decode_oq-length bs (state_of_oq bs) e))
      (and_i _ _ (eq-eqb _ _ number) (and_i _ _ table buffered))

  accepted : bytes? bs ≡ true → tests ≡ true → is_oq_table bs ≡ true
  unfolding state_of_oq word number_at
  accepted h t =
      let size : length bs ≡ oq_table_size = eqb-true _ _ (and_l _ _ t) in
      let number : word bs 0 ≡ oq_number = eqb-true _ _ (search (and_l, and_r)) in
      let table : is_table (drop oq_number_size bs) ≡ true = search (and_l, and_r) in
      let buffered : all_buffered (state_of (drop oq_number_size bs)) ≡ true = search (and_l, and_r) in
      let front : take oq_number_size bs ≡ bytes_of oq_number_size oq_number =
      sym (bytes_of-number_of oq_number_size (take oq_number_size bs) (bytes?-take oq_number_size bs h)
      (length-take-le oq_number_size bs (omega arith)))
      ∙ ap (bytes_of oq_number_size) number in
      is_oq_table-some bs _ (oq-outer bs _ size front (is-table (drop oq_number_size bs) table) buffered)

  pub is_oq_table-tests : bytes? bs ≡ true → is_oq_table bs ≡ tests
  is_oq_table-tests h = same (is_oq_table bs) tests tested (accepted h)
