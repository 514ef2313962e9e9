-- Laws of the table of a switch with its memory.
--     marks-fit                                   marks below N are a number of 32 bits
--     number-fair_bytes, core_in-, memory_in-        the parts of the bytes of a state
--     length-fair_bytes, fair_of-fair_bytes          the bytes of a sound state
--     decode_with-fair_bytes, decode_with-some       what is accepted is the bytes of a sound state
--     word-core                                   a word of the cells
--     framed-.., framed-whole                     what the frame says, and bytes whose frame is right by their parts
--     decode_with-tests, decode_fair-, decode_fair_oq-tests    whether bytes are accepted, by the frame and the cells
--     is_table_with-some, is-table-with, is_table_with-none    whether they are
--     first_word.., not-..                        no bytes are a table of two layouts
use Prim.Native.Nat.{ℕ, ◌+◌, ◌^◌, ◌≤◌}
use mathlib.Core.Bool.{Bool, true, false, cond, ◌&&◌, true≢false}
use mathlib.Core.Path.{◌≡◌, refl, sym, ◌∙◌, ap, ap₂}
use mathlib.Core.List.{List, ◌++◌}
use mathlib.Core.Option.{Option, none, some, some-injective, some-ne-none}
use native.Mathlib.Omega.{arith}
use borrow.Author.Tests.{ltb-true, eqb-true, eq-eqb}
use lib.Dec.{eqb}
use lib.ListN.{length, take, drop, take-append-drop, length-append, length-drop}
use lib.Pow.{pow_mono}
use lib.Seq.{take_at, drop_at, drop-drop, length-take-le}
use Rattle.laws.proofs.Tests.{by-fail, clash, and_i, and_l, and_r}
use Rattle.cell.specs.Limits.{fits32, port_limit, ports_in_range}
use Rattle.model.specs.Fair.{Memory, Fair, flow_count, marks_in_range, sound_memory}
use Rattle.model.specs.Oq.{all_buffered, sound_oq}
use Rattle.model.specs.Sound.{sound}
use Rattle.model.specs.State.{Switch}
use Rattle.layout.specs.CodeFair.{is_fair_oq_table}
use Rattle.layout.specs.Frame.{ports_start, is_framed, is_table_with, is_fair_table}
use Rattle.layout.specs.Fair.{fair_number, fair_number_oq, core_start, memory_start, fair_size, fair_bytes, core_in}
use Rattle.layout.specs.Fair.{memory_in, fair_of, decode_with, decode_fair, decode_fair_oq}
use Rattle.layout.specs.Memory.{word_size, memory_size, memory_bytes, memory_of}
use Rattle.layout.specs.Number.{bytes_of, number_of, number_at, word, same_bytes}
use Rattle.layout.specs.Oq.{oq_number, decode_oq, encode_oq}
use Rattle.layout.specs.Table.{layout_number, table_size, encode, state_of, decode, is_table}
use Rattle.layout.proofs.Memory.{WordsFit, word-drop, length-memory_bytes, memory_of-memory_bytes, memory_of-fits}
use Rattle.layout.proofs.Memory.{memory_bytes-memory_of}
use Rattle.layout.proofs.Number.{bytes?, bytes?-take, bytes?-drop, below-fits32, length-bytes_of, bytes_of-number_of}
use Rattle.layout.proofs.Number.{word-here, same_bytes-refl, same_bytes-exact}
use Rattle.layout.proofs.Oq.{decode_oq-some}
use Rattle.layout.proofs.Records.{number_at-part}
use Rattle.layout.proofs.Table.{length-encode, state_of-encode, decode-encode, decode-sound, encode-decode}
use Rattle.layout.proofs.Table.{is_table-some, is-table, sound-ports}

------------------------------------------------------------------------
-- a sound memory

-- marks below N are a number of 32 bits
pub marks-fit : (ports marks : ℕ) → ports ≤ port_limit → marks_in_range ports marks ≡ true → fits32 marks ≡ true
unfolding marks_in_range
marks-fit ports marks few h =
    let most : 2 ^ ports ≤ 2 ^ port_limit = pow_mono few in
    below-fits32 marks (omega (arith, ltb-true marks (2 ^ ports) h))

module _ (ports : ℕ) (m : Memory) (h : sound_memory ports m ≡ true) where
  pub sound-marks : marks_in_range ports m.fair ≡ true
  unfolding sound_memory
  sound-marks = search and_l

  sound-fits : ports ≤ port_limit → WordsFit m
  unfolding sound_memory
  sound-fits few =
      let left : eqb (length m.left) port_limit ≡ true = search (and_l, and_r) in
      let given : eqb (length m.given) flow_count ≡ true = search (and_l, and_r) in
      record {
        marks = marks-fit ports m.fair few sound-marks;
        left_size = eqb-true _ _ left;
        left_fit = search (and_l, and_r);
        given_size = eqb-true _ _ given;
        given_fit = search (and_l, and_r);
      }

and-true : (t : Bool) → (t && true) ≡ t
and-true true = refl
and-true false = refl

sound-range : (s : Switch) → sound s ≡ true → ports_in_range s.ports ≡ true
unfolding sound
sound-range s h = search and_l

-- any bytes of a memory's length make a sound one, if their marks are below N
sound-memory : (ports : ℕ) (bs : List ℕ) → bytes? bs ≡ true → length bs ≡ memory_size
    → marks_in_range ports (memory_of bs).fair ≡ true → sound_memory ports (memory_of bs) ≡ true
unfolding sound_memory
sound-memory ports bs h size marks =
    let fits : WordsFit (memory_of bs) = memory_of-fits bs h size in
    and_i _ _ marks
    (and_i _ _ (eq-eqb _ _ fits.left_size)
    (and_i _ _ (eq-eqb _ _ fits.given_size) (and_i _ _ fits.left_fit fits.given_fit)))

------------------------------------------------------------------------
-- the bytes of a state

module _ (number : ℕ) (x : Fair Switch) where
  pub number-fair_bytes : fits32 number ≡ true → word (fair_bytes number x) 0 ≡ number
  unfolding fair_bytes
  number-fair_bytes h = word-here number (encode x.core ++ memory_bytes x.memory) h

  -- the bytes behind the number
  pub drop-fair_bytes : drop core_start (fair_bytes number x) ≡ encode x.core ++ memory_bytes x.memory
  unfolding fair_bytes
  drop-fair_bytes = drop_at (bytes_of word_size number) _ core_start (length-bytes_of word_size number)

  module _ (core : sound x.core ≡ true) where
    pub core_in-fair_bytes : core_in (fair_bytes number x) ≡ encode x.core
    core_in-fair_bytes =
        ap (take table_size) drop-fair_bytes
        ∙ take_at (encode x.core) (memory_bytes x.memory) table_size (length-encode x.core core)

    pub memory_in-fair_bytes : memory_in (fair_bytes number x) ≡ memory_bytes x.memory
    memory_in-fair_bytes =
        sym (drop-drop table_size core_start (fair_bytes number x))
        ∙ ap (drop table_size) drop-fair_bytes
        ∙ drop_at (encode x.core) (memory_bytes x.memory) table_size (length-encode x.core core)

    module _ (memory : sound_memory x.core.ports x.memory ≡ true) where
      fits : WordsFit x.memory
      fits = sound-fits x.core.ports x.memory memory (sound-ports x.core core)

      pub length-fair_bytes : length (fair_bytes number x) ≡ fair_size
      unfolding fair_bytes
      length-fair_bytes =
          length-append (bytes_of word_size number) _
          ∙ ap₂ ◌+◌ (length-bytes_of word_size number)
          (length-append (encode x.core) (memory_bytes x.memory)
          ∙ ap₂ ◌+◌ (length-encode x.core core) (length-memory_bytes x.memory fits.left_size fits.given_size))

      pub fair_of-fair_bytes : fair_of (fair_bytes number x) ≡ x
      unfolding fair_of
      fair_of-fair_bytes =
          let cells : state_of (core_in (fair_bytes number x)) ≡ x.core =
          ap state_of core_in-fair_bytes ∙ state_of-encode x.core core in
          let ranks : memory_of (memory_in (fair_bytes number x)) ≡ x.memory =
          ap memory_of memory_in-fair_bytes ∙ memory_of-memory_bytes x.memory fits in
          λ k. record { core = cells k; memory = ranks k }

------------------------------------------------------------------------
-- a word of a part

module _ (bs : List ℕ) where
  pub word-core : (at : ℕ) → at + 4 ≤ table_size → word (core_in bs) at ≡ word bs (core_start + at)
  unfolding word
  word-core at room = number_at-part 4 at table_size core_start bs room

  ports-core : word (core_in bs) 4 ≡ word bs ports_start
  ports-core = word-core 4 (omega arith)

  marks-memory : (memory_of (memory_in bs)).fair ≡ word bs memory_start
  unfolding memory_of
  marks-memory = word-drop memory_start 0 bs

------------------------------------------------------------------------
-- the frame

module _ (number : ℕ) (bs : List ℕ) (h : is_framed number bs ≡ true) where
  pub framed-size : length bs ≡ fair_size
  unfolding is_framed
  framed-size = eqb-true _ _ (and_l _ _ h)

  pub framed-number : word bs 0 ≡ number
  unfolding is_framed
  framed-number = eqb-true _ _ (search (and_l, and_r))

  pub framed-marks : marks_in_range (word bs ports_start) (word bs memory_start) ≡ true
  unfolding is_framed
  framed-marks = search (and_l, and_r)

  pub framed-core : length (core_in bs) ≡ table_size
  framed-core =
      length-take-le table_size (drop core_start bs) (omega (arith, framed-size, length-drop core_start bs))

  pub framed-memory : length (memory_in bs) ≡ memory_size
  framed-memory = length-drop memory_start bs ∙ omega (arith, framed-size)

  -- the marks of the memory are below the N of the cells
  pub framed-marked : marks_in_range (state_of (core_in bs)).ports (memory_of (memory_in bs)).fair ≡ true
  unfolding state_of
  framed-marked = ap₂ marks_in_range (ports-core bs) (marks-memory bs) ∙ framed-marks

  module _ (b : bytes? bs ≡ true) where
    pub framed-sound : sound_memory (state_of (core_in bs)).ports (memory_of (memory_in bs)) ≡ true
    framed-sound =
        sound-memory (state_of (core_in bs)).ports (memory_in bs) (bytes?-drop memory_start bs b) framed-memory framed-marked

    framed-front : take core_start bs ≡ bytes_of word_size number
    unfolding word number_at
    framed-front =
        sym (bytes_of-number_of word_size (take core_start bs) (bytes?-take core_start bs b)
        (length-take-le core_start bs (omega (arith, framed-size))))
        ∙ ap (bytes_of word_size) framed-number

    -- with these cells between, whatever stands there now
    pub framed-with : (s : Switch)
        → take core_start bs ++ (encode s ++ memory_in bs)
        ≡ fair_bytes number (record { core = s; memory = memory_of (memory_in bs) })
    unfolding fair_bytes
    framed-with s =
        ap₂ (λ p q. p ++ (encode s ++ q)) framed-front
        (sym (memory_bytes-memory_of (memory_in bs) (bytes?-drop memory_start bs b) framed-memory))

    -- the bytes are those of the state that they would stand for, if their cells are
    pub framed-whole : is_table (core_in bs) ≡ true → fair_bytes number (fair_of bs) ≡ bs
    unfolding fair_of
    framed-whole t =
        sym (framed-with (state_of (core_in bs)))
        ∙ ap₂ (λ p q. take core_start bs ++ (p ++ q)) (encode-decode (core_in bs) _ (is-table (core_in bs) t))
        (sym (drop-drop table_size core_start bs))
        ∙ ap (λ l. take core_start bs ++ l) (take-append-drop table_size (drop core_start bs))
        ∙ take-append-drop core_start bs

------------------------------------------------------------------------
-- what is accepted

module _ (number : ℕ) (sound_core : Switch → Bool) where
  -- whether the bytes are those of the state that they would stand for, and it is sound
  abbrev whole? : List ℕ → Bool
  whole? bs =
      sound_core (fair_of bs).core
      && (sound_memory (fair_of bs).core.ports (fair_of bs).memory && same_bytes (fair_bytes number (fair_of bs)) bs)

  pub decode_with-some : (bs : List ℕ) (x : Fair Switch) → decode_with number sound_core bs ≡ some x
      → (bs ≡ fair_bytes number x) × (sound_core x.core ≡ true)
      × (sound_memory x.core.ports x.memory ≡ true) × (x ≡ fair_of bs)
  unfolding decode_with
  decode_with-some bs x e = go (whole? bs) refl e
    where
      go : (b : Bool) → whole? bs ≡ b → elim b [ true ↦ some (fair_of bs) | false ↦ none ] ≡ some x
          → (bs ≡ fair_bytes number x) × (sound_core x.core ≡ true)
          × (sound_memory x.core.ports x.memory ≡ true) × (x ≡ fair_of bs)
      go true t e =
          let state : fair_of bs ≡ x = some-injective (fair_of bs) x e in
          let exact : same_bytes (fair_bytes number (fair_of bs)) bs ≡ true = search (and_l, and_r) in (
            sym (same_bytes-exact _ bs exact) ∙ ap (fair_bytes number) state,
            ap (λ y. sound_core y.core) (sym state) ∙ and_l _ _ t,
            ap (λ y. sound_memory y.core.ports y.memory) (sym state) ∙ search (and_l, and_r),
            sym state,
          )
      go false t e = absurd (some-ne-none x (sym e))

  -- sound cells of an engine are sound, and more
  module _ (more : Switch → Bool) (parts : (s : Switch) → sound_core s ≡ (sound s && more s)) where
    sound-core : (s : Switch) → sound_core s ≡ true → sound s ≡ true
    sound-core s h = and_l (sound s) (more s) (sym (parts s) ∙ h)

    pub decode_with-fair_bytes : (x : Fair Switch) → sound_core x.core ≡ true
        → sound_memory x.core.ports x.memory ≡ true → decode_with number sound_core (fair_bytes number x) ≡ some x
    unfolding decode_with
    decode_with-fair_bytes x h m =
        let bs : List ℕ = fair_bytes number x in
        let back : fair_of bs ≡ x = fair_of-fair_bytes number x (sound-core x.core h) m in
        let exact : same_bytes (fair_bytes number (fair_of bs)) bs ≡ true = rw back (same_bytes-refl bs) in
        let whole : whole? bs ≡ true =
        and_i (sound_core (fair_of bs).core) _ (ap (λ y. sound_core y.core) back ∙ h)
        (and_i (sound_memory (fair_of bs).core.ports (fair_of bs).memory) _
        (ap (λ y. sound_memory y.core.ports y.memory) back ∙ m) exact) in
        rw (whole, decode_with) (ap some back)

    module _ (fits : fits32 number ≡ true) (bs : List ℕ) (b : bytes? bs ≡ true) where
      abbrev tests : Bool
      tests = is_framed number bs && (is_table (core_in bs) && more (state_of (core_in bs)))

      tested : whole? bs ≡ true → tests ≡ true
      unfolding fair_of is_framed state_of
      tested t =
          let s : Switch = state_of (core_in bs) in
          let cells : sound_core s ≡ true = and_l _ _ t in
          let table : sound s ≡ true = sound-core s cells in
          let memory : sound_memory s.ports (memory_of (memory_in bs)) ≡ true = search (and_l, and_r) in
          let exact : same_bytes (fair_bytes number (fair_of bs)) bs ≡ true = search (and_l, and_r) in
          let bytes : fair_bytes number (fair_of bs) ≡ bs = same_bytes-exact _ bs exact in
          let size : length bs ≡ fair_size = ap length (sym bytes) ∙ length-fair_bytes number (fair_of bs) table memory in
          let front : word bs 0 ≡ number = ap (λ l. word l 0) (sym bytes) ∙ number-fair_bytes number (fair_of bs) fits in
          let inner : core_in bs ≡ encode s = ap core_in (sym bytes) ∙ core_in-fair_bytes number (fair_of bs) table in
          and_i _ _
          (and_i _ _ (eq-eqb _ _ size)
          (and_i _ _ (eq-eqb _ _ front)
          (and_i _ _ (ap ports_in_range (sym (ports-core bs)) ∙ sound-range s table)
          (ap₂ marks_in_range (sym (ports-core bs)) (sym (marks-memory bs))
          ∙ sound-marks s.ports (memory_of (memory_in bs)) memory))))
          (and_i _ _ (is_table-some (core_in bs) s (ap decode inner ∙ decode-encode s table))
          (and_r (sound s) (more s) (sym (parts s) ∙ cells)))

      passed : tests ≡ true → whole? bs ≡ true
      unfolding fair_of
      passed t =
          let framed : is_framed number bs ≡ true = and_l _ _ t in
          let table : is_table (core_in bs) ≡ true = search (and_l, and_r) in
          let rest : more (state_of (core_in bs)) ≡ true = search (and_l, and_r) in
          let cells : sound (state_of (core_in bs)) ≡ true = decode-sound (core_in bs) _ (is-table (core_in bs) table) in
          and_i _ _ (parts (state_of (core_in bs)) ∙ and_i _ _ cells rest)
          (and_i _ _ (framed-sound number bs framed b)
          (ap (λ l. same_bytes l bs) (framed-whole number bs framed b table) ∙ same_bytes-refl bs))

      pub decode_with-tests : decode_with number sound_core bs ≡ cond tests (some (fair_of bs)) none
      unfolding decode_with
      decode_with-tests = go (whole? bs) refl
        where
          go : (w : Bool) → whole? bs ≡ w
              → elim w [ true ↦ some (fair_of bs) | false ↦ none ] ≡ cond tests (some (fair_of bs)) none
          go true e = sym (ap (λ t. cond t (some (fair_of bs)) none) (tested e))
          go false e =
              let out : tests ≡ false = by-fail tests (λ t. clash (passed t) e) in
              sym (ap (λ t. cond t (some (fair_of bs)) none) out)

------------------------------------------------------------------------
-- the two engines

-- the crossbar asks no more of its cells than that they are sound
no_more : Switch → Bool
no_more s = true

sound-parts : (s : Switch) → sound s ≡ (sound s && no_more s)
unfolding no_more
sound-parts s = sym (and-true (sound s))

oq-parts : (s : Switch) → sound_oq s ≡ (sound s && all_buffered s)
unfolding sound_oq
oq-parts s = refl

number_fits : fits32 fair_number ≡ true
unfolding fits32
number_fits = refl

number-fits-oq : fits32 fair_number_oq ≡ true
unfolding fits32
number-fits-oq = refl

pub decode_fair-fair_bytes : (x : Fair Switch) → sound x.core ≡ true → sound_memory x.core.ports x.memory ≡ true
    → decode_fair (fair_bytes fair_number x) ≡ some x
decode_fair-fair_bytes = decode_with-fair_bytes fair_number sound no_more sound-parts

pub decode_fair_oq-fair_bytes : (x : Fair Switch) → sound_oq x.core ≡ true
    → sound_memory x.core.ports x.memory ≡ true → decode_fair_oq (fair_bytes fair_number_oq x) ≡ some x
decode_fair_oq-fair_bytes = decode_with-fair_bytes fair_number_oq sound_oq all_buffered oq-parts

module _ (bs : List ℕ) (b : bytes? bs ≡ true) where
  pub decode_fair-tests :
      decode_fair bs ≡ cond (is_framed fair_number bs && is_table (core_in bs)) (some (fair_of bs)) none
  unfolding no_more
  decode_fair-tests =
      decode_with-tests fair_number sound no_more sound-parts number_fits bs b
      ∙ ap (λ t. cond (is_framed fair_number bs && t) (some (fair_of bs)) none) (and-true (is_table (core_in bs)))

  pub decode_fair_oq-tests : decode_fair_oq bs
      ≡ cond (is_framed fair_number_oq bs && (is_table (core_in bs) && all_buffered (state_of (core_in bs)))) (some (fair_of bs)) none
  decode_fair_oq-tests = decode_with-tests fair_number_oq sound_oq all_buffered oq-parts number-fits-oq bs b

------------------------------------------------------------------------
-- whether bytes are a table

module _ (number : ℕ) (sound_core : Switch → Bool) (bs : List ℕ) where
  pub is_table_with-some : (x : Fair Switch) → decode_with number sound_core bs ≡ some x
      → is_table_with number sound_core bs ≡ true
  unfolding is_table_with
  is_table_with-some x e = rw (e, is_table_with)

  pub is-table-with : is_table_with number sound_core bs ≡ true → decode_with number sound_core bs ≡ some (fair_of bs)
  unfolding is_table_with
  is-table-with h = go (decode_with number sound_core bs) refl h
    where
      go : (o : Option (Fair Switch)) → decode_with number sound_core bs ≡ o
          → elim o [ some x ↦ true | none ↦ false ] ≡ true → decode_with number sound_core bs ≡ some (fair_of bs)
      go none e h = absurd (true≢false (sym h))
      go (some x) e h = e ∙ ap some (decode_with-some number sound_core bs x e).3

  pub is_table_with-none : is_table_with number sound_core bs ≡ false → decode_with number sound_core bs ≡ none
  unfolding is_table_with
  is_table_with-none h = go (decode_with number sound_core bs) refl
    where
      go : (o : Option (Fair Switch)) → decode_with number sound_core bs ≡ o → decode_with number sound_core bs ≡ none
      go none e = e
      go (some x) e = absurd (clash (is_table_with-some x e) h)

cond-test : (t : Bool) (bs : List ℕ)
    → ◌≡◌ {A = Bool} (elim (cond t (some (fair_of bs)) none) [ some x ↦ true | none ↦ false ]) t
cond-test true bs = refl
cond-test false bs = refl

module _ (bs : List ℕ) (b : bytes? bs ≡ true) where
  pub is_fair_table-tests : is_fair_table bs ≡ (is_framed fair_number bs && is_table (core_in bs))
  unfolding is_table_with
  is_fair_table-tests =
      ap (λ o. elim o [ some x ↦ true | none ↦ false ]) (decode_fair-tests bs b) ∙ cond-test _ bs

  pub is_fair_oq_table-tests :
      is_fair_oq_table bs ≡ (is_framed fair_number_oq bs && (is_table (core_in bs) && all_buffered (state_of (core_in bs))))
  unfolding is_table_with
  is_fair_oq_table-tests =
      ap (λ o. elim o [ some x ↦ true | none ↦ false ]) (decode_fair_oq-tests bs b) ∙ cond-test _ bs

------------------------------------------------------------------------
-- no bytes are a table of two layouts: their first words differ

first_word : (bs : List ℕ) (s : Switch) → decode bs ≡ some s → word bs 0 ≡ layout_number
unfolding encode word number_at number_of bytes_of
first_word bs s e = ap (λ l. word l 0) (sym (encode-decode bs s e))

first-word-oq : (bs : List ℕ) (s : Switch) → decode_oq bs ≡ some s → word bs 0 ≡ oq_number
unfolding encode_oq word number_at number_of bytes_of
first-word-oq bs s e = ap (λ l. word l 0) (decode_oq-some bs s e).0

first-word-with : (number : ℕ) (sound_core : Switch → Bool) → fits32 number ≡ true
    → (bs : List ℕ) (x : Fair Switch) → decode_with number sound_core bs ≡ some x → word bs 0 ≡ number
first-word-with number sound_core fits bs x e =
    ap (λ l. word l 0) (decode_with-some number sound_core bs x e).0 ∙ number-fair_bytes number x fits

first-word-fair : (bs : List ℕ) (x : Fair Switch) → decode_fair bs ≡ some x → word bs 0 ≡ fair_number
first-word-fair = first-word-with fair_number sound number_fits

first-word-fair-oq : (bs : List ℕ) (x : Fair Switch) → decode_fair_oq bs ≡ some x → word bs 0 ≡ fair_number_oq
first-word-fair-oq = first-word-with fair_number_oq sound_oq number-fits-oq

module _ (bs : List ℕ) (x : Fair Switch) (e : decode_fair bs ≡ some x) where
  pub fair-not-older : (s : Switch) → decode bs ≡ some s → ⊥
  fair-not-older s f = omega (arith, first-word-fair bs x e, first_word bs s f)

  pub fair-not-older-oq : (s : Switch) → decode_oq bs ≡ some s → ⊥
  fair-not-older-oq s f = omega (arith, first-word-fair bs x e, first-word-oq bs s f)

  pub fair-not-fair-oq : (y : Fair Switch) → decode_fair_oq bs ≡ some y → ⊥
  fair-not-fair-oq y f = omega (arith, first-word-fair bs x e, first-word-fair-oq bs y f)

module _ (bs : List ℕ) (x : Fair Switch) (e : decode_fair_oq bs ≡ some x) where
  pub fair-oq-not-older : (s : Switch) → decode bs ≡ some s → ⊥
  fair-oq-not-older s f = omega (arith, first-word-fair-oq bs x e, first_word bs s f)

  pub fair-oq-not-older-oq : (s : Switch) → decode_oq bs ≡ some s → ⊥
  fair-oq-not-older-oq s f = omega (arith, first-word-fair-oq bs x e, first-word-oq bs s f)
