-- The bytes of a table whose places stand in a column, when one of them changes.
--     state_placed     the state of a table with the places of a column
--     encode-placed   its bytes differ in the byte of that place
use Prim.Native.Nat.{ℕ, zero, suc, ◌+◌, ◌*◌, ◌-◌, ◌/◌, ◌%◌, ◌≤◌, ◌<◌}
use native.Mathlib.Nat.{zero-add, suc-add}
use native.Mathlib.Omega.{arith}
use mathlib.Core.Path.{◌≡◌, refl, sym, ◌∙◌, ap, ap₂}
use mathlib.Core.Logic.{◌≢◌}
use mathlib.Core.List.{List, [], ◌∷◌, ◌++◌, map}
use lib.ListN.{length, get_or, set, replicate, length-append, length-set}
use lib.Seq.{get_or-set_same, get_or-set_other, set-append_left}
use Rattle.laws.specs.Lists.{numbers_from, up_to}
use Rattle.cell.specs.Limits.{section_room, port_limit}
use Rattle.laws.proofs.Compared.{Compared, below, equal, above, compare}
use Rattle.model.specs.State.{Entry, Switch}
use Rattle.layout.specs.Number.{bytes_of}
use Rattle.layout.specs.Entry.{entry_at, clock_in, count_in}
use Rattle.layout.specs.Code.{record_start, ports_in}
use Rattle.layout.specs.Table.{layout_number, header_size, entry_size, section_size, place_byte, place_of, entry_bytes}
use Rattle.layout.specs.Table.{entries_bytes, section_bytes, sections_bytes, counts_bytes, encode, entry_limit}
use Rattle.layout.proofs.Table.{length-entry_bytes, length-entries_bytes, length-section_bytes, length-counts_bytes}
use Rattle.layout_table.proofs.Places.{place-i}
use Rattle.slot_view.specs.CodeView.{InTable}
use Rattle.slot_view.specs.CodeScan.{Readable}
use Rattle.slot_view.specs.CodeSections.{entry_placed, section_placed, sections_placed}
use Rattle.slot_view.proofs.Placed.{length-numbers, map-numbers}
use Rattle.slot_view.proofs.Window.{in_table-below}

pub set-append-add : (xs ys : List ℕ) (i a : ℕ) → set (xs ++ ys) (length xs + i) a ≡ xs ++ set ys i a
set-append-add [] ys i a = ap (λ n. set ys n a) (zero-add i)
set-append-add (x ∷ xs) ys i a =
    ap (λ n. set (x ∷ (xs ++ ys)) n a) (suc-add (length xs) i) ∙ ap (λ l. x ∷ l) (set-append-add xs ys i a)

-- an element of the second of two lists, by the length of the first
set-behind : (xs ys : List ℕ) (n i p a : ℕ) → length xs ≡ n → p ≡ n + i → set (xs ++ ys) p a ≡ xs ++ set ys i a
set-behind xs ys n i p a size at =
    let q : p ≡ length xs + i = omega arith in
    ap (λ j. set (xs ++ ys) j a) q ∙ set-append-add xs ys i a

-- the state of a table with the places of a column
abbrev pub state_placed : List ℕ → List ℕ → Switch
state_placed table places =
    record { ports = ports_in table; clock = clock_in table; sections = sections_placed table places }

module _ (table places : List ℕ) (k v : ℕ) (low : 1 ≤ v) (high : v ≤ 3) (inside : k < length places) where
  abbrev changed : List ℕ
  changed = set places k v

  entry-same : (i : ℕ) → i ≢ k → entry_placed table changed i ≡ entry_placed table places i
  unfolding entry_placed
  entry-same i n =
      ap (λ b. record { cell = (entry_at table i).cell; place = place_of b }) (get_or-set_other places k i v 0 n)

  entry-changed : entry_bytes (entry_placed table changed k) ≡ set (entry_bytes (entry_placed table places k)) 2 v
  unfolding entry_bytes bytes_of entry_placed
  entry-changed =
      let byte : place_byte (place_of (get_or changed k 0)) ≡ v =
      ap (λ b. place_byte (place_of b)) (get_or-set_same places k v 0 inside) ∙ place-i v low high in
      let small : place_byte (place_of (get_or changed k 0)) % 256 ≡ v = omega arith in
      ap (set (entry_bytes (entry_placed table places k)) 2) small

  abbrev old : ℕ → ℕ → List ℕ
  old a n = entries_bytes (map (entry_placed table places) (numbers_from a n))

  abbrev new : ℕ → ℕ → List ℕ
  new a n = entries_bytes (map (entry_placed table changed) (numbers_from a n))

  entries-changed : (a n : ℕ) → a ≤ k → k < a + n → new a n ≡ set (old a n) (entry_size * (k - a) + 2) v
  unfolding numbers_from entries_bytes
  entries-changed a zero l h = absurd (omega arith)
  entries-changed a (suc n) l h = go (compare a k) (entries-changed (a + 1) n)
    where
      first : List ℕ
      first = entry_bytes (entry_placed table places a)

      go : Compared a k → (a + 1 ≤ k → k < a + 1 + n → new (a + 1) n ≡ set (old (a + 1) n) (entry_size * (k - (a + 1)) + 2) v)
          → entry_bytes (entry_placed table changed a) ++ new (a + 1) n ≡ set (first ++ old (a + 1) n) (entry_size * (k - a) + 2) v
      go (below b) rec =
          ap₂ (λ e r. entry_bytes e ++ r) (entry-same a (λ e. omega arith)) (rec (omega arith) (omega arith))
          ∙ sym
          (set-behind first (old (a + 1) n) entry_size (entry_size * (k - (a + 1)) + 2) (entry_size * (k - a) + 2) v
          (length-entry_bytes (entry_placed table places a)) (omega arith))
      go (equal b) rec =
          let at : entry_size * (k - a) + 2 ≡ 2 = omega arith in
          ap₂ (λ e r. e ++ entries_bytes r)
          (ap (λ i. entry_bytes (entry_placed table changed i)) b
          ∙ entry-changed
          ∙ ap (λ i. set (entry_bytes (entry_placed table places i)) 2 v) (sym b))
          (map-numbers (entry_placed table changed) (entry_placed table places) (a + 1) n
          (λ i s t. entry-same i (λ e. omega arith)))
          ∙ sym
          (ap (λ p. set (first ++ old (a + 1) n) p v) at
          ∙ set-append_left first (old (a + 1) n) 2 v (omega (arith, length-entry_bytes (entry_placed table places a))))
      go (above b) rec = absurd (omega arith)

  section-changed : (i : ℕ) → section_room * i ≤ k → k < section_room * i + count_in table i
      → section_bytes (section_placed table changed i)
      ≡ set (section_bytes (section_placed table places i)) (entry_size * (k - section_room * i) + 2) v
  unfolding section_bytes section_placed
  section-changed i l h =
      ap (λ bs. bs ++ replicate (section_size - length bs) 0) (entries-changed (section_room * i) (count_in table i) l h)
      ∙ ap (λ n. set bs p v ++ replicate (section_size - n) 0) (length-set bs p v)
      ∙ sym (set-append_left bs (replicate (section_size - length bs) 0) p v within)
    where
      es : List Entry
      es = map (entry_placed table places) (numbers_from (section_room * i) (count_in table i))

      bs : List ℕ
      bs = old (section_room * i) (count_in table i)

      p : ℕ
      p = entry_size * (k - section_room * i) + 2

      within : p < length bs
      within =
          omega (
            arith,
            length-entries_bytes es,
            length-numbers (entry_placed table places) (section_room * i) (count_in table i),
          )

  section-same : (i : ℕ) → i ≢ k / section_room → count_in table i ≤ section_room
      → section_placed table changed i ≡ section_placed table places i
  unfolding section_placed
  section-same i n few =
      map-numbers (entry_placed table changed) (entry_placed table places) (section_room * i) (count_in table i)
      (λ j s t. entry-same j (λ e. n (omega arith)))

  length-section : (i : ℕ) → length (section_placed table places i) ≡ count_in table i
  unfolding section_placed
  length-section i = length-numbers (entry_placed table places) (section_room * i) (count_in table i)

  abbrev row : ℕ
  row = k / section_room

  abbrev sections : List ℕ → ℕ → ℕ → List (List Entry)
  sections column i m = map (section_placed table column) (numbers_from i m)

  module _ (few : (i : ℕ) → i < port_limit → count_in table i ≤ section_room) (here : k < section_room * row + count_in table row) where
    sections-changed : (n i m : ℕ) → m ≤ n → i + n ≤ port_limit → i ≤ row → row < i + m
        → sections_bytes n (sections changed i m)
        ≡ set (sections_bytes n (sections places i m)) (section_size * (row - i) + (entry_size * (k - section_room * row) + 2)) v
    unfolding numbers_from sections_bytes
    sections-changed zero i m s t l h = absurd (omega arith)
    sections-changed (suc n) i zero s t l h = absurd (omega arith)
    sections-changed (suc n) i (suc m) s t l h = go (compare i row) (sections-changed n (i + 1) m (omega arith) (omega arith))
      where
        first : List ℕ
        first = section_bytes (section_placed table places i)

        rest : List ℕ
        rest = sections_bytes n (sections places (i + 1) m)

        p : ℕ
        p = entry_size * (k - section_room * row) + 2

        count : count_in table i ≤ section_room
        count = few i (omega arith)

        size : length first ≡ section_size
        size = length-section_bytes (section_placed table places i) (omega (arith, count, length-section i))

        go : Compared i row
            → (i + 1 ≤ row → row < i + 1 + m
            → sections_bytes n (sections changed (i + 1) m) ≡ set rest (section_size * (row - (i + 1)) + p) v)
            → section_bytes (section_placed table changed i) ++ sections_bytes n (sections changed (i + 1) m)
            ≡ set (first ++ rest) (section_size * (row - i) + p) v
        go (below b) rec =
            ap₂ (λ e r. section_bytes e ++ r) (section-same i (λ e. omega arith) count) (rec (omega arith) (omega arith))
            ∙ sym
            (set-behind first rest section_size (section_size * (row - (i + 1)) + p) (section_size * (row - i) + p) v size
            (omega arith))
        go (equal b) rec =
            let at : section_size * (row - i) + p ≡ p = omega arith in
            ap₂ (λ e r. e ++ sections_bytes n r)
            (section-changed i (omega arith) (rw (← b) at here)
            ∙ ap (λ j. set first (entry_size * (k - section_room * j) + 2) v) b)
            (map-numbers (section_placed table changed) (section_placed table places) (i + 1) m
            (λ j q u. section-same j (λ e. omega arith) (few j (omega arith))))
            ∙ sym (ap (λ q. set (first ++ rest) q v) at ∙ set-append_left first rest p v (omega (arith, size)))
        go (above b) rec = absurd (omega arith)

    counts_same : (n i m : ℕ) → counts_bytes n (sections changed i m) ≡ counts_bytes n (sections places i m)
    unfolding numbers_from counts_bytes section_placed
    counts_same zero i m = refl
    counts_same (suc n) i zero = refl
    counts_same (suc n) i (suc m) =
        ap₂ (λ c r. bytes_of 1 c ++ r)
        (length-numbers (entry_placed table changed) (section_room * i) (count_in table i)
        ∙ sym (length-numbers (entry_placed table places) (section_room * i) (count_in table i)))
        (counts_same n (i + 1) m)

    header : List ℕ
    header = bytes_of 4 layout_number ++ (bytes_of 4 (ports_in table) ++ (bytes_of 4 (clock_in table) ++ bytes_of 4 0))

    length-header : length header ≡ 16
    unfolding header bytes_of
    length-header = refl

    front : List ℕ
    front = header ++ counts_bytes port_limit (sections_placed table places)

    length_front : length front ≡ header_size
    unfolding front
    length_front =
        length-append header (counts_bytes port_limit (sections_placed table places))
        ∙ ap₂ ◌+◌ length-header (length-counts_bytes port_limit (sections_placed table places))

    -- the header, the counts and the sections
    parts : (column : List ℕ)
        → encode (state_placed table column)
        ≡ (header ++ counts_bytes port_limit (sections_placed table column)) ++ sections_bytes port_limit (sections_placed table column)
    unfolding encode header bytes_of
    parts column = refl

    pub encode-column : ports_in table ≤ port_limit → row < ports_in table
        → encode (state_placed table (set places k v)) ≡ set (encode (state_placed table places)) (record_start k + 2) v
    unfolding sections_placed up_to front
    encode-column ports port =
        parts changed
        ∙ ap₂ (λ c s. (header ++ c) ++ s) (counts_same port_limit 0 (ports_in table))
        (sections-changed port_limit 0 (ports_in table) ports (omega arith) (omega arith) (omega arith))
        ∙ sym
        (ap (λ bs. set bs (record_start k + 2) v) (parts places)
        ∙ set-behind front (sections_bytes port_limit (sections_placed table places)) header_size
        (section_size * (row - 0) + (entry_size * (k - section_room * row) + 2)) (record_start k + 2) v length_front (omega arith))

-- the place of an entry changes in the column and in the bytes
pub encode-placed : {table : List ℕ} (r : Readable table) (places : List ℕ) → length places ≡ entry_limit → (k v : ℕ)
    → InTable table k → 1 ≤ v → v ≤ 3
    → encode (state_placed table (set places k v)) ≡ set (encode (state_placed table places)) (record_start k + 2) v
encode-placed {table} r places size k v t low high =
    encode-column table places k v low high (omega (arith, in_table-below r t)) r.counts t.position r.ports t.input
