-- When bytes are a table: exactly if the header is right and every section is.
use Prim.Native.Nat.{ℕ, ◌+◌, ◌≤◌, ◌<◌}
use mathlib.Core.Bool.{true}
use mathlib.Core.Path.{◌≡◌, refl, sym, ◌∙◌, ap, ap₂}
use mathlib.Core.List.{List, ◌++◌, map}
use native.Mathlib.Omega.{arith}
use borrow.Author.Tests.{leb-true, eq-eqb}
use lib.Dec.{leb, lit≤}
use lib.ListN.{length, take, drop, length-map, take-append-drop}
use lib.Seq.{drop-drop, take_at}
use Rattle.laws.specs.Lists.{all?, up_to, between}
use Rattle.laws.proofs.Lists.{all?-i}
use Rattle.laws.proofs.Numbers.{length-numbers_from}
use Rattle.laws.proofs.Tests.{and_i, and_l, and_r}
use Rattle.cell.specs.Limits.{section_room, port_limit, fits32, ports_in_range}
use Rattle.model.specs.State.{Switch}
use Rattle.model.specs.Sound.{sound, sound_sections}
use Rattle.layout.specs.Number.{bytes_of, number_of, number_at, word}
use Rattle.layout.specs.Table.{layout_number, header_size, table_size, counts_bytes, sections_bytes, encode, state_of, is_table}
use Rattle.layout.specs.Entry.{count_in}
use Rattle.layout.specs.Code.{section_at}
use Rattle.slot_check.specs.Code.{is_section}
use Rattle.layout.proofs.Number.{bytes?, word-here, word_fits, below-fits32, bytes_of-at}
use Rattle.layout.proofs.Table.{decode-some-iff, decode-sound, encode-decode, length-encode, is_table-some, is-table}
use Rattle.layout.proofs.Table.{encode-counts, encode-sections, length-counts_bytes, sound-sections}
use Rattle.layout.proofs.Records.{between-mem, between-each, state_of-sections, state_of-few}
use Rattle.slot_check.proofs.Parts.{Section, room_of-le, is_section-i, is_section-e, counts-i, sections-i, sounds-i, rows-e}

------------------------------------------------------------------------
-- the table

-- what the bytes of a table are
pub record Table (bs : List ℕ) : Type 0 where
  pub size : length bs ≡ table_size
  pub layout : word bs 0 ≡ layout_number
  pub ports : ports_in_range (word bs 4) ≡ true
  pub zeros : ◌≡◌ {A = ℕ} (word bs 12) 0
  pub sections : all? (is_section (word bs 4) (word bs 8) bs) (between 0 port_limit) ≡ true

pub ports_in_range-e : (n : ℕ) → ports_in_range n ≡ true → n ≤ port_limit
unfolding ports_in_range
ports_in_range-e n h = leb-true n port_limit (and_r (leb 1 n) (leb n port_limit) h)

encode-layout : (s : Switch) → word (encode s) 0 ≡ layout_number
unfolding encode
encode-layout s = word-here layout_number _ (below-fits32 layout_number (lit≤ tt))

encode-zeros : (s : Switch) → ◌≡◌ {A = ℕ} (word (encode s) 12) 0
unfolding encode word number_at bytes_of number_of
encode-zeros s = refl

module _ (bs : List ℕ) (h : bytes? bs ≡ true) (t : Table bs) where
  rows : (i : ℕ) → i < port_limit → Section (word bs 4) (word bs 8) bs i
  rows i port = is_section-e (word bs 4) (word bs 8) bs t.size i port
      (between-each (is_section (word bs 4) (word bs 8) bs) 0 port_limit i t.sections (omega arith) port)

  few-ports : word bs 4 ≤ port_limit
  few-ports = ports_in_range-e (word bs 4) t.ports

  few-entries : (i : ℕ) → i < port_limit → count_in bs i ≤ section_room
  few-entries i port = room_of-le (word bs 4) i (count_in bs i) (rows i port).few

  sections-at : (state_of bs).sections ≡ map (section_at bs) (up_to (word bs 4))
  sections-at = state_of-sections bs (λ i port. few-entries i (omega (arith, few-ports)))

  length_at : length (state_of bs).sections ≡ word bs 4
  unfolding up_to
  length_at =
      ap length sections-at ∙ length-map (up_to (word bs 4)) (section_at bs) ∙ length-numbers_from 0 (word bs 4)

  sounds-at : sound_sections (word bs 4) (word bs 8) 0 (state_of bs).sections ≡ true
  unfolding up_to
  sounds-at =
      ap (sound_sections (word bs 4) (word bs 8) 0) sections-at
      ∙ sounds-i (word bs 4) (word bs 8) bs t.size rows (word bs 4) 0 (omega (arith, few-ports))

  sound-at : sound (state_of bs) ≡ true
  unfolding sound state_of
  sound-at =
      let room : 8 + 4 ≤ length bs = omega (arith, t.size) in
      let sections : length (state_of bs).sections ≡ word bs 4 = length_at in
      and_i (ports_in_range (word bs 4)) _ t.ports
      (and_i (fits32 (word bs 8)) _ (word_fits bs 8 h room)
      (and_i _ _ (eq-eqb (length (state_of bs).sections) (word bs 4) length_at) sounds-at))

  counts-at : counts_bytes port_limit (state_of bs).sections ≡ take port_limit (drop 16 bs)
  unfolding up_to
  counts-at =
      ap (counts_bytes port_limit) sections-at
      ∙ counts-i (word bs 4) (word bs 8) bs t.size rows port_limit 0 (word bs 4) refl (omega arith)

  bytes-at : sections_bytes port_limit (state_of bs).sections ≡ drop header_size bs
  unfolding up_to
  bytes-at =
      ap (sections_bytes port_limit) sections-at
      ∙ sections-i (word bs 4) (word bs 8) bs t.size rows port_limit 0 (word bs 4) refl (omega arith)

  -- a word written again before what follows it
  word_at : (n at : ℕ) (rest : List ℕ) → n ≡ word bs at → at + 4 ≤ table_size → rest ≡ drop (at + 4) bs
      → bytes_of 4 n ++ rest ≡ drop at bs
  unfolding word
  word_at n at rest e room follows =
      ap (λ n. bytes_of 4 n ++ rest) e ∙ bytes_of-at 4 at bs h (omega (arith, t.size)) rest follows

  encode-at : encode (state_of bs) ≡ bs
  unfolding encode state_of
  encode-at =
      let sections = (state_of bs).sections in
      let tail : counts_bytes port_limit sections ++ sections_bytes port_limit sections ≡ drop 16 bs =
      ap₂ ◌++◌ counts-at (bytes-at ∙ sym (drop-drop 16 16 bs)) ∙ take-append-drop port_limit (drop 16 bs) in
      word_at layout_number 0 _ (sym t.layout) (lit≤ tt)
      (word_at (word bs 4) 4 _ refl (lit≤ tt)
      (word_at (word bs 8) 8 _ refl (lit≤ tt)
      (word_at 0 12 _ (sym t.zeros) (lit≤ tt) tail)))

  pub is_table-i : is_table bs ≡ true
  is_table-i = is_table-some bs (state_of bs) ((decode-some-iff bs (state_of bs)).1 (sound-at, encode-at))

-- and back, from the state that the bytes stand for
module _ (bs : List ℕ) (good : sound (state_of bs) ≡ true) (same : encode (state_of bs) ≡ bs) where
  sections-of : (state_of bs).sections ≡ map (section_at bs) (up_to (word bs 4))
  sections-of = state_of-sections bs (state_of-few bs good)

  size_of : length bs ≡ table_size
  size_of = ap length (sym same) ∙ length-encode (state_of bs) good

  counts_of : counts_bytes port_limit (map (section_at bs) (up_to (word bs 4))) ≡ take port_limit (drop 16 bs)
  counts_of =
      let sections = (state_of bs).sections in
      rw (← sections-of)
      (sym
      (ap (λ l. take port_limit (drop 16 l)) (sym same)
      ∙ ap (take port_limit) (encode-counts (state_of bs))
      ∙ take_at (counts_bytes port_limit sections) (sections_bytes port_limit sections) port_limit
      (length-counts_bytes port_limit sections)))

  bytes-of : sections_bytes port_limit (map (section_at bs) (up_to (word bs 4))) ≡ drop header_size bs
  bytes-of =
      rw (← sections-of) (sym (ap (drop header_size) (sym same) ∙ encode-sections (state_of bs)))

  sounds-of : sound_sections (word bs 4) (word bs 8) 0 (map (section_at bs) (up_to (word bs 4))) ≡ true
  unfolding state_of
  sounds-of = rw (← sections-of) (sound-sections (state_of bs) good)

  section-of : (i : ℕ) → i < port_limit → is_section (word bs 4) (word bs 8) bs i ≡ true
  unfolding up_to
  section-of i port =
      is_section-i (word bs 4) (word bs 8) bs size_of i port
      (rows-e (word bs 4) (word bs 8) bs size_of port_limit 0 (word bs 4) refl (omega arith) counts_of bytes-of sounds-of
      i (omega arith) port)

  ports-of : ports_in_range (word bs 4) ≡ true
  unfolding sound state_of
  ports-of = search and_l

  table_of : Table bs
  table_of =
      record {
        size = size_of;
        layout = ap (λ l. word l 0) (sym same) ∙ encode-layout (state_of bs);
        ports = ports-of;
        zeros = ap (λ l. word l 12) (sym same) ∙ encode-zeros (state_of bs);
        sections =
            all?-i (is_section (word bs 4) (word bs 8) bs) (between 0 port_limit)
            (λ i m. section-of i (between-mem 0 port_limit m).1);
      }

pub is_table-e : (bs : List ℕ) → is_table bs ≡ true → Table bs
is_table-e bs h =
    let e = is-table bs h in
    table_of bs (decode-sound bs (state_of bs) e) (encode-decode bs (state_of bs) e)

------------------------------------------------------------------------
-- check
