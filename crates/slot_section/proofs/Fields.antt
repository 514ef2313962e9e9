-- When a record is an entry of a table, and when it is not used, field by field.
use Prim.Native.Nat.{ℕ, ◌+◌, ◌/◌, ◌≤◌, ◌<◌}
use mathlib.Core.Bool.{Bool, true, ◌&&◌}
use mathlib.Core.Path.{◌≡◌, refl, sym, ◌∙◌, ap, ap₂}
use mathlib.Core.List.{List, ◌++◌}
use native.Mathlib.Nat.{add-zero}
use native.Mathlib.Omega.{arith}
use borrow.Author.Tests.{ltb-true, lt-ltb, eq-eqb, eqb-true}
use lib.Dec.{ltb, eqb, lit≤}
use lib.ListN.{length, drop, get_or, replicate, length-drop}
use lib.Seq.{length-take-le}
use Rattle.laws.specs.Lists.{all?, between}
use Rattle.laws.proofs.Tests.{same, and_i, and_l, and_r}
use Rattle.laws.proofs.Lists.{all?-mono}
use Rattle.cell.specs.Limits.{port_limit, flow_limit, section_room, fits32}
use Rattle.model.specs.Sound.{sound_entry}
use Rattle.layout.specs.Number.{bytes_of, number_of, number_at, word, same_bytes}
use Rattle.layout.specs.Table.{table_size, entry_size, place_byte, place_of, entry_bytes, entry_of, entry_limit}
use Rattle.layout.specs.Entry.{entry_at}
use Rattle.layout.specs.Code.{record_start, record_at, place_byte_at, entries_between}
use Rattle.slot_section.specs.Code.{is_entry, is_unused, in_range}
use Rattle.layout.proofs.Number.{bytes?, bytes?-take, bytes?-drop, bytes_of-at, bytes_of-last, same_bytes-refl, same_bytes-exact, word_fits}
use Rattle.layout.proofs.Table.{place_byte-range, entry_bytes-place}
use Rattle.layout.proofs.Records.{entry_at-input, entry_at-rank, entry_at-tag, record_at-number, record_at-byte, all?-entries_between}
use Rattle.layout_table.proofs.Places.{place-i, exact-zero}

------------------------------------------------------------------------
-- the bytes of an entry

-- a number written again before what follows it
pub number-again : (w at n : ℕ) (bs rest : List ℕ) → bytes? bs ≡ true → at + w ≤ length bs → n ≡ number_at w at bs
    → rest ≡ drop (at + w) bs → bytes_of w n ++ rest ≡ drop at bs
number-again w at n bs rest h room e follows = ap (λ n. bytes_of w n ++ rest) e ∙ bytes_of-at w at bs h room rest follows

-- sixteen bytes are those of the entry that they would stand for if the place is one and the zero is
entry_bytes-i : (input : ℕ) (r : List ℕ) → bytes? r ≡ true → length r ≡ entry_size
    → place_byte (place_of (number_at 1 2 r)) ≡ number_at 1 2 r → ◌≡◌ {A = ℕ} (number_at 1 3 r) 0
    → entry_bytes (entry_of input r) ≡ r
unfolding entry_bytes entry_of word
entry_bytes-i input r h size place zero =
    number-again 1 0 _ r _ h (omega arith) refl
    (number-again 1 1 _ r _ h (omega arith) refl
    (number-again 1 2 _ r _ h (omega arith) place
    (number-again 1 3 0 r _ h (omega arith) (sym zero)
    (number-again 4 4 _ r _ h (omega arith) refl
    (number-again 4 8 _ r _ h (omega arith) refl (bytes_of-last 4 12 r h size))))))

------------------------------------------------------------------------
-- a record

pub length-record_at : (bs : List ℕ) (k : ℕ) → record_start (k + 1) ≤ length bs → length (record_at bs k) ≡ entry_size
unfolding record_at
length-record_at bs k room = length-take-le entry_size (drop (record_start k) bs) (simp length-drop (omega arith))

module _ (bs : List ℕ) (h : bytes? bs ≡ true) (size : length bs ≡ table_size) (k : ℕ) (within : k < entry_limit) where
  record_at-bytes : bytes? (record_at bs k) ≡ true
  unfolding record_at
  record_at-bytes = bytes?-take entry_size (drop (record_start k) bs) (bytes?-drop (record_start k) bs h)

  length-record : length (record_at bs k) ≡ entry_size
  length-record = length-record_at bs k (omega arith)

  -- its bytes are those of its entry exactly if the place is one and the zero is
  exact-i : 1 ≤ place_byte_at bs k → place_byte_at bs k ≤ 3 → ◌≡◌ {A = ℕ} (get_or bs (record_start k + 3) 0) 0
      → entry_bytes (entry_at bs k) ≡ record_at bs k
  unfolding entry_at record_at place_byte_at
  exact-i low high zero =
      entry_bytes-i (k / section_room) (record_at bs k) record_at-bytes length-record
      (place-i (place_byte_at bs k) low high) (record_at-byte bs k 3 (lit≤ tt) ∙ zero)

  exact-place : entry_bytes (entry_at bs k) ≡ record_at bs k → place_byte_at bs k ≡ place_byte (entry_at bs k).place
  unfolding place_byte_at
  exact-place e = ap (number_at 1 2) (sym e) ∙ entry_bytes-place (entry_at bs k)

  rank-fits : fits32 (entry_at bs k).cell.rank ≡ true
  rank-fits = ap fits32 (entry_at-rank bs k) ∙ word_fits bs (record_start k + 4) h (omega arith)

  tag_fits : fits32 (entry_at bs k).cell.tag ≡ true
  tag_fits = ap fits32 (entry_at-tag bs k) ∙ word_fits bs (record_start k + 8) h (omega arith)

-- what the fields of an entry of a table are
pub record Fields (ports clock : ℕ) (bs : List ℕ) (k : ℕ) : Type 0 where
  pub output : (entry_at bs k).cell.output < ports
  pub flow : (entry_at bs k).cell.flow < flow_limit
  pub low : 1 ≤ place_byte_at bs k
  pub high : place_byte_at bs k ≤ 3
  pub zero : ◌≡◌ {A = ℕ} (get_or bs (record_start k + 3) 0) 0
  pub slot : (entry_at bs k).cell.slot < clock

module _ (ports clock : ℕ) (bs : List ℕ) (h : bytes? bs ≡ true) (size : length bs ≡ table_size) (k : ℕ) (within : k < entry_limit)
  where
    pub is_entry-i : Fields ports clock bs k → is_entry ports clock bs k ≡ true
    unfolding is_entry sound_entry
    is_entry-i f =
        let e = entry_at bs k in
        let exact = exact-i bs h size k within f.low f.high f.zero in
        and_i _ _ (ap (same_bytes (entry_bytes e)) (sym exact) ∙ same_bytes-refl (entry_bytes e))
        (and_i _ _ (eq-eqb e.cell.input (k / section_room) (entry_at-input bs k))
        (and_i _ _ (lt-ltb e.cell.output ports f.output)
        (and_i _ _ (lt-ltb e.cell.flow flow_limit f.flow)
        (and_i _ _ (rank-fits bs h size k within)
        (and_i _ _ (tag_fits bs h size k within) (lt-ltb e.cell.slot clock f.slot))))))

    pub is_entry-e : is_entry ports clock bs k ≡ true → Fields ports clock bs k
    unfolding is_entry sound_entry
    is_entry-e t =
        let e = entry_at bs k in
        let bytes : Bool = same_bytes (entry_bytes e) (record_at bs k) in
        let good : sound_entry ports clock (k / section_room) e ≡ true = and_r bytes _ t in
        let exact : entry_bytes e ≡ record_at bs k =
        same_bytes-exact (entry_bytes e) (record_at bs k) (and_l bytes (sound_entry ports clock (k / section_room) e) t) in
        let output : ltb e.cell.output ports ≡ true = search (and_l, and_r) in
        let flow : ltb e.cell.flow flow_limit ≡ true = search (and_l, and_r) in
        let slot : ltb e.cell.slot clock ≡ true = search (and_l, and_r) depth 7 in
        let place = exact-place bs h size k within exact in
        let bounds = place_byte-range e.place in
        record {
          output = ltb-true _ _ output;
          flow = ltb-true _ _ flow;
          low = omega arith;
          high = omega arith;
          zero = exact-zero bs k exact;
          slot = ltb-true _ _ slot;
        }

-- it is in range of any switch
pub is_entry-in_range : (ports clock : ℕ) (bs : List ℕ) (k : ℕ) → ports ≤ port_limit → is_entry ports clock bs k ≡ true
    → in_range (entry_at bs k) ≡ true
unfolding is_entry sound_entry in_range
is_entry-in_range ports clock bs k few t =
    let e = entry_at bs k in
    let good : sound_entry ports clock (k / section_room) e ≡ true = and_r (same_bytes (entry_bytes e) (record_at bs k)) _ t in
    let output : ltb e.cell.output ports ≡ true = search (and_l, and_r) in
    let flow : ltb e.cell.flow flow_limit ≡ true = search (and_l, and_r) in
    and_i _ _ (lt-ltb e.cell.output port_limit (omega (arith, ltb-true))) flow

pub entries-in_range : (ports clock : ℕ) (bs : List ℕ) (from to : ℕ) → ports ≤ port_limit
    → all? (is_entry ports clock bs) (between from to) ≡ true → all? in_range (entries_between bs from to) ≡ true
entries-in_range ports clock bs from to few h =
    all?-entries_between in_range bs from to
    ∙ all?-mono (is_entry ports clock bs) (λ k. in_range (entry_at bs k)) (between from to)
    (λ k m t. is_entry-in_range ports clock bs k few t) h

------------------------------------------------------------------------
-- an unused record

module _ (bs : List ℕ) (h : bytes? bs ≡ true) (size : length bs ≡ table_size) (k : ℕ) (within : k < entry_limit) where
  record_at-halves : record_at bs k
      ≡ bytes_of 8 (number_at 8 (record_start k) bs) ++ bytes_of 8 (number_at 8 (record_start k + 8) bs)
  record_at-halves =
      let r = record_at bs k in
      let bytes = record_at-bytes bs h size k within in
      let room = length-record bs h size k within in
      let low : number_at 8 (record_start k) bs ≡ number_at 8 0 r =
      ap (λ n. number_at 8 n bs) (sym (add-zero (record_start k))) ∙ sym (record_at-number bs k 8 0 (lit≤ tt)) in
      let high : number_at 8 (record_start k + 8) bs ≡ number_at 8 8 r = sym (record_at-number bs k 8 8 (lit≤ tt)) in
      sym (number-again 8 0 _ r _ bytes (omega arith) low (ap (bytes_of 8) high ∙ bytes_of-last 8 8 r bytes room))

  is_unused-i : ◌≡◌ {A = ℕ} (number_at 8 (record_start k) bs) 0 → ◌≡◌ {A = ℕ} (number_at 8 (record_start k + 8) bs) 0
      → is_unused bs k ≡ true
  unfolding is_unused bytes_of
  is_unused-i low high =
      ap (same_bytes (replicate entry_size 0)) (record_at-halves ∙ ap₂ (λ m n. bytes_of 8 m ++ bytes_of 8 n) low high)
      ∙ same_bytes-refl (replicate entry_size 0)

  unused-number : is_unused bs k ≡ true → (at : ℕ) → at + 8 ≤ entry_size
      → number_at 8 (record_start k + at) bs ≡ number_at 8 at (replicate entry_size 0)
  unfolding is_unused
  unused-number e at room = sym (record_at-number bs k 8 at room) ∙ ap (number_at 8 at) (sym (same_bytes-exact _ _ e))

  is_unused-low : is_unused bs k ≡ true → ◌≡◌ {A = ℕ} (number_at 8 (record_start k) bs) 0
  unfolding number_at number_of
  is_unused-low e = ap (λ n. number_at 8 n bs) (sym (add-zero (record_start k))) ∙ unused-number e 0 (lit≤ tt)

  is_unused-high : is_unused bs k ≡ true → ◌≡◌ {A = ℕ} (number_at 8 (record_start k + 8) bs) 0
  unfolding number_at number_of
  is_unused-high e = unused-number e 8 (lit≤ tt)

  -- both its halves are zero
  pub is_unused-halves : is_unused bs k
      ≡ (eqb (number_at 8 (record_start k) bs) 0 && eqb (number_at 8 (record_start k + 8) bs) 0)
  is_unused-halves =
      let low = number_at 8 (record_start k) bs in
      let high = number_at 8 (record_start k + 8) bs in
      same (is_unused bs k) (eqb low 0 && eqb high 0)
      (λ t. and_i (eqb low 0) (eqb high 0) (eq-eqb low 0 (is_unused-low t)) (eq-eqb high 0 (is_unused-high t)))
      (λ t.
      is_unused-i (eqb-true low 0 (and_l (eqb low 0) (eqb high 0) t))
      (eqb-true high 0 (and_r (eqb low 0) (eqb high 0) t)))
