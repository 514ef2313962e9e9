-- A new entry in a section's bytes.
--     moved_up-none, moved_up-more, put-moved_up       bytes moved up, and others put in where they stood
--     Around, encode-around                         the bytes of a state around one section and its count
--     section-old, section-new                      a section with one more entry
--     insert_entry, inserted-bytes                  the entry and the raised count in the table's bytes
use Prim.Native.Nat.{ℕ, zero, suc, ◌+◌, ◌*◌, ◌-◌, ◌%◌, ◌≤◌, ◌<◌}
use mathlib.Core.Path.{◌≡◌, refl, sym, ◌∙◌, ap, ap₂}
use mathlib.Core.List.{List, [], ◌∷◌, ◌++◌, append_assoc}
use native.Mathlib.Omega.{arith}
use lib.ListN.{length, take, drop, set, get_or, replicate, length-append, length-drop, take-append-drop}
use lib.ListN.{length-replicate, replicate-append-replicate}
use lib.Seq.{take_at, drop_at, take-take, drop-drop, take-add, take-append-le, drop-append-le, length-take-le}
use lib.Seq.{set_at}
use Rattle.laws.specs.Lists.{update}
use Rattle.cell.specs.Limits.{port_limit, section_room}
use Rattle.model.specs.State.{Entry, Switch}
use Rattle.layout.specs.Entry.{count_in}
use Rattle.layout.specs.Number.{bytes_of}
use Rattle.layout.specs.Table.{entry_size, section_size, layout_number, entry_bytes, entries_bytes, section_bytes}
use Rattle.layout.specs.Table.{sections_bytes, counts_bytes, state_of, encode, IsTable}
use Rattle.layout.proofs.Number.{length-bytes_of}
use Rattle.layout.proofs.Table.{length-entry_bytes, length-entries_bytes, entries_bytes-append, length-section_bytes}
use Rattle.layout.proofs.Table.{length-counts_bytes}
use Rattle.layout.specs.Code.{record_start, put, ports_in}
use Rattle.slot_arrival.specs.CodeArrival.{moved_up}
use Rattle.slot_faults.specs.CodeFault.{section_in}
use Rattle.slot_faults.proofs.Stored.{table-encode, ports-below, sections-number, section-sound, section-length}

------------------------------------------------------------------------
-- moved_up

pub moved_up-none : (at size : ℕ) (bs : List ℕ) → bs ≡ moved_up at at size bs
unfolding moved_up
moved_up-none at size bs =
    let none : ◌≡◌ {A = ℕ} (at - at) 0 = omega arith in
    rw none (sym (take-append-drop (at + size) bs))

-- a part of the first n
take-drop-take : (w at n : ℕ) (l : List ℕ) → at + w ≤ n → take w (drop at (take n l)) ≡ take w (drop at l)
take-drop-take w zero n l h = take-take w n l (omega arith)
take-drop-take w (suc at) zero l h = absurd (omega arith)
take-drop-take w (suc at) (suc n) [] h = refl
take-drop-take w (suc at) (suc n) (x ∷ l) h = take-drop-take w at n l (omega arith)

-- the bytes before those that were moved are moved too
pub moved_up-more : (at next end size : ℕ) (bs cur : List ℕ) → next ≡ at + size → next ≤ end → end + size ≤ length bs
    → cur ≡ moved_up next end size bs → put next size (take size (drop at cur)) cur ≡ moved_up at end size bs
unfolding moved_up
moved_up-more at next end size bs cur e h room c =
    let front : List ℕ = take (next + size) bs in
    let back : List ℕ = take (end - next) (drop next bs) ++ drop (end + size) bs in
    let long : length front ≡ next + size = length-take-le (next + size) bs (omega arith) in
    let width : length (drop at front) ≡ size + size = length-drop at front ∙ omega arith in
    let copy : take size (drop at cur) ≡ take size (drop at bs) =
    ap (λ l. take size (drop at l)) c
    ∙ ap (take size) (drop-append-le at front back (omega arith))
    ∙ take-append-le size (drop at front) back (omega arith)
    ∙ take-drop-take size at (next + size) bs (omega arith) in
    let first : take next cur ≡ take (at + size) bs =
    ap (take next) c
    ∙ take-append-le next front back (omega arith)
    ∙ take-take next (next + size) bs (omega arith)
    ∙ ap (λ n. take n bs) e in
    let later : drop (next + size) cur ≡ back = ap (drop (next + size)) c ∙ drop_at front back (next + size) long in
    let more : size + (end - next) ≡ end - at = omega arith in
    let joined : take size (drop at bs) ++ take (end - next) (drop next bs) ≡ take (end - at) (drop at bs) =
    ap (λ l. take size (drop at bs) ++ take (end - next) l) (ap (λ n. drop n bs) e ∙ sym (drop-drop size at bs))
    ∙ sym (take-add size (end - next) (drop at bs))
    ∙ ap (λ n. take n (drop at bs)) more in
    ap₂ (λ x y. x ++ y) first
    (ap (λ w. w ++ drop (next + size) cur) copy
    ∙ ap (λ l. take size (drop at bs) ++ l) later
    ∙ sym (append_assoc (take size (drop at bs)) (take (end - next) (drop next bs)) (drop (end + size) bs))
    ∙ ap (λ l. l ++ drop (end + size) bs) joined)

-- bytes put in where the moved ones began
pub put-moved_up : (at end : ℕ) (xs ys old zs new : List ℕ) → length xs ≡ at → at + length ys ≡ end
    → length old ≡ length new
    → put at (length new) new (moved_up at end (length new) (xs ++ (ys ++ (old ++ zs)))) ≡ xs ++ (new ++ (ys ++ zs))
unfolding moved_up
put-moved_up at end xs ys old zs new e f size =
    let bs : List ℕ = xs ++ (ys ++ (old ++ zs)) in
    let long : length bs ≡ at + (length ys + (length new + length zs)) =
    length-append xs (ys ++ (old ++ zs))
    ∙ ap₂ ◌+◌ e (length-append ys (old ++ zs)
    ∙ ap (λ n. length ys + n) (length-append old zs ∙ ap (λ n. n + length zs) size)) in
    let front : List ℕ = take (at + length new) bs in
    let width : length front ≡ at + length new = length-take-le (at + length new) bs (omega arith) in
    let count : length ys ≡ end - at = omega arith in
    let middle : take (end - at) (drop at bs) ≡ ys =
    ap (take (end - at)) (drop_at xs (ys ++ (old ++ zs)) at e) ∙ take_at ys (old ++ zs) (end - at) count in
    let whole : length ((xs ++ ys) ++ old) ≡ end + length new =
    length-append (xs ++ ys) old ∙ ap₂ ◌+◌ (length-append xs ys) size ∙ omega arith in
    let last : drop (end + length new) bs ≡ zs =
    ap (drop (end + length new)) (simp append_assoc)
    ∙ drop_at ((xs ++ ys) ++ old) zs (end + length new) whole in
    let moved : moved_up at end (length new) bs ≡ front ++ (ys ++ zs) = ap₂ (λ x y. front ++ (x ++ y)) middle last in
    ap (put at (length new) new) moved
    ∙ ap₂ (λ x y. x ++ (new ++ y))
    (take-append-le at front (ys ++ zs) (omega arith)
    ∙ take-take at (at + length new) bs (omega arith)
    ∙ take_at xs (ys ++ (old ++ zs)) at e)
    (drop_at front (ys ++ zs) (at + length new) width)

------------------------------------------------------------------------
-- the bytes around one section and its count

-- one of the counts, with those before and after
record CountsAround (n i : ℕ) (sections : List (List Entry)) : Type 0 where
  before : List ℕ
  after : List ℕ
  size : length before ≡ i
  rest : length after + (i + 1) ≡ n
  whole : counts_bytes n sections ≡ before ++ (bytes_of 1 (length (get_or sections i [])) ++ after)
  changed : (f : List Entry → List Entry)
      → counts_bytes n (update i f sections) ≡ before ++ (bytes_of 1 (length (f (get_or sections i []))) ++ after)

counts-around : (n i : ℕ) (sections : List (List Entry)) → i < n → i < length sections → CountsAround n i sections
unfolding counts_bytes update
counts-around zero i sections h k = absurd (omega arith)
counts-around (suc n) i [] h k = absurd (omega arith)
counts-around (suc n) zero (es ∷ sections) h k =
    record {
      before = [];
      after = counts_bytes n sections;
      size = refl;
      rest = omega (arith, length-counts_bytes n sections);
      whole = refl;
      changed = λ f. refl;
    }
counts-around (suc n) (suc i) (es ∷ sections) h k =
    let w : CountsAround n i sections = counts-around n i sections (omega arith) (omega arith) in
    let count : List ℕ = bytes_of 1 (length es) in
    record {
      before = count ++ w.before;
      after = w.after;
      size = length-append count w.before ∙ ap₂ ◌+◌ (length-bytes_of 1 (length es)) w.size ∙ omega arith;
      rest = omega (arith, w.rest);
      whole = ap (λ l. count ++ l) w.whole ∙ sym (append_assoc count w.before _);
      changed = λ f. ap (λ l. count ++ l) (w.changed f) ∙ sym (append_assoc count w.before _);
    }

-- one of the sections
record SectionsAround (n i : ℕ) (sections : List (List Entry)) : Type 0 where
  before : List ℕ
  after : List ℕ
  size : length before ≡ section_size * i
  whole : sections_bytes n sections ≡ before ++ (section_bytes (get_or sections i []) ++ after)
  changed : (f : List Entry → List Entry)
      → sections_bytes n (update i f sections) ≡ before ++ (section_bytes (f (get_or sections i [])) ++ after)

sections-around : (n i : ℕ) (sections : List (List Entry)) → i < n → i < length sections
    → ((k : ℕ) → length (get_or sections k []) ≤ section_room) → SectionsAround n i sections
unfolding sections_bytes update
sections-around zero i sections h k few = absurd (omega arith)
sections-around (suc n) i [] h k few = absurd (omega arith)
sections-around (suc n) zero (es ∷ sections) h k few =
    record { before = []; after = sections_bytes n sections; size = refl; whole = refl; changed = λ f. refl }
sections-around (suc n) (suc i) (es ∷ sections) h k few =
    let w : SectionsAround n i sections =
    sections-around n i sections (omega arith) (omega arith) (λ j. few (suc j)) in
    let first : List ℕ = section_bytes es in
    record {
      before = first ++ w.before;
      after = w.after;
      size = length-append first w.before ∙ ap₂ ◌+◌ (length-section_bytes es (few 0)) w.size ∙ omega arith;
      whole = ap (λ l. first ++ l) w.whole ∙ sym (append_assoc first w.before _);
      changed = λ f. ap (λ l. first ++ l) (w.changed f) ∙ sym (append_assoc first w.before _);
    }

-- the switch with one section changed
unfoldable pub changed_at : ℕ → (List Entry → List Entry) → Switch → Switch
changed_at i f s = record { ports = s.ports; clock = s.clock; sections = update i f s.sections }

-- its bytes differ only in the section and its count
record Around (s : Switch) (i : ℕ) : Type 0 where
  before : List ℕ
  between : List ℕ
  after : List ℕ
  to-count : length before ≡ 16 + i
  to-section : length between + (i + 1) ≡ 16 + section_size * i
  whole : encode s
      ≡ before ++ (bytes_of 1 (length (get_or s.sections i []))
      ++ (between ++ (section_bytes (get_or s.sections i []) ++ after)))
  changed : (f : List Entry → List Entry) → encode (changed_at i f s)
      ≡ before ++ (bytes_of 1 (length (f (get_or s.sections i [])))
      ++ (between ++ (section_bytes (f (get_or s.sections i [])) ++ after)))

-- layout number, N, clock and zeros
header : Switch → List ℕ
header s = bytes_of 4 layout_number ++ (bytes_of 4 s.ports ++ (bytes_of 4 s.clock ++ bytes_of 4 0))

encode-header : (s : Switch)
    → encode s ≡ header s ++ (counts_bytes port_limit s.sections ++ sections_bytes port_limit s.sections)
unfolding encode header bytes_of
encode-header s = refl

length-header : (s : Switch) → length (header s) ≡ 16
unfolding header bytes_of
length-header s = refl

regroup : (h b c a p q r : List ℕ)
    → h ++ ((b ++ (c ++ a)) ++ (p ++ (q ++ r))) ≡ (h ++ b) ++ (c ++ ((a ++ p) ++ (q ++ r)))
regroup h b c a p q r = simp append_assoc

encode-around : (s : Switch) (i : ℕ) → i < port_limit → i < length s.sections
    → ((k : ℕ) → length (get_or s.sections k []) ≤ section_room) → Around s i
unfolding changed_at header
encode-around s i h k few =
    let es : List Entry = get_or s.sections i [] in
    let c : CountsAround port_limit i s.sections = counts-around port_limit i s.sections h k in
    let p : SectionsAround port_limit i s.sections = sections-around port_limit i s.sections h k few in
    record {
      before = header s ++ c.before;
      between = c.after ++ p.before;
      after = p.after;
      to-count = length-append (header s) c.before ∙ ap₂ ◌+◌ (length-header s) c.size;
      to-section = omega (arith, length-append c.after p.before, c.rest, p.size);
      whole =
          encode-header s
          ∙ ap₂ (λ x y. header s ++ (x ++ y)) c.whole p.whole
          ∙ regroup (header s) c.before (bytes_of 1 (length es)) c.after p.before (section_bytes es) p.after;
      changed =
          λ f. encode-header (changed_at i f s)
          ∙ ap₂ (λ x y. header s ++ (x ++ y)) (c.changed f) (p.changed f)
          ∙ regroup (header s) c.before (bytes_of 1 (length (f es))) c.after p.before (section_bytes (f es))
          p.after;
    }

------------------------------------------------------------------------
-- a section with one more entry

zeros-more : (n a b : ℕ) → n ≡ a + b → replicate {A = ℕ} n 0 ≡ replicate a 0 ++ replicate b 0
zeros-more n a b e = ap (λ k. replicate k 0) e ∙ sym (replicate-append-replicate a b 0)

module _ (es : List Entry) (p : ℕ) (room : length es < section_room) where
  -- the zeros behind the new entry
  abbrev zeros_after : List ℕ
  zeros_after = replicate (section_size - entry_size * (length es + 1)) 0

  zeros-split : replicate (section_size - length (entries_bytes es)) 0 ≡ replicate entry_size 0 ++ zeros_after
  zeros-split =
      zeros-more (section_size - length (entries_bytes es)) entry_size (section_size - entry_size * (length es + 1))
      (omega (arith, length-entries_bytes es))

  section-old : section_bytes es
      ≡ entries_bytes (take p es) ++ (entries_bytes (drop p es) ++ (replicate entry_size 0 ++ zeros_after))
  unfolding section_bytes
  section-old =
      ap₂ ◌++◌ (ap entries_bytes (sym (take-append-drop p es)) ∙ entries_bytes-append (take p es) (drop p es)) zeros-split
      ∙ append_assoc (entries_bytes (take p es)) (entries_bytes (drop p es)) (replicate entry_size 0 ++ zeros_after)

  length-new : (e : Entry) → length (entries_bytes (take p es ++ e ∷ drop p es)) ≡ entry_size * (length es + 1)
  length-new e =
      let parts : length (take p es) + length (drop p es) ≡ length es =
      sym (length-append (take p es) (drop p es)) ∙ ap length (take-append-drop p es) in
      let all : length (take p es ++ e ∷ drop p es) ≡ length es + 1 =
      length-append (take p es) (e ∷ drop p es) ∙ omega arith in
      length-entries_bytes (take p es ++ e ∷ drop p es) ∙ ap (λ n. 16 * n) all

  section-new : (e : Entry) → section_bytes (take p es ++ e ∷ drop p es)
      ≡ entries_bytes (take p es) ++ (entry_bytes e ++ (entries_bytes (drop p es) ++ zeros_after))
  unfolding section_bytes entries_bytes
  section-new e =
      ap₂ (λ x n. x ++ replicate (section_size - n) 0) (entries_bytes-append (take p es) (e ∷ drop p es)) (length-new e)
      ∙ simp append_assoc

------------------------------------------------------------------------
-- the new entry in the table's bytes, and the count that it raises

insert-groups : (b n m w y z r a : List ℕ)
    → b ++ (n ++ (m ++ ((w ++ (y ++ (z ++ r))) ++ a))) ≡ (b ++ (n ++ (m ++ w))) ++ (y ++ (z ++ (r ++ a)))
insert-groups b n m w y z r a = simp append_assoc

insert_entry : (before between w y old z after new bs : List ℕ) (n m i from end : ℕ)
    → bs ≡ before ++ (bytes_of 1 n ++ (between ++ ((w ++ (y ++ (old ++ z))) ++ after)))
    → length before ≡ 16 + i → length before + (1 + (length between + length w)) ≡ from → from + length y ≡ end
    → length old ≡ length new → m < 256
    → set (put from (length new) new (moved_up from end (length new) bs)) (16 + i) m
    ≡ before ++ (bytes_of 1 m ++ (between ++ ((w ++ (new ++ (y ++ z))) ++ after)))
unfolding bytes_of
insert_entry before between w y old z after new bs n m i from end whole to-count to-entry to_end size small =
    let front : List ℕ = before ++ (bytes_of 1 n ++ (between ++ w)) in
    let width : length front ≡ from =
    length-append before (bytes_of 1 n ++ (between ++ w))
    ∙ ap (λ k. length before + k)
    (length-append (bytes_of 1 n) (between ++ w) ∙ ap (λ k. 1 + k) (length-append between w))
    ∙ to-entry in
    let put_in : put from (length new) new (moved_up from end (length new) bs) ≡ front ++ (new ++ (y ++ (z ++ after))) =
    ap (λ l. put from (length new) new (moved_up from end (length new) l))
    (whole ∙ insert-groups before (bytes_of 1 n) between w y old z after)
    ∙ put-moved_up from end front y old (z ++ after) new width to_end size in
    let byte : m ≡ m % 256 = omega arith in
    ap (λ l. set l (16 + i) m) (put_in ∙ sym (insert-groups before (bytes_of 1 n) between w new y z after))
    ∙ set_at before (n % 256) (between ++ ((w ++ (new ++ (y ++ z))) ++ after)) m (16 + i) to-count
    ∙ ap (λ b. before ++ b ∷ (between ++ ((w ++ (new ++ (y ++ z))) ++ after))) byte

-- an entry is put at a place of an input's section, by whatever it is that puts it there
module _ (bs : List ℕ) (t : IsTable bs) (i : ℕ) (within : i < ports_in bs) (room : count_in bs i < section_room) (place : ℕ)
    (low : place ≤ count_in bs i) (e : Entry) (f : List Entry → List Entry)
    (puts : f (section_in bs i) ≡ take place (section_in bs i) ++ e ∷ drop place (section_in bs i)) where
  abbrev here : List Entry
  here = section_in bs i

  size : length here ≡ count_in bs i
  size = section-length bs t i within

  here-short : length here < section_room
  here-short = omega (arith, size)

  around : Around (state_of bs) i
  around =
      let input : i < port_limit = omega (arith, ports-below bs t) in
      let inside : i < length (state_of bs).sections = omega (arith, sections-number bs t) in
      encode-around (state_of bs) i input inside (λ k. (section-sound bs t k).short)

  -- the bytes before the new entry's place and those that move up
  length_front : length (entries_bytes (take place here)) ≡ 16 * place
  length_front =
      length-entries_bytes (take place here) ∙ ap (λ k. 16 * k) (length-take-le place here (omega (arith, size)))

  length_back : length (entries_bytes (drop place here)) ≡ 16 * (length here - place)
  length_back = length-entries_bytes (drop place here) ∙ ap (λ k. 16 * k) (length-drop place here)

  whole-bytes : bs ≡ around.before ++ (bytes_of 1 (length here) ++ (around.between
      ++ ((entries_bytes (take place here) ++ (entries_bytes (drop place here)
      ++ (replicate entry_size 0 ++ zeros_after here place here-short))) ++ around.after)))
  whole-bytes =
      sym (table-encode bs t)
      ∙ around.whole
      ∙ ap (λ l. around.before ++ (bytes_of 1 (length here) ++ (around.between ++ (l ++ around.after))))
      (section-old here place here-short)

  changed-bytes : encode (changed_at i f (state_of bs))
      ≡ around.before ++ (bytes_of 1 (count_in bs i + 1) ++ (around.between
      ++ ((entries_bytes (take place here) ++ (entry_bytes e ++ (entries_bytes (drop place here)
      ++ zeros_after here place here-short))) ++ around.after)))
  changed-bytes =
      let raised : length (f here) ≡ count_in bs i + 1 =
      ap length puts
      ∙ length-append (take place here) (e ∷ drop place here)
      ∙ omega (arith, size, length-take-le place here (omega (arith, size)), length-drop place here) in
      around.changed f
      ∙ ap₂ (λ k l. around.before ++ (bytes_of 1 k ++ (around.between ++ (l ++ around.after)))) raised
      (ap section_bytes puts ∙ section-new here place here-short e)

  -- where the others have been moved up, and the count is raised
  pub inserted-bytes : (at count : ℕ) (moved new : List ℕ) → at ≡ section_room * i + place → count ≡ count_in bs i
      → moved ≡ moved_up (record_start at) (record_start (section_room * i + count)) entry_size bs
      → new ≡ put (record_start at) entry_size (entry_bytes e) moved
      → set new (16 + i) (count + 1) ≡ encode (changed_at i f (state_of bs))
  inserted-bytes at count moved new p q m n =
      let wide : length (entry_bytes e) ≡ entry_size = length-entry_bytes e in
      let end : ℕ = section_room * i + count in
      let to-entry : length around.before + (1 + (length around.between + length (entries_bytes (take place here))))
      ≡ record_start at =
      omega (arith, around.to-count, around.to-section, length_front) in
      let to_end : record_start at + length (entries_bytes (drop place here)) ≡ record_start end =
      omega (arith, length_back, size) in
      ap₂ (λ l k. set l (16 + i) (k + 1)) (n ∙ ap (put (record_start at) entry_size (entry_bytes e)) m) q
      ∙ ap (λ k. set (put (record_start at) k (entry_bytes e) (moved_up (record_start at) (record_start end) k bs)) (16 + i)
      (count_in bs i + 1)) (sym wide)
      ∙ insert_entry around.before around.between (entries_bytes (take place here))
      (entries_bytes (drop place here)) (replicate entry_size 0) (zeros_after here place here-short) around.after
      (entry_bytes e) bs (length here) (count_in bs i + 1) i (record_start at) (record_start end) whole-bytes
      around.to-count to-entry to_end (length-replicate {A = ℕ} entry_size 0 ∙ sym wide) (omega arith)
      ∙ sym changed-bytes
