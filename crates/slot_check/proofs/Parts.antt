-- When bytes are a table: exactly if the header is right and every section is, record by record.
use Prim.Native.Nat.{ℕ, zero, suc, pred, ◌+◌, ◌*◌, ◌-◌, ◌/◌, ◌%◌, ◌≤◌, ◌<◌}
use mathlib.Core.Bool.{Bool, true, false, cond}
use mathlib.Core.Path.{◌≡◌, refl, sym, ◌∙◌, ap, ap₂, subst}
use mathlib.Core.Logic.{◌⊎◌, inl, inr}
use mathlib.Core.List.{List, [], ◌∷◌, ◌++◌, map, Memᴰ}
use native.Mathlib.Omega.{arith}
use borrow.Author.Tests.{leb-true, eqb-true, le-leb, lt-ltb, le-ltb, eqb-false}
use lib.Dec.{ltb, leb, eqb}
use lib.ListN.{length, take, drop, get_or, replicate, length-append, length-drop, take-append-drop, replicate-append-replicate, length-map, drop_of_length-le}
use lib.Seq.{take-add, drop-drop, drop-cons, length-take-le}
use Rattle.laws.specs.Lists.{keep, all?, pairwise, numbers_from, between}
use Rattle.laws.proofs.Tests.{either, and_i, and_l, and_r}
use Rattle.laws.proofs.Lists.{all?-i, all?-e, all?-mono}
use Rattle.laws.proofs.Numbers.{length-numbers_from}
use Rattle.cell.specs.Limits.{section_room, port_limit}
use Rattle.model.specs.State.{Entry, is_listed}
use Rattle.model.proofs.Shapes.{append-split}
use Rattle.model.specs.Sound.{sound_entry, sound_section, sound_sections, together, other_slot, other_crosspoint}
use Rattle.layout.specs.Number.{bytes_of, same_bytes}
use Rattle.layout.specs.Table.{header_size, entry_size, section_size, table_size, entry_bytes, entries_bytes, section_bytes, sections_bytes, counts_bytes}
use Rattle.layout.specs.Entry.{entry_at, count_in}
use Rattle.layout.specs.Code.{record_start, record_at, entries_between, first_record, section_at}
use Rattle.slot_section.specs.Code.{is_entry, is_unused}
use Rattle.slot_check.specs.Code.{room_of, are_sound, is_section}
use Rattle.layout.proofs.Number.{length-bytes_of, same_bytes-refl, same_bytes-exact}
use Rattle.layout.proofs.Records.{between-mem, between-nil, length-entries_between, all?-entries_between}
use Rattle.layout.proofs.Table.{length-entry_bytes, length-entries_bytes, length-section_bytes, sound_section-size}
use Rattle.slot_section.proofs.Fields.{length-record_at}

------------------------------------------------------------------------
-- bytes one behind the other

-- what each number stands for
joined : (ℕ → List ℕ) → List ℕ → List ℕ
joined f [] = []
joined f (k ∷ ks) = f k ++ joined f ks

------------------------------------------------------------------------
-- so many records

module _ (bs : List ℕ) where
  abbrev pub records_at : ℕ → ℕ → List ℕ
  records_at k n = take (entry_size * n) (drop (record_start k) bs)

  records_at-add : (k n m : ℕ) → records_at k (n + m) ≡ records_at k n ++ records_at (k + n) m
  records_at-add k n m =
      let size : entry_size * (n + m) ≡ entry_size * n + entry_size * m = omega arith in
      let next : record_start k + entry_size * n ≡ record_start (k + n) = omega arith in
      ap (λ w. take w (drop (record_start k) bs)) size
      ∙ take-add (entry_size * n) (entry_size * m) (drop (record_start k) bs)
      ∙ ap (λ l. records_at k n ++ take (entry_size * m) l) (drop-drop (entry_size * n) (record_start k) bs)
      ∙ ap (λ w. records_at k n ++ take (entry_size * m) (drop w bs)) next

  records_at-suc : (k n : ℕ) → records_at k (suc n) ≡ record_at bs k ++ records_at (k + 1) n
  unfolding record_at
  records_at-suc k n =
      let more : suc n ≡ 1 + n = omega arith in
      ap (records_at k) more ∙ records_at-add k 1 n

  length-records_at : (k n : ℕ) → record_start (k + n) ≤ length bs → length (records_at k n) ≡ entry_size * n
  length-records_at k n room = length-take-le (entry_size * n) (drop (record_start k) bs) (simp length-drop (omega arith))

  length-joined : (f : ℕ → List ℕ) (k n : ℕ) → ((j : ℕ) → length (f j) ≡ entry_size)
      → length (joined f (numbers_from k n)) ≡ entry_size * n
  unfolding joined numbers_from
  length-joined f k zero size = refl
  length-joined f k (suc n) size =
      length-append (f k) (joined f (numbers_from (k + 1) n))
      ∙ ap₂ ◌+◌ (size k) (length-joined f (k + 1) n size)
      ∙ omega arith

  -- the records are what each number stands for, record by record
  joined-i : (f : ℕ → List ℕ) (k n : ℕ) → all? (λ k. same_bytes (f k) (record_at bs k)) (numbers_from k n) ≡ true
      → joined f (numbers_from k n) ≡ records_at k n
  unfolding joined numbers_from all?
  joined-i f k zero h = refl
  joined-i f k (suc n) h =
      let here : same_bytes (f k) (record_at bs k) ≡ true = search and_l in
      let later : all? (λ k. same_bytes (f k) (record_at bs k)) (numbers_from (k + 1) n) ≡ true = search and_r in
      ap₂ ◌++◌ (same_bytes-exact (f k) (record_at bs k) here) (joined-i f (k + 1) n later) ∙ sym (records_at-suc k n)

  joined-e : (f : ℕ → List ℕ) (k n : ℕ) → ((j : ℕ) → length (f j) ≡ entry_size) → record_start (k + n) ≤ length bs
      → joined f (numbers_from k n) ≡ records_at k n
      → all? (λ k. same_bytes (f k) (record_at bs k)) (numbers_from k n) ≡ true
  unfolding joined numbers_from all?
  joined-e f k zero size room e = refl
  joined-e f k (suc n) size room e =
      let parts =
      append-split (f k) (joined f (numbers_from (k + 1) n)) (record_at bs k) (records_at (k + 1) n)
      (size k ∙ sym (length-record_at bs k (omega arith))) (e ∙ records_at-suc k n) in
      and_i (same_bytes (f k) (record_at bs k)) _
      (ap (λ l. same_bytes (f k) l) (sym parts.0) ∙ same_bytes-refl (f k))
      (joined-e f (k + 1) n size (omega arith) parts.1)

  ------------------------------------------------------------------------
  -- a section

  -- what an entry and what an unused record is written as
  abbrev entry_of-at : ℕ → List ℕ
  entry_of-at k = entry_bytes (entry_at bs k)

  abbrev zeros : ℕ → List ℕ
  zeros k = replicate entry_size 0

  entries_bytes-joined : (ks : List ℕ) → entries_bytes (map (entry_at bs) ks) ≡ joined entry_of-at ks
  unfolding entries_bytes joined
  entries_bytes-joined [] = refl
  entries_bytes-joined (k ∷ ks) = ap (λ l. entry_of-at k ++ l) (entries_bytes-joined ks)

  zeros-joined : (k n : ℕ) → replicate (entry_size * n) 0 ≡ joined zeros (numbers_from k n)
  unfolding joined numbers_from
  zeros-joined k zero = refl
  zeros-joined k (suc n) =
      let more : entry_size * suc n ≡ entry_size + entry_size * n = omega arith in
      ap (λ m. replicate m 0) more
      ∙ sym (replicate-append-replicate entry_size (entry_size * n) 0)
      ∙ ap (λ l. replicate entry_size 0 ++ l) (zeros-joined (k + 1) n)

  section_bytes-joined : (k n m : ℕ) → n + m ≡ section_room
      → section_bytes (map (entry_at bs) (numbers_from k n))
      ≡ joined entry_of-at (numbers_from k n) ++ joined zeros (numbers_from (k + n) m)
  unfolding section_bytes
  section_bytes-joined k n m all =
      let es = map (entry_at bs) (numbers_from k n) in
      let count : length es ≡ n = length-map (numbers_from k n) (entry_at bs) ∙ length-numbers_from k n in
      let size : length (entries_bytes es) ≡ entry_size * n = length-entries_bytes es ∙ ap (λ n. entry_size * n) count in
      let rest : section_size - length (entries_bytes es) ≡ entry_size * m = omega arith in
      ap₂ ◌++◌ (entries_bytes-joined (numbers_from k n)) (ap (λ n. replicate n 0) rest ∙ zeros-joined (k + n) m)

  -- the section of an input that may have so many entries
  module _ (i : ℕ) (few : count_in bs i ≤ section_room) where
    abbrev first : ℕ
    first = first_record i

    abbrev end : ℕ
    end = first_record i + count_in bs i

    abbrev last : ℕ
    last = first_record i + section_room

    used : end - first ≡ count_in bs i
    used = omega arith

    unused : last - end ≡ section_room - count_in bs i
    unused = omega arith

    section_bytes-at : section_bytes (section_at bs i)
        ≡ joined entry_of-at (between first end) ++ joined zeros (between end last)
    unfolding section_at entries_between between
    section_bytes-at =
        rw (used, unused) (section_bytes-joined first (count_in bs i) (section_room - count_in bs i) (omega arith))

    records-split : records_at first section_room ≡ records_at first (end - first) ++ records_at end (last - end)
    records-split =
        let all : section_room ≡ count_in bs i + (section_room - count_in bs i) = omega arith in
        rw (used, unused) (ap (records_at first) all ∙ records_at-add first (count_in bs i) (section_room - count_in bs i))

    -- its bytes are right exactly if each record is: an entry's or an unused one's
    section-i : all? (λ k. same_bytes (entry_of-at k) (record_at bs k)) (between first end) ≡ true
        → all? (is_unused bs) (between end last) ≡ true → section_bytes (section_at bs i) ≡ records_at first section_room
    unfolding between is_unused
    section-i entries rest =
        section_bytes-at
        ∙ ap₂ ◌++◌ (joined-i entry_of-at first (end - first) entries) (joined-i zeros end (last - end) rest)
        ∙ sym records-split

    section-e : record_start last ≤ length bs → section_bytes (section_at bs i) ≡ records_at first section_room
        → (all? (λ k. same_bytes (entry_of-at k) (record_at bs k)) (between first end) ≡ true)
        × (all? (is_unused bs) (between end last) ≡ true)
    unfolding between is_unused
    section-e room e =
        let parts =
        append-split (joined entry_of-at (between first end)) (joined zeros (between end last))
        (records_at first (end - first)) (records_at end (last - end))
        (length-joined entry_of-at first (end - first) (λ k. length-entry_bytes (entry_at bs k))
        ∙ sym (length-records_at first (end - first) (omega arith))) (sym section_bytes-at ∙ e ∙ records-split) in (
          joined-e entry_of-at first (end - first) (λ k. length-entry_bytes (entry_at bs k)) (omega arith) parts.0,
          joined-e zeros end (last - end) (λ k. refl) (omega arith) parts.1,
        )

pub room_of-le : (ports i n : ℕ) → n ≤ room_of ports i → n ≤ section_room
unfolding room_of
room_of-le ports i n h = go (ltb i ports) refl h
  where
    go : (b : Bool) → ltb i ports ≡ b → n ≤ cond b section_room 0 → n ≤ section_room
    go true e h = h
    go false e h = omega arith

pub room_of-none : (ports i : ℕ) → ports ≤ i → ◌≡◌ {A = ℕ} (room_of ports i) 0
unfolding room_of
room_of-none ports i h = rw (le-ltb i ports h)

pub room_of-port : (ports i : ℕ) → i < ports → room_of ports i ≡ section_room
unfolding room_of
room_of-port ports i h = rw (lt-ltb i ports h)

-- what is asked of a section, one by one
record Asked (ports clock : ℕ) (bs : List ℕ) (i : ℕ) : Type 0 where
  count : count_in bs i ≤ room_of ports i
  entries : all? (is_entry ports clock bs) (between (first_record i) (first_record i + count_in bs i)) ≡ true
  unused : all? (is_unused bs) (between (first_record i + count_in bs i) (first_record i + section_room)) ≡ true
  lists : together ports (keep (λ e. is_listed e.place) (section_at bs i)) ≡ true
  slots : pairwise other_slot (section_at bs i) ≡ true
  crosspoints : pairwise other_crosspoint (section_at bs i) ≡ true

module _ (ports clock : ℕ) (bs : List ℕ) (i : ℕ) where
  is_section-asked : is_section ports clock bs i ≡ true → Asked ports clock bs i
  unfolding is_section are_sound section_at
  is_section-asked h =
      let count : leb (count_in bs i) (room_of ports i) ≡ true = search and_l in
      record {
        count = leb-true (count_in bs i) (room_of ports i) count;
        entries = search (and_l, and_r);
        unused = search (and_l, and_r);
        lists = search (and_l, and_r) depth 7;
        slots = search (and_l, and_r) depth 7;
        crosspoints = search (and_l, and_r) depth 7;
      }

  asked-is_section : Asked ports clock bs i → is_section ports clock bs i ≡ true
  unfolding is_section are_sound section_at
  asked-is_section q =
      and_i _ _ (le-leb (count_in bs i) (room_of ports i) q.count)
      (and_i _ _ q.unused (and_i _ _ q.entries (and_i _ _ q.slots (and_i _ _ q.crosspoints q.lists))))

-- what a section of a table is: it has room for its entries, its bytes are theirs, and they are sound
pub record Section (ports clock : ℕ) (bs : List ℕ) (i : ℕ) : Type 0 where
  pub few : count_in bs i ≤ room_of ports i
  pub exact : section_bytes (section_at bs i) ≡ records_at bs (first_record i) section_room
  pub sound : sound_section ports clock i (section_at bs i) ≡ true

module _ (ports clock : ℕ) (bs : List ℕ) (size : length bs ≡ table_size) (i : ℕ) (port : i < port_limit) where
  abbrev here : ℕ
  here = first_record i

  abbrev next : ℕ
  next = first_record i + count_in bs i

  -- the entries that are sound in their section
  abbrev sound_at : ℕ → Bool
  sound_at k = sound_entry ports clock i (entry_at bs k)

  input-at : (k : ℕ) → count_in bs i ≤ section_room → Memᴰ k (between here next) → k / section_room ≡ i
  input-at k few m = let b = between-mem here next m in omega arith

  -- an entry is one of a table exactly if its bytes are its record and it is sound
  entries-i : count_in bs i ≤ section_room
      → all? (λ k. same_bytes (entry_of-at bs k) (record_at bs k)) (between here next) ≡ true
      → all? sound_at (between here next) ≡ true → all? (is_entry ports clock bs) (between here next) ≡ true
  unfolding is_entry
  entries-i few exact sounds =
      all?-i (is_entry ports clock bs) (between here next)
      (λ k m. and_i _ _ (all?-e _ exact m) (rw (input-at k few m) (all?-e sound_at sounds m)))

  entries-exact : all? (is_entry ports clock bs) (between here next) ≡ true
      → all? (λ k. same_bytes (entry_of-at bs k) (record_at bs k)) (between here next) ≡ true
  unfolding is_entry
  entries-exact h = all?-mono (is_entry ports clock bs) _ (between here next) (λ k m e. and_l _ _ e) h

  entries-sound : count_in bs i ≤ section_room → all? (is_entry ports clock bs) (between here next) ≡ true
      → all? sound_at (between here next) ≡ true
  unfolding is_entry
  entries-sound few h =
      all?-mono (is_entry ports clock bs) sound_at (between here next)
      (λ k m e. ap (λ i. sound_entry ports clock i (entry_at bs k)) (sym (input-at k few m))
      ∙ and_r (same_bytes (entry_of-at bs k) (record_at bs k)) _ e) h

  pub is_section-i : Section ports clock bs i → is_section ports clock bs i ≡ true
  unfolding sound_section section_at
  is_section-i s =
      let few : count_in bs i ≤ section_room = room_of-le ports i (count_in bs i) s.few in
      let bytes = section-e bs i few (omega arith) s.exact in
      let asked : sound_section ports clock i (section_at bs i) ≡ true = s.sound in
      let sounds : all? (sound_entry ports clock i) (entries_between bs here next) ≡ true = search (and_l, and_r) in
      asked-is_section ports clock bs i
      (record {
        count = s.few;
        entries = entries-i few bytes.0 (sym (all?-entries_between (sound_entry ports clock i) bs here next) ∙ sounds);
        unused = bytes.1;
        lists = search (and_l, and_r);
        slots = search (and_l, and_r) depth 7;
        crosspoints = search (and_l, and_r) depth 7;
      })

  pub is_section-e : is_section ports clock bs i ≡ true → Section ports clock bs i
  unfolding sound_section section_at
  is_section-e h =
      let q = is_section-asked ports clock bs i h in
      let few : count_in bs i ≤ section_room = room_of-le ports i (count_in bs i) q.count in
      let size : length (section_at bs i) ≤ section_room = omega (arith, length-entries_between bs here next) in
      let sounds : all? (sound_entry ports clock i) (entries_between bs here next) ≡ true =
      all?-entries_between (sound_entry ports clock i) bs here next ∙ entries-sound few q.entries in
      record {
        few = q.count;
        exact = section-i bs i few (entries-exact q.entries) q.unused;
        sound =
            and_i _ _ (le-leb (length (section_at bs i)) section_room size)
            (and_i _ _ sounds (and_i _ _ q.lists (and_i _ _ q.slots q.crosspoints)));
      }

------------------------------------------------------------------------
-- the counts and the sections of the whole table

abbrev pub section_start : ℕ → ℕ
section_start i = header_size + section_size * i

module _ (ports clock : ℕ) (bs : List ℕ) (size : length bs ≡ table_size) where
  abbrev pub sections_from : ℕ → ℕ → List (List Entry)
  sections_from i n = map (section_at bs) (numbers_from i n)

  -- the count of an input, and those behind it
  count-cons : (i n : ℕ) → i < port_limit
      → take (suc n) (drop (16 + i) bs) ≡ count_in bs i ∷ take n (drop (16 + (i + 1)) bs)
  unfolding count_in
  count-cons i n port =
      let within : 16 + i < length bs = omega arith in
      let next : suc (16 + i) ≡ 16 + (i + 1) = omega arith in
      ap (take (suc n)) (drop-cons bs (16 + i) 0 within) ∙ ap (λ k. get_or bs (16 + i) 0 ∷ take n (drop k bs)) next

  -- the records of an input, and those behind it
  section-cons : (i : ℕ)
      → records_at bs (first_record i) section_room ++ drop (section_start (i + 1)) bs ≡ drop (section_start i) bs
  section-cons i =
      let start : record_start (first_record i) ≡ section_start i = omega arith in
      let next : section_start i + section_size ≡ section_start (i + 1) = omega arith in
      rw (start, ← next, ← drop-drop section_size (section_start i) bs)
      (take-append-drop section_size (drop (section_start i) bs))

  length-section_at : (i : ℕ) → length (section_at bs i) ≡ count_in bs i
  unfolding section_at
  length-section_at i = length-entries_between bs (first_record i) (first_record i + count_in bs i) ∙ omega arith

  section_at-nil : (i : ℕ) → ◌≡◌ {A = ℕ} (count_in bs i) 0 → section_at bs i ≡ []
  unfolding section_at entries_between
  section_at-nil i e = ap (map (entry_at bs)) (between-nil (first_record i) (first_record i + count_in bs i) (omega arith))

  byte_one : (n : ℕ) → n ≤ section_room → bytes_of 1 n ≡ n ∷ []
  unfolding bytes_of
  byte_one n h =
      let same : n % 256 ≡ n = omega arith in
      ap (λ b. b ∷ []) same

  -- the first of the sections, where an input that the switch does not have has no entries
  counts_bytes-cons : (n i m : ℕ) → (◌≡◌ {A = ℕ} m 0 → ◌≡◌ {A = ℕ} (count_in bs i) 0)
      → counts_bytes (suc n) (sections_from i m)
      ≡ bytes_of 1 (count_in bs i) ++ counts_bytes n (sections_from (i + 1) (pred m))
  unfolding counts_bytes numbers_from
  counts_bytes-cons n i zero empty = ap (λ c. bytes_of 1 c ++ counts_bytes n []) (sym (empty refl))
  counts_bytes-cons n i (suc m) empty =
      ap (λ c. bytes_of 1 c ++ counts_bytes n (sections_from (i + 1) m)) (length-section_at i)

  sections_bytes-cons : (n i m : ℕ) → (◌≡◌ {A = ℕ} m 0 → ◌≡◌ {A = ℕ} (count_in bs i) 0)
      → sections_bytes (suc n) (sections_from i m)
      ≡ section_bytes (section_at bs i) ++ sections_bytes n (sections_from (i + 1) (pred m))
  unfolding sections_bytes numbers_from
  sections_bytes-cons n i zero empty =
      ap (λ es. section_bytes es ++ sections_bytes n []) (sym (section_at-nil i (empty refl)))
  sections_bytes-cons n i (suc m) empty = refl

  -- from the sections to the bytes
  module _ (rows : (i : ℕ) → i < port_limit → Section ports clock bs i) where
    none-i : (i m : ℕ) → i < port_limit → m ≡ ports - i → ◌≡◌ {A = ℕ} m 0 → ◌≡◌ {A = ℕ} (count_in bs i) 0
    none-i i m port rest empty =
        let few : count_in bs i ≤ room_of ports i = (rows i port).few in
        omega (arith, room_of-none ports i (omega arith))

    pub counts-i : (n i m : ℕ) → i + n ≡ port_limit → m ≡ ports - i
        → counts_bytes n (sections_from i m) ≡ take n (drop (16 + i) bs)
    unfolding counts_bytes
    counts-i zero i m all rest = refl
    counts-i (suc n) i m all rest =
        let port : i < port_limit = omega arith in
        let few : count_in bs i ≤ section_room = room_of-le ports i (count_in bs i) (rows i port).few in
        counts_bytes-cons n i m (none-i i m port rest)
        ∙ ap₂ ◌++◌ (byte_one (count_in bs i) few) (counts-i n (i + 1) (pred m) (omega arith) (omega arith))
        ∙ sym (count-cons i n port)

    pub sections-i : (n i m : ℕ) → i + n ≡ port_limit → m ≡ ports - i
        → sections_bytes n (sections_from i m) ≡ drop (section_start i) bs
    unfolding sections_bytes
    sections-i zero i m all rest =
        let end : length bs ≤ section_start i = omega arith in
        sym (drop_of_length-le bs end)
    sections-i (suc n) i m all rest =
        let port : i < port_limit = omega arith in
        sections_bytes-cons n i m (none-i i m port rest)
        ∙ ap₂ ◌++◌ (rows i port).exact (sections-i n (i + 1) (pred m) (omega arith) (omega arith))
        ∙ section-cons i

    pub sounds-i : (m i : ℕ) → i + m ≤ port_limit → sound_sections ports clock i (sections_from i m) ≡ true
    unfolding sound_sections numbers_from
    sounds-i zero i within = refl
    sounds-i (suc m) i within =
        and_i (sound_section ports clock i (section_at bs i)) (sound_sections ports clock (i + 1) (sections_from (i + 1) m))
        (rows i (omega arith)).sound (sounds-i m (i + 1) (omega arith))

  -- and back, the first section first
  none-e : (n i m : ℕ) → i < port_limit → counts_bytes (suc n) (sections_from i m) ≡ take (suc n) (drop (16 + i) bs)
      → ◌≡◌ {A = ℕ} m 0 → ◌≡◌ {A = ℕ} (count_in bs i) 0
  unfolding counts_bytes numbers_from bytes_of
  none-e n i zero port counts empty = sym (ap (λ l. get_or l 0 0) (counts ∙ count-cons i n port))
  none-e n i (suc m) port counts empty = absurd (omega arith)

  few-e : (i m : ℕ) → (◌≡◌ {A = ℕ} m 0 → ◌≡◌ {A = ℕ} (count_in bs i) 0) → m ≡ ports - i
      → sound_sections ports clock i (sections_from i m) ≡ true → count_in bs i ≤ room_of ports i
  unfolding sound_sections numbers_from
  few-e i zero empty rest sounds = omega (arith, empty refl)
  few-e i (suc m) empty rest sounds =
      let es = section_at bs i in
      let few : length es ≤ section_room = sound_section-size ports clock i es (and_l _ _ sounds) in
      omega (arith, room_of-port ports i (omega arith), length-section_at i)

  sound-e : (i m : ℕ) → (◌≡◌ {A = ℕ} m 0 → ◌≡◌ {A = ℕ} (count_in bs i) 0)
      → sound_sections ports clock i (sections_from i m) ≡ true → sound_section ports clock i (section_at bs i) ≡ true
  unfolding sound_sections sound_section numbers_from all? together keep pairwise
  sound-e i zero empty sounds = rw (section_at-nil i (empty refl))
  sound-e i (suc m) empty sounds = and_l (sound_section ports clock i (section_at bs i)) _ sounds

  later-e : (i m : ℕ) → sound_sections ports clock i (sections_from i m) ≡ true
      → sound_sections ports clock (i + 1) (sections_from (i + 1) (pred m)) ≡ true
  unfolding sound_sections numbers_from
  later-e i zero sounds = refl
  later-e i (suc m) sounds = and_r (sound_section ports clock i (section_at bs i)) _ sounds

  pub rows-e : (n i m : ℕ) → i + n ≡ port_limit → m ≡ ports - i
      → counts_bytes n (sections_from i m) ≡ take n (drop (16 + i) bs)
      → sections_bytes n (sections_from i m) ≡ drop (section_start i) bs
      → sound_sections ports clock i (sections_from i m) ≡ true → (j : ℕ) → i ≤ j → j < port_limit
      → Section ports clock bs j
  rows-e zero i m all rest counts sections sounds j low high = absurd (omega arith)
  rows-e (suc n) i m all rest counts sections sounds j low high =
      let port : i < port_limit = omega arith in
      let empty : ◌≡◌ {A = ℕ} m 0 → ◌≡◌ {A = ℕ} (count_in bs i) 0 = none-e n i m port counts in
      let room : count_in bs i ≤ room_of ports i = few-e i m empty rest sounds in
      let few : count_in bs i ≤ section_room = room_of-le ports i (count_in bs i) room in
      let es = section_at bs i in
      let whole : length (section_bytes es) ≡ section_size = length-section_bytes es (omega (arith, length-section_at i)) in
      let bytes =
      append-split (section_bytes (section_at bs i)) (sections_bytes n (sections_from (i + 1) (pred m)))
      (records_at bs (first_record i) section_room) (drop (section_start (i + 1)) bs)
      (whole ∙ sym (length-records_at bs (first_record i) section_room (omega arith)))
      (sym (sections_bytes-cons n i m empty) ∙ sections ∙ sym (section-cons i)) in
      let numbers =
      append-split (bytes_of 1 (count_in bs i)) (counts_bytes n (sections_from (i + 1) (pred m))) (count_in bs i ∷ [])
      (take n (drop (16 + (i + 1)) bs)) (length-bytes_of 1 (count_in bs i))
      (sym (counts_bytes-cons n i m empty) ∙ counts ∙ count-cons i n port) in
      let here : Section ports clock bs i = record { few = room; exact = bytes.0; sound = sound-e i m empty sounds } in
      let later : i + 1 ≤ j → Section ports clock bs j =
      λ after.
      rows-e n (i + 1) (pred m) (omega arith) (omega arith) numbers.1 bytes.1 (later-e i m sounds) j after high in
      go here later (either (eqb i j))
    where
      go : Section ports clock bs i → (i + 1 ≤ j → Section ports clock bs j) → (eqb i j ≡ true) ⊎ (eqb i j ≡ false)
          → Section ports clock bs j
      go here later (inl e) = subst (Section ports clock bs) (eqb-true i j e) here
      go here later (inr e) = later (omega (arith, eqb-false))
