-- Laws of the records of a table by number.
--     drop-take, number_at-part     a part of the bytes
--     entry_at-.., place_byte_at-byte  the fields of an entry are the bytes from its record's start on
--     between-nil, -cons, -mem      the numbers from one up to another
--     entries_between-, state_of-     the entries of a state by their numbers
use Prim.Native.Nat.{ℕ, zero, suc, ◌+◌, ◌*◌, ◌-◌, ◌/◌, ◌≤◌, ◌<◌}
use mathlib.Core.Bool.{Bool, true, false, ◌&&◌}
use mathlib.Core.Path.{◌≡◌, refl, sym, ◌∙◌, ap, ap₂, subst}
use mathlib.Core.List.{List, [], ◌∷◌, ◌++◌, map, map-append, Memᴰ}
use mathlib.Core.Logic.{◌⊎◌, inl, inr}
use native.Mathlib.Nat.{zero-add, suc-add, add-zero}
use native.Mathlib.Omega.{arith}
use borrow.Author.Tests.{eqb-true, eqb-false}
use lib.Dec.{eqb, lit≤}
use lib.ListN.{length, take, drop, get_or, length-map}
use lib.Seq.{take-take, drop-drop, take-nil, get_or-drop}
use Rattle.laws.specs.Lists.{all?, numbers_from, up_to, between}
use Rattle.laws.proofs.Tests.{either, and_l, and_r}
use Rattle.laws.proofs.Lists.{all?-map}
use Rattle.laws.proofs.Numbers.{mem-numbers_from, numbers_from-add, numbers_from-at}
pub use Rattle.laws.proofs.Numbers.{length-numbers_from}
use Rattle.cell.specs.Limits.{section_room}
use Rattle.model.specs.State.{Entry}
use Rattle.model.specs.Sound.{sound_section, sound_sections, sound}
use Rattle.layout.specs.Number.{number_of, number_at, word}
use Rattle.layout.specs.Table.{header_size, entry_size, section_size, place_of, entry_of, entries_of, sections_of}
use Rattle.layout.specs.Table.{state_of}
use Rattle.layout.specs.Entry.{entry_at, count_in}
use Rattle.layout.specs.Code.{record_start, record_at, place_byte_at, entries_between, first_record}
use Rattle.layout.specs.Code.{section_at}
use Rattle.layout.proofs.Halves.{number_at-byte}
use Rattle.layout.proofs.Table.{sound_section-size, sound-sections}

------------------------------------------------------------------------
-- a part of the bytes

drop-take : (n m : ℕ) (bs : List ℕ) → drop n (take (n + m) bs) ≡ take m (drop n bs)
drop-take zero m bs = rw zero-add
drop-take (suc n) m [] = rw suc-add (sym (take-nil m))
drop-take (suc n) m (b ∷ bs) = rw suc-add (drop-take n m bs)

-- a number within a part
pub number_at-part : (w at room start : ℕ) (bs : List ℕ) → at + w ≤ room
    → number_at w at (take room (drop start bs)) ≡ number_at w (start + at) bs
unfolding number_at
number_at-part w at room start bs h =
    let split : room ≡ at + (room - at) = omega arith in
    let less : w ≤ room - at = omega arith in
    ap number_of
    (ap (λ n. take w (drop at (take n (drop start bs)))) split
    ∙ ap (take w) (drop-take at (room - at) (drop start bs))
    ∙ take-take w (room - at) (drop at (drop start bs)) less
    ∙ ap (take w) (drop-drop at start bs))

------------------------------------------------------------------------
-- the fields of a record

module _ (bs : List ℕ) (k : ℕ) where
  pub record_at-number : (w at : ℕ) → at + w ≤ entry_size
      → number_at w at (record_at bs k) ≡ number_at w (record_start k + at) bs
  unfolding record_at
  record_at-number w at h = number_at-part w at entry_size (record_start k) bs h

  pub record_at-byte : (at : ℕ) → at + 1 ≤ entry_size → number_at 1 at (record_at bs k) ≡ get_or bs (record_start k + at) 0
  record_at-byte at h = record_at-number 1 at h ∙ number_at-byte (record_start k + at) bs

  record_at-word : (at : ℕ) → at + 4 ≤ entry_size → word (record_at bs k) at ≡ word bs (record_start k + at)
  unfolding word
  record_at-word at h = record_at-number 4 at h

  pub entry_at-output : (entry_at bs k).cell.output ≡ get_or bs (record_start k) 0
  unfolding entry_at entry_of record_at
  entry_at-output = record_at-byte 0 (lit≤ tt) ∙ ap (λ n. get_or bs n 0) (add-zero (record_start k))

  pub entry_at-flow : (entry_at bs k).cell.flow ≡ get_or bs (record_start k + 1) 0
  unfolding entry_at entry_of record_at
  entry_at-flow = record_at-byte 1 (lit≤ tt)

  pub place_byte_at-byte : place_byte_at bs k ≡ get_or bs (record_start k + 2) 0
  unfolding place_byte_at
  place_byte_at-byte = record_at-byte 2 (lit≤ tt)

  pub entry_at-place : (entry_at bs k).place ≡ place_of (place_byte_at bs k)
  unfolding entry_at entry_of place_byte_at record_at
  entry_at-place = refl

  pub entry_at-rank : (entry_at bs k).cell.rank ≡ word bs (record_start k + 4)
  unfolding entry_at entry_of record_at
  entry_at-rank = record_at-word 4 (lit≤ tt)

  pub entry_at-tag : (entry_at bs k).cell.tag ≡ word bs (record_start k + 8)
  unfolding entry_at entry_of record_at
  entry_at-tag = record_at-word 8 (lit≤ tt)

  pub entry_at-slot : (entry_at bs k).cell.slot ≡ word bs (record_start k + 12)
  unfolding entry_at entry_of record_at
  entry_at-slot = record_at-word 12 (lit≤ tt)

  pub entry_at-input : (entry_at bs k).cell.input ≡ k / 64
  unfolding entry_at entry_of record_at
  entry_at-input = refl

------------------------------------------------------------------------
-- the numbers from one up to another

pub between-nil : (from to : ℕ) → to ≤ from → between from to ≡ []
unfolding between numbers_from
between-nil from to h =
    let none : ◌≡◌ {A = ℕ} (to - from) 0 = omega arith in
    rw none

pub between_cons : (from to : ℕ) → from < to → between from to ≡ from ∷ between (from + 1) to
unfolding between numbers_from
between_cons from to h =
    let more : to - from ≡ suc (to - (from + 1)) = omega arith in
    rw more

pub between-mem : (from to : ℕ) {k : ℕ} → Memᴰ k (between from to) → (from ≤ k) × (k < to)
unfolding between
between-mem from to m = let b = mem-numbers_from from (to - from) m in (omega arith, omega arith)

-- what holds of all of them holds of each
numbers_from-each : (p : ℕ → Bool) (n from k : ℕ) → all? p (numbers_from from n) ≡ true → from ≤ k → k < from + n
    → p k ≡ true
unfolding all? numbers_from
numbers_from-each p zero from k h low high = absurd (omega arith)
numbers_from-each p (suc n) from k h low high =
    let others = all? p (numbers_from (from + 1) n) in
    go (and_l (p from) others h)
    (λ after. numbers_from-each p n (from + 1) k (and_r (p from) others h) after (omega arith))
    (either (eqb from k))
  where
    go : p from ≡ true → (from + 1 ≤ k → p k ≡ true) → (eqb from k ≡ true) ⊎ (eqb from k ≡ false) → p k ≡ true
    go here later (inl e) = ap p (sym (eqb-true from k e)) ∙ here
    go here later (inr e) = later (omega (arith, eqb-false))

pub between-each : (p : ℕ → Bool) (from to k : ℕ) → all? p (between from to) ≡ true → from ≤ k → k < to → p k ≡ true
unfolding between
between-each p from to k h low high = numbers_from-each p (to - from) from k h low (omega arith)

------------------------------------------------------------------------
-- the entries of the records from one up to another

pub entries_between-nil : (bs : List ℕ) (from to : ℕ) → to ≤ from → entries_between bs from to ≡ []
unfolding entries_between
entries_between-nil bs from to h = ap (map (entry_at bs)) (between-nil from to h)

pub entries_between-cons : (bs : List ℕ) (from to : ℕ) → from < to
    → entries_between bs from to ≡ entry_at bs from ∷ entries_between bs (from + 1) to
unfolding entries_between
entries_between-cons bs from to h = ap (map (entry_at bs)) (between_cons from to h)

-- in two parts
pub entries_between-split : (bs : List ℕ) (from k to : ℕ) → from ≤ k → k ≤ to
    → entries_between bs from to ≡ entries_between bs from k ++ entries_between bs k to
unfolding entries_between between
entries_between-split bs from k to low high =
    let whole : to - from ≡ (k - from) + (to - k) = omega arith in
    let start : from + (k - from) ≡ k = omega arith in
    ap (map (entry_at bs))
    (ap (numbers_from from) whole
    ∙ numbers_from-add from (k - from) (to - k)
    ∙ ap (λ j. numbers_from from (k - from) ++ numbers_from j (to - k)) start)
    ∙ map-append (entry_at bs) (numbers_from from (k - from)) (numbers_from k (to - k))

pub length-entries_between : (bs : List ℕ) (from to : ℕ) → length (entries_between bs from to) ≡ to - from
unfolding entries_between between
length-entries_between bs from to =
    length-map (numbers_from from (to - from)) (entry_at bs) ∙ length-numbers_from from (to - from)

pub all?-entries_between : (p : Entry → Bool) (bs : List ℕ) (from to : ℕ)
    → all? p (entries_between bs from to) ≡ all? (λ k. p (entry_at bs k)) (between from to)
unfolding entries_between
all?-entries_between p bs from to = all?-map p (entry_at bs) (between from to)

------------------------------------------------------------------------
-- the entries of a state by their numbers

-- so many entries of an input, from a record of its section on
entries_of-from : (bs : List ℕ) (i k n room : ℕ) → first_record i ≤ k → k + n ≤ first_record i + section_room
    → entry_size * n ≤ room → entries_of i n (take room (drop (record_start k) bs)) ≡ map (entry_at bs) (numbers_from k n)
unfolding entries_of numbers_from entry_at record_at
entries_of-from bs i k zero room low high fits = refl
entries_of-from bs i k (suc n) room low high fits =
    let one : entry_size ≤ room = omega arith in
    let input : i ≡ k / section_room = omega arith in
    let split : room ≡ entry_size + (room - entry_size) = omega arith in
    let next : record_start k + entry_size ≡ record_start (k + 1) = omega arith in
    ap₂ ◌∷◌
    (ap₂ entry_of input (take-take entry_size room (drop (record_start k) bs) one))
    (ap (λ m. entries_of i n (drop entry_size (take m (drop (record_start k) bs)))) split
    ∙ ap (entries_of i n) (drop-take entry_size (room - entry_size) (drop (record_start k) bs))
    ∙ ap (λ l. entries_of i n (take (room - entry_size) l)) (drop-drop entry_size (record_start k) bs)
    ∙ ap (λ m. entries_of i n (take (room - entry_size) (drop m bs))) next
    ∙ entries_of-from bs i (k + 1) n (room - entry_size) (omega arith) (omega arith) (omega arith))

length-entries_of : (i n : ℕ) (bs : List ℕ) → length (entries_of i n bs) ≡ n
unfolding entries_of
length-entries_of i zero bs = refl
length-entries_of i (suc n) bs = ap suc (length-entries_of i n (drop entry_size bs))

-- the section of an input, read from the bytes of the section
abbrev section_start : ℕ → ℕ
section_start i = header_size + section_size * i

module _ (bs : List ℕ) where
  entries_of-section : (i : ℕ) → count_in bs i ≤ section_room
      → entries_of i (count_in bs i) (take section_size (drop (section_start i) bs)) ≡ section_at bs i
  unfolding section_at entries_between between
  entries_of-section i few =
      let start : section_start i ≡ record_start (first_record i) = omega arith in
      let size : count_in bs i ≡ first_record i + count_in bs i - first_record i = omega arith in
      rw start
      (entries_of-from bs i (first_record i) (count_in bs i) section_size (omega arith) (omega arith) (omega arith)
      ∙ ap (λ n. map (entry_at bs) (numbers_from (first_record i) n)) size)

  count_in-number : (i : ℕ) → number_at 1 0 (drop (16 + i) bs) ≡ count_in bs i
  unfolding count_in
  count_in-number i =
      number_at-byte 0 (drop (16 + i) bs) ∙ get_or-drop (16 + i) bs 0 0 ∙ ap (λ n. get_or bs n 0) (add-zero (16 + i))

  -- the first of the sections, and the others
  sections_of-cons : (i n : ℕ) → sections_of i (suc n) (drop (16 + i) bs) (drop (section_start i) bs)
      ≡ entries_of i (count_in bs i) (take section_size (drop (section_start i) bs))
      ∷ sections_of (i + 1) n (drop (16 + (i + 1)) bs) (drop (section_start (i + 1)) bs)
  unfolding sections_of
  sections_of-cons i n =
      let count : 16 + i + 1 ≡ 16 + (i + 1) = omega arith in
      let section : section_start i + section_size ≡ section_start (i + 1) = omega arith in
      ap₂ ◌∷◌
      (ap (λ m. entries_of i m (take section_size (drop (section_start i) bs))) (count_in-number i))
      (ap₂ (sections_of (i + 1) n)
      (drop-drop 1 (16 + i) bs ∙ ap (λ m. drop m bs) count)
      (drop-drop section_size (section_start i) bs ∙ ap (λ m. drop m bs) section))

  -- so many sections, none with too many entries
  sections_of-records : (i n : ℕ) → ((j : ℕ) → i ≤ j → j < i + n → count_in bs j ≤ section_room)
      → sections_of i n (drop (16 + i) bs) (drop (section_start i) bs) ≡ map (section_at bs) (numbers_from i n)
  unfolding sections_of numbers_from
  sections_of-records i zero few = refl
  sections_of-records i (suc n) few =
      sections_of-cons i n
      ∙ ap₂ ◌∷◌ (entries_of-section i (few i (omega arith) (omega arith)))
      (sections_of-records (i + 1) n (λ j low high. few j (omega arith) (omega arith)))

  -- a sound section has not too many entries
  sound_sections-few : (ports clock n i : ℕ)
      → sound_sections ports clock i (sections_of i n (drop (16 + i) bs) (drop (section_start i) bs)) ≡ true
      → (j : ℕ) → i ≤ j → j < i + n → count_in bs j ≤ section_room
  unfolding sound_sections
  sound_sections-few ports clock zero i sounds j low high = absurd (omega arith)
  sound_sections-few ports clock (suc n) i sounds j low high =
      let es = entries_of i (count_in bs i) (take section_size (drop (section_start i) bs)) in
      let others = sections_of (i + 1) n (drop (16 + (i + 1)) bs) (drop (section_start (i + 1)) bs) in
      let all : (sound_section ports clock i es && sound_sections ports clock (i + 1) others) ≡ true =
      ap (sound_sections ports clock i) (sym (sections_of-cons i n)) ∙ sounds in
      let here : length es ≤ section_room = sound_section-size ports clock i es (and_l _ _ all) in
      go (omega (arith, length-entries_of i (count_in bs i) (take section_size (drop (section_start i) bs))))
      (λ after.
      sound_sections-few ports clock n (i + 1) (and_r (sound_section ports clock i es) _ all) j after (omega arith))
      (either (eqb i j))
    where
      go : count_in bs i ≤ section_room → (i + 1 ≤ j → count_in bs j ≤ section_room) → (eqb i j ≡ true) ⊎ (eqb i j ≡ false)
          → count_in bs j ≤ section_room
      go here later (inl e) = subst (λ k. count_in bs k ≤ section_room) (eqb-true i j e) here
      go here later (inr e) = later (omega (arith, eqb-false))

  -- the sections of the state that the bytes would stand for
  pub state_of-sections : ((i : ℕ) → i < word bs 4 → count_in bs i ≤ section_room)
      → (state_of bs).sections ≡ map (section_at bs) (up_to (word bs 4))
  unfolding state_of up_to
  state_of-sections few = sections_of-records 0 (word bs 4) (λ j low high. few j (omega arith))

  pub state_of-few : sound (state_of bs) ≡ true → (i : ℕ) → i < word bs 4 → count_in bs i ≤ section_room
  unfolding state_of
  state_of-few good i port =
      sound_sections-few (word bs 4) (word bs 8) (word bs 4) 0 (sound-sections (state_of bs) good) i (omega arith)
      (omega arith)

  -- and their entries, one by one
  pub state_of-entry : (i j : ℕ) (e : Entry) → ((i : ℕ) → i < word bs 4 → count_in bs i ≤ section_room) → i < word bs 4
      → j < count_in bs i → get_or (get_or (state_of bs).sections i []) j e ≡ entry_at bs (first_record i + j)
  unfolding section_at entries_between between up_to
  state_of-entry i j e few port within =
      let section : get_or (state_of bs).sections i [] ≡ section_at bs i =
      ap (λ l. get_or l i []) (state_of-sections few)
      ∙ numbers_from-at (section_at bs) 0 (word bs 4) i [] port
      ∙ ap (section_at bs) (zero-add i) in
      ap (λ l. get_or l j e) section
      ∙ numbers_from-at (entry_at bs) (first_record i) (first_record i + count_in bs i - first_record i) j e (omega arith)
