-- The sections of a table whose places stand in a column.
--     in_table-waiting      the waiting cells of the sections are those of the view
--     decode-..            what the table of a state says of it
--     sections_placed-same  where the column has the table's own places, they are the sections of its state
use Prim.Native.Nat.{ℕ, zero, suc, ◌+◌, ◌*◌, ◌-◌, ◌/◌, ◌≤◌, ◌<◌}
use native.Mathlib.Omega.{arith}
use mathlib.Core.Path.{◌≡◌, refl, sym, ◌∙◌, ap, ap₂, fun_ext}
use mathlib.Core.List.{List, [], ◌∷◌, ◌++◌, map, flatten, Memᴰ}
use mathlib.Core.Option.{some}
use borrow.Author.Tests.{ltb-true}
use lib.ListN.{length, get_or}
use lib.Seq.{get_or-drop}
use Rattle.laws.specs.Lists.{numbers_from, up_to, between}
use Rattle.laws.proofs.Numbers.{numbers_from-mem, numbers_from-at}
use Rattle.cell.specs.Limits.{section_room, port_limit}
use Rattle.model.specs.State.{Entry, Switch}
use Rattle.model.specs.Phase.{number_from, number_sections, numbered, waiting}
use Rattle.model.proofs.SoundLaws.{SoundEntry, sections-e}
use Rattle.layout.specs.Number.{bytes_of, number_at, word}
use Rattle.layout.specs.Table.{place_byte, place_of, entry_bytes, counts_bytes, sections_bytes, encode, state_of, decode}
use Rattle.layout.specs.Entry.{entry_at, clock_in, count_in}
use Rattle.layout.specs.Code.{record_at, place_byte_at, entries_between, section_at, ports_in}
use Rattle.layout.proofs.Table.{decode-length, encode-counts, encode-decode}
use Rattle.layout.proofs.Number.{fits32-below}
use Rattle.layout.proofs.Table.{decode-sound, decode-state, entry_bytes-place, sound-ports, sound-some, sound-clock, sound-sections}
use Rattle.layout.proofs.Records.{entry_at-place, state_of-sections}
use Rattle.slot_view.specs.CodeView.{waiting_at, window, in_table, InTable}
use Rattle.slot_view.specs.CodeScan.{Readable}
use Rattle.slot_view.proofs.Bytes.{record_at-encode}
use Rattle.slot_view.proofs.Window.{in_table-section}
use Rattle.slot_view.specs.CodeSections.{entry_placed, section_placed, sections_placed}

------------------------------------------------------------------------
-- a list made from numbers

module _ {A : Type 0} (f : ℕ → A) where
  pub length-numbers : (k n : ℕ) → length (map f (numbers_from k n)) ≡ n
  unfolding numbers_from
  length-numbers k zero = refl
  length-numbers k (suc n) = ap suc (length-numbers (k + 1) n)

pub map-numbers : {A : Type 0} (f g : ℕ → A) (k n : ℕ) → ((i : ℕ) → k ≤ i → i < k + n → f i ≡ g i)
    → map f (numbers_from k n) ≡ map g (numbers_from k n)
unfolding numbers_from
map-numbers f g k zero h = refl
map-numbers f g k (suc n) h =
    ap₂ ◌∷◌
    (h k (omega arith) (omega arith))
    (map-numbers f g (k + 1) n (λ i low high. h i (omega arith) (omega arith)))

------------------------------------------------------------------------
-- the numbered entries

pub number_from-placed : (table places : List ℕ) (k n : ℕ)
    → number_from k (map (entry_placed table places) (numbers_from k n)) ≡ map (waiting_at table places) (numbers_from k n)
unfolding number_from numbers_from entry_placed waiting_at
number_from-placed table places k zero = refl
number_from-placed table places k (suc n) =
    ap (λ r. waiting_at table places k ∷ r) (number_from-placed table places (k + 1) n)

number_sections-map : (f : ℕ → List Entry) (input n : ℕ)
    → number_sections input (map f (numbers_from input n))
    ≡ map (λ i. number_from (section_room * i) (f i)) (numbers_from input n)
unfolding number_sections numbers_from
number_sections-map f input zero = refl
number_sections-map f input (suc n) =
    ap (λ r. number_from (section_room * input) (f input) ∷ r) (number_sections-map f (input + 1) n)

-- the waiting cells of the sections are those of the view
pub in_table-waiting : (table places : List ℕ) → waiting (sections_placed table places) ≡ in_table table places
unfolding waiting numbered sections_placed section_placed in_table window up_to
in_table-waiting table places =
    ap flatten
    (number_sections-map (section_placed table places) 0 (ports_in table)
    ∙ ap (λ f. map f (numbers_from 0 (ports_in table)))
    (fun_ext (λ i. number_from-placed table places (section_room * i) (count_in table i))))

------------------------------------------------------------------------
-- the records of a table

-- the byte of a section's count
counts_bytes-at : (n : ℕ) (sections : List (List Entry)) (bs : List ℕ) (i : ℕ) → i < n
    → length (get_or sections i []) ≤ section_room → get_or (counts_bytes n sections ++ bs) i 0 ≡ length (get_or sections i [])
unfolding counts_bytes bytes_of
counts_bytes-at zero sections bs i h few = absurd (omega arith)
counts_bytes-at (suc n) [] bs zero h few = refl
counts_bytes-at (suc n) [] bs (suc i) h few = counts_bytes-at n [] bs i (omega arith) few
counts_bytes-at (suc n) (es ∷ sections) bs zero h few = omega arith
counts_bytes-at (suc n) (es ∷ sections) bs (suc i) h few = counts_bytes-at n sections bs i (omega arith) few

-- the count of a section
pub encode-count : (s : Switch) (i : ℕ) → i < port_limit → length (get_or s.sections i []) ≤ section_room
    → count_in (encode s) i ≡ length (get_or s.sections i [])
unfolding count_in
encode-count s i h few =
    sym (get_or-drop 16 (encode s) i 0)
    ∙ ap (λ bs. get_or bs i 0) (encode-counts s)
    ∙ counts_bytes-at port_limit s.sections (sections_bytes port_limit s.sections) i h few

place_byte_at-entry : (table : List ℕ) (k : ℕ) (x : Entry) → record_at table k ≡ entry_bytes x
    → place_byte_at table k ≡ place_byte x.place
unfolding place_byte_at
place_byte_at-entry table k x h = ap (number_at 1 2) h ∙ entry_bytes-place x

-- what the table of a state says of it
module _ (table : List ℕ) (s : Switch) (e : decode table ≡ some s) where
  pub decode-ports : ports_in table ≡ s.ports
  unfolding ports_in state_of
  decode-ports = ap (λ t. t.ports) (decode-state table s e)

  pub decode-clock : clock_in table ≡ s.clock
  unfolding clock_in state_of
  decode-clock = ap (λ t. t.clock) (decode-state table s e)

  pub decode-ports-few : ports_in table ≤ port_limit
  decode-ports-few = omega (arith, decode-ports, sound-ports s (decode-sound table s e))

  pub section-short : (i : ℕ) → length (get_or s.sections i []) ≤ section_room
  section-short i = (sections-e s.ports s.clock s.sections (sound-sections s (decode-sound table s e)) i).short

  pub decode-count : (i : ℕ) → i < port_limit → count_in table i ≡ length (get_or s.sections i [])
  decode-count i h =
      ap (λ bs. count_in bs i) (sym (encode-decode table s e)) ∙ encode-count s i h (section-short i)

  pub decode-count-few : (i : ℕ) → i < port_limit → count_in table i ≤ section_room
  decode-count-few i h = let few = section-short i in omega (arith, decode-count i h)

  pub decode-sections : s.sections ≡ map (section_at table) (up_to (ports_in table))
  unfolding ports_in
  decode-sections =
      let ports : word table 4 ≤ port_limit = decode-ports-few in
      sym (ap (λ t. t.sections) (decode-state table s e))
      ∙ state_of-sections table (λ i h. decode-count-few i (omega arith))

  -- the entry with a number of the table
  module _ (k : ℕ) (t : InTable table k) where
    own-port : k / section_room < port_limit
    own-port = omega (arith, t.input, decode-ports-few)

    own-section : get_or s.sections (k / section_room) [] ≡ section_at table (k / section_room)
    unfolding up_to
    own-section =
        let at : 0 + k / section_room ≡ k / section_room = omega arith in
        ap (λ l. get_or l (k / section_room) []) decode-sections
        ∙ numbers_from-at (section_at table) 0 (ports_in table) (k / section_room) [] t.input
        ∙ ap (section_at table) at

    -- it is sound
    pub decode-entry : SoundEntry s.ports s.clock (k / section_room) (entry_at table k)
    unfolding section_at entries_between between
    decode-entry =
        let first : ℕ = section_room * (k / section_room) in
        let count : ℕ = first + count_in table (k / section_room) - first in
        let low : first ≤ k = omega arith in
        let high : k < first + count = omega (arith, t.position) in
        let mem : Memᴰ (entry_at table k) (get_or s.sections (k / section_room) []) =
        rw own-section (mathlib.Core.List.Memᴰ.map (entry_at table) (numbers_from-mem first count low high)) in
        (sections-e s.ports s.clock s.sections (sound-sections s (decode-sound table s e)) (k / section_room)
        ).entries (entry_at table k) mem

    -- its record is its bytes
    pub decode-record : record_at table k ≡ entry_bytes (entry_at table k)
    unfolding section_at entries_between between
    decode-record =
        let i : ℕ = k / section_room in
        let j : ℕ = k - section_room * i in
        let count : ℕ = section_room * i + count_in table i - section_room * i in
        let whole : k ≡ section_room * i + j = omega arith in
        let within : j < length (get_or s.sections i []) = omega (arith, t.position, decode-count i own-port) in
        ap₂ record_at (sym (encode-decode table s e)) whole
        ∙ record_at-encode s i section-short own-port j (entry_at table k) within
        ∙ ap entry_bytes
        (ap (λ es. get_or es j (entry_at table k)) own-section
        ∙ numbers_from-at (entry_at table) (section_room * i) count j (entry_at table k) (omega (arith, t.position))
        ∙ ap (entry_at table) (sym whole))

    -- and the byte of its place is that of its place
    pub decode-place : place_byte_at table k ≡ place_byte (entry_at table k).place
    decode-place = place_byte_at-entry table k (entry_at table k) decode-record

  pub decode-readable : Readable table
  decode-readable =
      record {
        size = decode-length table s e;
        some = omega (arith, decode-ports, sound-some s (decode-sound table s e));
        ports = decode-ports-few;
        counts = decode-count-few;
        outputs = λ k t. rw decode-ports (decode-entry k t).output;
        flows = λ k t. ltb-true _ _ (decode-entry k t).flow;
        early = λ k t. omega (arith, (decode-entry k t).slot, fits32-below _ (sound-clock s (decode-sound table s e)));
      }

  -- a number within a section is in the table
  pub in_table-number : (i k : ℕ) → i < ports_in table → section_room * i ≤ k → k < section_room * i + count_in table i
      → InTable table k
  in_table-number = in_table-section decode-readable

  -- where the column has the table's own places, the sections are those of its state
  pub sections_placed-same : (places : List ℕ) → ((k : ℕ) → InTable table k → get_or places k 0 ≡ place_byte_at table k)
      → sections_placed table places ≡ s.sections
  unfolding sections_placed section_placed entry_placed up_to section_at entries_between between
  sections_placed-same places same =
      map-numbers (section_placed table places) (section_at table) 0 (ports_in table)
      (λ i _ h.
      let size : count_in table i ≡ section_room * i + count_in table i - section_room * i = omega arith in
      map-numbers (entry_placed table places) (entry_at table) (section_room * i) (count_in table i)
      (λ k low high.
      let place : place_of (get_or places k 0) ≡ (entry_at table k).place =
      ap place_of (same k (in_table-number i k (omega arith) low high)) ∙ sym (entry_at-place table k) in
      λ z. record { cell = (entry_at table k).cell; place = place z })
      ∙ ap (λ n. map (entry_at table) (numbers_from (section_room * i) n)) size)
      ∙ sym decode-sections

  pub in_table-same : (places : List ℕ) → ((k : ℕ) → InTable table k → get_or places k 0 ≡ place_byte_at table k)
      → in_table table places ≡ waiting s.sections
  in_table-same places same = sym (in_table-waiting table places) ∙ ap waiting (sections_placed-same places same)
