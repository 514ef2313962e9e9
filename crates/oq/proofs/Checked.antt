-- Whether bytes are the table of an output-queued switch: the frame, then a table of its cells, and where they wait, by
-- the sets that the check of this table hands on.
--     sets-empty                        whether the set of each input is empty
--     in-a-list, in-no-list             a table whose cells all wait in buffers: its check, then whether none of
--                                       them is in a list, then none at a crosspoint
--     other-frame, by-core              framed
--     other-size, other-number, by-inner   the older table, with the number in front
use Prim.Native.Nat.{ℕ, ◌+◌, ◌*◌, ◌-◌, ◌≤◌, ◌<◌}
use native.Mathlib.Nat.{zero-add}
use native.Mathlib.Omega.{arith}
use mathlib.Core.Bool.{Bool, true, false, ◌&&◌}
use mathlib.Core.List.Memᴰ
use mathlib.Core.Logic.{◌⊎◌, inl, inr}
use Rattle.std.specs.Prelude.{◌↔◌, IsTrue, EachIndex, slice_index}
use mathlib.Core.List.{List, [], Memᴰ, flatten}
use mathlib.Core.Path.{◌≡◌, refl, sym, ap, ap₂, ◌∙◌}
use borrow.Author.Tests.{eqb-true, eq-eqb, ne_eqb}
use lib.Dec.{eqb}
use lib.ListN.{length, take, drop, get_or}
use Rattle.laws.specs.Lists.{all?, none?, between, numbers_from, up_to}
use Rattle.laws.proofs.Lists.{all?-at, all?-places, none?-e, none?-i}
use Rattle.laws.proofs.Numbers.{mem-numbers_from, numbers_from-mem, numbers_from-at}
use Rattle.laws.proofs.Tests.{same, clash, either, by-fail, and_i, and_l, and_r, and-false-l, and_false_r}
use Rattle.sets.specs.Sets.{set_from}
use Rattle.sets.proofs.Members.{set_from-empty}
use Rattle.cell.specs.Limits.{port_limit, section_room}
use Rattle.model.specs.Oq.{all_buffered}
use Rattle.model.specs.State.{Place, listed, crossed, buffered, Entry, is_listed, is_crossed, is_buffered}
use Rattle.model.proofs.Bags.{mem-flatten}
use Rattle.model.proofs.OqSound.{all-buffered-at, all-buffered-i}
use Rattle.layout.specs.Code.{ports_in, first_record, entries_between, section_at}
use Rattle.layout.specs.Entry.{entry_at, count_in}
use Rattle.layout.specs.Number.{word}
use Rattle.layout.specs.CodeFair.{is_fair_oq_table}
use Rattle.layout.specs.Frame.{is_framed}
use Rattle.layout.specs.CodeOq.{is_oq_table}
use Rattle.layout.specs.Fair.{fair_number_oq, core_in}
use Rattle.layout.specs.Oq.{oq_number, oq_number_size, state_of_oq}
use Rattle.layout.specs.CodeOq.{oq_table_size}
use Rattle.layout.specs.Table.{state_of, is_table, IsTable}
use Rattle.layout.proofs.Fair.{is_fair_oq_table-tests}
use Rattle.layout.proofs.Number.{bytes?}
use Rattle.layout.proofs.Oq.{is_oq_table-tests}
use Rattle.layout.proofs.Table.{decode-sound, sound-length, is-table}
use Rattle.slot_check.specs.Handed.{Handed}
use Rattle.slot_view.proofs.Handed.{entry-port}
use Rattle.slot_view.proofs.Placed.{decode-ports, decode-ports-few, decode-sections}
use Rattle.layout.proofs.Parts.{part-behind}

------------------------------------------------------------------------
-- a set for each input

module _ (sets : List ℕ) where
  pub sets-empty : (b : Bool) → (IsTrue b ↔ EachIndex sets (λ k. slice_index sets k ≡ 0))
      → b ≡ all? (λ set. eqb set 0) sets
  sets-empty b h = go (either b)
    where
      go : (b ≡ true) ⊎ (b ≡ false) → b ≡ all? (λ set. eqb set 0) sets
      go (inl t) =
          t ∙ sym (all?-places (λ set. eqb set 0) 0 sets (λ input inside. eq-eqb _ 0 (h.0 t input inside)))
      go (inr f) =
          f
          ∙ sym (by-fail _ (λ t. clash (h.1 (λ k inside. eqb-true _ 0 (all?-at (λ set. eqb set 0) sets k 0 t refl))) f))

------------------------------------------------------------------------
-- the places

-- a cell that is in no list and at no crosspoint is in a buffer
left_over : (p : Place) → is_listed p ≡ false → is_crossed p ≡ false → is_buffered p ≡ true
unfolding is_listed is_crossed is_buffered
left_over listed l c = sym l
left_over crossed l c = sym c
left_over buffered l c = refl

not_listed : (p : Place) → is_buffered p ≡ true → is_listed p ≡ false
unfolding is_listed is_buffered
not_listed listed b = sym b
not_listed crossed b = refl
not_listed buffered b = refl

not-crossed : (p : Place) → is_buffered p ≡ true → is_crossed p ≡ false
unfolding is_crossed is_buffered
not-crossed listed b = refl
not-crossed crossed b = sym b
not-crossed buffered b = refl

------------------------------------------------------------------------
-- the entries of a table by their numbers

-- the number of an entry, and its input
abbrev Numbered : List ℕ → Entry → Type 0
Numbered t e =
    (i : ℕ) × (k : ℕ) × (i < port_limit) × (first_record i ≤ k) × (k < first_record i + count_in t i) × (entry_at t k ≡ e)

module _ (t : List ℕ) (g : IsTable t) where
  section-at : (i : ℕ) → i < ports_in t → get_or (state_of t).sections i [] ≡ section_at t i
  unfolding up_to
  section-at i port =
      ap (λ l. get_or l i []) (decode-sections t (state_of t) g)
      ∙ numbers_from-at (section_at t) 0 (ports_in t) i [] port
      ∙ ap (section_at t) (zero-add i)

  entry_of : (i k : ℕ) → i < port_limit → first_record i ≤ k → k < first_record i + count_in t i
      → Memᴰ (entry_at t k) (get_or (state_of t).sections i [])
  unfolding section_at entries_between between
  entry_of i k port low high =
      rw (section-at i (entry-port t g i (k - first_record i) port (omega arith)))
      (Memᴰ.map (entry_at t)
      (numbers_from-mem (first_record i) (first_record i + count_in t i - first_record i) low (omega arith)))

  of_entry : (e : Entry) → Memᴰ e (flatten (state_of t).sections) → Numbered t e
  unfolding section_at entries_between between
  of_entry e m =
      let w = mem-flatten (state_of t).sections m in
      let port : w.0 < ports_in t =
      omega (arith, w.1, sound-length (state_of t) (decode-sound t (state_of t) g), decode-ports t (state_of t) g) in
      let here = rw (section-at w.0 port) at w.2 in
      let first : ℕ = first_record w.0 in
      let v = Memᴰ.of_map (entry_at t) (numbers_from first (first + count_in t w.0 - first)) here in
      let range = mem-numbers_from first (first + count_in t w.0 - first) v.1 in
      (w.0, v.0, omega (arith, port, decode-ports-few t (state_of t) g), range.0, omega (arith, range.1), v.2)

  -- a set of entries by their places: empty exactly if none of them passes
  module _ (f : Place → Bool) (sets : List ℕ)
      (at : (i : ℕ) → i < port_limit
      → get_or sets i 0 ≡ set_from (λ k. f (entry_at t k).place) (section_room * i) (count_in t i))
    where
      none_in : all? (λ set. eqb set 0) sets ≡ true → (e : Entry) → Numbered t e → f e.place ≡ false
      none_in empty e (i, k, port, low, high, is) =
          let here : none? (λ k. f (entry_at t k).place) (numbers_from (first_record i) (count_in t i)) ≡ true =
          sym (set_from-empty (λ k. f (entry_at t k).place) (first_record i) (count_in t i))
          ∙ ap (λ set. eqb set 0) (sym (at i port))
          ∙ all?-at (λ set. eqb set 0) sets i 0 empty refl in
          ap (λ e. f e.place) (sym is)
          ∙ none?-e (λ k. f (entry_at t k).place) here (numbers_from-mem (first_record i) (count_in t i) low high)

      empty_of : length sets ≡ port_limit
          → ((i k : ℕ) → i < port_limit → first_record i ≤ k → k < first_record i + count_in t i
          → f (entry_at t k).place ≡ false)
          → all? (λ set. eqb set 0) sets ≡ true
      empty_of size h =
          all?-places (λ set. eqb set 0) 0 sets (λ i inside.
          let port : i < port_limit = omega (arith, size) in
          ap (λ set. eqb set 0) (at i port)
          ∙ set_from-empty (λ k. f (entry_at t k).place) (first_record i) (count_in t i)
          ∙ none?-i (λ k. f (entry_at t k).place) (numbers_from (first_record i) (count_in t i))
          (λ k m. let range = mem-numbers_from (first_record i) (count_in t i) m in h i k port range.0 range.1))

  module _ (lists heads crosses buffers : List ℕ) (h : Handed t lists heads crosses buffers) where
    abbrev none-listed : Bool
    none-listed = all? (λ set. eqb set 0) lists

    abbrev none-crossed : Bool
    none-crossed = all? (λ set. eqb set 0) crosses

    abbrev no-others : Bool
    no-others = none-listed && none-crossed

    tells : no-others ≡ true → all_buffered (state_of t) ≡ true
    tells empty =
        all-buffered-i (state_of t) (λ e m.
        let n = of_entry e m in
        left_over e.place
        (none_in is_listed lists h.listed-at (and_l none-listed none-crossed empty) e n)
        (none_in is_crossed crosses h.crossed-at (and_r none-listed none-crossed empty) e n))

    told : all_buffered (state_of t) ≡ true → no-others ≡ true
    told all =
        let here : (i k : ℕ) → i < port_limit → first_record i ≤ k → k < first_record i + count_in t i
        → is_buffered (entry_at t k).place ≡ true =
        λ i k port low high. all-buffered-at (state_of t) all i (entry_at t k) (entry_of i k port low high) in
        and_i none-listed none-crossed
        (empty_of is_listed lists h.listed-at h.listed-size
        (λ i k port low high. not_listed (entry_at t k).place (here i k port low high)))
        (empty_of is_crossed crosses h.crossed-at h.crossed-size
        (λ i k port low high. not-crossed (entry_at t k).place (here i k port low high)))

    all-buffered-sets : all_buffered (state_of t) ≡ no-others
    all-buffered-sets = same (all_buffered (state_of t)) no-others told tells

------------------------------------------------------------------------
-- the tests of the code, behind the number and from it on

-- a table in which every cell waits in a buffer
abbrev wholly : List ℕ → Bool
wholly t = is_table t && all_buffered (state_of t)

module _ (t lists heads crosses buffers : List ℕ) (whole : is_table t ≡ true) (h : Handed t lists heads crosses buffers)
  where
    sets-tell : (b : Bool) → b ≡ all? (λ set. eqb set 0) lists && all? (λ set. eqb set 0) crosses → b ≡ wholly t
    sets-tell b e =
        e
        ∙ sym (all-buffered-sets t (is-table t whole) lists heads crosses buffers h)
        ∙ sym (ap (λ a. a && all_buffered (state_of t)) whole)

    pub in-a-list : all? (λ set. eqb set 0) lists ≡ false → false ≡ wholly t
    in-a-list some = sets-tell false (sym (and-false-l _ (all? (λ set. eqb set 0) crosses) some))

    pub in-no-list : all? (λ set. eqb set 0) lists ≡ true
        → (b : Bool) → b ≡ all? (λ set. eqb set 0) crosses → b ≡ wholly t
    in-no-list none b e = sets-tell b (e ∙ ap (λ a. a && all? (λ set. eqb set 0) crosses) (sym none))

-- bytes with a frame
module _ (bs : List ℕ) (h : bytes? bs ≡ true) where
  pub other-frame : is_framed fair_number_oq bs ≡ false → false ≡ is_fair_oq_table bs
  other-frame n = sym (is_fair_oq_table-tests bs h ∙ and-false-l (is_framed fair_number_oq bs) (wholly (core_in bs)) n)

  pub by-core : is_framed fair_number_oq bs ≡ true → wholly (core_in bs) ≡ is_fair_oq_table bs
  by-core f = sym (is_fair_oq_table-tests bs h ∙ ap (λ x. x && wholly (core_in bs)) f)

-- bytes with the number in front
module _ (bs : List ℕ) (h : bytes? bs ≡ true) where
  inner : Bool
  inner = wholly (drop oq_number_size bs)

  by_tests : is_oq_table bs ≡ eqb (length bs) oq_table_size && (eqb (word bs 0) oq_number && inner)
  unfolding inner state_of_oq
  by_tests = is_oq_table-tests bs h

  pub other-size : (length bs ≡ oq_table_size → ⊥) → false ≡ is_oq_table bs
  other-size n =
      sym (by_tests
      ∙ and-false-l (eqb (length bs) oq_table_size) (eqb (word bs 0) oq_number && inner) (ne_eqb (length bs) oq_table_size n))

  pub other-number : (word bs 0 ≡ oq_number → ⊥) → false ≡ is_oq_table bs
  other-number n =
      sym (by_tests
      ∙ and_false_r (eqb (length bs) oq_table_size) (eqb (word bs 0) oq_number && inner)
      (and-false-l (eqb (word bs 0) oq_number) inner (ne_eqb (word bs 0) oq_number n)))

  pub by-inner : length bs ≡ oq_table_size → word bs 0 ≡ oq_number
      → (b : Bool) → b ≡ wholly (take (length bs - oq_number_size) (drop oq_number_size bs)) → b ≡ is_oq_table bs
  unfolding inner
  by-inner size number b e =
      e
      ∙ ap wholly (part-behind bs oq_number_size)
      ∙ sym (by_tests
      ∙ ap₂ (λ x y. x && (y && inner)) (eq-eqb (length bs) oq_table_size size) (eq-eqb (word bs 0) oq_number number))
