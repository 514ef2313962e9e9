-- The cells of a table by their places, when a cell has entered it.
--     Settles, settles        where a new cell comes to stand in a section
--     head-alike, head-moved  an entry with the same before it in two tables is a head in both or in none
--     sets-kept               two tables with the same sections have the same sets
--     sets-entered            where a cell has entered, the sets of its input are opened at its position
--     sets-arrived            the same by the record of the cell
use Prim.Native.Nat.{ℕ, suc, ◌+◌, ◌*◌, ◌-◌, ◌^◌, ◌≤◌, ◌<◌}
use mathlib.Core.Bool.{Bool, true, false, cond}
use mathlib.Core.Path.{◌≡◌, refl, sym, ◌∙◌, ap, ap₂, subst}
use mathlib.Core.Logic.{◌⊎◌, inl, inr, ◌≢◌}
use mathlib.Core.List.{List, [], ◌∷◌, ◌++◌}
use mathlib.Core.Option.{some}
use native.Mathlib.Omega.{arith}
use borrow.Author.Tests.{eq-eqb, ne_eqb}
use lib.Dec.{eqb}
use lib.ListN.{length, take, drop, get_or, set, length-append, length-drop, length-set, get_or-append}
use lib.Pow.{pow_mono}
use lib.Seq.{get_or-append-add, get_or-take, get_or-drop, length-take-le, get_or-set_same, get_or-set_other}
use Rattle.laws.proofs.Tests.{either, same, clash, and_i, and_l, and_r}
use Rattle.laws.proofs.Lists.{none?-e, get_or-mem}
use Rattle.sets.specs.Sets.{set_from}
use Rattle.sets.proofs.Members.{set_from-lt, set_from-ext, open-with, open-without}
use Rattle.cell.specs.declared.Arrival.{Arrival}
use Rattle.cell.specs.declared.Cell.{Cell}
use Rattle.cell.specs.Cell.{accepted, arrival_fits}
use Rattle.cell.specs.Flow.{same_flow}
use Rattle.cell.specs.Limits.{section_room}
use Rattle.cell.proofs.Flow.{flow-sym}
use Rattle.laws.proofs.Compared.{Compared, below, equal, above, compare}
use Rattle.sets.specs.Code.{with_one, opened}
use Rattle.model.specs.State.{Entry, Place, is_listed, is_crossed, is_buffered}
use Rattle.model.specs.Crossbar.{in_list_of, new_entry, enter}
use Rattle.model.proofs.Bags.{get_or-update-same, get_or-update-other}
use Rattle.model.proofs.SoundArrival.{Enters, front, behind, enters}
use Rattle.layout.specs.Entry.{entry_at, clock_in, count_in}
use Rattle.layout.specs.Table.{place_of, state_of, encode, decode, IsTable}
use Rattle.layout.proofs.Table.{state_of-encode, decode-encode}
use Rattle.layout.specs.Code.{ports_in}
use Rattle.slot_view.specs.CodeView.{waiting_at, waiting_in, InTable, places_in}
use Rattle.slot_view.specs.CodeViewed.{is_head, listed_set, head_set, crossed_set, buffered_set, SetsOf}
use Rattle.slot_view.proofs.Handed.{entry-port}
use Rattle.slot_view.proofs.Heads.{Earlier, head-unlisted, head-none, head-some}
use Rattle.slot_view.proofs.Own.{own-kind, table-readable}
use Rattle.slot_view.proofs.Placed.{decode-count, in_table-number}
use Rattle.slot_arrival.specs.CodeArrival.{entered, enter_place, MayEnter, opened_with}
use Rattle.slot_faults.specs.CodeFault.{section_in}
use Rattle.slot_arrival.proofs.Arriving.{place-front, place-behind, place-below, enter-place}
use Rattle.slot_faults.proofs.Stored.{table-ports, ports-below, sections-number, section-length, section-entry}

------------------------------------------------------------------------
-- where a new cell comes to stand

pub record Settles (c : Cell) (es : List Entry) (p : ℕ) : Type 0 where
  pub inside : p ≤ length es
  pub later : (j : ℕ) (d : Entry) → p ≤ j → j < length es → in_list_of c (get_or es j d) ≡ false
  pub earlier : (p ≡ 0) ⊎ ((q : ℕ) × (p ≡ suc q) × ((d : Entry) → in_list_of c (get_or es q d) ≡ true))

settles : (c : Cell) (es : List Entry) → Settles c es (enter_place c es)
settles c es = go (enters c es)
  where
    go : Enters c es → Settles c es (enter_place c es)
    go (front n e) =
        record {
          inside = place-below c es;
          later = λ j d _ h. none?-e (in_list_of c) n (get_or-mem es j d h);
          earlier = inl (place-front c es n);
        }
    go (behind pre x post s f n e) =
        record {
          inside = place-below c es;
          later = later;
          earlier = inr (length pre, place, λ d. ap (in_list_of c) (here d) ∙ f);
        }
      where
        place : enter_place c es ≡ suc (length pre)
        place = ap (enter_place c) s ∙ place-behind c pre x post f n

        here : (d : Entry) → get_or es (length pre) d ≡ x
        here d =
            let at : length pre ≡ length pre + 0 = omega arith in
            ap₂ (λ l i. get_or l i d) s at ∙ get_or-append-add pre (x ∷ post) 0 d

        later : (j : ℕ) (d : Entry) → enter_place c es ≤ j → j < length es → in_list_of c (get_or es j d) ≡ false
        later j d l h =
            let m : ℕ = j - suc (length pre) in
            let at : j ≡ length pre + suc m = omega (arith, place) in
            let size : length es ≡ length pre + suc (length post) =
            ap length s ∙ length-append pre (x ∷ post) in
            ap (in_list_of c) (ap₂ (λ l i. get_or l i d) s at ∙ get_or-append-add pre (x ∷ post) (suc m) d)
            ∙ none?-e (in_list_of c) n (get_or-mem post m d (omega arith))

-- an entry put into a list
module _ (es : List Entry) (p : ℕ) (inside : p ≤ length es) (e d : Entry) where
  size : length (take p es) ≡ p
  size = length-take-le p es inside

  put-before : (j : ℕ) → j < p → get_or (take p es ++ e ∷ drop p es) j d ≡ get_or es j d
  put-before j h =
      get_or-append (take p es) (e ∷ drop p es) d j (omega (arith, size)) ∙ get_or-take p es j d h

  put-at : get_or (take p es ++ e ∷ drop p es) p d ≡ e
  put-at =
      let at : p ≡ length (take p es) + 0 = omega (arith, size) in
      ap (λ i. get_or (take p es ++ e ∷ drop p es) i d) at ∙ get_or-append-add (take p es) (e ∷ drop p es) 0 d

  put-behind : (j : ℕ) → p ≤ j → get_or (take p es ++ e ∷ drop p es) (suc j) d ≡ get_or es j d
  put-behind j h =
      let at : suc j ≡ length (take p es) + suc (j - p) = omega (arith, size) in
      let back : p + (j - p) ≡ j = omega arith in
      ap (λ i. get_or (take p es ++ e ∷ drop p es) i d) at
      ∙ get_or-append-add (take p es) (e ∷ drop p es) (suc (j - p)) d
      ∙ get_or-drop p es (j - p) d
      ∙ ap (λ i. get_or es i d) back

------------------------------------------------------------------------
-- heads by the cells before them

module _ {t0 t1 : List ℕ} (g0 : IsTable t0) (g1 : IsTable t1) (k0 k1 : ℕ) where
  head-alike : is_listed (place_of (get_or (places_in t1) k1 0)) ≡ is_listed (place_of (get_or (places_in t0) k0 0))
      → ((a : ℕ) → Earlier t0 (places_in t0) a k0 → (b : ℕ) × Earlier t1 (places_in t1) b k1)
      → (is_listed (place_of (get_or (places_in t0) k0 0)) ≡ true → (b : ℕ) → Earlier t1 (places_in t1) b k1
      → (a : ℕ) × Earlier t0 (places_in t0) a k0)
      → is_head (waiting_in t1) (waiting_at t1 (places_in t1) k1) ≡ is_head (waiting_in t0) (waiting_at t0 (places_in t0) k0)
  head-alike listed to back = go (either (is_listed (place_of (get_or (places_in t0) k0 0))))
    where
      go : (is_listed (place_of (get_or (places_in t0) k0 0)) ≡ true) ⊎ (is_listed (place_of (get_or (places_in t0) k0 0)) ≡ false)
          → is_head (waiting_in t1) (waiting_at t1 (places_in t1) k1) ≡ is_head (waiting_in t0) (waiting_at t0 (places_in t0) k0)
      go (inl l) =
          same _ _
          (λ h. head-none t0 (places_in t0) (table-readable t0 g0) k0 l
          (λ a w. let x = to a w in clash h (head-some t1 (places_in t1) (table-readable t1 g1) k1 x.0 x.1)))
          (λ h. head-none t1 (places_in t1) (table-readable t1 g1) k1 (listed ∙ l)
          (λ b w. let x = back l b w in clash h (head-some t0 (places_in t0) (table-readable t0 g0) k0 x.0 x.1)))
      go (inr l) =
          head-unlisted t1 (places_in t1) (table-readable t1 g1) k1 (listed ∙ l)
          ∙ sym (head-unlisted t0 (places_in t0) (table-readable t0 g0) k0 l)

-- an entry is in a table and the list, and stands before another of its flow in a section
record Ahead (t : List ℕ) (i y x : ℕ) : Type 0 where
  less : y < x
  entry : InTable t (section_room * i + y)
  listed : is_listed (entry_at t (section_room * i + y)).place ≡ true
  flow : same_flow (entry_at t (section_room * i + y)).cell (entry_at t (section_room * i + x)).cell ≡ true

module _ (t : List ℕ) (g : IsTable t) (i x : ℕ) (few : x < 64) where
  ahead-earlier : (y : ℕ) → Ahead t i y x → Earlier t (places_in t) (section_room * i + y) (section_room * i + x)
  ahead-earlier y a =
      record {
        listed = record { entry = a.entry; place = ap is_listed (own-kind t g (section_room * i + y) a.entry) ∙ a.listed };
        input = omega (arith, a.less);
        before = omega (arith, a.less);
        flow = a.flow;
      }

  earlier-ahead : (k : ℕ) → Earlier t (places_in t) k (section_room * i + x) → (y : ℕ) × Ahead t i y x
  earlier-ahead k w =
      let y : ℕ = k - 64 * i in
      let at : k ≡ 64 * i + y = omega (arith, w.input, w.before) in
      let entry : InTable t (64 * i + y) = subst (InTable t) at w.listed.entry in (
        y,
        record {
          less = omega (arith, w.input, w.before);
          entry = entry;
          listed =
              subst (λ k. is_listed (entry_at t k).place ≡ true) at
              (sym (ap is_listed (own-kind t g k w.listed.entry)) ∙ w.listed.place);
          flow = subst (λ k. same_flow (entry_at t k).cell (entry_at t (section_room * i + x)).cell ≡ true) at w.flow;
        },
      )

head : List ℕ → ℕ → Bool
head t k = is_head (waiting_in t) (waiting_at t (places_in t) k)

module _ {t0 t1 : List ℕ} (g0 : IsTable t0) (g1 : IsTable t1) (i x0 x1 : ℕ) (few0 : x0 < 64) (few1 : x1 < 64)
    (in0 : InTable t0 (section_room * i + x0)) (in1 : InTable t1 (section_room * i + x1))
    (alike : entry_at t1 (section_room * i + x1) ≡ entry_at t0 (section_room * i + x0)) where
  -- the same entry has the same before it
  head-moved : ((y : ℕ) → Ahead t0 i y x0 → (z : ℕ) × Ahead t1 i z x1)
      → (is_listed (entry_at t0 (section_room * i + x0)).place ≡ true → (z : ℕ) → Ahead t1 i z x1 → (y : ℕ) × Ahead t0 i y x0)
      → head t1 (section_room * i + x1) ≡ head t0 (section_room * i + x0)
  unfolding head
  head-moved to back =
      head-alike g0 g1 (section_room * i + x0) (section_room * i + x1)
      (ap is_listed (own-kind t1 g1 (section_room * i + x1) in1 ∙ ap (λ e. e.place) alike ∙ sym (own-kind t0 g0 (section_room * i + x0) in0)))
      (λ a w. let y = earlier-ahead t0 g0 i x0 few0 a w in let z = to y.0 y.1 in (section_room * i + z.0, ahead-earlier t1 g1 i x1 few1 z.0 z.1))
      (λ l b w.
      let z = earlier-ahead t1 g1 i x1 few1 b w in
      let y = back (sym (ap is_listed (own-kind t0 g0 (section_room * i + x0) in0)) ∙ l) z.0 z.1 in
      (section_room * i + y.0, ahead-earlier t0 g0 i x0 few0 y.0 y.1))

  -- one that stands before it in both
  ahead-moved : (y0 y1 : ℕ) → y1 < x1 → InTable t1 (section_room * i + y1)
      → entry_at t1 (section_room * i + y1) ≡ entry_at t0 (section_room * i + y0) → Ahead t0 i y0 x0 → Ahead t1 i y1 x1
  ahead-moved y0 y1 less entry same a =
      record {
        less = less;
        entry = entry;
        listed = ap (λ e. is_listed e.place) same ∙ a.listed;
        flow = ap₂ (λ e f. same_flow e.cell f.cell) same alike ∙ a.flow;
      }

------------------------------------------------------------------------
-- an input whose section is the same in two tables

module _ (t0 t1 : List ℕ) (g0 : IsTable t0) (g1 : IsTable t1) (same-ports : ports_in t1 ≡ ports_in t0) (i : ℕ) (port : i < 16)
    (section : section_in t1 i ≡ section_in t0 i) where
  count_same : count_in t1 i ≡ count_in t0 i
  count_same =
      decode-count t1 (state_of t1) g1 i port ∙ ap length section ∙ sym (decode-count t0 (state_of t0) g0 i port)

  module _ (j : ℕ) (inside : j < count_in t0 i) where
    was-port : i < ports_in t0
    was-port = entry-port t0 g0 i j port inside

    is-port : i < ports_in t1
    is-port = omega (arith, was-port, same-ports)

    was-in : InTable t0 (section_room * i + j)
    was-in = in_table-number t0 (state_of t0) g0 i (section_room * i + j) was-port (omega arith) (omega arith)

    is-in : InTable t1 (section_room * i + j)
    is-in = in_table-number t1 (state_of t1) g1 i (section_room * i + j) is-port (omega arith) (omega (arith, count_same))

    entry-same : entry_at t1 (section_room * i + j) ≡ entry_at t0 (section_room * i + j)
    entry-same =
        let x = entry_at t0 0 in
        sym (section-entry t1 g1 i is-port j x (omega (arith, count_same)))
        ∙ ap (λ s. get_or s j x) section
        ∙ section-entry t0 g0 i was-port j x inside

    test-same : (f : Place → Bool)
        → f (place_of (get_or (places_in t1) (section_room * i + j) 0)) ≡ f (place_of (get_or (places_in t0) (section_room * i + j) 0))
    test-same f =
        ap f (own-kind t1 g1 (section_room * i + j) is-in ∙ ap (λ e. e.place) entry-same ∙ sym (own-kind t0 g0 (section_room * i + j) was-in))

  head-same : (j : ℕ) → j < count_in t0 i → head t1 (section_room * i + j) ≡ head t0 (section_room * i + j)
  head-same j l =
      let few : j < 64 = omega (arith, (table-readable t0 g0).counts i port) in
      head-moved g0 g1 i j j few few (was-in j l) (is-in j l) (entry-same j l)
      (λ y a.
      let m : y < count_in t0 i = omega (arith, a.less) in
      (y, ahead-moved g0 g1 i j j few few (was-in j l) (is-in j l) (entry-same j l) y y a.less (is-in y m) (entry-same y m) a))
      (λ _ y a.
      let m : y < count_in t0 i = omega (arith, a.less) in
      (y, ahead-moved g1 g0 i j j few few (is-in j l) (was-in j l) (sym (entry-same j l)) y y a.less (was-in y m) (sym (entry-same y m)) a))

  set_same : (q0 q1 : ℕ → Bool) → ((j : ℕ) → j < count_in t0 i → q1 (section_room * i + j) ≡ q0 (section_room * i + j))
      → set_from q1 (section_room * i) (count_in t1 i) ≡ set_from q0 (section_room * i) (count_in t0 i)
  set_same q0 q1 test =
      ap (set_from q1 (section_room * i)) count_same ∙ set_from-ext q1 q0 (section_room * i) (count_in t0 i) test

  listed_same : listed_set t1 (places_in t1) i ≡ listed_set t0 (places_in t0) i
  unfolding listed_set
  listed_same = set_same _ _ (λ j l. test-same j l is_listed)

  heads-same : head_set t1 (places_in t1) i ≡ head_set t0 (places_in t0) i
  unfolding head_set head
  heads-same = set_same _ _ head-same

  crossed-same : crossed_set t1 (places_in t1) i ≡ crossed_set t0 (places_in t0) i
  unfolding crossed_set
  crossed-same = set_same _ _ (λ j l. test-same j l is_crossed)

  buffered-same : buffered_set t1 (places_in t1) i ≡ buffered_set t0 (places_in t0) i
  unfolding buffered_set
  buffered-same = set_same _ _ (λ j l. test-same j l is_buffered)

-- all of them are
pub sets-kept : (t0 t1 : List ℕ) → IsTable t0 → IsTable t1 → ports_in t1 ≡ ports_in t0
    → (state_of t1).sections ≡ (state_of t0).sections → (listed heads crossed buffered : List ℕ)
    → SetsOf t0 (places_in t0) listed heads crossed buffered → SetsOf t1 (places_in t1) listed heads crossed buffered
sets-kept t0 t1 g0 g1 ports sections listed heads crossed buffered w =
    record {
      lists = record {
        listed-size = w.lists.listed-size;
        heads-size = w.lists.heads-size;
        listed-at = λ i h. w.lists.listed-at i h ∙ sym (listed_same t0 t1 g0 g1 ports i h (section i));
        heads-at = λ i h. w.lists.heads-at i h ∙ sym (heads-same t0 t1 g0 g1 ports i h (section i));
      };
      crossed-size = w.crossed-size;
      buffered-size = w.buffered-size;
      crossed-at = λ i h. w.crossed-at i h ∙ sym (crossed-same t0 t1 g0 g1 ports i h (section i));
      buffered-at = λ i h. w.buffered-at i h ∙ sym (buffered-same t0 t1 g0 g1 ports i h (section i));
    }
  where
    section : (i : ℕ) → section_in t1 i ≡ section_in t0 i
    section i = ap (λ l. get_or l i []) sections

------------------------------------------------------------------------
-- a table, and the one that a cell has entered

module _ (t0 t1 : List ℕ) (g0 : IsTable t0) (g1 : IsTable t1) (c : Cell) (step : state_of t1 ≡ entered c (state_of t0))
    (port : c.input < ports_in t0) where
  abbrev own : ℕ
  own = c.input

  abbrev es : List Entry
  es = section_in t0 c.input

  abbrev p : ℕ
  p = enter_place c (section_in t0 c.input)

  stand : Settles c es p
  stand = settles c es

  few-ports : ports_in t0 ≤ 16
  few-ports = ports-below t0 g0

  same-ports : ports_in t1 ≡ ports_in t0
  unfolding entered
  same-ports = sym (table-ports t1 g1) ∙ ap (λ s. s.ports) step ∙ table-ports t0 g0

  new-port : (i : ℕ) → i < ports_in t0 → i < ports_in t1
  new-port i h = omega (arith, same-ports)

  section-other : (i : ℕ) → i ≢ own → section_in t1 i ≡ section_in t0 i
  unfolding entered
  section-other i d =
      ap (λ s. get_or s.sections i []) step ∙ get_or-update-other own i (enter c) (state_of t0).sections [] d

  section-own : section_in t1 own ≡ take p es ++ new_entry c ∷ drop p es
  unfolding entered
  section-own =
      ap (λ s. get_or s.sections own []) step
      ∙ get_or-update-same own (enter c) (state_of t0).sections [] (omega (arith, sections-number t0 g0))
      ∙ enter-place c es

  abbrev n : ℕ
  n = count_in t0 c.input

  old-size : length es ≡ n
  old-size = section-length t0 g0 own port

  count-own : count_in t1 own ≡ suc n
  count-own =
      let inside = stand.inside in
      sym (section-length t1 g1 own (new-port own port))
      ∙ ap length section-own
      ∙ length-append (take p es) (new_entry c ∷ drop p es)
      ∙ ap₂ (λ a b. a + suc b) (length-take-le p es inside) (length-drop p es)
      ∙ ap (λ m. p + suc (m - p)) old-size
      ∙ back
    where
      back : p + suc (n - p) ≡ suc n
      back = omega (arith, stand.inside, old-size)

  ----------------------------------------------------------------------
  -- entries

  entry-before : (j : ℕ) → j < p → entry_at t1 (section_room * own + j) ≡ entry_at t0 (section_room * own + j)
  entry-before j l =
      let x = entry_at t0 0 in
      sym (section-entry t1 g1 own (new-port own port) j x (omega (arith, count-own, stand.inside, old-size)))
      ∙ ap (λ s. get_or s j x) section-own
      ∙ put-before es p stand.inside (new_entry c) x j l
      ∙ section-entry t0 g0 own port j x (omega (arith, stand.inside, old-size))

  entry-at : entry_at t1 (section_room * own + p) ≡ new_entry c
  entry-at =
      let x = entry_at t0 0 in
      sym (section-entry t1 g1 own (new-port own port) p x (omega (arith, count-own, stand.inside, old-size)))
      ∙ ap (λ s. get_or s p x) section-own
      ∙ put-at es p stand.inside (new_entry c) x

  entry-behind : (j : ℕ) → p ≤ j → j < n → entry_at t1 (section_room * own + suc j) ≡ entry_at t0 (section_room * own + j)
  entry-behind j l h =
      let x = entry_at t0 0 in
      sym (section-entry t1 g1 own (new-port own port) (suc j) x (omega (arith, count-own)))
      ∙ ap (λ s. get_or s (suc j) x) section-own
      ∙ put-behind es p stand.inside (new_entry c) x j l
      ∙ section-entry t0 g0 own port j x h

  -- numbers of entries
  old-in : (i j : ℕ) → i < ports_in t0 → j < count_in t0 i → InTable t0 (section_room * i + j)
  old-in i j h l = in_table-number t0 (state_of t0) g0 i (section_room * i + j) h (omega arith) (omega arith)

  new_in : (i j : ℕ) → i < ports_in t0 → j < count_in t1 i → InTable t1 (section_room * i + j)
  new_in i j h l = in_table-number t1 (state_of t1) g1 i (section_room * i + j) (new-port i h) (omega arith) (omega arith)

  -- a test of places at an entry of either table
  tested : (f : Place → Bool) (t : List ℕ) → IsTable t → (k : ℕ) → InTable t k
      → f (place_of (get_or (places_in t) k 0)) ≡ f (entry_at t k).place
  tested f t g k h = ap f (own-kind t g k h)

  module _ (f : Place → Bool) where
    test-before : (j : ℕ) → j < p
        → f (place_of (get_or (places_in t1) (section_room * own + j) 0)) ≡ f (place_of (get_or (places_in t0) (section_room * own + j) 0))
    test-before j l =
        tested f t1 g1 (section_room * own + j) (new_in own j port (omega (arith, count-own, stand.inside, old-size)))
        ∙ ap (λ e. f e.place) (entry-before j l)
        ∙ sym (tested f t0 g0 (section_room * own + j) (old-in own j port (omega (arith, stand.inside, old-size))))

    test_at : f (place_of (get_or (places_in t1) (section_room * own + p) 0)) ≡ f (new_entry c).place
    test_at =
        tested f t1 g1 (section_room * own + p) (new_in own p port (omega (arith, count-own, stand.inside, old-size)))
        ∙ ap (λ e. f e.place) entry-at

    test-behind : (j : ℕ) → p ≤ j → j < n
        → f (place_of (get_or (places_in t1) (section_room * own + suc j) 0)) ≡ f (place_of (get_or (places_in t0) (section_room * own + j) 0))
    test-behind j l h =
        tested f t1 g1 (section_room * own + suc j) (new_in own (suc j) port (omega (arith, count-own)))
        ∙ ap (λ e. f e.place) (entry-behind j l h)
        ∙ sym (tested f t0 g0 (section_room * own + j) (old-in own j port h))

  ----------------------------------------------------------------------
  -- heads

  low : (i j : ℕ) → i < ports_in t0 → j < count_in t0 i → j < 64
  low i j h l = omega (arith, (table-readable t0 g0).counts i (omega (arith, few-ports)))

  room : suc n ≤ 64
  room = omega (arith, count-own, (table-readable t1 g1).counts own (omega (arith, few-ports)))

  -- where an entry of the section comes to stand
  data To (x x1 : ℕ) : Type 0 where
    stays : x < p → x1 ≡ x → To x x1
    rises : p ≤ x → x1 ≡ suc x → To x x1

  entry-to : (x x1 : ℕ) → x < n → To x x1 → entry_at t1 (section_room * own + x1) ≡ entry_at t0 (section_room * own + x)
  entry-to x x1 l (stays h e) = ap (λ j. entry_at t1 (section_room * own + j)) e ∙ entry-before x h
  entry-to x x1 l (rises h e) = ap (λ j. entry_at t1 (section_room * own + j)) e ∙ entry-behind x h l

  to-small : (x x1 : ℕ) → x < n → To x x1 → x1 < suc n
  to-small x x1 l (stays h e) = omega arith
  to-small x x1 l (rises h e) = omega arith

  to-less : (y y1 x x1 : ℕ) → To y y1 → To x x1 → y < x → y1 < x1
  to-less y y1 x x1 (stays h e) (stays h' e') l = omega arith
  to-less y y1 x x1 (stays h e) (rises h' e') l = omega arith
  to-less y y1 x x1 (rises h e) (stays h' e') l = omega arith
  to-less y y1 x x1 (rises h e) (rises h' e') l = omega arith

  back-less : (y y1 x x1 : ℕ) → To y y1 → To x x1 → y1 < x1 → y < x
  back-less y y1 x x1 (stays h e) (stays h' e') l = omega arith
  back-less y y1 x x1 (stays h e) (rises h' e') l = omega arith
  back-less y y1 x x1 (rises h e) (stays h' e') l = omega arith
  back-less y y1 x x1 (rises h e) (rises h' e') l = omega arith

  to-from : (x : ℕ) → (x1 : ℕ) × To x x1
  to-from x = go (compare x p)
    where
      go : Compared x p → (x1 : ℕ) × To x x1
      go (below h) = (x, stays h refl)
      go (equal h) = (suc x, rises (omega arith) refl)
      go (above h) = (suc x, rises (omega arith) refl)

  -- a new position is the new cell's, or one that an entry came to
  data At (x1 : ℕ) : Type 0 where
    new : x1 ≡ p → At x1
    old : (x : ℕ) → x < n → To x x1 → At x1

  at_from : (x1 : ℕ) → x1 < suc n → At x1
  at_from x1 l = go (compare x1 p)
    where
      go : Compared x1 p → At x1
      go (below h) = old x1 (omega (arith, stand.inside, old-size)) (stays h refl)
      go (equal h) = new h
      go (above h) =
          let back : x1 ≡ suc (x1 - 1) = omega arith in
          old (x1 - 1) (omega arith) (rises (omega arith) back)

  head-old : (x x1 : ℕ) → x < n → To x x1 → head t1 (section_room * own + x1) ≡ head t0 (section_room * own + x)
  unfolding in_list_of new_entry
  head-old x x1 l w =
      head-moved g0 g1 own x x1 few0 few1 in0 in1 alike to back
    where
      few0 : x < 64
      few0 = low own x port l

      few1 : x1 < 64
      few1 = omega (arith, to-small x x1 l w, room)

      in0 : InTable t0 (section_room * own + x)
      in0 = old-in own x port l

      in1 : InTable t1 (section_room * own + x1)
      in1 = new_in own x1 port (omega (arith, to-small x x1 l w, count-own))

      alike : entry_at t1 (section_room * own + x1) ≡ entry_at t0 (section_room * own + x)
      alike = entry-to x x1 l w

      to : (y : ℕ) → Ahead t0 own y x → (z : ℕ) × Ahead t1 own z x1
      to y a =
          let z = to-from y in
          let m : y < n = omega (arith, a.less) in (
            z.0,
            ahead-moved g0 g1 own x x1 few0 few1 in0 in1 alike y z.0 (to-less y z.0 x x1 z.1 w a.less)
                (new_in own z.0 port (omega (arith, to-small y z.0 m z.1, count-own)))
                (entry-to y z.0 m z.1) a,
          )

      -- the new cell is not before a listed one of its flow
      never : is_listed (entry_at t0 (section_room * own + x)).place ≡ true → (z : ℕ) → z ≡ p → Ahead t1 own z x1 → ⊥
      never listed z e a = go w
        where
          cell : entry_at t1 (section_room * own + z) ≡ new_entry c
          cell = ap (λ j. entry_at t1 (section_room * own + j)) e ∙ entry-at

          flow : same_flow c (entry_at t0 (section_room * own + x)).cell ≡ true
          flow = sym (ap₂ (λ e f. same_flow e.cell f.cell) cell alike) ∙ a.flow

          go : To x x1 → ⊥
          go (stays h e') = omega (arith, a.less)
          go (rises h e') =
              let d = entry_at t0 0 in
              clash
              (ap (in_list_of c) (section-entry t0 g0 own port x d l)
              ∙ and_i _ _ listed (flow-sym c (entry_at t0 (section_room * own + x)).cell flow))
              (stand.later x d h (omega (arith, old-size)))

      back : is_listed (entry_at t0 (section_room * own + x)).place ≡ true → (z : ℕ) → Ahead t1 own z x1
          → (y : ℕ) × Ahead t0 own y x
      back listed z a = go (at_from z (omega (arith, a.less, to-small x x1 l w)))
        where
          go : At z → (y : ℕ) × Ahead t0 own y x
          go (new e) = absurd (never listed z e a)
          go (old y m v) = (
            y,
            ahead-moved g1 g0 own x1 x few1 few0 in1 in0 (sym alike) z y (back-less y z x x1 v w a.less)
                (old-in own y port m) (sym (entry-to y z m v)) a,
          )

  -- the new cell is a head exactly if it comes to the front
  head-front : p ≡ 0 → head t1 (section_room * own + p) ≡ true
  unfolding head new_entry is_listed
  head-front e =
      let in1 = new_in own p port (omega (arith, count-own, stand.inside, old-size)) in
      head-none t1 (places_in t1) (table-readable t1 g1) (section_room * own + p) (test_at is_listed)
      (λ k w. let y = earlier-ahead t1 g1 own p (omega (arith, room, stand.inside, old-size)) k w in omega (arith, y.1.less))

  head-behind : (q : ℕ) → p ≡ suc q → ((d : Entry) → in_list_of c (get_or es q d) ≡ true) → head t1 (section_room * own + p) ≡ false
  unfolding head in_list_of new_entry
  head-behind q e f =
      let d = entry_at t0 0 in
      let few : q < n = omega (arith, stand.inside, old-size) in
      let same = entry-before q (omega arith) in
      let in_List = sym (ap (in_list_of c) (section-entry t0 g0 own port q d few)) ∙ f d in
      head-some t1 (places_in t1) (table-readable t1 g1) (section_room * own + p) (section_room * own + q)
      (ahead-earlier t1 g1 own p (omega (arith, room, stand.inside, old-size)) q
      (record {
        less = omega arith;
        entry = new_in own q port (omega (arith, count-own));
        listed = ap (λ e. is_listed e.place) same ∙ and_l _ _ in_List;
        flow = ap₂ (λ e f. same_flow e.cell f.cell) same entry-at ∙ and_r (is_listed (entry_at t0 (section_room * own + q)).place) _ in_List;
      }))

  ----------------------------------------------------------------------
  -- the sets

  module _ (q0 q1 : ℕ → Bool) where
    module _ (before : (j : ℕ) → j < p → q1 (section_room * own + j) ≡ q0 (section_room * own + j))
        (behind : (j : ℕ) → p ≤ j → j < n → q1 (section_room * own + suc j) ≡ q0 (section_room * own + j)) where
      set-with : q1 (section_room * own + p) ≡ true
          → set_from q1 (section_room * own) (count_in t1 own) ≡ with_one (opened (set_from q0 (section_room * own) n) p) p
      set-with on =
          ap (set_from q1 (section_room * own)) count-own
          ∙ open-with q0 q1 (section_room * own) n p room (omega (arith, stand.inside, old-size)) before behind on

      set-without : q1 (section_room * own + p) ≡ false
          → set_from q1 (section_room * own) (count_in t1 own) ≡ opened (set_from q0 (section_room * own) n) p
      set-without off =
          ap (set_from q1 (section_room * own)) count-own
          ∙ open-without q0 q1 (section_room * own) n p room (omega (arith, stand.inside, old-size)) before behind off

  listed-own : listed_set t1 (places_in t1) own ≡ with_one (opened (listed_set t0 (places_in t0) own) p) p
  unfolding listed_set new_entry is_listed
  listed-own =
      set-with _ _ (λ j l. test-before is_listed j l) (λ j l h. test-behind is_listed j l h) (test_at is_listed)

  crossed-own : crossed_set t1 (places_in t1) own ≡ opened (crossed_set t0 (places_in t0) own) p
  unfolding crossed_set new_entry is_crossed
  crossed-own =
      set-without _ _ (λ j l. test-before is_crossed j l) (λ j l h. test-behind is_crossed j l h) (test_at is_crossed)

  buffered-own : buffered_set t1 (places_in t1) own ≡ opened (buffered_set t0 (places_in t0) own) p
  unfolding buffered_set new_entry is_buffered
  buffered-own =
      set-without _ _ (λ j l. test-before is_buffered j l) (λ j l h. test-behind is_buffered j l h) (test_at is_buffered)

  head-before : (j : ℕ) → j < p → head t1 (section_room * own + j) ≡ head t0 (section_room * own + j)
  head-before j l = head-old j j (omega (arith, stand.inside, old-size)) (stays l refl)

  head-later : (j : ℕ) → p ≤ j → j < n → head t1 (section_room * own + suc j) ≡ head t0 (section_room * own + j)
  head-later j l h = head-old j (suc j) h (rises l refl)

  heads-own : head_set t1 (places_in t1) own
      ≡ cond (eqb p 0) (with_one (opened (head_set t0 (places_in t0) own) p) p) (opened (head_set t0 (places_in t0) own) p)
  unfolding head_set head
  heads-own = go stand.earlier
    where
      go : (p ≡ 0) ⊎ ((q : ℕ) × (p ≡ suc q) × ((d : Entry) → in_list_of c (get_or es q d) ≡ true))
          → head_set t1 (places_in t1) own
          ≡ cond (eqb p 0) (with_one (opened (head_set t0 (places_in t0) own) p) p) (opened (head_set t0 (places_in t0) own) p)
      go (inl e) =
          set-with _ _ head-before head-later (head-front e)
          ∙ sym (ap (λ b. cond b (with_one (opened (head_set t0 (places_in t0) own) p) p) (opened (head_set t0 (places_in t0) own) p)) (eq-eqb p 0 e))
      go (inr x) =
          set-without _ _ head-before head-later (head-behind x.0 x.1 x.2)
          ∙ sym (ap (λ b. cond b (with_one (opened (head_set t0 (places_in t0) own) p) p) (opened (head_set t0 (places_in t0) own) p))
          (ne_eqb p 0 (omega (arith, x.1))))

  -- an array of sets, with that of the input replaced
  put-set : (is0 is1 : ℕ → ℕ) (l : List ℕ) (v : ℕ) → length l ≡ 16 → ((i : ℕ) → i < 16 → get_or l i 0 ≡ is0 i)
      → ((i : ℕ) → i < 16 → i ≢ own → is1 i ≡ is0 i) → v ≡ is1 own
      → (i : ℕ) → i < 16 → get_or (set l own v) i 0 ≡ is1 i
  put-set is0 is1 l v size held kept named i h = go (compare i own)
    where
      else : i ≢ own → get_or (set l own v) i 0 ≡ is1 i
      else d = get_or-set_other l own i v 0 d ∙ held i h ∙ sym (kept i h d)

      go : Compared i own → get_or (set l own v) i 0 ≡ is1 i
      go (below d) = else (omega arith)
      go (equal d) =
          ap (λ i. get_or (set l own v) i 0) d ∙ get_or-set_same l own v 0 (omega (arith, few-ports)) ∙ named ∙ ap is1 (sym d)
      go (above d) = else (omega arith)

  pub sets-entered : (listed heads crossed buffered : List ℕ) → SetsOf t0 (places_in t0) listed heads crossed buffered
      → (l h x b : ℕ) → l ≡ with_one (opened (get_or listed own 0) p) p
      → h ≡ cond (eqb p 0) (with_one (opened (get_or heads own 0) p) p) (opened (get_or heads own 0) p)
      → x ≡ opened (get_or crossed own 0) p → b ≡ opened (get_or buffered own 0) p
      → SetsOf t1 (places_in t1) (set listed own l) (set heads own h) (set crossed own x) (set buffered own b)
  unfolding listed_set head_set crossed_set buffered_set head
  sets-entered listed heads crossed buffered w l h x b l-is h-is x-is b-is =
      let small : own < 16 = omega (arith, few-ports) in
      record {
        lists = record {
          listed-size = length-set listed own l ∙ w.lists.listed-size;
          heads-size = length-set heads own h ∙ w.lists.heads-size;
          listed-at =
              put-set (listed_set t0 (places_in t0)) (listed_set t1 (places_in t1)) listed l w.lists.listed-size
              w.lists.listed-at (λ i h d. listed_same t0 t1 g0 g1 same-ports i h (section-other i d))
              (l-is ∙ ap (λ s. with_one (opened s p) p) (w.lists.listed-at own small) ∙ sym listed-own);
          heads-at =
              put-set (head_set t0 (places_in t0)) (head_set t1 (places_in t1)) heads h w.lists.heads-size
              w.lists.heads-at (λ i h d. heads-same t0 t1 g0 g1 same-ports i h (section-other i d))
              (h-is
              ∙ ap (λ s. cond (eqb p 0) (with_one (opened s p) p) (opened s p)) (w.lists.heads-at own small)
              ∙ sym heads-own);
        };
        crossed-size = length-set crossed own x ∙ w.crossed-size;
        buffered-size = length-set buffered own b ∙ w.buffered-size;
        crossed-at =
            put-set (crossed_set t0 (places_in t0)) (crossed_set t1 (places_in t1)) crossed x w.crossed-size w.crossed-at
            (λ i h d. crossed-same t0 t1 g0 g1 same-ports i h (section-other i d))
            (x-is ∙ ap (λ s. opened s p) (w.crossed-at own small) ∙ sym crossed-own);
        buffered-at =
            put-set (buffered_set t0 (places_in t0)) (buffered_set t1 (places_in t1)) buffered b w.buffered-size
            w.buffered-at (λ i h d. buffered-same t0 t1 g0 g1 same-ports i h (section-other i d))
            (b-is ∙ ap (λ s. opened s p) (w.buffered-at own small) ∙ sym buffered-own);
      }

------------------------------------------------------------------------
-- by the record of the cell

module _ (t0 : List ℕ) (a : Arrival) (may : MayEnter a t0) where
  abbrev cell : Cell
  cell = accepted (clock_in t0 - 1) a

  -- how many entries stand before it
  abbrev place : ℕ
  place = enter_place (accepted (clock_in t0 - 1) a) (section_in t0 a.input)

  pub place-room : place < 64
  place-room =
      omega (
        arith,
        place-below cell (section_in t0 a.input),
        section-length t0 may.sound a.input may.input,
        may.room,
      )

  pub input-low : a.input < 16
  input-low = omega (arith, may.input, ports-below t0 may.sound)

  set_room : (q : ℕ → Bool) (s : ℕ) → s ≡ set_from q (section_room * a.input) (count_in t0 a.input) → s < 2 ^ 63
  set_room q s e =
      let few : 2 ^ count_in t0 a.input ≤ 2 ^ 63 = pow_mono {i = count_in t0 a.input} {j = 63} (omega (arith, may.room)) in
      omega (arith, set_from-lt q (section_room * a.input) (count_in t0 a.input))

  module _ (listed heads crossed buffered : List ℕ) (w : SetsOf t0 (places_in t0) listed heads crossed buffered) where
    pub sets-room : (get_or listed a.input 0 < 2 ^ 63) × (get_or heads a.input 0 < 2 ^ 63)
        × (get_or crossed a.input 0 < 2 ^ 63) × (get_or buffered a.input 0 < 2 ^ 63)
    unfolding listed_set head_set crossed_set buffered_set
    sets-room = (
      set_room _ _ (w.lists.listed-at a.input input-low),
      set_room _ _ (w.lists.heads-at a.input input-low),
      set_room _ _ (w.crossed-at a.input input-low),
      set_room _ _ (w.buffered-at a.input input-low),
    )

    pub sets-arrived : arrival_fits a ≡ true → (t1 : List ℕ) → t1 ≡ encode (entered cell (state_of t0)) → (j : ℕ) → j ≡ place
        → (l h x b : List ℕ) → l ≡ opened_with true listed a.input j → h ≡ opened_with (eqb j 0) heads a.input j
        → x ≡ opened_with false crossed a.input j → b ≡ opened_with false buffered a.input j
        → SetsOf t1 (places_in t1) l h x b
    unfolding accepted
    sets-arrived fits t1 e j at l h x b l-is h-is x-is b-is =
        let state : state_of t1 ≡ entered cell (state_of t0) =
        ap state_of e ∙ state_of-encode (entered cell (state_of t0)) (may.next fits) in
        let good : IsTable t1 =
        ap decode e ∙ decode-encode (entered cell (state_of t0)) (may.next fits) ∙ ap some (sym state) in
        rw (l-is, h-is, x-is, b-is, at)
        (sets-entered t0 t1 may.sound good cell state may.input listed heads crossed buffered w _ _ _ _ refl refl
        refl refl)
