-- Arrival on the bytes.
--     in-list-word                           an entry in the list of a flow, by the first number of its record
--     place-front, place-behind, place-below  how many entries stand before a new cell
--     enter-place                            entering puts it behind them
--     place_found, place_none                the same by the entries' numbers
--     new-written                            a new entry written over a record
--     place-within, entered-bytes            the bytes of a switch that a cell has entered
use Prim.Native.Nat.{ℕ, suc, ◌+◌, ◌*◌, ◌-◌, ◌≤◌, ◌<◌}
use mathlib.Core.Bool.{Bool, true, false, ◌&&◌}
use mathlib.Core.Path.{◌≡◌, refl, sym, ◌∙◌, ap, ap₂, subst}
use mathlib.Core.List.{List, [], ◌∷◌, ◌++◌, Memᴰ}
use native.Mathlib.Numerals.{add-one}
use native.Mathlib.Omega.{arith}
use borrow.Author.Tests.{eq-eqb, eqb-true, eqb-false}
use lib.Dec.{eqb}
use lib.ListN.{length, take, drop, set, get_or, length-append, length-drop}
use lib.Seq.{take_at, drop_at, length-take-le, split_at, get_or-drop, append_snoc}
use Rattle.laws.specs.Lists.{some?, none?}
use Rattle.laws.proofs.Tests.{same, and_i, and_l, and_r}
use Rattle.laws.proofs.Lists.{some?-i, some?-false}
use Rattle.cell.specs.declared.Cell.{Cell}
use Rattle.cell.specs.Flow.{same_flow}
use Rattle.cell.specs.Limits.{section_room}
use Rattle.model.specs.State.{Entry, is_listed}
use Rattle.model.specs.Crossbar.{in_list_of, new_entry, enter}
use Rattle.model.proofs.SoundArrival.{Enters, front, behind, enters}
use Rattle.layout.specs.Entry.{entry_at, count_in}
use Rattle.layout.specs.Code.{record_start, put, ports_in}
use Rattle.layout.specs.Table.{entry_size, place_of, entry_bytes, state_of, encode, IsTable}
use Rattle.layout_table.specs.CodeEntries.{entry_with, flow_word}
use Rattle.layout_table.proofs.Places.{place_of-listed}
use Rattle.slot_arrival.specs.CodeArrival.{entered, enter_place, moved_up}
use Rattle.slot_faults.specs.CodeFault.{section_in}
use Rattle.slot_faults.proofs.Faults.{none?-at}
use Rattle.slot_arrival.proofs.Insert.{changed_at, inserted-bytes}
use Rattle.slot_faults.proofs.Stored.{section-length, section-entry}

------------------------------------------------------------------------
-- an entry in the list of a flow

in-list-listed : (c : Cell) (e : Entry) (b : ℕ) → place_of b ≡ e.place → in_list_of c e ≡ eqb b 1 && same_flow e.cell c
unfolding in_list_of
in-list-listed c e b q = ap (λ x. x && same_flow e.cell c) (ap is_listed (sym q) ∙ place_of-listed b)

-- by the first number of its record
pub in-list-word : (c : Cell) (e : Entry) (b n flow : ℕ) → place_of b ≡ e.place → n ≡ flow_word e.cell + 65536 * b
    → flow_word e.cell < 65536 → flow < 65536 → eqb (flow_word e.cell) flow ≡ same_flow e.cell c
    → eqb n (flow + 65536) ≡ in_list_of c e
in-list-word c e b n flow q word small few own =
    same (eqb n (flow + 65536)) (eqb b 1 && eqb (flow_word e.cell) flow)
    (λ h.
    let equal : n ≡ flow + 65536 = eqb-true n (flow + 65536) h in
    and_i (eqb b 1) _ (eq-eqb b 1 (omega arith)) (eq-eqb (flow_word e.cell) flow (omega arith)))
    (λ h.
    let place : b ≡ 1 = eqb-true b 1 (and_l (eqb b 1) _ h) in
    let equal : flow_word e.cell ≡ flow = eqb-true _ flow (and_r (eqb b 1) _ h) in
    eq-eqb n (flow + 65536) (omega arith))
    ∙ ap (λ x. eqb b 1 && x) own
    ∙ sym (in-list-listed c e b q)

------------------------------------------------------------------------
-- how many entries stand before a new cell

pub place-front : (c : Cell) (es : List Entry) → none? (in_list_of c) es ≡ true → ◌≡◌ {A = ℕ} (enter_place c es) 0
unfolding enter_place
place-front c [] h = refl
place-front c (e ∷ es) h = rw (some?-false (in_list_of c) (e ∷ es) h, enter_place)

-- the last one of its flow in the list
pub place-behind : (c : Cell) (pre : List Entry) (e : Entry) (post : List Entry) → in_list_of c e ≡ true
    → none? (in_list_of c) post ≡ true → enter_place c (pre ++ e ∷ post) ≡ suc (length pre)
unfolding enter_place
place-behind c [] e post h n =
    rw (some?-i (in_list_of c) {l = e ∷ post} (mathlib.Core.List.Memᴰ.head refl) h, enter_place) (ap suc (place-front c post n))
place-behind c (x ∷ pre) e post h n =
    let there : Memᴰ e (x ∷ (pre ++ e ∷ post)) = mathlib.Core.List.Memᴰ.tail (mathlib.Core.List.Memᴰ.append_right pre (mathlib.Core.List.Memᴰ.head refl)) in
    rw (some?-i (in_list_of c) there h, enter_place) (ap suc (place-behind c pre e post h n))

pub place-below : (c : Cell) (es : List Entry) → enter_place c es ≤ length es
unfolding enter_place
place-below c [] = omega arith
place-below c (e ∷ es) = go (some? (in_list_of c) (e ∷ es)) (place-below c es)
  where
    go : (b : Bool) → enter_place c es ≤ length es
        → elim b [ true ↦ suc (enter_place c es) | false ↦ 0 ] ≤ suc (length es)
    go true h = omega arith
    go false h = omega arith

pub enter-place : (c : Cell) (es : List Entry)
    → enter c es ≡ take (enter_place c es) es ++ new_entry c ∷ drop (enter_place c es) es
enter-place c es = go (enters c es)
  where
    go : Enters c es → enter c es ≡ take (enter_place c es) es ++ new_entry c ∷ drop (enter_place c es) es
    go (front n e) = rw (place-front c es n) e
    go (behind pre d post s f n e) =
        let size : length (pre ++ (d ∷ [])) ≡ enter_place c es =
        length-append pre (d ∷ [])
        ∙ add-one (length pre)
        ∙ sym (place-behind c pre d post f n)
        ∙ sym (ap (enter_place c) s) in
        let split : es ≡ (pre ++ (d ∷ [])) ++ post = s ∙ sym (append_snoc pre d post) in
        e
        ∙ sym (append_snoc pre d (new_entry c ∷ post))
        ∙ sym (ap₂ (λ x y. x ++ new_entry c ∷ y)
        (ap (take (enter_place c es)) split ∙ take_at (pre ++ (d ∷ [])) post (enter_place c es) size)
        (ap (drop (enter_place c es)) split ∙ drop_at (pre ++ (d ∷ [])) post (enter_place c es) size))

-- what holds from k on, and at the number before
pub above_more : (P : ℕ → Type 0) (k : ℕ) → 0 < k → P (k - 1) → ((j : ℕ) → k ≤ j → P j) → (j : ℕ) → k - 1 ≤ j → P j
above_more P k some here later j h = go (eqb j (k - 1)) refl
  where
    go : (b : Bool) → eqb j (k - 1) ≡ b → P j
    go true e = subst P (sym (eqb-true j (k - 1) e)) here
    go false e = later j (omega (arith, eqb-false j (k - 1) e))

-- by the numbers of the entries
module _ (bs : List ℕ) (t : IsTable bs) (c : Cell) (within : c.input < ports_in bs) where
  abbrev InFlow : ℕ → Bool
  InFlow k = in_list_of c (entry_at bs k)

  abbrev es : List Entry
  es = section_in bs c.input

  none_from : (q : ℕ) → ((j : ℕ) → section_room * c.input + q ≤ j → j < section_room * c.input + count_in bs c.input
      → InFlow j ≡ false) → none? (in_list_of c) (drop q es) ≡ true
  none_from q h =
      none?-at (in_list_of c) (drop q es) (entry_at bs 0) (λ j b.
      let size : length es ≡ count_in bs c.input = section-length bs t c.input within in
      let few : q + j < count_in bs c.input = omega (arith, length-drop q es) in
      ap (in_list_of c)
      (get_or-drop q es j (entry_at bs 0) ∙ section-entry bs t c.input within (q + j) (entry_at bs 0) few)
      ∙ h (section_room * c.input + (q + j)) (omega arith) (omega arith))

  pub place_none : ((j : ℕ) → section_room * c.input ≤ j → j < section_room * c.input + count_in bs c.input
      → InFlow j ≡ false) → section_room * c.input ≡ section_room * c.input + enter_place c es
  place_none h =
      let none : ◌≡◌ {A = ℕ} (enter_place c es) 0 =
      place-front c es (none_from 0 (λ j a b. h j (omega arith) b)) in
      omega arith

  pub place_found : (k : ℕ) → section_room * c.input < k → k ≤ section_room * c.input + count_in bs c.input
      → InFlow (k - 1) ≡ true
      → ((j : ℕ) → k ≤ j → j < section_room * c.input + count_in bs c.input → InFlow j ≡ false)
      → k ≡ section_room * c.input + enter_place c es
  place_found k low high h later =
      let q : ℕ = k - 1 - section_room * c.input in
      let size : length es ≡ count_in bs c.input = section-length bs t c.input within in
      let few : q < count_in bs c.input = omega arith in
      let inside : q < length es = omega arith in
      let back : section_room * c.input + q ≡ k - 1 = omega arith in
      let e : Entry = get_or es q (entry_at bs 0) in
      let here : in_list_of c e ≡ true =
      ap (in_list_of c) (section-entry bs t c.input within q (entry_at bs 0) few ∙ ap (entry_at bs) back) ∙ h in
      let none : none? (in_list_of c) (drop (suc q) es) ≡ true =
      none_from (suc q) (λ j a b. later j (omega arith) b) in
      let place : enter_place c es ≡ suc (length (take q es)) =
      ap (enter_place c) (split_at es q (entry_at bs 0) inside)
      ∙ place-behind c (take q es) e (drop (suc q) es) here none in
      let count : length (take q es) ≡ q = length-take-le q es (omega arith) in
      omega arith

------------------------------------------------------------------------
-- the entry of a new cell

-- written over a record
pub new-written : (k : ℕ) (c : Cell) (bs : List ℕ)
    → put (record_start k) entry_size (entry_bytes (entry_with c 1)) bs
    ≡ put (record_start k) entry_size (entry_bytes (new_entry c)) bs
unfolding entry_with new_entry place_of
new-written k c bs = refl

------------------------------------------------------------------------
-- a cell enters

module _ (bs : List ℕ) (t : IsTable bs) (c : Cell) (within : c.input < ports_in bs)
    (room : count_in bs c.input < section_room) where
  abbrev here : List Entry
  here = section_in bs c.input

  pub place-within : enter_place c (section_in bs c.input) ≤ count_in bs c.input
  place-within = omega (arith, place-below c here, section-length bs t c.input within)

  -- the entry is put where the others have been moved up, and the count is raised
  pub entered-bytes : (at count : ℕ) (moved new : List ℕ)
      → at ≡ section_room * c.input + enter_place c (section_in bs c.input) → count ≡ count_in bs c.input
      → moved ≡ moved_up (record_start at) (record_start (section_room * c.input + count)) entry_size bs
      → new ≡ put (record_start at) entry_size (entry_bytes (new_entry c)) moved
      → set new (16 + c.input) (count + 1) ≡ encode (entered c (state_of bs))
  unfolding entered changed_at
  entered-bytes =
      inserted-bytes bs t c.input within room (enter_place c here) place-within (new_entry c) (enter c)
      (enter-place c here)
