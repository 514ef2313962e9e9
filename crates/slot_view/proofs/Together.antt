-- In the list of an input the cells of a flow stand together, by their numbers.
use Prim.Native.Nat.{ℕ, suc, ◌+◌, ◌*◌, ◌-◌, ◌/◌, ◌≤◌, ◌<◌}
use native.Mathlib.Omega.{arith}
use mathlib.Core.Bool.{Bool, true}
use mathlib.Core.Path.{◌≡◌, sym, ◌∙◌, ap, subst}
use mathlib.Core.List.Memᴰ
use mathlib.Core.List.{List, [], ◌∷◌, ◌++◌, map, map-append, Memᴰ}
use lib.ListN.{get_or}
use Rattle.laws.specs.Lists.{keep, numbers_from, up_to}
use Rattle.laws.proofs.Lists.{none?-clash, keep_append, keep-pass, keep-mem}
use Rattle.laws.proofs.Numbers.{numbers_from-add, numbers_from-at, numbers_from-mem}
use Rattle.cell.specs.Flow.{same_flow}
use Rattle.cell.specs.Limits.{section_room}
use Rattle.cell.proofs.Flow.{flow-sym, flow-trans}
use Rattle.model.specs.State.{Entry, is_listed}
use Rattle.model.specs.Sound.{together}
use Rattle.model.proofs.SoundLaws.{of_flow, Next, follows, last, together-next, together-tail, sections-e}
use Rattle.layout.specs.Entry.{entry_at, count_in}
use Rattle.layout.specs.Table.{place_of, state_of, IsTable}
use Rattle.layout.proofs.Table.{decode-sound, sound-sections}
use Rattle.layout.specs.Code.{ports_in}
use Rattle.slot_view.specs.CodeView.{InTable, places_in}
use Rattle.slot_view.specs.CodeSections.{entry_placed, section_placed, sections_placed}
use Rattle.slot_view.proofs.Own.{own-sections}

-- of three listed cells of an input the middle one is of the flow of the others, where these are of one flow
abbrev pub Contiguous : List ℕ → List ℕ → Type 0
Contiguous table places =
    (a b c : ℕ) → InTable table a → InTable table b → InTable table c → a / section_room ≡ c / section_room
    → a < b → b < c → is_listed (place_of (get_or places a 0)) ≡ true → is_listed (place_of (get_or places b 0)) ≡ true
    → is_listed (place_of (get_or places c 0)) ≡ true → same_flow (entry_at table a).cell (entry_at table c).cell ≡ true
    → same_flow (entry_at table a).cell (entry_at table b).cell ≡ true

-- the same in a list of entries
together-between : (ports : ℕ) (e : Entry) (mid : List Entry) (f : Entry) (post : List Entry) {g : Entry}
    → together ports (e ∷ mid ++ f ∷ post) ≡ true → Memᴰ g post → of_flow e g ≡ true → of_flow e f ≡ true
together-between ports e [] f post {g} h m s = go (together-next ports e f post h)
  where
    go : Next ports e f post → of_flow e f ≡ true
    go (follows t o) = t
    go (last n) = absurd (none?-clash (of_flow e) n (Memᴰ.tail m) s)
together-between ports e (x ∷ mid) f post {g} h m s =
    go (together-next ports e x (mid ++ f ∷ post) h)
    (together-between ports x mid f post (together-tail ports e (x ∷ mid ++ f ∷ post) h) m)
  where
    go : Next ports e x (mid ++ f ∷ post) → (of_flow x g ≡ true → of_flow x f ≡ true) → of_flow e f ≡ true
    go (follows t o) rec =
        flow-trans e.cell x.cell f.cell t
        (rec (flow-trans x.cell e.cell g.cell (flow-sym e.cell x.cell t) s))
    go (last n) rec =
        absurd
        (none?-clash (of_flow e) n (Memᴰ.tail (Memᴰ.append_right mid (Memᴰ.tail m))) s)

together-behind : (ports : ℕ) (pre : List Entry) (l : List Entry) → together ports (pre ++ l) ≡ true
    → together ports l ≡ true
together-behind ports [] l h = h
together-behind ports (e ∷ pre) l h = together-behind ports pre l (together-tail ports e (pre ++ l) h)

-- a run of numbers, with one of them in sight
numbers-split : (k n a : ℕ) → k ≤ a → a < k + n
    → numbers_from k n ≡ numbers_from k (a - k) ++ a ∷ numbers_from (a + 1) (k + n - (a + 1))
unfolding numbers_from
numbers-split k n a low high =
    let size : n ≡ a - k + suc (k + n - (a + 1)) = omega arith in
    let at : k + (a - k) ≡ a = omega arith in
    ap (numbers_from k) size
    ∙ numbers_from-add k (a - k) (suc (k + n - (a + 1)))
    ∙ ap (λ b. numbers_from k (a - k) ++ b ∷ numbers_from (b + 1) (k + n - (a + 1))) at

-- entries made from a run of numbers
module _ (f : ℕ → Entry) where
  chosen : ℕ → ℕ → List Entry
  chosen k n = keep (λ e. is_listed e.place) (map f (numbers_from k n))

  chosen-split : (k n a : ℕ) → k ≤ a → a < k + n → is_listed (f a).place ≡ true
      → chosen k n ≡ chosen k (a - k) ++ f a ∷ chosen (a + 1) (k + n - (a + 1))
  unfolding chosen
  chosen-split k n a low high h =
      let front = map f (numbers_from k (a - k)) in
      let back = map f (numbers_from (a + 1) (k + n - (a + 1))) in
      let listed : Entry → Bool = λ e. is_listed e.place in
      ap (λ l. keep listed (map f l)) (numbers-split k n a low high)
      ∙ ap (keep listed) (map-append f (numbers_from k (a - k)) (a ∷ numbers_from (a + 1) (k + n - (a + 1))))
      ∙ keep_append listed front (f a ∷ back)
      ∙ ap (λ l. keep listed front ++ l) (keep-pass listed (f a) back h)

  run-between : (ports k n a b c : ℕ) → k ≤ a → a < b → b < c → c < k + n → together ports (chosen k n) ≡ true
      → is_listed (f a).place ≡ true → is_listed (f b).place ≡ true → is_listed (f c).place ≡ true
      → of_flow (f a) (f c) ≡ true → of_flow (f a) (f b) ≡ true
  unfolding chosen
  run-between ports k n a b c low ab bc high h la lb lc s =
      let m : ℕ = k + n - (a + 1) in
      let o : ℕ = a + 1 + m - (b + 1) in
      let first : together ports (f a ∷ chosen (a + 1) m) ≡ true =
      together-behind ports (chosen k (a - k)) (f a ∷ chosen (a + 1) m)
      (sym (ap (together ports) (chosen-split k n a low (omega arith) la)) ∙ h) in
      let second : together ports (f a ∷ chosen (a + 1) (b - (a + 1)) ++ f b ∷ chosen (b + 1) o) ≡ true =
      sym (ap (λ l. together ports (f a ∷ l)) (chosen-split (a + 1) m b (omega arith) (omega arith) lb)) ∙ first in
      together-between ports (f a) (chosen (a + 1) (b - (a + 1))) (f b) (chosen (b + 1) o) second
      (keep-mem (λ e. is_listed e.place) (Memᴰ.map f (numbers_from-mem (b + 1) o (omega arith) (omega arith))) lc) s

module _ (table : List ℕ) (good : IsTable table) where
  section : (input : ℕ) → input < ports_in table
      → get_or (state_of table).sections input [] ≡ section_placed table (places_in table) input
  unfolding sections_placed up_to
  section input h =
      ap (λ l. get_or l input []) (sym (own-sections table good))
      ∙ numbers_from-at (section_placed table (places_in table)) 0 (ports_in table) input [] h
      ∙ ap (section_placed table (places_in table)) (omega arith)

  pub contiguous : Contiguous table (places_in table)
  unfolding section_placed entry_placed chosen ports_in state_of
  contiguous a b c ta tb tc same ab bc la lb lc flow =
      let s = state_of table in
      let input : ℕ = a / section_room in
      let flows : together (ports_in table) (chosen (entry_placed table (places_in table)) (section_room * input) (count_in table input)) ≡ true =
      sym (ap (λ l. together (ports_in table) (keep (λ e. is_listed e.place) l)) (section input ta.input))
      ∙ (sections-e s.ports s.clock s.sections (sound-sections s (decode-sound table s good)) input).flows in
      let end : c < section_room * input + count_in table input =
      subst (λ i. c < section_room * i + count_in table i) (sym same) tc.position in
      run-between (entry_placed table (places_in table)) (ports_in table) (section_room * input) (count_in table input) a b c
      (omega arith) ab bc end flows la lb lc flow
