-- A column whose places are those after a phase makes the waiting cells those that the phase has relocated.
use Prim.Native.Nat.{ℕ, ◌+◌, ◌*◌, ◌<◌, ◌≤◌}
use native.Mathlib.Omega.{arith}
use mathlib.Core.Path.{◌≡◌, refl, sym, ◌∙◌, ap₂}
use mathlib.Core.List.{List, [], ◌∷◌, ◌++◌, map, map-append, flatten, Memᴰ}
use lib.ListN.{get_or}
use Rattle.laws.specs.Lists.{numbers_from, up_to}
use Rattle.laws.proofs.Numbers.{mem-numbers_from}
use Rattle.cell.specs.Limits.{section_room}
use Rattle.model.specs.Phase.{Waiting, Phase, place_after}
use Rattle.model.specs.CodeSlackness.{relocate, relocated}
use Rattle.layout.specs.Entry.{entry_at, count_in}
use Rattle.layout.specs.Table.{place_of}
use Rattle.layout.specs.Code.{ports_in}
use Rattle.slot_view.specs.CodeView.{waiting_at, window, in_table, InTable}
use Rattle.slot_view.specs.CodeScan.{Readable}
use Rattle.slot_view.proofs.Window.{in_table-section}

module _ {A B C : Type 0} (f : B → C) (g : A → C) (h : A → B) where
  map-through : (l : List A) → ((x : A) → Memᴰ x l → g x ≡ f (h x)) → map g l ≡ map f (map h l)
  map-through [] e = refl
  map-through (x ∷ l) e = ap₂ ◌∷◌ (e x (Memᴰ.head refl)) (map-through l (λ y m. e y (Memᴰ.tail m)))

module _ {A B C : Type 0} (f : B → C) (g : A → List C) (h : A → List B) where
  pub flatten-through : (l : List A) → ((x : A) → Memᴰ x l → g x ≡ map f (h x))
      → flatten (map g l) ≡ map f (flatten (map h l))
  unfolding flatten
  flatten-through [] e = refl
  flatten-through (x ∷ l) e =
      ap₂ ◌++◌ (e x (Memᴰ.head refl)) (flatten-through l (λ y m. e y (Memᴰ.tail m)))
      ∙ sym (map-append f (h x) (flatten (map h l)))

module _ {table : List ℕ} (r : Readable table) where
  pub in_table-relocated : (p : Phase) (places places' : List ℕ)
      → ((k : ℕ) → InTable table k → place_of (get_or places' k 0) ≡ place_after p (waiting_at table places k))
      → in_table table places' ≡ relocated p (in_table table places)
  unfolding in_table relocated relocate window up_to waiting_at
  in_table-relocated p places places' after =
      flatten-through (relocate p) (section places') (section places) (up_to (ports_in table)) (λ i m.
      map-through (relocate p) (waiting_at table places') (waiting_at table places)
      (numbers_from (section_room * i) (count_in table i)) (λ k j.
      one k (entry i k (mem-numbers_from 0 (ports_in table) m) (mem-numbers_from (section_room * i) (count_in table i) j))))
    where
      section : List ℕ → ℕ → List Waiting
      section l i = window table l i (count_in table i)

      entry : (i k : ℕ) → (0 ≤ i) × (i < 0 + ports_in table)
          → (section_room * i ≤ k) × (k < section_room * i + count_in table i) → InTable table k
      entry i k a b = in_table-section r i k (omega arith) b.0 b.1

      one : (k : ℕ) → InTable table k → waiting_at table places' k ≡ relocate p (waiting_at table places k)
      one k i = λ x. record { at = k; cell = (entry_at table k).cell; place = after k i x }
