-- Of the listed entries of a run, the first of each flow are those that the table's rules call heads.
use Prim.Native.Nat.{ℕ, ◌+◌, ◌-◌, ◌*◌, ◌/◌, ◌%◌, ◌≤◌, ◌<◌}
use mathlib.Core.Bool.{Bool, true, false, ◌&&◌}
use mathlib.Core.Path.{◌≡◌, refl, sym, ◌∙◌, ap, ap₂}
use mathlib.Core.List.{List}
use native.Mathlib.Omega.{arith}
use borrow.Author.Tests.{ltb-true, lt-ltb}
use lib.Dec.{ltb}
use Rattle.laws.specs.Lists.{none?, up_to, numbers_from, between}
use Rattle.laws.proofs.Lists.{none?-ext, none?-map}
use Rattle.laws.proofs.Numbers.{mem-numbers_from}
use Rattle.sets.specs.Sets.{has, set_from}
use Rattle.sets.proofs.Members.{set_of-is, set_from-fits, has-set_from, numbers_from-shift}
use Rattle.cell.specs.Limits.{section_room}
use Rattle.model.specs.State.{is_listed}
use Rattle.layout.specs.Entry.{entry_at}
use Rattle.slot_section.specs.Code.{is_first_of_flow, heads_in}
use Rattle.slot_section.proofs.Grouping.{of_flow}
use Rattle.slot_check.specs.Handed.{is_first}

pub heads-set : (bs : List ℕ) (first n : ℕ) → n ≤ section_room → ◌≡◌ {A = ℕ} (first % section_room) 0
    → heads_in bs first (set_from (λ k. is_listed (entry_at bs k).place) first n)
    ≡ set_from (is_first bs (first / section_room)) first n
unfolding heads_in is_first is_first_of_flow between up_to
heads-set bs first n few start =
    sym (set_of-is (is_first_of_flow bs first listed) (set_from (is_first bs (first / section_room)) first n)
    (set_from-fits (is_first bs (first / section_room)) first n few)
    (λ j h. has-set_from (is_first bs (first / section_room)) first n j
    ∙ split (ltb j n) (is_in (first + j)) _ _ (λ t. front j (ltb-true j n t))
    ∙ ap (λ b. b && none? (λ a. has listed a && of_flow (entry_at bs (first + a)) (entry_at bs (first + j))) (up_to j))
    (sym (has-set_from is_in first n j))))
  where
    is_in : ℕ → Bool
    is_in k = is_listed (entry_at bs k).place

    listed : ℕ
    listed = set_from is_in first n

    split : (b x y z : Bool) → (b ≡ true → y ≡ z) → (b && (x && y)) ≡ ((b && x) && z)
    split true x y z h = ap (λ y. x && y) (h refl)
    split false x y z h = refl

    front : (j : ℕ) → j < n
        → none? (λ a. is_in a && of_flow (entry_at bs a) (entry_at bs (first + j)))
        (between (section_room * (first / section_room)) (first + j))
        ≡ none? (λ a. has listed a && of_flow (entry_at bs (first + a)) (entry_at bs (first + j))) (up_to j)
    front j inside =
        let e = entry_at bs (first + j) in
        let from : section_room * (first / section_room) ≡ first + 0 = omega arith in
        let size : first + j - section_room * (first / section_room) ≡ j = omega arith in
        ap (none? (λ a. is_in a && of_flow (entry_at bs a) e))
        (ap₂ numbers_from from size ∙ sym (numbers_from-shift first 0 j))
        ∙ none?-map (λ a. is_in a && of_flow (entry_at bs a) e) (λ a. first + a) (numbers_from 0 j)
        ∙ none?-ext _ (λ a. has listed a && of_flow (entry_at bs (first + a)) e) (numbers_from 0 j)
        (λ a m. ap (λ b. b && of_flow (entry_at bs (first + a)) e)
        (sym
        (has-set_from is_in first n a
        ∙ ap (λ b. b && is_in (first + a)) (lt-ltb a n (omega (arith, mem-numbers_from 0 j m))))))
