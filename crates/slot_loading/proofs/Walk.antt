-- A loop over the set of those entries of an input that pass a test: the members below a bound are passed, the others
-- left.
--     Walk, walk-            by positions
--     section-               by the numbers of the entries
--     Passing, passing-      with what holds of the entries below a number
use Prim.Native.Nat.{ℕ, ◌+◌, ◌-◌, ◌*◌, ◌/◌, ◌^◌, ◌≤◌, ◌<◌}
use native.Mathlib.Omega.{arith}
use mathlib.Core.Bool.{Bool, true, not, ◌&&◌}
use mathlib.Core.Path.{◌≡◌, sym, ◌∙◌, ap, subst}
use mathlib.Core.List.{List}
use borrow.Author.Tests.{ltb-true, lt-ltb, eqb-false, ne_eqb, not-true}
use lib.Dec.{ltb, eqb}
use Rattle.laws.proofs.Tests.{clash, and_i, and_l, and_r, not-i}
use Rattle.sets.specs.Sets.{positions, has, set_from, first_of}
use Rattle.sets.proofs.Digits.{has-past}
use Rattle.sets.proofs.Members.{has-set_from, has-without_one, first-position, first_member, first-before, rest-less}
use Rattle.sets.proofs.Members.{set_from-fits}
use Rattle.cell.specs.Limits.{section_room}
use Rattle.laws.proofs.Compared.{Compared, below, equal, above, compare}
use Rattle.sets.specs.Code.{rest_of}
use Rattle.layout.specs.Entry.{count_in}
use Rattle.layout.specs.Table.{state_of, IsTable}
use Rattle.layout.specs.Code.{ports_in}
use Rattle.slot_view.specs.CodeView.{InTable}
use Rattle.slot_view.proofs.Own.{table-readable}
use Rattle.slot_view.proofs.Placed.{in_table-number}

------------------------------------------------------------------------
-- by positions

pub record Walk (set bound left : ℕ) : Type 0 where
  pub fits : left < 2 ^ positions
  pub passed : (j : ℕ) → has left j ≡ true → (has set j ≡ true) × (bound ≤ j)
  pub rest : (j : ℕ) → has set j ≡ true → bound ≤ j → has left j ≡ true
  pub limit : bound ≤ positions

pub walk_start : (set : ℕ) → set < 2 ^ positions → Walk set 0 set
walk_start set h = record { fits = h; passed = λ j t. (t, omega arith); rest = λ j t l. t; limit = omega arith }

-- a member is a position
member_below : (set j : ℕ) → set < 2 ^ positions → has set j ≡ true → j < positions
member_below set j h t = go (compare j positions)
  where
    go : Compared j positions → j < positions
    go (below l) = l
    go (equal l) = absurd (clash t (has-past positions set j h (omega arith)))
    go (above l) = absurd (clash t (has-past positions set j h (omega arith)))

module _ {set bound left : ℕ} (w : Walk set bound left) (some : 0 < left) where
  pub walk-position : first_of left < positions
  walk-position = first-position left some w.fits

  pub walk-member : (has set (first_of left) ≡ true) × (bound ≤ first_of left)
  walk-member = w.passed (first_of left) (first_member left some w.fits)

  -- none is left before the first
  pub walk_none : (j : ℕ) → bound ≤ j → j < first_of left → has set j ≡ true → ⊥
  walk_none j l h t = clash (w.rest j t l) (first-before left j h)

  pub walk-next : set < 2 ^ positions → Walk set (first_of left + 1) (rest_of left)
  unfolding rest_of
  walk-next few =
      record {
        fits = omega (arith, w.fits, rest-less left some w.fits);
        passed = λ j t. let small = member_below (rest_of left) j (omega (arith, w.fits, rest-less left some w.fits)) t in
            go j (sym (has-without_one left (first_of left) j small) ∙ t) (compare j (first_of left));
        rest =
            λ j t l.
            has-without_one left (first_of left) j (member_below set j few t)
            ∙ and_i (has left j) _ (w.rest j t (omega (arith, walk-member.1)))
            (not-i _ (ne_eqb j (first_of left) (omega arith)));
        limit = omega (arith, walk-position);
      }
    where
      go : (j : ℕ) → (has left j && not (eqb j (first_of left))) ≡ true → Compared j (first_of left)
          → (has set j ≡ true) × (first_of left + 1 ≤ j)
      go j t c =
          let old = w.passed j (and_l (has left j) _ t) in
          (old.0, later (and_l (has left j) _ t) (and_r (has left j) _ t) c)
        where
          later : has left j ≡ true → not (eqb j (first_of left)) ≡ true → Compared j (first_of left) → first_of left + 1 ≤ j
          later here other (below l) = absurd (clash here (first-before left j l))
          later here other (equal l) = absurd (eqb-false j (first_of left) (not-true _ other) l)
          later here other (above l) = omega arith

pub walk_end : {set bound left : ℕ} → Walk set bound left → left ≡ 0 → (j : ℕ) → bound ≤ j → has set j ≡ true → ⊥
walk_end {set} {bound} {left} w none j l t =
    clash (w.rest j t l) (ap (λ s. has s j) none ∙ has-past 0 0 j (omega arith) (omega arith))

------------------------------------------------------------------------
-- by the numbers of the entries

module _ (table : List ℕ) (good : IsTable table) (input : ℕ) (port : input < ports_in table) (p : ℕ → Bool) where
  few : count_in table input ≤ section_room
  few = (table-readable table good).counts input (omega (arith, (table-readable table good).ports))

  pub section-fits : set_from p (section_room * input) (count_in table input) < 2 ^ positions
  section-fits = set_from-fits p (section_room * input) (count_in table input) few

  -- a member is the position of an entry that passes
  pub section-member : (j : ℕ) → has (set_from p (section_room * input) (count_in table input)) j ≡ true
      → InTable table (section_room * input + j) × (p (section_room * input + j) ≡ true)
  section-member j t =
      let both = sym (has-set_from p (section_room * input) (count_in table input) j) ∙ t in
      let small = ltb-true j (count_in table input) (and_l _ (p (section_room * input + j)) both) in (
        in_table-number table (state_of table) good input (section_room * input + j) port (omega arith) (omega arith),
        and_r (ltb j (count_in table input)) (p (section_room * input + j)) both,
      )

  -- and the position of such an entry is a member
  section-has : (k : ℕ) → InTable table k → p k ≡ true → k / section_room ≡ input
      → has (set_from p (section_room * input) (count_in table input)) (k - section_room * input) ≡ true
  section-has k t pass own =
      let at : section_room * input + (k - section_room * input) ≡ k = omega arith in
      let end : k < section_room * input + count_in table input =
      subst (λ i. k < section_room * i + count_in table i) own t.position in
      has-set_from p (section_room * input) (count_in table input) (k - section_room * input)
      ∙ and_i (ltb (k - section_room * input) (count_in table input)) _
      (lt-ltb (k - section_room * input) (count_in table input) (omega arith)) (ap p at ∙ pass)

  module _ {bound left : ℕ} (w : Walk (set_from p (section_room * input) (count_in table input)) bound left) where
    -- no entry that passes comes between those passed and the next
    pub section-none : 0 < left → (k : ℕ) → section_room * input + bound ≤ k → k < section_room * input + first_of left
        → InTable table k → p k ≡ true → ⊥
    section-none some k low high t pass =
        let small : first_of left < 64 = walk-position w some in
        walk_none w some (k - section_room * input) (omega arith) (omega arith)
        (section-has k t pass (omega arith))

    pub section-end : left ≡ 0 → (k : ℕ) → section_room * input + bound ≤ k → k < section_room * (input + 1)
        → InTable table k → p k ≡ true → ⊥
    section-end none k low high t pass =
        walk_end w none (k - section_room * input) (omega arith) (section-has k t pass (omega arith))

------------------------------------------------------------------------
-- what holds of the entries below a number, as the loop goes on

pub record Passing (set first left : ℕ) (Below : ℕ → Type 0) : Type 0 where
  pub bound : ℕ
  pub walk : Walk set bound left
  pub below : Below (first + bound)

module _ (table : List ℕ) (good : IsTable table) (input : ℕ) (port : input < ports_in table) (p : ℕ → Bool) where
  pub passing-start : {Below : ℕ → Type 0} → Below (section_room * input)
      → Passing (set_from p (section_room * input) (count_in table input)) (section_room * input)
      (set_from p (section_room * input) (count_in table input)) Below
  passing-start {Below} b =
      let at : section_room * input ≡ section_room * input + 0 = omega arith in
      record { bound = 0; walk = walk_start _ (section-fits table good input port p); below = subst Below at b }

  -- it holds up to a later number too, if no entry that passes comes before that
  module _ {left : ℕ} {Below : ℕ → Type 0}
      (wider : (end later : ℕ) → end ≤ later
      → ((k : ℕ) → end ≤ k → k < later → InTable table k → p k ≡ true → ⊥) → Below end → Below later)
      (w : Passing (set_from p (section_room * input) (count_in table input)) (section_room * input) left Below) where
    pub passing-end : left ≡ 0 → Below (section_room * (input + 1))
    passing-end done =
        wider (section_room * input + w.bound) (section_room * (input + 1))
        (omega (arith, w.walk.limit)) (section-end table good input port p w.walk done)
        w.below

    module _ (some : 0 < left) where
      -- the entry at hand
      pub passing-this : InTable table (section_room * input + first_of left) × (p (section_room * input + first_of left) ≡ true)
      passing-this = section-member table good input port p (first_of left) (walk-member w.walk some).0

      pub passing-below : Below (section_room * input + first_of left)
      passing-below =
          wider (section_room * input + w.bound) (section_room * input + first_of left)
          (omega (arith, (walk-member w.walk some).1)) (section-none table good input port p w.walk some) w.below

      pub passing-next : {Next : ℕ → Type 0} → Next (section_room * input + first_of left + 1)
          → Passing (set_from p (section_room * input) (count_in table input)) (section_room * input) (rest_of left) Next
      passing-next {Next} b =
          let at : section_room * input + first_of left + 1 ≡ section_room * input + (first_of left + 1) = omega arith in
          record {
            bound = first_of left + 1;
            walk = walk-next w.walk some (section-fits table good input port p);
            below = subst Next at b;
          }
