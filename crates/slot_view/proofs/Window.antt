-- The waiting cells as a table has them: section by section, each a window.
--     numbers_from-, run-      a run of numbers rises, and a list for each number
--     waiting_at-              the fields of the cell with a number
--     window-                 the first cells of an input
--     in_table-i, in_table-e    the waiting cells are those whose number is in the table
--     of_input-window          those of an input are its window
use Prim.Native.Nat.{ℕ, zero, suc, ◌+◌, ◌*◌, ◌/◌, ◌<◌, ◌≤◌}
use native.Mathlib.Omega.{arith}
use mathlib.Core.Bool.{Bool, true, false}
use mathlib.Core.Path.{◌≡◌, refl, sym, ◌∙◌, ap, ap₂, subst}
use mathlib.Core.Logic.{◌⊎◌, inl, inr, ◌≢◌}
use mathlib.Core.List.{List, [], ◌++◌, map, flatten, append-nil, Memᴰ}
use mathlib.Core.List.Memᴰ
use borrow.Author.Tests.{eq-eqb, ne_eqb}
use lib.Dec.{eqb}
use lib.ListN.{get_or}
use Rattle.laws.specs.Lists.{keep, pairwise, numbers_from, up_to}
use Rattle.laws.proofs.Lists.{keep_append, keep_all, keep-none, all?-i, none?-i}
use Rattle.laws.proofs.Numbers.{numbers_from-mem, mem-numbers_from}
use Rattle.laws.proofs.Pairwise.{pairwise-nil, pairwise_cons, pairwise_map}
use Rattle.cell.specs.Limits.{section_room}
use Rattle.laws.proofs.Compared.{Compared, below, equal, above, compare}
use Rattle.model.specs.Phase.{Waiting, ahead, crosspoints}
use Rattle.model.proofs.WaitingOrder.{ahead-i}
use Rattle.model.proofs.PhaseFacts.{crosspoints-i, crosspoints-all, crosspoints-crossed}
use Rattle.layout.proofs.Records.{entry_at-input}
use Rattle.layout.specs.Entry.{entry_at, count_in}
use Rattle.layout.specs.Table.{place_of, entry_limit}
use Rattle.layout.specs.Code.{ports_in}
use Rattle.slot_view.specs.CodeView.{waiting_at, window, in_table, InTable, crosspoint_at, Agrees}
use Rattle.slot_view.specs.CodeChoices.{of_input}
use Rattle.slot_view.specs.CodeScan.{Readable, Holds}

------------------------------------------------------------------------
-- runs of numbers

-- a run rises
pub numbers_from-pairwise : (r : ℕ → ℕ → Bool) (k n : ℕ) → ((a b : ℕ) → k ≤ a → a < b → b < k + n → r a b ≡ true)
    → pairwise r (numbers_from k n) ≡ true
unfolding numbers_from
numbers_from-pairwise r k zero h = pairwise-nil r
numbers_from-pairwise r k (suc n) h =
    pairwise_cons r k (numbers_from (k + 1) n)
    (λ b m. let w = mem-numbers_from (k + 1) n m in h k b (omega arith) (omega (arith, w.0)) (omega (arith, w.1)))
    (numbers_from-pairwise r (k + 1) n (λ a b l m u. h a b (omega arith) m (omega arith)))

-- a list for each number of a run, one after the other
module _ {A : Type 0} (w : ℕ → List A) where
  run-e : (k n : ℕ) {x : A} → Memᴰ x (flatten (map w (numbers_from k n)))
      → (i : ℕ) × (k ≤ i) × (i < k + n) × Memᴰ x (w i)
  unfolding numbers_from flatten
  run-e k zero m = absurd (Memᴰ.not-nil m)
  run-e k (suc n) {x} m = go (run-e (k + 1) n) (Memᴰ.append_cases (w k) m)
    where
      rest : List A
      rest = flatten (map w (numbers_from (k + 1) n))

      go : (Memᴰ x rest → (i : ℕ) × (k + 1 ≤ i) × (i < k + 1 + n) × Memᴰ x (w i))
          → Memᴰ x (w k) ⊎ Memᴰ x rest → (i : ℕ) × (k ≤ i) × (i < k + suc n) × Memᴰ x (w i)
      go rec (inl j) = (k, omega arith, omega arith, j)
      go rec (inr j) = let v = rec j in (v.0, omega (arith, v.1), omega (arith, v.2), v.3)

  run-i : (k n i : ℕ) {x : A} → k ≤ i → i < k + n → Memᴰ x (w i)
      → Memᴰ x (flatten (map w (numbers_from k n)))
  unfolding numbers_from flatten
  run-i k zero i h l m = absurd (omega arith)
  run-i k (suc n) i {x} h l m = go (compare i k) (run-i (k + 1) n i)
    where
      rest : List A
      rest = flatten (map w (numbers_from (k + 1) n))

      go : Compared i k → (k + 1 ≤ i → i < k + 1 + n → Memᴰ x (w i) → Memᴰ x rest)
          → Memᴰ x (w k ++ rest)
      go (below b) rec = absurd (omega arith)
      go (equal b) rec = Memᴰ.append_left rest (subst (λ j. Memᴰ x (w j)) b m)
      go (above b) rec = Memᴰ.append_right (w k) (rec (omega arith) (omega arith) m)

  -- what passes only in the list of the number i
  module _ (p : A → Bool) (i bound : ℕ) (others : (j : ℕ) (x : A) → Memᴰ x (w j) → j < bound → j ≢ i → p x ≡ false)
      (mine : (x : A) → Memᴰ x (w i) → p x ≡ true) where
    run_none : (k n : ℕ) → k + n ≤ bound → i < k → keep p (flatten (map w (numbers_from k n))) ≡ []
    run_none k n s out = keep-none p _ (none?-i p _ (λ x m. go x (run-e k n m)))
      where
        go : (x : A) → (j : ℕ) × (k ≤ j) × (j < k + n) × Memᴰ x (w j) → p x ≡ false
        go x (j, a, b, m) = others j x m (omega arith) (omega arith)

    run-one : (k n : ℕ) → k + n ≤ bound → k ≤ i → i < k + n → keep p (flatten (map w (numbers_from k n))) ≡ w i
    unfolding numbers_from flatten
    run-one k zero s h l = absurd (omega arith)
    run-one k (suc n) s h l =
        keep_append p (w k) (flatten (map w (numbers_from (k + 1) n)))
        ∙ go (compare i k) (run-one (k + 1) n (omega arith))
      where
        rest : List A
        rest = flatten (map w (numbers_from (k + 1) n))

        go : Compared i k → (k + 1 ≤ i → i < k + 1 + n → keep p rest ≡ w i) → keep p (w k) ++ keep p rest ≡ w i
        go (below b) rec = absurd (omega arith)
        go (equal b) rec =
            ap₂ ◌++◌ (ap (λ j. keep p (w j)) (sym b) ∙ keep_all p (w i) (all?-i p (w i) mine))
            (run_none (k + 1) n (omega arith) (omega arith))
            ∙ append-nil (w i)
        go (above b) rec =
            ap₂ ◌++◌ (keep-none p (w k) (none?-i p (w k) (λ x m. others k x m (omega arith) (omega arith))))
            (rec (omega arith) (omega arith))

------------------------------------------------------------------------
-- the cell with a number

-- a number in the table is below 1,024
pub in_table-below : {table : List ℕ} (r : Readable table) {k : ℕ} → InTable table k → k < entry_limit
in_table-below r t = omega (arith, t.input, r.ports)

-- a number within a section is in the table
pub in_table-section : {table : List ℕ} (r : Readable table) (i k : ℕ) → i < ports_in table → section_room * i ≤ k
    → k < section_room * i + count_in table i → InTable table k
in_table-section r i k port low high =
    let few = r.counts i (omega (arith, r.ports)) in
    let own : k / section_room ≡ i = omega arith in
    record { input = rw own port; position = rw own high }

module _ (table places : List ℕ) where
  pub waiting_at-at : (k : ℕ) → (waiting_at table places k).at ≡ k
  unfolding waiting_at
  waiting_at-at k = refl

  pub waiting_at-cell : (k : ℕ) → (waiting_at table places k).cell ≡ (entry_at table k).cell
  unfolding waiting_at
  waiting_at-cell k = refl

  pub waiting_at-place : (k : ℕ) → (waiting_at table places k).place ≡ place_of (get_or places k 0)
  unfolding waiting_at
  waiting_at-place k = refl

  pub waiting_at-input : (k : ℕ) → (waiting_at table places k).cell.input ≡ k / section_room
  unfolding waiting_at
  waiting_at-input k = entry_at-input table k

  ------------------------------------------------------------------------
  -- windows

  pub window-i : (input n k : ℕ) → section_room * input ≤ k → k < section_room * input + n
      → Memᴰ (waiting_at table places k) (window table places input n)
  unfolding window
  window-i input n k a b = Memᴰ.map (waiting_at table places) (numbers_from-mem (section_room * input) n a b)

  -- a cell in a window
  pub record InWindow (input n : ℕ) (e : Waiting) : Type 0 where
    pub self : e ≡ waiting_at table places e.at
    pub from : section_room * input ≤ e.at
    pub to : e.at < section_room * input + n

  pub window-e : (input n : ℕ) {e : Waiting} → Memᴰ e (window table places input n) → InWindow input n e
  unfolding window
  window-e input n {e} m = go (Memᴰ.of_map (waiting_at table places) (numbers_from (section_room * input) n) m)
    where
      go : (k : ℕ) × Memᴰ k (numbers_from (section_room * input) n) × (waiting_at table places k ≡ e)
          → InWindow input n e
      go (k, i, q) =
          let at : k ≡ e.at = sym (waiting_at-at k) ∙ ap (λ w. w.at) q in
          let b = mem-numbers_from (section_room * input) n i in
          record {
            self = sym q ∙ ap (waiting_at table places) at;
            from = omega (arith, b.0);
            to = omega (arith, b.1);
          }

  -- its input is the window's
  pub window-input : (input n : ℕ) {e : Waiting} → n ≤ section_room → Memᴰ e (window table places input n)
      → e.cell.input ≡ input
  window-input input n {e} small m =
      let w = window-e input n m in
      let q : e.at / section_room ≡ input = omega (arith, w.from, w.to) in
      ap (λ w. w.cell.input) w.self ∙ waiting_at-input e.at ∙ q

  -- its cells stand in the order of their numbers
  pub window-ordered : (input n : ℕ) → n ≤ section_room → pairwise ahead (window table places input n) ≡ true
  unfolding window
  window-ordered input n small =
      pairwise_map ahead (waiting_at table places) (numbers_from (section_room * input) n)
      ∙ numbers_from-pairwise (λ a b. ahead (waiting_at table places a) (waiting_at table places b)) (section_room * input) n
      (λ a b l m u. ahead-i (waiting_at table places a) (waiting_at table places b)
      (waiting_at-input a ∙ (let q : a / section_room ≡ b / section_room = omega arith in q) ∙ sym (waiting_at-input b))
      (omega (arith, waiting_at-at a, waiting_at-at b)))

  ------------------------------------------------------------------------
  -- all waiting cells

  section : ℕ → List Waiting
  section input = window table places input (count_in table input)

  module _ (r : Readable table) where
    pub in_table-e : {e : Waiting} → Memᴰ e (in_table table places)
        → (e ≡ waiting_at table places e.at) × InTable table e.at
    unfolding in_table up_to section
    in_table-e {e} m = go (run-e section 0 (ports_in table) m)
      where
        go : (i : ℕ) × (0 ≤ i) × (i < 0 + ports_in table) × Memᴰ e (section i)
            → (e ≡ waiting_at table places e.at) × InTable table e.at
        go (i, _, l, k) =
            let w = window-e i (count_in table i) k in
            let port : i < ports_in table = omega arith in
            let small : count_in table i ≤ 64 = r.counts i (omega (arith, r.ports)) in
            let q : e.at / section_room ≡ i = omega (arith, w.from, w.to) in (
              w.self,
              record {
                input = omega arith;
                position = subst (λ j. e.at < section_room * j + count_in table j) (sym q) w.to;
              },
            )

    pub in_table-i : (k : ℕ) → InTable table k → Memᴰ (waiting_at table places k) (in_table table places)
    unfolding in_table up_to section
    in_table-i k t =
        run-i section 0 (ports_in table) (k / section_room) (omega arith) (omega (arith, t.input))
        (window-i (k / section_room) (count_in table (k / section_room)) k (omega arith) t.position)

    -- the cells of an input
    pub of_input-window : (input : ℕ) → input < ports_in table
        → of_input input (in_table table places) ≡ window table places input (count_in table input)
    unfolding in_table up_to section of_input
    of_input-window input l =
        run-one section (λ e. eqb e.cell.input input) input (ports_in table)
        (λ j x m b d. ne_eqb _ _ (λ e. d (sym (window-input j (count_in table j) (small j b) m) ∙ e)))
        (λ x m. eq-eqb _ _ (window-input input (count_in table input) (small input l) m))
        0 (ports_in table) (omega arith) (omega arith) (omega arith)
      where
        small : (i : ℕ) → i < ports_in table → count_in table i ≤ section_room
        small i l = r.counts i (omega (arith, r.ports))

    pub of_input-none : (input : ℕ) → ports_in table ≤ input → of_input input (in_table table places) ≡ []
    unfolding of_input
    of_input-none input l =
        keep-none (λ e. eqb e.cell.input input) (in_table table places)
        (none?-i (λ e. eqb e.cell.input input) (in_table table places) (λ e m. ne_eqb _ _ (λ q. go e m q)))
      where
        go : (e : Waiting) → Memᴰ e (in_table table places) → e.cell.input ≡ input → ⊥
        go e m q =
            let t = in_table-e m in
            let i : e.cell.input ≡ e.at / section_room = ap (λ w. w.cell.input) t.0 ∙ waiting_at-input e.at in
            omega (arith, t.1.input)

    -- the input of a waiting cell is that of its number
    pub in_table-input : {e : Waiting} → Memᴰ e (in_table table places) → e.cell.input ≡ e.at / section_room
    in_table-input {e} m = ap (λ w. w.cell.input) (in_table-e m).0 ∙ waiting_at-input e.at

    -- where the crosspoints agree with the places, they hold the crossed cells
    pub agrees-holds : (cross : List (List ℕ)) → Agrees table places cross
        → Holds table cross (crosspoints (in_table table places))
    agrees-holds cross a = record {
      cell = λ e m. ap (λ w. w.cell) (in_table-e (crosspoints-all all m)).0 ∙ waiting_at-cell e.at;
      inside = λ e m. (in_table-e (crosspoints-all all m)).1;
      filled = λ e m. a.filled e (crosspoints-all all m) (crosspoints-crossed all m);
      real = λ i o l k b. let w = a.real i o l k b in
          (waiting_at table places (crosspoint_at cross i o), crosspoints-i all (in_table-i _ w.0) w.1, waiting_at-at _, w.2, w.3);
    }
      where
        all : List Waiting
        all = in_table table places
