-- Which cells are heads, by their numbers.
--     Earlier                    of two listed cells of an input, of one flow, the first comes before the second
--     head-none, head-some       a listed cell is a head exactly if no such cell comes before it
--     head-after, head-same      where the list is contiguous, the listed cell right before it decides
use Prim.Native.Nat.{ℕ, ◌/◌, ◌≤◌, ◌<◌}
use native.Mathlib.Omega.{arith}
use mathlib.Core.Bool.{true, false, ◌&&◌}
use mathlib.Core.Path.{◌≡◌, sym, ◌∙◌, ap, subst}
use mathlib.Core.List.{List, Memᴰ}
use lib.ListN.{get_or}
use Rattle.laws.proofs.Tests.{by-fail, and_i, and_l, and_r, and-false-l, and_false_r, clash}
use Rattle.laws.proofs.Lists.{none?-i, none?-clash}
use Rattle.cell.specs.declared.Cell.{Cell}
use Rattle.cell.specs.Flow.{same_flow}
use Rattle.cell.specs.Limits.{section_room}
use Rattle.laws.proofs.Compared.{Compared, below, equal, above, compare}
use Rattle.cell.proofs.Flow.{flow-sym, flow-trans}
use Rattle.model.specs.State.{is_listed}
use Rattle.model.specs.Phase.{Waiting, ahead, lists}
use Rattle.model.proofs.WaitingOrder.{ahead-i, ahead-input, ahead-at}
use Rattle.model.proofs.PhaseFacts.{lists-i, lists-all, lists-listed}
use Rattle.layout.specs.Entry.{entry_at}
use Rattle.layout.specs.Table.{place_of}
use Rattle.slot_view.specs.CodeView.{waiting_at, in_table, InTable}
use Rattle.slot_view.specs.CodeScan.{Readable}
use Rattle.slot_view.specs.CodeViewed.{is_head}
use Rattle.slot_view.proofs.Window.{in_table-i, in_table-e, waiting_at-at, waiting_at-cell, waiting_at-place, waiting_at-input}
use Rattle.slot_view.proofs.Together.{Contiguous}

-- the entry with a number is in the list
pub record Listed (table places : List ℕ) (k : ℕ) : Type 0 where
  pub entry : InTable table k
  pub place : is_listed (place_of (get_or places k 0)) ≡ true

-- a listed cell of the input and flow of another comes before it
pub record Earlier (table places : List ℕ) (a k : ℕ) : Type 0 where
  pub listed : Listed table places a
  pub input : a / section_room ≡ k / section_room
  pub before : a < k
  pub flow : same_flow (entry_at table a).cell (entry_at table k).cell ≡ true

module _ (table places : List ℕ) (r : Readable table) (k : ℕ) where
  all : List Waiting
  all = in_table table places

  e : Waiting
  e = waiting_at table places k

  pub head-unlisted : is_listed (place_of (get_or places k 0)) ≡ false → is_head (in_table table places) (waiting_at table places k) ≡ false
  unfolding is_head waiting_at
  head-unlisted h = and-false-l _ _ h

  pub head-none : is_listed (place_of (get_or places k 0)) ≡ true → ((a : ℕ) → Earlier table places a k → ⊥)
      → is_head (in_table table places) (waiting_at table places k) ≡ true
  unfolding is_head all e
  head-none h none =
      and_i (is_listed e.place) _ (ap is_listed (waiting_at-place table places k) ∙ h)
      (none?-i (λ f. same_flow f.cell e.cell && ahead f e) (lists all) (λ f m. by-fail _ (λ t. none f.at (earlier f m t))))
    where
      earlier : (f : Waiting) → Memᴰ f (lists all) → (same_flow f.cell e.cell && ahead f e) ≡ true
          → Earlier table places f.at k
      earlier f m t =
          let x = in_table-e table places r (lists-all all m) in
          let flow = and_l (same_flow f.cell e.cell) (ahead f e) t in
          let before = and_r (same_flow f.cell e.cell) (ahead f e) t in
          let cell : f.cell ≡ (entry_at table f.at).cell =
          ap (λ w. w.cell) x.0 ∙ waiting_at-cell table places f.at in
          record {
            listed = record {
              entry = x.1;
              place =
                  sym (ap is_listed (waiting_at-place table places f.at))
                  ∙ ap (λ w. is_listed w.place) (sym x.0)
                  ∙ lists-listed all m;
            };
            input =
                sym (ap (λ w. w.cell.input) x.0 ∙ waiting_at-input table places f.at)
                ∙ ahead-input f e before
                ∙ waiting_at-input table places k;
            before = subst (λ n. f.at < n) (waiting_at-at table places k) (ahead-at f e before);
            flow = subst (λ c. same_flow c (entry_at table k).cell ≡ true) cell
                (subst (λ d. same_flow f.cell d ≡ true) (waiting_at-cell table places k) flow);
          }

  pub head-some : (a : ℕ) → Earlier table places a k → is_head (in_table table places) (waiting_at table places k) ≡ false
  unfolding is_head all e waiting_at
  head-some a w =
      and_false_r (is_listed e.place) _
      (by-fail _ (λ none.
      none?-clash (λ f. same_flow f.cell e.cell && ahead f e) none
      (lists-i all (in_table-i table places r a w.listed.entry) w.listed.place)
      (and_i (same_flow (entry_at table a).cell e.cell) (ahead (waiting_at table places a) e) w.flow
      (ahead-i (waiting_at table places a) e
      (waiting_at-input table places a ∙ w.input ∙ sym (waiting_at-input table places k)) w.before))))

  -- no listed cell stands between b and k
  module _ (contiguous : Contiguous table places) (here : Listed table places k) (b : ℕ) (listed : Listed table places b)
      (input : b / section_room ≡ k / section_room) (before : b < k)
      (next : (a : ℕ) → Listed table places a → a / section_room ≡ k / section_room → a < k → a ≤ b) where
    pub head-same : same_flow (entry_at table b).cell (entry_at table k).cell ≡ true
        → is_head (in_table table places) (waiting_at table places k) ≡ false
    head-same s = head-some b (record { listed = listed; input = input; before = before; flow = s })

    pub head-after : same_flow (entry_at table b).cell (entry_at table k).cell ≡ false
        → is_head (in_table table places) (waiting_at table places k) ≡ true
    head-after other = head-none here.place (λ a w. go a w (compare a b))
      where
        go : (a : ℕ) → Earlier table places a k → Compared a b → ⊥
        go a w (below l) =
            let c : ℕ → Cell = λ n. (entry_at table n).cell in
            let ab = contiguous a b k w.listed.entry listed.entry here.entry w.input l before
            w.listed.place listed.place here.place w.flow in
            clash (flow-trans (c b) (c a) (c k) (flow-sym (c a) (c b) ab) w.flow) other
        go a w (equal l) =
            clash (subst (λ n. same_flow (entry_at table n).cell (entry_at table k).cell ≡ true) l w.flow) other
        go a w (above l) = omega (arith, next a w.listed w.input w.before)
