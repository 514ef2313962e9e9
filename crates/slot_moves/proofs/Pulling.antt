-- The outputs take their cells one after the other, and the crosspoints and the places still agree.
--     pullable        what an output takes stands at one of its crosspoints
--     pulled-agrees   the crosspoints and the places still agree
use Prim.Native.Nat.{ℕ, ◌<◌, ◌≤◌}
use native.Mathlib.Omega.{arith}
use mathlib.Core.Bool.{Bool, true, false}
use mathlib.Core.Path.{◌≡◌, sym, ◌∙◌, subst}
use mathlib.Core.Logic.{◌⊎◌, inl, inr}
use mathlib.Core.List.{List}
use lib.ListN.{length, get_or}
use Rattle.laws.proofs.Tests.{either}
use Rattle.layout.specs.Code.{ports_in}
use Rattle.layout.specs.Table.{entry_limit}
use Rattle.slot_view.specs.CodeView.{InTable, Agrees, Square}
use Rattle.slot_view.specs.CodeScan.{Readable}
use Rattle.slot_view.specs.CodeChoices.{empty, best}
use Rattle.slot_leaders.proofs.Best.{Crossed, BestUpTo}
use Rattle.slot_steps.specs.CodeSteps.{take_of}
use Rattle.slot_moves.specs.CodeMoves.{written, pulling}
use Rattle.slot_steps.proofs.Rules.{take_none, take-best}
use Rattle.slot_moves.proofs.Agreeing.{output_at, crossed_at, agrees-real, agrees-pulling, Pullable}
use Rattle.slot_moves.proofs.Entering.{BestOfEach}

module _ {table : List ℕ} (r : Readable table) (straight : List Bool) (places : List ℕ) (cross : List (List ℕ))
    (size : length places ≡ entry_limit) (square : Square cross) (a : Agrees table places cross) (bests : List ℕ)
    (b : BestOfEach table cross bests) where
  abbrev f : ℕ → ℕ
  f = take_of straight bests

  -- a cell that stands at a crosspoint of an output
  At : ℕ → ℕ → Type 0
  At o k = InTable table k × (crossed_at places k ≡ true) × (output_at table k ≡ o)

  -- each output takes a cell at one of its crosspoints
  pub pullable : (n : ℕ) → n ≤ 16 → Pullable r places f n
  unfolding At
  pullable n s o l h = go (either (get_or straight o false))
    where
      small : o < 16
      small = omega arith

      go : (get_or straight o false ≡ true) ⊎ (get_or straight o false ≡ false) → At o (f o)
      go (inl t) = absurd (omega (arith, take_none straight bests o t))
      go (inr t) = case (b o small)
        where
          is : f o ≡ get_or bests o 0
          is = take-best straight bests o t

          case : BestUpTo table cross o (ports_in table) (get_or bests o 0) → At o (f o)
          case (empty e u) = absurd (omega (arith, is))
          case (best e u) =
              let c : Crossed cross o (ports_in table) (get_or bests o 0) = u.own in
              let w =
              agrees-real r places cross a c.holder o (omega (arith, c.early, r.ports)) small
              (omega (arith, c.held, c.some)) in
              subst (At o) (c.held ∙ sym is) (w.0, w.1, w.3)

  pub pulled-agrees : (n : ℕ) → n ≤ 16 → Agrees table (written f 3 n places) (pulling f n cross)
  pulled-agrees n l = agrees-pulling r f cross square places size a n l (pullable n l)
