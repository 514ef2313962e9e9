-- The choice of an output.
--     pulled-choice, choice-pulled     what a phase takes from the crosspoints are the bests of the outputs that got no
--                                      straight cell
--     occupancy-few                    the number of crosspoints that hold a cell is 0 to N
--     length-occupancies, occupancies-few     an answer tells it for each output
use Prim.Native.Nat.{ℕ, ◌≤◌}
use mathlib.Core.Bool.{Bool, true}
use mathlib.Core.Path.{◌≡◌, refl, ◌∙◌}
use mathlib.Core.Logic.{◌⊎◌, inl, inr}
use mathlib.Core.List.{List, Memᴰ}
use mathlib.Core.Option.{some}
use native.Mathlib.Omega.{arith}
use borrow.Author.Tests.{eqb-true, eq-eqb, le-leb}
use lib.Dec.{leb, eqb}
use lib.ListN.{length, length-map}
use Rattle.laws.specs.Lists.{keep, some?, none?, all?, least, up_to}
use Rattle.laws.proofs.Count.{count-le-length}
use Rattle.laws.proofs.Least.{mem-least-in, mem-least-first}
use Rattle.laws.proofs.Lists.{all?-i, keep-mem, mem-keep-in, mem-keep-passes, first-mem, first_of}
use Rattle.laws.proofs.Numbers.{length-numbers_from}
use Rattle.laws.proofs.Tests.{clash}
use Rattle.model.specs.Phase.{Waiting, crosspoints, beats, same_output, at_crosspoint, occupancy, best_for, output_choice, pulled}
use Rattle.model.specs.Phase.{Phase, phase, waiting}
use Rattle.model.specs.Sound.{sound_sections}
use Rattle.model.specs.State.{Entry}
use Rattle.model.specs.Crossbar.{occupancies}
use Rattle.model.specs.CodeSlackness.{Orderly}
use Rattle.model.proofs.PhaseFacts.{crosspoints-all}
use Rattle.model.proofs.PhaseMatching.{sent-all}
use Rattle.model.proofs.SoundOrderly.{sound-orderly}
use Rattle.model.proofs.WaitingOrder.{beats-total}

module _ (all : List Waiting) (ports : ℕ) where
  abbrev full : List Waiting
  full = (phase ports all).filled

  free : Waiting → Bool
  free x = none? (same_output x) (phase ports all).straight

  inside : {x : Waiting} → Memᴰ x (least (beats ports) full) → Memᴰ x all
  unfolding phase
  inside {x} m = go (mathlib.Core.List.Memᴰ.append_cases (crosspoints all) (mem-least-in (beats ports) full m))
    where
      go : Memᴰ x (crosspoints all) ⊎ Memᴰ x (phase ports all).sent → Memᴰ x all
      go (inl i) = crosspoints-all all i
      go (inr i) = sent-all ports all i

  -- what an output without a straight cell takes is the best of its choice
  pulled-best : Orderly ports all → {x : Waiting} → Memᴰ x (phase ports all).pulled
      → (output_choice ports full x.cell.output).best ≡ some x
  unfolding output_choice best_for phase pulled free
  pulled-best o {x} m =
      first_of (keep to (least (beats ports) full)) (keep-mem to here (eq-eqb x.cell.output _ refl)) only
    where
      to : Waiting → Bool
      to y = eqb y.cell.output x.cell.output

      here : Memᴰ x (least (beats ports) full)
      here = mem-keep-in free (least (beats ports) full) m

      only : (y : Waiting) → Memᴰ y (keep to (least (beats ports) full)) → y ≡ x
      only y k =
          go (beats-total o (inside there) (inside here) (eqb-true _ _ (mem-keep-passes to (least (beats ports) full) k)))
        where
          there : Memᴰ y (least (beats ports) full)
          there = mem-keep-in to (least (beats ports) full) k

          go : (y ≡ x) ⊎ ((beats ports y x ≡ true) ⊎ (beats ports x y ≡ true)) → y ≡ x
          go (inl e) = e
          go (inr (inl b)) =
              absurd (clash b (mem-least-first (beats ports) full here (mem-least-in (beats ports) full there)))
          go (inr (inr b)) =
              absurd (clash b (mem-least-first (beats ports) full there (mem-least-in (beats ports) full here)))

  -- and that best it takes
  pub choice-pulled : (output : ℕ) {x : Waiting} → (output_choice ports (phase ports all).filled output).best ≡ some x
      → none? (same_output x) (phase ports all).straight ≡ true
      → Memᴰ x (phase ports all).pulled × (x.cell.output ≡ output)
  unfolding output_choice best_for phase pulled free
  choice-pulled output {x} e f =
      let to : Waiting → Bool = λ y. eqb y.cell.output output in
      let m : Memᴰ x (keep to (least (beats ports) full)) = first-mem _ x e in
      (keep-mem free (mem-keep-in to (least (beats ports) full) m) f, eqb-true _ _ (mem-keep-passes to (least (beats ports) full) m))

-- in a sound switch
pub pulled-choice : (ports clock : ℕ) (sections : List (List Entry)) → sound_sections ports clock 0 sections ≡ true
    → {x : Waiting} → Memᴰ x (phase ports (waiting sections)).pulled
    → (output_choice ports (phase ports (waiting sections)).filled x.cell.output).best ≡ some x
pulled-choice ports clock sections h m = pulled-best (waiting sections) ports (sound-orderly ports clock sections h) m

pub occupancy-few : (ports : ℕ) (filled : List Waiting) (output : ℕ) → occupancy ports filled output ≤ ports
unfolding occupancy up_to
occupancy-few ports filled output =
    let all : length (up_to ports) ≡ ports = length-numbers_from 0 ports in
    omega (arith, count-le-length (λ input. some? (at_crosspoint input output) filled) (up_to ports))

module _ (ports : ℕ) (p : Phase) where
  pub length-occupancies : length (occupancies ports p) ≡ ports
  unfolding occupancies up_to
  length-occupancies = length-map (up_to ports) (λ o. (output_choice ports p.filled o).occupancy) ∙ length-numbers_from 0 ports

  pub occupancies-few : all? (λ n. leb n ports) (occupancies ports p) ≡ true
  unfolding occupancies output_choice
  occupancies-few =
      all?-i (λ n. leb n ports) (occupancies ports p) (λ n m.
      let w = mathlib.Core.List.Memᴰ.of_map (λ o. (output_choice ports p.filled o).occupancy) (up_to ports) m in
      le-leb n ports (rw w.2 at (occupancy-few ports p.filled w.0)))
