-- Whether the entries at a set of positions go to different outputs, found by a walk from the first to the last that
-- gathers the outputs.
use Prim.Native.Nat.{ℕ, ◌+◌, ◌^◌, ◌<◌}
use mathlib.Core.Bool.{Bool, false, not, ◌&&◌, ◌||◌, or-false, not-not}
use mathlib.Core.Path.{◌≡◌, refl, sym, ◌∙◌, ap, ap₂}
use mathlib.Core.List.{List, [], ◌∷◌, ◌++◌}
use native.Mathlib.Omega.{arith}
use lib.Dec.{eqb}
use Rattle.laws.specs.Lists.{some?, all?, pairwise}
use Rattle.laws.proofs.Tests.{eqb-turned, not-or}
use Rattle.laws.proofs.Lists.{some?-append, some?-ext, all?-none?, none?-not-some?}
use Rattle.laws.proofs.Pairwise.{pairwise-snoc}
use Rattle.sets.specs.Sets.{positions, has, first_of}
use Rattle.sets.proofs.Members.{Visited, visited-start, visited-next, visited-end, has-with_one}
use Rattle.sets.proofs.Digits.{has-past}
use Rattle.sets.specs.Code.{with_one, rest_of}
use Rattle.model.specs.State.{Entry}
use Rattle.layout.specs.Entry.{entry_at}
use Rattle.slot_section.specs.Code.{entries_in, other_output}
use Rattle.slot_section.proofs.Walks.{entries_at, entries_at-more}

-- an entry to this output
pub goes_to : ℕ → Entry → Bool
goes_to o e = eqb e.cell.output o

-- those passed go to different outputs unless `twice`, and their outputs are gathered
pub record Crossed (bs : List ℕ) (first set : ℕ) (twice : Bool) (outputs left : ℕ) : Type 0 where
  pub passed : List ℕ
  pub visited : Visited set passed left
  pub apart : not twice ≡ pairwise other_output (entries_at bs first passed)
  pub gathered : (o : ℕ) → o < positions → has outputs o ≡ some? (goes_to o) (entries_at bs first passed)

module _ (bs : List ℕ) (first set : ℕ) where
  pub crossed-start : set < 2 ^ positions → Crossed bs first set false 0 set
  unfolding pairwise some?
  crossed-start fits =
      record {
        passed = [];
        visited = visited-start set fits;
        apart = refl;
        gathered = λ o h. has-past 0 0 o (omega arith) (omega arith);
      }

  module _ (twice : Bool) (outputs left : ℕ) (w : Crossed bs first set twice outputs left) where
    pub crossed-end : left ≡ 0 → not twice ≡ pairwise other_output (entries_in bs first set)
    unfolding entries_in
    crossed-end none =
        w.apart ∙ ap (λ js. pairwise other_output (entries_at bs first js)) (sym (visited-end w.visited none))

    pub crossed-next : 0 < left → (o : ℕ)
        → o ≡ (entry_at bs (first + first_of left)).cell.output → o < positions
        → Crossed bs first set (twice || has outputs o) (with_one outputs o) (rest_of left)
    unfolding goes_to other_output some?
    crossed-next some o output port =
        let l = entries_at bs first w.passed in
        let e = entry_at bs (first + first_of left) in
        let more = entries_at-more bs first w.passed (first_of left) in
        let others : all? (λ x. other_output x e) l ≡ not (has outputs o) =
        all?-none? (λ x. other_output x e) l
        ∙ none?-not-some? (λ x. not (other_output x e)) l
        ∙ ap not
        (some?-ext (λ x. not (other_output x e)) (goes_to o) l
        (λ x m. not-not _ ∙ ap (eqb x.cell.output) (sym output))
        ∙ sym (w.gathered o port)) in
        record {
          passed = w.passed ++ (first_of left ∷ []);
          visited = visited-next w.visited some;
          apart =
              not-or twice (has outputs o)
              ∙ ap₂ ◌&&◌ w.apart (sym others)
              ∙ sym (ap (pairwise other_output) more ∙ pairwise-snoc other_output l e);
          gathered =
              λ n h.
              has-with_one outputs o n h
              ∙ ap₂ ◌||◌ (w.gathered n h) (eqb-turned n o ∙ ap (λ m. eqb m n) output ∙ sym (or-false _))
              ∙ sym (ap (some? (goes_to n)) more ∙ some?-append (goes_to n) l (e ∷ []));
        }
