-- Matchings worked out by hand from scope 3.6, rule 4, and the test that the definitions give them. In a
-- row, candidates are named by letters.
use Rattle.std.specs.Prelude.{ℕ, Bool, ◌&&◌, List, [], ◌∷◌, ltb, eqb}
use Rattle.laws.specs.Lists.{same_list}
use Rattle.matching.specs.Matching.{matched, proposals}

-- Position m in the list of an input, to an output, with a rank; ranks at an output differ.
pub record Candidate : Type 0 where
  pub input : ℕ
  pub position : ℕ
  pub output : ℕ
  pub rank : ℕ

unfoldable pub candidate : ℕ → ℕ → ℕ → ℕ → Candidate
candidate i m o r = record { input = i; position = m; output = o; rank = r }

unfoldable pub ahead : Candidate → Candidate → Bool
ahead c d = eqb c.input d.input && ltb c.position d.position

unfoldable pub over : Candidate → Candidate → Bool
over c d = eqb c.output d.output && ltb c.rank d.rank

unfoldable pub same : Candidate → Candidate → Bool
same c d = eqb c.input d.input && eqb c.position d.position

-- A row has the candidates, those that are matched, and the number of proposals.
pub record Show : Type 0 where
  pub candidates : List Candidate
  pub matches : List Candidate
  pub made : ℕ

unfoldable pub show : List Candidate → List Candidate → ℕ → Show
show cs ms k = record { candidates = cs; matches = ms; made = k }

unfoldable pub given : Show → Bool
given s =
    same_list same (matched ahead over s.candidates) s.matches
    && eqb (proposals ahead over s.candidates) s.made

-- Inputs 0 and 1 propose a and c, to different outputs, and both are kept. Output 0 would rather have d than a, output
-- 1 rather b than c: that is stable too, and best for the outputs.
unfoldable pub inputs_first : Show
inputs_first =
    let a = candidate 0 0 0 2 in
    let b = candidate 0 1 1 1 in
    let c = candidate 1 0 1 2 in
    let d = candidate 1 1 0 1 in
    show (a ∷ b ∷ c ∷ d ∷ []) (a ∷ c ∷ []) 2

-- Output 0 keeps c, the 6, and refuses a, the 8; input 0 goes on with b, the 5, and c is refused.
unfoldable pub pair : Show
pair =
    let a = candidate 0 0 0 8 in
    let b = candidate 0 1 0 5 in
    let c = candidate 1 0 0 6 in
    show (a ∷ b ∷ c ∷ []) (b ∷ []) 3

-- Alone, the first in the list is kept, whatever its rank, and the second is not proposed.
unfoldable pub pair_alone : Show
pair_alone =
    let a = candidate 0 0 0 8 in
    let b = candidate 0 1 0 5 in
    show (a ∷ b ∷ []) (a ∷ []) 1

-- Output 0 keeps a, the 1, and refuses b and then c: all proposals of an input without a match count.
unfoldable pub no_match : Show
no_match =
    let a = candidate 0 0 0 1 in
    let b = candidate 1 0 0 2 in
    let c = candidate 1 1 0 3 in
    show (a ∷ b ∷ c ∷ []) (a ∷ []) 3

-- c is over a at output 0; input 0 goes on with b, which is over d at output 1; input 2 goes on with e.
unfoldable pub chain : Show
chain =
    let a = candidate 0 0 0 2 in
    let b = candidate 0 1 1 1 in
    let c = candidate 1 0 0 1 in
    let d = candidate 2 0 1 2 in
    let e = candidate 2 1 2 1 in
    show (a ∷ b ∷ c ∷ d ∷ e ∷ []) (b ∷ c ∷ e ∷ []) 5

-- Nobody proposes.
unfoldable pub nobody : Show
nobody = show [] [] 0
