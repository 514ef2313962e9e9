-- Scope 3.6, rule 4: inputs propose their cells in list order, and an output keeps the proposal of
-- highest output priority. Candidates are of any type, with two tests:
--     ahead c d   both are of one input, and c stands before d in its list
--     over c d    both go to one output, and c has the higher output priority
-- A list of candidates here holds those that no output has refused so far. Unlike the source, a pair of ports may
-- have several candidates (scope 1.3).
use Rattle.std.specs.Prelude.{ℕ, zero, suc, Bool, ◌||◌, List, length}
use Rattle.laws.specs.Lists.{keep, some?, none?, count, least}

module _ {A : Type 0} (ahead over : A → A → Bool) where
  -- each input proposes the first of its candidates that was not refused
  unfoldable pub proposed : List A → List A
  proposed l = least ahead l

  -- each output keeps the best of its proposals and refuses the others: what was not proposed stays, and so does a
  -- proposal that no other is over
  unfoldable pub round : List A → List A
  round l = let ps = proposed l in keep (λ c. some? (λ d. ahead d c) l || none? (λ d. over d c) ps) l

  unfoldable pub rounds : ℕ → List A → List A
  rounds zero l = l
  rounds (suc n) l = rounds n (round l)

  -- the candidates that are never refused: a round refuses one at least, or none will ever be refused again
  unfoldable pub settled : List A → List A
  settled l = rounds (length l) l

  -- the matching: the proposals that stand in the end
  unfoldable pub matched : List A → List A
  matched l = proposed (settled l)

  -- the number of proposals made: for an input with a match, its candidates up to and including that one; for an
  -- input without, all of them
  unfoldable pub proposals : List A → ℕ
  proposals l = let ms = matched l in count (λ c. none? (λ m. ahead m c) ms) l
