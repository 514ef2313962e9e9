-- The laws of output priority. Nothing else looks inside `over`:
--     over-by-rank, over-by-slot, over-by-tie   what decides
--     over-turn                                 among cells of equal rank and slot, the order by (input - slot) mod N
--     over-irrefl, over-trans, over-total       a strict order, total on cells that differ in input or slot
--     over-in-flow                              within a flow whose ranks do not fall, the order of acceptance
-- The tie looks at the slot of its first cell; where it decides, the slots are equal.
use Rattle.std.proofs.Common.{◌≡◌, ℕ, ◌<◌, ◌≤◌, true, false, ltb, ◌≢◌, ◌⊎◌, sym, refl, ap, ◌∙◌, inl, inr, arith, ltb-true, le-ltb, lt-ltb, eq-eqb, ne_eqb}
use mathlib.Core.Bool.{or-false}
use Rattle.laws.proofs.Compared.{Compared, below, equal, above, compare}
use Rattle.cell.specs.declared.Cell.{Cell}
use Rattle.cell.specs.Order.{first_in_turn, in_turn, turn, wins_tie, over}
use Rattle.cell.proofs.Turn.{in_turn-irrefl, in_turn-trans, in_turn-total, in_turn-turn}

module _ (ports : ℕ) (c d : Cell) where
  pub over-by-rank : c.rank ≢ d.rank → over ports c d ≡ ltb c.rank d.rank
  unfolding over
  over-by-rank h = simp (ne_eqb _ _ h) (or-false (ltb c.rank d.rank))

  pub over-by-slot : c.rank ≡ d.rank → c.slot ≢ d.slot → over ports c d ≡ ltb c.slot d.slot
  unfolding over
  over-by-slot h k =
      let l : d.rank ≤ c.rank = omega arith in
      simp (le-ltb _ _ l, eq-eqb _ _ h, ne_eqb _ _ k) (or-false (ltb c.slot d.slot))

  pub over-by-tie : c.rank ≡ d.rank → c.slot ≡ d.slot → over ports c d ≡ wins_tie ports c d
  unfolding over
  over-by-tie h k =
      let l : d.rank ≤ c.rank = omega arith in
      let m : d.slot ≤ c.slot = omega arith in
      simp (le-ltb _ _ l, eq-eqb _ _ h, le-ltb _ _ m, eq-eqb _ _ k)

-- the sentence of scope 2.3, for inputs of the switch
pub over-turn : (n : ℕ) (c d : Cell) → c.rank ≡ d.rank → c.slot ≡ d.slot → c.input < n → d.input < n
    → over n c d ≡ ltb (turn n c.slot c.input) (turn n c.slot d.input)
over-turn n c d r s h k = over-by-tie n c d r s ∙ in_turn-turn n c.slot c.input d.input h k

-- what output priority says of the numbers
pub data Over (ports : ℕ) (c d : Cell) : Type 0 where
  by_rank : c.rank < d.rank → Over ports c d
  by-slot : c.rank ≡ d.rank → c.slot < d.slot → Over ports c d
  by_tie : c.rank ≡ d.rank → c.slot ≡ d.slot → wins_tie ports c d ≡ true → Over ports c d

pub over-i : {ports : ℕ} {c d : Cell} → Over ports c d → over ports c d ≡ true
over-i {ports} {c} {d} (by_rank h) =
    let k : c.rank ≢ d.rank = omega arith in
    over-by-rank ports c d k ∙ lt-ltb _ _ h
over-i {ports} {c} {d} (by-slot e h) =
    let k : c.slot ≢ d.slot = omega arith in
    over-by-slot ports c d e k ∙ lt-ltb _ _ h
over-i {ports} {c} {d} (by_tie e f h) = over-by-tie ports c d e f ∙ h

pub over-e : (ports : ℕ) (c d : Cell) → over ports c d ≡ true → Over ports c d
over-e ports c d h = go (compare c.rank d.rank) (compare c.slot d.slot)
  where
    go : Compared c.rank d.rank → Compared c.slot d.slot → Over ports c d
    go (below r) s = by_rank r
    go (equal r) (below s) = by-slot r s
    go (equal r) (equal s) = by_tie r s (sym (over-by-tie ports c d r s) ∙ h)
    go (equal r) (above s) =
        let k : c.slot ≢ d.slot = omega arith in
        let l : c.slot < d.slot = ltb-true _ _ (sym (over-by-slot ports c d r k) ∙ h) in
        by-slot r l
    go (above r) s =
        let k : c.rank ≢ d.rank = omega arith in
        by_rank (ltb-true _ _ (sym (over-by-rank ports c d k) ∙ h))

pub over-irrefl : (ports : ℕ) (c : Cell) → over ports c c ≡ false
over-irrefl ports c = over-by-tie ports c c refl refl ∙ in_turn-irrefl (first_in_turn ports c.slot) c.input

-- of three cells of one slot
tie-trans : (ports : ℕ) (b c d : Cell) → b.slot ≡ c.slot → wins_tie ports b c ≡ true → wins_tie ports c d ≡ true
    → wins_tie ports b d ≡ true
tie-trans ports b c d e p q =
    in_turn-trans (first_in_turn ports b.slot) b.input c.input d.input p
    (ap (λ s. in_turn (first_in_turn ports s) c.input d.input) e ∙ q)

pub over-trans : (ports : ℕ) (b c d : Cell) → over ports b c ≡ true → over ports c d ≡ true → over ports b d ≡ true
over-trans ports b c d p q = go (over-e ports b c p) (over-e ports c d q)
  where
    go : Over ports b c → Over ports c d → over ports b d ≡ true
    go (by_rank r) (by_rank s) = over-i (by_rank (let k : b.rank < d.rank = omega arith in k))
    go (by_rank r) (by-slot e s) = over-i (by_rank (let k : b.rank < d.rank = omega arith in k))
    go (by_rank r) (by_tie e f s) = over-i (by_rank (let k : b.rank < d.rank = omega arith in k))
    go (by-slot e r) (by_rank s) = over-i (by_rank (let k : b.rank < d.rank = omega arith in k))
    go (by-slot e r) (by-slot f s) = over-i (by-slot (e ∙ f) (let k : b.slot < d.slot = omega arith in k))
    go (by-slot e r) (by_tie f g s) = over-i (by-slot (e ∙ f) (let k : b.slot < d.slot = omega arith in k))
    go (by_tie e f r) (by_rank s) = over-i (by_rank (let k : b.rank < d.rank = omega arith in k))
    go (by_tie e f r) (by-slot g s) = over-i (by-slot (e ∙ g) (let k : b.slot < d.slot = omega arith in k))
    go (by_tie e f r) (by_tie g h s) = over-i (by_tie (e ∙ g) (f ∙ h) (tie-trans ports b c d f r s))

-- of two cells of one slot
tie-total : (ports : ℕ) (c d : Cell) → c.slot ≡ d.slot → c.input ≢ d.input
    → (wins_tie ports c d ≡ true) ⊎ (wins_tie ports d c ≡ true)
tie-total ports c d e ne = go (in_turn-total (first_in_turn ports c.slot) c.input d.input ne)
  where
    go : (wins_tie ports c d ≡ true) ⊎ (in_turn (first_in_turn ports c.slot) d.input c.input ≡ true)
        → (wins_tie ports c d ≡ true) ⊎ (wins_tie ports d c ≡ true)
    go (inl t) = inl t
    go (inr t) = inr (ap (λ s. in_turn (first_in_turn ports s) d.input c.input) (sym e) ∙ t)

-- of two cells that differ in input or slot, one goes first
pub over-total : (ports : ℕ) (c d : Cell) → (c.input ≢ d.input) ⊎ (c.slot ≢ d.slot)
    → (over ports c d ≡ true) ⊎ (over ports d c ≡ true)
over-total ports c d h = go (compare c.rank d.rank) (compare c.slot d.slot) h
  where
    tied : c.rank ≡ d.rank → c.slot ≡ d.slot → (wins_tie ports c d ≡ true) ⊎ (wins_tie ports d c ≡ true)
        → (over ports c d ≡ true) ⊎ (over ports d c ≡ true)
    tied r s (inl t) = inl (over-i (by_tie r s t))
    tied r s (inr t) = inr (over-i (by_tie (sym r) (sym s) t))

    go : Compared c.rank d.rank → Compared c.slot d.slot → (c.input ≢ d.input) ⊎ (c.slot ≢ d.slot)
        → (over ports c d ≡ true) ⊎ (over ports d c ≡ true)
    go (below r) s k = inl (over-i (by_rank r))
    go (equal r) (below s) k = inl (over-i (by-slot r s))
    go (equal r) (equal s) (inl k) = tied r s (tie-total ports c d s k)
    go (equal r) (equal s) (inr k) = absurd (k s)
    go (equal r) (above s) k = inr (over-i (by-slot (sym r) s))
    go (above r) s k = inr (over-i (by_rank r))

-- within a flow the cell accepted first goes first, where ranks do not fall
pub over-in-flow : (ports : ℕ) (c d : Cell) → c.rank ≤ d.rank → c.slot < d.slot → over ports c d ≡ true
over-in-flow ports c d h k = go (compare c.rank d.rank)
  where
    go : Compared c.rank d.rank → over ports c d ≡ true
    go (below r) = over-i (by_rank r)
    go (equal r) = over-i (by-slot r k)
    go (above r) = absurd (let z : ⊥ = omega arith in z)
