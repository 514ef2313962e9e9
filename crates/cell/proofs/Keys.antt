-- Output priority by key: the smaller key goes first, and the tie test decides between equal ones.
use Rattle.std.proofs.Common.{◌≡◌, ℕ, ◌^◌, ◌<◌, Bool, true, false, ◌&&◌, ◌||◌, eqb, ltb, ◌⊎◌, sym, ap, ◌∙◌, inl, inr, arith, ltb-true, lt-ltb, eq-eqb, eqb-true}
use mathlib.Core.Bool.{or-false}
use Rattle.laws.proofs.Tests.{same, and_i, and_l, and_r, and_false_r, or_l, or_r, or_cases}
use Rattle.cell.specs.declared.Cell.{Cell}
use Rattle.cell.specs.Order.{first_in_turn, in_turn, wins_tie, over, key}
use Rattle.cell.proofs.Order.{Over, by_rank, by-slot, by_tie, over-i, over-e}
use Rattle.cell.proofs.Turn.{in_turn-irrefl}
use Rattle.laws.proofs.Compared.{Compared, below, equal, above, compare}

module _ (ports : ℕ) (c d : Cell) (slot : c.slot < 2 ^ 32) (other : d.slot < 2 ^ 32) where
  -- the priority that the keys say
  abbrev by_key : Bool
  by_key = ltb (key c) (key d) || (eqb (key c) (key d) && wins_tie ports c d)

  pub over-key : over ports c d ≡ by_key
  over-key =
      same (over ports c d) by_key (λ h. to (over-e ports c d h))
      (λ h. over-i (back (or_cases (ltb (key c) (key d)) _ h)))
    where
      to : Over ports c d → by_key ≡ true
      to (by_rank r) = or_l (ltb (key c) (key d)) _ (lt-ltb (key c) (key d) (omega arith))
      to (by-slot r s) = or_l (ltb (key c) (key d)) _ (lt-ltb (key c) (key d) (omega arith))
      to (by_tie r s t) =
          or_r (ltb (key c) (key d)) _
          (and_i (eqb (key c) (key d)) (wins_tie ports c d) (eq-eqb (key c) (key d) (omega arith)) t)

      smaller : key c < key d → Compared c.rank d.rank → Over ports c d
      smaller h (below r) = by_rank r
      smaller h (equal r) = by-slot r (omega arith)
      smaller h (above r) = absurd (omega arith)

      back : (ltb (key c) (key d) ≡ true) ⊎ ((eqb (key c) (key d) && wins_tie ports c d) ≡ true) → Over ports c d
      back (inl t) = smaller (ltb-true (key c) (key d) t) (compare c.rank d.rank)
      back (inr t) =
          let keys : key c ≡ key d = eqb-true (key c) (key d) (and_l (eqb (key c) (key d)) (wins_tie ports c d) t) in
          by_tie (omega arith) (omega arith) (and_r (eqb (key c) (key d)) (wins_tie ports c d) t)

  -- between cells of one input there is no tie
  pub over-key-input : c.input ≡ d.input → over ports c d ≡ ltb (key c) (key d)
  over-key-input h =
      let start = first_in_turn ports c.slot in
      let none : wins_tie ports c d ≡ false = ap (in_turn start c.input) (sym h) ∙ in_turn-irrefl start c.input in
      over-key
      ∙ ap (λ b. ltb (key c) (key d) || b) (and_false_r (eqb (key c) (key d)) (wins_tie ports c d) none)
      ∙ or-false (ltb (key c) (key d))
