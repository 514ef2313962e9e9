-- The candidates that are left, of which proposals are refused one by one, each for a proposal that is over it.
--     left-all    nothing was refused
--     refusal     one more is refused
use Prim.Native.Nat.{ℕ, ◌/◌, ◌<◌}
use native.Mathlib.Omega.{arith}
use mathlib.Core.Bool.{Bool, true, false, not, ◌&&◌, and-true}
use mathlib.Core.Path.{◌≡◌, refl, sym, ◌∙◌, ap}
use mathlib.Core.Logic.{◌⊎◌, inl, inr, ◌≢◌}
use mathlib.Core.List.{List, Memᴰ}
use borrow.Author.Tests.{eqb-true, eqb-false, eq-eqb, ne_eqb, not-true, not-false}
use lib.Dec.{eqb}
use lib.ListN.{length, get_or}
use Rattle.laws.specs.Lists.{keep, none?}
use Rattle.laws.proofs.Tests.{and_false_r, not-i, not-false-i}
use Rattle.laws.proofs.Lists.{some?-i, none?-within, keep-mem, mem-keep}
use Rattle.matching.specs.Matching.{proposed}
use Rattle.matching.specs.Stable.{Refusing, stop}
use Rattle.matching.proofs.Proposed.{proposed-keeps, mem-proposed-in, mem-proposed-none, proposed-part}
use Rattle.matching.proofs.Refusing.{refusing-part, refusing-more}
use Rattle.layout.specs.Table.{entry_limit}
use Rattle.slot_matching.specs.CodeFound.{numbers_of, ahead_at}
use Rattle.slot_matching.specs.CodeProposing.{next_in, rest, without}
use Rattle.slot_matching.proofs.Numbers.{is_in, mem-numbers_of}
use Rattle.slot_matching.proofs.Numbers.{without-own, is_in-without, numbers_of-without, length_without}
use Rattle.slot_matching.proofs.Numbers.{ahead_at-e, next-proposed, proposed-next, proposed-one}

module _ (over : ℕ → ℕ → Bool) where
  -- k is the next of its input
  abbrev pub Proposal : List ℕ → ℕ → Type 0
  Proposal left k = Memᴰ k (proposed ahead_at over (numbers_of left))

  pub in_left : (left : List ℕ) {k : ℕ} → Proposal left k → Memᴰ k (numbers_of left)
  in_left left m = mem-proposed-in ahead_at over (numbers_of left) m

  pub proposal-small : (left : List ℕ) {k : ℕ} → Proposal left k → k < entry_limit
  proposal-small left m = (mem-numbers_of left (in_left left m)).0

  pub record Left (candidates left : List ℕ) : Type 0 where
    pub size : length left ≡ 16
    pub refusing : Refusing ahead_at over (numbers_of candidates) (numbers_of left)
    -- what was refused stood ahead of all that is left of its input
    pub in_order : (c : ℕ) → Memᴰ c (numbers_of candidates)
        → Memᴰ c (numbers_of left) ⊎ (none? (λ d. ahead_at d c) (numbers_of left) ≡ true)

  pub left-all : (candidates : List ℕ) → length candidates ≡ 16 → Left candidates candidates
  left-all candidates h = record { size = h; refusing = stop; in_order = λ c m. inl m }

  pub in_all : {candidates left : List ℕ} {k : ℕ} → Left candidates left → Proposal left k
      → Memᴰ k (numbers_of candidates)
  in_all {left = left} {k = k} l m = refusing-part ahead_at over l.refusing k (in_left left m)

  -- the next candidate of the input whose r was refused
  abbrev pub next : List ℕ → ℕ → ℕ
  next left r = next_in (rest left r) (r / 64)

  -- it is a new proposal
  pub record Next (left : List ℕ) (r : ℕ) : Type 0 where
    pub proposal : Proposal (without left r) (next left r)
    pub same-input : next left r / 64 ≡ r / 64
    pub there : Memᴰ (next left r) (numbers_of left)
    pub new : Proposal left (next left r) → ⊥

  -- proposal r is refused: the others stay, and only the next of the same input is new
  pub record Refusal (candidates left : List ℕ) (r : ℕ) : Type 0 where
    pub left' : Left candidates (without left r)
    pub stays : (c : ℕ) → Proposal left c → c ≢ r → Proposal (without left r) c
    pub was : (c : ℕ) → Proposal (without left r) c → (c ≡ next left r) ⊎ (Proposal left c × (c / 64 ≢ r / 64))
    pub goes_on : next left r < entry_limit → Next left r
    pub gone : is_in (without left r) r ≡ false
    pub kept : (c : ℕ) → c ≢ r → is_in (without left r) c ≡ is_in left c

  module _ (candidates left : List ℕ) (l : Left candidates left) (r d : ℕ) (mine : Proposal left r)
      (by : Proposal left d) (beats : over d r ≡ true) where
    abbrev fewer : List ℕ
    fewer = without left r

    other : ℕ → Bool
    other c = not (eqb c r)

    small : r < entry_limit
    small = proposal-small left mine

    others : numbers_of fewer ≡ keep other (numbers_of left)
    unfolding other
    others = numbers_of-without left r l.size small

    in-others : {c : ℕ} → Memᴰ c (numbers_of fewer) → Memᴰ c (numbers_of left) × (c ≢ r)
    unfolding other
    in-others {c} m =
        let w = mem-keep other (numbers_of left) (rw others at m) in
        (w.0, eqb-false c r (not-true (eqb c r) w.1))

    others-in : {c : ℕ} → Memᴰ c (numbers_of left) → c ≢ r → Memᴰ c (numbers_of fewer)
    unfolding other
    others-in {c} m e = rw others (keep-mem other m (not-i (eqb c r) (ne_eqb c r e)))

    -- fewer stand ahead of a candidate
    none_ahead : (c : ℕ) → none? (λ e. ahead_at e c) (numbers_of left) ≡ true
        → none? (λ e. ahead_at e c) (numbers_of fewer) ≡ true
    none_ahead c = none?-within (λ e. ahead_at e c) (numbers_of fewer) (numbers_of left) (λ e i t. (in-others i).0)

    refused-left : Left candidates fewer
    unfolding other
    refused-left =
        record {
          size = length_without left r ∙ l.size;
          refusing =
              rw others
              (refusing-more ahead_at over l.refusing other (λ c m f.
              some?-i (λ e. over e c) by (ap (over d) (eqb-true c r (not-false (eqb c r) f)) ∙ beats)));
          in_order = λ c m. go c (l.in_order c m) (eqb c r) refl;
        }
      where
        go : (c : ℕ) → Memᴰ c (numbers_of left) ⊎ (none? (λ e. ahead_at e c) (numbers_of left) ≡ true)
            → (b : Bool) → eqb c r ≡ b
            → Memᴰ c (numbers_of fewer) ⊎ (none? (λ e. ahead_at e c) (numbers_of fewer) ≡ true)
        go c (inr t) b e = inr (none_ahead c t)
        go c (inl i) true e =
            inr (none_ahead c (rw (eqb-true c r e) (mem-proposed-none ahead_at over (numbers_of left) mine)))
        go c (inl i) false e = inl (others-in i (eqb-false c r e))

    next-is : next_in (get_or fewer (r / 64) 0) (r / 64) ≡ next left r
    next-is = ap (λ set. next_in set (r / 64)) (without-own left r l.size small)

    pub refusal : Refusal candidates left r
    refusal =
        record {
          left' = refused-left;
          stays = λ c m e.
              proposed-part ahead_at over (numbers_of left) (numbers_of fewer) (λ x i. (in-others i).0) m
              (others-in (in_left left m) e);
          was = λ c m. was c m (eqb (c / 64) (r / 64)) refl;
          goes_on = goes_on;
          gone =
              is_in-without left r l.size small r
              ∙ and_false_r (is_in left r) (not (eqb r r)) (not-false-i (eqb r r) (eq-eqb r r refl));
          kept = λ c e.
              is_in-without left r l.size small c
              ∙ ap (λ b. is_in left c && not b) (ne_eqb c r e)
              ∙ and-true (is_in left c);
        }
      where
        was : (c : ℕ) → Proposal fewer c → (b : Bool) → eqb (c / 64) (r / 64) ≡ b
            → (c ≡ next left r) ⊎ (Proposal left c × (c / 64 ≢ r / 64))
        was c m true e =
            inl (proposed-next fewer over m
            ∙ ap (λ i. next_in (get_or fewer i 0) i) (eqb-true (c / 64) (r / 64) e)
            ∙ next-is)
        was c m false e =
            inr (
              rw (proposed-keeps ahead_at over (numbers_of left))
                  (keep-mem (λ c. none? (λ x. ahead_at x c) (numbers_of left)) (in-others (in_left fewer m)).0
                  (none?-within (λ x. ahead_at x c) (numbers_of left) (numbers_of fewer)
                  (λ x i t. others-in i (λ q. f (sym (ahead_at-e x c t).0 ∙ ap (λ y. y / 64) q)))
                  (mem-proposed-none ahead_at over (numbers_of fewer) m))),
              f,
            )
          where
            f : c / 64 ≢ r / 64
            f = eqb-false (c / 64) (r / 64) e

        goes_on : next left r < entry_limit → Next left r
        goes_on h =
            record {
              proposal = w.0;
              same-input = w.1;
              there = i.0;
              new = λ m. i.1 (proposed-one left over m mine w.1);
            }
          where
            w : Proposal fewer (next left r) × (next left r / 64 ≡ r / 64)
            w = (rw next-is at (next-proposed fewer over (r / 64) (omega (arith, small)))) h

            i : Memᴰ (next left r) (numbers_of left) × (next left r ≢ r)
            i = in-others (in_left fewer w.0)
