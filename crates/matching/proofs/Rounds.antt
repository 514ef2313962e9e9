-- Laws of round, rounds and settled.
--     round_by                       what a round leaves, and why it refuses the others
--     round-shorter                  a round refuses one at least, or changes nothing
--     rounds-refusing                rounds are one order of refusing
--     rounds-end, settled-fixed      length l rounds are enough: one more changes nothing
--     fixed-rest, settled-rest       what a round does not change is at rest
--     rounds-proposed                a candidate is left, or no candidate is ahead of it: it was proposed
use Prim.Native.Nat.{ℕ, zero, suc, ◌≤◌, ◌<◌}
use native.Mathlib.Omega.{arith}
use mathlib.Core.Bool.{Bool, true, false, not}
use mathlib.Core.Path.{◌≡◌, refl, sym, ◌∙◌, ap}
use mathlib.Core.Logic.{◌⊎◌, inl, inr}
use mathlib.Core.List.{List, Memᴰ}
use borrow.Author.Tests.{not-true}
use lib.ListN.{length}
use Rattle.laws.specs.Lists.{keep, some?, none?}
use Rattle.laws.proofs.Tests.{or-false-l, or-false-r, or_cases}
use Rattle.laws.proofs.Lists.{Passing, find, some?-clash, some?-by-none?, none?-by-some?, none?-within, all?-none?}
use Rattle.laws.proofs.Lists.{keep-mem, mem-keep-passes, keep_all}
use Rattle.laws.proofs.Count.{length-keep-lt}
use Rattle.matching.specs.Matching.{proposed, round, rounds, settled}
use Rattle.matching.specs.Stable.{Refusing, AtRest, stop, refuse}
use Rattle.matching.proofs.Proposed.{mem-proposed-in, mem-proposed-none}
use Rattle.matching.proofs.Refusing.{refusing-part}

module _ {A : Type 0} (ahead over : A → A → Bool) where
  ------------------------------------------------------------------------
  -- one round

  -- the test that a round keeps the candidates by, and what it tells of them
  pub record Round (l : List A) : Type 0 where
    pub stays : A → Bool
    pub keeps : round ahead over l ≡ keep stays l
    -- a proposal is over what is refused, and it was a proposal itself
    pub outdone : (c : A) → stays c ≡ false → some? (λ d. over d c) (proposed ahead over l) ≡ true
    pub was-proposed : (c : A) → stays c ≡ false → none? (λ d. ahead d c) l ≡ true
    -- what stays was not proposed, or no proposal is over it
    pub stayed : (c : A) → stays c ≡ true
        → (some? (λ d. ahead d c) l ≡ true) ⊎ (none? (λ d. over d c) (proposed ahead over l) ≡ true)

  pub round_by : (l : List A) → Round l
  unfolding round
  round_by l =
      record {
        stays = _;
        keeps = refl;
        outdone = λ c f. some?-by-none? (λ d. over d c) (proposed ahead over l) (or-false-r (waits c) (best c) f);
        was-proposed = λ c f. none?-by-some? (λ d. ahead d c) l (or-false-l (waits c) (best c) f);
        stayed = λ c t. or_cases (waits c) (best c) t;
      }
    where
      waits : A → Bool
      waits c = some? (λ d. ahead d c) l

      best : A → Bool
      best c = none? (λ d. over d c) (proposed ahead over l)

  module _ (l : List A) where
    open round_by l use {stays, keeps, stayed}

    -- a round refuses one at least, or changes nothing
    pub round-shorter : (round ahead over l ≡ l) ⊎ (length (round ahead over l) < length l)
    round-shorter = go (find (λ c. not (stays c)) l)
      where
        go : Passing (λ c. not (stays c)) l ⊎ (none? (λ c. not (stays c)) l ≡ true)
            → (round ahead over l ≡ l) ⊎ (length (round ahead over l) < length l)
        go (inl w) = inr (rw keeps (length-keep-lt stays w.1 (not-true (stays w.0) w.2)))
        go (inr n) = inl (keeps ∙ keep_all stays l (all?-none? stays l ∙ n))

    -- what a round does not change is at rest
    pub fixed-rest : round ahead over l ≡ l → AtRest ahead over l
    fixed-rest e c m = go (stayed c (mem-keep-passes stays l left))
      where
        left : Memᴰ c (keep stays l)
        left = rw (← keeps, e) (mem-proposed-in ahead over l m)

        go : (some? (λ d. ahead d c) l ≡ true) ⊎ (none? (λ d. over d c) (proposed ahead over l) ≡ true)
            → none? (λ d. over d c) (proposed ahead over l) ≡ true
        go (inl s) = absurd (some?-clash (λ d. ahead d c) l s (mem-proposed-none ahead over l m))
        go (inr n) = n

  ------------------------------------------------------------------------
  -- rounds as one order of refusing

  pub rounds-refusing : (n : ℕ) (l : List A) → Refusing ahead over l (rounds ahead over n l)
  unfolding rounds
  rounds-refusing zero l = stop
  rounds-refusing (suc n) l =
      let by : Round l = round_by l in
      let rest : Refusing ahead over (keep by.stays l) (rounds ahead over n (round ahead over l)) =
      rw (← by.keeps) (rounds-refusing n (round ahead over l)) in
      refuse by.stays (λ c m f. by.outdone c f) rest

  pub settled-refusing : (l : List A) → Refusing ahead over l (settled ahead over l)
  unfolding settled
  settled-refusing l = rounds-refusing (length l) l

  ------------------------------------------------------------------------
  -- the rounds end

  pub rounds-fixed : (n : ℕ) (l : List A) → round ahead over l ≡ l → rounds ahead over n l ≡ l
  unfolding rounds
  rounds-fixed zero l e = refl
  rounds-fixed (suc n) l e = ap (rounds ahead over n) e ∙ rounds-fixed n l e

  pub rounds-end : (n : ℕ) (l : List A) → length l ≤ n
      → round ahead over (rounds ahead over n l) ≡ rounds ahead over n l
  unfolding rounds
  rounds-end zero l h = go (round-shorter l)
    where
      go : (round ahead over l ≡ l) ⊎ (length (round ahead over l) < length l) → round ahead over l ≡ l
      go (inl e) = e
      go (inr s) = absurd (omega arith)
  rounds-end (suc n) l h = go (round-shorter l) (rounds-end n (round ahead over l))
    where
      next : List A
      next = round ahead over l

      last : List A
      last = rounds ahead over n next

      go : (next ≡ l) ⊎ (length next < length l) → (length next ≤ n → round ahead over last ≡ last)
          → round ahead over last ≡ last
      go (inl e) rec =
          let f : last ≡ l = ap (rounds ahead over n) e ∙ rounds-fixed n l e in
          ap (round ahead over) f ∙ e ∙ sym f
      go (inr s) rec = rec (omega arith)

  pub settled-fixed : (l : List A) → round ahead over (settled ahead over l) ≡ settled ahead over l
  unfolding settled
  settled-fixed l = rounds-end (length l) l (omega arith)

  pub settled-rest : (l : List A) → AtRest ahead over (settled ahead over l)
  settled-rest l = fixed-rest (settled ahead over l) (settled-fixed l)

  ------------------------------------------------------------------------
  -- each candidate that is refused was proposed

  pub rounds-proposed : (n : ℕ) (l : List A) (c : A) → Memᴰ c l
      → Memᴰ c (rounds ahead over n l) ⊎ (none? (λ d. ahead d c) (rounds ahead over n l) ≡ true)
  unfolding rounds
  rounds-proposed zero l c m = inl m
  rounds-proposed (suc n) l c m = go (by.stays c) refl (rounds-proposed n (round ahead over l) c)
    where
      by : Round l
      by = round_by l

      last : List A
      last = rounds ahead over (suc n) l

      go : (b : Bool) → by.stays c ≡ b
          → (Memᴰ c (round ahead over l) → Memᴰ c last ⊎ (none? (λ d. ahead d c) last ≡ true))
          → Memᴰ c last ⊎ (none? (λ d. ahead d c) last ≡ true)
      go true t rec = rec (rw by.keeps (keep-mem by.stays m t))
      go false f rec =
          inr (none?-within (λ d. ahead d c) last l
          (λ d i t. refusing-part ahead over (rounds-refusing (suc n) l) d i) (by.was-proposed c f))

  pub settled-proposed : (l : List A) (c : A) → Memᴰ c l
      → Memᴰ c (settled ahead over l) ⊎ (none? (λ d. ahead d c) (settled ahead over l) ≡ true)
  unfolding settled
  settled-proposed l = rounds-proposed (length l) l
