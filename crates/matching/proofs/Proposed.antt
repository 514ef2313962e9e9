-- Laws of proposed: each input's first candidate that was not refused.
--     mem-proposed-in, mem-proposed-first   its members
--     proposed-below, none?-proposed   each candidate is proposed, or one ahead of it is
--     proposed-part                    a proposal stays one as long as it is not refused
--     proposed-top                     where a proposal is over c, the best of those is one that no proposal is over
use mathlib.Core.Bool.{Bool, true, false}
use mathlib.Core.Path.{◌≡◌}
use mathlib.Core.Logic.{◌⊎◌}
use mathlib.Core.List.{List, [], Memᴰ}
use Rattle.laws.specs.Lists.{keep, some?, none?, least}
use Rattle.laws.specs.Order.{Strict}
use Rattle.laws.proofs.Lists.{Passing, some?-e}
use Rattle.laws.proofs.Least.{least-keeps, least-nil, mem-least-in, mem-least-none, mem-least-first}
use Rattle.laws.proofs.Least.{least-below, least-before, least-part, none?-least}
use Rattle.matching.specs.Matching.{proposed}

module _ {A : Type 0} (ahead over : A → A → Bool) where
  pub proposed-nil : proposed ahead over [] ≡ []
  unfolding proposed
  proposed-nil = least-nil _

  pub proposed-keeps : (l : List A) → proposed ahead over l ≡ keep (λ c. none? (λ d. ahead d c) l) l
  unfolding proposed
  proposed-keeps l = least-keeps ahead l

  pub mem-proposed-in : (l : List A) {c : A} → Memᴰ c (proposed ahead over l) → Memᴰ c l
  unfolding proposed
  mem-proposed-in l m = mem-least-in ahead l m

  pub mem-proposed-none : (l : List A) {c : A} → Memᴰ c (proposed ahead over l)
      → none? (λ d. ahead d c) l ≡ true
  unfolding proposed
  mem-proposed-none l m = mem-least-none ahead l m

  -- no candidate is ahead of a proposal
  pub mem-proposed-first : (l : List A) {c d : A} → Memᴰ c (proposed ahead over l) → Memᴰ d l
      → ahead d c ≡ false
  unfolding proposed
  mem-proposed-first l m k = mem-least-first ahead l m k

  -- a proposal at c or ahead of it
  abbrev pub Proposing : List A → A → Type 0
  Proposing l c = (d : A) × Memᴰ d (proposed ahead over l) × ((d ≡ c) ⊎ (ahead d c ≡ true))

  pub proposed-below : Strict ahead → {c : A} {l : List A} → Memᴰ c l → Proposing l c
  unfolding proposed
  proposed-below s {c} {l} m = least-below ahead s l m

  -- a proposal that is not refused is a proposal still
  pub proposed-part : (l k : List A) {c : A} → ((d : A) → Memᴰ d k → Memᴰ d l)
      → Memᴰ c (proposed ahead over l) → Memᴰ c k → Memᴰ c (proposed ahead over k)
  unfolding proposed
  proposed-part l k h m i = least-part ahead l k h m i

  -- a proposal over c that no proposal is over
  pub record Top (l : List A) (c : A) : Type 0 where
    pub best : A
    pub proposal : Memᴰ best (proposed ahead over l)
    pub alone : none? (λ d. over d best) (proposed ahead over l) ≡ true
    pub above : over best c ≡ true

  -- where some proposal is over c, the best of those is one that no proposal is over
  pub proposed-top : Strict over → (l : List A) {c : A} → some? (λ d. over d c) (proposed ahead over l) ≡ true → Top l c
  proposed-top s l {c} h = go (some?-e (λ d. over d c) ps h)
    where
      ps : List A
      ps = proposed ahead over l

      top : Passing (λ d. over d c) (least over ps) → Top l c
      top w =
          record {
            best = w.0;
            proposal = mem-least-in over ps w.1;
            alone = mem-least-none over ps w.1;
            above = w.2;
          }

      go : Passing (λ d. over d c) ps → Top l c
      go w = top (least-before over s ps w.1 w.2)

  -- a candidate is ahead of c exactly where a proposal is
  pub none?-proposed : Strict ahead → (l : List A) (c : A)
      → none? (λ d. ahead d c) (proposed ahead over l) ≡ none? (λ d. ahead d c) l
  unfolding proposed
  none?-proposed s l c = none?-least ahead s l c
