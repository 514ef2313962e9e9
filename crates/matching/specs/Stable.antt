-- What is claimed of the matching. `l` are the candidates, `m` those that are matched.
use Rattle.std.specs.Prelude.{Bool, true, false, ◌≡◌, ◌⊎◌}
use mathlib.Core.List.{List, Memᴰ}
use Rattle.laws.specs.Lists.{keep, some?, none?}
use Rattle.matching.specs.Matching.{proposed}

module _ {A : Type 0} (ahead over : A → A → Bool) where
  -- no two matched candidates are of one input, and no two go to one output
  pub record Matching (l m : List A) : Type 0 where
    pub within : (c : A) → Memᴰ c m → Memᴰ c l
    pub per-input : (c d : A) → Memᴰ c m → Memᴰ d m → ahead c d ≡ false
    pub per-output : (c d : A) → Memᴰ c m → Memᴰ d m → over c d ≡ false

  -- every candidate is matched, or a match of its own input stands ahead of it, or a match to its output is over it
  pub record Stable (l m : List A) : Type 0 where
    pub matching : Matching l m
    pub stable : (c : A) → Memᴰ c l
        → Memᴰ c m ⊎ ((some? (λ d. ahead d c) m ≡ true) ⊎ (some? (λ d. over d c) m ≡ true))

  -- every input does as well in m as in any other stable matching
  abbrev pub BestForInputs : List A → List A → Type 0
  BestForInputs l m = (other : List A) → Stable l other → (c : A) → Memᴰ c other
      → Memᴰ c m ⊎ (some? (λ d. ahead d c) m ≡ true)

  -- outputs refusing in any order: each step takes away some candidates that a proposal made so far is over
  pub data Refusing : List A → List A → Type 0 where
    stop : {l : List A} → Refusing l l
    refuse : {l l' : List A} (p : A → Bool)
        → ((c : A) → Memᴰ c l → p c ≡ false → some? (λ d. over d c) (proposed ahead over l) ≡ true)
        → Refusing (keep p l) l'
        → Refusing l l'

  -- no proposal is left to refuse
  abbrev pub AtRest : List A → Type 0
  AtRest l = (c : A) → Memᴰ c (proposed ahead over l) → none? (λ d. over d c) (proposed ahead over l) ≡ true
