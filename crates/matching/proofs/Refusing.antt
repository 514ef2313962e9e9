-- Laws of refusing in any order, from the candidates l down to what is left, l'.
--     refusing-part, refusing-keep     what is left is a part of l, in the order of l
--     refusing-more                    refusing goes on
--     refusing-over                    a candidate is left, or a proposal is over it
--     stable-not-over, stable-left     no match of a stable matching is refused
--     rest_stable, rest-best           the proposals of a list at rest are stable, and best for the inputs
--     rest-same                        two lists at rest have the same proposals
use mathlib.Core.Bool.{Bool, true, false, ◌&&◌}
use mathlib.Core.Path.{◌≡◌, refl, sym, ◌∙◌, ap}
use mathlib.Core.Logic.{◌⊎◌, inl, inr}
use mathlib.Core.List.{List, Memᴰ}
use Rattle.laws.specs.Lists.{keep, some?, none?}
use Rattle.laws.specs.Order.{Strict}
use Rattle.laws.proofs.Tests.{clash, by-pass, by-fail}
use Rattle.laws.proofs.Lists.{Passing, some?-i, some?-e, some?-clash, some?-mono, none?-i, none?-e}
use Rattle.laws.proofs.Lists.{all?-i, keep-mem, mem-keep-in, keep-keep, keep_all, keep-members}
use Rattle.matching.specs.Matching.{proposed}
use Rattle.matching.specs.Stable.{Stable, BestForInputs, Refusing, AtRest, stop, refuse}
use Rattle.matching.proofs.Proposed.{proposed-keeps, mem-proposed-in, mem-proposed-first, proposed-part}
use Rattle.matching.proofs.Proposed.{Proposing, proposed-below, Top, proposed-top}

module _ {A : Type 0} (ahead over : A → A → Bool) where
  ------------------------------------------------------------------------
  -- what is left is a part of the list

  pub refusing-part : {l l' : List A} → Refusing ahead over l l' → (c : A) → Memᴰ c l' → Memᴰ c l
  refusing-part stop c m = m
  refusing-part (refuse {l = l} p h r) c m = mem-keep-in p l (refusing-part r c m)

  pub refusing-keep : {l l' : List A} → Refusing ahead over l l' → (p : A → Bool) × (l' ≡ keep p l)
  refusing-keep {l} stop = ((λ c. true), sym (keep_all (λ c. true) l (all?-i (λ c. true) l (λ c m. refl))))
  refusing-keep {l'} (refuse {l = l} p h r) =
      let w : (q : A → Bool) × (l' ≡ keep q (keep p l)) = refusing-keep r in
      ((λ c. p c && w.0 c), w.1 ∙ keep-keep p w.0 l)

  -- refusing goes on with what is left
  pub refusing-more : {l l' : List A} → Refusing ahead over l l' → (p : A → Bool)
      → ((c : A) → Memᴰ c l' → p c ≡ false → some? (λ d. over d c) (proposed ahead over l') ≡ true)
      → Refusing ahead over l (keep p l')
  refusing-more stop p h = refuse p h stop
  refusing-more (refuse q g r) p h = refuse q g (refusing-more r p h)

  -- the proposals of what is left, as a part of the list
  pub refusing-proposed : {l l' : List A} → Refusing ahead over l l'
      → (p : A → Bool) × (proposed ahead over l' ≡ keep p l)
  refusing-proposed {l} {l'} r =
      let w : (p : A → Bool) × (l' ≡ keep p l) = refusing-keep r in
      let first : A → Bool = λ c. none? (λ d. ahead d c) l' in
      ((λ c. w.0 c && first c), proposed-keeps ahead over l' ∙ ap (keep first) w.1 ∙ keep-keep w.0 first l)

  -- one step takes away no candidate that no proposal is over
  refuse-leaves : (l : List A) (p : A → Bool)
      → ((c : A) → Memᴰ c l → p c ≡ false → some? (λ d. over d c) (proposed ahead over l) ≡ true)
      → (c : A) → Memᴰ c l → none? (λ d. over d c) (proposed ahead over l) ≡ true → Memᴰ c (keep p l)
  refuse-leaves l p h c m n =
      keep-mem p m (by-pass (p c) (λ f. some?-clash (λ d. over d c) (proposed ahead over l) (h c m f) n))

  ------------------------------------------------------------------------
  -- a candidate is left, or a proposal is over it

  module _ (by-output : Strict over) where
    -- c is left in l, or a proposal of l is over it
    abbrev Left : List A → A → Type 0
    Left l c = Memᴰ c l ⊎ (some? (λ d. over d c) (proposed ahead over l) ≡ true)

    -- so it is where d is over c, and d is a proposal if it is left
    left_over : {l : List A} {c d : A} → over d c ≡ true → (Memᴰ d l → Memᴰ d (proposed ahead over l))
        → Left l d → Left l c
    left_over {c} t top (inl m) = inr (some?-i (λ d. over d c) (top m) t)
    left_over {l} {c} {d} t top (inr s) =
        inr (some?-mono (λ e. over e d) (λ e. over e c) (proposed ahead over l)
        (λ e m u. by-output.transitive e d c u t) s)

    pub refusing-over : {l l' : List A} → Refusing ahead over l l' → (c : A) → Memᴰ c l
        → Memᴰ c l' ⊎ (some? (λ d. over d c) (proposed ahead over l') ≡ true)
    refusing-over stop c m = inl m
    refusing-over {l'} (refuse {l = l} p h r) c m = go (p c) refl (refusing-over r)
      where
        -- the best of the proposals over c is not refused in this step
        refused : Top ahead over l c → ((d : A) → Memᴰ d (keep p l) → Left l' d) → Left l' c
        refused top rec =
            let there : Memᴰ top.best l = mem-proposed-in ahead over l top.proposal in
            left_over top.above (proposed-part ahead over l l' (refusing-part (refuse p h r)) top.proposal)
            (rec top.best (refuse-leaves l p h top.best there top.alone))

        go : (b : Bool) → p c ≡ b → ((d : A) → Memᴰ d (keep p l) → Left l' d) → Left l' c
        go true t rec = rec c (keep-mem p m t)
        go false t rec = refused (proposed-top ahead over by-output l (h c m t)) rec

    ------------------------------------------------------------------------
    -- no match of a stable matching is refused

    module _ {l other : List A} (s : Stable ahead over l other) where
      -- while all matches are left, no proposal is over one of them
      pub stable-not-over : (k : List A) → ((c : A) → Memᴰ c k → Memᴰ c l)
          → ((c : A) → Memᴰ c other → Memᴰ c k) → (c : A) → Memᴰ c other
          → none? (λ d. over d c) (proposed ahead over k) ≡ true
      stable-not-over k part left c m =
          none?-i (λ d. over d c) (proposed ahead over k)
          (λ d i. by-fail (over d c) (λ t. go d i t (s.stable d (part d (mem-proposed-in ahead over k i)))))
        where
          apart : {d : A} → Memᴰ d other → over d c ≡ true → ⊥
          apart {d} i t = clash t (s.matching.per-output d c i m)

          go : (d : A) → Memᴰ d (proposed ahead over k) → over d c ≡ true
              → Memᴰ d other ⊎ ((some? (λ e. ahead e d) other ≡ true) ⊎ (some? (λ e. over e d) other ≡ true)) → ⊥
          go d i t (inl n) = apart n t
          go d i t (inr (inl a)) =
              let w : Passing (λ e. ahead e d) other = some?-e (λ e. ahead e d) other a in
              clash w.2 (mem-proposed-first ahead over k i (left w.0 w.1))
          go d i t (inr (inr o)) =
              let w : Passing (λ e. over e d) other = some?-e (λ e. over e d) other o in
              apart w.1 (by-output.transitive w.0 d c w.2 t)

      stable-left-from : {k l' : List A} → ((c : A) → Memᴰ c k → Memᴰ c l)
          → ((c : A) → Memᴰ c other → Memᴰ c k) → Refusing ahead over k l'
          → (c : A) → Memᴰ c other → Memᴰ c l'
      stable-left-from part left stop = left
      stable-left-from part left (refuse {l = k} p h r) =
          stable-left-from
          (λ c m. part c (mem-keep-in p k m))
          (λ c m. refuse-leaves k p h c (left c m) (stable-not-over k part left c m))
          r

      -- all matches are left
      pub stable-left : {l' : List A} → Refusing ahead over l l' → (c : A) → Memᴰ c other → Memᴰ c l'
      stable-left r = stable-left-from (λ c m. m) s.matching.within r

  ------------------------------------------------------------------------
  -- lists at rest

  module _ (by-input : Strict ahead) where
    -- a candidate that is left is proposed, or one ahead of it is
    pub left-proposed : {l : List A} {c : A} → Memᴰ c l
        → Memᴰ c (proposed ahead over l) ⊎ (some? (λ d. ahead d c) (proposed ahead over l) ≡ true)
    left-proposed {l} {c} m =
        let w : Proposing ahead over l c = proposed-below ahead over by-input m in
        go w.1 w.2
      where
        go : {d : A} → Memᴰ d (proposed ahead over l) → (d ≡ c) ⊎ (ahead d c ≡ true)
            → Memᴰ c (proposed ahead over l) ⊎ (some? (λ d. ahead d c) (proposed ahead over l) ≡ true)
        go i (inl e) = inl (mathlib.Core.List.Memᴰ.cast (sym e) i)
        go i (inr t) = inr (some?-i (λ d. ahead d c) i t)

  module _ (by-input : Strict ahead) (by-output : Strict over) where
    pub rest_stable : {l l' : List A} → Refusing ahead over l l' → AtRest ahead over l'
        → Stable ahead over l (proposed ahead over l')
    rest_stable {l} {l'} r rest =
        record {
          matching =
              record {
                within = λ c m. refusing-part r c (mem-proposed-in ahead over l' m);
                per-input = λ c d m k. mem-proposed-first ahead over l' k (mem-proposed-in ahead over l' m);
                per-output = λ c d m k. none?-e (λ e. over e d) (rest d k) m;
              };
          stable = λ c m. go c (refusing-over by-output r c m);
        }
      where
        ps : List A
        ps = proposed ahead over l'

        left : (c : A) → Memᴰ c ps ⊎ (some? (λ d. ahead d c) ps ≡ true)
            → Memᴰ c ps ⊎ ((some? (λ d. ahead d c) ps ≡ true) ⊎ (some? (λ d. over d c) ps ≡ true))
        left c (inl m) = inl m
        left c (inr a) = inr (inl a)

        go : (c : A) → Memᴰ c l' ⊎ (some? (λ d. over d c) ps ≡ true)
            → Memᴰ c ps ⊎ ((some? (λ d. ahead d c) ps ≡ true) ⊎ (some? (λ d. over d c) ps ≡ true))
        go c (inl m) = left c (left-proposed by-input m)
        go c (inr o) = inr (inr o)

    pub rest-best : {l l' : List A} → Refusing ahead over l l' → BestForInputs ahead over l (proposed ahead over l')
    rest-best r other s c m = left-proposed by-input (stable-left by-output s r c m)

    -- two stable matchings that are both best for the inputs have the same members
    pub best-within : {l m m' : List A} → Stable ahead over l m → Stable ahead over l m'
        → BestForInputs ahead over l m → BestForInputs ahead over l m' → (c : A) → Memᴰ c m → Memᴰ c m'
    best-within {l} {m} {m'} s s' b b' c i = go (b' m s c i)
      where
        apart : {d : A} → Memᴰ d m → ahead d c ≡ true → ⊥
        apart {d} j t = clash t (s.matching.per-input d c j i)

        ahead_of : (d : A) → ahead d c ≡ true → Memᴰ d m ⊎ (some? (λ e. ahead e d) m ≡ true) → ⊥
        ahead_of d t (inl j) = apart j t
        ahead_of d t (inr a) =
            let w : Passing (λ e. ahead e d) m = some?-e (λ e. ahead e d) m a in
            apart w.1 (by-input.transitive w.0 d c w.2 t)

        go : Memᴰ c m' ⊎ (some? (λ d. ahead d c) m' ≡ true) → Memᴰ c m'
        go (inl j) = j
        go (inr a) =
            let w : Passing (λ d. ahead d c) m' = some?-e (λ d. ahead d c) m' a in
            absurd (ahead_of w.0 w.2 (b m' s' w.0 w.1))

    -- in whatever order was refused, the proposals at rest are the same
    pub rest-same : {l l' l'' : List A} → Refusing ahead over l l' → AtRest ahead over l'
        → Refusing ahead over l l'' → AtRest ahead over l'' → proposed ahead over l' ≡ proposed ahead over l''
    rest-same {l} {l'} {l''} r rest r' rest' =
        p.1
        ∙ keep-members p.0 p'.0 l
        (rw (← p.1, ← p'.1) (within r rest r' rest'))
        (rw (← p.1, ← p'.1) (within r' rest' r rest))
        ∙ sym p'.1
      where
        p : (p : A → Bool) × (proposed ahead over l' ≡ keep p l)
        p = refusing-proposed r

        p' : (p : A → Bool) × (proposed ahead over l'' ≡ keep p l)
        p' = refusing-proposed r'

        within : {k k' : List A} → Refusing ahead over l k → AtRest ahead over k
            → Refusing ahead over l k' → AtRest ahead over k'
            → (c : A) → Memᴰ c (proposed ahead over k) → Memᴰ c (proposed ahead over k')
        within s at s' at' = best-within (rest_stable s at) (rest_stable s' at') (rest-best s) (rest-best s')
