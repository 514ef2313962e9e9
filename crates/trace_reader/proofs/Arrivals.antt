-- The reader of an arrival:
--     came_of-bad, -whole             its answer, by what was read
--     arrival-bad-in, .., -whole     an arrival, by its lines
--     number-line-next, ..           how many lines further
--     came-bad, -whole               an arrival, by the answer
--     onto                           arrivals before those that are read
use Prim.Native.Nat.{ℕ, suc, ◌+◌, ◌-◌, ◌≤◌}
use native.Mathlib.Omega.{arith}
use mathlib.Core.Bool.{Bool, true, false}
use mathlib.Core.List.{List, [], ◌∷◌, ◌++◌, append_assoc, append-nil}
use mathlib.Core.Option.{Option, none, some}
use mathlib.Core.Path.{◌≡◌, refl, sym, ap, ◌∙◌}
use lib.Dec.{eqb}
use lib.ListN.{length, drop}
use Rattle.cell.specs.declared.Arrival.{Arrival}
use Rattle.trace.specs.declared.Key.{Key}
use Rattle.trace.specs.declared.Key.TheVariants.{In, Out, Flow, Rank, Tag}
use Rattle.std.specs.Prelude.{Result, Ok, Err}
use Rattle.trace.specs.Line.{read_line}
use Rattle.trace.specs.Contents.{arrival_text}
use Rattle.trace.specs.Reader.{from, Cursor, Read, got, bad_at, Reader, give, ◌>>=◌, number, exactly, begins, arrival, arrivals}
use Rattle.trace.proofs.Blocks.{got-bad, bind-got, bind-bad, bind-exact, number-some, number-none, arrival-exact}
use Rattle.trace.proofs.Blocks.{exactly-same, exactly-other, exactly-bad, arrivals-stop}
use Rattle.trace_line_reader.proofs.Lines.{drop-rest}
use Rattle.trace_reader.specs.Code.{came_of}

module _ (t : List ℕ) where
  pub came_of-bad : {r : Read Arrival} {l : ℕ} → r ≡ bad_at l → came_of t r ≡ Err l
  unfolding came_of
  came_of-bad h = rw (h, came_of)

  came_of-got : {r : Read Arrival} {a : Arrival} {d : Cursor} → r ≡ got a d
      → came_of t r ≡ Ok (a, length t - length d.text)
  unfolding came_of
  came_of-got h = rw (h, came_of)

  pub came_of-whole : {r : Read Arrival} {a : Arrival} {d : Cursor} {i : ℕ} → r ≡ got a d
      → i + length d.text ≡ length t → came_of t r ≡ Ok (a, i)
  came_of-whole {a} {d} {i} h l =
      let e : length t - length d.text ≡ i = omega arith in
      came_of-got h ∙ ap (λ i. Ok (a, i)) e

-- an arrival, by its lines
module _ (c : Cursor) where
  pub arrival-bad-in : {l : ℕ} → number In c ≡ bad_at l → arrival c ≡ bad_at l
  unfolding arrival
  arrival-bad-in h = bind-bad (number In) _ c h

  module _ {i : ℕ} {c₁ : Cursor} (p₁ : number In c ≡ got i c₁) where
    pub arrival-bad-out : {l : ℕ} → number Out c₁ ≡ bad_at l → arrival c ≡ bad_at l
    unfolding arrival
    arrival-bad-out h = bind-got (number In) _ c p₁ ∙ bind-bad (number Out) _ c₁ h

    module _ {o : ℕ} {c₂ : Cursor} (p₂ : number Out c₁ ≡ got o c₂) where
      pub arrival-bad-flow : {l : ℕ} → number Flow c₂ ≡ bad_at l → arrival c ≡ bad_at l
      unfolding arrival
      arrival-bad-flow h =
          bind-got (number In) _ c p₁
          ∙ bind-got (number Out) _ c₁ p₂
          ∙ bind-bad (number Flow) _ c₂ h

      module _ {f : ℕ} {c₃ : Cursor} (p₃ : number Flow c₂ ≡ got f c₃) where
        pub arrival-bad-rank : {l : ℕ} → number Rank c₃ ≡ bad_at l → arrival c ≡ bad_at l
        unfolding arrival
        arrival-bad-rank h =
            bind-got (number In) _ c p₁
            ∙ bind-got (number Out) _ c₁ p₂
            ∙ bind-got (number Flow) _ c₂ p₃
            ∙ bind-bad (number Rank) _ c₃ h

        module _ {r : ℕ} {c₄ : Cursor} (p₄ : number Rank c₃ ≡ got r c₄) where
          pub arrival-bad-tag : {l : ℕ} → number Tag c₄ ≡ bad_at l → arrival c ≡ bad_at l
          unfolding arrival
          arrival-bad-tag h =
              bind-got (number In) _ c p₁
              ∙ bind-got (number Out) _ c₁ p₂
              ∙ bind-got (number Flow) _ c₂ p₃
              ∙ bind-got (number Rank) _ c₃ p₄
              ∙ bind-bad (number Tag) _ c₄ h

          pub arrival-whole : {t : ℕ} {c₅ : Cursor} → number Tag c₄ ≡ got t c₅
              → arrival c ≡ got (record { input = i; output = o; flow = f; rank = r; tag = t }) c₅
          unfolding arrival give
          arrival-whole h =
              bind-got (number In) _ c p₁
              ∙ bind-got (number Out) _ c₁ p₂
              ∙ bind-got (number Flow) _ c₂ p₃
              ∙ bind-got (number Rank) _ c₃ p₄
              ∙ bind-got (number Tag) _ c₄ h

-- what was read, by the answer

-- each line read is one line further
pub number-line-next : (k : Key) (c : Cursor) {n : ℕ} {d : Cursor} → number k c ≡ got n d → d.line ≡ c.line + 1
number-line-next k c {n} {d} h = go (read_line k c.text) refl
  where
    go : (o : Option (ℕ × List ℕ)) → read_line k c.text ≡ o → d.line ≡ c.line + 1
    go none e = got-bad (sym (number-none k c e) ∙ h)
    go (some s) e =
        let g : got s.0 (from (c.line + 1) s.1) ≡ got n d = sym (number-some k c e) ∙ h in
        let i : from (c.line + 1) s.1 ≡ d = cc in
        sym (ap (λ x. x.line) i)

pub exactly-line-next : (k : Key) (i : ℕ) (c : Cursor) {n : ℕ} {d : Cursor} → exactly k i c ≡ got n d
    → d.line ≡ c.line + 1
exactly-line-next k i c {n} {d} h = go (number k c) refl
  where
    same : (m : ℕ) (e : Cursor) → number k c ≡ got m e → (b : Bool) → eqb m i ≡ b → d.line ≡ c.line + 1
    same m e p true b =
        let g : got m e ≡ got n d = sym (exactly-same k i c p b) ∙ h in
        let f : e ≡ d = cc in
        sym (ap (λ x. x.line) f) ∙ number-line-next k c p
    same m e p false b = got-bad (sym (exactly-other k i c p b) ∙ h)

    go : (r : Read ℕ) → number k c ≡ r → d.line ≡ c.line + 1
    go (got m e) p = same m e p (eqb m i) refl
    go (bad_at l) p = got-bad (sym (exactly-bad k i c p) ∙ h)

pub arrival-line : (c : Cursor) {a : Arrival} {d : Cursor} → arrival c ≡ got a d → d.line ≡ c.line + 5
unfolding arrival give
arrival-line c {a} {d} h =
    bind-exact (number In) _ c h λ i c₁ p h.
    bind-exact (number Out) _ c₁ h λ o c₂ q h.
    bind-exact (number Flow) _ c₂ h λ f c₃ r h.
    bind-exact (number Rank) _ c₃ h λ k c₄ s h.
    bind-exact (number Tag) _ c₄ h λ t c₅ u h.
    let z : c₅ ≡ d = cc in
    let e : c₅.line ≡ d.line = ap (λ x. x.line) z in
    let e₁ = number-line-next In c p in
    let e₂ = number-line-next Out c₁ q in
    let e₃ = number-line-next Flow c₂ r in
    let e₄ = number-line-next Rank c₃ s in
    let e₅ = number-line-next Tag c₄ u in
    omega arith

module _ (l : ℕ) (t : List ℕ) {r : Result (Arrival × ℕ) ℕ} (e : r ≡ came_of t (arrival (from l t))) where
  pub came-bad : {k : ℕ} → r ≡ Err k → arrival (from l t) ≡ bad_at k
  came-bad {k} h = go (arrival (from l t)) refl
    where
      go : (x : Read Arrival) → arrival (from l t) ≡ x → arrival (from l t) ≡ bad_at k
      go (bad_at j) f =
          let g : j ≡ k = cc (came_of-bad t f) in
          f ∙ ap bad_at g
      go (got a d) f = cc (came_of-got t f)

  pub came-whole : {a : Arrival} {i : ℕ} → r ≡ Ok (a, i)
      → (arrival (from l t) ≡ got a (from (l + 5) (drop i t))) × (i ≤ length t)
  came-whole {a} {i} h = go (arrival (from l t)) refl
    where
      go : (x : Read Arrival) → arrival (from l t) ≡ x
          → (arrival (from l t) ≡ got a (from (l + 5) (drop i t))) × (i ≤ length t)
      go (bad_at j) f =
          let z : ◌≡◌ {A = ℕ} 0 1 = cc (came_of-bad t f) in
          absurd (omega arith)
      go (got b d) f =
          let v : ◌≡◌ {A = Arrival × ℕ} (b, length t - length d.text) (a, i) = cc (came_of-got t f) in
          let x : b ≡ a = ap (λ p. p.0) v in
          let y : length t - length d.text ≡ i = ap (λ p. p.1) v in
          let (u, w) = drop-rest (arrival_text b) d.text t (arrival-exact (from l t) b d f).0 in
          let z : d ≡ from (l + 5) (drop i t) = λ k. record { line = arrival-line (from l t) f k; text = (u ∙ ap (λ n. drop n t) y) k } in
          (f ∙ ap (λ x. got x d) x ∙ ap (got a) z, omega arith)

-- arrivals before those that are read
unfoldable pub onto : List Arrival → Read (List Arrival) → Read (List Arrival)
onto rs (got ss d) = got (rs ++ ss) d
onto rs (bad_at l) = bad_at l

pub onto-nil : (r : Read (List Arrival)) → r ≡ onto [] r
unfolding onto
onto-nil (got ss d) = refl
onto-nil (bad_at l) = refl

onto-cons : (rs : List Arrival) (a : Arrival) (m : Reader (List Arrival)) (d : Cursor)
    → onto rs (◌>>=◌ m (λ ss. give (a ∷ ss)) d) ≡ onto (rs ++ (a ∷ [])) (m d)
unfolding onto give
onto-cons rs a m d = go (m d) refl
  where
    go : (r : Read (List Arrival)) → m d ≡ r → onto rs (◌>>=◌ m (λ ss. give (a ∷ ss)) d) ≡ onto (rs ++ (a ∷ [])) (m d)
    go (got ss e) h = rw (bind-got m (λ ss. give (a ∷ ss)) d h, h) (ap (λ x. got x e) (sym (append_assoc rs (a ∷ []) ss)))
    go (bad_at l) h = rw (bind-bad m (λ ss. give (a ∷ ss)) d h, h)

-- one more arrival, or none
module _ (rs : List Arrival) (most : ℕ) (c : Cursor) where
  pub onto-stop : begins In c ≡ false → onto rs (arrivals most c) ≡ got rs c
  unfolding onto
  onto-stop h = rw (arrivals-stop most c h) (ap (λ x. got x c) (append-nil rs))

  pub onto-bad : begins In c ≡ true → {l : ℕ} → arrival c ≡ bad_at l → onto rs (arrivals (suc most) c) ≡ bad_at l
  unfolding onto arrivals
  onto-bad h e = rw (h, arrivals) (ap (onto rs) (bind-bad arrival _ c e))

  pub onto-more : begins In c ≡ true → {a : Arrival} {d : Cursor} → arrival c ≡ got a d
      → onto rs (arrivals (suc most) c) ≡ onto (rs ++ (a ∷ [])) (arrivals most d)
  unfolding arrivals
  onto-more h {a} {d} e = rw (h, arrivals) (ap (onto rs) (bind-got arrival _ c e) ∙ onto-cons rs a (arrivals most) d)

pub onto-none : (rs : List Arrival) (c : Cursor) → onto rs (arrivals 0 c) ≡ got rs c
unfolding onto arrivals give
onto-none rs c = ap (λ x. got x c) (append-nil rs)
