-- Arrivals and blocks are read back, and only such are read:
--     number-line, number-exact       the line of a key
--     arrival-text, arrival-exact     the five lines of an arrival
--     arrivals-text, arrivals-exact   the arrivals of a block
--     block-text, block-exact         a block
--     next-slot, next-end, next-exact what stands after the header or a block
use Prim.Native.Nat.{ℕ, zero, suc, ◌+◌, ◌≤◌}
use native.Mathlib.Omega.{arith}
use mathlib.Core.Bool.{Bool, true, false}
use mathlib.Core.List.{List, [], ◌∷◌, ◌++◌, append_assoc, append-nil}
use mathlib.Core.Option.{Option, none, some}
use mathlib.Core.Path.{◌≡◌, refl, sym, ap, ◌∙◌}
use borrow.Author.Tests.{leb-true, le-leb, eqb-true, eq-eqb}
use lib.Dec.{leb, eqb}
use lib.ListN.{length}
use Rattle.laws.specs.Lists.{all?}
use Rattle.laws.proofs.Tests.{and_i, and_l, and_r}
use Rattle.laws.proofs.Lists.{all?-nil}
use Rattle.cell.specs.declared.Arrival.{Arrival}
use Rattle.cell.specs.Limits.{fits32}
use Rattle.trace.specs.declared.Key.{Key}
use Rattle.trace.specs.declared.Key.TheVariants.{Slot, In, Out, Flow, Rank, Tag, End}
use Rattle.trace.specs.Line.{key_text, line, after, read_line}
use Rattle.cell.specs.Cell.{arrival_fits}
use Rattle.trace.specs.Contents.{block_limit, arrival_text, arrivals_text, block_fits}
use Rattle.trace.specs.Reader.{Cursor, Read, got, bad_at, Reader, give, ◌>>=◌, number, exactly, begins}
use Rattle.trace.specs.Reader.{arrival, arrivals, block, Next, slot_ahead, finished, faulty, after_end, next}
use Rattle.trace.proofs.Tests.{all?-both, all?-head, all?-tail}
use Rattle.trace.proofs.Line.{read_line-line, read_line-exact, after_line, after-end-slot}

abbrev pub at : ℕ → List ℕ → Cursor
at l t = record { line = l; text = t }

-- a reader reads a text: whatever follows the text, it gets the value and stops there
pub record Reads {A : Type 0} (m : Reader A) (t : List ℕ) (a : A) : Type 0 where
  pub before : (rest : List ℕ) (l : ℕ) → (k : ℕ) × (m (at l (t ++ rest)) ≡ got a (at k rest))

-- one reader after another

pub got-bad : {A P : Type 0} {a : A} {d : Cursor} {l : ℕ} → bad_at l ≡ got a d → P
got-bad h =
    let z : ◌≡◌ {A = ℕ} 0 1 = cc in
    absurd (omega arith)

module _ {A B : Type 0} where
  pub bind-got : (m : Reader A) (f : A → Reader B) (c : Cursor) {a : A} {d : Cursor} → m c ≡ got a d
      → ◌>>=◌ m f c ≡ f a d
  unfolding ◌>>=◌
  bind-got m f c h = rw (h, ◌>>=◌)

  pub bind-bad : (m : Reader A) (f : A → Reader B) (c : Cursor) {l : ℕ} → m c ≡ bad_at l → ◌>>=◌ m f c ≡ bad_at l
  unfolding ◌>>=◌
  bind-bad m f c h = rw (h, ◌>>=◌)

  -- the second gets a value only where the first does
  pub bind-exact : {P : Type 0} (m : Reader A) (f : A → Reader B) (c : Cursor) {b : B} {e : Cursor}
      → ◌>>=◌ m f c ≡ got b e → ((a : A) (d : Cursor) → m c ≡ got a d → f a d ≡ got b e → P) → P
  bind-exact {P} m f c {b} {e} h k = go (m c) refl
    where
      go : (r : Read A) → m c ≡ r → P
      go (got a d) p = k a d p (sym (bind-got m f c p) ∙ h)
      go (bad_at l) p = got-bad (sym (bind-bad m f c p) ∙ h)

  reads-bind : {m : Reader A} (f : A → Reader B) {a : A} {b : B} {t u : List ℕ} → Reads m t a → Reads (f a) u b
      → Reads (◌>>=◌ m f) (t ++ u) b
  reads-bind {m} f {t} {u} p q = record {
    before = λ rest l.
        let (k, e) = p.before (u ++ rest) l in
        let (j, g) = q.before rest k in
        (j, rw (append_assoc t u rest) (bind-got m f (at l (t ++ (u ++ rest))) e ∙ g));
  }

  reads-give : {m : Reader A} (f : A → B) {a : A} {t : List ℕ} → Reads m t a → Reads (◌>>=◌ m (λ x. give (f x))) t (f a)
  unfolding give
  reads-give {m} f {t} p = record {
    before = λ rest l.
        let (k, e) = p.before rest l in
        (k, bind-got m (λ x. give (f x)) (at l (t ++ rest)) e);
  }

-- a line

pub number-some : (k : Key) (c : Cursor) {s : ℕ × List ℕ} → read_line k c.text ≡ some s
    → number k c ≡ got s.0 (at (c.line + 1) s.1)
unfolding number
number-some k c h = rw (h, number)

pub number-none : (k : Key) (c : Cursor) → read_line k c.text ≡ none → number k c ≡ bad_at c.line
unfolding number
number-none k c h = rw (h, number)

pub number-line : (k : Key) (n : ℕ) → fits32 n ≡ true → Reads (number k) (line k n) n
number-line k n h = record {
  before = λ rest l. (l + 1, number-some k (at l (line k n ++ rest)) (read_line-line k n rest h));
}

pub number-exact : (k : Key) (c : Cursor) (n : ℕ) (d : Cursor) → number k c ≡ got n d
    → (c.text ≡ line k n ++ d.text) × (fits32 n ≡ true)
number-exact k c n d h = go (read_line k c.text) refl
  where
    go : (o : Option (ℕ × List ℕ)) → read_line k c.text ≡ o → (c.text ≡ line k n ++ d.text) × (fits32 n ≡ true)
    go none e = got-bad (sym (number-none k c e) ∙ h)
    go (some s) e =
        let g : got s.0 (at (c.line + 1) s.1) ≡ got n d = sym (number-some k c e) ∙ h in
        let i : s.0 ≡ n = cc in
        let j : at (c.line + 1) s.1 ≡ d = cc in
        rw (← i, ← j) (read_line-exact k c.text s.0 s.1 e)

pub exactly-same : (k : Key) (n : ℕ) (c : Cursor) {m : ℕ} {d : Cursor} → number k c ≡ got m d → eqb m n ≡ true
    → exactly k n c ≡ got m d
unfolding exactly
exactly-same k n c h e = rw (h, e, exactly)

pub exactly-other : (k : Key) (n : ℕ) (c : Cursor) {m : ℕ} {d : Cursor} → number k c ≡ got m d → eqb m n ≡ false
    → exactly k n c ≡ bad_at c.line
unfolding exactly
exactly-other k n c h e = rw (h, e, exactly)

pub exactly-bad : (k : Key) (n : ℕ) (c : Cursor) {l : ℕ} → number k c ≡ bad_at l → exactly k n c ≡ bad_at l
unfolding exactly
exactly-bad k n c h = rw (h, exactly)

pub exactly-line : (k : Key) (n : ℕ) → fits32 n ≡ true → Reads (exactly k n) (line k n) n
exactly-line k n h = record {
  before = λ rest l.
      let (j, e) = (number-line k n h).before rest l in
      (j, exactly-same k n (at l (line k n ++ rest)) e (eq-eqb n n refl));
}

pub exactly-exact : (k : Key) (n : ℕ) (c : Cursor) (m : ℕ) (d : Cursor) → exactly k n c ≡ got m d
    → (c.text ≡ line k n ++ d.text) × (fits32 n ≡ true)
exactly-exact k n c m d h = go (number k c) refl
  where
    same : (i : ℕ) (e : Cursor) → number k c ≡ got i e → (b : Bool) → eqb i n ≡ b
        → (c.text ≡ line k n ++ d.text) × (fits32 n ≡ true)
    same i e p true q =
        let f : got i e ≡ got m d = sym (exactly-same k n c p q) ∙ h in
        let j : i ≡ n = eqb-true i n q in
        let g : e ≡ d = cc in
        rw (← j, ← g) (number-exact k c i e p)
    same i e p false q = got-bad (sym (exactly-other k n c p q) ∙ h)

    go : (r : Read ℕ) → number k c ≡ r → (c.text ≡ line k n ++ d.text) × (fits32 n ≡ true)
    go (got i e) p = same i e p (eqb i n) refl
    go (bad_at l) p = got-bad (sym (exactly-bad k n c p) ∙ h)

-- an arrival

pub arrival_fits-e : (a : Arrival) → arrival_fits a ≡ true
    → (fits32 a.input ≡ true) × (fits32 a.output ≡ true)
    × (fits32 a.flow ≡ true) × (fits32 a.rank ≡ true) × (fits32 a.tag ≡ true)
unfolding arrival_fits
arrival_fits-e a h = search (and_l, and_r) depth 9

pub arrival-text : (a : Arrival) → arrival_fits a ≡ true → Reads arrival (arrival_text a) a
unfolding arrival arrival_text
arrival-text a h =
    let (i, o, f, r, t) = arrival_fits-e a h in
    reads-bind _ (number-line In a.input i)
    (reads-bind _ (number-line Out a.output o)
    (reads-bind _ (number-line Flow a.flow f)
    (reads-bind _ (number-line Rank a.rank r)
    (reads-give _ (number-line Tag a.tag t)))))

pub arrival-exact : (c : Cursor) (a : Arrival) (d : Cursor) → arrival c ≡ got a d
    → (c.text ≡ arrival_text a ++ d.text) × (arrival_fits a ≡ true)
unfolding arrival arrival_text arrival_fits give
arrival-exact c a d h =
    bind-exact (number In) _ c h λ i c₁ p h.
    bind-exact (number Out) _ c₁ h λ o c₂ q h.
    bind-exact (number Flow) _ c₂ h λ f c₃ r h.
    bind-exact (number Rank) _ c₃ h λ k c₄ s h.
    bind-exact (number Tag) _ c₄ h λ t c₅ u h.
    let (b, e) = number-exact In c i c₁ p in
    let (g, j) = number-exact Out c₁ o c₂ q in
    let (l, m) = number-exact Flow c₂ f c₃ r in
    let (n, v) = number-exact Rank c₃ k c₄ s in
    let (w, x) = number-exact Tag c₄ t c₅ u in
    let y : record { input = i; output = o; flow = f; rank = k; tag = t } ≡ a = cc in
    let z : c₅ ≡ d = cc in
    rw (← y, ← z) (simp (append_assoc, b, g, l, n, w), and_i _ _ (and_i _ _ (and_i _ _ (and_i _ _ e j) m) v) x)

-- the arrivals of a block

pub begins-some : (k : Key) (c : Cursor) {t : List ℕ} → after (key_text k) c.text ≡ some t → begins k c ≡ true
unfolding begins
begins-some k c h = rw (h, begins)

pub begins-none : (k : Key) (c : Cursor) → after (key_text k) c.text ≡ none → begins k c ≡ false
unfolding begins
begins-none k c h = rw (h, begins)

pub begins-line : (k : Key) (n : ℕ) (rest : List ℕ) (l : ℕ) → begins k (at l (line k n ++ rest)) ≡ true
begins-line k n rest l = begins-some k (at l (line k n ++ rest)) (after_line k n rest)

pub arrivals-stop : (most : ℕ) (c : Cursor) → begins In c ≡ false → arrivals most c ≡ got [] c
unfolding arrivals give
arrivals-stop zero c h = refl
arrivals-stop (suc most) c h = rw (h, arrivals)

more_arrivals : ℕ → Arrival → Reader (List Arrival)
more_arrivals most a = ◌>>=◌ (arrivals most) (λ rs. give (a ∷ rs))

arrivals-more : (most : ℕ) (c : Cursor) → begins In c ≡ true
    → arrivals (suc most) c ≡ ◌>>=◌ arrival (more_arrivals most) c
unfolding arrivals more_arrivals
arrivals-more most c h = rw (h, arrivals)

begins-arrival : (a : Arrival) (rest : List ℕ) (l : ℕ) → begins In (at l (arrival_text a ++ rest)) ≡ true
unfolding arrival_text
begins-arrival a rest l = rw append_assoc (begins-line In a.input _ l)

-- They are read back before a text that does not begin `in=`.
module _ (rest : List ℕ) (ends : after (key_text In) rest ≡ none) where
  pub arrivals-text : (most : ℕ) (rs : List Arrival) → length rs ≤ most → all? arrival_fits rs ≡ true
      → (l : ℕ) → (k : ℕ) × (arrivals most (at l (arrivals_text rs ++ rest)) ≡ got rs (at k rest))
  unfolding arrivals_text more_arrivals give
  arrivals-text most [] h f l = (l, arrivals-stop most (at l rest) (begins-none In (at l rest) ends))
  arrivals-text zero (a ∷ rs) h f l = absurd (omega arith)
  arrivals-text (suc most) (a ∷ rs) h f l =
      let t : List ℕ = arrivals_text rs ++ rest in
      let i : length rs ≤ most = omega arith in
      let (k, p) = (arrival-text a (all?-head arrival_fits a rs f)).before t l in
      let (j, q) = arrivals-text most rs i (all?-tail arrival_fits a rs f) k in (
        j,
        rw (append_assoc (arrival_text a) (arrivals_text rs) rest)
            (arrivals-more most (at l (arrival_text a ++ t)) (begins-arrival a t l)
            ∙ bind-got arrival (more_arrivals most) (at l (arrival_text a ++ t)) p
            ∙ bind-got (arrivals most) (λ rs. give (a ∷ rs)) (at k t) q),
      )

pub arrivals-exact : (most : ℕ) (c : Cursor) (rs : List Arrival) (d : Cursor) → arrivals most c ≡ got rs d
    → (c.text ≡ arrivals_text rs ++ d.text) × (length rs ≤ most) × (all? arrival_fits rs ≡ true)
unfolding arrivals_text more_arrivals give arrivals
arrivals-exact zero c rs d h =
    let e : [] ≡ rs = cc in
    let f : c ≡ d = cc in
    rw (← e, ← f) (refl, omega arith, all?-nil arrival_fits)
arrivals-exact (suc most) c rs d h = go (begins In c) refl (arrivals-exact most)
  where
    go : (b : Bool) → begins In c ≡ b
        → ((c : Cursor) (rs : List Arrival) (d : Cursor) → arrivals most c ≡ got rs d
        → (c.text ≡ arrivals_text rs ++ d.text) × (length rs ≤ most) × (all? arrival_fits rs ≡ true))
        → (c.text ≡ arrivals_text rs ++ d.text) × (length rs ≤ suc most) × (all? arrival_fits rs ≡ true)
    go false b exact =
        let g : got [] c ≡ got rs d = sym (arrivals-stop (suc most) c b) ∙ h in
        let e : [] ≡ rs = cc in
        let f : c ≡ d = cc in
        rw (← e, ← f) (refl, omega arith, all?-nil arrival_fits)
    go true b exact =
        bind-exact arrival (more_arrivals most) c (sym (arrivals-more most c b) ∙ h) λ a c₁ p g.
        bind-exact (arrivals most) (λ l. give (a ∷ l)) c₁ g λ l c₂ q k.
        let (i, j) = arrival-exact c a c₁ p in
        let (m, n, o) = exact c₁ l c₂ q in
        let e : a ∷ l ≡ rs = cc in
        let f : c₂ ≡ d = cc in
        let t : c.text ≡ arrival_text a ++ arrivals_text l ++ c₂.text = simp append_assoc (i ∙ rw m) in
        rw (← e, ← f) (t, omega arith, all?-both arrival_fits a l j o)

-- a block

pub block_fits-i : (rs : List Arrival) → length rs ≤ block_limit → all? arrival_fits rs ≡ true → block_fits rs ≡ true
unfolding block_fits
block_fits-i rs h k = and_i _ _ (le-leb _ _ h) k

pub block_fits-e : (rs : List Arrival) → block_fits rs ≡ true → (length rs ≤ block_limit) × (all? arrival_fits rs ≡ true)
unfolding block_fits
block_fits-e rs h =
    let b : Bool = leb (length rs) block_limit in
    (leb-true _ _ (and_l b (all? arrival_fits rs) h), and_r b (all? arrival_fits rs) h)

pub block-text : (clock : ℕ) (rs : List Arrival) (rest : List ℕ) → fits32 clock ≡ true → block_fits rs ≡ true
    → after (key_text In) rest ≡ none
    → (l : ℕ) → (k : ℕ) × (block clock (at l (line Slot clock ++ (arrivals_text rs ++ rest))) ≡ got rs (at k rest))
unfolding block
block-text clock rs rest h f e l =
    let t : List ℕ = arrivals_text rs ++ rest in
    let (i, j) = block_fits-e rs f in
    let (k, p) = (exactly-line Slot clock h).before t l in
    let (m, q) = arrivals-text rest e block_limit rs i j k in
    (m, bind-got (exactly Slot clock) (λ _. arrivals block_limit) (at l (line Slot clock ++ t)) p ∙ q)

pub block-exact : (clock : ℕ) (c : Cursor) (rs : List Arrival) (d : Cursor) → block clock c ≡ got rs d
    → (c.text ≡ line Slot clock ++ (arrivals_text rs ++ d.text)) × (block_fits rs ≡ true)
unfolding block
block-exact clock c rs d h =
    bind-exact (exactly Slot clock) (λ _. arrivals block_limit) c h λ n e p q.
    let (i, j) = exactly-exact Slot clock c n e p in
    let (k, m, o) = arrivals-exact block_limit e rs d q in
    (i ∙ ap (λ x. line Slot clock ++ x) k, block_fits-i rs m o)

-- what stands after the header or a block

pub next-block : (clock : ℕ) (c : Cursor) {rs : List Arrival} {d : Cursor} → begins End c ≡ false
    → block clock c ≡ got rs d
    → next clock c ≡ slot_ahead rs d
unfolding next
next-block clock c h k = rw (h, k, next)

pub next-no-block : (clock : ℕ) (c : Cursor) {l : ℕ} → begins End c ≡ false → block clock c ≡ bad_at l
    → next clock c ≡ faulty l
unfolding next
next-no-block clock c h k = rw (h, k, next)

pub next_last : (clock : ℕ) (c : Cursor) {n : ℕ} {d : Cursor} → begins End c ≡ true → exactly End clock c ≡ got n d
    → next clock c ≡ after_end d
unfolding next
next_last clock c h k = rw (h, k, next)

pub next-no-last : (clock : ℕ) (c : Cursor) {l : ℕ} → begins End c ≡ true → exactly End clock c ≡ bad_at l
    → next clock c ≡ faulty l
unfolding next
next-no-last clock c h k = rw (h, k, next)

pub next-slot : (clock : ℕ) (rs : List Arrival) (rest : List ℕ) → fits32 clock ≡ true → block_fits rs ≡ true
    → after (key_text In) rest ≡ none
    → (l : ℕ) → (k : ℕ) × (next clock (at l (line Slot clock ++ (arrivals_text rs ++ rest))) ≡ slot_ahead rs (at k rest))
next-slot clock rs rest h f e l =
    let t : List ℕ = line Slot clock ++ (arrivals_text rs ++ rest) in
    let (k, p) = block-text clock rs rest h f e l in
    (k, next-block clock (at l t) (begins-none End (at l t) (after-end-slot clock (arrivals_text rs ++ rest))) p)

pub next-end : (clock : ℕ) → fits32 clock ≡ true → (l : ℕ) → next clock (at l (line End clock)) ≡ finished
unfolding after_end
next-end clock h l =
    let (k, p) = (exactly-line End clock h).before [] l in
    rw (← (append-nil (line End clock))) (next_last clock (at l (line End clock ++ [])) (begins-line End clock [] l) p)

-- What a reader of the next block saw, by its answer.
abbrev pub Stands : ℕ → Cursor → Next → Type 0
Stands clock c (slot_ahead rs d) = (c.text ≡ line Slot clock ++ (arrivals_text rs ++ d.text)) × (block_fits rs ≡ true)
Stands clock c finished = (c.text ≡ line End clock) × (fits32 clock ≡ true)
Stands clock c (faulty l) = Unit

pub after_end-nil : (c : Cursor) → c.text ≡ [] → after_end c ≡ finished
unfolding after_end
after_end-nil c h = rw (h, after_end)

pub after_end-cons : (c : Cursor) {b : ℕ} {t : List ℕ} → c.text ≡ b ∷ t → after_end c ≡ faulty c.line
unfolding after_end
after_end-cons c h = rw (h, after_end)

after_end-exact : (clock : ℕ) (c d : Cursor) → c.text ≡ line End clock ++ d.text → fits32 clock ≡ true
    → Stands clock c (after_end d)
after_end-exact clock c d h f = go d.text refl
  where
    go : (t : List ℕ) → d.text ≡ t → Stands clock c (after_end d)
    go [] e = rw (after_end-nil d e) (h ∙ ap (λ x. line End clock ++ x) e ∙ append-nil (line End clock), f)
    go (b ∷ t) e = rw (after_end-cons d e) tt

pub next-exact : (clock : ℕ) (c : Cursor) → Stands clock c (next clock c)
next-exact clock c = go (begins End c) refl (exactly End clock c) refl (block clock c) refl
  where
    go : (b : Bool) → begins End c ≡ b → (r : Read ℕ) → exactly End clock c ≡ r
        → (s : Read (List Arrival)) → block clock c ≡ s → Stands clock c (next clock c)
    go true b (got n d) r s _ =
        let (e, f) = exactly-exact End clock c n d r in
        rw (next_last clock c b r) (after_end-exact clock c d e f)
    go true b (bad_at l) r s _ = rw (next-no-last clock c b r) tt
    go false b r _ (got rs d) s = rw (next-block clock c b s) (block-exact clock c rs d s)
    go false b r _ (bad_at l) s = rw (next-no-block clock c b s) tt
