-- A reader's answer does not depend on where the text is cut:
--     Steady v x m             m takes at most v bytes and looks at most x further; what stands behind those changes nothing
--                              but the rest, and at a later line the answer is the same, with later lines
--     steady-number, ..        the readers of a line, of an arrival, of a block's arrivals and of a block
--     next-slot-later, ..      what stands after the header or a block, at a later line
--     next-line                how many lines a block has
--     next-append              what stands there, with more text behind it
--     header-append            the header, with more text behind it
--     cut-anywhere, cut-header the answer for a piece is the answer for the whole text
use Prim.Native.Nat.{ℕ, zero, suc, ◌+◌, ◌*◌, ◌-◌, ◌≤◌, ◌<◌}
use native.Mathlib.Omega.{arith}
use mathlib.Core.Bool.{Bool, true, false}
use mathlib.Core.List.{List, [], ◌∷◌, ◌++◌, append-nil}
use mathlib.Core.Logic.{◌⊎◌, inl, inr, ⊎_elim, ◌≢◌}
use mathlib.Core.Option.{Option, none, some, bind, map}
use mathlib.Core.Path.{◌≡◌, refl, sym, ap, ◌∙◌}
use borrow.Author.Tests.{leb-true, leb-false, eqb-true, eqb-false, le-leb}
use lib.Dec.{leb, eqb}
use lib.ListN.{length, length-append}
use Rattle.cell.specs.declared.Arrival.{Arrival}
use Rattle.laws.proofs.Tests.{either, or_r}
use Rattle.cell.specs.declared.Refusal.{Refusal}
use Rattle.cell.specs.declared.Refusal.TheVariants.{BadLine}
use Rattle.cell.specs.Limits.{fits32, clock_end, ports_in_range}
use Rattle.trace.specs.declared.Key.{Key}
use Rattle.trace.specs.declared.Key.TheVariants.{Ports, First, Slot, In, Out, Flow, Rank, Tag, End}
use Rattle.trace.specs.Ascii.{ascii}
use Rattle.trace.specs.Line.{key_name, key_text, line, after, is_digit, read_line}
use Rattle.trace.specs.Reader.{from, Cursor, Read, got, bad_at, Reader, give, ◌>>=◌, number, exactly, begins}
use Rattle.trace.specs.Reader.{arrival, arrivals, block, Next, slot_ahead, finished, faulty, after_end, next}
use Rattle.trace.specs.Reader.{Header, opened, refused_at, header}
use Rattle.trace.specs.Contents.{block_limit}
use Rattle.trace.specs.Piece.{known, enough, decided, next_in, header_in}
use Rattle.trace.proofs.Lengths.{length-line-le}
use Rattle.trace.proofs.Line.{after-exact}
use Rattle.trace.proofs.Blocks.{bind-got, bind-bad, bind-exact, number-some, number-none, number-exact}
use Rattle.trace.proofs.Blocks.{exactly-same, exactly-other, exactly-bad, exactly-exact}
use Rattle.trace.proofs.Blocks.{begins-some, begins-none, arrivals-stop, arrivals-exact, after_end-nil, after_end-cons}
use Rattle.trace.proofs.Blocks.{next-block, next-no-block, next_last, next-no-last}
use Rattle.trace.proofs.RoundTrip.{header-bad-ports, header-bad-size, header-bad-first, header-opened}
use Rattle.trace_reader.proofs.Answers.{header_in-more, header_in-known, next_in-more, next_in-known}
use Rattle.trace_reader.proofs.Arrivals.{exactly-line-next, arrival-line}
use Rattle.trace_line_reader.proofs.Numbers.{continued, continued-line-feed, continued-stray, continued-zero}
use Rattle.trace_line_reader.proofs.Numbers.{continued-digit, continued-over, read_body-stray, read_body-first}
use Rattle.trace_line_reader.specs.Code.{read_body}

-- a line

-- what follows, with more behind it
abbrev more : List ℕ → ℕ × List ℕ → ℕ × List ℕ
more u s = (s.0, s.1 ++ u)

after_more : (p t u : List ℕ) → length p ≤ length t → after p (t ++ u) ≡ map (λ x. x ++ u) (after p t)
unfolding after
after_more [] t u h = refl
after_more (b ∷ p) [] u h = absurd (omega arith)
after_more (b ∷ p) (c ∷ t) u h = go (eqb b c) refl (after_more p t u (omega arith))
  where
    go : (x : Bool) → eqb b c ≡ x → after p (t ++ u) ≡ map (λ x. x ++ u) (after p t)
        → after (b ∷ p) (c ∷ (t ++ u)) ≡ map (λ x. x ++ u) (after (b ∷ p) (c ∷ t))
    go true e later = rw (e, after) later
    go false e later = rw (e, after)

-- digits behind n: the least number that d more of them make
reach : ℕ → ℕ → ℕ
reach n zero = n
reach n (suc d) = reach (10 * n) d

reach-mono : (d m n : ℕ) → m ≤ n → reach m d ≤ reach n d
unfolding reach
reach-mono zero m n h = h
reach-mono (suc d) m n h = reach-mono d (10 * m) (10 * n) (omega arith)

module _ (n : ℕ) where
  -- a number that is too large already
  over-more : (t u : List ℕ) → clock_end < n → continued n (t ++ u) ≡ map (more u) (continued n t)
  over-more t u h = continued-over n (t ++ u) h ∙ sym (rw (continued-over n t h))

  -- one byte
  byte_more : (b : ℕ) (t u : List ℕ) → n ≤ clock_end
      → (n ≢ 0 → continued (10 * n + (b - 48)) (t ++ u) ≡ map (more u) (continued (10 * n + (b - 48)) t))
      → continued n (b ∷ (t ++ u)) ≡ map (more u) (continued n (b ∷ t))
  byte_more b t u h later = go (is_digit b) refl (eqb b 10) refl (eqb n 0) refl
    where
      go : (x : Bool) → is_digit b ≡ x → (y : Bool) → eqb b 10 ≡ y → (z : Bool) → eqb n 0 ≡ z
          → continued n (b ∷ (t ++ u)) ≡ map (more u) (continued n (b ∷ t))
      go false d true e z f =
          let i : b ≡ 10 = eqb-true b 10 e in
          continued-line-feed n b (t ++ u) h i ∙ sym (rw (continued-line-feed n b t h i))
      go false d false e z f =
          let i : b ≢ 10 = eqb-false b 10 e in
          continued-stray n b (t ++ u) i d ∙ sym (rw (continued-stray n b t i d))
      go true d y e true f =
          let j : n ≡ 0 = eqb-true n 0 f in
          continued-zero n b (t ++ u) j d ∙ sym (rw (continued-zero n b t j d))
      go true d y e false f =
          let j : n ≢ 0 = eqb-false n 0 f in
          continued-digit n b (t ++ u) j d ∙ later j ∙ sym (rw (continued-digit n b t j d))

continued-more : (d n : ℕ) (t u : List ℕ) → clock_end < reach n d → d ≤ length t
    → continued n (t ++ u) ≡ map (more u) (continued n t)
unfolding reach
continued-more zero n t u h l = over-more n t u h
continued-more (suc d) n [] u h l = absurd (omega arith)
continued-more (suc d) n (b ∷ t) u h l =
    let m : ℕ = 10 * n + (b - 48) in
    let r : clock_end < reach m d = omega (arith, reach-mono d (10 * n) m (omega arith)) in
    let later : continued m (t ++ u) ≡ map (more u) (continued m t) = continued-more d m t u r (omega arith) in
    ⊎_elim (λ k. byte_more n b t u (leb-true n clock_end k) λ _. later) (λ k. over-more n (b ∷ t) u (leb-false n clock_end k))
    (either (leb n clock_end))

continued-more-ten : (n : ℕ) (t u : List ℕ) → 10 ≤ length t → continued n (t ++ u) ≡ map (more u) (continued n t)
unfolding reach
continued-more-ten n [] u l = absurd (omega arith)
continued-more-ten zero (b ∷ t) u l = byte_more 0 b t u (omega arith) λ z. absurd (z refl)
continued-more-ten (suc n) (b ∷ t) u l =
    let p : 1 ≤ suc n = omega arith in
    continued-more 10 (suc n) (b ∷ t) u (omega (arith, reach-mono 10 1 (suc n) p)) l

read_body-more : (t u : List ℕ) → 11 ≤ length t → read_body (t ++ u) ≡ map (more u) (read_body t)
read_body-more [] u h = absurd (omega arith)
read_body-more (b ∷ t) u h = go (is_digit b) refl
  where
    go : (x : Bool) → is_digit b ≡ x → read_body (b ∷ (t ++ u)) ≡ map (more u) (read_body (b ∷ t))
    go true d =
        read_body-first b (t ++ u) d ∙ continued-more-ten (b - 48) t u (omega arith) ∙ sym (rw (read_body-first b t d))
    go false d = read_body-stray b (t ++ u) d ∙ sym (rw (read_body-stray b t d))

read_line-none : (k : Key) (t : List ℕ) → after (key_text k) t ≡ none → read_line k t ≡ none
unfolding read_line bind
read_line-none k t h = rw h

read_line-some : (k : Key) (t : List ℕ) {body : List ℕ} → after (key_text k) t ≡ some body → read_line k t ≡ read_body body
unfolding read_line read_body bind
read_line-some k t h = rw h

read_line-more : (k : Key) (t u : List ℕ) → length (key_text k) + 11 ≤ length t
    → read_line k (t ++ u) ≡ map (more u) (read_line k t)
read_line-more k t u h = go (after (key_text k) t) refl
  where
    go : (o : Option (List ℕ)) → after (key_text k) t ≡ o → read_line k (t ++ u) ≡ map (more u) (read_line k t)
    go none e =
        read_line-none k (t ++ u) (after_more (key_text k) t u (omega arith) ∙ rw e) ∙ sym (rw (read_line-none k t e))
    go (some body) e =
        let l : length t ≡ length (key_text k) + length body =
        ap length (after-exact (key_text k) t body e) ∙ length-append (key_text k) body in
        let m : 11 ≤ length body = omega arith in
        read_line-some k (t ++ u) (after_more (key_text k) t u (omega arith) ∙ rw e)
        ∙ read_body-more body u m
        ∙ sym (rw (read_line-some k t e))

-- readers

-- the same, later by n lines and with u behind it
abbrev onward : ℕ → List ℕ → Cursor → Cursor
onward n u c = from (n + c.line) (c.text ++ u)

unfoldable pub onward_read : {A : Type 0} → ℕ → List ℕ → Read A → Read A
onward_read n u (got a d) = got a (onward n u d)
onward_read n u (bad_at l) = bad_at (n + l)

-- w bytes are there, or nothing is behind them
abbrev Enough : ℕ → List ℕ → List ℕ → Type 0
Enough w t u = (w ≤ length t) ⊎ (u ≡ [])

pub record Steady {A : Type 0} (v x : ℕ) (m : Reader A) : Type 0 where
  pub onwards : (n : ℕ) (u : List ℕ) (c : Cursor) → Enough (v + x) c.text u
      → m (onward n u c) ≡ onward_read n u (m c)
  pub takes : (c : Cursor) {a : A} {d : Cursor} → m c ≡ got a d → length c.text ≤ length d.text + v

module _ {A : Type 0} where
  steady-give : (a : A) (x : ℕ) → Steady 0 x (give a)
  unfolding give onward_read
  steady-give a x = record {
    onwards = λ n u c e. refl;
    takes = λ c {d} h.
        let e : c ≡ d = cc in
        omega (arith, ap (λ x. length x.text) e);
  }

  module _ {B : Type 0} {v w x : ℕ} {m : Reader A} {f : A → Reader B}
      (s : Steady v 0 m) (r : (a : A) → Steady w x (f a)) where
    bind-onwards : (n : ℕ) (u : List ℕ) (c : Cursor) → Enough (v + w + x) c.text u
        → ◌>>=◌ m f (onward n u c) ≡ onward_read n u (◌>>=◌ m f c)
    unfolding onward_read
    bind-onwards n u c e = go (m c) refl
      where
        first : m (onward n u c) ≡ onward_read n u (m c)
        first = s.onwards n u c (⊎_elim (λ l. inl (omega arith)) inr e)

        go : (y : Read A) → m c ≡ y → ◌>>=◌ m f (onward n u c) ≡ onward_read n u (◌>>=◌ m f c)
        go (got a d) p =
            let l : length c.text ≤ length d.text + v = s.takes c p in
            let g : Enough (w + x) d.text u = ⊎_elim (λ h. inl (omega arith)) inr e in
            bind-got m f (onward n u c) (first ∙ rw p)
            ∙ (r a).onwards n u d g
            ∙ ap (onward_read n u) (sym (bind-got m f c p))
        go (bad_at l) p = bind-bad m f (onward n u c) (first ∙ rw p) ∙ ap (onward_read n u) (sym (bind-bad m f c p))

    -- one reader after another
    steady-bind : Steady (v + w) x (◌>>=◌ m f)
    steady-bind = record {
      onwards = bind-onwards;
      takes = λ c h. bind-exact m f c h λ a d p q. omega (arith, s.takes c p, (r a).takes d q);
    }

  -- a function of what is read
  steady-map : {B : Type 0} {v x : ℕ} {m : Reader A} (f : A → B) → Steady v x m
      → Steady v x (◌>>=◌ m (λ a. give (f a)))
  unfolding give onward_read
  steady-map {B} {v} {x} {m} f s = record {
    onwards = λ n u c e. go n u c (m c) refl (s.onwards n u c e);
    takes = λ c {d} h. bind-exact m (λ a. give (f a)) c h λ a e p q.
        let g : e ≡ d = cc in
        omega (arith, s.takes c p, ap (λ y. length y.text) g);
  }
    where
      go : (n : ℕ) (u : List ℕ) (c : Cursor) (y : Read A) → m c ≡ y → m (onward n u c) ≡ onward_read n u (m c)
          → ◌>>=◌ m (λ a. give (f a)) (onward n u c) ≡ onward_read n u (◌>>=◌ m (λ a. give (f a)) c)
      go n u c (got a d) p q =
          bind-got m (λ a. give (f a)) (onward n u c) (q ∙ rw p)
          ∙ ap (onward_read n u) (sym (bind-got m (λ a. give (f a)) c p))
      go n u c (bad_at l) p q =
          bind-bad m (λ a. give (f a)) (onward n u c) (q ∙ rw p)
          ∙ ap (onward_read n u) (sym (bind-bad m (λ a. give (f a)) c p))

-- a line

more-nil : (o : Option (ℕ × List ℕ)) → map (more []) o ≡ o
more-nil none = refl
more-nil (some s) = ap (λ t. some (s.0, t)) (append-nil s.1)

read_line-onwards : (k : Key) (t u : List ℕ) → Enough (length (key_text k) + 11 + 0) t u
    → read_line k (t ++ u) ≡ map (more u) (read_line k t)
read_line-onwards k t u (inl h) = read_line-more k t u (omega arith)
read_line-onwards k t u (inr h) = rw h (ap (read_line k) (append-nil t) ∙ sym (more-nil (read_line k t)))

number-onwards : (k : Key) (n : ℕ) (u : List ℕ) (c : Cursor) → Enough (length (key_text k) + 11 + 0) c.text u
    → number k (onward n u c) ≡ onward_read n u (number k c)
unfolding onward_read
number-onwards k n u c e = go (read_line k c.text) refl (read_line-onwards k c.text u e)
  where
    go : (o : Option (ℕ × List ℕ)) → read_line k c.text ≡ o
        → read_line k (c.text ++ u) ≡ map (more u) (read_line k c.text)
        → number k (onward n u c) ≡ onward_read n u (number k c)
    go none p q = number-none k (onward n u c) (q ∙ rw p) ∙ ap (onward_read n u) (sym (number-none k c p))
    go (some s) p q =
        let l : n + c.line + 1 ≡ n + (c.line + 1) = omega arith in
        number-some k (onward n u c) (q ∙ rw p)
        ∙ ap (λ i. got s.0 (from i (s.1 ++ u))) l
        ∙ ap (onward_read n u) (sym (number-some k c p))

-- a line that was read
line-takes : (k : Key) (n : ℕ) (c d : Cursor) → (c.text ≡ line k n ++ d.text) × (fits32 n ≡ true)
    → length c.text ≤ length d.text + (length (key_text k) + 11)
line-takes k n c d h =
    let l : length c.text ≡ length (line k n) + length d.text =
    ap length h.0 ∙ length-append (line k n) d.text in
    omega (arith, length-line-le k n h.1)

steady-number : (k : Key) → Steady (length (key_text k) + 11) 0 (number k)
steady-number k = record {
  onwards = number-onwards k;
  takes = λ c {a} {d} h. line-takes k a c d (number-exact k c a d h);
}

exactly-onwards : (k : Key) (i n : ℕ) (u : List ℕ) (c : Cursor) → Enough (length (key_text k) + 11 + 0) c.text u
    → exactly k i (onward n u c) ≡ onward_read n u (exactly k i c)
unfolding onward_read
exactly-onwards k i n u c e = go (number k c) refl (number-onwards k n u c e)
  where
    same : (m : ℕ) (d : Cursor) → number k c ≡ got m d → number k (onward n u c) ≡ got m (onward n u d)
        → (b : Bool) → eqb m i ≡ b → exactly k i (onward n u c) ≡ onward_read n u (exactly k i c)
    same m d p q true b = exactly-same k i (onward n u c) q b ∙ ap (onward_read n u) (sym (exactly-same k i c p b))
    same m d p q false b = exactly-other k i (onward n u c) q b ∙ ap (onward_read n u) (sym (exactly-other k i c p b))

    go : (r : Read ℕ) → number k c ≡ r → number k (onward n u c) ≡ onward_read n u (number k c)
        → exactly k i (onward n u c) ≡ onward_read n u (exactly k i c)
    go (got m d) p q = same m d p (q ∙ rw p) (eqb m i) refl
    go (bad_at l) p q =
        exactly-bad k i (onward n u c) (q ∙ rw p) ∙ ap (onward_read n u) (sym (exactly-bad k i c p))

steady-exactly : (k : Key) (n : ℕ) → Steady (length (key_text k) + 11) 0 (exactly k n)
steady-exactly k n = record {
  onwards = exactly-onwards k n;
  takes = λ c {a} {d} h. line-takes k n c d (exactly-exact k n c a d h);
}

-- an arrival

steady-arrival : Steady 76 0 arrival
unfolding arrival key_text key_name ascii ◌>>=◌
steady-arrival =
    steady-bind (steady-number In) λ i.
    steady-bind (steady-number Out) λ o.
    steady-bind (steady-number Flow) λ f.
    steady-bind (steady-number Rank) λ r.
    steady-bind (steady-number Tag) λ t. steady-give _ 0

begins-text : (k : Key) (l m : ℕ) {t u : List ℕ} → t ≡ u → begins k (from l t) ≡ begins k (from m u)
unfolding begins
begins-text k l m h = rw h

begins-onwards : (k : Key) (n : ℕ) (u : List ℕ) (c : Cursor) → Enough (length (key_text k)) c.text u
    → begins k (onward n u c) ≡ begins k c
begins-onwards k n u c (inl h) = go (after (key_text k) c.text) refl (after_more (key_text k) c.text u h)
  where
    go : (o : Option (List ℕ)) → after (key_text k) c.text ≡ o
        → after (key_text k) (c.text ++ u) ≡ map (λ x. x ++ u) (after (key_text k) c.text)
        → begins k (onward n u c) ≡ begins k c
    go none p q = begins-none k (onward n u c) (q ∙ rw p) ∙ sym (begins-none k c p)
    go (some s) p q =
        let e : after (key_text k) (c.text ++ u) ≡ some (s ++ u) = q ∙ rw p in
        begins-some k (onward n u c) e ∙ sym (begins-some k c p)
begins-onwards k n u c (inr h) = begins-text k (n + c.line) c.line (rw h (append-nil c.text))

-- the arrivals of a block

one_more : ℕ → Reader (List Arrival)
one_more most = ◌>>=◌ arrival (λ a. ◌>>=◌ (arrivals most) (λ rs. give (a ∷ rs)))

arrivals-one : (most : ℕ) (c : Cursor) → begins In c ≡ true → arrivals (suc most) c ≡ one_more most c
unfolding arrivals one_more
arrivals-one most c h = rw (h, arrivals)

steady-more : (most : ℕ) → Steady (76 * most) 3 (arrivals most) → Steady (76 + 76 * most) 3 (one_more most)
unfolding one_more
steady-more most s = steady-bind steady-arrival λ a. steady-map (λ rs. a ∷ rs) s

-- no more of them, or one and then more
steady-next : (most : ℕ) → Steady (76 + 76 * most) 3 (one_more most) → Steady (76 * suc most) 3 (arrivals (suc most))
unfolding onward_read key_text key_name ascii
steady-next most s = record {
  onwards = λ n u c e.
      let f : Enough 3 c.text u = ⊎_elim (λ l. inl (omega arith)) inr e in
      let g : Enough (76 + 76 * most + 3) c.text u = ⊎_elim (λ l. inl (omega arith)) inr e in
      go n u c g (begins In c) refl (begins-onwards In n u c f);
  takes = λ c h. taken c h (begins In c) refl;
}
  where
    go : (n : ℕ) (u : List ℕ) (c : Cursor) → Enough (76 + 76 * most + 3) c.text u → (b : Bool) → begins In c ≡ b
        → begins In (onward n u c) ≡ begins In c
        → arrivals (suc most) (onward n u c) ≡ onward_read n u (arrivals (suc most) c)
    go n u c e true b q =
        arrivals-one most (onward n u c) (q ∙ b)
        ∙ s.onwards n u c e
        ∙ ap (onward_read n u) (sym (arrivals-one most c b))
    go n u c e false b q =
        arrivals-stop (suc most) (onward n u c) (q ∙ b) ∙ ap (onward_read n u) (sym (arrivals-stop (suc most) c b))

    taken : (c : Cursor) {rs : List Arrival} {d : Cursor} → arrivals (suc most) c ≡ got rs d
        → (b : Bool) → begins In c ≡ b → length c.text ≤ length d.text + 76 * suc most
    taken c h true b = omega (arith, s.takes c (sym (arrivals-one most c b) ∙ h))
    taken c {rs} {d} h false b =
        let g : got [] c ≡ got rs d = sym (arrivals-stop (suc most) c b) ∙ h in
        let e : c ≡ d = cc in
        omega (arith, ap (λ y. length y.text) e)

steady-arrivals : (most : ℕ) → Steady (76 * most) 3 (arrivals most)
unfolding arrivals
steady-arrivals zero = steady-give [] 3
steady-arrivals (suc most) = steady-next most (steady-more most (steady-arrivals most))

-- a block has at most 1,232 bytes
steady-block : (clock : ℕ) → Steady 1232 3 (block clock)
unfolding block key_text key_name ascii
steady-block clock = steady-bind (steady-exactly Slot clock) λ n. steady-arrivals block_limit

-- what stands after the header or a block

unfoldable pub onward_next : ℕ → List ℕ → Next → Next
onward_next n u (slot_ahead rs d) = slot_ahead rs (onward n u d)
onward_next n u finished = finished
onward_next n u (faulty l) = faulty (n + l)

module _ (n : ℕ) (u : List ℕ) where
  onward_next-slot : {x : Next} {rs : List Arrival} {d : Cursor} → x ≡ slot_ahead rs d
      → onward_next n u x ≡ slot_ahead rs (onward n u d)
  unfolding onward_next
  onward_next-slot h = rw (h, onward_next)

  onward_next-faulty : {x : Next} {l : ℕ} → x ≡ faulty l → onward_next n u x ≡ faulty (n + l)
  unfolding onward_next
  onward_next-faulty h = rw (h, onward_next)

  onward_next-finished : {x : Next} → x ≡ finished → onward_next n u x ≡ finished
  unfolding onward_next
  onward_next-finished h = rw (h, onward_next)

  -- nothing after the line of `end`
  after_end-onwards : (d : Cursor) → Enough 1 d.text u → after_end (onward n u d) ≡ onward_next n u (after_end d)
  after_end-onwards d e = go d.text refl e
    where
      go : (t : List ℕ) → d.text ≡ t → Enough 1 d.text u → after_end (onward n u d) ≡ onward_next n u (after_end d)
      go (b ∷ t) h e =
          after_end-cons (onward n u d) (ap (λ x. x ++ u) h) ∙ sym (onward_next-faulty (after_end-cons d h))
      go [] h (inl l) = absurd (omega (arith, ap length h))
      go [] h (inr f) =
          after_end-nil (onward n u d) (ap (λ x. x ++ u) h ∙ f) ∙ sym (onward_next-finished (after_end-nil d h))

  module _ (clock : ℕ) (c : Cursor) (e : Enough enough c.text u) where
    end-onwards : begins End c ≡ true → begins End (onward n u c) ≡ true
        → (r : Read ℕ) → exactly End clock c ≡ r → exactly End clock (onward n u c) ≡ onward_read n u (exactly End clock c)
        → next clock (onward n u c) ≡ onward_next n u (next clock c)
    unfolding onward_read key_text key_name ascii
    end-onwards b f (got m d) p q =
        let l : length c.text ≤ length d.text + 15 = (steady-exactly End clock).takes c p in
        let g : Enough 1 d.text u = ⊎_elim (λ h. inl (omega arith)) inr e in
        let r : exactly End clock (onward n u c) ≡ got m (onward n u d) = q ∙ rw p in
        next_last clock (onward n u c) f r
        ∙ after_end-onwards d g
        ∙ ap (onward_next n u) (sym (next_last clock c b p))
    end-onwards b f (bad_at l) p q =
        next-no-last clock (onward n u c) f (q ∙ rw p) ∙ sym (onward_next-faulty (next-no-last clock c b p))

    block-onwards : begins End c ≡ false → begins End (onward n u c) ≡ false
        → (r : Read (List Arrival)) → block clock c ≡ r → block clock (onward n u c) ≡ onward_read n u (block clock c)
        → next clock (onward n u c) ≡ onward_next n u (next clock c)
    unfolding onward_read
    block-onwards b f (got rs d) p q =
        next-block clock (onward n u c) f (q ∙ rw p) ∙ sym (onward_next-slot (next-block clock c b p))
    block-onwards b f (bad_at l) p q =
        next-no-block clock (onward n u c) f (q ∙ rw p) ∙ sym (onward_next-faulty (next-no-block clock c b p))

    pub next-onwards : next clock (onward n u c) ≡ onward_next n u (next clock c)
    unfolding key_text key_name ascii
    next-onwards = go (begins End c) refl
      where
        fewer : {w : ℕ} → w ≤ enough → Enough w c.text u
        fewer h = ⊎_elim (λ l. inl (omega arith)) inr e

        same : begins End (onward n u c) ≡ begins End c
        same = begins-onwards End n u c (fewer (omega arith))

        go : (b : Bool) → begins End c ≡ b → next clock (onward n u c) ≡ onward_next n u (next clock c)
        go true b =
            end-onwards b (same ∙ b) (exactly End clock c) refl
            ((steady-exactly End clock).onwards n u c (fewer (omega arith)))
        go false b =
            block-onwards b (same ∙ b) (block clock c) refl ((steady-block clock).onwards n u c (fewer (omega arith)))

-- at a later line

later : (n : ℕ) (c : Cursor) → onward n [] c ≡ from (n + c.line) c.text
later n c = ap (from (n + c.line)) (append-nil c.text)

module _ (clock l : ℕ) (t : List ℕ) where
  next-from : next clock (from l t) ≡ onward_next l [] (next clock (from 0 t))
  next-from =
      let z : l + 0 ≡ l = omega arith in
      ap (next clock) (sym (later l (from 0 t) ∙ ap (λ k. from k t) z)) ∙ next-onwards l [] clock (from 0 t) (inr refl)

  pub next-slot-later : {rs : List Arrival} {d : Cursor} → next clock (from 0 t) ≡ slot_ahead rs d
      → next clock (from l t) ≡ slot_ahead rs (from (l + d.line) d.text)
  next-slot-later {rs} {d} h = next-from ∙ onward_next-slot l [] h ∙ ap (slot_ahead rs) (later l d)

  pub next-finished-later : next clock (from 0 t) ≡ finished → next clock (from l t) ≡ finished
  next-finished-later h = next-from ∙ onward_next-finished l [] h

  pub next-faulty-later : {k : ℕ} → next clock (from 0 t) ≡ faulty k → next clock (from l t) ≡ faulty (l + k)
  next-faulty-later h = next-from ∙ onward_next-faulty l [] h

-- the bytes and the lines of a block

next-block-exact : (clock : ℕ) (c : Cursor) {rs : List Arrival} {d : Cursor} → next clock c ≡ slot_ahead rs d
    → block clock c ≡ got rs d
next-block-exact clock c {rs} {d} h = go (begins End c) refl (exactly End clock c) refl (block clock c) refl
  where
    last : (e : Cursor) → next clock c ≡ after_end e → (t : List ℕ) → e.text ≡ t → block clock c ≡ got rs d
    last e p [] q = cc (after_end-nil e q)
    last e p (b ∷ t) q = cc (after_end-cons e q)

    go : (b : Bool) → begins End c ≡ b → (x : Read ℕ) → exactly End clock c ≡ x
        → (y : Read (List Arrival)) → block clock c ≡ y → block clock c ≡ got rs d
    go true b (got n e) x y _ = last e (next_last clock c b x) e.text refl
    go true b (bad_at l) x y _ = cc (next-no-last clock c b x)
    go false b x _ (got ss e) y = cc (next-block clock c b y)
    go false b x _ (bad_at l) y = cc (next-no-block clock c b y)

arrivals-line : (most : ℕ) (c : Cursor) {rs : List Arrival} {d : Cursor} → arrivals most c ≡ got rs d
    → d.line ≡ c.line + 5 * length rs
unfolding arrivals give one_more
arrivals-line zero c {rs} {d} h =
    let e : [] ≡ rs = cc in
    let f : c ≡ d = cc in
    omega (arith, ap length e, ap (λ x. x.line) f)
arrivals-line (suc most) c {rs} {d} h = go (begins In c) refl (λ c rs d. arrivals-line most c {rs = rs} {d = d})
  where
    go : (b : Bool) → begins In c ≡ b
        → ((c : Cursor) (rs : List Arrival) (d : Cursor) → arrivals most c ≡ got rs d → d.line ≡ c.line + 5 * length rs)
        → d.line ≡ c.line + 5 * length rs
    go false b fewer =
        let g : got [] c ≡ got rs d = sym (arrivals-stop (suc most) c b) ∙ h in
        let e : [] ≡ rs = cc in
        let f : c ≡ d = cc in
        omega (arith, ap length e, ap (λ x. x.line) f)
    go true b fewer =
        bind-exact arrival (λ a. ◌>>=◌ (arrivals most) (λ rs. give (a ∷ rs))) c (sym (arrivals-one most c b) ∙ h) λ a e p q.
        bind-exact (arrivals most) (λ rs. give (a ∷ rs)) e q λ ss f r g.
        let x : a ∷ ss ≡ rs = cc in
        let y : f ≡ d = cc in
        omega (arith, arrival-line c p, fewer e ss f r, ap length x, ap (λ x. x.line) y)

pub next-line : (clock : ℕ) (c : Cursor) {rs : List Arrival} {d : Cursor} → next clock c ≡ slot_ahead rs d
    → (d.line ≡ c.line + (1 + 5 * length rs)) × (length rs ≤ block_limit)
unfolding block
next-line clock c {rs} {d} h =
    bind-exact (exactly Slot clock) (λ _. arrivals block_limit) c (next-block-exact clock c h) λ n e p q.
    let (x, l, y) = arrivals-exact block_limit e rs d q in
    (omega (arith, exactly-line-next Slot clock c p, arrivals-line block_limit e q), l)

-- with more text behind it

unfoldable pub behind : List ℕ → Next → Next
behind u (slot_ahead rs d) = slot_ahead rs (from d.line (d.text ++ u))
behind u finished = finished
behind u (faulty l) = faulty l

onward_next-behind : (u : List ℕ) (x : Next) → onward_next 0 u x ≡ behind u x
unfolding onward_next behind
onward_next-behind u (slot_ahead rs d) =
    let z : 0 + d.line ≡ d.line = omega arith in
    ap (λ l. slot_ahead rs (from l (d.text ++ u))) z
onward_next-behind u finished = refl
onward_next-behind u (faulty l) =
    let z : 0 + l ≡ l = omega arith in
    ap faulty z

module _ (clock l : ℕ) (t : List ℕ) (h : enough ≤ length t) where
  pub next-append : (u : List ℕ) → next clock (from l (t ++ u)) ≡ behind u (next clock (from l t))
  next-append u =
      let z : l ≡ 0 + l = omega arith in
      ap (λ k. next clock (from k (t ++ u))) z
      ∙ next-onwards 0 u clock (from l t) (inl h)
      ∙ onward_next-behind u (next clock (from l t))

-- the header

unfoldable pub behind_header : List ℕ → Header → Header
behind_header u (opened n first d) = opened n first (from d.line (d.text ++ u))
behind_header u (refused_at r l) = refused_at r l

module _ (t u : List ℕ) (h : enough ≤ length t) where
  refused-append : {r : Refusal} {l : ℕ} → header (t ++ u) ≡ refused_at r l → header t ≡ refused_at r l
      → header (t ++ u) ≡ behind_header u (header t)
  unfolding behind_header
  refused-append p q = p ∙ sym (rw q)

  opened-append : {n first : ℕ} {d : Cursor} → header (t ++ u) ≡ opened n first (onward 0 u d) → header t ≡ opened n first d
      → header (t ++ u) ≡ behind_header u (header t)
  unfolding behind_header
  opened-append {n} {first} {d} p q =
      let z : 0 + d.line ≡ d.line = omega arith in
      p ∙ ap (λ l. opened n first (from l (d.text ++ u))) z ∙ sym (rw q)

  pub header-append : header (t ++ u) ≡ behind_header u (header t)
  unfolding onward_read key_text key_name ascii
  header-append =
      go (number Ports (from 1 t)) refl ((steady-number Ports).onwards 0 u (from 1 t) (inl (omega arith)))
    where
      first : (n : ℕ) (c : Cursor) → number Ports (from 1 t) ≡ got n c
          → number Ports (from 1 (t ++ u)) ≡ got n (onward 0 u c) → (b : Bool) → ports_in_range n ≡ b
          → (r : Read ℕ) → number First c ≡ r → number First (onward 0 u c) ≡ onward_read 0 u (number First c)
          → header (t ++ u) ≡ behind_header u (header t)
      first n c p q false b r i j = refused-append (header-bad-size (t ++ u) q b) (header-bad-size t p b)
      first n c p q true b (bad_at l) i j =
          let z : 0 + l ≡ l = omega arith in
          refused-append
          (header-bad-first (t ++ u) q b (j ∙ rw i) ∙ ap (refused_at BadLine) z)
          (header-bad-first t p b i)
      first n c p q true b (got m d) i j =
          let k : number First (onward 0 u c) ≡ got m (onward 0 u d) = j ∙ rw i in
          opened-append (header-opened (t ++ u) q b k) (header-opened t p b i)

      go : (r : Read ℕ) → number Ports (from 1 t) ≡ r
          → number Ports (from 1 (t ++ u)) ≡ onward_read 0 u (number Ports (from 1 t))
          → header (t ++ u) ≡ behind_header u (header t)
      go (bad_at l) p q =
          let z : 0 + l ≡ l = omega arith in
          refused-append
          (header-bad-ports (t ++ u) (q ∙ rw p) ∙ ap (refused_at BadLine) z)
          (header-bad-ports t p)
      go (got n c) p q =
          let l : length t ≤ length c.text + 17 = (steady-number Ports).takes (from 1 t) p in
          first n c p (q ∙ rw p) (ports_in_range n) refl (number First c) refl
          ((steady-number First).onwards 0 u c (inl (omega arith)))

-- the answer for a piece is that for the whole text

decided-enough : (t : List ℕ) → decided false t ≡ true → enough ≤ length t
unfolding decided
decided-enough t h = leb-true enough (length t) h

decided-append : (last : Bool) (t u : List ℕ) → enough ≤ length t → decided last (t ++ u) ≡ true
unfolding decided
decided-append last t u h =
    let l : enough ≤ length (t ++ u) = omega (arith, length-append t u) in
    or_r last (leb enough (length (t ++ u))) (le-leb enough (length (t ++ u)) l)

pub cut-anywhere : (last : Bool) (clock : ℕ) (t u : List ℕ) {n : Next} → next_in false clock t ≡ known n
    → next_in last clock (t ++ u) ≡ known (behind u n)
cut-anywhere last clock t u {n} h = go (decided false t) refl
  where
    go : (b : Bool) → decided false t ≡ b → next_in last clock (t ++ u) ≡ known (behind u n)
    go true b =
        let l : enough ≤ length t = decided-enough t b in
        let e : next clock (from 0 t) ≡ n = cc (next_in-known false t clock b) in
        next_in-known last (t ++ u) clock (decided-append last t u l)
        ∙ ap known (next-append clock 0 t l u ∙ ap (behind u) e)
    go false b = cc (next_in-more false t clock b)

pub cut-header : (last : Bool) (t u : List ℕ) {x : Header} → header_in false t ≡ known x
    → header_in last (t ++ u) ≡ known (behind_header u x)
cut-header last t u {x} h = go (decided false t) refl
  where
    go : (b : Bool) → decided false t ≡ b → header_in last (t ++ u) ≡ known (behind_header u x)
    go true b =
        let l : enough ≤ length t = decided-enough t b in
        let e : header t ≡ x = cc (header_in-known false t b) in
        header_in-known last (t ++ u) (decided-append last t u l)
        ∙ ap known (header-append t u l ∙ ap (behind_header u) e)
    go false b = cc (header_in-more false t b)
