-- What stands in a text, by the answer of its reader:
--     opening-open-e, -refused-e, -short-e       of the header's reader
--     answer-slot-e, -end-e, -bad-e, -more-e     of the block's reader
use Prim.Native.Nat.{ℕ, ◌+◌, ◌-◌, ◌≤◌}
use native.Mathlib.Omega.{arith}
use mathlib.Core.Bool.{Bool, true, false}
use mathlib.Core.List.{List, ◌++◌, append_assoc}
use mathlib.Core.Path.{◌≡◌, refl, sym, ap, ◌∙◌}
use lib.ListN.{length, drop}
use Rattle.cell.specs.declared.Arrival.{Arrival}
use Rattle.cell.specs.declared.Refusal.{Refusal}
use Rattle.cell.specs.Limits.{ports_in_range}
use Rattle.trace.specs.declared.Key.TheVariants.{Ports, First, Slot as SlotKey}
use Rattle.trace.specs.declared.Answer.TheVariants.{Slot, End, Bad, More}
use Rattle.trace.specs.declared.Answer.{Answer}
use Rattle.trace.specs.declared.Opening.{Opening}
use Rattle.trace.specs.declared.Opening.TheVariants.{Open, Refused, Short}
use Rattle.trace.specs.Line.{line}
use Rattle.trace.specs.Contents.{arrivals_text}
use Rattle.trace.specs.Reader.{from, Cursor, Read, got, bad_at, number, Next, slot_ahead, finished, faulty, next}
use Rattle.trace.specs.Reader.{Header, opened, refused_at, header}
use Rattle.trace.specs.Piece.{Piece, known, more, decided, next_in, header_in, answer_of, opening_of}
use Rattle.trace.proofs.Blocks.{next-exact}
use Rattle.trace.proofs.RoundTrip.{header-bad-ports, header-bad-size, header-bad-first, header-opened, header-exact}
use Rattle.trace_reader.proofs.Answers.{header_in-more, header_in-known, next_in-more, next_in-known}
use Rattle.trace_reader.proofs.Arrivals.{number-line-next}
use Rattle.trace_line_reader.proofs.Lines.{drop-rest}

never : {P : Type 0} → ◌≡◌ {A = ℕ} 0 1 → P
never z = absurd (omega arith)

module _ (last : Bool) (t : List ℕ) where
  -- what is known of a piece was read

  header_in-read : {x : Header} → header_in last t ≡ known x → header t ≡ x
  header_in-read {x} h = go (decided last t) refl
    where
      go : (b : Bool) → decided last t ≡ b → header t ≡ x
      go true b = cc (header_in-known last t b)
      go false b = cc (header_in-more last t b)

  header_in-unread : header_in last t ≡ more → decided last t ≡ false
  header_in-unread h = go (decided last t) refl
    where
      go : (b : Bool) → decided last t ≡ b → decided last t ≡ false
      go true b = cc (header_in-known last t b)
      go false b = b

  next_in-read : (clock : ℕ) {x : Next} → next_in last clock t ≡ known x → next clock (from 0 t) ≡ x
  next_in-read clock {x} h = go (decided last t) refl
    where
      go : (b : Bool) → decided last t ≡ b → next clock (from 0 t) ≡ x
      go true b = cc (next_in-known last t clock b)
      go false b = cc (next_in-more last t clock b)

  next_in-unread : (clock : ℕ) → next_in last clock t ≡ more → decided last t ≡ false
  next_in-unread clock h = go (decided last t) refl
    where
      go : (b : Bool) → decided last t ≡ b → decided last t ≡ false
      go true b = cc (next_in-known last t clock b)
      go false b = b

-- the header

header-line : (t : List ℕ) {n first : ℕ} {d : Cursor} → header t ≡ opened n first d → d.line ≡ 3
header-line t {n} {first} {d} h = go (number Ports (from 1 t)) refl
  where
    in_range : (m : ℕ) (c : Cursor) → number Ports (from 1 t) ≡ got m c → (b : Bool) → ports_in_range m ≡ b
        → (r : Read ℕ) → number First c ≡ r → d.line ≡ 3
    in_range m c p false b r q = cc (header-bad-size t p b)
    in_range m c p true b (bad_at l) q = cc (header-bad-first t p b q)
    in_range m c p true b (got f x) q =
        let e : x ≡ d = cc (header-opened t p b q) in
        let y : c.line ≡ 1 + 1 = number-line-next Ports (from 1 t) p in
        omega (arith, ap (λ z. z.line) e, number-line-next First c q)

    go : (r : Read ℕ) → number Ports (from 1 t) ≡ r → d.line ≡ 3
    go (bad_at l) p = cc (header-bad-ports t p)
    go (got m c) p = in_range m c p (ports_in_range m) refl (number First c) refl

module _ (last : Bool) (t : List ℕ) {o : Opening} (e : o ≡ opening_of t (header_in last t)) where
  opening-at : (x : Piece Header) → header_in last t ≡ x → o ≡ opening_of t x
  opening-at x h = e ∙ ap (opening_of t) h

  pub opening-open-e : {n first i : ℕ} → o ≡ Open n first i
      → (header t ≡ opened n first (from 3 (drop i t))) × (i ≤ length t)
  unfolding opening_of
  opening-open-e {n} {first} {i} h = go (header_in last t) refl
    where
      go : (x : Piece Header) → header_in last t ≡ x
          → (header t ≡ opened n first (from 3 (drop i t))) × (i ≤ length t)
      go more p = never (cc (opening-at more p))
      go (known (refused_at r l)) p = never (cc (opening-at (known (refused_at r l)) p))
      go (known (opened m f d)) p =
          let g : Open m f (length t - length d.text) ≡ Open n first i = sym (opening-at (known (opened m f d)) p) ∙ h in
          let x : length t - length d.text ≡ i = cc in
          let y : m ≡ n = cc in
          let z : f ≡ first = cc in
          let k : header t ≡ opened m f d = header_in-read last t p in
          let (a, q) = rw k at (header-exact t) in
          let s : List ℕ = line Ports m ++ line First f in
          let (u, w) = drop-rest s d.text t (q ∙ sym (append_assoc (line Ports m) (line First f) d.text)) in
          let c : d ≡ from 3 (drop i t) = λ j. record { line = header-line t k j; text = (u ∙ ap (λ j. drop j t) x) j } in
          (k ∙ ap (λ j. opened j f d) y ∙ ap (λ j. opened n j d) z ∙ ap (opened n first) c, omega arith)

  pub opening-refused-e : {r : Refusal} {l : ℕ} → o ≡ Refused r l → header t ≡ refused_at r l
  unfolding opening_of
  opening-refused-e {r} {l} h = go (header_in last t) refl
    where
      go : (x : Piece Header) → header_in last t ≡ x → header t ≡ refused_at r l
      go more p = cc (opening-at more p)
      go (known (opened m f d)) p = cc (opening-at (known (opened m f d)) p)
      go (known (refused_at s k)) p =
          let x : s ≡ r = cc (opening-at (known (refused_at s k)) p) in
          let y : k ≡ l = cc (opening-at (known (refused_at s k)) p) in
          header_in-read last t p ∙ ap (λ z. refused_at z k) x ∙ ap (refused_at r) y

  pub opening-short-e : o ≡ Short → decided last t ≡ false
  unfolding opening_of
  opening-short-e h = go (header_in last t) refl
    where
      go : (x : Piece Header) → header_in last t ≡ x → decided last t ≡ false
      go more p = header_in-unread last t p
      go (known (opened m f d)) p = cc (opening-at (known (opened m f d)) p)
      go (known (refused_at r l)) p = cc (opening-at (known (refused_at r l)) p)

-- a block

-- a block with n arrivals, i bytes and l lines stands at the start of t
pub record Ahead (clock : ℕ) (t : List ℕ) (n i l : ℕ) : Type 0 where
  pub rs : List Arrival
  pub count : length rs ≡ n
  pub within : i ≤ length t
  pub there : next clock (from 0 t) ≡ slot_ahead rs (from l (drop i t))

module _ (last : Bool) (clock : ℕ) (t : List ℕ) {b : Answer} (e : b ≡ answer_of t (next_in last clock t)) where
  answer-of : (x : Piece Next) → next_in last clock t ≡ x → b ≡ answer_of t x
  answer-of x h = e ∙ ap (answer_of t) h

  pub answer-slot-e : {n i l : ℕ} → b ≡ Slot n i l → Ahead clock t n i l
  unfolding answer_of
  answer-slot-e {n} {i} {l} h = go (next_in last clock t) refl
    where
      go : (x : Piece Next) → next_in last clock t ≡ x → Ahead clock t n i l
      go more p = never (cc (answer-of more p))
      go (known finished) p = never (cc (answer-of (known finished) p))
      go (known (faulty k)) p = never (cc (answer-of (known (faulty k)) p))
      go (known (slot_ahead rs d)) p =
          let g : b ≡ answer_of t (known (slot_ahead rs d)) = answer-of (known (slot_ahead rs d)) p in
          let f : Slot (length rs) (length t - length d.text) d.line ≡ Slot n i l = sym g ∙ h in
          let v : length rs ≡ n = cc in
          let x : length t - length d.text ≡ i = cc in
          let y : d.line ≡ l = cc in
          let k : next clock (from 0 t) ≡ slot_ahead rs d = next_in-read last t clock p in
          let (q, a) = rw k at (next-exact clock (from 0 t)) in
          let s : List ℕ = line SlotKey clock ++ arrivals_text rs in
          let (u, w) = drop-rest s d.text t (q ∙ sym (append_assoc (line SlotKey clock) (arrivals_text rs) d.text)) in
          let z : d ≡ from l (drop i t) = λ j. record { line = y j; text = (u ∙ ap (λ m. drop m t) x) j } in
          record {
            rs = rs;
            count = v;
            within = omega arith;
            there = k ∙ ap (slot_ahead rs) z;
          }

  pub answer-end-e : b ≡ End → next clock (from 0 t) ≡ finished
  unfolding answer_of
  answer-end-e h = go (next_in last clock t) refl
    where
      go : (x : Piece Next) → next_in last clock t ≡ x → next clock (from 0 t) ≡ finished
      go more p = cc (answer-of more p)
      go (known (slot_ahead rs d)) p = cc (answer-of (known (slot_ahead rs d)) p)
      go (known finished) p = next_in-read last t clock p
      go (known (faulty k)) p = cc (answer-of (known (faulty k)) p)

  pub answer-bad-e : {k : ℕ} → b ≡ Bad k → next clock (from 0 t) ≡ faulty k
  unfolding answer_of
  answer-bad-e {k} h = go (next_in last clock t) refl
    where
      go : (x : Piece Next) → next_in last clock t ≡ x → next clock (from 0 t) ≡ faulty k
      go more p = cc (answer-of more p)
      go (known (slot_ahead rs d)) p = cc (answer-of (known (slot_ahead rs d)) p)
      go (known finished) p = cc (answer-of (known finished) p)
      go (known (faulty j)) p =
          let f : j ≡ k = cc (answer-of (known (faulty j)) p) in
          next_in-read last t clock p ∙ ap faulty f

  pub answer-more-e : b ≡ More → decided last t ≡ false
  unfolding answer_of
  answer-more-e h = go (next_in last clock t) refl
    where
      go : (x : Piece Next) → next_in last clock t ≡ x → decided last t ≡ false
      go more p = next_in-unread last t clock p
      go (known (slot_ahead rs d)) p = cc (answer-of (known (slot_ahead rs d)) p)
      go (known finished) p = cc (answer-of (known finished) p)
      go (known (faulty k)) p = cc (answer-of (known (faulty k)) p)
