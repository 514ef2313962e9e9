-- What the reader of a header and that of a block answer, by what stands in the text:
--     header_in-known, -more, next_in-known, -more   a piece of a text
--     opening-short, -bad-ports, ..                the header
--     block-known, -more                           a block, or the end
--     end-bad, -other, -more, -end, numbers-end    by the line of `end`
--     slot-bad, -other, -same                      by the line of `slot`
use Prim.Native.Nat.{ℕ, ◌+◌, ◌-◌, ◌≤◌, ◌<◌}
use native.Mathlib.Omega.{arith}
use mathlib.Core.Bool.{Bool, true, false}
use mathlib.Core.List.{List, [], ◌∷◌}
use mathlib.Core.Logic.{◌≢◌}
use mathlib.Core.Path.{◌≡◌, refl, sym, ap, ◌∙◌}
use borrow.Author.Tests.{eq-eqb, ne_eqb}
use lib.ListN.{length, drop, drop_of_length-le}
use lib.Seq.{drop-cons}
use Rattle.cell.specs.declared.Arrival.{Arrival}
use Rattle.cell.specs.declared.Refusal.{Refusal}
use Rattle.cell.specs.declared.Refusal.TheVariants.{BadSize, BadLine}
use Rattle.cell.specs.Limits.{ports_in_range}
use Rattle.trace.specs.declared.Key.TheVariants.{Ports, First, Slot, End as EndKey}
use Rattle.trace.specs.declared.Opening.TheVariants.{Open, Refused, Short}
use Rattle.trace.specs.declared.Answer.{Answer}
use Rattle.trace.specs.declared.Answer.TheVariants.{End, Bad, More}
use Rattle.trace.specs.Contents.{block_limit}
use Rattle.trace.specs.Reader.{from, Cursor, Read, got, bad_at, number, exactly, begins, arrivals, block}
use Rattle.trace.specs.Reader.{Next, faulty, after_end, next, refused_at, header}
use Rattle.trace.specs.Piece.{Piece, known, more, decided, next_in, header_in, numbers_of, answer_of, opening_of}
use Rattle.trace_reader.specs.Reading.{whole_arrivals, whole_of, numbers_after}
use Rattle.trace.proofs.Blocks.{bind-got, bind-bad, exactly-same, exactly-other, exactly-bad, after_end-nil, after_end-cons}
use Rattle.trace.proofs.Blocks.{next-block, next-no-block, next_last, next-no-last}
use Rattle.trace.proofs.RoundTrip.{header-bad-ports, header-bad-size, header-bad-first, header-opened}
use Rattle.trace_reader.specs.Code.{ahead}

module _ (last : Bool) (t : List ℕ) where
  pub header_in-more : decided last t ≡ false → header_in last t ≡ more
  unfolding header_in
  header_in-more h = rw (h, header_in)

  pub header_in-known : decided last t ≡ true → header_in last t ≡ known (header t)
  unfolding header_in
  header_in-known h = rw (h, header_in)

  pub next_in-more : (clock : ℕ) → decided last t ≡ false → next_in last clock t ≡ more
  unfolding next_in
  next_in-more clock h = rw (h, next_in)

  pub next_in-known : (clock : ℕ) → decided last t ≡ true → next_in last clock t ≡ known (next clock (from 0 t))
  unfolding next_in
  next_in-known clock h = rw (h, next_in)

  -- the header

  pub opening-short : decided last t ≡ false → opening_of t (header_in last t) ≡ Short
  unfolding opening_of
  opening-short h = rw (header_in-more h)

  module _ (d : decided last t ≡ true) where
    opening-refused : {r : Refusal} {l : ℕ} → header t ≡ refused_at r l → opening_of t (header_in last t) ≡ Refused r l
    unfolding opening_of
    opening-refused h = rw (header_in-known d, h)

    pub opening-bad-ports : number Ports (from 1 t) ≡ bad_at 1 → opening_of t (header_in last t) ≡ Refused BadLine 1
    opening-bad-ports h = opening-refused (header-bad-ports t h)

    module _ {n : ℕ} {c : Cursor} (p : number Ports (from 1 t) ≡ got n c) where
      pub opening-bad-size : ports_in_range n ≡ false → opening_of t (header_in last t) ≡ Refused BadSize 1
      opening-bad-size h = opening-refused (header-bad-size t p h)

      pub opening-bad-first : ports_in_range n ≡ true → number First c ≡ bad_at 2
          → opening_of t (header_in last t) ≡ Refused BadLine 2
      opening-bad-first h f = opening-refused (header-bad-first t p h f)

      pub opening-open : ports_in_range n ≡ true → {first i : ℕ} {e : Cursor} → number First c ≡ got first e
          → i + length e.text ≡ length t → opening_of t (header_in last t) ≡ Open n first i
      unfolding opening_of
      opening-open h {first} {i} {e} f l =
          let g : length t - length e.text ≡ i = omega arith in
          rw (header_in-known d, header-opened t p h f) (ap (Open n first) g)

-- a block, or the end

answer_of-faulty : (t : List ℕ) {n : Next} {l : ℕ} → n ≡ faulty l → Bad l ≡ answer_of t (known n)
unfolding answer_of
answer_of-faulty t h = rw (h, answer_of)

-- what is answered, and the numbers that were lent, by what stands in the text
abbrev Left : ℕ → List ℕ → List ℕ → Piece Next → Answer → List ℕ → Type 0
Left clock t ns x r ms = (r ≡ answer_of t x) × (ms ≡ numbers_after (whole_of clock (from 0 t)) x ns)

module _ (last : Bool) (clock : ℕ) (t : List ℕ) where
  pub block_more : decided last t ≡ false → (ns : List ℕ) → Left clock t ns (next_in last clock t) More ns
  unfolding answer_of numbers_after
  block_more h ns = rw (next_in-more last t clock h) (refl, refl)

  pub block-known : decided last t ≡ true → (ns : List ℕ) {r : Answer} {ms : List ℕ}
      → Left clock t ns (known (next clock (from 0 t))) r ms → Left clock t ns (next_in last clock t) r ms
  block-known h ns e = rw (next_in-known last t clock h) e

-- a fault before any arrival
numbers-faulty : (ns : List ℕ) {n : Next} {l : ℕ} {whole : List Arrival} → n ≡ faulty l → whole ≡ []
    → ns ≡ numbers_after whole (known n) ns
unfolding numbers_after numbers_of
numbers-faulty ns h w = rw (h, numbers_after, w)

module _ (clock : ℕ) (t : List ℕ) where
  -- the line of `end`
  module _ (b : begins EndKey (from 0 t) ≡ true) where
    pub end-bad : number EndKey (from 0 t) ≡ bad_at 0 → Bad 0 ≡ answer_of t (known (next clock (from 0 t)))
    end-bad h = answer_of-faulty t (next-no-last clock (from 0 t) b (exactly-bad EndKey clock (from 0 t) h))

    module _ (i : ℕ) {n : ℕ} (p : number EndKey (from 0 t) ≡ got n (from 1 (drop i t))) where
      pub end-other : n ≢ clock → Bad 0 ≡ answer_of t (known (next clock (from 0 t)))
      end-other h =
          answer_of-faulty t (next-no-last clock (from 0 t) b (exactly-other EndKey clock (from 0 t) p (ne_eqb n clock h)))

      pub end_more : n ≡ clock → i < length t → Bad 1 ≡ answer_of t (known (next clock (from 0 t)))
      end_more h l =
          answer_of-faulty t
          (next_last clock (from 0 t) b (exactly-same EndKey clock (from 0 t) p (eq-eqb n clock h))
          ∙ after_end-cons (from 1 (drop i t)) (drop-cons t i 0 l))

      pub end-end : n ≡ clock → length t ≤ i → End ≡ answer_of t (known (next clock (from 0 t)))
      unfolding answer_of
      end-end h l =
          rw (
            next_last clock (from 0 t) b (exactly-same EndKey clock (from 0 t) p (eq-eqb n clock h))
                ∙ after_end-nil (from 1 (drop i t)) (drop_of_length-le t l),
            answer_of,
          )

    -- no numbers come with it
    pub numbers-end : (ns : List ℕ) → ns ≡ numbers_after (whole_of clock (from 0 t)) (known (next clock (from 0 t))) ns
    unfolding whole_of numbers_after
    numbers-end ns = go (exactly EndKey clock (from 0 t)) refl
      where
        fault : {l : ℕ} → next clock (from 0 t) ≡ faulty l
            → ns ≡ numbers_after (whole_of clock (from 0 t)) (known (next clock (from 0 t))) ns
        fault h = numbers-faulty ns h (rw (b, whole_of))

        last : (d : Cursor) → next clock (from 0 t) ≡ after_end d → (u : List ℕ) → d.text ≡ u
            → ns ≡ numbers_after (whole_of clock (from 0 t)) (known (next clock (from 0 t))) ns
        last d h [] e = rw (h ∙ after_end-nil d e, numbers_after)
        last d h (x ∷ u) e = fault (h ∙ after_end-cons d e)

        go : (r : Read ℕ) → exactly EndKey clock (from 0 t) ≡ r
            → ns ≡ numbers_after (whole_of clock (from 0 t)) (known (next clock (from 0 t))) ns
        go (got n d) e = last d (next_last clock (from 0 t) b e) d.text refl
        go (bad_at l) e = fault (next-no-last clock (from 0 t) b e)

  -- the line of `slot`
  module _ (b : begins EndKey (from 0 t) ≡ false) where
    next-ahead : next clock (from 0 t) ≡ ahead (block clock (from 0 t))
    unfolding ahead
    next-ahead = go (block clock (from 0 t)) refl
      where
        go : (r : Read (List Arrival)) → block clock (from 0 t) ≡ r → next clock (from 0 t) ≡ ahead (block clock (from 0 t))
        go (got rs d) e = next-block clock (from 0 t) b e ∙ sym (rw e)
        go (bad_at l) e = next-no-block clock (from 0 t) b e ∙ sym (rw e)

    slot-fault : exactly Slot clock (from 0 t) ≡ bad_at 0 → (ns : List ℕ)
        → Left clock t ns (known (next clock (from 0 t))) (Bad 0) ns
    unfolding block whole_of
    slot-fault h ns =
        let n = next-no-block clock (from 0 t) b (bind-bad (exactly Slot clock) (λ _. arrivals block_limit) (from 0 t) h) in
        (answer_of-faulty t n, numbers-faulty ns n (rw (b, whole_of, h)))

    pub slot-bad : number Slot (from 0 t) ≡ bad_at 0 → (ns : List ℕ)
        → Left clock t ns (known (next clock (from 0 t))) (Bad 0) ns
    slot-bad h = slot-fault (exactly-bad Slot clock (from 0 t) h)

    module _ (i : ℕ) {n : ℕ} (p : number Slot (from 0 t) ≡ got n (from 1 (drop i t))) where
      pub slot-other : n ≢ clock → (ns : List ℕ) → Left clock t ns (known (next clock (from 0 t))) (Bad 0) ns
      slot-other h = slot-fault (exactly-other Slot clock (from 0 t) p (ne_eqb n clock h))

      module _ (h : n ≡ clock) where
        same : exactly Slot clock (from 0 t) ≡ got n (from 1 (drop i t))
        same = exactly-same Slot clock (from 0 t) p (eq-eqb n clock h)

        -- the arrivals are what stands after it
        pub slot_same : (ns : List ℕ) {r : Answer} {ms : List ℕ}
            → r ≡ answer_of t (known (ahead (arrivals block_limit (from 1 (drop i t)))))
            → ms ≡ numbers_after (whole_arrivals block_limit (from 1 (drop i t)))
            (known (ahead (arrivals block_limit (from 1 (drop i t))))) ns
            → Left clock t ns (known (next clock (from 0 t))) r ms
        unfolding block whole_of
        slot_same ns e f =
            let w : whole_of clock (from 0 t) ≡ whole_arrivals block_limit (from 1 (drop i t)) = rw (b, whole_of, same) in
            rw (w, next-ahead, bind-got (exactly Slot clock) (λ _. arrivals block_limit) (from 0 t) same) (e, f)
