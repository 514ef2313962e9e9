-- A whole text, block by block, as the code reads it:
--     next-nil, next-shorter                    no text is a fault, and a block takes some bytes
--     blocks-fuel                               how many blocks may be read does not matter, if there are as many as bytes
--     Verified                                  what is read of a text, and what is left
--     verified-start, -more                     where the reading begins, and one block further
--     verified-end, -bad, -missing, -clock-end  where it ends
--     clock-ok, -err                            the clock, one further
--     verdict-mapped, -refused                  the whole text, by its header
use Prim.Native.Nat.{ℕ, zero, suc, ◌+◌, ◌*◌, ◌-◌, ◌≤◌, ◌<◌}
use native.Mathlib.Omega.{arith}
use mathlib.Core.Bool.{Bool, true, false}
use mathlib.Core.List.{List, [], ◌∷◌}
use mathlib.Core.Option.{Option, none, some}
use mathlib.Core.Path.{◌≡◌, refl, sym, ap, ◌∙◌}
use borrow.Author.Tests.{ne_eqb}
use lib.ListN.{length, drop, length-append, length-drop}
use Rattle.laws.proofs.Tests.{clash}
use Rattle.cell.specs.declared.Arrival.{Arrival}
use Rattle.cell.specs.declared.Refusal.{Refusal}
use Rattle.cell.specs.declared.Refusal.TheVariants.{BadLine}
use Rattle.cell.specs.Limits.{clock_end}
use Rattle.trace.specs.declared.Key.{Key}
use Rattle.trace.specs.declared.Key.TheVariants.{Slot as SlotKey, End as EndKey}
use Rattle.trace.specs.declared.Answer.{Answer}
use Rattle.trace.specs.declared.Answer.TheVariants.{Slot, End, Bad}
use Rattle.std.specs.Prelude.{Option as Maybe, Some, None, Result, Ok, Err, SomeIff, ok_or, MatchResult, IsErrAnd}
use Rattle.trace_reader.specs.declared.BadText.{BadText}
use Rattle.trace.specs.Line.{line, read_line}
use Rattle.trace.specs.Contents.{block_limit, arrivals_text}
use Rattle.trace.specs.Reader.{from, Cursor, Read, got, bad_at, number, exactly, begins, arrivals, block}
use Rattle.trace.specs.Reader.{Next, slot_ahead, finished, faulty, next, with_slot, blocks}
use Rattle.trace.specs.Reader.{opened, refused_at, header, read}
use Rattle.trace.specs.Piece.{decided, next_in, answer_of}
use Rattle.trace_reader.specs.Reading.{verdict_of}
use Rattle.trace.proofs.Tests.{fits32-e}
use Rattle.trace.proofs.Line.{length-line}
use Rattle.trace.proofs.Blocks.{bind-bad, number-some, number-none, number-exact, exactly-other, exactly-bad}
use Rattle.trace.proofs.Blocks.{next-no-block, next-no-last, next-exact}
use Rattle.trace.proofs.RoundTrip.{blocks_end, blocks-slot, blocks-fault, read-refused, read-bad, read-accepted}
use Rattle.trace_reader.proofs.Pieces.{next-slot-later, next-finished-later, next-faulty-later, next-line}
use Rattle.trace_reader.proofs.Answered.{Ahead, answer-slot-e, answer-end-e, answer-bad-e}
use Rattle.trace_line_reader.proofs.Lines.{rest, rest-drop, length_rest}
use Rattle.trace_reader.specs.Code.{ended, ended_of}

-- a line that is not the clock's

-- every reader of a line is at fault at that line
number-fault : (k : Key) (c : Cursor) {l : ℕ} → number k c ≡ bad_at l → l ≡ c.line
number-fault k c {l} h = go (read_line k c.text) refl
  where
    go : (o : Option (ℕ × List ℕ)) → read_line k c.text ≡ o → l ≡ c.line
    go none e = cc (number-none k c e)
    go (some s) e = cc (number-some k c e)

-- a clock past the last number
exactly-past : (k : Key) (clock : ℕ) (c : Cursor) → clock_end < clock → exactly k clock c ≡ bad_at c.line
exactly-past k clock c h = go (number k c) refl
  where
    go : (r : Read ℕ) → number k c ≡ r → exactly k clock c ≡ bad_at c.line
    go (got n d) p =
        let l : n ≤ clock_end = fits32-e n (number-exact k c n d p).1 in
        exactly-other k clock c p (ne_eqb n clock (omega arith))
    go (bad_at l) p = exactly-bad k clock c p ∙ ap bad_at (number-fault k c p)

-- no text
exactly-nil : (k : Key) (clock : ℕ) (c : Cursor) → c.text ≡ [] → exactly k clock c ≡ bad_at c.line
exactly-nil k clock c h = go (number k c) refl
  where
    go : (r : Read ℕ) → number k c ≡ r → exactly k clock c ≡ bad_at c.line
    go (got n d) p =
        let e : length c.text ≡ length (line k n) + length d.text =
        ap length (number-exact k c n d p).0 ∙ length-append (line k n) d.text in
        absurd (omega (arith, length-line k n, ap length h))
    go (bad_at l) p = exactly-bad k clock c p ∙ ap bad_at (number-fault k c p)

next-fault : (clock : ℕ) (c : Cursor) → ((k : Key) → exactly k clock c ≡ bad_at c.line) → next clock c ≡ faulty c.line
unfolding block
next-fault clock c h = go (begins EndKey c) refl
  where
    go : (b : Bool) → begins EndKey c ≡ b → next clock c ≡ faulty c.line
    go true b = next-no-last clock c b (h EndKey)
    go false b =
        next-no-block clock c b (bind-bad (exactly SlotKey clock) (λ _. arrivals block_limit) c (h SlotKey))

next_past : (clock : ℕ) (c : Cursor) → clock_end < clock → next clock c ≡ faulty c.line
next_past clock c h = next-fault clock c λ k. exactly-past k clock c h

pub next-nil : (clock : ℕ) (c : Cursor) → c.text ≡ [] → next clock c ≡ faulty c.line
next-nil clock c h = next-fault clock c λ k. exactly-nil k clock c h

-- a block takes some bytes
pub next-shorter : (clock : ℕ) (c : Cursor) {rs : List Arrival} {d : Cursor} → next clock c ≡ slot_ahead rs d
    → length d.text < length c.text
next-shorter clock c {rs} {d} h =
    let (e, f) = rw h at (next-exact clock c) in
    let l : length c.text ≡ length (line SlotKey clock) + (length (arrivals_text rs) + length d.text) =
    ap length e ∙ simp length-append in
    omega (arith, length-line SlotKey clock)

-- the blocks

pub nil-text : (t : List ℕ) → length t ≤ 0 → t ≡ []
nil-text [] h = refl
nil-text (b ∷ t) h = absurd (omega arith)

blocks-any-fault : (most clock : ℕ) (c : Cursor) {l : ℕ} → length c.text ≤ most → next clock c ≡ faulty l
    → blocks most clock c ≡ bad_at l
unfolding blocks
blocks-any-fault zero clock c {l} h e =
    let f : c.line ≡ l = cc (next-nil clock c (nil-text c.text h)) in
    ap bad_at f
blocks-any-fault (suc most) clock c h e = blocks-fault most clock c e

blocks-nil : (most few clock : ℕ) (c : Cursor) → length c.text ≤ 0 → blocks most clock c ≡ blocks few clock c
blocks-nil most few clock c h =
    let e : next clock c ≡ faulty c.line = next-nil clock c (nil-text c.text h) in
    let m : length c.text ≤ most = omega arith in
    let f : length c.text ≤ few = omega arith in
    blocks-any-fault most clock c m e ∙ sym (blocks-any-fault few clock c f e)

blocks-fuel : (most few clock : ℕ) (c : Cursor) → length c.text ≤ most → length c.text ≤ few
    → blocks most clock c ≡ blocks few clock c
blocks-fuel zero few clock c h k = blocks-nil zero few clock c h
blocks-fuel (suc most) zero clock c h k = blocks-nil (suc most) zero clock c k
blocks-fuel (suc most) (suc few) clock c h k = go (next clock c) refl (blocks-fuel most few (clock + 1))
  where
    go : (n : Next) → next clock c ≡ n
        → ((d : Cursor) → length d.text ≤ most → length d.text ≤ few
        → blocks most (clock + 1) d ≡ blocks few (clock + 1) d)
        → blocks (suc most) clock c ≡ blocks (suc few) clock c
    go (slot_ahead rs d) e same =
        let l : length d.text < length c.text = next-shorter clock c e in
        blocks-slot most clock c e
        ∙ ap (with_slot rs) (same d (omega arith) (omega arith))
        ∙ sym (blocks-slot few clock c e)
    go finished e same = blocks_end most clock c e ∙ sym (blocks_end few clock c e)
    go (faulty l) e same = blocks-fault most clock c e ∙ sym (blocks-fault few clock c e)

-- the blocks of a text that is left, by the first of them

pub blocks_of : ℕ → Cursor → Read (List (List Arrival))
blocks_of clock c = blocks (length c.text) clock c

module _ (clock : ℕ) (c : Cursor) where
  blocks_of-slot : {rs : List Arrival} {d : Cursor} → next clock c ≡ slot_ahead rs d
      → blocks_of clock c ≡ with_slot rs (blocks_of (clock + 1) d)
  unfolding blocks_of
  blocks_of-slot {rs} {d} e =
      let l : length d.text < length c.text = next-shorter clock c e in
      let m : length c.text ≡ suc (length c.text - 1) = omega arith in
      ap (λ k. blocks k clock c) m
      ∙ blocks-slot (length c.text - 1) clock c e
      ∙ ap (with_slot rs) (blocks-fuel (length c.text - 1) (length d.text) (clock + 1) d (omega arith) (omega arith))

  blocks_of-end : next clock c ≡ finished → blocks_of clock c ≡ got [] c
  unfolding blocks_of
  blocks_of-end e =
      let (f, g) = rw e at (next-exact clock c) in
      let m : length c.text ≡ suc (length c.text - 1) = omega (arith, ap length f, length-line EndKey clock) in
      ap (λ k. blocks k clock c) m ∙ blocks_end (length c.text - 1) clock c e

  blocks_of-fault : {l : ℕ} → next clock c ≡ faulty l → blocks_of clock c ≡ bad_at l
  unfolding blocks_of
  blocks_of-fault e = blocks-any-fault (length c.text) clock c (omega arith) e

ended-slot : (n : ℕ) (rs : List Arrival) (r : Read (List (List Arrival))) → ended n (with_slot rs r) ≡ ended (n + 1) r
unfolding ended with_slot
ended-slot n rs (got slots d) =
    let e : n + suc (length slots) ≡ n + 1 + length slots = omega arith in
    ap Ok e
ended-slot n rs (bad_at l) = refl

-- the walk

-- the blocks before this clock and this line are read, and `left` is left of the text
pub record Verified (t : List ℕ) (first : ℕ) (left : List ℕ) (clock line : ℕ) : Type 0 where
  pub begun : first ≤ clock
  pub fits : clock ≤ clock_end
  pub lines : line ≤ 3 + 81 * (clock - first)
  pub same : ended_of first t ≡ ended (clock - first) (blocks_of clock (from line left))

pub verified-start : (t : List ℕ) (first : ℕ) → first ≤ clock_end → Verified t first t first 3
unfolding ended_of blocks_of
verified-start t first h = record {
  begun = omega arith;
  fits = h;
  lines = omega arith;
  same =
      let z : 0 ≡ first - first = omega arith in
      ap (λ n. ended n (blocks (length t) first (from 3 t))) z;
}

module _ {t : List ℕ} {first : ℕ} {left : List ℕ} {clock line : ℕ} (v : Verified t first left clock line) where
  verified-fault : {l : ℕ} → next clock (from line left) ≡ faulty l → Err l ≡ ended_of first t
  unfolding ended
  verified-fault p = sym (v.same ∙ ap (ended (clock - first)) (blocks_of-fault clock (from line left) p))

  -- no line is left
  pub verified-missing : length left ≤ 0 → Err line ≡ ended_of first t
  verified-missing h = verified-fault (next-nil clock (from line left) (nil-text left h))

module _ {t : List ℕ} {first : ℕ} {left : List ℕ} {clock line : ℕ} (v : Verified t first left clock line)
    {b : Answer} (e : b ≡ answer_of left (next_in true clock left)) where
  module _ {n i l : ℕ} (h : b ≡ Slot n i l) where
    here : Ahead clock left n i l
    here = answer-slot-e true clock left e h

    there : next clock (from line left) ≡ slot_ahead here.rs (from (line + l) (drop i left))
    there = next-slot-later clock line left here.there

    pub verified-within : i ≤ length left
    verified-within = here.within

    pub verified-lines : l ≤ 81
    verified-lines =
        let (x, y) = next-line clock (from 0 left) here.there in
        omega arith

    pub verified-less : length (rest left i) < length left
    verified-less =
        omega (arith, length_rest left i, length-drop i left, next-shorter clock (from 0 left) here.there)

    slot_same : ended_of first t ≡ ended (clock - first + 1) (blocks_of (clock + 1) (from (line + l) (drop i left)))
    slot_same =
        v.same
        ∙ ap (ended (clock - first)) (blocks_of-slot clock (from line left) there)
        ∙ ended-slot (clock - first) here.rs (blocks_of (clock + 1) (from (line + l) (drop i left)))

    -- one block further
    pub verified-more : {k : ℕ} → k ≡ clock + 1 → k ≤ clock_end → Verified t first (rest left i) k (line + l)
    verified-more {k} e f =
        let z : clock - first + 1 ≡ k - first = omega (arith, v.begun) in
        record {
          begun = omega (arith, v.begun);
          fits = f;
          lines = omega (arith, v.begun, v.lines, verified-lines);
          same = slot_same
              ∙ ap (λ n. ended n (blocks_of (clock + 1) (from (line + l) (drop i left)))) z
              ∙ ap (λ n. ended (k - first) (blocks_of n (from (line + l) (drop i left)))) (sym e)
              ∙ ap (λ u. ended (k - first) (blocks_of k (from (line + l) u))) (sym (rest-drop left i));
        }

    -- no block can follow slot 4,294,967,295
    pub verified-clock-end : clock ≡ clock_end → Err (line + l) ≡ ended_of first t
    unfolding ended
    verified-clock-end c =
        let d : Cursor = from (line + l) (drop i left) in
        let f : blocks_of (clock + 1) d ≡ bad_at (line + l) = blocks_of-fault (clock + 1) d (next_past (clock + 1) d (omega arith)) in
        sym (slot_same ∙ ap (ended (clock - first + 1)) f)

  pub verified-end : b ≡ End → Ok (clock - first) ≡ ended_of first t
  unfolding ended
  verified-end h =
      let p : next clock (from line left) ≡ finished = next-finished-later clock line left (answer-end-e true clock left e h) in
      let z : clock - first + 0 ≡ clock - first = omega arith in
      sym (v.same ∙ ap (ended (clock - first)) (blocks_of-end clock (from line left) p) ∙ ap Ok z)

  pub verified-bad : {k : ℕ} → b ≡ Bad k → Err (line + k) ≡ ended_of first t
  verified-bad h = verified-fault v (next-faulty-later clock line left (answer-bad-e true clock left e h))

-- the clock, one further

module _ (n : ℕ) (o : Maybe ℕ) (d : ℕ) {r : Result ℕ ℕ} (h : SomeIff o (n + 1 < 4294967296) (n + 1)) (e : r ≡ ok_or o d) where
  pub clock-ok : {m : ℕ} → r ≡ Ok m → (m ≡ n + 1) × (m ≤ clock_end)
  clock-ok {m} f = go o h e
    where
      go : (o : Maybe ℕ) → SomeIff o (n + 1 < 4294967296) (n + 1) → r ≡ ok_or o d → (m ≡ n + 1) × (m ≤ clock_end)
      go None g e =
          let z : ◌≡◌ {A = ℕ} 0 1 = cc in
          absurd (omega arith)
      go (Some x) g e =
          let y : x ≡ m = cc in
          (omega (arith, g.1), omega (arith, g.0, g.1))

  pub clock-err : {m : ℕ} → r ≡ Err m → (m ≡ d) × (clock_end ≤ n)
  clock-err {m} f = go o h e
    where
      go : (o : Maybe ℕ) → SomeIff o (n + 1 < 4294967296) (n + 1) → r ≡ ok_or o d → (m ≡ d) × (clock_end ≤ n)
      go None g e =
          let y : m ≡ d = cc in
          (y, omega (arith, g))
      go (Some x) g e =
          let z : ◌≡◌ {A = ℕ} 0 1 = cc in
          absurd (omega arith)

-- the whole text, by its header

module _ (t : List ℕ) {n first : ℕ} (i : ℕ) (h : header t ≡ opened n first (from 3 (drop i t))) where
  ended-here : ended_of first (rest t i) ≡ ended 0 (blocks_of first (from 3 (drop i t)))
  unfolding ended_of blocks_of
  ended-here = ap (λ x. ended 0 (blocks (length x) first (from 3 x))) (rest-drop t i)

  verdict-accepted : {k : ℕ} → ended_of first (rest t i) ≡ Ok k → Ok k ≡ verdict_of (read t)
  unfolding ended verdict_of blocks_of
  verdict-accepted {k} e = go (blocks_of first (from 3 (drop i t))) refl
    where
      go : (r : Read (List (List Arrival))) → blocks_of first (from 3 (drop i t)) ≡ r → Ok k ≡ verdict_of (read t)
      go (got slots d) q =
          let y : k ≡ 0 + length slots = cc (ended-here, ap (ended 0) q) in
          let z : k ≡ length slots = omega arith in
          ap Ok z ∙ sym (ap verdict_of (read-accepted t h q))
      go (bad_at l) q = cc (ended-here, ap (ended 0) q)

  verdict-bad : {l : ℕ} → ended_of first (rest t i) ≡ Err l
      → Err (record { refusal = BadLine; line = l }) ≡ verdict_of (read t)
  unfolding ended verdict_of blocks_of
  verdict-bad {l} e = go (blocks_of first (from 3 (drop i t))) refl
    where
      go : (r : Read (List (List Arrival))) → blocks_of first (from 3 (drop i t)) ≡ r
          → Err (record { refusal = BadLine; line = l }) ≡ verdict_of (read t)
      go (got slots d) q = cc (ended-here, ap (ended 0) q)
      go (bad_at m) q =
          let z : m ≡ l = cc (ended-here, ap (ended 0) q) in
          ap (λ l. Err (record { refusal = BadLine; line = l })) (sym z) ∙ sym (ap verdict_of (read-bad t h q))

  -- a line at fault is a bad line
  pub verdict-mapped : (r : Result ℕ ℕ) (m : Result ℕ BadText) → r ≡ ended_of first (rest t i)
      → MatchResult r (λ k. m ≡ Ok k) (λ l. IsErrAnd m (λ b. b ≡ record { refusal = BadLine; line = l }))
      → m ≡ verdict_of (read t)
  verdict-mapped (Ok k) m e f = f ∙ verdict-accepted (sym e)
  verdict-mapped (Err l) (Ok k) e f = absurd f
  verdict-mapped (Err l) (Err b) e f = ap Err f ∙ verdict-bad (sym e)

pub verdict-refused : (t : List ℕ) {r : Refusal} {l : ℕ} → header t ≡ refused_at r l
    → Err (record { refusal = r; line = l }) ≡ verdict_of (read t)
unfolding verdict_of
verdict-refused t h = sym (ap verdict_of (read-refused t h))

-- a whole text is always decided
pub whole-decided : {P : Type 0} (t : List ℕ) → decided true t ≡ false → P
unfolding decided
whole-decided t h = absurd (clash refl h)
