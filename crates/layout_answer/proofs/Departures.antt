-- How many departures an answer has, on its bytes: output by output, and those of the slot that it answers.
use Prim.Native.Nat.{ℕ, zero, suc, ◌+◌, ◌*◌, ◌≤◌}
use native.Mathlib.Omega.{arith}
use native.Mathlib.Numerals.{add-one}
use mathlib.Core.Bool.{Bool, true, false, cond, not}
use mathlib.Core.List.{List, [], ◌∷◌, ◌++◌}
use mathlib.Core.Option.{Option, none, some}
use mathlib.Core.Path.{◌≡◌, refl, sym, ap, ap₂, ◌∙◌}
use borrow.Author.Tests.{eq-eqb, ne_eqb}
use lib.Dec.{eqb, lit≤}
use lib.ListN.{length, take, drop}
use lib.Seq.{take-take, drop-drop}
use Rattle.laws.specs.Lists.{count}
use Rattle.cell.specs.declared.Cell.{Cell}
use Rattle.cell.specs.Limits.{port_limit}
use Rattle.model.specs.Crossbar.{Course, answer_of}
use Rattle.model.specs.Tally.{is_sent}
use Rattle.layout.specs.Answer.{departure_size, departure_bytes, departures_bytes, answer_bytes, cell_in, departure_in, departures_in}
use Rattle.layout.specs.Host.{filled}
use Rattle.layout.specs.Number.{bytes_of, number_of, number_at, word}
use Rattle.layout.proofs.Answer.{length-departure_bytes, answer-parts}
use Rattle.layout.proofs.Number.{take-first, drop-first}
use Rattle.layout_answer.specs.Code.{sent_in}

------------------------------------------------------------------------
-- output by output

-- the outputs below one that send a cell
abbrev pub sent_below : ℕ → List ℕ → ℕ
sent_below n answer = count is_sent (departures_in n answer)

-- a departure's first number says whether there is one
sent-first : (bs : List ℕ) → is_sent (departure_in bs) ≡ not (eqb (word bs 0) 0)
unfolding is_sent departure_in
sent-first bs = go (eqb (word bs 0) 0) refl
  where
    go : (b : Bool) → eqb (word bs 0) 0 ≡ b → is_sent (departure_in bs) ≡ not (eqb (word bs 0) 0)
    go true e = rw (e, departure_in)
    go false e = rw (e, departure_in)

pub none_at_zero : (bs : List ℕ) → word bs 0 ≡ 0 → none ≡ departure_in bs
unfolding departure_in
none_at_zero bs h = rw (eq-eqb (word bs 0) 0 h, departure_in)

pub some_elsewhere : (c : Cell) (bs : List ℕ) → (word bs 0 ≡ 0 → ⊥) → c ≡ cell_in bs → some c ≡ departure_in bs
unfolding departure_in
some_elsewhere c bs h e = rw (ne_eqb (word bs 0) 0 h, departure_in) (ap some e)

-- that of an output stands where its departure begins
word_first : (at : ℕ) (bs : List ℕ) → word (take departure_size (drop at bs)) 0 ≡ word bs at
unfolding word number_at
word_first at bs = ap number_of (take-take 4 departure_size (drop at bs) (lit≤ tt))

-- 1 for an output that sends a cell, 0 for another
sends : ℕ → List ℕ → ℕ
sends n bs = cond (is_sent (departure_in (take departure_size (drop (departure_size * n) bs)))) 1 0

sends-one : (n : ℕ) (bs : List ℕ) → (word bs (departure_size * n) ≡ 0 → ⊥) → sends n bs ≡ 1
unfolding sends
sends-one n bs h =
    ap (λ b. cond b 1 0)
    (sent-first _ ∙ ap (λ w. not (eqb w 0)) (word_first (departure_size * n) bs) ∙ ap not (ne_eqb _ 0 h))

sends_none : (n : ℕ) (bs : List ℕ) → word bs (departure_size * n) ≡ 0 → sends n bs ≡ 0
unfolding sends
sends_none n bs h =
    ap (λ b. cond b 1 0)
    (sent-first _ ∙ ap (λ w. not (eqb w 0)) (word_first (departure_size * n) bs) ∙ ap not (eq-eqb _ 0 h))

-- one output more
sent-more : (n : ℕ) (bs : List ℕ) → sent_below (suc n) bs ≡ sent_below n bs + sends n bs
unfolding departures_in count sends
sent-more zero bs = omega arith
sent-more (suc n) bs =
    let at : departure_size + departure_size * n ≡ departure_size * suc n = omega arith in
    omega (
      arith,
      sent-more n (drop departure_size bs),
      ap {B = ℕ} (λ l. cond (is_sent (departure_in (take departure_size l))) 1 0)
          (drop-drop (departure_size * n) departure_size bs ∙ ap (λ k. drop k bs) at),
    )

pub sent-none : (answer : List ℕ) → 0 ≡ sent_below 0 answer
unfolding departures_in count
sent-none answer = refl

pub sent-next : (n : ℕ) (answer : List ℕ) → (word answer (departure_size * n) ≡ 0 → ⊥)
    → sent_below n answer + 1 ≡ sent_below (n + 1) answer
sent-next n answer h =
    ap (λ k. sent_below n answer + k) (sym (sends-one n answer h))
    ∙ sym (ap (λ k. sent_below k answer) (add-one n) ∙ sent-more n answer)

pub sent-same : (n : ℕ) (answer : List ℕ) → word answer (departure_size * n) ≡ 0
    → sent_below n answer ≡ sent_below (n + 1) answer
sent-same n answer h =
    let e : sent_below n answer ≡ sent_below n answer + sends n answer = omega (arith, sends_none n answer h) in
    e ∙ sym (ap (λ k. sent_below k answer) (add-one n) ∙ sent-more n answer)

pub sent-all : (answer : List ℕ) → sent_below port_limit answer ≡ sent_in answer
unfolding sent_in
sent-all answer = refl

------------------------------------------------------------------------
-- the departures of a slot

sent-bytes : (d : Option Cell) → is_sent (departure_in (departure_bytes d)) ≡ is_sent d
unfolding is_sent departure_in departure_bytes word number_at number_of bytes_of
sent-bytes none = refl
sent-bytes (some c) = refl

pub sent-departures : (n : ℕ) (ds : List (Option Cell)) (rest : List ℕ) → length ds ≤ n
    → sent_below n (departures_bytes n ds ++ rest) ≡ count is_sent ds
unfolding departures_in departures_bytes count is_sent
sent-departures zero [] rest room = refl
sent-departures zero (d ∷ ds) rest room = absurd (omega arith)
sent-departures (suc n) [] rest room =
    ap₂ (λ b k. cond b 1 0 + k)
    (ap (λ l. is_sent (departure_in l))
    (take-first (departure_bytes none) (departures_bytes n []) rest departure_size (length-departure_bytes none))
    ∙ sent-bytes none)
    (ap (sent_below n)
    (drop-first (departure_bytes none) (departures_bytes n []) rest departure_size (length-departure_bytes none))
    ∙ sent-departures n [] rest (omega arith))
sent-departures (suc n) (d ∷ ds) rest room =
    ap₂ (λ b k. cond b 1 0 + k)
    (ap (λ l. is_sent (departure_in l))
    (take-first (departure_bytes d) (departures_bytes n ds) rest departure_size (length-departure_bytes d))
    ∙ sent-bytes d)
    (ap (sent_below n)
    (drop-first (departure_bytes d) (departures_bytes n ds) rest departure_size (length-departure_bytes d))
    ∙ sent-departures n ds rest (omega arith))

-- an answer in its buffer has the departures of its slot
pub sent-filled : (c : Course) (buffer : List ℕ) → length c.departures ≤ port_limit
    → sent_in (filled (answer_bytes (answer_of c)) buffer) ≡ count is_sent c.departures
unfolding sent_in filled answer_of
sent-filled c buffer few =
    ap (sent_below port_limit) (answer-parts (answer_of c) (drop (length (answer_bytes (answer_of c))) buffer))
    ∙ sent-departures port_limit c.departures _ few
