-- Laws of the arrivals as bytes: a record and its 20 bytes are each other's, and so are the records of a slot and the
-- bytes that it is lent.
use Prim.Native.Nat.{ℕ, zero, suc, ◌+◌, ◌*◌, ◌/◌, ◌%◌, ◌≤◌}
use mathlib.Core.Bool.{Bool, true, false}
use mathlib.Core.Path.{◌≡◌, refl, sym, ◌∙◌, ap, ap₂}
use mathlib.Core.List.{List, [], ◌∷◌, ◌++◌}
use mathlib.Core.Option.{Option, none, some, some-injective, some-ne-none}
use native.Mathlib.Omega.{arith}
use borrow.Author.Tests.{eqb-true, eqb-false, eq-eqb, ne_eqb}
use lib.Dec.{eqb, lit≤}
use lib.ListN.{length, take, drop, length-append, take-append-drop, length-drop}
use lib.Seq.{take_at, drop_at, length-take-le}
use Rattle.laws.specs.Lists.{all?}
use Rattle.laws.proofs.Tests.{and_i, and_l, and_r}
use Rattle.cell.specs.declared.Arrival.{Arrival}
use Rattle.cell.specs.Cell.{arrival_fits}
use Rattle.cell.specs.Limits.{fits32}
use Rattle.model.specs.Emulation.{lent}
use Rattle.layout.specs.Number.{bytes_of, number_at, word}
use Rattle.layout.specs.Arrivals.{arrival_size, arrival_bytes, arrival_of, arrivals_bytes, arrivals_of, records_of}
use Rattle.layout.proofs.Number.{bytes?, bytes?-take, bytes?-drop, length-bytes_of}
use Rattle.layout.proofs.Number.{number_of-word, bytes_of-at, bytes_of-last, word_fits}

------------------------------------------------------------------------
-- one record

pub length-arrival_bytes : (a : Arrival) → length (arrival_bytes a) ≡ arrival_size
unfolding arrival_bytes
length-arrival_bytes a = simp (length-append, length-bytes_of)

pub arrival_of-arrival_bytes : (a : Arrival) → arrival_fits a ≡ true → arrival_of (arrival_bytes a) ≡ a
unfolding arrival_fits arrival_bytes arrival_of word number_at bytes_of
arrival_of-arrival_bytes a h =
    let i : fits32 a.input ≡ true = search and_l in
    let o : fits32 a.output ≡ true = search (and_l, and_r) in
    let f : fits32 a.flow ≡ true = search (and_l, and_r) in
    let r : fits32 a.rank ≡ true = search (and_l, and_r) in
    let t : fits32 a.tag ≡ true = search (and_l, and_r) in
    λ k. record {
      input = number_of-word a.input i k;
      output = number_of-word a.output o k;
      flow = number_of-word a.flow f k;
      rank = number_of-word a.rank r k;
      tag = number_of-word a.tag t k;
    }

pub arrival_of-first : (a : Arrival) (bs : List ℕ) → arrival_fits a ≡ true
    → arrival_of (take arrival_size (arrival_bytes a ++ bs)) ≡ a
arrival_of-first a bs h =
    ap arrival_of (take_at (arrival_bytes a) bs arrival_size (length-arrival_bytes a)) ∙ arrival_of-arrival_bytes a h

pub arrival_bytes-arrival_of : (bs : List ℕ) → bytes? bs ≡ true → length bs ≡ arrival_size
    → arrival_bytes (arrival_of bs) ≡ bs
unfolding arrival_bytes arrival_of word
arrival_bytes-arrival_of bs h size =
    bytes_of-at 4 0 bs h (rw size (lit≤ tt)) _
    (bytes_of-at 4 4 bs h (rw size (lit≤ tt)) _
    (bytes_of-at 4 8 bs h (rw size (lit≤ tt)) _
    (bytes_of-at 4 12 bs h (rw size (lit≤ tt)) _ (bytes_of-last 4 16 bs h size))))

-- a record of bytes fits
pub arrival_of-fits : (bs : List ℕ) → bytes? bs ≡ true → length bs ≡ arrival_size → arrival_fits (arrival_of bs) ≡ true
unfolding arrival_fits arrival_of
arrival_of-fits bs h size =
    let i : fits32 (word bs 0) ≡ true = word_fits bs 0 h (rw size (lit≤ tt)) in
    let o : fits32 (word bs 4) ≡ true = word_fits bs 4 h (rw size (lit≤ tt)) in
    let f : fits32 (word bs 8) ≡ true = word_fits bs 8 h (rw size (lit≤ tt)) in
    let r : fits32 (word bs 12) ≡ true = word_fits bs 12 h (rw size (lit≤ tt)) in
    let t : fits32 (word bs 16) ≡ true = word_fits bs 16 h (rw size (lit≤ tt)) in
    search and_i depth 9

------------------------------------------------------------------------
-- the records of a slot

pub length-arrivals_bytes : (rs : List Arrival) → length (arrivals_bytes rs) ≡ arrival_size * length rs
unfolding arrivals_bytes
length-arrivals_bytes [] = refl
length-arrivals_bytes (a ∷ rs) =
    length-append (arrival_bytes a) (arrivals_bytes rs)
    ∙ ap₂ ◌+◌ (length-arrival_bytes a) (length-arrivals_bytes rs)
    ∙ omega arith

pub arrivals_of-arrivals_bytes : (rs : List Arrival) → all? arrival_fits rs ≡ true
    → arrivals_of (length rs) (arrivals_bytes rs) ≡ rs
unfolding arrivals_bytes arrivals_of all?
arrivals_of-arrivals_bytes [] h = refl
arrivals_of-arrivals_bytes (a ∷ rs) h =
    let head : arrival_fits a ≡ true = search and_l in
    let tail : all? arrival_fits rs ≡ true = search and_r in
    ap₂ ◌∷◌
    (arrival_of-first a (arrivals_bytes rs) head)
    (ap (arrivals_of (length rs)) (drop_at (arrival_bytes a) (arrivals_bytes rs) arrival_size (length-arrival_bytes a))
    ∙ arrivals_of-arrivals_bytes rs tail)

pub length-arrivals_of : (n : ℕ) (bs : List ℕ) → length (arrivals_of n bs) ≡ n
unfolding arrivals_of
length-arrivals_of zero bs = refl
length-arrivals_of (suc n) bs = ap suc (length-arrivals_of n (drop arrival_size bs))

pub arrivals_bytes-arrivals_of : (n : ℕ) (bs : List ℕ) → bytes? bs ≡ true → length bs ≡ arrival_size * n
    → arrivals_bytes (arrivals_of n bs) ≡ bs
unfolding arrivals_bytes arrivals_of
arrivals_bytes-arrivals_of zero [] h size = refl
arrivals_bytes-arrivals_of zero (b ∷ bs) h size = absurd (omega arith)
arrivals_bytes-arrivals_of (suc n) bs h size =
    let room : arrival_size ≤ length bs = omega arith in
    let rest : length (drop arrival_size bs) ≡ arrival_size * n = length-drop arrival_size bs ∙ omega arith in
    ap₂ ◌++◌
    (arrival_bytes-arrival_of (take arrival_size bs) (bytes?-take arrival_size bs h) (length-take-le arrival_size bs room))
    (arrivals_bytes-arrivals_of n (drop arrival_size bs) (bytes?-drop arrival_size bs h) rest)
    ∙ take-append-drop arrival_size bs

-- a whole number of records, or none
pub records_of-whole : (bs : List ℕ) → length bs % arrival_size ≡ 0
    → records_of bs ≡ some (arrivals_of (length bs / arrival_size) bs)
unfolding records_of
records_of-whole bs h = rw (eq-eqb (length bs % arrival_size) 0 h, records_of)

pub records_of-broken : (bs : List ℕ) → (length bs % arrival_size ≡ 0 → ⊥) → records_of bs ≡ none
unfolding records_of
records_of-broken bs h = rw (ne_eqb (length bs % arrival_size) 0 h, records_of)

pub records_of-some : (bs : List ℕ) (rs : List Arrival) → records_of bs ≡ some rs
    → (length bs % arrival_size ≡ 0) × (arrivals_of (length bs / arrival_size) bs ≡ rs)
records_of-some bs rs e = go (eqb (length bs % arrival_size) 0) refl
  where
    go : (b : Bool) → eqb (length bs % arrival_size) 0 ≡ b
        → (length bs % arrival_size ≡ 0) × (arrivals_of (length bs / arrival_size) bs ≡ rs)
    go true t =
        let whole : length bs % arrival_size ≡ 0 = eqb-true (length bs % arrival_size) 0 t in
        (whole, some-injective _ _ (sym (records_of-whole bs whole) ∙ e))
    go false f =
        absurd (some-ne-none rs (sym e ∙ records_of-broken bs (eqb-false (length bs % arrival_size) 0 f)))

pub records_of-arrivals_bytes : (rs : List Arrival) → all? arrival_fits rs ≡ true → records_of (arrivals_bytes rs) ≡ some rs
records_of-arrivals_bytes rs h =
    let size : length (arrivals_bytes rs) ≡ arrival_size * length rs = length-arrivals_bytes rs in
    let whole : length (arrivals_bytes rs) % arrival_size ≡ 0 = omega arith in
    let many : length (arrivals_bytes rs) / arrival_size ≡ length rs = omega arith in
    records_of-whole (arrivals_bytes rs) whole ∙ ap some (rw many (arrivals_of-arrivals_bytes rs h))

pub records_of-exact : (bs : List ℕ) (rs : List Arrival) → bytes? bs ≡ true → records_of bs ≡ some rs
    → arrivals_bytes rs ≡ bs
records_of-exact bs rs h e =
    let whole : length bs % arrival_size ≡ 0 = (records_of-some bs rs e).0 in
    let size : length bs ≡ arrival_size * (length bs / arrival_size) = omega arith in
    ap arrivals_bytes (sym (records_of-some bs rs e).1) ∙ arrivals_bytes-arrivals_of (length bs / arrival_size) bs h size

-- the records that bytes are fit
pub arrivals_of-fits : (n : ℕ) (bs : List ℕ) → bytes? bs ≡ true → length bs ≡ arrival_size * n
    → all? arrival_fits (arrivals_of n bs) ≡ true
unfolding arrivals_of all?
arrivals_of-fits zero bs h size = refl
arrivals_of-fits (suc n) bs h size =
    let room : arrival_size ≤ length bs = omega arith in
    let rest : length (drop arrival_size bs) ≡ arrival_size * n = length-drop arrival_size bs ∙ omega arith in
    and_i _ _
    (arrival_of-fits (take arrival_size bs) (bytes?-take arrival_size bs h) (length-take-le arrival_size bs room))
    (arrivals_of-fits n (drop arrival_size bs) (bytes?-drop arrival_size bs h) rest)

pub records_of-fits : (bs : List ℕ) (rs : List Arrival) → bytes? bs ≡ true → records_of bs ≡ some rs
    → all? arrival_fits rs ≡ true
records_of-fits bs rs h e =
    let whole : length bs % arrival_size ≡ 0 = (records_of-some bs rs e).0 in
    let size : length bs ≡ arrival_size * (length bs / arrival_size) = omega arith in
    rw (← (records_of-some bs rs e).1) (arrivals_of-fits (length bs / arrival_size) bs h size)

-- so lent bytes are records of 32 bits, or no whole number of records
pub records_of-lent : (bs : List ℕ) → bytes? bs ≡ true → lent (records_of bs) ≡ true
unfolding lent
records_of-lent bs h = go (records_of bs) refl
  where
    go : (o : Option (List Arrival)) → records_of bs ≡ o → lent (records_of bs) ≡ true
    go none e = ap lent e
    go (some rs) e = ap lent e ∙ records_of-fits bs rs h e
