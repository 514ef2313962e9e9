-- Laws of the answer as bytes: it has 584 of them, and a reader who knows N reads the answer back, whatever follows it.
use Prim.Native.Nat.{ℕ, zero, suc, ◌+◌, ◌*◌, ◌-◌, ◌≤◌, ◌<◌}
use mathlib.Core.Bool.{Bool, true, ◌&&◌}
use mathlib.Core.Path.{◌≡◌, refl, sym, ◌∙◌, ap, ap₂}
use mathlib.Core.List.{List, [], ◌∷◌, ◌++◌, append_assoc, append-nil}
use mathlib.Core.Option.{Option, none, some}
use native.Mathlib.Numerals.{add-one}
use native.Mathlib.Omega.{arith}
use lib.ListN.{length, drop, get_or, length-append, length-replicate}
use lib.Seq.{drop_at, drop-drop}
use Rattle.laws.specs.Lists.{all?}
use Rattle.laws.proofs.Tests.{and_l, and_r}
use Rattle.cell.specs.declared.Cell.{Cell}
use Rattle.cell.specs.Limits.{fits32, port_limit}
use Rattle.model.specs.Checks.{no_departures}
use Rattle.model.specs.Crossbar.{Answer}
use Rattle.layout.specs.Number.{bytes_of, number_at, number_of, word, words_in}
use Rattle.layout.specs.Answer.{departure_size, departures_size, first_occupancy, occupancies_size, second_occupancy}
use Rattle.layout.specs.Answer.{answer_size, departure_bytes, departures_bytes, words_bytes, answer_bytes}
use Rattle.layout.specs.Answer.{departure_in, departures_in, answer_in}
use Rattle.layout.proofs.Number.{take-first, drop-first, length-bytes_of}
use Rattle.layout.proofs.Number.{number_of-word, word-here, word-past}

------------------------------------------------------------------------
-- one departure

-- each of the cell's numbers has 32 bits
unfoldable pub cell_fits : Cell → Bool
cell_fits c =
    fits32 c.input
    && (fits32 c.output
    && (fits32 c.flow && (fits32 c.rank && (fits32 c.tag && fits32 c.slot))))

unfoldable pub departure_fits : Option Cell → Bool
departure_fits none = true
departure_fits (some c) = cell_fits c

pub length-departure_bytes : (d : Option Cell) → length (departure_bytes d) ≡ departure_size
unfolding departure_bytes
length-departure_bytes none = length-replicate {A = ℕ} departure_size 0
length-departure_bytes (some c) = simp (length-append, length-bytes_of)

pub departure_in-departure_bytes : (d : Option Cell) → departure_fits d ≡ true → departure_in (departure_bytes d) ≡ d
unfolding departure_fits cell_fits departure_in departure_bytes word number_at number_of bytes_of
departure_in-departure_bytes none h = refl
departure_in-departure_bytes (some c) h =
    let i : fits32 c.input ≡ true = search and_l in
    let o : fits32 c.output ≡ true = search (and_l, and_r) in
    let f : fits32 c.flow ≡ true = search (and_l, and_r) in
    let r : fits32 c.rank ≡ true = search (and_l, and_r) in
    let t : fits32 c.tag ≡ true = search (and_l, and_r) in
    let s : fits32 c.slot ≡ true = search (and_l, and_r) depth 7 in
    λ k.
    some
    (record {
      input = number_of-word c.input i k;
      output = number_of-word c.output o k;
      flow = number_of-word c.flow f k;
      rank = number_of-word c.rank r k;
      tag = number_of-word c.tag t k;
      slot = number_of-word c.slot s k;
    })

------------------------------------------------------------------------
-- the departures

pub length-departures_bytes : (n : ℕ) (ds : List (Option Cell)) → length (departures_bytes n ds) ≡ departure_size * n
unfolding departures_bytes
length-departures_bytes zero ds = refl
length-departures_bytes (suc n) [] =
    length-append (departure_bytes none) (departures_bytes n [])
    ∙ ap₂ ◌+◌ (length-departure_bytes none) (length-departures_bytes n [])
    ∙ omega arith
length-departures_bytes (suc n) (d ∷ ds) =
    length-append (departure_bytes d) (departures_bytes n ds)
    ∙ ap₂ ◌+◌ (length-departure_bytes d) (length-departures_bytes n ds)
    ∙ omega arith

pub departures_in-departures_bytes : (n : ℕ) (ds : List (Option Cell)) (bs : List ℕ)
    → all? departure_fits ds ≡ true → length ds ≤ n → departures_in (length ds) (departures_bytes n ds ++ bs) ≡ ds
unfolding departures_in departures_bytes all?
departures_in-departures_bytes n [] bs h room = refl
departures_in-departures_bytes zero (d ∷ ds) bs h room = absurd (omega arith)
departures_in-departures_bytes (suc n) (d ∷ ds) bs h room =
    let here : departure_fits d ≡ true = search and_l in
    let later : all? departure_fits ds ≡ true = search and_r in
    let less : length ds ≤ n = omega arith in
    ap₂ ◌∷◌
    (ap departure_in (take-first (departure_bytes d) (departures_bytes n ds) bs departure_size (length-departure_bytes d))
    ∙ departure_in-departure_bytes d here)
    (ap (departures_in (length ds))
    (drop-first (departure_bytes d) (departures_bytes n ds) bs departure_size (length-departure_bytes d))
    ∙ departures_in-departures_bytes n ds bs later less)

-- none is read where none was sent
nothing-sent : (k : ℕ) (bs : List ℕ) → departures_in k (departures_bytes k [] ++ bs) ≡ no_departures k
unfolding departures_in departures_bytes departure_fits no_departures
nothing-sent zero bs = refl
nothing-sent (suc k) bs =
    ap₂ ◌∷◌
    (ap departure_in
    (take-first (departure_bytes none) (departures_bytes k []) bs departure_size (length-departure_bytes none))
    ∙ departure_in-departure_bytes none refl)
    (ap (departures_in k)
    (drop-first (departure_bytes none) (departures_bytes k []) bs departure_size (length-departure_bytes none))
    ∙ nothing-sent k bs)

-- the departures, and none at so many outputs more
pub departures_in-all : (n : ℕ) (ds : List (Option Cell)) (k : ℕ) (bs : List ℕ) → all? departure_fits ds ≡ true
    → n ≡ length ds + k → departures_in n (departures_bytes n ds ++ bs) ≡ ds ++ no_departures k
unfolding departures_in departures_bytes all?
departures_in-all n [] k bs h e = nothing-sent n bs ∙ ap no_departures (omega arith)
departures_in-all zero (d ∷ ds) k bs h e = absurd (omega arith)
departures_in-all (suc n) (d ∷ ds) k bs h e =
    ap₂ ◌∷◌
    (ap departure_in (take-first (departure_bytes d) (departures_bytes n ds) bs departure_size (length-departure_bytes d))
    ∙ departure_in-departure_bytes d (and_l (departure_fits d) (all? departure_fits ds) h))
    (ap (departures_in n)
    (drop-first (departure_bytes d) (departures_bytes n ds) bs departure_size (length-departure_bytes d))
    ∙ departures_in-all n ds k bs (and_r (departure_fits d) (all? departure_fits ds) h) (omega arith))

------------------------------------------------------------------------
-- numbers

pub length-words_bytes : (n : ℕ) (ns : List ℕ) → length (words_bytes n ns) ≡ 4 * n
unfolding words_bytes
length-words_bytes zero ns = refl
length-words_bytes (suc n) [] =
    length-append (bytes_of 4 0) (words_bytes n [])
    ∙ ap₂ ◌+◌ (length-bytes_of 4 0) (length-words_bytes n [])
    ∙ omega arith
length-words_bytes (suc n) (k ∷ ns) =
    length-append (bytes_of 4 k) (words_bytes n ns)
    ∙ ap₂ ◌+◌ (length-bytes_of 4 k) (length-words_bytes n ns)
    ∙ omega arith

pub words_in-words_bytes : (n : ℕ) (ns bs : List ℕ) → all? fits32 ns ≡ true → length ns ≤ n
    → words_in (length ns) (words_bytes n ns ++ bs) ≡ ns
unfolding words_in words_bytes all?
words_in-words_bytes n [] bs h room = refl
words_in-words_bytes zero (k ∷ ns) bs h room = absurd (omega arith)
words_in-words_bytes (suc n) (k ∷ ns) bs h room =
    ap₂ ◌∷◌
    (ap (λ l. word l 0) (append_assoc (bytes_of 4 k) (words_bytes n ns) bs)
    ∙ word-here k (words_bytes n ns ++ bs) (and_l (fits32 k) (all? fits32 ns) h))
    (ap (words_in (length ns)) (drop-first (bytes_of 4 k) (words_bytes n ns) bs 4 (length-bytes_of 4 k))
    ∙ words_in-words_bytes n ns bs (and_r (fits32 k) (all? fits32 ns) h) (omega arith))

-- one more
words_snoc : (n : ℕ) (ns : List ℕ) → words_bytes (suc n) ns ≡ words_bytes n ns ++ bytes_of 4 (get_or ns n 0)
unfolding words_bytes
words_snoc zero [] = append-nil (bytes_of 4 0)
words_snoc zero (k ∷ ns) = append-nil (bytes_of 4 k)
words_snoc (suc n) [] =
    ap (λ l. bytes_of 4 0 ++ l) (words_snoc n [])
    ∙ sym (append_assoc (bytes_of 4 0) (words_bytes n []) (bytes_of 4 0))
words_snoc (suc n) (k ∷ ns) =
    ap (λ l. bytes_of 4 k ++ l) (words_snoc n ns)
    ∙ sym (append_assoc (bytes_of 4 k) (words_bytes n ns) (bytes_of 4 (get_or ns n 0)))

pub words_bytes-more : (n : ℕ) (ns : List ℕ) → words_bytes (n + 1) ns ≡ words_bytes n ns ++ bytes_of 4 (get_or ns n 0)
words_bytes-more n ns = ap (λ k. words_bytes k ns) (add-one n) ∙ words_snoc n ns

-- they are the numbers at the places below, 0 past the end
pub words_bytes-same : (n : ℕ) (ns ms : List ℕ) → ((i : ℕ) → i < n → get_or ns i 0 ≡ get_or ms i 0)
    → words_bytes n ns ≡ words_bytes n ms
unfolding words_bytes
words_bytes-same zero ns ms h = refl
words_bytes-same (suc n) ns ms h =
    words_snoc n ns
    ∙ ap₂ ◌++◌ (words_bytes-same n ns ms (λ i less. h i (omega arith))) (ap (bytes_of 4) (h n (omega arith)))
    ∙ sym (words_snoc n ms)

------------------------------------------------------------------------
-- the answer

pub length-answer_bytes : (a : Answer) → length (answer_bytes a) ≡ answer_size
unfolding answer_bytes
length-answer_bytes a = simp (length-append, length-bytes_of, length-departures_bytes, length-words_bytes)

-- the departures, then the proposals of both phases, then their occupancies, then what follows
pub answer-parts : (a : Answer) (bs : List ℕ)
    → answer_bytes a ++ bs
    ≡ departures_bytes port_limit a.departures
    ++ (bytes_of 4 a.first
    ++ (bytes_of 4 a.second
    ++ (words_bytes port_limit a.occupancy_one ++ (words_bytes port_limit a.occupancy_two ++ bs))))
unfolding answer_bytes
answer-parts a bs = simp append_assoc

module _ (a : Answer) (bs : List ℕ) where
  pub answer_bytes-departures : length a.departures ≤ port_limit → all? departure_fits a.departures ≡ true
      → departures_in (length a.departures) (answer_bytes a ++ bs) ≡ a.departures
  answer_bytes-departures room h =
      ap (departures_in (length a.departures)) (answer-parts a bs)
      ∙ departures_in-departures_bytes port_limit a.departures _ h room

  -- all sixteen: none past those that the answer has
  pub answer_bytes-outputs : length a.departures ≤ port_limit → all? departure_fits a.departures ≡ true
      → departures_in port_limit (answer_bytes a ++ bs)
      ≡ a.departures ++ no_departures (port_limit - length a.departures)
  answer_bytes-outputs room h =
      ap (departures_in port_limit) (answer-parts a bs)
      ∙ departures_in-all port_limit a.departures (port_limit - length a.departures) _ h (omega arith)

  -- the proposals of the first phase and of the second
  pub answer_bytes-first : fits32 a.first ≡ true → word (answer_bytes a ++ bs) departures_size ≡ a.first
  answer_bytes-first h =
      ap (λ l. word l departures_size) (answer-parts a bs)
      ∙ word-past (departures_bytes port_limit a.departures) _ departures_size 0 (length-departures_bytes port_limit a.departures)
      ∙ word-here a.first _ h

  pub answer_bytes-second : fits32 a.second ≡ true → word (answer_bytes a ++ bs) (departures_size + 4) ≡ a.second
  answer_bytes-second h =
      ap (λ l. word l (departures_size + 4)) (answer-parts a bs)
      ∙ word-past (departures_bytes port_limit a.departures) _ departures_size 4 (length-departures_bytes port_limit a.departures)
      ∙ word-past (bytes_of 4 a.first) _ 4 0 (length-bytes_of 4 a.first)
      ∙ word-here a.second _ h

  -- the occupancies of the first phase and what follows, and those of the second
  from_first : drop first_occupancy (answer_bytes a ++ bs)
      ≡ words_bytes port_limit a.occupancy_one ++ (words_bytes port_limit a.occupancy_two ++ bs)
  from_first =
      let ds : List ℕ = departures_bytes port_limit a.departures in
      let ps : List ℕ = bytes_of 4 a.first ++ bytes_of 4 a.second in
      let rest : List ℕ = words_bytes port_limit a.occupancy_one ++ (words_bytes port_limit a.occupancy_two ++ bs) in
      let parts : answer_bytes a ++ bs ≡ (ds ++ ps) ++ rest = answer-parts a bs ∙ simp append_assoc in
      let size : length (ds ++ ps) ≡ first_occupancy = simp (length-append, length-bytes_of, length-departures_bytes) in
      ap (drop first_occupancy) parts ∙ drop_at (ds ++ ps) rest first_occupancy size

  from_second : drop second_occupancy (answer_bytes a ++ bs) ≡ words_bytes port_limit a.occupancy_two ++ bs
  from_second =
      sym (drop-drop occupancies_size first_occupancy (answer_bytes a ++ bs))
      ∙ ap (drop occupancies_size) from_first
      ∙ drop_at (words_bytes port_limit a.occupancy_one) _ occupancies_size (length-words_bytes port_limit a.occupancy_one)

  pub answer_bytes-occupancy_one : length a.occupancy_one ≤ port_limit → all? fits32 a.occupancy_one ≡ true
      → words_in (length a.occupancy_one) (drop first_occupancy (answer_bytes a ++ bs)) ≡ a.occupancy_one
  answer_bytes-occupancy_one room h =
      ap (words_in (length a.occupancy_one)) from_first ∙ words_in-words_bytes port_limit a.occupancy_one _ h room

  pub answer_bytes-occupancy_two : length a.occupancy_two ≤ port_limit → all? fits32 a.occupancy_two ≡ true
      → words_in (length a.occupancy_two) (drop second_occupancy (answer_bytes a ++ bs)) ≡ a.occupancy_two
  answer_bytes-occupancy_two room h =
      ap (words_in (length a.occupancy_two)) from_second ∙ words_in-words_bytes port_limit a.occupancy_two bs h room

  pub answer_in-answer_bytes : length a.departures ≤ port_limit → all? departure_fits a.departures ≡ true
      → fits32 a.first ≡ true → fits32 a.second ≡ true
      → length a.occupancy_one ≡ length a.departures → all? fits32 a.occupancy_one ≡ true
      → length a.occupancy_two ≡ length a.departures → all? fits32 a.occupancy_two ≡ true
      → answer_in (length a.departures) (answer_bytes a ++ bs) ≡ a
  unfolding answer_in
  answer_in-answer_bytes room h one two size_one held_one size_two held_two =
      let firsts : words_in (length a.departures) (drop first_occupancy (answer_bytes a ++ bs)) ≡ a.occupancy_one =
      ap (λ n. words_in n (drop first_occupancy (answer_bytes a ++ bs))) (sym size_one)
      ∙ answer_bytes-occupancy_one (omega arith) held_one in
      let seconds : words_in (length a.departures) (drop second_occupancy (answer_bytes a ++ bs)) ≡ a.occupancy_two =
      ap (λ n. words_in n (drop second_occupancy (answer_bytes a ++ bs))) (sym size_two)
      ∙ answer_bytes-occupancy_two (omega arith) held_two in
      λ k.
      record {
        departures = answer_bytes-departures room h k;
        first = answer_bytes-first one k;
        second = answer_bytes-second two k;
        occupancy_one = firsts k;
        occupancy_two = seconds k;
      }
