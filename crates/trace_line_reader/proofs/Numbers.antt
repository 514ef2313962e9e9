-- A number as the code reads it, digit by digit:
--     continued                                         what is read where the digits of a number stand before a text
--     continued-nil, -line-feed, -stray, -zero, -digit  the same, by the next byte
--     continued-over                                    the same, if the number is too large
--     read_body-nil, -stray, -first                      what stands behind a key, by its first byte
use Prim.Native.Nat.{ℕ, ◌+◌, ◌*◌, ◌-◌, ◌≤◌, ◌<◌}
use native.Mathlib.Numerals.{add-one}
use native.Mathlib.Omega.{arith}
use mathlib.Core.Bool.{Bool, true, false, ◌&&◌}
use mathlib.Core.List.{List, [], ◌∷◌, ◌++◌, append_assoc}
use mathlib.Core.Logic.{◌≢◌}
use mathlib.Core.Option.{Option, none, some, bind, map, none-ne-some, some-injective}
use mathlib.Core.Path.{◌≡◌, refl, sym, ap, ◌∙◌}
use borrow.Author.Tests.{eqb-true, eqb-false, lt-leb, ne_eqb}
use lib.Dec.{eqb}
use lib.ListN.{length, get_or, drop}
use lib.Seq.{drop-cons}
use Rattle.std.specs.Char.{is_ascii_digit}
use Rattle.laws.specs.Lists.{all?}
use Rattle.laws.proofs.Tests.{and-false-l, and_false_r}
use Rattle.laws.proofs.Lists.{all?-nil, all?-cons, all?-append}
use Rattle.cell.specs.Limits.{fits32, clock_end}
use Rattle.trace.specs.Line.{decimal, up_to_line_feed, is_digit, value_after, no_leading_zero, read_number}
use Rattle.trace.proofs.Tests.{all?-head, all?-tail, fits32-i}
use Rattle.trace.proofs.Line.{is_digit-e, decimal-small, decimal-large, all?-decimal, value-decimal}
use Rattle.trace.proofs.Line.{read_number-decimal, up_to_line_feed-digits}
use Rattle.trace_line_reader.specs.Code.{read_body}

-- the library's test of a digit is the grammar's
pub is_digit-ascii : (b : ℕ) → is_ascii_digit b ≡ is_digit b
unfolding is_digit
is_digit-ascii b = refl

-- a text up to its line feed, behind digits

up_to_line_feed-later : (b : ℕ) (t : List ℕ) → b ≢ 10
    → up_to_line_feed (b ∷ t) ≡ map (λ s. (b ∷ s.0, s.1)) (up_to_line_feed t)
unfolding up_to_line_feed
up_to_line_feed-later b t h = rw (ne_eqb b 10 h, up_to_line_feed)

up_to_line_feed-none : (ds t : List ℕ) → all? is_digit ds ≡ true → up_to_line_feed t ≡ none → up_to_line_feed (ds ++ t) ≡ none
up_to_line_feed-none [] t h k = k
up_to_line_feed-none (d ∷ ds) t h k =
    let b : (48 ≤ d) × (d ≤ 57) = is_digit-e d (all?-head is_digit d ds h) in
    let z : d ≢ 10 = omega arith in
    up_to_line_feed-later d (ds ++ t) z ∙ rw (up_to_line_feed-none ds t (all?-tail is_digit d ds h) k)

up_to_line_feed-some : (ds t : List ℕ) (s : List ℕ × List ℕ) → all? is_digit ds ≡ true → up_to_line_feed t ≡ some s
    → up_to_line_feed (ds ++ t) ≡ some (ds ++ s.0, s.1)
up_to_line_feed-some [] t s h k = k
up_to_line_feed-some (d ∷ ds) t s h k =
    let b : (48 ≤ d) × (d ≤ 57) = is_digit-e d (all?-head is_digit d ds h) in
    let z : d ≢ 10 = omega arith in
    up_to_line_feed-later d (ds ++ t) z ∙ rw (up_to_line_feed-some ds t s (all?-tail is_digit d ds h) k)

-- the first byte of a line
up_to_line_feed-first : (b : ℕ) (t : List ℕ) (s : List ℕ × List ℕ) → b ≢ 10 → up_to_line_feed (b ∷ t) ≡ some s
    → (l : List ℕ) × (s.0 ≡ b ∷ l)
up_to_line_feed-first b t s h e = go (up_to_line_feed t) refl
  where
    go : (o : Option (List ℕ × List ℕ)) → up_to_line_feed t ≡ o → (l : List ℕ) × (s.0 ≡ b ∷ l)
    go none f =
        let g : none ≡ some s = sym (up_to_line_feed-later b t h ∙ rw f) ∙ e in
        absurd (none-ne-some s g)
    go (some r) f =
        let g : some (b ∷ r.0, r.1) ≡ some s = sym (up_to_line_feed-later b t h ∙ rw f) ∙ e in
        (r.0, sym (ap (λ x. x.0) (some-injective _ s g)))

read_body-none : (t : List ℕ) → up_to_line_feed t ≡ none → read_body t ≡ none
unfolding read_body bind
read_body-none t h = rw (h, bind)

read_body-some : (t : List ℕ) (s : List ℕ × List ℕ) → up_to_line_feed t ≡ some s
    → read_body t ≡ map (λ n. (n, s.1)) (read_number s.0)
unfolding read_body bind
read_body-some t s h = rw (h, bind)

-- digits before a text: nothing is read where no line feed follows, or where they and what stands before it are no number
read_body-digits : (ds t : List ℕ) → all? is_digit ds ≡ true
    → ((s : List ℕ × List ℕ) → up_to_line_feed t ≡ some s → read_number (ds ++ s.0) ≡ none) → read_body (ds ++ t) ≡ none
read_body-digits ds t h never = go (up_to_line_feed t) refl
  where
    go : (o : Option (List ℕ × List ℕ)) → up_to_line_feed t ≡ o → read_body (ds ++ t) ≡ none
    go none e = read_body-none (ds ++ t) (up_to_line_feed-none ds t h e)
    go (some s) e = read_body-some (ds ++ t) (ds ++ s.0, s.1) (up_to_line_feed-some ds t s h e) ∙ rw (never s e)

-- the same, where a byte that ends no line follows
read_body-before : (ds : List ℕ) (b : ℕ) (t : List ℕ) → all? is_digit ds ≡ true → b ≢ 10
    → ((l : List ℕ) → read_number (ds ++ (b ∷ l)) ≡ none) → read_body (ds ++ (b ∷ t)) ≡ none
read_body-before ds b t h i never = read_body-digits ds (b ∷ t) h λ s e.
    let (l, f) = up_to_line_feed-first b t s i e in
    rw f (never l)

-- what is no number

module _ (ds : List ℕ) where
  read_number-leading : no_leading_zero ds ≡ false → read_number ds ≡ none
  unfolding read_number
  read_number-leading h = rw h

  read_number-letters : all? is_digit ds ≡ false → read_number ds ≡ none
  unfolding read_number
  read_number-letters h = rw (and_false_r (no_leading_zero ds) (all? is_digit ds) h)

  read_number-large : fits32 (value_after 0 ds) ≡ false → read_number ds ≡ none
  unfolding read_number
  read_number-large h = rw (and_false_r (no_leading_zero ds && all? is_digit ds) (fits32 (value_after 0 ds)) h)

read_number-stray : (ds : List ℕ) (b : ℕ) (s : List ℕ) → is_digit b ≡ false → read_number (ds ++ (b ∷ s)) ≡ none
read_number-stray ds b s h =
    let tail : all? is_digit (b ∷ s) ≡ false = all?-cons is_digit b s ∙ and-false-l (is_digit b) (all? is_digit s) h in
    read_number-letters (ds ++ (b ∷ s))
    (all?-append is_digit ds (b ∷ s) ∙ and_false_r (all? is_digit ds) (all? is_digit (b ∷ s)) tail)

read_number-zero : (b : ℕ) (s : List ℕ) → read_number (48 ∷ b ∷ s) ≡ none
unfolding no_leading_zero
read_number-zero b s = read_number-leading (48 ∷ b ∷ s) refl

value_after-append : (n : ℕ) (ds es : List ℕ) → value_after n (ds ++ es) ≡ value_after (value_after n ds) es
unfolding value_after
value_after-append n [] es = refl
value_after-append n (d ∷ ds) es = value_after-append (10 * n + (d - 48)) ds es

value_after-above : (n : ℕ) (ds : List ℕ) → n ≤ value_after n ds
unfolding value_after
value_after-above n [] = omega arith
value_after-above n (d ∷ ds) = omega (arith, value_after-above (10 * n + (d - 48)) ds)

read_number-over : (n : ℕ) (s : List ℕ) → clock_end < n → read_number (decimal n ++ s) ≡ none
unfolding fits32
read_number-over n s h =
    let v : value_after 0 (decimal n ++ s) ≡ value_after n s =
    value_after-append 0 (decimal n) s ∙ ap (λ x. value_after x s) (value-decimal n) in
    let l : clock_end < value_after 0 (decimal n ++ s) = omega (arith, value_after-above n s) in
    read_number-large (decimal n ++ s) (lt-leb _ clock_end l)

-- What is read where the decimal digits of n stand before a text.
abbrev pub continued : ℕ → List ℕ → Option (ℕ × List ℕ)
continued n t = read_body (decimal n ++ t)

module _ (n : ℕ) where
  pub continued-nil : continued n [] ≡ none
  unfolding up_to_line_feed
  continued-nil = read_body-none _ (up_to_line_feed-none (decimal n) [] (all?-decimal n) refl)

  pub continued-over : (t : List ℕ) → clock_end < n → continued n t ≡ none
  continued-over t h = read_body-digits (decimal n) t (all?-decimal n) λ s e. read_number-over n s.0 h

  module _ (b : ℕ) (t : List ℕ) where
    pub continued-line-feed : n ≤ clock_end → b ≡ 10 → continued n (b ∷ t) ≡ some (n, t)
    continued-line-feed h e =
        rw e
        (read_body-some _ _ (up_to_line_feed-digits (decimal n) t (all?-decimal n)) ∙ rw (read_number-decimal n (fits32-i n h)))

    pub continued-stray : b ≢ 10 → is_digit b ≡ false → continued n (b ∷ t) ≡ none
    continued-stray h d = read_body-before (decimal n) b t (all?-decimal n) h λ l. read_number-stray (decimal n) b l d

    pub continued-zero : n ≡ 0 → is_digit b ≡ true → continued n (b ∷ t) ≡ none
    unfolding all? is_digit
    continued-zero z d =
        let i : (48 ≤ b) × (b ≤ 57) = is_digit-e b d in
        let f : decimal n ≡ 48 ∷ [] = ap decimal z ∙ decimal-small 0 (omega arith) in
        rw f (read_body-before (48 ∷ []) b t refl (omega arith) (read_number-zero b))

    pub continued-digit : n ≢ 0 → is_digit b ≡ true → continued n (b ∷ t) ≡ continued (10 * n + (b - 48)) t
    continued-digit z d =
        let p : 0 < n = omega arith in
        rw (decimal-large n b p d) (ap read_body (sym (append_assoc (decimal n) (b ∷ []) t)))

-- what stands behind a key

pub read_body-nil : (t : List ℕ) → length t ≡ 0 → read_body t ≡ none
unfolding up_to_line_feed
read_body-nil [] h = read_body-none [] refl
read_body-nil (b ∷ t) h = absurd (omega arith)

read_body-line-feed : (t : List ℕ) → read_body (10 ∷ t) ≡ none
unfolding up_to_line_feed no_leading_zero
read_body-line-feed t = read_body-some (10 ∷ t) ([], t) refl ∙ rw (read_number-leading [] refl)

module _ (b : ℕ) (t : List ℕ) where
  pub read_body-stray : is_digit b ≡ false → read_body (b ∷ t) ≡ none
  read_body-stray d = go (eqb b 10) refl
    where
      go : (x : Bool) → eqb b 10 ≡ x → read_body (b ∷ t) ≡ none
      go true e =
          let i : b ≡ 10 = eqb-true b 10 e in
          rw i (read_body-line-feed t)
      go false e = read_body-before [] b t (all?-nil is_digit) (eqb-false b 10 e) λ l. read_number-stray [] b l d

  pub read_body-first : is_digit b ≡ true → read_body (b ∷ t) ≡ continued (b - 48) t
  read_body-first d =
      let i : (48 ≤ b) × (b ≤ 57) = is_digit-e b d in
      let m : 48 + (b - 48) ≡ b = omega arith in
      let f : decimal (b - 48) ≡ b ∷ [] = decimal-small (b - 48) (omega arith) ∙ rw m in
      rw f

-- a text from a place, by the byte there
pub drop_here : (t : List ℕ) (i : ℕ) → i < length t → drop i t ≡ get_or t i 0 ∷ drop (i + 1) t
drop_here t i h = rw (add-one i, drop-cons t i 0 h)
