-- Scope 7.1: a line is a key, `=`, a decimal number without leading zeros, at most 4,294,967,295, and
-- a line feed. A text is its bytes.
--     line k n       the line with key k and number n
--     read_line k t   the number of the line with key k at the start of t, and the text after it; none if t does not
--                    begin with such a line
use Rattle.std.specs.Prelude.{ℕ, zero, suc, ◌+◌, ◌*◌, ◌-◌, ◌/◌, ◌%◌, Bool, true, false, cond, not, ◌&&◌, List, [], ◌∷◌, ◌++◌, ltb, leb, eqb}
use Rattle.std.proofs.Math.Option.{Option, none, some, bind, map}
use Rattle.laws.specs.Lists.{all?}
use Rattle.cell.specs.Limits.{fits32}
use Rattle.trace.specs.Ascii.{ascii}
use Rattle.trace.specs.declared.Key.{Key}
use Rattle.trace.specs.declared.Key.TheVariants.{Ports, First, Slot, In, Out, Flow, Rank, Tag, End, Refused, Line}

unfoldable pub key_name : Key → List ℕ
key_name Ports = ascii "ports"
key_name First = ascii "first"
key_name Slot = ascii "slot"
key_name In = ascii "in"
key_name Out = ascii "out"
key_name Flow = ascii "flow"
key_name Rank = ascii "rank"
key_name Tag = ascii "tag"
key_name End = ascii "end"
key_name Refused = ascii "refused"
key_name Line = ascii "line"

-- the key and `=`
unfoldable pub key_text : Key → List ℕ
key_text k = key_name k ++ (61 ∷ [])

-- the decimal digits of n, as bytes, none in front that could be left out; steps is at least n
unfoldable pub digits_within : ℕ → ℕ → List ℕ
digits_within zero n = (48 + n) ∷ []
digits_within (suc steps) n =
    elim (ltb n 10) [ true ↦ (48 + n) ∷ [] | false ↦ digits_within steps (n / 10) ++ ((48 + n % 10) ∷ []) ]

unfoldable pub decimal : ℕ → List ℕ
decimal n = digits_within n n

unfoldable pub line : Key → ℕ → List ℕ
line k n = key_text k ++ (decimal n ++ (10 ∷ []))

-- what follows a prefix of a text; none if the text does not begin with it
unfoldable pub after : List ℕ → List ℕ → Option (List ℕ)
after [] t = some t
after (b ∷ p) [] = none
after (b ∷ p) (c ∷ t) = elim (eqb b c) [ true ↦ after p t | false ↦ none ]

-- a text up to its first line feed, and what follows that; none if it has no line feed
unfoldable pub up_to_line_feed : List ℕ → Option (List ℕ × List ℕ)
up_to_line_feed [] = none
up_to_line_feed (b ∷ t) =
    elim (eqb b 10) [ true ↦ some ([], t) | false ↦ map (λ s. (b ∷ s.0, s.1)) (up_to_line_feed t) ]

unfoldable pub is_digit : ℕ → Bool
is_digit b = leb 48 b && leb b 57

-- the number whose decimal digits, behind those of n, are these
unfoldable pub value_after : ℕ → List ℕ → ℕ
value_after n [] = n
value_after n (d ∷ ds) = value_after (10 * n + (d - 48)) ds

-- there are digits, and the first is 0 only where it is the only one
unfoldable pub no_leading_zero : List ℕ → Bool
no_leading_zero [] = false
no_leading_zero (d ∷ []) = true
no_leading_zero (d ∷ e ∷ ds) = not (eqb d 48)

unfoldable pub read_number : List ℕ → Option ℕ
read_number ds = cond (no_leading_zero ds && all? is_digit ds && fits32 (value_after 0 ds)) (some (value_after 0 ds)) none

unfoldable pub read_line : Key → List ℕ → Option (ℕ × List ℕ)
read_line k t =
    bind (after (key_text k) t) (λ body. bind (up_to_line_feed body) (λ s. map (λ n. (n, s.1)) (read_number s.0)))
