-- Names, letter by letter: a name's number from its last letter on, and a number's letters from the first on.
use Prim.Native.Nat.{ℕ, zero, suc, ◌+◌, ◌*◌, ◌^◌, ◌/◌, ◌%◌, ◌≤◌, ◌<◌}
use mathlib.Core.Bool.{Bool, true, false, cond, ◌&&◌, and_assoc}
use mathlib.Core.Path.{◌≡◌, refl, sym, ◌∙◌, ap}
use mathlib.Core.List.{List, [], ◌∷◌, ◌++◌}
use Rattle.std.specs.List.{push}
use Rattle.std.proofs.Common.{append_assoc, length-append}
use Rattle.std.proofs.lemmas.List.{append-nil}
use native.Mathlib.Nat.{pow-zero, pow-suc, pow-le-pow_right}
use native.Mathlib.Omega.{arith}
use borrow.Author.Tests.{le-leb, lt-leb, eqb-true, eq-eqb, ne_eqb}
use lib.Dec.{leb, eqb}
use lib.ListN.{length}
use Rattle.laws.specs.Lists.{all?}
use Rattle.laws.proofs.Lists.{all?-append}
use Rattle.laws.proofs.Tests.{same, clash, by-fail, and_i, and_l, and_r, and-false-l, cond-pass, cond-fail}
use Rattle.model.specs.Cues.{name_limit, is_letter, well_named}
use Rattle.layout.specs.Stores.{name_of}
use Rattle.layout.specs.Number.{bytes_of, number_of}
use Rattle.layout.proofs.Number.{is_byte, bytes?, number_of-below, number_of-bytes_of, length-bytes_of}
use Rattle.cue_store.specs.Names.{name_number, is_name}
use Rattle.cue_store.proofs.Names.{number-none, number-name, number-bytes, is_name-i, is_name-well, is_name-bytes}

------------------------------------------------------------------------
-- the number of a name

-- no name: too long, or a byte of it is no letter
pub number-long : (name : List ℕ) → name_limit < length name → name_number name ≡ 0
unfolding well_named
number-long name long =
    number-none name
    (by-fail (well_named name) (λ h. clash (search (and_l, and_r)) (lt-leb (length name) name_limit long)))

-- letters alone, and not too many of them
number-letters : (name : List ℕ) → length name ≤ name_limit → all? is_letter name ≡ true → name_number name ≡ number_of name
unfolding name_number well_named number_of
number-letters [] short h = refl
number-letters (b ∷ bs) short h =
    number-name (b ∷ bs)
    (and_i (leb 1 (suc (length bs))) _ (le-leb 1 (suc (length bs)) (omega arith))
    (and_i (leb (suc (length bs)) name_limit) _ (le-leb (suc (length bs)) name_limit short) h))

-- the bytes behind those that are left are letters, and this is their number
pub record Behind (name left : List ℕ) (number : ℕ) : Type 0 where
  pub behind : List ℕ
  pub split : name ≡ left ++ behind
  pub letters : all? is_letter behind ≡ true
  pub value : number ≡ number_of behind

pub behind-start : {name left : List ℕ} → left ≡ name → Behind name left 0
unfolding all? number_of
behind-start {name} e = record { behind = []; split = rw e (sym (append-nil name)); letters = refl; value = refl }

-- all is looked at
pub behind-done : {name left : List ℕ} {number : ℕ} → length left ≡ 0 → length name ≤ name_limit → Behind name left number
    → number ≡ name_number name
behind-done {left = []} e short p =
    p.value
    ∙ ap number_of (sym p.split)
    ∙ sym (number-letters _ short (ap (all? is_letter) p.split ∙ p.letters))
behind-done {left = b ∷ bs} e short p = absurd (omega (arith, e))

-- one more of them
module _ {name left : List ℕ} {number : ℕ} (front : List ℕ) (b : ℕ) (e : left ≡ push front b) (p : Behind name left number) where
  split : name ≡ front ++ (b ∷ p.behind)
  split = p.split ∙ ap (λ l. l ++ p.behind) e ∙ append_assoc front (b ∷ []) p.behind

  pub behind-next : is_letter b ≡ true → Behind name front (256 * number + b)
  unfolding all? number_of
  behind-next letter =
      record {
        behind = b ∷ p.behind;
        split = split;
        letters = and_i (is_letter b) (all? is_letter p.behind) letter p.letters;
        value = omega (arith, p.value);
      }

  -- a byte that is no letter
  pub behind-other : is_letter b ≡ false → name_number name ≡ 0
  unfolding well_named all?
  behind-other other =
      number-none name
      (by-fail (well_named name)
      (λ h.
      let letters : all? is_letter name ≡ true = search and_r in
      let last = and_r (all? is_letter front) _
      (sym (all?-append is_letter front (b ∷ p.behind)) ∙ ap (all? is_letter) (sym split) ∙ letters) in
      clash (and_l (is_letter b) (all? is_letter p.behind) last) other))

  -- a byte more has room in 64 bits
  pub behind-room : bytes? name ≡ true → length name ≤ name_limit → number < 256 ^ 7
  unfolding bytes? all?
  behind-room bytes short =
      let sizes = ap length split ∙ length-append front (b ∷ p.behind) in
      let all = sym (all?-append is_byte front (b ∷ p.behind)) ∙ ap bytes? (sym split) ∙ bytes in
      let last : bytes? p.behind ≡ true = and_r (is_byte b) _ (and_r (all? is_byte front) _ all) in
      omega (
        arith,
        p.value,
        number_of-below (length p.behind) p.behind last refl,
        pow-le-pow_right {n = 256} (omega arith) {i = length p.behind} {j = 7} (omega (arith, sizes)),
      )

------------------------------------------------------------------------
-- whether a number is that of a name

-- the bytes of a number before the first zero are letters, and they are all of it
unfoldable pub spelt : ℕ → ℕ → Bool
spelt w n = let name = name_of (bytes_of w n) in all? is_letter name && eqb (number_of name) n

length-name_of : (bs : List ℕ) → length (name_of bs) ≤ length bs
unfolding name_of
length-name_of [] = omega arith
length-name_of (b ∷ bs) = go (eqb b 0) (length-name_of bs)
  where
    go : (t : Bool) → length (name_of bs) ≤ length bs → length (cond t [] (b ∷ name_of bs)) ≤ suc (length bs)
    go true h = omega arith
    go false h = omega arith

some-letters : (name : List ℕ) → 0 < number_of name → 0 < length name
unfolding number_of
some-letters [] h = h
some-letters (b ∷ bs) h = omega arith

pub is_name-zero : is_name 0 ≡ false
unfolding is_name bytes_of name_of well_named
is_name-zero = refl

pub is_name-spelt : (n : ℕ) → 0 < n → n < 256 ^ 8 → is_name n ≡ spelt 8 n
unfolding spelt well_named
is_name-spelt n some room = same (is_name n) (spelt 8 n) into back
  where
    name : List ℕ
    name = name_of (bytes_of 8 n)

    into : is_name n ≡ true → spelt 8 n ≡ true
    into h =
        let well = is_name-well n h in
        and_i (all? is_letter name) (eqb (number_of name) n) (search and_r)
        (eq-eqb (number_of name) n
        (sym (number-bytes name) ∙ ap number_of (is_name-bytes n h) ∙ number_of-bytes_of 8 n room))

    back : spelt 8 n ≡ true → is_name n ≡ true
    back h =
        let letters : all? is_letter name ≡ true = and_l (all? is_letter name) (eqb (number_of name) n) h in
        let own : number_of name ≡ n = eqb-true (number_of name) n (and_r (all? is_letter name) _ h) in
        let most : length name ≤ 8 = omega (arith, length-name_of (bytes_of 8 n), length-bytes_of 8 n) in
        let least : 0 < length name = some-letters name (omega arith) in
        rw own at
        (is_name-i name
        (and_i _ _ (le-leb 1 (length name) least) (and_i _ _ (le-leb (length name) 8 most) letters)))

pub spelt-end : (w n : ℕ) → n ≤ 0 → spelt w n ≡ true
unfolding spelt bytes_of name_of number_of all?
spelt-end zero n none = eq-eqb 0 n (omega arith)
spelt-end (suc w) n none = let e : n ≡ 0 = omega arith in rw e

-- the first byte and the others
spelt-bytes : (w n : ℕ) → 0 < n → spelt (suc w) n ≡ is_letter (n % 256) && spelt w (n / 256)
unfolding spelt bytes_of name_of number_of all? is_letter
spelt-bytes w n some = go (eqb (n % 256) 0) refl
  where
    rest : List ℕ
    rest = name_of (bytes_of w (n / 256))

    go : (b : Bool) → eqb (n % 256) 0 ≡ b → spelt (suc w) n ≡ is_letter (n % 256) && spelt w (n / 256)
    go true e =
        ap (λ name. all? is_letter name && eqb (number_of name) n) (cond-pass (eqb (n % 256) 0) [] (n % 256 ∷ rest) e)
        ∙ ne_eqb 0 n (omega arith)
        ∙ ap (λ b. is_letter b && spelt w (n / 256)) (sym (eqb-true (n % 256) 0 e))
    go false e =
        ap (λ name. all? is_letter name && eqb (number_of name) n) (cond-fail (eqb (n % 256) 0) [] (n % 256 ∷ rest) e)
        ∙ and_assoc (is_letter (n % 256)) (all? is_letter rest) (eqb (n % 256 + 256 * number_of rest) n)
        ∙ ap (λ b. is_letter (n % 256) && (all? is_letter rest && b)) shifted
      where
        shifted : eqb (n % 256 + 256 * number_of rest) n ≡ eqb (number_of rest) (n / 256)
        shifted =
            same (eqb (n % 256 + 256 * number_of rest) n) (eqb (number_of rest) (n / 256))
            (λ h. eq-eqb (number_of rest) (n / 256) (omega (arith, eqb-true (n % 256 + 256 * number_of rest) n h)))
            (λ h. eq-eqb (n % 256 + 256 * number_of rest) n (omega (arith, eqb-true (number_of rest) (n / 256) h)))

pub spelt-stop : (w n : ℕ) → 0 < n → n < 256 ^ w → is_letter (n % 256) ≡ false → spelt w n ≡ false
spelt-stop zero n some room other = absurd (omega (arith, pow-zero 256))
spelt-stop (suc w) n some room other = spelt-bytes w n some ∙ and-false-l (is_letter (n % 256)) (spelt w (n / 256)) other

pub spelt-next : (w n : ℕ) → 0 < n → n < 256 ^ w → is_letter (n % 256) ≡ true
    → (v : ℕ) × (n / 256 < 256 ^ v) × (spelt w n ≡ spelt v (n / 256))
spelt-next zero n some room letter = absurd (omega (arith, pow-zero 256))
spelt-next (suc w) n some room letter =
    (w, omega (arith, pow-suc 256 w), spelt-bytes w n some ∙ ap (λ b. b && spelt w (n / 256)) letter)
