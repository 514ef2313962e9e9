-- A line is read back, and only a line is read:
--     value-decimal, decimal-value           the digits of a number have its value, and no others do
--     read_number-decimal, read_number-exact   what is read as a number is its decimal digits
--     after-append, after-exact              what follows a prefix
--     up_to_line_feed-digits, -exact            what stands before the first line feed
--     read_line-line, read_line-exact          what is read as a line is the line
use Prim.Native.Nat.{ℕ, zero, suc, ◌+◌, ◌*◌, ◌-◌, ◌/◌, ◌%◌, ◌≤◌, ◌<◌}
use native.Mathlib.Omega.{arith}
use mathlib.Core.Bool.{Bool, true, false, cond, ◌&&◌}
use mathlib.Core.List.{List, [], ◌∷◌, ◌++◌, append_assoc, append-nil}
use mathlib.Core.Option.{Option, none, some, bind, map, none-ne-some, some-injective}
use mathlib.Core.Path.{◌≡◌, refl, sym, ap, ◌∙◌}
use mathlib.Core.Logic.{◌≢◌}
use borrow.Author.Tests.{ltb-true, ltb-false, leb-true, eqb-true, eqb-false, not-true}
use borrow.Author.Tests.{lt-ltb, le-ltb, le-leb, eq-eqb, ne_eqb}
use lib.Dec.{ltb, leb, eqb}
use lib.ListN.{length, length-append}
use Rattle.laws.specs.Lists.{all?}
use Rattle.laws.proofs.Tests.{and_i, and_l, and_r}
use Rattle.laws.proofs.Lists.{all?-nil, all?-append}
use Rattle.cell.specs.Limits.{fits32}
use Rattle.trace.specs.declared.Key.{Key}
use Rattle.trace.specs.declared.Key.TheVariants.{Slot, In, End}
use Rattle.trace.specs.Ascii.{ascii}
use Rattle.trace.specs.Line.{key_name, key_text, digits_within, decimal, line, after, up_to_line_feed}
use Rattle.trace.specs.Line.{is_digit, value_after, no_leading_zero, read_number, read_line}
use Rattle.trace.proofs.Tests.{all?-both, all?-head, all?-tail}

-- an Option made in two steps is some where both are
module _ {A B P : Type 0} where
  bind-some : (o : Option A) (f : A → Option B) {b : B} → bind o f ≡ some b
      → ((a : A) → o ≡ some a → f a ≡ some b → P) → P
  unfolding bind
  bind-some none f {b} h k = absurd (none-ne-some b h)
  bind-some (some a) f h k = k a refl h

  map-some : (f : A → B) (o : Option A) {b : B} → map f o ≡ some b → ((a : A) → o ≡ some a → f a ≡ b → P) → P
  map-some f none {b} h k = absurd (none-ne-some b h)
  map-some f (some a) {b} h k = k a refl (some-injective (f a) b h)

-- decimal digits

pub is_digit-i : (b : ℕ) → 48 ≤ b → b ≤ 57 → is_digit b ≡ true
unfolding is_digit
is_digit-i b h k = and_i _ _ (le-leb _ _ h) (le-leb _ _ k)

pub is_digit-e : (b : ℕ) → is_digit b ≡ true → (48 ≤ b) × (b ≤ 57)
unfolding is_digit
is_digit-e b h = (leb-true _ _ (and_l (leb 48 b) (leb b 57) h), leb-true _ _ (and_r (leb 48 b) (leb b 57) h))

-- a number below 10 is one digit, any other has one more than its tenth part
digits_within-small : (k n : ℕ) → n < 10 → digits_within k n ≡ (48 + n) ∷ []
unfolding digits_within
digits_within-small zero n h = refl
digits_within-small (suc k) n h = rw (lt-ltb n 10 h, digits_within)

digits_within-large : (k n : ℕ) → 10 ≤ n → digits_within (suc k) n ≡ digits_within k (n / 10) ++ ((48 + n % 10) ∷ [])
unfolding digits_within
digits_within-large k n h = rw (le-ltb n 10 h, digits_within)

data Size (n : ℕ) : Type 0 where
  small : n < 10 → Size n
  large : 10 ≤ n → Size n

size : (n : ℕ) → Size n
size n = go (ltb n 10) refl
  where
    go : (b : Bool) → ltb n 10 ≡ b → Size n
    go true e = small (ltb-true n 10 e)
    go false e = large (ltb-false n 10 e)

-- the digits of a number do not depend on the steps allowed for them
digits_within-same : (j k n : ℕ) → n ≤ j → n ≤ k → digits_within j n ≡ digits_within k n
digits_within-same zero k n h i =
    let s : n < 10 = omega arith in
    digits_within-small zero n s ∙ sym (digits_within-small k n s)
digits_within-same (suc j) zero n h i =
    let s : n < 10 = omega arith in
    digits_within-small (suc j) n s ∙ sym (digits_within-small zero n s)
digits_within-same (suc j) (suc k) n h i = go (size n) (digits_within-same j k (n / 10))
  where
    go : Size n → (n / 10 ≤ j → n / 10 ≤ k → digits_within j (n / 10) ≡ digits_within k (n / 10))
        → digits_within (suc j) n ≡ digits_within (suc k) n
    go (small s) same = digits_within-small (suc j) n s ∙ sym (digits_within-small (suc k) n s)
    go (large s) same =
        let a : n / 10 ≤ j = omega arith in
        let b : n / 10 ≤ k = omega arith in
        digits_within-large j n s ∙ ap (λ l. l ++ ((48 + n % 10) ∷ [])) (same a b) ∙ sym (digits_within-large k n s)

pub decimal-small : (n : ℕ) → n < 10 → decimal n ≡ (48 + n) ∷ []
unfolding decimal
decimal-small n h = digits_within-small n n h

-- one more digit
pub decimal-large : (n d : ℕ) → 0 < n → is_digit d ≡ true → decimal (10 * n + (d - 48)) ≡ decimal n ++ (d ∷ [])
unfolding decimal
decimal-large n d h i =
    let b : (48 ≤ d) × (d ≤ 57) = is_digit-e d i in
    let m : ℕ = 10 * n + (d - 48) in
    let l : 10 ≤ m = omega arith in
    let q : m / 10 ≡ n = omega arith in
    let r : 48 + m % 10 ≡ d = omega arith in
    let k : m ≤ suc m = omega arith in
    let j : n ≤ m = omega arith in
    let o : n ≤ n = omega arith in
    let e : m ≤ m = omega arith in
    digits_within-same m (suc m) m e k
    ∙ digits_within-large m m l
    ∙ ap (λ x. digits_within m x ++ ((48 + m % 10) ∷ [])) q
    ∙ ap (λ x. digits_within m n ++ (x ∷ [])) r
    ∙ ap (λ x. x ++ (d ∷ [])) (digits_within-same m n n j o)

-- the value of digits and one more behind them
value_after-snoc : (n d : ℕ) (ds : List ℕ) → value_after n (ds ++ (d ∷ [])) ≡ 10 * value_after n ds + (d - 48)
unfolding value_after
value_after-snoc n d [] = refl
value_after-snoc n d (e ∷ ds) = value_after-snoc (10 * n + (e - 48)) d ds

-- a further digit leaves no zero in front of digits that are worth something
no_leading_zero-snoc : (d : ℕ) (ds : List ℕ) → no_leading_zero ds ≡ true → 0 < value_after 0 ds
    → no_leading_zero (ds ++ (d ∷ [])) ≡ true
unfolding no_leading_zero value_after
no_leading_zero-snoc d [] h p = refl
no_leading_zero-snoc d (a ∷ []) h p =
    let k : a ≢ 48 = omega arith in
    rw (ne_eqb a 48 k)
no_leading_zero-snoc d (a ∷ e ∷ ds) h p = h

-- what the decimal digits of a number are
record Digits (n : ℕ) (ds : List ℕ) : Type 0 where
  value : value_after 0 ds ≡ n
  digits : all? is_digit ds ≡ true
  plain : no_leading_zero ds ≡ true

digits-one : (n : ℕ) → n < 10 → Digits n ((48 + n) ∷ [])
unfolding value_after no_leading_zero
digits-one n h =
    let l : 48 ≤ 48 + n = omega arith in
    let k : 48 + n ≤ 57 = omega arith in
    let d : is_digit (48 + n) ≡ true = is_digit-i (48 + n) l k in
    record { value = omega arith; digits = all?-both is_digit (48 + n) [] d (all?-nil is_digit); plain = refl }

digits_within-digits : (k n : ℕ) → n ≤ k → Digits n (digits_within k n)
digits_within-digits zero n h =
    let s : n < 10 = omega arith in
    rw (digits_within-small zero n s) (digits-one n s)
digits_within-digits (suc k) n h = go (size n) (digits_within-digits k (n / 10))
  where
    go : Size n → (n / 10 ≤ k → Digits (n / 10) (digits_within k (n / 10))) → Digits n (digits_within (suc k) n)
    go (small s) front = rw (digits_within-small (suc k) n s) (digits-one n s)
    go (large s) front =
        let f : Digits (n / 10) (digits_within k (n / 10)) = front (omega arith) in
        let o : Digits (n % 10) ((48 + n % 10) ∷ []) = digits-one (n % 10) (omega arith) in
        let v : value_after 0 (digits_within k (n / 10)) ≡ n / 10 = f.value in
        let p : 0 < value_after 0 (digits_within k (n / 10)) = omega arith in
        let e = value_after-snoc 0 (48 + n % 10) (digits_within k (n / 10)) in
        rw (digits_within-large k n s) (record {
          value = omega arith;
          digits = all?-append is_digit _ _ ∙ and_i _ _ f.digits o.digits;
          plain = no_leading_zero-snoc _ _ f.plain p;
        })

decimal-digits : (n : ℕ) → Digits n (decimal n)
unfolding decimal
decimal-digits n =
    let h : n ≤ n = omega arith in
    digits_within-digits n n h

pub value-decimal : (n : ℕ) → value_after 0 (decimal n) ≡ n
value-decimal n = (decimal-digits n).value

pub all?-decimal : (n : ℕ) → all? is_digit (decimal n) ≡ true
all?-decimal n = (decimal-digits n).digits

pub no_leading_zero-decimal : (n : ℕ) → no_leading_zero (decimal n) ≡ true
no_leading_zero-decimal n = (decimal-digits n).plain

-- digits behind those of a number that is not 0 are the last digits of their value
decimal-value_after : (n : ℕ) (ds : List ℕ) → 0 < n → all? is_digit ds ≡ true
    → decimal (value_after n ds) ≡ decimal n ++ ds
unfolding value_after
decimal-value_after n [] h k = sym (append-nil (decimal n))
decimal-value_after n (d ∷ ds) h k =
    let p : 0 < 10 * n + (d - 48) = omega arith in
    decimal-value_after (10 * n + (d - 48)) ds p (all?-tail is_digit d ds k)
    ∙ ap (λ x. x ++ ds) (decimal-large n d h (all?-head is_digit d ds k))
    ∙ append_assoc (decimal n) (d ∷ []) ds

decimal-one : (d : ℕ) → is_digit d ≡ true → decimal (10 * 0 + (d - 48)) ≡ d ∷ []
decimal-one d h =
    let b : (48 ≤ d) × (d ≤ 57) = is_digit-e d h in
    let s : 10 * 0 + (d - 48) < 10 = omega arith in
    let e : 48 + (10 * 0 + (d - 48)) ≡ d = omega arith in
    decimal-small _ s ∙ ap (λ x. x ∷ []) e

-- digits without a leading zero are the decimal digits of their value
pub decimal-value : (ds : List ℕ) → no_leading_zero ds ≡ true → all? is_digit ds ≡ true → decimal (value_after 0 ds) ≡ ds
unfolding no_leading_zero value_after
decimal-value [] h k = cc
decimal-value (d ∷ []) h k = decimal-one d (all?-head is_digit d [] k)
decimal-value (d ∷ e ∷ ds) h k =
    let i : is_digit d ≡ true = all?-head is_digit d (e ∷ ds) k in
    let b : (48 ≤ d) × (d ≤ 57) = is_digit-e d i in
    let z : d ≢ 48 = eqb-false d 48 (not-true _ h) in
    let p : 0 < 10 * 0 + (d - 48) = omega arith in
    decimal-value_after (10 * 0 + (d - 48)) (e ∷ ds) p (all?-tail is_digit d (e ∷ ds) k)
    ∙ ap (λ x. x ++ (e ∷ ds)) (decimal-one d i)

-- numbers

pub read_number-decimal : (n : ℕ) → fits32 n ≡ true → read_number (decimal n) ≡ some n
unfolding read_number
read_number-decimal n h = rw (no_leading_zero-decimal n, all?-decimal n, value-decimal n, h)

pub read_number-exact : (ds : List ℕ) (n : ℕ) → read_number ds ≡ some n → (ds ≡ decimal n) × (fits32 n ≡ true)
unfolding read_number
read_number-exact ds n = go _ refl
  where
    go : (b : Bool) → (no_leading_zero ds && all? is_digit ds && fits32 (value_after 0 ds)) ≡ b
        → cond b (some (value_after 0 ds)) none ≡ some n → (ds ≡ decimal n) × (fits32 n ≡ true)
    go true t e =
        let v : value_after 0 ds ≡ n = cc in
        rw (← v) (sym (decimal-value ds (search (and_l, and_r)) (search (and_l, and_r))), search (and_l, and_r))
    go false t e = (cc, cc)

-- the text after a prefix

after_same : (b c : ℕ) (p t : List ℕ) → eqb b c ≡ true → after (b ∷ p) (c ∷ t) ≡ after p t
unfolding after
after_same b c p t e = rw (e, after)

after-other : (b c : ℕ) (p t : List ℕ) → eqb b c ≡ false → after (b ∷ p) (c ∷ t) ≡ none
unfolding after
after-other b c p t e = rw (e, after)

pub after-append : (p t : List ℕ) → after p (p ++ t) ≡ some t
unfolding after
after-append [] t = refl
after-append (b ∷ p) t = after_same b b p (p ++ t) (eq-eqb b b refl) ∙ after-append p t

pub after-exact : (p t u : List ℕ) → after p t ≡ some u → t ≡ p ++ u
unfolding after
after-exact [] t u h = cc
after-exact (b ∷ p) [] u h = cc
after-exact (b ∷ p) (c ∷ t) u h = go (eqb b c) refl (after-exact p t u)
  where
    go : (x : Bool) → eqb b c ≡ x → (after p t ≡ some u → t ≡ p ++ u) → c ∷ t ≡ b ∷ (p ++ u)
    go true e same =
        let f : b ≡ c = eqb-true b c e in
        let g : t ≡ p ++ u = same (sym (after_same b c p t e) ∙ h) in
        cc
    go false e same = cc (after-other b c p t e)

-- a text up to its line feed

up_to_line_feed-here : (b : ℕ) (t : List ℕ) → eqb b 10 ≡ true → up_to_line_feed (b ∷ t) ≡ some ([], t)
unfolding up_to_line_feed
up_to_line_feed-here b t e = rw (e, up_to_line_feed)

up_to_line_feed-later : (b : ℕ) (t : List ℕ) → eqb b 10 ≡ false
    → up_to_line_feed (b ∷ t) ≡ map (λ s. (b ∷ s.0, s.1)) (up_to_line_feed t)
unfolding up_to_line_feed
up_to_line_feed-later b t e = rw (e, up_to_line_feed)

pub up_to_line_feed-digits : (ds t : List ℕ) → all? is_digit ds ≡ true → up_to_line_feed (ds ++ (10 ∷ t)) ≡ some (ds, t)
unfolding up_to_line_feed
up_to_line_feed-digits [] t h = refl
up_to_line_feed-digits (d ∷ ds) t h =
    let b : (48 ≤ d) × (d ≤ 57) = is_digit-e d (all?-head is_digit d ds h) in
    let z : d ≢ 10 = omega arith in
    up_to_line_feed-later d (ds ++ (10 ∷ t)) (ne_eqb d 10 z)
    ∙ rw (up_to_line_feed-digits ds t (all?-tail is_digit d ds h))

pub up_to_line_feed-exact : (t : List ℕ) (s : List ℕ × List ℕ) → up_to_line_feed t ≡ some s → t ≡ s.0 ++ (10 ∷ s.1)
unfolding up_to_line_feed
up_to_line_feed-exact [] s h = cc
up_to_line_feed-exact (b ∷ t) s h = go (eqb b 10) refl (up_to_line_feed-exact t)
  where
    go : (x : Bool) → eqb b 10 ≡ x → ((r : List ℕ × List ℕ) → up_to_line_feed t ≡ some r → t ≡ r.0 ++ (10 ∷ r.1))
        → b ∷ t ≡ s.0 ++ (10 ∷ s.1)
    go true e later =
        let f : b ≡ 10 = eqb-true b 10 e in
        let g : ([], t) ≡ s = cc (up_to_line_feed-here b t e) in
        rw (f, ← g)
    go false e later =
        map-some _ (up_to_line_feed t) (sym (up_to_line_feed-later b t e) ∙ h) λ r f g.
        rw (← g) (ap (λ x. b ∷ x) (later r f))

-- lines

line-append : (k : Key) (n : ℕ) (rest : List ℕ) → line k n ++ rest ≡ key_text k ++ (decimal n ++ (10 ∷ rest))
unfolding line
line-append k n rest = simp append_assoc

pub read_line-line : (k : Key) (n : ℕ) (rest : List ℕ) → fits32 n ≡ true → read_line k (line k n ++ rest) ≡ some (n, rest)
unfolding read_line bind
read_line-line k n rest h =
    rw (
      line-append k n rest,
      after-append (key_text k) (decimal n ++ (10 ∷ rest)),
      up_to_line_feed-digits (decimal n) rest (all?-decimal n),
      read_number-decimal n h,
    )

pub read_line-exact : (k : Key) (t : List ℕ) (n : ℕ) (rest : List ℕ) → read_line k t ≡ some (n, rest)
    → (t ≡ line k n ++ rest) × (fits32 n ≡ true)
unfolding read_line
read_line-exact k t n rest h =
    bind-some (after (key_text k) t) _ h λ body p b.
    bind-some (up_to_line_feed body) _ b λ s q c.
    map-some _ (read_number s.0) c λ m r e.
    let i : m ≡ n = ap (λ x. x.0) e in
    let j : s.1 ≡ rest = ap (λ x. x.1) e in
    let d : (s.0 ≡ decimal m) × (fits32 m ≡ true) = read_number-exact s.0 m r in
    let f : body ≡ decimal n ++ (10 ∷ rest) = cc (up_to_line_feed-exact body s q) in
    (after-exact (key_text k) t body p ∙ ap (λ x. key_text k ++ x) f ∙ sym (line-append k n rest), cc)

-- a line begins with its key; those that end a block do not begin `in=`, and a block does not begin `end=`
pub after_line : (k : Key) (n : ℕ) (rest : List ℕ)
    → after (key_text k) (line k n ++ rest) ≡ some (decimal n ++ (10 ∷ rest))
after_line k n rest = rw (line-append k n rest) (after-append (key_text k) (decimal n ++ (10 ∷ rest)))

pub after-in-slot : (n : ℕ) (rest : List ℕ) → after (key_text In) (line Slot n ++ rest) ≡ none
unfolding after ascii key_text key_name line
after-in-slot n rest = refl

pub after-in-end : (n : ℕ) (rest : List ℕ) → after (key_text In) (line End n ++ rest) ≡ none
unfolding after ascii key_text key_name line
after-in-end n rest = refl

pub after-end-slot : (n : ℕ) (rest : List ℕ) → after (key_text End) (line Slot n ++ rest) ≡ none
unfolding after ascii key_text key_name line
after-end-slot n rest = refl

-- a line has a byte
pub length-line : (k : Key) (n : ℕ) → 0 < length (line k n)
unfolding line
length-line k n = simp length-append (omega arith)
