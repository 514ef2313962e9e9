-- Names as numbers of 64 bits: a name's number is that of its eight bytes, and two names with one number are alike.
use Prim.Native.Nat.{ℕ, zero, suc, ◌+◌, ◌*◌, ◌-◌, ◌≤◌}
use mathlib.Core.Bool.{true, false, false≢true}
use mathlib.Core.List.{List, [], ◌∷◌, ◌++◌}
use mathlib.Core.Path.{◌≡◌, refl, sym, ◌∙◌, ap}
use native.Mathlib.Omega.{arith}
use borrow.Author.Tests.{leb-true, eqb-true, eq-eqb}
use lib.Dec.{leb, eqb}
use lib.ListN.{length, replicate}
use Rattle.laws.specs.Lists.{all?, same_list}
use Rattle.laws.proofs.Lists.{same_list-refl, same_list-exact}
use Rattle.laws.proofs.Tests.{and_i, and_l, and_r, by-fail, by-pass, same, cond-pass, cond-fail}
use Rattle.model.specs.Cues.{name_limit, is_letter, well_named}
use Rattle.layout.specs.Number.{bytes_of, number_of}
use Rattle.layout.specs.Stores.{name_bytes, name_of}
use Rattle.layout.proofs.Number.{bytes_of-number_of, same_bytes-refl, same_bytes-exact}
use Rattle.cue_store.specs.Names.{name_number, is_name}
use Rattle.layout.proofs.Stores.{name_bytes-bytes, length-name_bytes, name_of-name_bytes}

------------------------------------------------------------------------
-- the bytes of a name

-- zeros behind a number's bytes do not change it
pub number-zeros : (n : ℕ) → ◌≡◌ {A = ℕ} (number_of (replicate n 0)) 0
unfolding number_of
number-zeros zero = refl
number-zeros (suc n) = omega (arith, number-zeros n)

number-padded : (bs : List ℕ) (n : ℕ) → number_of (bs ++ replicate n 0) ≡ number_of bs
unfolding number_of
number-padded [] n = number-zeros n
number-padded (b ∷ bs) n = ap (λ m. b + 256 * m) (number-padded bs n)

pub number-bytes : (name : List ℕ) → number_of (name_bytes name) ≡ number_of name
unfolding name_bytes
number-bytes name = number-padded name (name_limit - length name)

pub name-bytes : (name : List ℕ) → well_named name ≡ true → bytes_of 8 (number_of name) ≡ name_bytes name
name-bytes name h =
    ap (bytes_of 8) (sym (number-bytes name))
    ∙ bytes_of-number_of 8 (name_bytes name) (name_bytes-bytes name h) (length-name_bytes name h)

------------------------------------------------------------------------
-- its number

pub name-positive : (name : List ℕ) → well_named name ≡ true → 1 ≤ number_of name
unfolding well_named number_of all? is_letter
name-positive [] h = absurd (false≢true h)
name-positive (b ∷ bs) h =
    let first : leb 97 b ≡ true = search (and_l, and_r) in
    omega (arith, leb-true 97 b first)

pub number-name : (name : List ℕ) → well_named name ≡ true → name_number name ≡ number_of name
unfolding name_number
number-name name h = cond-pass (well_named name) (number_of name) 0 h

pub number-none : (name : List ℕ) → well_named name ≡ false → name_number name ≡ 0
unfolding name_number
number-none name h = cond-fail (well_named name) (number_of name) 0 h

pub number-zero : (name : List ℕ) → name_number name ≡ 0 → well_named name ≡ false
number-zero name z =
    by-fail (well_named name) (λ h. omega (arith, name-positive name h, number-name name h))

pub number-some : (name : List ℕ) → (name_number name ≡ 0 → ⊥) → well_named name ≡ true
number-some name p = by-pass (well_named name) (λ h. p (number-none name h))

-- whether a number is that of a name: then it is, and its bytes are the name's
pub is_name-i : (name : List ℕ) → well_named name ≡ true → is_name (number_of name) ≡ true
unfolding is_name
is_name-i name h =
    let back : name_of (bytes_of 8 (number_of name)) ≡ name = ap name_of (name-bytes name h) ∙ name_of-name_bytes name h in
    rw back (and_i (well_named name) _ h (rw (name-bytes name h) (same_bytes-refl (name_bytes name))))

module _ (n : ℕ) (h : is_name n ≡ true) where
  pub is_name-well : well_named (name_of (bytes_of 8 n)) ≡ true
  unfolding is_name
  is_name-well = search and_l

  pub is_name-bytes : name_bytes (name_of (bytes_of 8 n)) ≡ bytes_of 8 n
  unfolding is_name
  is_name-bytes = same_bytes-exact (name_bytes (name_of (bytes_of 8 n))) (bytes_of 8 n) (search and_r)

------------------------------------------------------------------------
-- two names

pub same_number : (a b : List ℕ) → well_named a ≡ true → well_named b ≡ true → number_of a ≡ number_of b → a ≡ b
same_number a b h k e =
    sym (name_of-name_bytes a h)
    ∙ ap name_of (sym (name-bytes a h) ∙ ap (bytes_of 8) e ∙ name-bytes b k)
    ∙ name_of-name_bytes b k

-- two numbers of names are equal exactly if the names are alike
pub same_name : (a b : List ℕ) → well_named a ≡ true → well_named b ≡ true
    → eqb (number_of a) (number_of b) ≡ same_list eqb a b
same_name a b h k =
    same (eqb (number_of a) (number_of b)) (same_list eqb a b)
    (λ t. rw (same_number a b h k (eqb-true (number_of a) (number_of b) t)) (same_list-refl b))
    (λ t. eq-eqb (number_of a) (number_of b) (ap number_of (same_list-exact a b t)))
