-- The byte of a place, the zero behind it, and the bytes of a slice.
use Prim.Native.Nat.{ℕ, ◌+◌, ◌≤◌}
use mathlib.Core.Bool.{Bool, true, false}
use mathlib.Core.Path.{◌≡◌, refl, sym, ◌∙◌, ap}
use mathlib.Core.List.{List}
use native.Mathlib.Omega.{arith}
use borrow.Author.Tests.{eq-eqb, eqb-true, eqb-false}
use lib.Dec.{eqb, lit≤}
use lib.ListN.{get_or}
use mir.Syntax.{w8}
use mir.Val.{Fits}
use Rattle.model.specs.State.{Entry, listed, crossed, buffered, is_listed, is_crossed, is_buffered}
use Rattle.layout.specs.Number.{bytes_of, number_of, number_at}
use Rattle.layout.specs.Table.{place_byte, place_of, entry_bytes}
use Rattle.layout.specs.Entry.{entry_at}
use Rattle.layout.specs.Code.{record_start, record_at}
use Rattle.layout.proofs.Number.{bytes?, bytes?-i}
use Rattle.layout.proofs.Records.{record_at-byte}

------------------------------------------------------------------------
-- the byte of a place

pub place-i : (b : ℕ) → 1 ≤ b → b ≤ 3 → place_byte (place_of b) ≡ b
unfolding place_byte place_of
place-i b low high = go (eqb b 1) refl (eqb b 2) refl
  where
    go : (one : Bool) → eqb b 1 ≡ one → (two : Bool) → eqb b 2 ≡ two
        → place_byte (elim one [ true ↦ listed | false ↦ elim two [ true ↦ crossed | false ↦ buffered ] ]) ≡ b
    go true e two f = sym (eqb-true b 1 e)
    go false e true f = sym (eqb-true b 2 f)
    go false e false f = omega (arith, eqb-false)

-- which place it is
pub place_of-listed : (b : ℕ) → is_listed (place_of b) ≡ eqb b 1
unfolding place_of is_listed
place_of-listed b = go (eqb b 1) (eqb b 2)
  where
    go : (one two : Bool)
        → is_listed (elim one [ true ↦ listed | false ↦ elim two [ true ↦ crossed | false ↦ buffered ] ]) ≡ one
    go true two = refl
    go false true = refl
    go false false = refl

pub place_of-crossed : (b : ℕ) → is_crossed (place_of b) ≡ eqb b 2
unfolding place_of is_crossed
place_of-crossed b = go (eqb b 1) refl (eqb b 2) refl
  where
    go : (one : Bool) → eqb b 1 ≡ one → (two : Bool) → eqb b 2 ≡ two
        → is_crossed (elim one [ true ↦ listed | false ↦ elim two [ true ↦ crossed | false ↦ buffered ] ]) ≡ two
    go true e two f = ap (λ n. eqb n 2) (sym (eqb-true b 1 e)) ∙ f
    go false e true f = refl
    go false e false f = refl

pub place_of-buffered : (b : ℕ) → 1 ≤ b → b ≤ 3 → is_buffered (place_of b) ≡ eqb b 3
unfolding place_of is_buffered
place_of-buffered b low high = go (eqb b 1) refl (eqb b 2) refl
  where
    go : (one : Bool) → eqb b 1 ≡ one → (two : Bool) → eqb b 2 ≡ two
        → is_buffered (elim one [ true ↦ listed | false ↦ elim two [ true ↦ crossed | false ↦ buffered ] ]) ≡ eqb b 3
    go true e two f = ap (λ n. eqb n 3) (sym (eqb-true b 1 e))
    go false e true f = ap (λ n. eqb n 3) (sym (eqb-true b 2 f))
    go false e false f = sym (eq-eqb b 3 (omega (arith, eqb-false b 1 e, eqb-false b 2 f)))

------------------------------------------------------------------------
-- the zero of a record

entry_bytes-zero : (e : Entry) → ◌≡◌ {A = ℕ} (number_at 1 3 (entry_bytes e)) 0
unfolding entry_bytes number_at number_of bytes_of
entry_bytes-zero e = refl

-- where its bytes are those of its entry, the zero is
pub exact-zero : (bs : List ℕ) (k : ℕ) → entry_bytes (entry_at bs k) ≡ record_at bs k
    → ◌≡◌ {A = ℕ} (get_or bs (record_start k + 3) 0) 0
exact-zero bs k e = sym (record_at-byte bs k 3 (lit≤ tt)) ∙ ap (number_at 1 3) (sym e) ∙ entry_bytes-zero (entry_at bs k)

------------------------------------------------------------------------
-- the bytes of a slice are bytes

pub known_bytes : (bs : List ℕ) → ((i : ℕ) → Fits w8 (get_or bs i 0)) → bytes? bs ≡ true
known_bytes bs known = bytes?-i bs (λ i. (known i).fits)
