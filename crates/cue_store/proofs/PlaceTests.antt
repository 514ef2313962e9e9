-- The tests of a place of a cue store, and what each says of it.
use Prim.Native.Nat.{ℕ}
use mathlib.Core.Bool.{Bool, true, false, ◌&&◌}
use mathlib.Core.List.{List}
use mathlib.Core.Path.{◌≡◌, ◌∙◌, ap, ap₂}
use borrow.Author.Tests.{eq-eqb, ne_eqb}
use lib.Dec.{eqb}
use lib.ListN.{replicate}
use Rattle.laws.proofs.Tests.{and-false-l, and_false_r}
use Rattle.layout.specs.Frame.{is_fair_table}
use Rattle.layout.specs.Fair.{fair_size}
use Rattle.layout.specs.Number.{same_bytes}
use Rattle.cue_store.specs.Code.{name_at, table_at, place_of, is_place}
use Rattle.cue_store.specs.Names.{is_name}

-- one for a free place, one for any other
abbrev pub is_zeros : List ℕ → ℕ → Bool
is_zeros bs k = same_bytes (replicate fair_size 0) (table_at bs k)

abbrev pub is_cue : List ℕ → ℕ → Bool
is_cue bs k = is_name (name_at bs k) && (eqb (place_of bs (name_at bs k)) k && is_fair_table (table_at bs k))

module _ (bs : List ℕ) (k : ℕ) where
  pub place-zeros : name_at bs k ≡ 0 → is_place bs k ≡ is_zeros bs k
  unfolding is_place
  place-zeros e = ap (λ b. elim b [ true ↦ is_zeros bs k | false ↦ is_cue bs k ]) (eq-eqb (name_at bs k) 0 e)

  pub place-cue : (name_at bs k ≡ 0 → ⊥) → is_place bs k ≡ is_cue bs k
  unfolding is_place
  place-cue e = ap (λ b. elim b [ true ↦ is_zeros bs k | false ↦ is_cue bs k ]) (ne_eqb (name_at bs k) 0 e)

  -- one that is not free: its number is no name's, its name stands before, or its table is left to be looked at
  module _ (z : name_at bs k ≡ 0 → ⊥) where
    pub place_other : is_name (name_at bs k) ≡ false → is_place bs k ≡ false
    place_other h = place-cue z ∙ and-false-l (is_name (name_at bs k)) _ h

    pub place-again : (place_of bs (name_at bs k) ≡ k → ⊥) → is_place bs k ≡ false
    place-again h =
        place-cue z
        ∙ and_false_r (is_name (name_at bs k)) _
        (and-false-l (eqb (place_of bs (name_at bs k)) k) _ (ne_eqb (place_of bs (name_at bs k)) k h))

    pub place-table : is_name (name_at bs k) ≡ true → place_of bs (name_at bs k) ≡ k → is_place bs k ≡ is_fair_table (table_at bs k)
    place-table name first =
        place-cue z
        ∙ ap₂ (λ a b. a && (b && is_fair_table (table_at bs k))) name (eq-eqb (place_of bs (name_at bs k)) k first)
