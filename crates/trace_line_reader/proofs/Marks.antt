-- Whether a text begins with a key, as the library's method tells it, and what follows the key:
--     begins-starts            `starts_with`, for a key
--     after-starts, -not       the same, for any prefix
use Prim.Native.Nat.{ℕ}
use mathlib.Core.Bool.{Bool, true, false}
use mathlib.Core.List.{List, ◌++◌}
use mathlib.Core.Logic.{◌≢◌}
use mathlib.Core.Option.{Option, none, some}
use mathlib.Core.Path.{◌≡◌, refl, sym, ap, ◌∙◌}
use lib.Dec.{eqb}
use lib.ListN.{length, take, drop}
use Rattle.std.specs.Cmp.Lexicographic.{pointwise}
use Rattle.std.proofs.lemmas.Bool.Decides.{Decides-eqb}
use Rattle.std.proofs.lemmas.Slice.Eq.{starts_is}
use Rattle.trace.specs.declared.Key.{Key}
use Rattle.trace.specs.Line.{key_text, after}
use Rattle.trace.specs.Reader.{from, begins}
use Rattle.trace.proofs.Line.{after-append, after-exact}

module _ (p t : List ℕ) where
  -- nothing follows a prefix that the text does not have
  after-missing : ((u : List ℕ) → t ≢ p ++ u) → after p t ≡ none
  after-missing never = go (after p t) refl
    where
      go : (o : Option (List ℕ)) → after p t ≡ o → after p t ≡ none
      go none e = e
      go (some u) e = absurd (never u (after-exact p t u e))

  after-there : (u : List ℕ) → t ≡ p ++ u → after p t ≡ some u
  after-there u h = ap (after p) h ∙ after-append p u

  pub after-starts : {r : Bool} → r ≡ pointwise eqb p (take (length p) t) → r ≡ true → after p t ≡ some (drop (length p) t)
  after-starts {r} h e = after-there (drop (length p) t) ((starts_is Decides-eqb t p r h).0 e)

  pub after-starts-not : {r : Bool} → r ≡ pointwise eqb p (take (length p) t) → r ≡ false → after p t ≡ none
  after-starts-not {r} h e = after-missing λ u f. cc ((starts_is Decides-eqb t p r h).1 u f)

module _ (k : Key) (t : List ℕ) where
  begins-false : after (key_text k) t ≡ none → begins k (from 0 t) ≡ false
  unfolding begins
  begins-false h = rw (h, begins)

  begins-true : {u : List ℕ} → after (key_text k) t ≡ some u → begins k (from 0 t) ≡ true
  unfolding begins
  begins-true h = rw (h, begins)

  pub begins-starts : (r : Bool) → r ≡ pointwise eqb (key_text k) (take (length (key_text k)) t) → r ≡ begins k (from 0 t)
  begins-starts r h = go r refl
    where
      p : List ℕ
      p = key_text k

      go : (b : Bool) → r ≡ b → r ≡ begins k (from 0 t)
      go true e = e ∙ sym (begins-true (after-there p t (drop (length p) t) ((starts_is Decides-eqb t p r h).0 e)))
      go false e = e ∙ sym (begins-false (after-missing p t λ u f. cc ((starts_is Decides-eqb t p r h).1 u f)))
