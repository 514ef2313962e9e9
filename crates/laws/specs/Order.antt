-- What is asked of an order that is given as a test.
use Rattle.std.specs.Prelude.{Bool, true, false, ◌≡◌}

-- a strict order
pub record Strict {A : Type 0} (lt : A → A → Bool) : Type 0 where
  pub irreflexive : (x : A) → lt x x ≡ false
  pub transitive : (x y z : A) → lt x y ≡ true → lt y z ≡ true → lt x z ≡ true
