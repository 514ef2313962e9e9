-- A call that writes a table into a buffer: its result, and the buffer after it.
--     Writes    what it answers and leaves
--     refuses   a refusal keeps the buffer
--     writes    the bytes of a state stand in its first bytes
use Prim.Native.Nat.{ℕ, ◌+◌, ◌*◌}
use native.Mathlib.Omega.{arith}
use mathlib.Core.List.{List}
use mathlib.Core.Path.{◌≡◌, refl}
use Rattle.cell.specs.declared.Refusal.{Refusal}
use Rattle.cell.specs.Refusal.{number as refusal_number}
use Rattle.model.specs.Checks.{Outcome, done, refused}
use Rattle.model.specs.Fair.{Fair}
use Rattle.model.specs.State.{Switch}
use Rattle.layout.specs.Engine.{buffer_after}
use Rattle.layout.specs.Fair.{fair_bytes}
use Rattle.layout.specs.Host.{filled, result_of}

abbrev pub Writes : ℕ → List ℕ → Outcome (Fair Switch) → ℕ → List ℕ → Type 0
Writes number buffer o result after = (result ≡ result_of o) × (after ≡ buffer_after number buffer o)

module _ (number : ℕ) (buffer : List ℕ) (o : Outcome (Fair Switch)) where
  pub refuses : (r : Refusal) (result : ℕ) → o ≡ refused r 0 → result ≡ refusal_number r → Writes number buffer o result buffer
  unfolding result_of buffer_after
  refuses r result e h = rw e (let k : result ≡ refusal_number r + 256 * 0 = omega arith in k, refl)

  pub writes : (x : Fair Switch) (after : List ℕ) → o ≡ done x → after ≡ filled (fair_bytes number x) buffer
      → Writes number buffer o 0 after
  unfolding result_of buffer_after
  writes x after e h = rw e (refl, h)
