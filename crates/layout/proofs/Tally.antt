-- The tally as bytes: it is read back from its 32 bytes.
use Prim.Native.Nat.{ℕ, ◌≤◌}
use mathlib.Core.Path.{◌≡◌}
use native.Mathlib.Omega.{arith}
use Rattle.cell.specs.declared.Tally.{Tally}
use Rattle.model.specs.Tally.{count_top}
use Rattle.layout.specs.Number.{bytes_of, number_at, number_of}
use Rattle.layout.specs.TallyBytes.{tally_bytes, tally_of}
use Rattle.layout.proofs.Number.{number_of-bytes_of}

-- each count is at most the top
pub record TallyFits (t : Tally) : Type 0 where
  pub run : t.run ≤ count_top
  pub refused : t.refused ≤ count_top
  pub arrived : t.arrived ≤ count_top
  pub departed : t.departed ≤ count_top

number_of-count : (n : ℕ) → n ≤ count_top → number_of (bytes_of 8 n) ≡ n
number_of-count n h = number_of-bytes_of 8 n (omega arith)

pub tally_of-tally_bytes : (t : Tally) → TallyFits t → tally_of (tally_bytes t) ≡ t
unfolding tally_of tally_bytes number_at bytes_of
tally_of-tally_bytes t h =
    λ k. record {
      run = number_of-count t.run h.run k;
      refused = number_of-count t.refused h.refused k;
      arrived = number_of-count t.arrived h.arrived k;
      departed = number_of-count t.departed h.departed k;
    }
