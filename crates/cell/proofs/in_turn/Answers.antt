-- The two differences are the places of the inputs in a round of 2 ^ 32.
use Rattle.std.proofs.Common.{ℕ, ◌+◌, ◌-◌, ◌%◌, ◌^◌, ◌<◌, sym, arith}
use Rattle.laws.proofs.Compared.{Compared, below, equal, above, compare}
use Rattle.cell.proofs.Turn.{Placed, up, round, in_turn-places}
use Rattle.cell.proofs.in_turn.Goals as goal

placed : (start i : ℕ) → start < 2 ^ 32 → i < 2 ^ 32 → Placed (2 ^ 32) start i ((i + (2 ^ 32 - start)) % 2 ^ 32)
placed start i s h = go (compare i start)
  where
    go : Compared i start → Placed (2 ^ 32) start i ((i + (2 ^ 32 - start)) % 2 ^ 32)
    go (below l) = round l (omega arith)
    go (equal e) = up (omega arith) (omega arith)
    go (above l) = up (omega arith) (omega arith)

pub returns : goal.returns
returns c =
    let fits = c.ranges in
    sym (in_turn-places fits.i.fits fits.j.fits
    (placed _ _ fits.start.fits fits.i.fits)
    (placed _ _ fits.start.fits fits.j.fits))
