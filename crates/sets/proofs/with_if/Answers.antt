-- The set as an operation on digits (proofs/Operations); without the test, with no digit.
use Rattle.std.proofs.Common.{◌≡◌, ℕ, Bool, true, false, cond, ◌*◌, ◌%◌, ◌^◌, ◌<◌, ◌∙◌, ap, bit_or}
use native.Mathlib.Nat.{zero-mul}
use lib.Bits.{or_zero_r}
use mir.Val.{bool_byte}
use Rattle.sets.specs.Code.{with_one}
use Rattle.sets.specs.Sets.{positions}
use Rattle.sets.proofs.Operations.{with_one-or}
use Rattle.sets.proofs.with_if.Goals as goal

by-test : (set : ℕ) → set < 2 ^ positions → (j : ℕ) → j < positions → (b : Bool)
    → bit_or set (bool_byte b * 2 ^ j % 2 ^ positions) ≡ cond b (with_one set j) set
by-test set fits j h true = with_one-or set fits j h
by-test set fits j h false = ap (λ n. bit_or set (n % 2 ^ positions)) (zero-mul (2 ^ j)) ∙ or_zero_r set

pub returns : goal.returns
returns c = rw c.from.ensures (by-test c.args.set c.ranges.set.fits c.args.j c.requires c.args.member)
