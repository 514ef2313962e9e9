-- The numbers of the refusals: 0 is none of them, and each has at most two digits.
use Rattle.std.proofs.Common.{◌≤◌, lit≤}
use Rattle.cell.specs.declared.Refusal.{Refusal}
use Rattle.cell.specs.declared.Refusal.TheVariants.{BadSize, BrokenTable, ClockEnd, NoSuchPort, NoSuchFlow}
use Rattle.cell.specs.declared.Refusal.TheVariants.{InputOrder, RankOrder, Full, BadLine, ShortBuffer}
use Rattle.cell.specs.declared.Refusal.TheVariants.{BadName, CuesFull, NoSuchCue, BadWeight, RankEnd}
use Rattle.cell.specs.Refusal.{number}

pub number-range : (r : Refusal) → (1 ≤ number r) × (number r ≤ 99)
number-range BadSize = (lit≤ tt, lit≤ tt)
number-range BrokenTable = (lit≤ tt, lit≤ tt)
number-range ClockEnd = (lit≤ tt, lit≤ tt)
number-range NoSuchPort = (lit≤ tt, lit≤ tt)
number-range NoSuchFlow = (lit≤ tt, lit≤ tt)
number-range InputOrder = (lit≤ tt, lit≤ tt)
number-range RankOrder = (lit≤ tt, lit≤ tt)
number-range Full = (lit≤ tt, lit≤ tt)
number-range BadLine = (lit≤ tt, lit≤ tt)
number-range ShortBuffer = (lit≤ tt, lit≤ tt)
number-range BadName = (lit≤ tt, lit≤ tt)
number-range CuesFull = (lit≤ tt, lit≤ tt)
number-range NoSuchCue = (lit≤ tt, lit≤ tt)
number-range BadWeight = (lit≤ tt, lit≤ tt)
number-range RankEnd = (lit≤ tt, lit≤ tt)
