-- Scope 6: the number of each refusal.
use Rattle.std.specs.Prelude.{ℕ}
use Rattle.cell.specs.declared.Refusal.{Refusal}
use Rattle.cell.specs.declared.Refusal.TheVariants.{BadSize, BrokenTable, ClockEnd, NoSuchPort, NoSuchFlow}
use Rattle.cell.specs.declared.Refusal.TheVariants.{InputOrder, RankOrder, Full, BadLine, ShortBuffer}
use Rattle.cell.specs.declared.Refusal.TheVariants.{BadName, CuesFull, NoSuchCue, BadWeight, RankEnd}

abbrev pub number : Refusal → ℕ
number BadSize = 1
number BrokenTable = 2
number ClockEnd = 3
number NoSuchPort = 4
number NoSuchFlow = 5
number InputOrder = 6
number RankOrder = 7
number Full = 8
number BadLine = 9
number ShortBuffer = 10
number BadName = 11
number CuesFull = 12
number NoSuchCue = 13
number BadWeight = 14
number RankEnd = 15
