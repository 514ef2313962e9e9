-- The result of a call as the number that C is given.
use Rattle.std.specs.Prelude.{ℕ, Result, Ok, Err}
use Rattle.cell.specs.declared.Refusal.{Refusal}
use Rattle.cell.specs.Refusal.{number}

-- 0, or the number of the refusal
abbrev pub number_of_result : {A : Type 0} → Result A Refusal → ℕ
number_of_result (Ok x) = 0
number_of_result (Err refusal) = number refusal
