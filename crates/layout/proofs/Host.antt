-- Laws of buffers that are filled, and of results as numbers.
use Prim.Native.Nat.{ℕ, ◌+◌, ◌≤◌}
use mathlib.Core.Path.{◌≡◌, refl, ◌∙◌, ap}
use mathlib.Core.List.{List}
use native.Mathlib.Omega.{arith}
use lib.ListN.{length, take, drop, length-append, length-drop}
use lib.Seq.{take-append_seam}
use Rattle.cell.specs.declared.Refusal.{Refusal}
use Rattle.cell.proofs.RefusalNumbers.{number-range}
use Rattle.model.specs.Checks.{Outcome, done, refused, refusal_of}
use Rattle.layout.specs.Host.{filled, result_of, fault_result}

------------------------------------------------------------------------
-- a filled buffer: its first bytes, the others, its length

pub take-filled : (bs buffer : List ℕ) → take (length bs) (filled bs buffer) ≡ bs
unfolding filled
take-filled bs buffer = take-append_seam bs (drop (length bs) buffer)

pub length-filled : (bs buffer : List ℕ) → length bs ≤ length buffer → length (filled bs buffer) ≡ length buffer
unfolding filled
length-filled bs buffer room =
    length-append bs (drop (length bs) buffer) ∙ ap (λ n. length bs + n) (length-drop (length bs) buffer) ∙ omega arith

------------------------------------------------------------------------
-- results

-- 0 is the result of no refusal
pub result-refused : (A : Type 0) (r : Refusal) (place : ℕ) → result_of {A = A} (refused r place) ≡ 0 → ⊥
unfolding result_of
result-refused A r place h = omega (arith, (number-range r).0)

-- the result by the fault
pub result-fault : {A : Type 0} (o : Outcome A) → fault_result (refusal_of o) ≡ result_of o
unfolding refusal_of result_of
result-fault (done a) = refl
result-fault (refused r place) = refl
