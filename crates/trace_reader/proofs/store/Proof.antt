-- `trace_reader::store` meets its contract: five stores, one after the other. Assumes nothing.
use borrow.Author.Rules.{rules}
use native.Mathlib.Numerals.{towards_suc}
use Rattle.trace.specs.Piece.{numbers_of}
use Rattle.trace_reader.proofs.store.Statement.{statement}
use Rattle.trace_reader.proofs.store.Tie as tie

mul_at : tie.Need-overflow_mul-at
mul_at c = search rules

mul-numbers : tie.Need-offset_bounds-numbers-at
mul-numbers c = search rules

element-write-numbers : tie.Need-bounds-numbers-at
element-write-numbers c = search rules

add-numbers : tie.Need-overflow_add-numbers
add-numbers c = search rules

mul-numbers-2 : tie.Need-offset_bounds-numbers-at-2
mul-numbers-2 c = search rules

element-write-numbers-2 : tie.Need-bounds-numbers-at-2
element-write-numbers-2 c = search rules

add-numbers-2 : tie.Need-overflow_add-numbers-2
add-numbers-2 c = search rules

mul-numbers-3 : tie.Need-offset_bounds-numbers-at-3
mul-numbers-3 c = search rules

element-write-numbers-3 : tie.Need-bounds-numbers-at-3
element-write-numbers-3 c = search rules

add-numbers-3 : tie.Need-overflow_add-numbers-3
add-numbers-3 c = search rules

mul-numbers-4 : tie.Need-offset_bounds-numbers-at-4
mul-numbers-4 c = search rules

element-write-numbers-4 : tie.Need-bounds-numbers-at-4
element-write-numbers-4 c = search rules

add-numbers-4 : tie.Need-overflow_add-numbers-4
add-numbers-4 c = search rules

mul-numbers-5 : tie.Need-offset_bounds-numbers-at-5
mul-numbers-5 c = search rules

element-write-numbers-5 : tie.Need-bounds-numbers-at-5
element-write-numbers-5 c = search rules

returns : tie.Need-returns
unfolding numbers_of
returns c = simp towards_suc

pub store_spec : {M : Type 1} → statement M
store_spec =
    tie.close
    (tie.spec
    mul_at
    mul-numbers
    element-write-numbers
    add-numbers
    mul-numbers-2
    element-write-numbers-2
    add-numbers-2
    mul-numbers-3
    element-write-numbers-3
    add-numbers-3
    mul-numbers-4
    element-write-numbers-4
    add-numbers-4
    mul-numbers-5
    element-write-numbers-5
    returns)
