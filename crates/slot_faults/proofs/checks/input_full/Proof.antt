-- The cells of an input are the entries of its section.
use mathlib.Core.Path.{sym, ◌∙◌, ap}
use native.Mathlib.Omega.{arith}
use borrow.Author.Rules.{rules}
use Rattle.cell.specs.Limits.{input_full}
use Rattle.slot_faults.proofs.Stored.{table-length, ports-below, count-below}
use Rattle.slot_faults.proofs.Faults.{full-count}
use Rattle.slot_faults.proofs.checks.input_full.Statement.{statement}
use Rattle.slot_faults.proofs.checks.input_full.Tie as tie

cast-count-of : tie.Need-overflow_cast-c
cast-count-of c = search rules

count-of-requires : tie.Need-count_of-requires
count-of-requires c κs =
    (table-length _ c.requires.0, omega (arith, c.requires.1, ports-below _ c.requires.0))

cast-input-full : tie.Need-overflow_cast-count_of
cast-input-full c =
    omega (arith, c.count_of.ensures, count-below _ c.requires.0 _ c.requires.1)

input-full-requires : tie.Need-input_full-requires
input-full-requires c κs = search rules

returns : tie.Need-returns
returns c =
    c.input_full.ensures
    ∙ ap input_full c.count_of.ensures
    ∙ sym (full-count _ c.requires.0 _ c.requires.1)

pub input_full_spec : {M : Type 1} → statement M
input_full_spec =
    tie.close
    (tie.spec cast-count-of count-of-requires cast-input-full input-full-requires returns)
