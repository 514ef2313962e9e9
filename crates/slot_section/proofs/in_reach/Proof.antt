-- Both fields in turn: one that is out of reach, or both in it.
use mathlib.Core.Bool.{◌&&◌}
use mathlib.Core.Path.{sym, ◌∙◌, ap}
use native.Mathlib.Omega.{arith}
use borrow.Author.Tests.{lt-ltb, le-ltb}
use borrow.Author.Rules.{rules}
use lib.Dec.{ltb}
use Rattle.laws.proofs.Tests.{and-false-l}
use Rattle.layout.specs.Entry.{entry_at}
use Rattle.slot_section.specs.Code.{in_reach}
use Rattle.slot_section.proofs.in_reach.Statement.{statement}
use Rattle.slot_section.proofs.in_reach.Tie as tie

output-of-requires : tie.Need-output_of-requires
output-of-requires c κs = search rules

cast-if1 : tie.Need-overflow_cast-output_of
cast-if1 c = search rules

returns : tie.Need-returns-then-ports-output_of
unfolding in_reach
returns c =
    let a = c.args in
    let cell = (entry_at a.bytes.now a.k).cell in
    sym
    (and-false-l (ltb cell.output a.ports) (ltb cell.slot a.clock)
    (le-ltb cell.output a.ports (omega (arith, c.output_of.ensures))))

slot-of-requires : tie.Need-slot_of-requires
slot-of-requires c κs = search rules

returns-2 : tie.Need-returns
unfolding in_reach
returns-2 c =
    let a = c.args in
    let cell = (entry_at a.bytes.now a.k).cell in
    ap (λ n. ltb n a.clock) c.slot_of.ensures
    ∙ sym
    (ap (λ b. b && ltb cell.slot a.clock)
    (lt-ltb cell.output a.ports (omega (arith, c.output_of.ensures))))

pub in_reach_spec : {M : Type 1} → statement M
in_reach_spec = tie.close (tie.spec output-of-requires cast-if1 returns slot-of-requires returns-2)
