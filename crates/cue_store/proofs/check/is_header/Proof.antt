-- The number, then the zeros.
use mathlib.Core.Bool.{◌&&◌}
use mathlib.Core.Path.{sym, ◌∙◌, ap}
use borrow.Author.Rules.{rules}
use borrow.Author.Tests.{eq-eqb, ne_eqb}
use lib.ListN.{take, drop, replicate}
use Rattle.laws.proofs.Tests.{and-false-l}
use Rattle.layout.specs.Number.{word, same_bytes}
use Rattle.cue_store.specs.Code.{is_header}
use Rattle.cue_store.proofs.check.is_header.Statement.{statement}
use Rattle.cue_store.proofs.check.is_header.Tie as tie

read-u32-requires : tie.Need-read_u32-requires
read-u32-requires c κs = search rules

returns : tie.Need-returns-then-read_u32-ne-FAIR_NUMBER
unfolding is_header
returns c =
    let store = c.args.store.now in
    sym (and-false-l _ _ (ne_eqb (word store 0) 2 (λ e. c.if-read_u32-ne-FAIR_NUMBER.true (c.read_u32.ensures ∙ e))))

is-clear-requires : tie.Need-is_clear-requires
is-clear-requires c κs = search rules

returns-2 : tie.Need-returns
unfolding is_header
returns-2 c =
    let store = c.args.store.now in
    let number = sym c.read_u32.ensures ∙ c.if-read_u32-ne-FAIR_NUMBER.false in
    let zeros = same_bytes (replicate 12 0) (take 12 (drop 4 store)) in
    c.is_clear.ensures ∙ sym (ap (λ b. b && zeros) (eq-eqb (word store 0) 2 number))

pub is_header_spec : {M : Type 1} → statement M
is_header_spec = tie.close (tie.spec read-u32-requires returns is-clear-requires returns-2)
