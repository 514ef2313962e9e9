-- Its name is the number at its first byte.
use mathlib.Core.Path.{◌∙◌, ap}
use borrow.Author.Rules.{rules}
use Rattle.layout.specs.Number.{number_at}
use Rattle.cue_store.specs.Code.{name_at}
use Rattle.cue_store.proofs.place.name_at.Statement.{statement}
use Rattle.cue_store.proofs.place.name_at.Tie as tie

start-of-requires : tie.Need-start_of-requires
start-of-requires c κs = search rules

read-u64-requires : tie.Need-read_u64-requires
read-u64-requires c κs = search rules

returns : tie.Need-returns
unfolding name_at
returns c =
    c.read_u64.ensures
    ∙ ap (λ at. number_at 8 at c.args.store.now) c.start_of.ensures

pub name_at_spec : {M : Type 1} → statement M
name_at_spec = tie.close (tie.spec start-of-requires read-u64-requires returns)
