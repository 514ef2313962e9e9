-- Zeros from the place's first byte on.
use mathlib.Core.Path.{◌∙◌, ap}
use borrow.Author.Rules.{rules}
use lib.ListN.{replicate}
use Rattle.layout.specs.Code.{put}
use Rattle.layout.specs.Cues.{place_size}
use Rattle.cue_store.proofs.place.clear_cue.Statement.{statement}
use Rattle.cue_store.proofs.place.clear_cue.Tie as tie

start-of-requires : tie.Need-start_of-requires
start-of-requires c κs = search rules

clear-requires : tie.Need-clear-requires
clear-requires c κs = search rules

same_length : tie.Need-shape_of-store
same_length c = search rules

returns : tie.Need-returns
returns c =
    let a = c.args in
    c.clear.ensures
    ∙ ap (λ at. put at place_size (replicate place_size 0) a.store.now) c.start_of.ensures

pub clear_cue_spec : {M : Type 1} → statement M
clear_cue_spec = tie.close (tie.spec start-of-requires clear-requires same_length returns)
