-- What the choices hand to the matching, and the matching to the moves.
use mathlib.Core.Path.{◌∙◌, ap₂}
use borrow.Author.Rules.{rules}
use Rattle.model.specs.Phase.{phase}
use Rattle.slot_view.proofs.Placed.{decode-ports}
use Rattle.slot_view.proofs.Own.{table-readable, waiting_in-orderly, waiting_in-state}
use Rattle.slot_course.proofs.Settling.{settled, proposals-are}
use Rattle.slot_course.proofs.Unmatched.{unmatched, to-outputs}
use Rattle.slot_course.proofs.phase.phase.Statement.{statement}
use Rattle.slot_course.proofs.phase.phase.Tie as tie

choose-requires : tie.Need-choose-choice-requires
choose-requires c κs =
    let view = c.requires.1 in
    (table-readable _ c.requires.0, (view.lists, (view.square, view.agrees, view.keyed)))

matching-of-requires : tie.Need-matching_of-matched-requires
matching-of-requires c κs =
    let r = table-readable _ c.requires.0 in
    ((r.size, to-outputs r c.choose-choice.ensures), unmatched r c.choose-choice.ensures)

move-cells-requires : tie.Need-move_cells-occupancy-requires
move-cells-requires c κs =
    let good = c.requires.0 in
    let choice = c.choose-choice.ensures in (
      c.requires,
      (settled (table-readable _ good) (waiting_in-orderly _ good) choice c.matching_of-matched.ensures, choice.bests),
    )

same_length : tie.Need-shape_of-table
same_length c = search rules

returns : tie.Need-returns
returns c =
    let good = c.requires.0 in (
      c.move_cells-occupancy.ensures.0,
      (
        c.move_cells-occupancy.ensures.1.0,
        (
          proposals-are (table-readable _ good) (waiting_in-orderly _ good) c.choose-choice.ensures c.matching_of-matched.ensures
              ∙ ap₂ (λ n l. (phase n l).proposals) (decode-ports _ _ good) (waiting_in-state _ good),
          c.move_cells-occupancy.ensures.1.1.1,
        ),
      ),
    )

pub phase_spec : {M : Type 1} → statement M
phase_spec =
    tie.close
    (tie.spec choose-requires matching-of-requires move-cells-requires same_length returns)
