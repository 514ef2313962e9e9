-- Where no cell is urgent there is no candidate, and nothing is found.
use borrow.Author.Rules.{rules}
use Rattle.slot_course.proofs.Unmatched.{found_none}
use Rattle.slot_course.proofs.phase.matching_of.Statement.{statement}
use Rattle.slot_course.proofs.phase.matching_of.Tie as tie

returns : tie.Need-returns-then-not-urgent
returns c =
    found_none _ _ (c.requires.1 c.if-not-urgent.true)

find-matching-requires : tie.Need-find_matching-requires
find-matching-requires c κs = search rules

returns-2 : tie.Need-returns
returns-2 c = search rules

pub matching_of_spec : {M : Type 1} → statement M
matching_of_spec = tie.close (tie.spec returns find-matching-requires returns-2)
