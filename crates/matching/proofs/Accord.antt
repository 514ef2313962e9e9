-- The definitions give every matching that was worked out by hand. A check goes through the files by name: here, before
-- the laws of the matching, a wrong definition is refused at the rows that it gets wrong. Assumes nothing.
use mathlib.Core.Bool.{true}
use mathlib.Core.Path.{◌≡◌, refl}
use Rattle.laws.specs.Lists.{keep, some?, none?, count, least, same_list}
use Rattle.matching.specs.Matching.{proposed, round, rounds, settled, matched, proposals}
use Rattle.matching.specs.Shows.{candidate, ahead, over, same, show, given, inputs_first, pair, pair_alone}
use Rattle.matching.specs.Shows.{no_match, chain, nobody}

pub shows-given :
    (given inputs_first ≡ true)
    × (given pair ≡ true)
    × (given pair_alone ≡ true)
    × (given no_match ≡ true)
    × (given chain ≡ true)
    × (given nobody ≡ true)
unfolding keep some? none? count least same_list proposed round rounds settled matched proposals candidate ahead over same show given inputs_first pair
    pair_alone no_match chain nobody
shows-given = (refl, refl, refl, refl, refl, refl)
