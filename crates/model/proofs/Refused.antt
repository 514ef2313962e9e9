-- A refused slot of two ports, computed: the number and the record's place, no departures and all counts 0.
use Prim.Native.Nat.{ℕ}
use mathlib.Core.List.{[], ◌∷◌}
use mathlib.Core.Option.{none, some}
use mathlib.Core.Path.{◌≡◌, refl}
use Rattle.cell.specs.declared.Refusal.{Refusal}
use Rattle.model.specs.Checks.{refused, refusal, no_departures}
use Rattle.model.specs.Crossbar.{Course, refused_answer, slot_answer}
use Rattle.model.specs.Pifo.{sent_departures}

module _ (r : Refusal) (place : ℕ) where
  pub refused-with : refusal {A = Course} (refused r place) ≡ some (r, place)
  unfolding refusal
  refused-with = refl

  pub refused-answer : slot_answer 2 (refused r place)
      ≡ record { departures = none ∷ none ∷ []; first = 0; second = 0; occupancy_one = 0 ∷ 0 ∷ []; occupancy_two = 0 ∷ 0 ∷ [] }
  unfolding slot_answer refused_answer no_departures
  refused-answer = refl

  pub refused-sends : sent_departures 2 (refused r place) ≡ none ∷ none ∷ []
  unfolding sent_departures no_departures
  refused-sends = refl
