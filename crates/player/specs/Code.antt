-- The exit status of a trace that was played, as the code finds it.
use Rattle.std.specs.Prelude.{ℕ, ◌⊎◌, ◌≡◌}
use Rattle.player_turns.specs.declared.Stage.{Stage}
use Rattle.player_turns.specs.declared.Stage.TheVariants.{Opening, Playing, Ended, TurnedBack}

abbrev pub Finished : Stage → Type 0
Finished stage = (stage ≡ Ended) ⊎ (stage ≡ TurnedBack)

-- played to its end, or refused
unfoldable pub status_of : Stage → ℕ
status_of Opening = 1
status_of Playing = 1
status_of Ended = 0
status_of TurnedBack = 1
