-- Each round is one of a driver, so where it writes nothing the player is over.
use Rattle.std.proofs.Common.{arith, ◌≡◌, ◌≤◌, ◌⊎◌, inl, inr, sym, refl, ℕ, Bool, true, List, length, take, length-take, length-take-le}
use Rattle.trace.specs.Piece.{enough}
use Rattle.player_turns.specs.Turns.{standing, line_at}
use Rattle.player.proofs.Window.{written-fits}
use Rattle.player.proofs.Ending.{opening-not, finished}
use Rattle.player.proofs.Player.take_rounds.Goals as goal

pub rounds-init : goal.rounds-init
unfolding standing line_at
rounds-init c = (
  omega arith,
  refl,
  refl,
  record { size = refl; number = refl; good = λ e. absurd (opening-not e); few = λ e. absurd (opening-not e) },
)

-- the text in the window is enough for a turn, or it is the last
there : (last : Bool) (filled : ℕ) (window : List ℕ) → (last ≡ true) ⊎ (filled ≡ length window)
    → length window ≡ 65536 → (last ≡ true) ⊎ (enough ≤ length (take filled window))
there last filled window (inl end) whole = inl end
there last filled window (inr full) whole = inr (omega (arith, full, whole, length-take filled window))

pub returns-then-turn-eq0 : goal.returns-then-turn-eq0
returns-then-turn-eq0 c =
    finished _ _ _ _ _ _ _ _ _ _ _ _ _ c.take_turns-turn.ensures c.if-turn-eq0.true
    (omega (arith, c.rounds.invariant.2))
    (there _ _ _ c.in_ok-filling.ensures.text.full (omega (arith, c.fill.auto.window, c.rounds.invariant.1)))

pub slice_bounds-out-end : goal.slice_bounds-out-end
slice_bounds-out-end c =
    written-fits _ _ _ _ _ _ _ _ _ _ _ c.take_turns-turn.ensures.left c.take_turns-turn.auto.out

pub slice_bounds-write_all-end : goal.slice_bounds-write_all-end
slice_bounds-write_all-end c =
    sym
    (length-take-le _ _
    (written-fits _ _ _ _ _ _ _ _ _ _ _ c.take_turns-turn.ensures.left c.take_turns-turn.auto.out))
