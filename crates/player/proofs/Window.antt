-- What turns write fits the bytes that are gathered.
use Prim.Native.Nat.{ℕ, ◌+◌, ◌-◌, ◌≤◌}
use native.Mathlib.Omega.{arith}
use mathlib.Core.List.{List}
use mathlib.Core.Path.{◌≡◌, ◌∙◌, ap}
use lib.ListN.{length, drop, length-append, length-drop}
use Rattle.layout.specs.Host.{filled}
use Rattle.player_text.specs.Turn.{Turn}
use Rattle.player_turns.specs.declared.Engine.{Engine}
use Rattle.player_turns.specs.declared.Stage.{Stage}
use Rattle.player_turns.specs.Turns.{Left}

pub written-fits : (engine : Engine) (turn : Turn) (then text buffer table' buffer' : List ℕ) (stage : Stage) (l taken n : ℕ)
    → Left engine turn then text buffer table' buffer' stage l taken n → length buffer' ≡ length buffer → n ≤ length buffer'
unfolding filled
written-fits engine turn then text buffer table' buffer' stage l taken n h same =
    let size : length buffer' ≡ length turn.written + (length buffer - length turn.written) =
    ap length h.wrote.bytes
    ∙ length-append turn.written (drop (length turn.written) buffer)
    ∙ ap (λ k. length turn.written + k) (length-drop (length turn.written) buffer) in
    omega (arith, size, same, h.wrote.count)
