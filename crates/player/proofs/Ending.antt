-- A round of the player that writes nothing: the player is over, and the stage says how the trace ended.
use Prim.Native.Nat.{ℕ, ◌≤◌}
use native.Mathlib.Omega.{arith}
use mathlib.Core.Bool.{Bool, true}
use mathlib.Core.List.{List, [], ◌∷◌}
use mathlib.Core.Logic.{◌⊎◌, inl, inr}
use mathlib.Core.Path.{◌≡◌, refl, sym, ap}
use lib.ListN.{length, take, drop}
use Rattle.trace.specs.Piece.{enough}
use Rattle.player_text.specs.Turn.{Over}
use Rattle.player_turns.specs.declared.Engine.{Engine}
use Rattle.player_turns.specs.declared.Stage.{Stage}
use Rattle.player_turns.specs.declared.Stage.TheVariants.{Opening, Playing, Ended, TurnedBack}
use Rattle.player_lines.specs.Writing.{turn_room}
use Rattle.player_turns.specs.Turns.{standing, Took}
use Rattle.player_turns.specs.Driver.{Held, place, Run, stops}
use Rattle.player_turns.proofs.Driver.{run-over}
use Rattle.player.specs.Code.{Finished, status_of}

pub opening-not : Opening ≡ Playing → ⊥
opening-not e = let z : ◌≡◌ {A = ℕ} 0 1 = cc in omega arith

over-finished : (stage : Stage) (l : ℕ) (table : List ℕ) → Over (standing stage l table) → Finished stage
unfolding standing
over-finished Ended l table o = inl refl
over-finished TurnedBack l table o = inr refl
over-finished Opening l table o = elim o [ ]
over-finished Playing l table o = elim o [ ]

-- the round is one of a driver that had the text and gets nothing more
pub finished : (engine : Engine) (last : Bool) (stage : Stage) (l : ℕ) (text table buffer table' buffer' : List ℕ)
    (stage' : Stage) (l' taken n : ℕ)
    → Took engine last (standing stage l table) text table buffer table' buffer' stage' l' taken n → n ≡ 0
    → turn_room ≤ length buffer → (last ≡ true) ⊎ (enough ≤ length text) → Finished stage'
unfolding place
finished engine last stage l text table buffer table' buffer' stage' l' taken n took none room there =
    let h : Held = record { stage = stage; line = l; table = table; text = [] } in
    let h' : Held = record { stage = stage'; line = l'; table = table'; text = drop taken text } in
    let run : Run engine h (text ∷ []) [] h' =
    stops
    (record {
      buffer = buffer;
      buffer' = buffer';
      taken = taken;
      written = n;
      took = took;
      goes_out = ap (λ k. take k buffer') (sym none);
      kept = refl;
      room = room;
      there = there;
    }) in
    over-finished stage' l' table' (run-over run)

pub status_few : (stage : Stage) → status_of stage ≤ 1
unfolding status_of
status_few Opening = omega arith
status_few Playing = omega arith
status_few Ended = omega arith
status_few TurnedBack = omega arith
