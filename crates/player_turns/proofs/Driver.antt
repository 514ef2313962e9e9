-- What a driver writes is the player's text, however the trace arrives, and the same on either engine.
--     run-text        all that a run writes is the player's text of all the pieces
--     run-same        and so it is the text of the crossbar's player
--     run_end         by its last lines the trace was played to its end or turned back, as the stage says
--     run-over        and it is one of these two stages
--     runs-alike      the same one for all runs over one text, on whatever engines
--     round-less      a round that writes something takes bytes or comes to the end
--     run-rounds      so a run has no more rounds than the text has bytes, and two
use Prim.Native.Nat.{ℕ, suc, ◌+◌, ◌-◌, ◌≤◌, ◌<◌}
use native.Mathlib.Omega.{arith}
use mathlib.Core.Bool.{Bool, true}
use mathlib.Core.List.{List, [], ◌∷◌, ◌++◌, flatten}
use mathlib.Core.Logic.{◌⊎◌, inl, inr, ◌≢◌}
use mathlib.Core.Path.{◌≡◌, refl, sym, ◌∙◌, ap, ap₂}
use lib.ListN.{length, take, drop, length-append}
use lib.Seq.{take_at}
use Rattle.layout.specs.Host.{filled}
use Rattle.player_text.specs.Player.{play, play_crossbar}
use Rattle.player_text.specs.Turn.{Standing, opening, Over, Turn, turns}
use Rattle.player_text.proofs.Pieces.{ahead, ahead-one, Go, stays, goes as gone, turns_go, turns-over, Still}
use Rattle.player_text.proofs.Pieces.{Plays, ends, receives, turns-play, plays-over, EndsAs, ends-once}
use Rattle.player_text.proofs.Pieces.{whatever-pieces, whatever-end}
use Rattle.player_turns.specs.declared.Engine.{Engine}
use Rattle.player_lines.specs.Writing.{turn_room}
use Rattle.player_turns.specs.Turns.{machine_of, standing}
use Rattle.player_turns.specs.Driver.{Held, fresh, place, Round, Run, stops, goes}
use Rattle.player_turns.proofs.Engines.{ticks-of, same_of}

module _ {engine : Engine} {last : Bool} {piece out : List ℕ} {h h' : Held} (r : Round engine last piece h h' out) where
  -- the turns of a round
  abbrev taking : Turn
  taking = turns (machine_of engine) r.took.many last (place h) (h.text ++ piece)

  round-wrote : out ≡ taking.written
  unfolding filled
  round-wrote =
      r.goes_out
      ∙ ap₂ take r.took.left.wrote.count r.took.left.wrote.bytes
      ∙ take_at taking.written (drop (length taking.written) r.buffer) (length taking.written) refl

  round-left : taking.left ≡ h'.text
  round-left = r.took.left.left ∙ sym r.kept

  round-after : taking.after ≡ place h'
  unfolding place
  round-after = sym r.took.left.after

  -- before a run
  round-plays : {ps : List (List ℕ)} {w : List ℕ} {e : Standing} → (last ≡ true → flatten ps ≡ [])
      → Plays (machine_of engine) (place h') h'.text ps w e
      → Plays (machine_of engine) (place h) h.text (piece ∷ ps) (out ++ w) e
  round-plays {ps} {w} {e} none on =
      let later : Plays (machine_of engine) taking.after taking.left ps w e = rw (round-after, round-left) on in
      rw round-wrote
      (receives (turns-play (machine_of engine) last ps w e none r.took.many (place h) (h.text ++ piece) later))

  -- it takes bytes or comes to the end
  pub round-less : out ≢ [] → length h'.text + ahead (place h') < length (h.text ++ piece) + ahead (place h)
  round-less some = go (turns_go (machine_of engine) r.took.many last (place h) (h.text ++ piece))
    where
      go : Go (place h) (h.text ++ piece) taking
          → length h'.text + ahead (place h') < length (h.text ++ piece) + ahead (place h)
      go (stays none _ _) = absurd (some (round-wrote ∙ none))
      go (gone _ less) = omega (arith, ap length round-left, ap ahead round-after)

-- a round that writes nothing
module _ {engine : Engine} {last : Bool} {piece : List ℕ} {h h' : Held} (r : Round engine last piece h h' []) where
  nothing : (taking r).written ≡ []
  nothing = sym (round-wrote r)

  quiet : Still (machine_of engine) last (taking r)
  quiet = go r.took.stopped
    where
      go : Still (machine_of engine) last (taking r) ⊎ (length r.buffer - r.written < turn_room)
          → Still (machine_of engine) last (taking r)
      go (inl s) = s
      go (inr short) = absurd (omega (arith, short, r.room, r.took.left.wrote.count, ap length nothing))

  quiet-over : Over (place h)
  quiet-over = turns-over (machine_of engine) r.took.many last (place h) (h.text ++ piece) nothing quiet r.there

  quiet-stays : place h ≡ place h'
  quiet-stays = go (turns_go (machine_of engine) r.took.many last (place h) (h.text ++ piece))
    where
      go : Go (place h) (h.text ++ piece) (taking r) → place h ≡ place h'
      go (stays _ _ q) = sym q ∙ round-after r
      go (gone n _) = absurd (n nothing)

run-plays : {engine : Engine} {h e : Held} {ps : List (List ℕ)} {w : List ℕ} → Run engine h ps w e
    → Plays (machine_of engine) (place h) h.text ps w (place e)
run-plays (stops r) = rw (← quiet-stays r) (ends (quiet-over r))
run-plays (goes r _ none on) = round-plays r none (run-plays on)

pub run-over : {engine : Engine} {h e : Held} {ps : List (List ℕ)} {w : List ℕ} → Run engine h ps w e → Over (place e)
run-over r = plays-over _ (run-plays r)

module _ (engine : Engine) (table : List ℕ) (ps : List (List ℕ)) (w : List ℕ) (e : Held)
    (r : Run engine (fresh table) ps w e) where
  from-opening : Plays (machine_of engine) opening [] ps w (place e)
  unfolding fresh place standing
  from-opening = run-plays r

  pub run-text : w ≡ play (machine_of engine) (flatten ps)
  run-text = whatever-pieces (machine_of engine) (ticks-of engine) ps w (place e) from-opening

  -- either engine's player writes the crossbar's text
  pub run-same : w ≡ play_crossbar (flatten ps)
  run-same = run-text ∙ same_of engine (flatten ps)

  pub run_end : EndsAs (place e) (play_crossbar (flatten ps))
  run_end =
      rw (← same_of engine (flatten ps))
      (whatever-end (machine_of engine) (ticks-of engine) ps w (place e) from-opening)

-- Two runs over one text, on whatever engines and in whatever pieces, end alike.
pub runs-alike : (engine engine' : Engine) (table table' : List ℕ) (ps qs : List (List ℕ)) (w v : List ℕ) (e d : Held)
    → Run engine (fresh table) ps w e → Run engine' (fresh table') qs v d → flatten ps ≡ flatten qs → place e ≡ place d
runs-alike engine engine' table table' ps qs w v e d r q same =
    ends-once (run-over r) (run-over q) (play_crossbar (flatten qs)) (rw same at (run_end engine table ps w e r))
    (run_end engine' table' qs v d q)

-- how many rounds a run has
unfoldable pub rounds : {engine : Engine} {h e : Held} {ps : List (List ℕ)} {w : List ℕ} → Run engine h ps w e → ℕ
rounds (stops r) = 1
rounds (goes r _ _ on) = suc (rounds on)

rounds-few : {engine : Engine} {h e : Held} {ps : List (List ℕ)} {w : List ℕ} (r : Run engine h ps w e)
    → rounds r ≤ length (h.text ++ flatten ps) + ahead (place h) + 1
unfolding rounds flatten
rounds-few (stops r) = omega arith
rounds-few (goes {piece = piece} {ps = ps} {h = h} {h' = h'} r some none on) =
    omega (
      arith,
      rounds-few on,
      round-less r some,
      length-append h'.text (flatten ps),
      length-append h.text (piece ++ flatten ps),
      length-append piece (flatten ps),
      length-append h.text piece,
    )

pub run-rounds : {engine : Engine} (table : List ℕ) (ps : List (List ℕ)) (w : List ℕ) (e : Held)
    (r : Run engine (fresh table) ps w e) → rounds r ≤ length (flatten ps) + 2
unfolding fresh
run-rounds table ps w e r = omega (arith, rounds-few r, ahead-one (place (fresh table)))
