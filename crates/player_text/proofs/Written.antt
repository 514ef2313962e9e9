-- What a player over any switch writes.
--     play-finished, play-faulty, play-refused, play-done   by what stands next and the answer
--     play-turned-back, play-opened                         of a whole text, by the header
use Prim.Native.Nat.{ℕ, suc, ◌+◌}
use mathlib.Core.List.{List, ◌++◌}
use mathlib.Core.Option.{Option}
use mathlib.Core.Path.{◌≡◌}
use lib.ListN.{length}
use Rattle.cell.specs.declared.Arrival.{Arrival}
use Rattle.cell.specs.declared.Cell.{Cell}
use Rattle.cell.specs.declared.Refusal.{Refusal}
use Rattle.cell.specs.declared.Refusal.TheVariants.{BadLine}
use Rattle.model.specs.Checks.{done, refused}
use Rattle.trace.specs.declared.Key.TheVariants.{Ports, First, Slot, End}
use Rattle.trace.specs.Line.{line}
use Rattle.trace.specs.Reader.{Cursor, slot_ahead, finished, faulty, next, opened, refused_at, header}
use Rattle.trace.specs.Lines.{departures_text, refusal_text}
use Rattle.player_text.specs.Player.{Machine, line_of, play_from, play}

module _ {S : Type 0} (m : Machine S) where
  module _ (most clock : ℕ) (s : S) (c : Cursor) where
    pub play-finished : next clock c ≡ finished → play_from m (suc most) clock s c ≡ line End clock
    unfolding play_from
    play-finished h = rw (h, play_from)

    pub play-faulty : {l : ℕ} → next clock c ≡ faulty l → play_from m (suc most) clock s c ≡ refusal_text BadLine l
    unfolding play_from
    play-faulty h = rw (h, play_from)

    module _ {records : List Arrival} {d : Cursor} (h : next clock c ≡ slot_ahead records d) where
      pub play-refused : {r : Refusal} {place : ℕ} → m.slot s records ≡ refused r place
          → play_from m (suc most) clock s c ≡ refusal_text r (line_of c.line place)
      unfolding play_from
      play-refused k = rw (h, k, play_from)

      pub play-done : {x : List (Option Cell) × S} → m.slot s records ≡ done x
          → play_from m (suc most) clock s c
          ≡ line Slot clock ++ (departures_text x.0 ++ play_from m most (clock + 1) x.1 d)
      unfolding play_from
      play-done k = rw (h, k, play_from)

  pub play-turned-back : (t : List ℕ) {r : Refusal} {l : ℕ} → header t ≡ refused_at r l → play m t ≡ refusal_text r l
  unfolding play
  play-turned-back t h = rw (h, play)

  pub play-opened : (t : List ℕ) {n first : ℕ} {c : Cursor} → header t ≡ opened n first c
      → play m t ≡ line Ports n ++ (line First first ++ play_from m (length c.text) first (m.fresh n first) c)
  unfolding play
  play-opened t h = rw (h, play)
