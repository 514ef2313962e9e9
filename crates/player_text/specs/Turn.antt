-- The player, one turn after the other, over any machine whose switches are of the crossbar's type. A turn plays what
-- stands at the start of the text that is there, the header, a block or the end; or it does nothing, where more text is
-- needed. What the turns write, one behind the other, is the player's text, however the text arrives (proofs/Pieces).
use Rattle.std.specs.Prelude.{ℕ, zero, suc, ◌+◌, Bool, List, [], ◌∷◌, ◌++◌, ◌≡◌}
use Rattle.std.proofs.Math.Option.{Option}
use Rattle.cell.specs.declared.Arrival.{Arrival}
use Rattle.cell.specs.declared.Cell.{Cell}
use Rattle.cell.specs.declared.Refusal.TheVariants.{BadLine}
use Rattle.model.specs.State.{Switch}
use Rattle.model.specs.Checks.{Outcome, done, refused}
use Rattle.trace.specs.declared.Key.TheVariants.{Ports, First, Slot, End}
use Rattle.trace.specs.Line.{line}
use Rattle.trace.specs.Piece.{Piece, known, more, next_in, header_in}
use Rattle.trace.specs.Reader.{Cursor, Next, slot_ahead, finished, faulty, Header, opened, refused_at}
use Rattle.trace.specs.Lines.{departures_text, refusal_text}
use Rattle.player_text.specs.Player.{Machine, line_of}

-- The player's clock is that of the switch: a fresh switch has the first slot's number, and a slot that runs adds one.
pub record Ticks (m : Machine Switch) : Type 0 where
  pub starts : (ports first : ℕ) → (m.fresh ports first).clock ≡ first
  pub rises : (s : Switch) (records : List Arrival) {x : List (Option Cell) × Switch} → m.slot s records ≡ done x
      → x.1.clock ≡ s.clock + 1

-- Where the player stands: before the header; before a block or the end, with the number of the next line and the
-- switch; or behind all that it writes, where the trace was played to its end or was turned back.
pub data Standing : Type 0 where
  opening : Standing
  playing : ℕ → Switch → Standing
  ended : Standing
  turned_back : Standing

-- nothing more is written
pub data Over : Standing → Type 0 where
  at-end : Over ended
  at-refusal : Over turned_back

-- what a turn writes, the text that it leaves, and where the player stands then
pub record Turn : Type 0 where
  pub written : List ℕ
  pub left : List ℕ
  pub after : Standing

-- the last turn leaves the text alone; the player stands at one of the two ends then
unfoldable pub ending : Standing → List ℕ → List ℕ → Turn
ending s text t = record { written = text; left = t; after = s }

-- a slot's block: the slot runs, or it is refused and nothing of the block is written
unfoldable pub slot_turn : ℕ → ℕ → List ℕ → Cursor → Outcome (List (Option Cell) × Switch) → Turn
slot_turn clock l t d (refused r place) = ending turned_back (refusal_text r (line_of l place)) t
slot_turn clock l t d (done x) =
    record {
      written = line Slot clock ++ departures_text x.0;
      left = d.text;
      after = playing (l + d.line) x.1;
    }

-- the turn x, and behind it the turns y
unfoldable pub followed : Turn → Turn → Turn
followed x y = record { written = x.written ++ y.written; left = y.left; after = y.after }

module _ (m : Machine Switch) where
  unfoldable pub next_turn : ℕ → Switch → List ℕ → Piece Next → Turn
  next_turn l s t more = record { written = []; left = t; after = playing l s }
  next_turn l s t (known finished) = ending ended (line End s.clock) t
  next_turn l s t (known (faulty k)) = ending turned_back (refusal_text BadLine (l + k)) t
  next_turn l s t (known (slot_ahead records d)) = slot_turn s.clock l t d (m.slot s records)

  unfoldable pub header_turn : List ℕ → Piece Header → Turn
  header_turn t more = record { written = []; left = t; after = opening }
  header_turn t (known (refused_at r l)) = ending turned_back (refusal_text r l) t
  header_turn t (known (opened ports first c)) =
      record {
        written = line Ports ports ++ line First first;
        left = c.text;
        after = playing c.line (m.fresh ports first);
      }

  -- one turn on the text that is there; `last` says that no more will come
  unfoldable pub turn : Bool → Standing → List ℕ → Turn
  turn last opening t = header_turn t (header_in last t)
  turn last (playing l s) t = next_turn l s t (next_in last s.clock t)
  turn last ended t = ending ended [] t
  turn last turned_back t = ending turned_back [] t

  -- turns one after the other until one writes nothing, at most so many
  unfoldable pub turns : ℕ → Bool → Standing → List ℕ → Turn
  turns zero last s t = record { written = []; left = t; after = s }
  turns (suc most) last s t =
      let x = turn last s t in
      elim x.written [ [] ↦ x | b ∷ w ↦ followed x (turns most last x.after x.left) ]
