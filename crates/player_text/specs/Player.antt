-- Scope 8: the player, as text in, text out, over any switch that answers slot calls. `play_crossbar` is
-- the player, `play_oq` that of the output-queued switch; `play_pifo` is what it would be over the PIFO switch.
use Rattle.std.specs.Prelude.{ℕ, zero, suc, ◌+◌, ◌*◌, List, ◌++◌, length}
use Rattle.std.proofs.Math.Option.{Option, some}
use Rattle.cell.specs.declared.Arrival.{Arrival}
use Rattle.cell.specs.declared.Cell.{Cell}
use Rattle.cell.specs.declared.Refusal.TheVariants.{BadLine}
use Rattle.model.specs.Checks.{Outcome, done, refused}
use Rattle.model.specs.Crossbar.{slot}
use Rattle.model.specs.Oq.{slot_oq}
use Rattle.model.specs.Pifo.{Pifo, fresh_pifo, slot_pifo}
use Rattle.model.specs.State.{Switch, fresh}
use Rattle.trace.specs.declared.Key.TheVariants.{Ports, First, Slot, End}
use Rattle.trace.specs.Line.{line}
use Rattle.trace.specs.Reader.{Cursor, slot_ahead, finished, faulty, next, opened, refused_at, header}
use Rattle.trace.specs.Lines.{departures_text, refusal_text}

-- A switch as the player sees it: fresh, and one slot, which gives the departures and the switch after it.
pub record Machine (S : Type 0) : Type 0 where
  pub fresh : ℕ → ℕ → S
  pub slot : S → List Arrival → Outcome (List (Option Cell) × S)

-- a refusal that names a record names its `in` line, and 3 the `slot` line
unfoldable pub line_of : ℕ → ℕ → ℕ
line_of slot_line zero = slot_line
line_of slot_line (suc k) = slot_line + 1 + 5 * k

module _ {S : Type 0} (m : Machine S) where
  -- per slot `slot` and its departures, then `end`; on a refusal `refused` and `line` instead of the rest, and nothing
  -- of the refused block
  unfoldable pub play_from : ℕ → ℕ → S → Cursor → List ℕ
  play_from zero clock s c = refusal_text BadLine c.line
  play_from (suc most) clock s c =
      elim (next clock c) [
        | finished ↦ line End clock
        | faulty l ↦ refusal_text BadLine l
        | slot_ahead records d ↦ elim (m.slot s records) [
          | refused r place ↦ refusal_text r (line_of c.line place)
          | done x ↦ line Slot clock ++ (departures_text x.0 ++ play_from most (clock + 1) x.1 d)
        ]
      ]

  -- `ports`, `first`, then the slots; if `ports` or `first` is at fault, the two lines of the refusal are all
  unfoldable pub play : List ℕ → List ℕ
  play t =
      elim (header t) [
        | refused_at r l ↦ refusal_text r l
        | opened ports first c ↦
            line Ports ports ++ (line First first ++ play_from (length c.text) first (m.fresh ports first) c)
      ]

unfoldable pub crossbar : Machine Switch
crossbar =
    record {
      fresh = fresh;
      slot = λ s records. elim (slot s (some records)) [
        | done c ↦ done (c.departures, c.switch)
        | refused r place ↦ refused r place
      ];
    }

unfoldable pub oq : Machine Switch
oq =
    record {
      fresh = fresh;
      slot = λ s records. elim (slot_oq s (some records)) [
        | done d ↦ done (d.departures, d.switch)
        | refused r place ↦ refused r place
      ];
    }

unfoldable pub pifo : Machine Pifo
pifo =
    record {
      fresh = fresh_pifo;
      slot = λ s records. elim (slot_pifo s (some records)) [
        | done c ↦ done (c.departures, c.pifo)
        | refused r place ↦ refused r place
      ];
    }

unfoldable pub play_crossbar : List ℕ → List ℕ
play_crossbar = play crossbar

unfoldable pub play_oq : List ℕ → List ℕ
play_oq = play oq

unfoldable pub play_pifo : List ℕ → List ℕ
play_pifo = play pifo
