-- What is known of a waiting cell: its number is an entry's, and says its input and where it is.
use Prim.Native.Nat.{ℕ, ◌/◌, ◌<◌}
use native.Mathlib.Omega.{arith}
use mathlib.Core.Path.{◌≡◌, ◌∙◌, ap}
use mathlib.Core.List.{List, Memᴰ}
use Rattle.cell.specs.Limits.{section_room}
use Rattle.model.specs.State.{is_crossed}
use Rattle.model.specs.Phase.{Waiting}
use Rattle.layout.specs.Code.{ports_in}
use Rattle.layout_table.specs.CodeEntries.{nowhere}
use Rattle.slot_view.specs.CodeView.{waiting_at, in_table, InTable}
use Rattle.slot_view.specs.CodeScan.{Readable}
use Rattle.slot_view.proofs.Window.{in_table-e, in_table-below, waiting_at-cell, waiting_at-input, waiting_at-place}
use Rattle.slot_moves.proofs.Agreeing.{output_at, crossed_at}

module _ {table : List ℕ} (r : Readable table) (places : List ℕ) where
  -- what is known of a waiting cell
  pub record Known (e : Waiting) : Type 0 where
    pub self : e ≡ waiting_at table places e.at
    pub entry : InTable table e.at
    pub small : e.at < nowhere
    pub input : e.cell.input ≡ e.at / section_room
    pub output : e.cell.output ≡ output_at table e.at
    pub from : e.cell.input < ports_in table
    pub to : e.cell.output < ports_in table
    pub crossed : is_crossed e.place ≡ crossed_at places e.at

  pub known : {e : Waiting} → Memᴰ e (in_table table places) → Known e
  known {e} m =
      let w : (e ≡ waiting_at table places e.at) × InTable table e.at = in_table-e table places r m in
      let i : e.cell.input ≡ e.at / section_room = ap (λ x. x.cell.input) w.0 ∙ waiting_at-input table places e.at in
      let o : e.cell.output ≡ output_at table e.at =
      ap (λ x. x.cell.output) w.0 ∙ ap (λ c. c.output) (waiting_at-cell table places e.at) in
      record {
        self = w.0;
        entry = w.1;
        small = in_table-below r w.1;
        input = i;
        output = o;
        from = omega (arith, w.1.input);
        to = omega (arith, r.outputs e.at w.1);
        crossed = ap (λ x. is_crossed x.place) w.0 ∙ ap is_crossed (waiting_at-place table places e.at);
      }
