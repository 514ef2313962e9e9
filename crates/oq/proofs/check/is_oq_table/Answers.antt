-- Each test in turn.
use Rattle.std.proofs.Common.{sym, ◌∙◌}
use borrow.Author.Tests.{eqb-true, eqb-false}
use Rattle.layout_table.proofs.Places.{known_bytes}
use Rattle.oq.proofs.Checked.{other-size, other-number, by-inner}
use Rattle.oq.proofs.check.is_oq_table.Goals as goal
use Rattle.oq.proofs.check.is_oq_table.Goals.{then-table-eq-OQ_TABLE_BYTES, else-table-eq-OQ_TABLE_BYTES}

pub returns-then-read_u32-eq-OQ_NUMBER : goal.returns-then-read_u32-eq-OQ_NUMBER
returns-then-read_u32-eq-OQ_NUMBER c =
    elim c.if-table-eq-OQ_TABLE_BYTES.branch [
      | then-table-eq-OQ_TABLE_BYTES w ↦
          by-inner _ (known_bytes _ c.type_inv.table) w.if-table-eq-OQ_TABLE_BYTES.true
          (sym w.read_u32.ensures ∙ eqb-true _ _ (sym w.value-is ∙ c.if-read_u32-eq-OQ_NUMBER.true)) _ c.is_buffered.ensures
      | else-table-eq-OQ_TABLE_BYTES w ↦
          absurd (w.if-table-eq-OQ_TABLE_BYTES.false (eqb-true _ _ (sym w.value-is ∙ c.if-read_u32-eq-OQ_NUMBER.true)))
    ]

pub returns-else-read_u32-eq-OQ_NUMBER : goal.returns-else-read_u32-eq-OQ_NUMBER
returns-else-read_u32-eq-OQ_NUMBER c =
    c.if-read_u32-eq-OQ_NUMBER.false
    ∙ elim c.if-table-eq-OQ_TABLE_BYTES.branch [
      | then-table-eq-OQ_TABLE_BYTES w ↦
          other-number _ (known_bytes _ c.type_inv.table)
          (λ e. eqb-false _ _ (sym w.value-is ∙ c.if-read_u32-eq-OQ_NUMBER.false) (w.read_u32.ensures ∙ e))
      | else-table-eq-OQ_TABLE_BYTES w ↦
          other-size _ (known_bytes _ c.type_inv.table) w.if-table-eq-OQ_TABLE_BYTES.false
    ]
