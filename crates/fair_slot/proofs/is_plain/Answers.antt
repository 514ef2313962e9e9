-- The frame, and then the marks.
use Rattle.std.proofs.Common.{sym, ◌∙◌, arith}
use Rattle.layout.proofs.Fair.{framed-size}
use Rattle.fair_slot.proofs.Plain.{plain_other, plain_by}
use Rattle.fair_slot.proofs.is_plain.Goals as goal

pub read_u32-requires : goal.read_u32-requires
read_u32-requires c =
    let size = framed-size _ _ (sym c.is_framed.ensures ∙ c.if-is_framed.true) in omega arith

pub returns-then-is_framed : goal.returns-then-is_framed
returns-then-is_framed c = plain_by _ (sym c.is_framed.ensures ∙ c.if-is_framed.true) _ c.read_u32.ensures

pub returns-else-is_framed : goal.returns-else-is_framed
returns-else-is_framed c =
    c.if-is_framed.false ∙ plain_other _ (sym c.is_framed.ensures ∙ c.if-is_framed.false)
