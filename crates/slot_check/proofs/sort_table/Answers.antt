-- Each rule in turn: one that is broken, or none.
use Rattle.std.proofs.Common.{◌≡◌, List, ℕ, is_some, false, sym, ◌∙◌, ap}
use mathlib.Core.Path.{ap₂}
use Rattle.laws.specs.Lists.{all?, between}
use Rattle.laws.proofs.Tests.{clash, by-fail, same}
use Rattle.cell.specs.Limits.{ports_in_range}
use Rattle.layout.specs.Entry.{clock_in}
use Rattle.layout.specs.Table.{is_table}
use Rattle.layout_table.proofs.Places.{known_bytes}
use Rattle.slot_check.specs.Code.{is_section}
use Rattle.slot_check.proofs.Accepted.{Table, is_table-i, is_table-e, ports_in_range-e}
use Rattle.slot_check.proofs.sort_table.Goals as goal

fails : (bs : List ℕ) → (Table bs → ⊥) → false ≡ is_table bs
fails bs broken = sym (by-fail _ (λ t. broken (is_table-e bs t)))

pub returns-then-bytes-ne-TABLE_BYTES-clause-value : goal.returns-then-bytes-ne-TABLE_BYTES-clause-value
returns-then-bytes-ne-TABLE_BYTES-clause-value c =
    fails c.args.bytes.now (λ t. c.if-bytes-ne-TABLE_BYTES.true t.size)

pub returns-then-read_u32-ne-LAYOUT-clause-value : goal.returns-then-read_u32-ne-LAYOUT-clause-value
returns-then-read_u32-ne-LAYOUT-clause-value c =
    fails c.args.bytes.now (λ t. c.if-read_u32-ne-LAYOUT.true (c.read_u32.ensures ∙ t.layout))

pub returns-then-not-ports_in_range-clause-value : goal.returns-then-not-ports_in_range-clause-value
returns-then-not-ports_in_range-clause-value c =
    fails c.args.bytes.now
    (λ t.
    clash (ap ports_in_range c.read_u32-ports.ensures ∙ t.ports)
    (sym c.ports_in_range.ensures ∙ c.if-not-ports_in_range.true))

pub returns-then-read_u32-ne0-clause-value : goal.returns-then-read_u32-ne0-clause-value
returns-then-read_u32-ne0-clause-value c =
    fails c.args.bytes.now (λ t. c.if-read_u32-ne0.true (c.read_u32-2.ensures ∙ t.zeros))

pub sort_sections-requires : goal.sort_sections-requires
sort_sections-requires c = (
  c.if-bytes-ne-TABLE_BYTES.false,
  ports_in_range-e c.read_u32-ports.result (sym c.ports_in_range.ensures ∙ c.if-not-ports_in_range.false),
)

pub returns-clause-value : goal.returns-clause-value
unfolding clock_in
returns-clause-value c =
    let bs = c.args.bytes.now in
    let whole =
    c.sort_sections.ensures.value
    ∙ ap₂ (λ ports clock. all? (is_section ports clock bs) (between 0 16)) c.read_u32-ports.ensures c.clock_of.ensures in
    same (is_some c.sort_sections.result) (is_table bs)
    (λ t.
    is_table-i bs (known_bytes bs c.type_inv.bytes)
    (record {
      size = c.if-bytes-ne-TABLE_BYTES.false;
      layout = sym c.read_u32.ensures ∙ c.if-read_u32-ne-LAYOUT.false;
      ports =
          ap ports_in_range (sym c.read_u32-ports.ensures)
          ∙ sym c.ports_in_range.ensures
          ∙ c.if-not-ports_in_range.false;
      zeros = sym c.read_u32-2.ensures ∙ c.if-read_u32-ne0.false;
      sections = sym whole ∙ t;
    }))
    (λ t. whole ∙ (is_table-e bs t).sections)
