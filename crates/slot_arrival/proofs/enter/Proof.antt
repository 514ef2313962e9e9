-- The entries behind its place move up, the new entry is written, and the count is raised.
use mathlib.Core.Path.{◌∙◌}
use native.Mathlib.Omega.{arith}
use borrow.Author.Rules.{rules}
use Rattle.slot_faults.proofs.Stored.{table-length, ports-below}
use Rattle.slot_arrival.proofs.Arriving.{new-written, place-within, entered-bytes}
use Rattle.slot_arrival.proofs.enter.Statement.{statement}
use Rattle.slot_arrival.proofs.enter.Tie as tie

cast-input : tie.Need-overflow_cast-input
cast-input c = search rules

count-of-requires : tie.Need-count_of-count-requires
count-of-requires c κs =
    (table-length _ c.requires.0, omega (arith, c.requires.1.0.0, ports-below _ c.requires.0))

new-place-requires : tie.Need-new_place-at-requires
new-place-requires c κs = search rules

mul-move-up : tie.Need-overflow_mul-input
mul-move-up c = search rules

add-move-up : tie.Need-overflow_add-input
add-move-up c = search rules

move-up-requires : tie.Need-move_up-requires
move-up-requires c κs =
    let input = c.requires.1.0 in
    let below = place-within _ c.requires.0 c.args.c input.0 input.1 in
    let ports = ports-below _ c.requires.0 in (
      table-length _ c.requires.0,
      omega (arith, c.count_of-count.ensures, c.new_place-at.ensures),
      omega (arith, c.count_of-count.ensures),
    )

write-entry-requires : tie.Need-write_entry-requires
write-entry-requires c κs =
    let input = c.requires.1.0 in
    let below = place-within _ c.requires.0 c.args.c input.0 input.1 in
    let ports = ports-below _ c.requires.0 in
    let fits = c.requires.1.1 in (
      (c.move_up.auto.table ∙ table-length _ c.requires.0, omega (arith, c.new_place-at.ensures)),
      (fits.0, fits.1, omega arith, omega arith),
    )

add-write-count : tie.Need-overflow_add-count
add-write-count c = search rules

write-count-requires : tie.Need-write_count-requires
write-count-requires c κs =
    let ports = ports-below _ c.requires.0 in (
      c.write_entry.auto.bytes ∙ c.move_up.auto.table ∙ table-length _ c.requires.0,
      omega (arith, c.requires.1.0.0),
      omega (arith, c.count_of-count.ensures, c.requires.1.0.1),
    )

same_length : tie.Need-shape_of-table
same_length c =
    c.write_count.auto.bytes ∙ c.write_entry.auto.bytes ∙ c.move_up.auto.table

returns : tie.Need-returns
returns c = (
  c.write_count.ensures
      ∙ entered-bytes _ c.requires.0 _ c.requires.1.0.0 c.requires.1.0.1 c.new_place-at.result
      c.count_of-count.result c.move_up.new.table c.write_entry.new.bytes c.new_place-at.ensures
      c.count_of-count.ensures c.move_up.ensures
      (c.write_entry.ensures ∙ new-written c.new_place-at.result c.args.c c.move_up.new.table),
  c.new_place-at.ensures,
)

pub enter_spec : {M : Type 1} → statement M
enter_spec =
    tie.close
    (tie.spec
    cast-input
    count-of-requires
    new-place-requires
    mul-move-up
    add-move-up
    move-up-requires
    write-entry-requires
    add-write-count
    write-count-requires
    same_length
    returns)
