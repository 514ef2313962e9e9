-- A fault, or the slot of the cells with the ranks made, and what is remembered.
use Rattle.std.proofs.Common.{◌≡◌, ℕ, List, ◌-◌, length, take, drop, map, sym, ap, ◌∙◌, arith}
use borrow.Rule.Slice.PartMut.{put_mid, same_len_mid}
use Rattle.laws.specs.Lists.{all?}
use Rattle.cell.specs.Checked.{no_fault}
use Rattle.cell.proofs.Checked.{handed_on}
use Rattle.model.specs.CodeFair.{rankable}
use Rattle.model.specs.Fair.{make}
use Rattle.layout.specs.Fair.{core_start, memory_start, fair_size, fair_of, memory_in}
use Rattle.layout.specs.Memory.{memory_of}
use Rattle.layout.specs.Table.{table_size}
use Rattle.layout_table.proofs.Places.{known_bytes}
use Rattle.slot_faults.proofs.Faults.{clear-not}
use Rattle.fair_faults.specs.CodeFairFault.{fair_fault_in}
use Rattle.fair_slot.proofs.Runs.{runs-refused, runs-ranked, made-clear, runs-made}
use Rattle.fair_slot.proofs.Tables.{Parts, parts, memory-part, core-kept}
use Rattle.fair_slot.proofs.sound_slot.Goals as goal
use Rattle.fair_slot.proofs.sound_slot.Goals.{After-table_fault, After-sound_slot}

module _ (c : After-table_fault) where
  known : Parts c.args.table.now
  known = parts _ (known_bytes _ c.slice_known-1.given) c.requires.sound

  found : c.table_fault.result ≡ fair_fault_in (fair_of c.args.table.now).core (fair_of c.args.table.now).memory c.args.records.now
  unfolding fair_of
  found = c.table_fault.ensures

  -- the memory, as it is lent
  memory-is : memory_of (take (length c.args.table.now - memory_start) (drop memory_start c.args.table.now))
      ≡ (fair_of c.args.table.now).memory
  unfolding fair_of
  memory-is = ap memory_of (memory-part c.args.table.now)

pub table_fault-requires-clause-table_len : goal.table_fault-requires-clause-table_len
table_fault-requires-clause-table_len c = (parts _ (known_bytes _ c.slice_known-1.given) c.requires.sound).size

pub table_fault-requires-clause-core : goal.table_fault-requires-clause-core
table_fault-requires-clause-core c = (parts _ (known_bytes _ c.slice_known-1.given) c.requires.sound).core

pub returns-in_err-table_fault : goal.returns-in_err-table_fault
returns-in_err-table_fault c =
    let a = c.args in
    runs-refused a.table.now a.answer.now a.records.now _ _
    (sym (found (goal.at.returns-in_err-table_fault c).After-table_fault) ∙ c.in_err-table_fault.was)
    (handed_on _ _ c.from_residual.ensures.1)

pub slice_bounds-make_ranks-count : goal.slice_bounds-make_ranks-count
slice_bounds-make_ranks-count c =
    let size = (known (goal.at.slice_bounds-make_ranks-count c).After-table_fault).size in omega arith

pub slice_bounds-make_ranks-start : goal.slice_bounds-make_ranks-start
slice_bounds-make_ranks-start c =
    let size = (known (goal.at.slice_bounds-make_ranks-start c).After-table_fault).size in omega arith

pub make_ranks-requires-clause-memory_len : goal.make_ranks-requires-clause-memory_len
make_ranks-requires-clause-memory_len c =
    ap length (memory-part c.args.table.now)
    ∙ (known (goal.at.make_ranks-requires-clause-memory_len c).After-table_fault).remembers

pub make_ranks-requires-clause-all_rankable : goal.make_ranks-requires-clause-all_rankable
make_ranks-requires-clause-all_rankable c =
    let a = c.args in
    let at = (goal.at.make_ranks-requires-clause-all_rankable c).After-table_fault in
    ap (λ m. all? (rankable m) a.records.now) (memory-is at)
    ∙ runs-ranked a.table.now a.answer.now a.records.now (sym (found at) ∙ c.in_ok-table_fault.was)

pub slice_bounds-sound_slot-end : goal.slice_bounds-sound_slot-end
slice_bounds-sound_slot-end c =
    let size = (known (goal.at.slice_bounds-sound_slot-end c).After-table_fault).size in omega arith

pub sound_slot-requires-clause-table : goal.sound_slot-requires-clause-table
sound_slot-requires-clause-table c = (known (goal.at.sound_slot-requires-clause-table c).After-table_fault).core

-- the cells took the slot
module _ (c : After-sound_slot) where
  abbrev core : List ℕ
  core = c.sound_slot.new.table

  abbrev halfway : List ℕ
  halfway = put_mid core_start table_size c.args.table.now core

  whole : Parts c.args.table.now
  whole = parts _ (known_bytes _ c.slice_known-1.given) c.requires.sound

  -- they are as many bytes as before
  cells-many : length core ≡ table_size
  cells-many = omega (arith, whole.cells)

  -- and the table is as long as it was
  halfway-size : length halfway ≡ fair_size
  halfway-size =
      same_len_mid core_start table_size c.args.table.now core (cells-many ∙ sym whole.cells) ∙ whole.size

  -- the memory then, as it is lent
  memory-then : take (length halfway - memory_start) (drop memory_start halfway) ≡ memory_in c.args.table.now
  memory-then = memory-part halfway ∙ core-kept c.args.table.now core whole.size cells-many

  memory_kept : memory_of (take (length halfway - memory_start) (drop memory_start halfway))
      ≡ (fair_of c.args.table.now).memory
  unfolding fair_of
  memory_kept = ap memory_of memory-then

  clear : c.table_fault.result ≡ no_fault
      → fair_fault_in (fair_of c.args.table.now).core (fair_of c.args.table.now).memory c.args.records.now ≡ no_fault
  unfolding fair_of
  clear was = sym c.table_fault.ensures ∙ was

  -- the ranks were made from the memory of the table
  ranked : c.make_ranks.new.records ≡ map (make (fair_of c.args.table.now).memory) c.args.records.now
  unfolding fair_of
  ranked =
      c.make_ranks.ensures
      ∙ ap (λ l. map (make (memory_of l)) c.args.records.now) (memory-part c.args.table.now)

pub returns-in_err-sound_slot : goal.returns-in_err-sound_slot
returns-in_err-sound_slot c =
    let a = c.args in
    let at = (goal.at.returns-in_err-sound_slot c).After-sound_slot in
    let ran =
    made-clear a.table.now a.answer.now a.records.now (clear at c.in_ok-table_fault.was)
    (known_bytes _ c.slice_known-1.given) c.requires.sound c.requires.fits c.requires.room c.make_ranks.new.records
    (ranked at) c.sound_slot.result c.sound_slot.new.table c.sound_slot.new.answer c.sound_slot.ensures in
    absurd (clear-not (sym ran ∙ c.in_err-sound_slot.was))

pub slice_bounds-remember-count : goal.slice_bounds-remember-count
slice_bounds-remember-count c =
    let size = halfway-size (goal.at.slice_bounds-remember-count c).After-sound_slot in omega arith

pub slice_bounds-remember-start : goal.slice_bounds-remember-start
slice_bounds-remember-start c =
    let size = halfway-size (goal.at.slice_bounds-remember-start c).After-sound_slot in omega arith

pub remember-requires : goal.remember-requires
remember-requires c =
    let at = (goal.at.remember-requires c).After-sound_slot in
    (ap length (memory-then at) ∙ (whole at).remembers, omega (arith, c.requires.room, c.sound_slot.auto.answer))

pub returns : goal.returns
returns c =
    let a = c.args in
    let at = (goal.at.returns c).After-sound_slot in
    runs-made a.table.now a.answer.now a.records.now (clear at c.in_ok-table_fault.was)
    (known_bytes _ c.slice_known-1.given) c.requires.sound c.requires.fits c.requires.room c.make_ranks.new.records
    (ranked at) no_fault c.sound_slot.new.table c.sound_slot.new.answer
    (sym c.in_ok-sound_slot.was ∙ c.sound_slot.ensures.0, c.sound_slot.ensures.1) c.remember.new.memory _
    (memory_kept at) c.remember.ensures (known_bytes _ c.type_inv.table)
    (c.remember.auto.memory ∙ ap length (memory-then at) ∙ (whole at).remembers)
