use Rattle.std.proofs.Common.{is_some, refl, sym, ◌∙◌, ap, arith}
use Rattle.slot_check.specs.Code.{is_section}
use Rattle.slot_check.proofs.Handed.{handing-start, handing-next}
use Rattle.slot_section.proofs.Marks.{marks-clear, below_more}
use Rattle.slot_section.proofs.Walks.{each-stop, each_next, each-end}
use Rattle.slot_check.proofs.sort_sections.Goals as goal

pub loop-input-init : goal.loop-input-init
loop-input-init c =
    record {
      rest = refl;
      marked = marks-clear;
      handing = handing-start _ _ _ _ _ refl refl refl refl;
    }

pub returns-in_err-section-clause-value : goal.returns-in_err-section-clause-value
returns-in_err-section-clause-value c =
    let a = c.args in
    let l = c.loop-input in
    ap is_some c.from_residual.ensures
    ∙ each-stop (is_section a.ports a.clock a.bytes.now) l.input 16 _ l.invariant.rest c.loop-input-test.true
    (sym c.in_err-section.ensures.sound_value)

pub loop-input-preserved : goal.loop-input-preserved
loop-input-preserved c =
    let a = c.args in
    let l = c.loop-input in
    let section = c.in_ok-section.section in
    record {
      rest =
          each_next (is_section a.ports a.clock a.bytes.now) l.input 16 _ l.invariant.rest c.loop-input-test.true
          (sym c.in_ok-section.ensures.sound_value);
      marked = below_more _ _ _ (omega arith) c.in_ok-section.ensures.marks_below_2;
      handing =
          handing-next a.bytes.now l.sets.listed l.sets.heads l.sets.crossed l.sets.buffered l.input l.invariant.handing
          c.loop-input-test.true section.listed section.heads section.crossed section.buffered
          c.in_ok-section.ensures.sorts;
    }

pub returns-clause-value : goal.returns-clause-value
returns-clause-value c =
    let a = c.args in
    let l = c.loop-input in
    each-end (is_section a.ports a.clock a.bytes.now) l.input 16 _ l.invariant.rest c.loop-input-test.false
