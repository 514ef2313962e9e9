-- 0 where a byte is no letter; else the number of the letters, which has room in 64 bits.
use Rattle.std.proofs.Common.{◌<◌, ◌^◌, ◌∙◌, sym, arith}
use Rattle.layout.proofs.Number.{bytes?-i}
use Rattle.cue_store.proofs.NameLoops.{number-long, behind-start, behind-next, behind-other, behind-room, behind-done}
use Rattle.cue_store.proofs.name.number_of.Goals as goal

pub returns-then-name-gt-NAME_BYTES : goal.returns-then-name-gt-NAME_BYTES
returns-then-name-gt-NAME_BYTES c = number-long c.args.name.now c.if-name-gt-NAME_BYTES.true

pub loop-letter-init : goal.loop-letter-init
loop-letter-init c = (tt, tt, c.if-name-gt-NAME_BYTES.false, behind-start (cc))

pub returns-then-not-is_letter : goal.returns-then-not-is_letter
returns-then-not-is_letter c =
    behind-other _ c.in-Some.field-0.now c.in-Some.ensures.steps c.loop-letter.invariant.3
    (sym c.is_letter.ensures ∙ c.if-not-is_letter.true)

pub overflow_mul-number : goal.overflow_mul-number
overflow_mul-number c =
    let l = c.loop-letter in
    let room : l.number < 256 ^ 7 =
    behind-room _ c.in-Some.field-0.now c.in-Some.ensures.steps l.invariant.3
    (bytes?-i c.args.name.now (λ i. (c.type_inv.name i).fits)) l.invariant.2 in
    omega arith

pub overflow_add-number : goal.overflow_add-number
overflow_add-number c =
    let l = c.loop-letter in
    let room : l.number < 256 ^ 7 =
    behind-room _ c.in-Some.field-0.now c.in-Some.ensures.steps l.invariant.3
    (bytes?-i c.args.name.now (λ i. (c.type_inv.name i).fits)) l.invariant.2 in
    omega arith

pub loop-letter-preserved : goal.loop-letter-preserved
loop-letter-preserved c =
    let l = c.loop-letter in (
      tt,
      tt,
      l.invariant.2,
      rw c.from.ensures
          (behind-next _ c.in-Some.field-0.now c.in-Some.ensures.steps l.invariant.3
          (sym c.is_letter.ensures ∙ c.if-not-is_letter.false)),
    )

pub returns-then-number-eq0 : goal.returns-then-number-eq0
returns-then-number-eq0 c =
    let l = c.loop-letter in
    sym (behind-done c.in-None.ensures.steps.0 l.invariant.2 l.invariant.3) ∙ c.if-number-eq0.true

pub returns : goal.returns
returns c =
    let l = c.loop-letter in
    (behind-done c.in-None.ensures.steps.0 l.invariant.2 l.invariant.3, c.if-number-eq0.false)
