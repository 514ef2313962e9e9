-- What was found so far is Asking's, proposal by proposal.
use Rattle.std.proofs.Common.{◌≡◌, length, rules, arith}
use Rattle.layout.specs.Table.{entry_limit}
use Rattle.slot_matching.proofs.Asking.{asking-start, asking-next, asking-few, asked-output}
use Rattle.slot_matching.proofs.After.{asking-after}
use Rattle.slot_matching.proofs.Found.{found}
use Rattle.slot_matching.proofs.find_matching.Goals as goal

pub loop-input-init : goal.loop-input-init
loop-input-init c =
    let size : length c.args.candidates ≡ 16 = search rules in
    (entry_limit, asking-start _ _ c.requires.to_outputs size, omega arith)

pub loop-asked-init : goal.loop-asked-init
loop-asked-init c =
    let l = c.loop-input in
    rw c.next_in-asked.ensures
    (asking-next _ _ c.requires.to_outputs _ _ _ _ _ l.invariant.1 l.invariant.2 c.loop-input-test.true)

pub propose-asked-requires : goal.propose-asked-requires
propose-asked-requires c =
    let asks = c.loop-asked-test.true in
    (c.requires.table_len, asks, asked-output _ _ c.requires.to_outputs _ _ _ _ _ c.loop-asked.invariant asks)

pub overflow_add-proposals : goal.overflow_add-proposals
overflow_add-proposals c =
    record { fits = omega (arith, asking-few _ _ c.requires.to_outputs _ _ _ _ _ c.loop-asked.invariant) }

pub loop-asked-smaller : goal.loop-asked-smaller
loop-asked-smaller c =
    let to = c.requires.to_outputs in
    let a =
    asking-after _ _ to _ _ _ _ _ c.loop-asked.invariant c.loop-asked-test.true _ _ _ c.propose-asked.ensures in
    omega (arith, asking-few _ _ to _ _ _ _ _ a)

pub loop-asked-preserved : goal.loop-asked-preserved
loop-asked-preserved c =
    asking-after _ _ c.requires.to_outputs _ _ _ _ _ c.loop-asked.invariant c.loop-asked-test.true _ _ _
    c.propose-asked.ensures

pub loop-input-preserved : goal.loop-input-preserved
loop-input-preserved c = (_, c.loop-asked.invariant, c.loop-asked-test.false)

pub returns : goal.returns
returns c =
    let l = c.loop-input in
    let all : l.input ≡ 16 = omega arith in
    found _ _ c.requires.to_outputs _ _ _ _ (rw all at l.invariant.1) l.invariant.2
