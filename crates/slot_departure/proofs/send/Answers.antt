-- Output by output, the answer has the departures of those passed.
use Rattle.std.proofs.Common.{◌≡◌, ◌*◌, ◌<◌, length, sym, ◌∙◌, ap, arith}
use mathlib.Core.List.{map}
use mathlib.Core.Option.{none}
use Rattle.layout.specs.Answer.{departure_bytes, departure_size}
use Rattle.layout.specs.Code.{put}
use Rattle.slot_departure.specs.Code.{departure_at}
use Rattle.slot_departure.proofs.Sending.{get_d_map, sent, sent-none, sent-more, sent-all}
use Rattle.slot_departure.proofs.send.Goals as goal

pub loop-output-init : goal.loop-output-init
loop-output-init c =
    sent-none (map (departure_at c.args.table.now) c.args.best.now) c.args.answer.now c.requires.2

pub loop-output-preserved : goal.loop-output-preserved
loop-output-preserved c =
    let loop = c.loop-output in
    let one = c.send_one in
    let table = c.args.table.now in
    let numbers = c.args.best.now in
    let within : loop.output < length numbers = omega (arith, c.loop-output-test.true, c.requires.1) in
    sent-more (map (departure_at table) numbers) c.args.answer.now c.requires.2 loop.output loop.answer one.new.answer
    c.loop-output-test.true loop.invariant
    (one.ensures
    ∙ ap (λ d. put (departure_size * loop.output) departure_size (departure_bytes d) loop.answer)
    (sym (get_d_map (departure_at table) numbers loop.output 0 none within)))

pub returns : goal.returns
returns c =
    let loop = c.loop-output in
    let ds = map (departure_at c.args.table.now) c.args.best.now in
    let last : loop.output ≡ 16 = omega arith in
    loop.invariant ∙ ap (sent ds c.args.answer.now) last ∙ sent-all ds c.args.answer.now c.requires.2
