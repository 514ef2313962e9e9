-- The bytes of what the output sends.
use Rattle.std.proofs.Common.{◌∙◌, ap}
use Rattle.layout.specs.Answer.{departure_size, departure_bytes}
use Rattle.layout.specs.Code.{put}
use Rattle.slot_departure.proofs.send_one.Goals as goal

pub returns : goal.returns
returns c =
    let a = c.args in
    c.write_departure.ensures
    ∙ ap (λ d. put a.at departure_size (departure_bytes d) a.answer.now) c.departure_at.ensures
