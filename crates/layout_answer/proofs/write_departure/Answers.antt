-- 1 and the fields of the cell, or seven zeros.
use Rattle.std.proofs.Common.{◌≡◌, ◌∙◌, ap}
use Rattle.cell.specs.declared.Cell.{Cell}
use Rattle.layout.specs.Answer.{departure_bytes, departure_size, seven_bytes}
use Rattle.layout.specs.Number.{bytes_of}
use Rattle.layout.specs.Code.{put}
use Rattle.layout_answer.specs.Code.{no_cell}
use Rattle.layout_answer.proofs.write_departure.Goals as goal

pub returns-in-Some : goal.returns-in-Some
unfolding departure_bytes
returns-in-Some c = rw c.in-Some.is c.write_seven.ensures

pub returns-in-None : goal.returns-in-None
unfolding departure_bytes bytes_of no_cell
returns-in-None c =
    let a = c.args in
    let e = c.default.ensures in
    let zero : c.default.result ≡ no_cell =
    λ k. record { input = e.0 k; output = e.1.0 k; flow = e.1.1.0 k; rank = e.1.1.1.0 k; tag = e.1.1.1.1.0 k; slot = e.1.1.1.1.1 k } in
    rw c.in-None.is
    (c.write_seven-in-None.ensures
    ∙ ap (λ (d : Cell). put a.at departure_size (seven_bytes 0 d) a.answer.now) zero)
