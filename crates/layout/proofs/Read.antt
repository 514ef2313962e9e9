-- What a host reads after a slot call on the table of a sound switch: the slot's answer, whatever its outcome.
--     answer-read     the whole answer, by the result and the answer's bytes
--     outputs-read    all sixteen departures of a slot that ran: none at the outputs that the switch does not have
use Prim.Native.Nat.{ℕ, ◌-◌}
use native.Mathlib.Omega.{arith}
use mathlib.Core.Bool.{true}
use mathlib.Core.List.{List, ◌++◌}
use mathlib.Core.Option.{Option, none, some}
use mathlib.Core.Path.{◌≡◌, refl, sym, ap, ◌∙◌}
use borrow.Author.Tests.{ne_eqb}
use lib.ListN.{length, drop}
use Rattle.cell.specs.declared.Arrival.{Arrival}
use Rattle.cell.specs.Limits.{port_limit}
use Rattle.model.specs.Checks.{Outcome, done, refused, no_departures}
use Rattle.model.specs.Crossbar.{Course, answer_of, slot_answer, slot}
use Rattle.model.specs.Emulation.{lent}
use Rattle.model.specs.Sound.{sound}
use Rattle.model.specs.State.{Switch}
use Rattle.model.proofs.CheckOrder.{slot-broken}
use Rattle.layout.specs.Answer.{departures_in, answer_bytes, answer_in, answer_read}
use Rattle.layout.specs.Host.{result_of, filled, answer_after}
use Rattle.layout.proofs.Answer.{answer_bytes-outputs, answer_in-answer_bytes}
use Rattle.layout.proofs.Host.{result-refused}
use Rattle.layout.proofs.Limits.{Goes, goes}

module _ (s : Switch) (a : Option (List Arrival)) (h : sound s ≡ true) (l : lent a ≡ true) where
  -- a slot that ran was lent whole records
  slot-goes : (c : Course) → slot s a ≡ done c → Goes s c
  unfolding lent
  slot-goes c e = go a refl
    where
      go : (b : Option (List Arrival)) → a ≡ b → Goes s c
      go none p =
          let never : ◌≡◌ {A = ℕ} 0 1 = cc (slot-broken s) in
          absurd (omega arith)
      go (some records) p = goes s records h (sym (ap lent p) ∙ l) c (sym (ap (slot s) p) ∙ e)

  pub answer-read : (buffer : List ℕ) (o : Outcome Course) → slot s a ≡ o
      → answer_read s.ports (result_of o) (answer_after buffer o) ≡ slot_answer s.ports o
  unfolding answer_read result_of answer_after slot_answer filled answer_of
  answer-read buffer (done c) e =
      let g = slot-goes c e in
      let rest : List ℕ = drop (length (answer_bytes (answer_of c))) buffer in
      ap (λ n. answer_in n (answer_bytes (answer_of c) ++ rest)) (sym g.outputs)
      ∙ answer_in-answer_bytes (answer_of c) rest g.few g.fit g.first g.second g.outputs_one g.held_one
      g.outputs_two g.held_two
  answer-read buffer (refused r place) e = rw (ne_eqb _ 0 (result-refused Course r place), answer_read)

  pub outputs-read : (buffer : List ℕ) (c : Course) → slot s a ≡ done c
      → departures_in port_limit (answer_after buffer (done c)) ≡ c.departures ++ no_departures (port_limit - s.ports)
  unfolding answer_after filled answer_of
  outputs-read buffer c e =
      let g = slot-goes c e in
      answer_bytes-outputs (answer_of c) (drop (length (answer_bytes (answer_of c))) buffer) g.few g.fit
      ∙ ap (λ n. c.departures ++ no_departures (port_limit - n)) g.outputs
