-- The departures of an answer as text.
--     sent-none, sent-some      what one departure is
--     departure-le, departures-le   how many bytes they have
--     departures-more, put-more one output more
--     departures-taken          those of the slot that the bytes answer
use Prim.Native.Nat.{ℕ, zero, suc, ◌+◌, ◌*◌, ◌-◌, ◌≤◌, ◌<◌}
use native.Mathlib.Numerals.{add-one}
use native.Mathlib.Omega.{arith}
use mathlib.Core.Bool.{Bool, true, false}
use mathlib.Core.List.{List, [], ◌∷◌, ◌++◌, append_assoc, append-nil}
use mathlib.Core.Option.{Option, none, some}
use mathlib.Core.Path.{◌≡◌, refl, sym, ap, ◌∙◌}
use borrow.Author.Tests.{eqb-true, eqb-false, eq-eqb, ne_eqb}
use lib.Dec.{eqb, lit≤}
use lib.ListN.{length, take, drop, length-append, length-drop, take-append-drop}
use lib.Seq.{drop-drop, length-take-le}
use Rattle.cell.specs.declared.Cell.{Cell}
use Rattle.cell.specs.Limits.{port_limit}
use Rattle.laws.specs.Lists.{all?}
use Rattle.model.specs.Checks.{no_departures}
use Rattle.trace.specs.declared.Key.TheVariants.{In, Out, Flow, Rank, Tag}
use Rattle.trace.specs.Ascii.{ascii}
use Rattle.trace.specs.Line.{key_name, key_text}
use Rattle.trace.specs.Lines.{departure_text, departures_text}
use Rattle.trace.proofs.Lengths.{length-line-le}
use Rattle.trace_line_writer.specs.Writing.{last_place, Put}
use Rattle.trace_line_writer.proofs.Pour.{put_then}
use Rattle.layout.specs.Answer.{departure_size, departures_size, departures_bytes, departure_in, departures_in, cell_in}
use Rattle.layout.specs.Number.{word}
use Rattle.layout.proofs.Answer.{departure_fits, departures_in-all}
use Rattle.layout.proofs.Number.{bytes?, bytes?-take, bytes?-drop, word_fits}

-- one departure

pub sent-none : (bs : List ℕ) → word bs 0 ≡ 0 → departure_in bs ≡ none
unfolding departure_in
sent-none bs h = rw (eq-eqb (word bs 0) 0 h, departure_in)

pub sent-some : (bs : List ℕ) → (word bs 0 ≡ 0 → ⊥) → departure_in bs ≡ some (cell_in bs)
unfolding departure_in
sent-some bs h = rw (ne_eqb (word bs 0) 0 h, departure_in)

cell-le : (bs : List ℕ) → bytes? bs ≡ true → length bs ≡ departure_size → length (departure_text (some (cell_in bs))) ≤ 76
unfolding departure_text key_text key_name ascii
cell-le bs h size =
    let i = length-line-le In (word bs 4) (word_fits bs 4 h (rw size (lit≤ tt))) in
    let o = length-line-le Out (word bs 8) (word_fits bs 8 h (rw size (lit≤ tt))) in
    let f = length-line-le Flow (word bs 12) (word_fits bs 12 h (rw size (lit≤ tt))) in
    let r = length-line-le Rank (word bs 16) (word_fits bs 16 h (rw size (lit≤ tt))) in
    let t = length-line-le Tag (word bs 20) (word_fits bs 20 h (rw size (lit≤ tt))) in
    simp length-append (omega arith)

pub departure-le : (bs : List ℕ) → bytes? bs ≡ true → length bs ≡ departure_size
    → length (departure_text (departure_in bs)) ≤ 76
unfolding departure_text
departure-le bs h size = go (eqb (word bs 0) 0) refl
  where
    go : (b : Bool) → eqb (word bs 0) 0 ≡ b → length (departure_text (departure_in bs)) ≤ 76
    go true e = rw (sent-none bs (eqb-true (word bs 0) 0 e)) (lit≤ tt)
    go false e = rw (sent-some bs (eqb-false (word bs 0) 0 e)) (cell-le bs h size)

-- the departures of the outputs

pub departures-le : (n : ℕ) (bs : List ℕ) → bytes? bs ≡ true → departure_size * n ≤ length bs
    → length (departures_text (departures_in n bs)) ≤ 76 * n
unfolding departures_text departures_in
departures-le zero bs h room = lit≤ tt
departures-le (suc n) bs h room =
    let few : departure_size ≤ length bs = omega arith in
    let rest : departure_size * n ≤ length (drop departure_size bs) = omega (arith, length-drop departure_size bs) in
    omega (
      arith,
      length-append (departure_text (departure_in (take departure_size bs)))
          (departures_text (departures_in n (drop departure_size bs))),
      departure-le (take departure_size bs) (bytes?-take departure_size bs h) (length-take-le departure_size bs few),
      departures-le n (drop departure_size bs) (bytes?-drop departure_size bs h) rest,
    )

-- the departure of an output
abbrev pub sent_at : ℕ → List ℕ → List ℕ
sent_at n bs = take departure_size (drop (departure_size * n) bs)

departures-suc : (n : ℕ) (bs : List ℕ)
    → departures_text (departures_in (suc n) bs)
    ≡ departures_text (departures_in n bs) ++ departure_text (departure_in (sent_at n bs))
unfolding departures_text departures_in
departures-suc zero bs = append-nil (departure_text (departure_in (take departure_size bs)))
departures-suc (suc n) bs =
    let at : departure_size + departure_size * n ≡ departure_size * suc n = omega arith in
    let this : List ℕ = departure_text (departure_in (take departure_size bs)) in
    ap (λ t. this ++ t)
    (departures-suc n (drop departure_size bs)
    ∙ ap (λ l. departures_text (departures_in n (drop departure_size bs))
    ++ departure_text (departure_in (take departure_size l)))
    (drop-drop (departure_size * n) departure_size bs ∙ ap (λ k. drop k bs) at))
    ∙ sym (append_assoc this _ _)

pub departures-more : (n : ℕ) (bs : List ℕ)
    → departures_text (departures_in n bs) ++ departure_text (departure_in (sent_at n bs))
    ≡ departures_text (departures_in (n + 1) bs)
departures-more n bs = sym (ap (λ k. departures_text (departures_in k bs)) (add-one n) ∙ departures-suc n bs)

-- one departure more is put, behind those that are
module _ (b answer : List ℕ) (at : ℕ) (bytes : bytes? answer ≡ true) (all : departures_size ≤ length answer)
    (room : at + 1216 ≤ length b) (end : length b < last_place) where
  pub put-more : {c d : List ℕ} {place next : ℕ} (n : ℕ) → n < 16
      → Put b at (departures_text (departures_in n answer)) c place
      → Put c place (departure_text (departure_in (take (departure_size * n + departure_size - departure_size * n) (drop (departure_size * n) answer)))) d next
      → Put b at (departures_text (departures_in (n + 1) answer)) d next
  put-more {d} {next} n h p q =
      let wide : departure_size * n + departure_size - departure_size * n ≡ departure_size = omega arith in
      let more = departures-more n answer in
      let fits : departure_size * (n + 1) ≤ length answer = omega arith in
      let less : at + length (departures_text (departures_in (n + 1) answer)) ≤ length b =
      omega (arith, departures-le (n + 1) answer bytes fits) in
      rw more at (put_then (rw more less) end p (rw wide at q))

-- the departures of a slot

text-none : (k : ℕ) → departures_text (no_departures k) ≡ []
unfolding departures_text departure_text no_departures
text-none zero = refl
text-none (suc k) = text-none k

-- outputs that send none have no text
text-sent : (ds : List (Option Cell)) (k : ℕ) → departures_text (ds ++ no_departures k) ≡ departures_text ds
unfolding departures_text
text-sent [] k = text-none k
text-sent (d ∷ ds) k = ap (λ t. departure_text d ++ t) (text-sent ds k)

pub departures-taken : (ds : List (Option Cell)) (answer : List ℕ)
    → take departures_size answer ≡ departures_bytes port_limit ds → length ds ≤ port_limit → all? departure_fits ds ≡ true
    → departures_text (departures_in port_limit answer) ≡ departures_text ds
departures-taken ds answer same few h =
    ap (λ bs. departures_text (departures_in port_limit bs))
    (sym (take-append-drop departures_size answer) ∙ ap (λ bs. bs ++ drop departures_size answer) same)
    ∙ ap departures_text
    (departures_in-all port_limit ds (port_limit - length ds) (drop departures_size answer) h (omega arith))
    ∙ text-sent ds (port_limit - length ds)
