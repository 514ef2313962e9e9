-- The writer's steps, and what it answers:
--     rest-arrival, rest-slot   an arrival and a slot of those that are left to put
--     tried-contents            a header and slots
--     write-                    what the writer answers, test by test
--     write_flat-read            what it wrote is read back
use Prim.Native.Nat.{ℕ, suc, ◌+◌, ◌*◌, ◌≤◌, ◌<◌}
use native.Mathlib.Omega.{arith}
use mathlib.Core.Bool.{Bool, true, false}
use mathlib.Core.List.{List, [], ◌++◌, append_assoc}
use mathlib.Core.Path.{◌≡◌, refl, sym, ap, ◌∙◌}
use borrow.Author.Tests.{le-leb, lt-leb}
use lib.ListN.{length, get_or, drop}
use Rattle.cell.specs.declared.Arrival.{Arrival}
use Rattle.std.proofs.Common.{Result, Ok, Err}
use Rattle.trace.specs.declared.Key.TheVariants.{Ports, First, Slot, End}
use Rattle.trace.specs.Line.{line}
use Rattle.cell.specs.declared.Refusal.{Refusal}
use Rattle.cell.specs.declared.Refusal.TheVariants.{BadSize, BadLine, ShortBuffer}
use Rattle.cell.specs.Limits.{ports_in_range}
use Rattle.trace.specs.Contents.{Contents, arrival_text, arrivals_text, slots_text, text, has_text}
use Rattle.trace.specs.Contents.{Written, write, wrote, turned_back}
use Rattle.trace.specs.Flat.{arrival_at, arrivals_from, slots_from, fit_together, contents_of}
use Rattle.trace.specs.Flat.{write_flat, output_of, buffer_after}
use Rattle.trace_line_writer.specs.Writing.{last_place, Put}
use Rattle.trace.specs.Reader.{accepted, read}
use Rattle.laws.proofs.Tests.{and_l}
use Rattle.trace.proofs.RoundTrip.{write-bad-line, write-short, write-fits, write_read}
use Rattle.trace_writer.proofs.Flat.{Fit32, has_text-flat}
use Rattle.trace_writer.proofs.Flat.{arrivals_text-more, slots_text-more, slots_text-end}
use Rattle.trace_line_writer.proofs.Pour.{poured-whole, poured-tried, tried-put, tried_then, tried-none}
use Rattle.trace_line_writer.proofs.Pour.{Rest, rest-step, rest_end}
use Rattle.trace_line_writer.specs.Code.{Tried}
use Rattle.trace_writer.specs.Code.{flat_has_text}

-- what is left to put

module _ {b₀ : List ℕ} {at₀ : ℕ} {whole b : List ℕ} {at : ℕ} (room : length b₀ < last_place) where
  -- an arrival
  pub rest-arrival : (left m : ℕ) (ns : List ℕ) {a : Arrival} {l c : List ℕ} {next : ℕ} → left ≡ suc m
      → Rest b₀ at₀ whole b at (arrivals_text (arrivals_from left ns))
      → a ≡ arrival_at ns
      → Put b at (arrival_text a) c next
      → l ≡ drop 5 ns
      → Rest b₀ at₀ whole c next (arrivals_text (arrivals_from m l))
  rest-arrival left m ns h r e p d =
      rw d (rest-step room (rw (arrivals_text-more left ns m h) at r) (tried-put (rw e at p)))

  -- slot i
  pub rest-slot : (clock : ℕ) (counts : List ℕ) (i : ℕ) (ns : List ℕ) {l c : List ℕ} {next : ℕ} → i < length counts
      → Rest b₀ at₀ whole b at (slots_text (clock + i) (slots_from (drop i counts) ns))
      → Tried b at (line Slot (clock + i) ++ arrivals_text (arrivals_from (get_or counts i 0) ns)) c next
      → l ≡ drop (5 * get_or counts i 0) ns
      → Rest b₀ at₀ whole c next (slots_text (clock + (i + 1)) (slots_from (drop (i + 1) counts) l))
  rest-slot clock counts i ns h r p d = rw d (rest-step room (rw (slots_text-more clock counts i ns h) at r) p)

  -- no slot is left, and `end` follows
  pub rest-slots-end : (clock : ℕ) (counts : List ℕ) (i : ℕ) (ns : List ℕ) {c : List ℕ} {next : ℕ}
      → i ≡ length counts
      → Rest b₀ at₀ whole b at (slots_text (clock + i) (slots_from (drop i counts) ns))
      → Put b at (line End (clock + length counts)) c next
      → Tried b₀ at₀ whole c next
  rest-slots-end clock counts i ns h r p =
      rest_end room (rw (slots_text-end clock counts i ns (omega arith)) at r) (tried-put (rw (← h) at p))

-- the header and the slots
pub tried-contents : {b c d : List ℕ} {i j : ℕ} (ports first : ℕ) (counts ns : List ℕ) → length b < last_place
    → Put b 0 (line Ports ports ++ line First first) c i
    → Tried c i (slots_text first (slots_from counts ns)) d j
    → Tried b 0 (text (contents_of ports first counts ns)) d j
unfolding text contents_of
tried-contents ports first counts ns h p q =
    let slots : List ℕ = slots_text first (slots_from counts ns) in
    rw (append_assoc (line Ports ports) (line First first) slots) at (tried_then h (tried-put p) q)

-- what the writer answers, and what it leaves of the buffer

abbrev pub Answers : Written → List ℕ → Result ℕ Refusal → List ℕ → Type 0
Answers w b r c = (r ≡ output_of w) × (c ≡ buffer_after w b)

answers-refused : {w : Written} {x : Refusal} {b c : List ℕ} → w ≡ turned_back x → c ≡ b → Answers w b (Err x) c
unfolding output_of buffer_after
answers-refused e d = rw e (refl, d)

answers-wrote : {w : Written} {t c : List ℕ} (b : List ℕ) {r : ℕ} → w ≡ wrote t → r ≡ length t
    → c ≡ t ++ drop (length t) b
    → Answers w b (Ok r) c
unfolding output_of buffer_after
answers-wrote b e l d = rw e (ap Ok l, d)

module _ (ports first : ℕ) (counts ns : List ℕ) (room : ℕ) where
  write_flat-size : ports_in_range ports ≡ false → write_flat ports first counts ns room ≡ turned_back BadSize
  unfolding write_flat
  write_flat-size r = rw (r, write_flat)

  module _ (r : ports_in_range ports ≡ true) where
    write_flat-apart : fit_together counts ns ≡ false → write_flat ports first counts ns room ≡ turned_back BadLine
    unfolding write_flat
    write_flat-apart f = rw (r, f, write_flat)

    write_flat-together : fit_together counts ns ≡ true
        → write_flat ports first counts ns room ≡ write (contents_of ports first counts ns) room
    unfolding write_flat
    write_flat-together f = rw (r, f, write_flat)

module _ (ports first : ℕ) (counts ns b : List ℕ) where
  -- the contents, and what the writer answers for them
  abbrev contents : Contents
  contents = contents_of ports first counts ns

  abbrev written : Written
  written = write_flat ports first counts ns (length b)

  pub write-size : ports_in_range ports ≡ false → Answers written b (Err BadSize) b
  write-size r = answers-refused (write_flat-size ports first counts ns (length b) r) refl

  module _ (r : ports_in_range ports ≡ true) (n : Fit32 ns) where
    pub write-no-text : flat_has_text first counts ns ≡ false → Answers written b (Err BadLine) b
    unfolding contents_of
    write-no-text h = answers-refused (go (fit_together counts ns) refl) refl
      where
        go : (x : Bool) → fit_together counts ns ≡ x → written ≡ turned_back BadLine
        go false f = write_flat-apart ports first counts ns (length b) r f
        go true f =
            write_flat-together ports first counts ns (length b) r f
            ∙ write-bad-line contents (length b) r (has_text-flat first counts ns ports n f ∙ h)

    module _ (h : flat_has_text first counts ns ≡ true) where
      together : fit_together counts ns ≡ true
      unfolding flat_has_text
      together = and_l (fit_together counts ns) _ h

      has-text : has_text contents ≡ true
      has-text = has_text-flat first counts ns ports n together ∙ h

      written-together : written ≡ write contents (length b)
      written-together = write_flat-together ports first counts ns (length b) r together

      -- the text was measured, and does not fit, or fits and was written
      module _ {c : List ℕ} {size : ℕ} (p : Tried [] 0 (text contents) c size) where
        same-room : length (c ++ b) ≡ length b
        same-room = rw (tried-none p)

        pub write-too-long : length (c ++ b) < size → Answers written b (Err ShortBuffer) (c ++ b)
        unfolding contents_of
        write-too-long l =
            let s : length b < length (text contents) = omega (arith, same-room, p.ends.place) in
            answers-refused (written-together ∙ write-short contents (length b) r has-text (lt-leb _ _ s))
            (rw (tried-none p))

        pub write-whole : {d : List ℕ} {next : ℕ} → size ≤ length (c ++ b) → length b < last_place
            → Tried (c ++ b) 0 (text contents) d next
            → Answers written b (Ok next) d
        unfolding contents_of
        write-whole l m q =
            let t : List ℕ = text contents in
            let s : length t ≤ length b = omega (arith, same-room, p.ends.place) in
            answers-wrote b (written-together ∙ write-fits contents (length b) r has-text (le-leb _ _ s))
            (omega (arith, q.ends.place))
            (poured-whole s (poured-tried s (rw (tried-none p) at q)))

-- what was written is read back as the contents that were lent
pub write_flat-read : (ports first : ℕ) (counts ns : List ℕ) (room : ℕ) (t : List ℕ)
    → write_flat ports first counts ns room ≡ wrote t → read t ≡ accepted (contents_of ports first counts ns)
write_flat-read ports first counts ns room t w =
    go (ports_in_range ports) refl (fit_together counts ns) refl
  where
    c : Contents
    c = contents_of ports first counts ns

    go : (x : Bool) → ports_in_range ports ≡ x → (y : Bool) → fit_together counts ns ≡ y → read t ≡ accepted c
    go false r y f = cc (write_flat-size ports first counts ns room r)
    go true r false f = cc (write_flat-apart ports first counts ns room r f)
    go true r true f = write_read c room t (sym (write_flat-together ports first counts ns room r f) ∙ w)
