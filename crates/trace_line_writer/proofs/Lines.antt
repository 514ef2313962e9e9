-- Line after line:
--     lines_text-more, -end, -append   the lines from one on, and those of two lists
--     put-one, put-two, put-five       one line, two, and five
--     ends-more, ends-all              they are measured from the first to the last
--     back-start, -line, -room, -done  they are written from the last to the first
use Rattle.std.proofs.Common.{◌≡◌, ℕ, ◌+◌, ◌≤◌, ◌<◌, List, [], ◌∷◌, ◌++◌, length, get_or, drop, arith, refl, sym, ap, ◌∙◌, append_assoc, length-append}
use Rattle.std.specs.List.{push}
use Rattle.std.proofs.lemmas.List.{at_drop_more, at_drop_all, drop_at, drop_all, append-nil}
use Rattle.trace.specs.Line.{line}
use Rattle.trace_line_writer.specs.declared.TraceLine.{TraceLine}
use Rattle.trace_line_writer.specs.Writing.{last_place, place_after, lines_text, Ends, Put}
use Rattle.trace_line_writer.specs.Code.{Written}
use Rattle.trace_line_writer.proofs.Pour.{written_then}

-- the line at a place
abbrev pub line_at : List TraceLine → ℕ → TraceLine → List ℕ
line_at ls i d = line (get_or ls i d).key (get_or ls i d).number

pub lines_text-more : (ls : List TraceLine) (i : ℕ) (d : TraceLine) → i < length ls
    → lines_text (drop i ls) ≡ line_at ls i d ++ lines_text (drop (i + 1) ls)
unfolding lines_text
lines_text-more ls i d h = at_drop_more lines_text ls i d h

pub lines_text-end : (ls : List TraceLine) (i : ℕ) → length ls ≤ i → lines_text (drop i ls) ≡ []
unfolding lines_text
lines_text-end ls i h = at_drop_all lines_text ls i h

pub lines_text-append : (a b : List TraceLine) → lines_text (a ++ b) ≡ lines_text a ++ lines_text b
unfolding lines_text
lines_text-append [] b = refl
lines_text-append (l ∷ a) b =
    ap (λ t. line l.key l.number ++ t) (lines_text-append a b) ∙ sym (append_assoc (line l.key l.number) (lines_text a) (lines_text b))

pub put-one : {b c : List ℕ} {at next : ℕ} (l : TraceLine) → Put b at (lines_text (l ∷ [])) c next
    → Put b at (line l.key l.number) c next
unfolding lines_text
put-one l p = rw append-nil at p

pub put-two : {b c : List ℕ} {at next : ℕ} (l m : TraceLine) → Put b at (lines_text (l ∷ m ∷ [])) c next
    → Put b at (line l.key l.number ++ line m.key m.number) c next
unfolding lines_text
put-two l m p = rw append-nil at p

lines_text-five : (ls : List TraceLine) (d : TraceLine) → length ls ≡ 5
    → lines_text ls ≡ line_at ls 0 d ++ (line_at ls 1 d ++ (line_at ls 2 d ++ (line_at ls 3 d ++ line_at ls 4 d)))
lines_text-five ls d h =
    rw (
      lines_text-more ls 0 d (omega (arith, h)),
      lines_text-more ls 1 d (omega (arith, h)),
      lines_text-more ls 2 d (omega (arith, h)),
      lines_text-more ls 3 d (omega (arith, h)),
      lines_text-more ls 4 d (omega (arith, h)),
      lines_text-end ls 5 (omega (arith, h)),
      append-nil,
    ) refl

pub put-five : {b c : List ℕ} {at next : ℕ} (ls : List TraceLine) (d : TraceLine) → length ls ≡ 5
    → Put b at (line_at ls 0 d ++ (line_at ls 1 d ++ (line_at ls 2 d ++ (line_at ls 3 d ++ line_at ls 4 d)))) c next
    → Put b at (lines_text ls) c next
put-five ls d h p = rw (lines_text-five ls d h) p

-- what is left to measure

module _ (at : ℕ) (ls : List TraceLine) {end : ℕ} where
  pub ends-more : {next : ℕ} (i : ℕ) (d : TraceLine) → i < length ls → end ≤ last_place
      → place_after end (length (lines_text (drop i ls))) ≡ place_after at (length (lines_text ls))
      → Ends end (line_at ls i d) next
      → (next ≤ last_place) × (place_after next (length (lines_text (drop (i + 1) ls))) ≡ place_after at (length (lines_text ls)))
  ends-more i d h w e p =
      let n = ap length (lines_text-more ls i d h) in
      let m = length-append (line_at ls i d) (lines_text (drop (i + 1) ls)) in
      (omega (arith, p.place), omega (arith, p.place, n, m))

  pub ends-all : (i : ℕ) → length ls ≤ i → end ≤ last_place
      → place_after end (length (lines_text (drop i ls))) ≡ place_after at (length (lines_text ls))
      → Ends at (lines_text ls) end
  ends-all i h w e = record { place = omega (arith, ap length (lines_text-end ls i h)) }

-- the lines behind those that are left stand before the end

pub record Back (buffer : List ℕ) (end : ℕ) (ls left : List TraceLine) (after : List ℕ) (start : ℕ) : Type 0 where
  pub split : ls ≡ left ++ drop (length left) ls
  pub done : Written buffer end (lines_text (drop (length left) ls)) after start

module _ {b : List ℕ} {end : ℕ} {ls : List TraceLine} where
  pub back-start : {left : List TraceLine} → left ≡ ls → Back b end ls left b end
  back-start e =
      rw e
      (record {
        split = rw (drop_all (length ls) ls (omega arith)) (sym (append-nil ls));
        done = rw (lines_text-end ls (length ls) (omega arith)) (record { bytes = refl; starts = omega arith });
      })

  module _ {left : List TraceLine} (front : List TraceLine) (l : TraceLine) {c : List ℕ} {start : ℕ}
      (e : left ≡ push front l) (p : Back b end ls left c start) where
    back-split : ls ≡ front ++ (l ∷ drop (length left) ls)
    back-split = p.split ∙ ap (λ x. x ++ drop (length left) ls) e ∙ append_assoc front (l ∷ []) (drop (length left) ls)

    back-drop : drop (length front) ls ≡ l ∷ drop (length left) ls
    back-drop = ap (drop (length front)) back-split ∙ drop_at front (l ∷ drop (length left) ls) (length front) refl

    back-text : lines_text (drop (length front) ls) ≡ line l.key l.number ++ lines_text (drop (length left) ls)
    unfolding lines_text
    back-text = ap lines_text back-drop

    pub back-room : (at : ℕ) → at + length (lines_text ls) ≡ end → length (line l.key l.number) ≤ start
    back-room at h =
        let m = ap length (lines_text-append front (l ∷ drop (length left) ls)) in
        omega (
          arith,
          p.done.starts,
          ap (λ x. length (lines_text x)) back-split,
          m,
          length-append (lines_text front) (lines_text (l ∷ drop (length left) ls)),
          ap (λ x. length (lines_text x)) back-drop,
          ap length back-text,
          length-append (line l.key l.number) (lines_text (drop (length left) ls)),
        )

    pub back-line : {d : List ℕ} {next : ℕ} → Written c start (line l.key l.number) d next → Back b end ls front d next
    back-line w = record { split = rw back-drop back-split; done = rw back-text (written_then p.done w) }

  pub back-done : {left : List TraceLine} {c : List ℕ} {start : ℕ} → length left ≡ 0 → Back b end ls left c start
      → Written b end (lines_text ls) c start
  back-done e p = rw e at p.done
