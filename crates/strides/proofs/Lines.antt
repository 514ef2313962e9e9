-- The lines, written from the last to the first.
--     line-room               there is room for the next
--     ends-none, ends-line    those written so far, at the end of the buffer
--     ends-text               all of them
use Prim.Native.Nat.{ℕ, suc, ◌+◌, ◌-◌, ◌≤◌}
use native.Mathlib.Omega.{arith}
use mathlib.Core.List.{List, [], ◌∷◌, ◌++◌, append_assoc, map, flatten}
use mathlib.Core.Path.{◌≡◌, refl, sym, ap, ap₂, subst, ◌∙◌}
use lib.ListN.{length, length-append, take, drop}
use lib.Seq.{sets-eq, length-sets, drop_at, drop-length, length-take-le}
use Rattle.laws.specs.Lists.{numbers_from}
use Rattle.laws.proofs.Lists.{flatten-map-append}
use Rattle.laws.proofs.Numbers.{numbers_from-add}
use Rattle.model.specs.Fair.{weight_limit, stride}
use Rattle.trace.specs.Line.{digits_within, decimal}
use Rattle.trace_line_writer.specs.Code.{Written}
use Rattle.strides.specs.Text.{stride_line, lines_from, strides_text}

abbrev pub size : ℕ
size = 5235

-- counted by the check
length-text : length strides_text ≡ size
unfolding strides_text lines_from stride_line numbers_from stride decimal digits_within flatten
length-text = refl

lines-add : (w n m : ℕ) → lines_from w (n + m) ≡ lines_from w n ++ lines_from (w + n) m
unfolding lines_from
lines-add w n m =
    ap (λ l. flatten (map stride_line l)) (numbers_from-add w n m)
    ∙ flatten-map-append stride_line (numbers_from w n) (numbers_from (w + n) m)

-- the lines of the weights above one
abbrev pub behind : ℕ → List ℕ
behind w = lines_from (w + 1) (weight_limit - w)

module _ (w : ℕ) (low : 1 ≤ w) (high : w ≤ weight_limit) where
  lines_next : behind (w - 1) ≡ stride_line w ++ behind w
  unfolding lines_from numbers_from flatten
  lines_next =
      let one : w - 1 + 1 ≡ w = omega arith in
      let more : weight_limit - (w - 1) ≡ suc (weight_limit - w) = omega arith in
      ap₂ lines_from one more

  lines-inside : length (stride_line w) + length (behind w) ≤ size
  unfolding strides_text
  lines-inside =
      let all : weight_limit ≡ w - 1 + (weight_limit - (w - 1)) = omega arith in
      let from : 1 + (w - 1) ≡ w - 1 + 1 = omega arith in
      let text : strides_text ≡ lines_from 1 (w - 1) ++ (stride_line w ++ behind w) =
      ap (lines_from 1) all
      ∙ lines-add 1 (w - 1) (weight_limit - (w - 1))
      ∙ ap (λ k. lines_from 1 (w - 1) ++ lines_from k (weight_limit - (w - 1))) from
      ∙ ap (λ l. lines_from 1 (w - 1) ++ l) lines_next in
      omega (
        arith,
        ap length text,
        length-text,
        length-append (lines_from 1 (w - 1)) (stride_line w ++ behind w),
        length-append (stride_line w) (behind w),
      )

-- a text stands at the end of the buffer, from a place on
pub record Ends (t out : List ℕ) (place : ℕ) : Type 0 where
  pub whole : length out ≡ size
  pub starts : place + length t ≡ size
  pub bytes : drop place out ≡ t

pub ends-none : (out : List ℕ) → length out ≡ size → Ends (behind weight_limit) out size
unfolding lines_from numbers_from flatten
ends-none out whole =
    record { whole = whole; starts = refl; bytes = ap (λ k. drop k out) (sym whole) ∙ drop-length out }

-- a line fits in front
pub line-room : (w : ℕ) → 1 ≤ w → w ≤ weight_limit → {out : List ℕ} {place : ℕ} → Ends (behind w) out place
    → length (decimal (stride w)) + 1 ≤ place
unfolding stride_line
line-room w low high e =
    omega (arith, lines-inside w low high, length-append (decimal (stride w)) (10 ∷ []), e.starts)

ends-then : {s t out after : List ℕ} {place start : ℕ} → Ends t out place → Written out place s after start
    → Ends (s ++ t) after start
ends-then {s} {t} {out} {after} {place} {start} e w =
    record {
      whole = ap length w.bytes ∙ length-sets out start s ∙ e.whole;
      starts = omega (arith, length-append s t, w.starts, e.starts);
      bytes =
          ap (drop start)
          (w.bytes ∙ sets-eq s out start inside ∙ append_assoc (take start out) s (drop (start + length s) out))
          ∙ drop_at (take start out) (s ++ drop (start + length s) out) start
          (length-take-le start out (omega (arith, inside)))
          ∙ ap (λ k. s ++ drop k out) w.starts
          ∙ ap (λ l. s ++ l) e.bytes;
    }
  where
    inside : start + length s ≤ length out
    inside = omega (arith, w.starts, e.starts, e.whole)

-- one more line
pub ends-line : (w : ℕ) → 1 ≤ w → w ≤ weight_limit → {out after : List ℕ} {place start : ℕ} → Ends (behind w) out place
    → Written out place (stride_line w) after start
    → Ends (behind (w - 1)) after start
ends-line w low high {after} {start} e l =
    subst (λ t. Ends t after start) (sym (lines_next w low high)) (ends-then e l)

pub ends-text : (out : List ℕ) (place : ℕ) → Ends (behind 0) out place → out ≡ strides_text
unfolding strides_text
ends-text out place e =
    let first : place ≡ 0 = omega (arith, e.starts, length-text) in
    ap (λ k. drop k out) (sym first) ∙ e.bytes
