-- The lines that the player writes: how long they are, and that they stand at the start of the buffer.
--     line-le, refusal-le   how many bytes lines have
--     line-slot, line-record    the line that a refusal names
--     put-nothing           no text is put anywhere
--     wrote-put, wrote-refusal  a text that is put at the start
--     wrote-two             one that is put in two parts
use Prim.Native.Nat.{ℕ, zero, suc, ◌+◌, ◌*◌, ◌-◌, ◌^◌, ◌≤◌, ◌<◌}
use native.Mathlib.Omega.{arith}
use mathlib.Core.Bool.{Bool, true, false}
use mathlib.Core.List.{List, [], ◌++◌}
use mathlib.Core.Path.{◌≡◌, refl}
use borrow.Author.Tests.{leb-true, leb-false}
use lib.Dec.{leb}
use lib.ListN.{length, length-append}
use Rattle.cell.specs.declared.Refusal.{Refusal}
use Rattle.cell.specs.Limits.{fits32}
use Rattle.cell.specs.Refusal.{number}
use Rattle.cell.proofs.RefusalNumbers.{number-range}
use Rattle.trace.specs.declared.Key.{Key}
use Rattle.trace.specs.declared.Key.TheVariants.{Refused, Line}
use Rattle.trace.specs.Line.{line}
use Rattle.trace.proofs.Lengths.{length-key_text-le, length-decimal-below, length-line, length-line-le}
use Rattle.trace.proofs.Tests.{fits32-i}
use Rattle.trace.specs.Lines.{refusal_text}
use Rattle.trace_line_writer.specs.Writing.{last_place, Ends, Put}
use Rattle.trace_line_writer.proofs.Pour.{put-short, put-poured, poured-put, poured-whole, put_then}
use Rattle.layout.specs.Host.{filled}
use Rattle.player_text.specs.Player.{line_of}
use Rattle.player_lines.specs.Writing.{turn_room, Wrote}

-- how long they are

pub line-le : (k : Key) (n : ℕ) → fits32 n ≡ true → length (line k n) ≤ 19
line-le k n h = omega (arith, length-line-le k n h, length-key_text-le k)

pub refusal-le : (r : Refusal) (l : ℕ) → l < 2 ^ 64 → length (refusal_text r l) ≤ 48
unfolding refusal_text
refusal-le r l h =
    let n : fits32 (number r) ≡ true = fits32-i (number r) (omega (arith, (number-range r).1)) in
    omega (
      arith,
      length-append (line Refused (number r)) (line Line l),
      line-le Refused (number r) n,
      length-line Line l,
      length-key_text-le Line,
      length-decimal-below 19 l (omega arith),
    )

-- the line that a refusal names

pub line-slot : (l place : ℕ) → place ≡ 0 → l ≡ line_of l place
unfolding line_of
line-slot l zero h = refl
line-slot l (suc k) h = absurd (omega arith)

pub line-record : (l place : ℕ) → (place ≡ 0 → ⊥) → l + 1 + 5 * (place - 1) ≡ line_of l place
unfolding line_of
line-record l zero h = absurd (h refl)
line-record l (suc k) h = omega arith

-- where they stand

pub put-nothing : (b : List ℕ) (at : ℕ) → at ≤ last_place → length b < last_place → Put b at [] b at
put-nothing b at h l = go (leb at (length b)) refl
  where
    ends : Ends at [] at
    ends = record { place = omega arith }

    go : (x : Bool) → leb at (length b) ≡ x → Put b at [] b at
    go true e = put-poured ends (leb-true _ _ e) l (record { bytes = refl; ends = ends })
    go false e = put-short ends (leb-false _ _ e)

pub wrote-put : {b t c : List ℕ} {n : ℕ} → length t ≤ length b → length b < last_place → Put b 0 t c n → Wrote t b c n
unfolding filled
wrote-put {b} {t} h l p =
    let k : 0 + length t ≤ length b = omega arith in
    record { bytes = poured-whole h (poured-put k p); count = omega (arith, p.ends.place) }

-- the lines of a refusal have room
pub wrote-refusal : {b c : List ℕ} {n : ℕ} (r : Refusal) (l : ℕ) → l < 2 ^ 64 → turn_room ≤ length b
    → length b < last_place
    → Put b 0 (refusal_text r l) c n
    → Wrote (refusal_text r l) b c n
wrote-refusal r l h room end p = wrote-put (omega (arith, refusal-le r l h)) end p

pub wrote-two : {b c d s t : List ℕ} {j n : ℕ} → length s + length t ≤ length b → length b < last_place → Put b 0 s c j
    → Put c j t d n
    → Wrote (s ++ t) b d n
wrote-two {b} {s} {t} h l p q =
    let k : length (s ++ t) ≤ length b = omega (arith, length-append s t) in
    let m : 0 + length (s ++ t) ≤ length b = omega arith in
    wrote-put k l (put_then m l p q)
