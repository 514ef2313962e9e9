-- Putting texts into a buffer:
--     sets-             stores of two texts, in either order
--     put-, poured-     a text that was measured
--     written-, left-   one that is written from its end, and what is left of it in a loop
--     tried-, rest-     one that is put line after line, and what is left of it in a loop
use Prim.Native.Nat.{ℕ, suc, ◌+◌, ◌-◌, ◌≤◌, ◌<◌}
use native.Mathlib.Omega.{arith}
use native.Mathlib.Nat.{add-zero, add-suc, suc-add}
use native.Mathlib.Numerals.{add-one}
use mathlib.Core.Bool.{Bool, true, false}
use mathlib.Core.List.{List, [], ◌∷◌, ◌++◌, append_assoc}
use mathlib.Core.Path.{◌≡◌, refl, sym, ap, ◌∙◌}
use borrow.Author.Tests.{leb-true, leb-false, le-leb, lt-leb}
use lib.Dec.{leb}
use lib.ListN.{length, length-append, take, drop, set, length-set, get_or}
use lib.Seq.{set_comm, sets, length-sets, sets-eq, length-take-le, take-suc, take-length}
use Rattle.trace.proofs.Flat.{sets-append}
use Rattle.trace_line_writer.specs.Writing.{last_place, place_after, with_text, Ends, Put}
use Rattle.trace_line_writer.specs.Code.{Tried, Written}

-- stores

-- a store before the others may come after them
sets-set : (l : List ℕ) (i j : ℕ) (a : ℕ) (t : List ℕ) → i < j → sets (set l i a) j t ≡ set (sets l j t) i a
sets-set l i j a [] h = refl
sets-set l i j a (b ∷ t) h =
    let k : i < suc j = omega arith in
    ap (λ x. sets x (suc j) t) (set_comm l i j a b (λ e. omega (arith, e))) ∙ sets-set (set l j b) i (suc j) a t k

sets-before : (l : List ℕ) (i : ℕ) (s t : List ℕ) → sets l i (s ++ t) ≡ sets (sets l (i + length s) t) i s
sets-before l i [] t = rw add-zero
sets-before l i (a ∷ s) t =
    let k : i < suc i + length s = omega arith in
    sets-before (set l i a) (suc i) s t
    ∙ ap (λ x. sets x (suc i) s) (sets-set l i (suc i + length s) a t k)
    ∙ rw (suc-add, add-suc)

pub ends-then : {i j k : ℕ} {s t : List ℕ} → Ends i s j → Ends j t k → Ends i (s ++ t) k
ends-then {s} {t} p q = record { place = omega (arith, length-append s t) }

-- a text that was measured

-- its bytes are stored one by one
pub record Poured (buffer : List ℕ) (at : ℕ) (t : List ℕ) (after : List ℕ) (next : ℕ) : Type 0 where
  pub bytes : after ≡ sets buffer at t
  pub ends : Ends at t next

with_text-fits : (b : List ℕ) (at : ℕ) (t : List ℕ) → at + length t ≤ length b → sets b at t ≡ with_text b at t
unfolding with_text
with_text-fits b at t h =
    rw (le-leb _ _ h, with_text) (sets-eq t b at h ∙ append_assoc (take at b) t (drop (at + length t) b))

with_text-short : (b : List ℕ) (at : ℕ) (t : List ℕ) → length b < at + length t → with_text b at t ≡ b
unfolding with_text
with_text-short b at t h = rw (lt-leb _ _ h, with_text)

length-put : {b c : List ℕ} {at next : ℕ} {t : List ℕ} → Put b at t c next → length c ≡ length b
length-put {b} {c} {at} {next} {t} p = ap length p.bytes ∙ go (leb (at + length t) (length b)) refl
  where
    go : (x : Bool) → leb (at + length t) (length b) ≡ x → length (with_text b at t) ≡ length b
    go true e = ap length (sym (with_text-fits b at t (leb-true _ _ e))) ∙ length-sets b at t
    go false e = ap length (with_text-short b at t (leb-false _ _ e))

module _ {b : List ℕ} {at : ℕ} {t : List ℕ} where
  -- it does not fit, and nothing is written
  pub put-short : {end : ℕ} → Ends at t end → length b < end → Put b at t b end
  put-short e h =
      let k : length b < at + length t = omega arith in
      record { bytes = sym (with_text-short b at t k); ends = e }

  -- it fits, and stands there once it is poured
  pub put-poured : {end : ℕ} {c : List ℕ} {next : ℕ} → Ends at t end → end ≤ length b → length b < last_place
      → Poured b at t c next
      → Put b at t c next
  put-poured e h l p =
      let k : at + length t ≤ length b = omega arith in
      record { bytes = p.bytes ∙ with_text-fits b at t k; ends = p.ends }

  pub poured-put : {c : List ℕ} {next : ℕ} → at + length t ≤ length b → Put b at t c next → Poured b at t c next
  poured-put h p = record { bytes = p.bytes ∙ sym (with_text-fits b at t h); ends = p.ends }

-- a text at the start of a buffer in which it fits
pub poured-whole : {b t c : List ℕ} {next : ℕ} → length t ≤ length b → Poured b 0 t c next → c ≡ t ++ drop (length t) b
poured-whole {b} {t} h p =
    let k : 0 + length t ≤ length b = omega arith in
    let z : 0 + length t ≡ length t = omega arith in
    p.bytes ∙ sets-eq t b 0 k ∙ ap (λ n. t ++ drop n b) z

-- a text that is written from its end

pub written_then : {b c d : List ℕ} {i j k : ℕ} {s t : List ℕ} → Written b k t c j → Written c j s d i
    → Written b k (s ++ t) d i
written_then {b} {i} {s} {t} p q =
    record {
      bytes =
          q.bytes
          ∙ ap (λ x. sets x i s) p.bytes
          ∙ ap (λ x. sets (sets b x t) i s) (sym q.starts)
          ∙ sym (sets-before b i s t);
      starts = omega (arith, length-append s t, p.starts, q.starts);
    }

pub written_byte : (b : List ℕ) (end a : ℕ) → 1 ≤ end → Written b end (a ∷ []) (set b (end - 1) a) (end - 1)
written_byte b end a h = record { bytes = refl; starts = omega arith }

-- a text that is written from its start on: one byte more
pub written_more : (b text c : List ℕ) (start i : ℕ) → i < length text → c ≡ sets b start (take i text)
    → set c (start + i) (get_or text i 0) ≡ sets b start (take (i + 1) text)
written_more b text c start i more e =
    let a = get_or text i 0 in
    ap (λ x. sets x (start + i) (a ∷ [])) e
    ∙ ap (λ n. sets (sets b start (take i text)) (start + n) (a ∷ [])) (sym (length-take-le i text (omega (arith, more))))
    ∙ sym (sets-append b start (take i text) (a ∷ []))
    ∙ ap (sets b start) (sym (take-suc text i 0 more) ∙ ap (λ n. take n text) (sym (add-one i)))

-- all of it
pub written_all : {b text c : List ℕ} {end i : ℕ} → length text ≤ end → i ≡ length text
    → c ≡ sets b (end - length text) (take i text) → Written b end text c (end - length text)
written_all {b} {text} {c} {end} h k e =
    record { bytes = e ∙ ap (sets b (end - length text)) (ap (λ n. take n text) k ∙ take-length text); starts = omega (arith, h) }

-- a loop: what is left to write, and the whole

pub record Left (b₀ : List ℕ) (end : ℕ) (whole b : List ℕ) (to : ℕ) (t : List ℕ) : Type 0 where
  pub bytes : sets b (to - length t) t ≡ sets b₀ (end - length whole) whole
  pub place : to + length whole ≡ end + length t
  pub room : length t ≤ to
  pub within : to ≤ end
  pub same : length b ≡ length b₀

module _ {b₀ : List ℕ} {end : ℕ} {whole : List ℕ} where
  module _ {b : List ℕ} {place : ℕ} where
    -- the last byte
    pub left-byte : {s t : List ℕ} (a : ℕ) → t ≡ s ++ (a ∷ []) → Left b₀ end whole b place t
        → Left b₀ end whole (set b (place - 1) a) (place - 1) s
    left-byte {s} {t} a e r =
        let n : length t ≡ length s + 1 = ap length e ∙ length-append s (a ∷ []) in
        let i : place - 1 - length s ≡ place - length t = omega (arith, r.room) in
        let j : place - 1 ≡ place - length t + length s = omega (arith, r.room) in
        record {
          bytes =
              ap (λ x. sets (set b (place - 1) a) x s) i
              ∙ ap (λ x. sets (set b x a) (place - length t) s) j
              ∙ sym (sets-before b (place - length t) s (a ∷ []))
              ∙ ap (λ x. sets b (place - length t) x) (sym e)
              ∙ r.bytes;
          place = omega (arith, r.place, r.room);
          room = omega (arith, r.room);
          within = omega (arith, r.within);
          same = length-set b (place - 1) a ∙ r.same;
        }

    pub left-done : Left b₀ end whole b place [] → Written b₀ end whole b place
    left-done r =
        let e : end - length whole ≡ place = omega (arith, r.place) in
        record { bytes = r.bytes ∙ ap (λ x. sets b₀ x whole) e; starts = omega (arith, r.place) }

-- a text that is put line after line

pub tried-put : {b c : List ℕ} {at next : ℕ} {t : List ℕ} → Put b at t c next → Tried b at t c next
tried-put {b} {at} {t} p =
    record { bytes = λ h. p.bytes ∙ sym (with_text-fits b at t h); same = length-put p; ends = p.ends }

pub tried_then : {b c d : List ℕ} {i j k : ℕ} {s t : List ℕ} → length b < last_place → Tried b i s c j
    → Tried c j t d k
    → Tried b i (s ++ t) d k
tried_then {b} {c} {d} {i} {j} {k} {s} {t} l p q =
    record { bytes = both; same = q.same ∙ p.same; ends = ends-then p.ends q.ends }
  where
    both : i + length (s ++ t) ≤ length b → d ≡ sets b i (s ++ t)
    both h =
        let m : i + length s ≤ length b = omega (arith, length-append s t) in
        let e : j ≡ i + length s = omega (arith, p.ends.place) in
        let n : j + length t ≤ length c = omega (arith, length-append s t, p.same) in
        q.bytes n ∙ ap (λ x. sets x j t) (p.bytes m) ∙ ap (λ x. sets (sets b i s) x t) e ∙ sym (sets-append b i s t)

-- it was measured, and is written where it was to be
pub tried-written : {b c : List ℕ} {at end start : ℕ} {t : List ℕ} → length b < last_place → Ends at t end
    → Written b end t c start
    → Tried b at t c end
tried-written {b} {at} {start} {t} l e w =
    record {
      bytes = λ h. w.bytes ∙ ap (λ x. sets b x t) (at_place h);
      same = ap length w.bytes ∙ length-sets b start t;
      ends = e;
    }
  where
    at_place : at + length t ≤ length b → start ≡ at
    at_place h = omega (arith, e.place, w.starts)

-- it fits
pub put-tried : {b c : List ℕ} {at next : ℕ} {t : List ℕ} → next ≤ length b → length b < last_place
    → Tried b at t c next
    → Put b at t c next
put-tried {b} {at} {t} h l p =
    let k : at + length t ≤ length b = omega (arith, p.ends.place) in
    record { bytes = p.bytes k ∙ with_text-fits b at t k; ends = p.ends }

pub put_then : {b c d : List ℕ} {i j k : ℕ} {s t : List ℕ} → i + length (s ++ t) ≤ length b → length b < last_place
    → Put b i s c j
    → Put c j t d k
    → Put b i (s ++ t) d k
put_then h l p q =
    let r = tried_then l (tried-put p) (tried-put q) in
    put-tried (omega (arith, r.ends.place)) l r

tried-refl : (b : List ℕ) (at : ℕ) (t : List ℕ) → Tried b at t (sets b at t) (place_after at (length t))
tried-refl b at t = record { bytes = λ h. refl; same = length-sets b at t; ends = record { place = refl } }

pub poured-tried : {b t c : List ℕ} {next : ℕ} → length t ≤ length b → Tried b 0 t c next → Poured b 0 t c next
poured-tried {b} {t} h p = record { bytes = p.bytes (omega arith); ends = p.ends }

-- one that is put into no bytes leaves none
pub tried-none : {t c : List ℕ} {at next : ℕ} → Tried [] at t c next → c ≡ []
tried-none {c = []} p = refl
tried-none {c = a ∷ c} p = absurd (omega (arith, p.same))

-- a loop: what is left to put, and the whole

pub record Rest (b₀ : List ℕ) (at₀ : ℕ) (whole b : List ℕ) (at : ℕ) (t : List ℕ) : Type 0 where
  pub bytes : at₀ + length whole ≤ length b₀ → sets b at t ≡ sets b₀ at₀ whole
  pub place : place_after at (length t) ≡ place_after at₀ (length whole)
  pub within : at ≤ last_place
  pub same : length b ≡ length b₀

module _ {b₀ : List ℕ} {at₀ : ℕ} {whole : List ℕ} where
  module _ {b : List ℕ} {at : ℕ} where
    pub rest-step : {s t c : List ℕ} {next : ℕ} → length b₀ < last_place → Rest b₀ at₀ whole b at (s ++ t)
        → Tried b at s c next
        → Rest b₀ at₀ whole c next t
    rest-step {s} {t} {c} {next} h r p =
        let l : length b < last_place = omega (arith, r.same) in
        let e = tried_then l p (tried-refl c next t) in
        record {
          bytes = λ f. e.bytes (omega (arith, r.place, r.same)) ∙ r.bytes f;
          place = e.ends.place ∙ r.place;
          within = omega (arith, p.ends.place);
          same = p.same ∙ r.same;
        }

    pub rest_end : {t c : List ℕ} {next : ℕ} → length b₀ < last_place → Rest b₀ at₀ whole b at t → Tried b at t c next
        → Tried b₀ at₀ whole c next
    rest_end h r p =
        record {
          bytes = λ f. p.bytes (omega (arith, r.place, r.same)) ∙ r.bytes f;
          same = p.same ∙ r.same;
          ends = record { place = p.ends.place ∙ r.place };
        }

    pub rest-done : Rest b₀ at₀ whole b at [] → Tried b₀ at₀ whole b at
    rest-done r =
        record { bytes = r.bytes; same = r.same; ends = record { place = omega (arith, r.place, r.within) } }
