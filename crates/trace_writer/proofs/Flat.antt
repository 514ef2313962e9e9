-- Contents lent as two lists:
--     all_few-                     the test that no count is above the limit
--     fit_together-, fit_left-       the test that the lists fit together, count by count
--     length-, -fits               the arrivals and the slots that the lists hold
--     has_text-flat                 whether they are the contents of some text
--     arrivals_text-, slots_text-    their text, one by one
use Prim.Native.Nat.{ℕ, zero, suc, ◌+◌, ◌*◌, ◌-◌, ◌≤◌, ◌<◌}
use native.Mathlib.Omega.{arith}
use native.Mathlib.Numerals.{add-one}
use mathlib.Core.Bool.{Bool, true, false, ◌&&◌, and-true, and_comm}
use mathlib.Core.List.{List, [], ◌∷◌, ◌++◌, append_assoc}
use mathlib.Core.Path.{◌≡◌, refl, sym, ap, ap₂, ◌∙◌}
use borrow.Author.Tests.{eqb-true, eq-eqb, ne_eqb, leb-true, le-leb}
use mir.Syntax.{w32}
use mir.Val.{Fits}
use lib.Dec.{leb, eqb}
use lib.ListN.{length, get_or, drop, drop_of_length-le}
use lib.Seq.{drop-cons, get_or-drop}
use Rattle.std.specs.Bool.{MatchBool}
use Rattle.std.specs.List.{AllWithin, HoldsAt}
use Rattle.laws.specs.Lists.{all?}
use Rattle.laws.proofs.Tests.{same}
use Rattle.laws.proofs.Lists.{all?-nil, all?-cons, all?-at, all?-places}
use Rattle.cell.specs.Cell.{arrival_fits}
use Rattle.cell.specs.Limits.{fits32, clock_end}
use Rattle.trace.specs.declared.Key.TheVariants.{Slot, End}
use Rattle.trace.specs.Line.{line}
use Rattle.trace.specs.Contents.{arrival_text, arrivals_text, slots_text, block_limit, block_fits, has_text}
use Rattle.trace.specs.Flat.{arrival_at, arrivals_from, slots_from, total, fit_together, contents_of}
use Rattle.trace.proofs.Tests.{all?-both, fits32-i}
use Rattle.trace_writer.specs.Code.{few, flat_has_text}

-- the test of all counts, by what it found

all_few-i : (l : List ℕ) → AllWithin (λ n. n ≤ block_limit) l 0 (length l) → all? few l ≡ true
all_few-i l h = all?-places few 0 l (λ k m. le-leb (get_or l k 0) block_limit (h k 0 (omega arith) m))

all_few-fail : (l : List ℕ) (k : ℕ) → block_limit < get_or l k 0 → all? few l ≡ false
all_few-fail l k h = go (all? few l) refl
  where
    go : (b : Bool) → all? few l ≡ b → all? few l ≡ false
    go false e = e
    go true e =
        let n : get_or l k 0 ≤ block_limit = leb-true _ _ (all?-at few l k 0 e refl) in
        absurd (omega arith)

pub all_few-found : (r : Bool) (l : List ℕ)
    → MatchBool r (AllWithin (λ n. n ≤ block_limit) l 0 (length l))
    ((k : ℕ) × (k < length l) × HoldsAt (λ n. block_limit < n) l k)
    → r ≡ all? few l
all_few-found true l h = sym (all_few-i l h)
all_few-found false l h = sym (all_few-fail l h.0 (h.2 0))

-- whether the lists fit together

total-drop : (l : List ℕ) (i : ℕ) → i < length l → total (drop i l) ≡ get_or l i 0 + total (drop (i + 1) l)
unfolding total
total-drop l i h = rw (add-one, drop-cons l i 0 h)

module _ (counts : List ℕ) (left i : ℕ) where
  -- the test where so many numbers are left for the counts from i on
  abbrev pub fit_left : Bool
  fit_left = eqb left (5 * total (drop i counts))

pub fit_together-start : (counts ns : List ℕ) → fit_together counts ns ≡ fit_left counts (length ns) 0
unfolding fit_together
fit_together-start counts ns = refl

module _ (counts : List ℕ) (left i : ℕ) where
  pub fit_left-more : i < length counts → 5 * get_or counts i 0 ≤ left
      → fit_left counts left i ≡ fit_left counts (left - 5 * get_or counts i 0) (i + 1)
  fit_left-more h k =
      let t = total-drop counts i h in
      same (fit_left counts left i) (fit_left counts (left - 5 * get_or counts i 0) (i + 1))
      (λ e. eq-eqb (left - 5 * get_or counts i 0) (5 * total (drop (i + 1) counts)) (omega (arith, eqb-true)))
      (λ e. eq-eqb left (5 * total (drop i counts)) (omega (arith, eqb-true)))

  pub fit_left-short : i < length counts → left < 5 * get_or counts i 0 → fit_left counts left i ≡ false
  fit_left-short h k =
      let t = total-drop counts i h in
      ne_eqb left (5 * total (drop i counts)) (omega arith)

  pub fit_left-end : length counts ≤ i → fit_left counts left i ≡ eqb left 0
  unfolding total
  fit_left-end h = rw (drop_of_length-le counts h)

-- arrivals and slots

pub length-arrivals_from : (n : ℕ) (ns : List ℕ) → length (arrivals_from n ns) ≡ n
unfolding arrivals_from
length-arrivals_from zero ns = refl
length-arrivals_from (suc n) ns = ap suc (length-arrivals_from n (drop 5 ns))

pub length-slots_from : (counts ns : List ℕ) → length (slots_from counts ns) ≡ length counts
unfolding slots_from
length-slots_from [] ns = refl
length-slots_from (n ∷ counts) ns = ap suc (length-slots_from counts (drop (5 * n) ns))

-- numbers of 32 bits
abbrev pub Fit32 : List ℕ → Type 0
Fit32 ns = (i : ℕ) → fits32 (get_or ns i 0) ≡ true

pub fit32-i : (ns : List ℕ) → ((i : ℕ) → Fits w32 (get_or ns i 0)) → Fit32 ns
fit32-i ns f i = fits32-i (get_or ns i 0) (omega (arith, f i))

fit32-drop : (k : ℕ) (ns : List ℕ) → Fit32 ns → Fit32 (drop k ns)
fit32-drop k ns f i = rw (get_or-drop k ns i 0) (f (k + i))

arrival_at-fits : (ns : List ℕ) → Fit32 ns → arrival_fits (arrival_at ns) ≡ true
unfolding arrival_fits arrival_at
arrival_at-fits ns f = rw (f 0, f 1, f 2, f 3, f 4)

pub arrivals_from-fits : (n : ℕ) (ns : List ℕ) → Fit32 ns → all? arrival_fits (arrivals_from n ns) ≡ true
unfolding arrivals_from
arrivals_from-fits zero ns f = all?-nil arrival_fits
arrivals_from-fits (suc n) ns f =
    all?-both arrival_fits (arrival_at ns) _ (arrival_at-fits ns f) (arrivals_from-fits n (drop 5 ns) (fit32-drop 5 ns f))

-- a block of such numbers fits if it has few arrivals
block_fits-from : (n : ℕ) (ns : List ℕ) → Fit32 ns → block_fits (arrivals_from n ns) ≡ few n
unfolding block_fits
block_fits-from n ns f = rw (length-arrivals_from n ns, arrivals_from-fits n ns f) (and-true (few n))

pub slots_from-fits : (counts ns : List ℕ) → Fit32 ns
    → all? block_fits (slots_from counts ns) ≡ all? few counts
unfolding slots_from
slots_from-fits [] ns f = all?-nil block_fits ∙ sym (all?-nil few)
slots_from-fits (n ∷ counts) ns f =
    all?-cons block_fits (arrivals_from n ns) (slots_from counts (drop (5 * n) ns))
    ∙ ap₂ ◌&&◌ (block_fits-from n ns f) (slots_from-fits counts (drop (5 * n) ns) (fit32-drop (5 * n) ns f))
    ∙ sym (all?-cons few n counts)

-- whether they are the contents of some text

module _ (first : ℕ) (counts ns : List ℕ) where
  -- lists that fit together are, exactly if their contents are
  pub has_text-flat : (ports : ℕ) → Fit32 ns → fit_together counts ns ≡ true
      → has_text (contents_of ports first counts ns) ≡ flat_has_text first counts ns
  unfolding flat_has_text has_text contents_of
  has_text-flat ports n f =
      rw (f, length-slots_from counts ns, slots_from-fits counts ns n)
      (and_comm (leb (first + length counts) clock_end) (all? few counts))

-- their text

arrivals_text-suc : (n : ℕ) (ns : List ℕ)
    → arrivals_text (arrivals_from (suc n) ns) ≡ arrival_text (arrival_at ns) ++ arrivals_text (arrivals_from n (drop 5 ns))
unfolding arrivals_text arrivals_from
arrivals_text-suc n ns = refl

module _ (left : ℕ) (ns : List ℕ) where
  pub arrivals_text-more : (m : ℕ) → left ≡ suc m
      → arrivals_text (arrivals_from left ns)
      ≡ arrival_text (arrival_at ns) ++ arrivals_text (arrivals_from m (drop 5 ns))
  arrivals_text-more m e = ap (λ n. arrivals_text (arrivals_from n ns)) e ∙ arrivals_text-suc m ns

  pub arrivals_text-end : left ≡ 0 → arrivals_text (arrivals_from left ns) ≡ []
  unfolding arrivals_text arrivals_from
  arrivals_text-end e = rw e

slots_text-cons : (clock n : ℕ) (counts ns : List ℕ)
    → slots_text clock (slots_from (n ∷ counts) ns)
    ≡ (line Slot clock ++ arrivals_text (arrivals_from n ns))
    ++ slots_text (clock + 1) (slots_from counts (drop (5 * n) ns))
unfolding slots_text slots_from
slots_text-cons clock n counts ns = sym (append_assoc (line Slot clock) (arrivals_text (arrivals_from n ns)) _)

module _ (clock : ℕ) (counts : List ℕ) (i : ℕ) (ns : List ℕ) where
  pub slots_text-more : i < length counts
      → slots_text (clock + i) (slots_from (drop i counts) ns)
      ≡ (line Slot (clock + i) ++ arrivals_text (arrivals_from (get_or counts i 0) ns))
      ++ slots_text (clock + (i + 1)) (slots_from (drop (i + 1) counts) (drop (5 * get_or counts i 0) ns))
  slots_text-more h =
      let n : ℕ = get_or counts i 0 in
      let e : clock + i + 1 ≡ clock + (i + 1) = omega arith in
      ap (λ l. slots_text (clock + i) (slots_from l ns)) (drop-cons counts i 0 h)
      ∙ slots_text-cons (clock + i) n (drop (suc i) counts) ns
      ∙ rw (e, add-one)

  pub slots_text-end : length counts ≤ i → slots_text (clock + i) (slots_from (drop i counts) ns) ≡ line End (clock + i)
  unfolding slots_text slots_from
  slots_text-end h = rw (drop_of_length-le counts h)
