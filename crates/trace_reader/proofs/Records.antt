-- The arrivals of a block as the code stores them, and what it answers:
--     stored-snoc                 one arrival more among the numbers
--     Walked                      how far the arrivals of a block are read, and what is stored of them
--     walked_start, -more         where the walk begins, and one arrival further
--     walked_stop, -full, -bad    where it ends
use Prim.Native.Nat.{ℕ, suc, ◌+◌, ◌*◌, ◌-◌, ◌≤◌, ◌<◌}
use native.Mathlib.Omega.{arith}
use mathlib.Core.Bool.{Bool, true, false}
use mathlib.Core.List.{List, [], ◌∷◌, ◌++◌, append_assoc, append-nil}
use mathlib.Core.Path.{◌≡◌, refl, sym, ap, ap₂, ◌∙◌}
use lib.ListN.{length, drop, length-append, length-drop}
use lib.Seq.{sets, drop-drop}
use Rattle.cell.specs.declared.Arrival.{Arrival}
use Rattle.trace.specs.declared.Key.TheVariants.{In}
use Rattle.trace.specs.declared.Answer.{Answer}
use Rattle.trace.specs.declared.Answer.TheVariants.{Slot, Bad}
use Rattle.std.specs.Prelude.{Result, Ok, Err}
use Rattle.trace.specs.Contents.{block_limit}
use Rattle.trace.specs.Reader.{from, Cursor, got, bad_at, begins, arrival, arrivals}
use Rattle.trace.specs.Piece.{known, numbers_of, answer_of}
use Rattle.trace_reader.specs.Reading.{stored, whole_arrivals, numbers_after}
use Rattle.trace.proofs.Flat.{numbers_of-append, length-numbers_of, sets-append}
use Rattle.trace_line_reader.proofs.Lines.{rest, rest-drop, length_rest}
use Rattle.trace_reader.proofs.Arrivals.{came-bad, came-whole, onto, onto-nil, onto-none, onto-stop, onto-bad, onto-more}
use Rattle.trace_reader.specs.Code.{came_of, ahead}

-- one arrival more among the numbers
stored-snoc : (rs : List Arrival) (a : Arrival) (ns : List ℕ)
    → sets (stored rs ns) (5 * length rs) (numbers_of (a ∷ [])) ≡ stored (rs ++ (a ∷ [])) ns
stored-snoc rs a ns =
    let n : 0 + length (numbers_of rs) ≡ 5 * length rs = omega (arith, length-numbers_of rs) in
    ap (λ n. sets (sets ns 0 (numbers_of rs)) n (numbers_of (a ∷ []))) (sym n)
    ∙ sym (sets-append ns 0 (numbers_of rs) (numbers_of (a ∷ [])))
    ∙ ap (λ v. sets ns 0 v) (sym (numbers_of-append rs (a ∷ [])))

-- the walk

-- k arrivals are read and stored, and the text from `at` on is left
pub record Walked (t : List ℕ) (start : ℕ) (ns stores : List ℕ) (at k : ℕ) : Type 0 where
  pub most : ℕ
  pub rs : List Arrival
  pub count : length rs ≡ k
  pub left : k + most ≡ block_limit
  pub within : at ≤ length t
  pub held : stores ≡ stored rs ns
  pub same : arrivals block_limit (from 1 (drop start t)) ≡ onto rs (arrivals most (from (5 * k + 1) (drop at t)))
  pub whole : whole_arrivals block_limit (from 1 (drop start t)) ≡ rs ++ whole_arrivals most (from (5 * k + 1) (drop at t))

pub walked_start : (t : List ℕ) (start : ℕ) (ns : List ℕ) → start ≤ length t → Walked t start ns ns start 0
unfolding numbers_of
walked_start t start ns h = record {
  most = block_limit;
  rs = [];
  count = refl;
  left = refl;
  within = h;
  held = refl;
  same = onto-nil (arrivals block_limit (from 1 (drop start t)));
  whole = refl;
}

begins-at : (l : ℕ) (t : List ℕ) (at : ℕ) {b : Bool} → begins In (from 0 (rest t at)) ≡ b
    → begins In (from l (drop at t)) ≡ b
unfolding begins
begins-at l t at h = rw (← (rest-drop t at)) h

-- what is answered and what is stored once the arrivals are read
abbrev Done : List ℕ → ℕ → List ℕ → Answer → List ℕ → Type 0
Done t start ns r stores =
    (r ≡ answer_of t (known (ahead (arrivals block_limit (from 1 (drop start t))))))
    × (stores ≡ numbers_after (whole_arrivals block_limit (from 1 (drop start t)))
    (known (ahead (arrivals block_limit (from 1 (drop start t))))) ns)

module _ {t : List ℕ} {start : ℕ} {ns stores : List ℕ} {at k : ℕ} (w : Walked t start ns stores at k) where
  here : Cursor
  here = from (5 * k + 1) (drop at t)

  -- what is read so far is all
  walked_end : {l : ℕ} → onto w.rs (arrivals w.most here) ≡ got w.rs (from l (drop at t))
      → Done t start ns (Slot k at l) stores
  unfolding answer_of ahead numbers_after here
  walked_end {l} e =
      let n : at ≡ length t - length (drop at t) = omega (arith, length-drop at t, w.within) in
      rw (w.same ∙ e, ahead)
      (ap (λ n. Slot n at l) (sym w.count) ∙ ap (λ i. Slot (length w.rs) i l) n, w.held)

  -- a line that does not begin `in=`
  pub walked_stop : begins In (from 0 (rest t at)) ≡ false → Done t start ns (Slot k at (5 * k + 1)) stores
  unfolding here
  walked_stop h = walked_end (onto-stop w.rs w.most here (begins-at (5 * k + 1) t at h))

  -- the 16th arrival
  pub walked-full : block_limit ≤ k → Done t start ns (Slot 16 at 81) stores
  unfolding here
  walked-full h =
      let x : k ≡ 16 = omega (arith, w.left) in
      let y : w.most ≡ 0 = omega (arith, w.left) in
      let z : 5 * k + 1 ≡ 81 = omega arith in
      let d = walked_end (ap (λ m. onto w.rs (arrivals m here)) y ∙ onto-none w.rs here) in
      (ap₂ (λ n l. Slot n at l) (sym x) (sym z) ∙ d.0, d.1)

  module _ (f : k < block_limit) (b : begins In (from 0 (rest t at)) ≡ true)
      {r : Result (Arrival × ℕ) ℕ} (e : r ≡ came_of (rest t at) (arrival (from (5 * k + 1) (rest t at)))) where
    one_less : w.most ≡ suc (15 - k)
    one_less = omega (arith, w.left)

    -- a bad line
    pub walked-bad : {l : ℕ} → r ≡ Err l → Done t start ns (Bad l) stores
    unfolding answer_of ahead numbers_after here whole_arrivals
    walked-bad {l} h =
        let a : arrival here ≡ bad_at l = rw rest-drop at (came-bad (5 * k + 1) (rest t at) e h) in
        let i : begins In here ≡ true = begins-at (5 * k + 1) t at b in
        let q : whole_arrivals (suc (15 - k)) here ≡ [] = rw (i, whole_arrivals, a) in
        let x = w.whole
        ∙ ap (λ m. w.rs ++ whole_arrivals m here) one_less
        ∙ ap (λ l. w.rs ++ l) q
        ∙ append-nil w.rs in
        rw (w.same ∙ ap (λ m. onto w.rs (arrivals m here)) one_less ∙ onto-bad w.rs (15 - k) here i a, ahead)
        (refl, w.held ∙ ap (λ rs. stored rs ns) (sym x))

    -- one arrival further
    pub walked_more : {a : Arrival} {i : ℕ} → r ≡ Ok (a, i)
        → {more : List ℕ} → more ≡ sets stores (5 * k) (numbers_of (a ∷ []))
        → Walked t start ns more (at + i) (k + 1)
    unfolding here whole_arrivals
    walked_more {a} {i} h s =
        let (g, j) = came-whole (5 * k + 1) (rest t at) e h in
        let there : Cursor = from (5 * (k + 1) + 1) (drop (at + i) t) in
        let x : drop i (rest t at) ≡ drop (at + i) t = rw rest-drop (drop-drop i at t) in
        let y : 5 * k + 1 + 5 ≡ 5 * (k + 1) + 1 = omega arith in
        let z : from (5 * k + 1 + 5) (drop i (rest t at)) ≡ there = λ q. record { line = y q; text = x q } in
        let p : arrival here ≡ got a there = rw rest-drop at (g ∙ ap (got a) z) in
        let n : length (rest t at) ≡ length t - at = length_rest t at in
        let u : begins In here ≡ true = begins-at (5 * k + 1) t at b in
        let v : whole_arrivals (suc (15 - k)) here ≡ a ∷ whole_arrivals (15 - k) there = rw (u, whole_arrivals, p) in
        record {
          most = 15 - k;
          rs = w.rs ++ (a ∷ []);
          count = length-append w.rs (a ∷ []) ∙ omega (arith, w.count);
          left = omega arith;
          within = omega (arith, w.within);
          held = s
              ∙ ap (λ l. sets l (5 * k) (numbers_of (a ∷ []))) w.held
              ∙ ap (λ n. sets (stored w.rs ns) (5 * n) (numbers_of (a ∷ []))) (sym w.count)
              ∙ stored-snoc w.rs a ns;
          same = w.same
              ∙ ap (λ m. onto w.rs (arrivals m here)) one_less
              ∙ onto-more w.rs (15 - k) here u p;
          whole = w.whole
              ∙ ap (λ m. w.rs ++ whole_arrivals m here) one_less
              ∙ ap (λ l. w.rs ++ l) v
              ∙ sym (append_assoc w.rs (a ∷ []) (whole_arrivals (15 - k) there));
        }
