-- The ranks that are made.
--     made-fair, made_other        the rank, at a fair output and elsewhere
--     end-past                     refusal 15
--     made-record                  a record that can have a rank, and its rank in 32 bits
--     made-next                    the records that have their ranks so far, and one more
use Prim.Native.Nat.{ℕ, ◌+◌, ◌%◌, ◌≤◌, ◌<◌}
use native.Mathlib.Omega.{arith}
use mathlib.Core.Bool.{Bool, true, false, cond, not, ◌&&◌}
use mathlib.Core.List.{List, ◌∷◌, ◌++◌, map}
use mathlib.Core.Logic.{⊎_elim}
use mathlib.Core.Path.{◌≡◌, refl, sym, ap, ap₂, ◌∙◌}
use borrow.Author.Tests.{lt-ltb, le-ltb, leb-true, leb-false, not-true, not-false}
use lib.Dec.{ltb, leb}
use lib.ListN.{length, take, drop, set, get_or}
use Rattle.std.proofs.lemmas.List.{get_or_at, drop_more, length-take-le, length-map, length-append}
use Rattle.std.proofs.lemmas.List.Edits.{map_over_more}
use Rattle.laws.specs.Lists.{all?}
use Rattle.laws.proofs.Lists.{all?-e, get_or-mem, get_d_any}
use Rattle.laws.proofs.Tests.{either, and_l, and_r, and-false-l, cond-pass, cond-fail}
use Rattle.cell.specs.declared.Arrival.{Arrival}
use Rattle.cell.specs.Limits.{fits32}
use Rattle.model.specs.CodeFair.{rankable}
use Rattle.model.specs.Fair.{Memory, is_fair, weight_in_range, stride, made_rank, make, bad_weight, rank_end}
use Rattle.fair_ranks.specs.Code.{last_rank}

abbrev pub rank_top : ℕ
rank_top = 4294967295

-- a test and its other half
past : (n top : ℕ) → not (leb n top) ≡ ltb top n
past n top = go (leb n top) refl
  where
    go : (b : Bool) → leb n top ≡ b → not (leb n top) ≡ ltb top n
    go true e = ap not e ∙ sym (le-ltb top n (leb-true n top e))
    go false e = ap not e ∙ sym (lt-ltb top n (leb-false n top e))

module _ (m : Memory) (a : Arrival) where
  weight-fair : is_fair m a.output ≡ true → bad_weight m a ≡ not (weight_in_range a.rank)
  unfolding bad_weight
  weight-fair e = ap (λ b. b && not (weight_in_range a.rank)) e

  ------------------------------------------------------------------------
  -- the rank

  pub made-fair : (last s : ℕ) → is_fair m a.output ≡ true → last ≡ last_rank m a
      → s ≡ cond (weight_in_range a.rank) (stride a.rank) 0 → bad_weight m a ≡ false → last + s ≡ made_rank m a
  unfolding made_rank last_rank
  made-fair last s e l t good =
      let weight : weight_in_range a.rank ≡ true =
      not-false (weight_in_range a.rank) (sym (weight-fair e) ∙ good) in
      ap₂ ◌+◌ l (t ∙ cond-pass (weight_in_range a.rank) _ _ weight)
      ∙ sym (cond-pass (is_fair m a.output) _ _ e)

  pub made_other : is_fair m a.output ≡ false → a.rank ≡ made_rank m a
  unfolding made_rank
  made_other e = sym (cond-fail (is_fair m a.output) _ _ e)

  ------------------------------------------------------------------------
  -- 15

  pub end-past : (r : ℕ) → a.rank ≤ rank_top → r ≡ made_rank m a → ltb rank_top r ≡ rank_end m a
  unfolding rank_end fits32
  end-past r small e = ⊎_elim fair other (either (is_fair m a.output))
    where
      fair : is_fair m a.output ≡ true → ltb rank_top r ≡ rank_end m a
      fair t =
          ap (ltb rank_top) e
          ∙ sym (past (made_rank m a) rank_top)
          ∙ sym (ap (λ b. b && not (leb (made_rank m a) rank_top)) t)

      other : is_fair m a.output ≡ false → ltb rank_top r ≡ rank_end m a
      other t =
          let same : r ≤ rank_top = omega (arith, made_other t) in
          le-ltb rank_top r same ∙ sym (and-false-l (is_fair m a.output) (not (leb (made_rank m a) rank_top)) t)

  ------------------------------------------------------------------------
  -- the record

  made-small : a.rank ≤ rank_top → rankable m a ≡ true → made_rank m a ≤ rank_top
  unfolding rankable rank_end fits32
  made-small small h = ⊎_elim fair other (either (is_fair m a.output))
    where
      end : rank_end m a ≡ false
      end = not-true (rank_end m a) (and_r (not (bad_weight m a)) (not (rank_end m a)) h)

      fair : is_fair m a.output ≡ true → made_rank m a ≤ rank_top
      fair t =
          leb-true (made_rank m a) rank_top
          (not-false (leb (made_rank m a) rank_top) (sym (ap (λ b. b && not (leb (made_rank m a) rank_top)) t) ∙ end))

      other : is_fair m a.output ≡ false → made_rank m a ≤ rank_top
      other t = omega (arith, made_other t)

  rankable-weight : rankable m a ≡ true → bad_weight m a ≡ false
  unfolding rankable
  rankable-weight h = not-true (bad_weight m a) (and_l (not (bad_weight m a)) (not (rank_end m a)) h)

  pub made-record : (r : ℕ) → a.rank ≤ rank_top → (bad_weight m a ≡ false → r ≡ made_rank m a) → rankable m a ≡ true
      → record { input = a.input; output = a.output; flow = a.flow; rank = r % (rank_top + 1); tag = a.tag }
      ≡ make m a
  unfolding make
  made-record r small e h =
      let same : r ≡ made_rank m a = e (rankable-weight h) in
      let fits : r % (rank_top + 1) ≡ made_rank m a = omega (arith, made-small small h) in
      λ k. record { input = a.input; output = a.output; flow = a.flow; rank = fits k; tag = a.tag }

------------------------------------------------------------------------
-- the records of a slot

module _ (m : Memory) where
  pub made-next : (records sofar : List Arrival) (n : ℕ) (d b : Arrival) → n < length records
      → all? (rankable m) records ≡ true → sofar ≡ map (make m) (take n records) ++ drop n records
      → (rankable m (get_or sofar n d) ≡ true → b ≡ make m (get_or sofar n d))
      → set sofar n b ≡ map (make m) (take (n + 1) records) ++ drop (n + 1) records
  made-next records sofar n d b less all first made =
      let front = map (make m) (take n records) in
      let long : length front ≡ n = length-map (take n records) (make m) ∙ length-take-le n records (omega arith) in
      let parts : sofar ≡ front ++ get_or records n d ∷ drop (n + 1) records =
      first ∙ ap (λ l. front ++ l) (drop_more records n d less) in
      let read : get_or sofar n d ≡ get_or records n d =
      ap (λ l. get_or l n d) parts ∙ get_or_at front (get_or records n d) (drop (n + 1) records) d n long in
      let can : rankable m (get_or sofar n d) ≡ true =
      ap (rankable m) read ∙ all?-e (rankable m) all (get_or-mem records n d less) in
      let here : get_or sofar n d ≡ get_or sofar n (get_or sofar n d) =
      get_d_any sofar n d (get_or sofar n d) (omega (arith, ap length parts, length-append front (get_or records n d ∷ drop (n + 1) records))) in
      ap (set sofar n) (made can) ∙ map_over_more (make m) records sofar n (get_or sofar n d) less first here
