-- Rule 4 of a phase, the matching, and the straight cells of rule 5.
--     candidate-       what is a candidate; candidates-few, how many there are
--     phase-stable, phase-proposals   what the laws of the matching say of it
--     head-all, ..     the members of each step are waiting cells
--     match-           a match is urgent or scheduled, and an input and an output have one
--     straight-        a straight cell is an urgent match
use Prim.Native.Nat.{ℕ, ◌≤◌}
use native.Mathlib.Omega.{arith}
use mathlib.Core.Bool.{Bool, true, ◌&&◌}
use mathlib.Core.Path.{◌≡◌}
use mathlib.Core.Logic.{◌⊎◌, inl, inr}
use mathlib.Core.List.Memᴰ
use mathlib.Core.List.{List, Memᴰ, [], ◌∷◌}
use lib.ListN.{length}
use Rattle.laws.specs.Lists.{keep, none?}
use Rattle.laws.proofs.Tests.{clash, and_i, and_l, or_l, or_r, or_cases}
use Rattle.laws.proofs.Count.{length-keep, count-le-length}
use Rattle.laws.proofs.Lists.{keep-mem, mem-keep-in, mem-keep-passes}
use Rattle.matching.specs.Stable.{Stable}
use Rattle.matching.proofs.Matching.{matched-stable, proposals-bound}
use Rattle.model.specs.State.{is_listed}
use Rattle.model.specs.Phase.{Waiting, ahead, beats, among, phase, takes_part, candidates, straight}
use Rattle.model.specs.Phase.{lists, crosspoints}
use Rattle.model.specs.CodeSlackness.{Orderly}
use Rattle.model.proofs.WaitingOrder.{ahead-strict, beats-strict, among-i, among-e, ahead-total, beats-total}
use Rattle.model.proofs.PhaseFacts.{firsts, lists-all, crosspoints-all, head-listed}
use Rattle.model.proofs.PhaseFacts.{scheduled-head, urgent-head, sent-scheduled, pulled-in}

-- where a cell is urgent, the candidates are the listed cells that take part; otherwise there are none
candidates-e : (ls us ss : List Waiting) {c : Waiting} → Memᴰ c (candidates ls us ss)
    → Memᴰ c (keep (takes_part ls us ss) ls)
unfolding candidates
candidates-e ls [] ss m = absurd (Memᴰ.not-nil m)
candidates-e ls (u ∷ us) ss m = m

candidates-i : (ls us ss : List Waiting) {c u : Waiting} → Memᴰ u us
    → Memᴰ c (keep (takes_part ls us ss) ls) → Memᴰ c (candidates ls us ss)
unfolding candidates
candidates-i ls [] ss i m = absurd (Memᴰ.not-nil i)
candidates-i ls (u ∷ us) ss i m = m

-- of a list, no more are kept than it has
length-keep-le : (p : Waiting → Bool) (l : List Waiting) → length (keep p l) ≤ length l
length-keep-le p l = omega (arith, length-keep p l, count-le-length p l)

length-candidates : (ls us ss : List Waiting) → length (candidates ls us ss) ≤ length ls
unfolding candidates
length-candidates ls [] ss = omega arith
length-candidates ls (u ∷ us) ss = length-keep-le (takes_part ls (u ∷ us) ss) ls

module _ (ports : ℕ) (all : List Waiting) where
  ------------------------------------------------------------------------
  -- the candidates

  pub candidates-few : length (phase ports all).candidates ≤ length all
  unfolding phase lists
  candidates-few =
      omega (
        arith,
        length-candidates (lists all) (phase ports all).urgent (phase ports all).scheduled,
        length-keep-le (λ e. is_listed e.place) all,
      )

  takes : Waiting → Bool
  takes e = takes_part (lists all) (phase ports all).urgent (phase ports all).scheduled e

  taking : {c : Waiting} → Memᴰ c (phase ports all).candidates → Memᴰ c (keep takes (lists all))
  unfolding phase takes
  taking m = candidates-e (lists all) (phase ports all).urgent (phase ports all).scheduled m

  taken : {c u : Waiting} → Memᴰ u (phase ports all).urgent → Memᴰ c (lists all) → takes c ≡ true
      → Memᴰ c (phase ports all).candidates
  unfolding phase takes
  taken i m t = candidates-i (lists all) (phase ports all).urgent (phase ports all).scheduled i (keep-mem takes m t)

  pub candidate-listed : {c : Waiting} → Memᴰ c (phase ports all).candidates → Memᴰ c (lists all)
  candidate-listed m = mem-keep-in takes (lists all) (taking m)

  -- it stands first in its list
  foremost-listed : Waiting → Bool
  foremost-listed e = none? (λ f. ahead f e) (lists all)

  -- a candidate is urgent or scheduled
  candidate-test : {c : Waiting} → Memᴰ c (phase ports all).candidates
      → (among (phase ports all).urgent c ≡ true) ⊎ (among (phase ports all).scheduled c ≡ true)
  unfolding takes takes_part foremost-listed
  candidate-test {c} m =
      go (or_cases (among (phase ports all).urgent c) (among (phase ports all).scheduled c && foremost-listed c)
      (mem-keep-passes takes (lists all) (taking m)))
    where
      go : (among (phase ports all).urgent c ≡ true) ⊎ (among (phase ports all).scheduled c && foremost-listed c ≡ true)
          → (among (phase ports all).urgent c ≡ true) ⊎ (among (phase ports all).scheduled c ≡ true)
      go (inl a) = inl a
      go (inr a) = inr (and_l (among (phase ports all).scheduled c) (foremost-listed c) a)

  pub candidate-urgent : {u : Waiting} → Memᴰ u (phase ports all).urgent
      → Memᴰ u (phase ports all).candidates
  unfolding takes takes_part foremost-listed
  candidate-urgent {u} m =
      taken m (head-listed all (urgent-head ports all m))
      (or_l (among (phase ports all).urgent u) (among (phase ports all).scheduled u && foremost-listed u) (among-i m))

  -- where a cell is urgent, a scheduled cell that stands first is a candidate
  pub candidate-scheduled : {u s : Waiting} → Memᴰ u (phase ports all).urgent
      → Memᴰ s (phase ports all).scheduled
      → none? (λ f. ahead f s) (lists all) ≡ true → Memᴰ s (phase ports all).candidates
  unfolding takes takes_part foremost-listed
  candidate-scheduled {u} {s} i m n =
      taken i (head-listed all (scheduled-head ports all m))
      (or_r (among (phase ports all).urgent s) (among (phase ports all).scheduled s && foremost-listed s)
      (and_i (among (phase ports all).scheduled s) (foremost-listed s) (among-i m) n))

  ------------------------------------------------------------------------
  -- the matching

  pub phase-stable : Stable ahead (beats ports) (phase ports all).candidates (phase ports all).matched
  unfolding phase
  phase-stable = matched-stable ahead (beats ports) ahead-strict (beats-strict ports) _

  pub phase-proposals : (phase ports all).proposals ≤ length (phase ports all).candidates
  unfolding phase
  phase-proposals = proposals-bound ahead (beats ports) _

  pub match-candidate : {m : Waiting} → Memᴰ m (phase ports all).matched
      → Memᴰ m (phase ports all).candidates
  match-candidate {m} k = phase-stable.matching.within m k

  pub straight-i : {u : Waiting} → Memᴰ u (phase ports all).urgent → Memᴰ u (phase ports all).matched
      → Memᴰ u (phase ports all).straight
  unfolding phase straight
  straight-i i m = keep-mem (among (phase ports all).urgent) m (among-i i)

  pub straight-matched : {u : Waiting} → Memᴰ u (phase ports all).straight
      → Memᴰ u (phase ports all).matched
  unfolding phase straight
  straight-matched m = mem-keep-in (among (phase ports all).urgent) (phase ports all).matched m

  straight-among : {u : Waiting} → Memᴰ u (phase ports all).straight → among (phase ports all).urgent u ≡ true
  unfolding phase straight
  straight-among m = mem-keep-passes (among (phase ports all).urgent) (phase ports all).matched m

  ------------------------------------------------------------------------
  -- the steps are of waiting cells

  pub head-all : {h : Waiting} → Memᴰ h (firsts all) → Memᴰ h all
  head-all m = lists-all all (head-listed all m)

  pub scheduled-all : {s : Waiting} → Memᴰ s (phase ports all).scheduled → Memᴰ s all
  scheduled-all m = head-all (scheduled-head ports all m)

  pub urgent-all : {u : Waiting} → Memᴰ u (phase ports all).urgent → Memᴰ u all
  urgent-all m = head-all (urgent-head ports all m)

  pub match-all : {m : Waiting} → Memᴰ m (phase ports all).matched → Memᴰ m all
  match-all m = lists-all all (candidate-listed (match-candidate m))

  pub straight-all : {u : Waiting} → Memᴰ u (phase ports all).straight → Memᴰ u all
  straight-all m = match-all (straight-matched m)

  pub sent-all : {s : Waiting} → Memᴰ s (phase ports all).sent → Memᴰ s all
  sent-all m = scheduled-all (sent-scheduled ports all m)

  pub pulled-all : {x : Waiting} → Memᴰ x (phase ports all).pulled → Memᴰ x all
  pulled-all {x} m = go (pulled-in ports all m)
    where
      go : Memᴰ x (crosspoints all) ⊎ Memᴰ x (phase ports all).sent → Memᴰ x all
      go (inl i) = crosspoints-all all i
      go (inr i) = sent-all i

  module _ (o : Orderly ports all) where
    pub match-kind : {m : Waiting} → Memᴰ m (phase ports all).matched
        → Memᴰ m (phase ports all).urgent ⊎ Memᴰ m (phase ports all).scheduled
    match-kind {m} k = go (candidate-test (match-candidate k))
      where
        go : (among (phase ports all).urgent m ≡ true) ⊎ (among (phase ports all).scheduled m ≡ true)
            → Memᴰ m (phase ports all).urgent ⊎ Memᴰ m (phase ports all).scheduled
        go (inl a) = inl (among-e o (phase ports all).urgent (λ f i. urgent-all i) (match-all k) a)
        go (inr a) = inr (among-e o (phase ports all).scheduled (λ f i. scheduled-all i) (match-all k) a)

    -- two matches of one input are one
    pub match-input : {m n : Waiting} → Memᴰ m (phase ports all).matched → Memᴰ n (phase ports all).matched
        → m.cell.input ≡ n.cell.input → m ≡ n
    match-input {m} {n} i j h = go (ahead-total o (match-all i) (match-all j) h)
      where
        go : (m ≡ n) ⊎ ((ahead m n ≡ true) ⊎ (ahead n m ≡ true)) → m ≡ n
        go (inl p) = p
        go (inr (inl a)) = absurd (clash a (phase-stable.matching.per-input m n i j))
        go (inr (inr a)) = absurd (clash a (phase-stable.matching.per-input n m j i))

    -- two matches to one output are one
    pub match-output : {m n : Waiting} → Memᴰ m (phase ports all).matched → Memᴰ n (phase ports all).matched
        → m.cell.output ≡ n.cell.output → m ≡ n
    match-output {m} {n} i j h = go (beats-total o (match-all i) (match-all j) h)
      where
        go : (m ≡ n) ⊎ ((beats ports m n ≡ true) ⊎ (beats ports n m ≡ true)) → m ≡ n
        go (inl p) = p
        go (inr (inl a)) = absurd (clash a (phase-stable.matching.per-output m n i j))
        go (inr (inr a)) = absurd (clash a (phase-stable.matching.per-output n m j i))

    pub straight-urgent : {u : Waiting} → Memᴰ u (phase ports all).straight
        → Memᴰ u (phase ports all).urgent
    straight-urgent m =
        among-e o (phase ports all).urgent (λ f i. urgent-all i) (straight-all m) (straight-among m)
