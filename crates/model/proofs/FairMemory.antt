-- What a switch remembers of its ranks.
--     Remembers, memory-e, memory-i     a sound memory, by its parts
--     memory-fresh, memory-after        a fresh one is sound, and an accepted slot keeps it so
--     length-left, length-given         the words stay as many
--     left-trailing                     departures of none behind the others leave no trace
--     given-rises, given_holds          in an accepted slot no rank given falls, and each new cell's is remembered
use Prim.Native.Nat.{ℕ, zero, suc, ◌+◌, ◌≤◌, ◌<◌, max}
use native.Mathlib.Omega.{arith}
use mathlib.Core.Bool.{Bool, true, false, cond}
use mathlib.Core.Path.{◌≡◌, refl, ◌∙◌}
use mathlib.Core.Logic.{◌⊎◌, inl, inr}
use mathlib.Core.List.Memᴰ
use mathlib.Core.List.{List, [], ◌∷◌, ◌++◌, Memᴰ}
use mathlib.Core.Option.{Option, none, some}
use borrow.Author.Tests.{ltb-true, ltb-false, eqb-true, eqb-false, eq-eqb, not-false}
use lib.Dec.{ltb, eqb}
use lib.ListN.{length, replicate, set, get_or, length-set, length-replicate}
use lib.Seq.{set_out, get_or-set_same, get_or-set_other}
use Rattle.laws.specs.Lists.{all?, pairwise}
use Rattle.laws.proofs.Lists.{all?-cons, all?-set}
use Rattle.laws.proofs.Pairwise.{pairwise-head, pairwise-tail}
use Rattle.laws.proofs.Tests.{and_l, and_r}
use Rattle.cell.specs.declared.Arrival.{Arrival}
use Rattle.cell.specs.declared.Cell.{Cell}
use Rattle.cell.specs.Limits.{port_limit, fits32}
use Rattle.model.specs.Fair.{flow_count, flow_index, Memory, no_memory, is_fair, marks_in_range, sound_memory, made_rank}
use Rattle.model.specs.Fair.{stride, rank_end, given_after, left_after, remembered}
use Rattle.model.specs.CodeFair.{rankable}
use Rattle.model.proofs.FairChecks.{rankable-end}

------------------------------------------------------------------------
-- a sound memory

-- by its parts
pub record Remembers (ports : ℕ) (m : Memory) : Type 0 where
  pub marks : marks_in_range ports m.fair ≡ true
  pub outputs : length m.left ≡ port_limit
  pub flows : length m.given ≡ flow_count
  pub left-fits : all? fits32 m.left ≡ true
  pub given-fits : all? fits32 m.given ≡ true

pub memory-e : (ports : ℕ) (m : Memory) → sound_memory ports m ≡ true → Remembers ports m
unfolding sound_memory
memory-e ports m h =
    let l : eqb (length m.left) port_limit ≡ true = search (and_l, and_r) depth 9 in
    let g : eqb (length m.given) flow_count ≡ true = search (and_l, and_r) depth 9 in
    record {
      marks = search (and_l, and_r) depth 9;
      outputs = eqb-true (length m.left) port_limit l;
      flows = eqb-true (length m.given) flow_count g;
      left-fits = search (and_l, and_r) depth 9;
      given-fits = search (and_l, and_r) depth 9;
    }

pub memory-i : (ports : ℕ) (m : Memory) → Remembers ports m → sound_memory ports m ≡ true
unfolding sound_memory
memory-i ports m r =
    rw (
      r.marks,
      eq-eqb (length m.left) port_limit r.outputs,
      eq-eqb (length m.given) flow_count r.flows,
      r.left-fits,
      r.given-fits,
    )

all_replicate : (n : ℕ) → all? fits32 (replicate n 0) ≡ true
unfolding all? fits32
all_replicate zero = refl
all_replicate (suc n) = all_replicate n

pub memory-fresh : (ports marks : ℕ) → marks_in_range ports marks ≡ true → sound_memory ports (no_memory marks) ≡ true
unfolding no_memory
memory-fresh ports marks h =
    memory-i ports (no_memory marks)
    (record {
      marks = h;
      outputs = length-replicate {A = ℕ} port_limit 0;
      flows = length-replicate {A = ℕ} flow_count 0;
      left-fits = all_replicate port_limit;
      given-fits = all_replicate flow_count;
    })

------------------------------------------------------------------------
-- the words after a slot

-- a word may be set
length-word : (b : Bool) (words : List ℕ) (i v : ℕ) → length (cond b (set words i v) words) ≡ length words
length-word true words i v = length-set words i v
length-word false words i v = refl

word_fits : (b : Bool) (words : List ℕ) (i v : ℕ) → all? fits32 words ≡ true → (b ≡ true → fits32 v ≡ true)
    → all? fits32 (cond b (set words i v) words) ≡ true
word_fits true words i v f h = all?-set fits32 words i v f (h refl)
word_fits false words i v f h = f

module _ (m : Memory) where
  pub length-given : (records : List Arrival) (given : List ℕ) → length (given_after m records given) ≡ length given
  unfolding given_after
  length-given [] given = refl
  length-given (a ∷ records) given =
      length-given records (cond (is_fair m a.output) (set given (flow_index a) (made_rank m a)) given)
      ∙ length-word (is_fair m a.output) given (flow_index a) (made_rank m a)

  pub length-left : (o : ℕ) (ds : List (Option Cell)) (left : List ℕ) → length (left_after m o ds left) ≡ length left
  unfolding left_after
  length-left o [] left = refl
  length-left o (none ∷ ds) left = length-left (o + 1) ds left
  length-left o (some c ∷ ds) left =
      length-left (o + 1) ds (cond (is_fair m o) (set left o c.rank) left)
      ∙ length-word (is_fair m o) left o c.rank

  -- a rank that can be made fits
  fair_fits : (a : Arrival) → is_fair m a.output ≡ true → rankable m a ≡ true → fits32 (made_rank m a) ≡ true
  unfolding rank_end
  fair_fits a e r =
      let end : rank_end m a ≡ false = rankable-end m a r in
      not-false (fits32 (made_rank m a)) (rw e at end)

  given-fits : (records : List Arrival) (given : List ℕ) → all? (rankable m) records ≡ true → all? fits32 given ≡ true
      → all? fits32 (given_after m records given) ≡ true
  unfolding given_after
  given-fits [] given r f = f
  given-fits (a ∷ records) given r f =
      let both = rw (all?-cons (rankable m) a records) at r in
      given-fits records (cond (is_fair m a.output) (set given (flow_index a) (made_rank m a)) given)
      (and_r (rankable m a) (all? (rankable m) records) both)
      (word_fits (is_fair m a.output) given (flow_index a) (made_rank m a) f
      (λ e. fair_fits a e (and_l (rankable m a) (all? (rankable m) records) both)))

  left-fits : (o : ℕ) (ds : List (Option Cell)) (left : List ℕ)
      → ((c : Cell) → Memᴰ (some c) ds → fits32 c.rank ≡ true) → all? fits32 left ≡ true
      → all? fits32 (left_after m o ds left) ≡ true
  unfolding left_after
  left-fits o [] left ranks f = f
  left-fits o (none ∷ ds) left ranks f = left-fits (o + 1) ds left (λ c i. ranks c (Memᴰ.tail i)) f
  left-fits o (some c ∷ ds) left ranks f =
      left-fits (o + 1) ds (cond (is_fair m o) (set left o c.rank) left) (λ d i. ranks d (Memᴰ.tail i))
      (word_fits (is_fair m o) left o c.rank f (λ e. ranks c (Memᴰ.head refl)))

  pub left-trailing : (o : ℕ) (ds : List (Option Cell)) (k : ℕ) (left : List ℕ)
      → left_after m o (ds ++ replicate k none) left ≡ left_after m o ds left
  unfolding left_after
  left-trailing o [] zero left = refl
  left-trailing o [] (suc k) left = left-trailing (o + 1) [] k left
  left-trailing o (none ∷ ds) k left = left-trailing (o + 1) ds k left
  left-trailing o (some c ∷ ds) k left = left-trailing (o + 1) ds k (cond (is_fair m o) (set left o c.rank) left)

-- what an accepted slot leaves is sound
pub memory-after : (ports : ℕ) (m : Memory) (records : List Arrival) (ds : List (Option Cell))
    → sound_memory ports m ≡ true → all? (rankable m) records ≡ true
    → ((c : Cell) → Memᴰ (some c) ds → fits32 c.rank ≡ true)
    → sound_memory ports (remembered m records ds) ≡ true
unfolding remembered
memory-after ports m records ds h r ranks =
    let s = memory-e ports m h in
    memory-i ports (remembered m records ds)
    (record {
      marks = s.marks;
      outputs = length-left m 0 ds m.left ∙ s.outputs;
      flows = length-given m records m.given ∙ s.flows;
      left-fits = left-fits m 0 ds m.left ranks s.left-fits;
      given-fits = given-fits m records m.given r s.given-fits;
    })

pub remembered-fair : (m : Memory) (records : List Arrival) (ds : List (Option Cell)) (o : ℕ)
    → is_fair (remembered m records ds) o ≡ is_fair m o
unfolding remembered is_fair
remembered-fair m records ds o = refl

------------------------------------------------------------------------
-- no rank given falls

-- the word of each record is behind that of the one before it
abbrev pub own_words : List Arrival → Bool
own_words records = pairwise (λ a b. ltb (flow_index a) (flow_index b)) records

module _ (given : List ℕ) (i v : ℕ) where
  set-rises : get_or given i 0 ≤ v → (k : ℕ) → get_or given k 0 ≤ get_or (set given i v) k 0
  set-rises h k = go (eqb k i) refl (ltb i (length given)) refl
    where
      go : (b : Bool) → eqb k i ≡ b → (d : Bool) → ltb i (length given) ≡ d → get_or given k 0 ≤ get_or (set given i v) k 0
      go false e d q = rw (get_or-set_other given i k v 0 (eqb-false k i e)) (omega arith)
      go true e false q = rw (set_out given i v (ltb-false i (length given) q)) (omega arith)
      go true e true q =
          rw (eqb-true k i e, get_or-set_same given i v 0 (ltb-true i (length given) q)) h

module _ (m : Memory) where
  -- at a fair output the rank made is at least the last one given
  pub made-above : (a : Arrival) → is_fair m a.output ≡ true → get_or m.given (flow_index a) 0 ≤ made_rank m a
  unfolding made_rank
  made-above a h =
      let e : made_rank m a
      ≡ max (get_or m.given (flow_index a) 0) (get_or m.left a.output 0) + stride a.rank = rw h in
      omega arith

  -- the word that the first record leaves
  abbrev word_after : Arrival → List ℕ → List ℕ
  word_after a given = cond (is_fair m a.output) (set given (flow_index a) (made_rank m a)) given

  -- every rank to be given is at least the one in its word
  abbrev Above : List Arrival → List ℕ → Type 0
  Above records given =
      (a : Arrival) → Memᴰ a records → is_fair m a.output ≡ true → get_or given (flow_index a) 0 ≤ made_rank m a

  -- and stays so, since the words of the later records are others
  above-next : (a : Arrival) (records : List Arrival) (given : List ℕ) → own_words (a ∷ records) ≡ true
      → Above (a ∷ records) given → Above records (word_after a given)
  above-next a records given own above b i e = go (is_fair m a.output)
    where
      go : (fair : Bool)
          → get_or (cond fair (set given (flow_index a) (made_rank m a)) given) (flow_index b) 0 ≤ made_rank m b
      go true =
          let less : flow_index a < flow_index b =
          ltb-true (flow_index a) (flow_index b) (pairwise-head (λ a b. ltb (flow_index a) (flow_index b)) own i) in
          rw (get_or-set_other given (flow_index a) (flow_index b) (made_rank m a) 0 (omega arith))
          (above b (Memᴰ.tail i) e)
      go false = above b (Memᴰ.tail i) e

  words-next : (a : Arrival) (records : List Arrival) → own_words (a ∷ records) ≡ true → own_words records ≡ true
  words-next a records own = pairwise-tail (λ a b. ltb (flow_index a) (flow_index b)) a records own

  given-rises-from : (records : List Arrival) (given : List ℕ) → own_words records ≡ true → Above records given
      → (k : ℕ) → get_or given k 0 ≤ get_or (given_after m records given) k 0
  unfolding given_after
  given-rises-from [] given own above k = omega arith
  given-rises-from (a ∷ records) given own above k =
      let own' = words-next a records own in
      let rest = given-rises-from records (word_after a given) own' (above-next a records given own above) k in
      let one = go (is_fair m a.output) refl in
      omega arith
    where
      go : (fair : Bool) → is_fair m a.output ≡ fair
          → get_or given k 0 ≤ get_or (cond fair (set given (flow_index a) (made_rank m a)) given) k 0
      go true e = set-rises given (flow_index a) (made_rank m a) (above a (Memᴰ.head refl) e) k
      go false e = omega arith

  given-holds-from : (records : List Arrival) (given : List ℕ) → own_words records ≡ true → Above records given
      → (a : Arrival) → Memᴰ a records → is_fair m a.output ≡ true → flow_index a < length given
      → made_rank m a ≤ get_or (given_after m records given) (flow_index a) 0
  unfolding given_after
  given-holds-from [] given own above a i e room = absurd (Memᴰ.not-nil i)
  given-holds-from (b ∷ records) given own above a i e room =
      let own' = words-next b records own in
      let above' = above-next b records given own above in
      go (Memᴰ.cases_cons i) (given-rises-from records (word_after b given) own' above' (flow_index a))
      (λ k. given-holds-from records (word_after b given) own' above' a k e
      (rw (length-word (is_fair m b.output) given (flow_index b) (made_rank m b)) room))
    where
      go : (a ≡ b) ⊎ Memᴰ a records
          → get_or (word_after b given) (flow_index a) 0 ≤ get_or (given_after m records (word_after b given)) (flow_index a) 0
          → (Memᴰ a records → made_rank m a ≤ get_or (given_after m records (word_after b given)) (flow_index a) 0)
          → made_rank m a ≤ get_or (given_after m records (word_after b given)) (flow_index a) 0
      go (inl q) rest later =
          let here : get_or (word_after b given) (flow_index a) 0 ≡ made_rank m a =
          rw (← q, e, get_or-set_same given (flow_index a) (made_rank m a) 0 room) in
          omega arith
      go (inr k) rest later = later k

  module _ (records : List Arrival) (own : own_words records ≡ true) where
    pub given-rises : (k : ℕ) → get_or m.given k 0 ≤ get_or (given_after m records m.given) k 0
    given-rises k = given-rises-from records m.given own (λ a i. made-above a) k

    pub given_holds : (a : Arrival) → Memᴰ a records → is_fair m a.output ≡ true
        → flow_index a < length m.given → made_rank m a ≤ get_or (given_after m records m.given) (flow_index a) 0
    given_holds a i e room = given-holds-from records m.given own (λ b j. made-above b) a i e room
