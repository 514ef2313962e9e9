-- What is remembered of a slot.
--     record-put, -kept, -beyond       the memory after one record
--     records-none, -next              after the records so far
--     departure-none, -put, -kept      after one departure
--     departures-none, -next           after those so far
--     remember-all                     after both
use Prim.Native.Nat.{ℕ, zero, suc, ◌+◌, ◌*◌, ◌/◌, ◌%◌, ◌^◌, ◌≤◌, ◌<◌}
use native.Mathlib.Nat.{add-zero}
use native.Mathlib.Omega.{arith}
use native.Mathlib.Numerals.{add-one}
use mathlib.Core.Bool.{Bool, true, false, cond}
use mathlib.Core.List.{List, [], ◌∷◌, ◌++◌, map}
use mathlib.Core.Option.{Option, none, some}
use mathlib.Core.Path.{◌≡◌, refl, sym, ap, ◌∙◌}
use lib.Dec.{eqb}
use lib.ListN.{length, take, drop, set, get_or}
use lib.Seq.{take-suc, drop-drop, set_out}
use Rattle.laws.proofs.Tests.{cond-pass, cond-fail}
use Rattle.cell.specs.declared.Arrival.{Arrival}
use Rattle.cell.specs.declared.Cell.{Cell}
use Rattle.cell.specs.Limits.{port_limit}
use Rattle.model.specs.Fair.{Memory, is_fair, flow_index, flow_count, made_rank, make, given_after, left_after, remembered}
use Rattle.layout.specs.Answer.{departure_size, departure_in, departures_in}
use Rattle.layout.specs.Memory.{memory_of, left_start, given_start}
use Rattle.layout.proofs.Memory.{length-words_in}
use Rattle.fair_memory.specs.Code.{with_left, with_given}
use Rattle.fair_ranks.specs.Code.{given_by, with_record, with_records, with_departure, with_departures}

pub length-given : (bs : List ℕ) → length (memory_of bs).given ≡ flow_count
unfolding memory_of
length-given bs = length-words_in flow_count (drop given_start bs)

pub length-left : (bs : List ℕ) → length (memory_of bs).left ≡ port_limit
unfolding memory_of
length-left bs = length-words_in port_limit (drop left_start bs)

------------------------------------------------------------------------
-- one record

module _ (m : Memory) (a : Arrival) where
  pub record-put : (k : ℕ) → is_fair m a.output ≡ true → k ≡ flow_index a → with_given m k a.rank ≡ with_record m a
  unfolding with_given with_record with_records given_by
  record-put k fair e =
      let given = ap (λ i. set m.given i a.rank) e
      ∙ sym (cond-pass (is_fair m a.output) (set m.given (flow_index a) a.rank) m.given fair) in
      λ x. record { fair = m.fair; left = m.left; given = given x }

  pub record-kept : is_fair m a.output ≡ false → m ≡ with_record m a
  unfolding with_record with_records given_by
  record-kept other =
      let given = sym (cond-fail (is_fair m a.output) (set m.given (flow_index a) a.rank) m.given other) in
      λ x. record { fair = m.fair; left = m.left; given = given x }

  -- a flow that no switch has
  pub record-beyond : length m.given ≤ flow_index a → m ≡ with_record m a
  unfolding with_record with_records given_by
  record-beyond past =
      let given : m.given ≡ cond (is_fair m a.output) (set m.given (flow_index a) a.rank) m.given =
      sym (ap (λ l. cond (is_fair m a.output) l m.given) (set_out m.given (flow_index a) a.rank past)
      ∙ same (is_fair m a.output) m.given) in
      λ x. record { fair = m.fair; left = m.left; given = given x }
    where
      same : (b : Bool) (l : List ℕ) → cond b l l ≡ l
      same true l = refl
      same false l = refl

------------------------------------------------------------------------
-- the records

given-snoc : (m : Memory) (made : List Arrival) (a : Arrival) (given : List ℕ)
    → given_by m (made ++ a ∷ []) given ≡ given_by m (a ∷ []) (given_by m made given)
unfolding given_by
given-snoc m [] a given = refl
given-snoc m (b ∷ made) a given =
    given-snoc m made a (cond (is_fair m b.output) (set given (flow_index b) b.rank) given)

pub records-none : (m : Memory) → m ≡ with_records m []
unfolding with_records given_by
records-none m = refl

records-more : (m : Memory) (made : List Arrival) (n : ℕ) (d : Arrival) → n < length made
    → with_record (with_records m (take n made)) (get_or made n d) ≡ with_records m (take (n + 1) made)
unfolding with_record with_records given_by is_fair
records-more m made n d h =
    let given = sym (given-snoc m (take n made) (get_or made n d) m.given)
    ∙ ap (λ l. given_by m l m.given) (sym (ap (λ k. take k made) (add-one n) ∙ take-suc made n d h)) in
    λ x. record { fair = m.fair; left = m.left; given = given x }

pub records-next : (m sofar new : Memory) (made : List Arrival) (n : ℕ) (d : Arrival) → n < length made
    → sofar ≡ with_records m (take n made) → new ≡ with_record sofar (get_or made n d)
    → new ≡ with_records m (take (n + 1) made)
records-next m sofar new made n d h first next =
    next ∙ ap (λ k. with_record k (get_or made n d)) first ∙ records-more m made n d h

-- those of a slot have the ranks that were made
given_made : (m : Memory) (records : List Arrival) (given : List ℕ)
    → given_by m (map (make m) records) given ≡ given_after m records given
unfolding given_by given_after make flow_index
given_made m [] given = refl
given_made m (a ∷ records) given =
    given_made m records (cond (is_fair m a.output) (set given (flow_index a) (made_rank m a)) given)

------------------------------------------------------------------------
-- one departure

module _ (m : Memory) (o : ℕ) where
  pub departure-none : (d : Option Cell) → d ≡ none → m ≡ with_departure m o d
  unfolding with_departure left_after
  departure-none d e = sym (ap (with_departure m o) e)

  pub departure-put : (d : Option Cell) (c : Cell) → d ≡ some c → is_fair m o ≡ true
      → with_left m o c.rank ≡ with_departure m o d
  unfolding with_departure left_after with_left
  departure-put d c e fair =
      let left = sym (cond-pass (is_fair m o) (set m.left o c.rank) m.left fair) in
      (λ x. record { fair = m.fair; left = left x; given = m.given }) ∙ sym (ap (with_departure m o) e)

  pub departure-kept : (d : Option Cell) (c : Cell) → d ≡ some c → is_fair m o ≡ false → m ≡ with_departure m o d
  unfolding with_departure left_after
  departure-kept d c e other =
      let left = sym (cond-fail (is_fair m o) (set m.left o c.rank) m.left other) in
      (λ x. record { fair = m.fair; left = left x; given = m.given }) ∙ sym (ap (with_departure m o) e)

------------------------------------------------------------------------
-- the departures

length-departures_in : (n : ℕ) (bs : List ℕ) → length (departures_in n bs) ≡ n
unfolding departures_in
length-departures_in zero bs = refl
length-departures_in (suc n) bs = ap suc (length-departures_in n (drop departure_size bs))

departures_in-suc : (n : ℕ) (bs : List ℕ)
    → departures_in (suc n) bs
    ≡ departures_in n bs ++ (departure_in (take departure_size (drop (departure_size * n) bs)) ∷ [])
unfolding departures_in
departures_in-suc zero bs = refl
departures_in-suc (suc n) bs =
    let at : departure_size + departure_size * n ≡ departure_size * suc n = omega arith in
    ap (λ l. departure_in (take departure_size bs) ∷ l)
    (departures_in-suc n (drop departure_size bs)
    ∙ ap (λ l. departures_in n (drop departure_size bs) ++ (departure_in (take departure_size l) ∷ []))
    (drop-drop (departure_size * n) departure_size bs ∙ ap (λ k. drop k bs) at))

left-snoc : (m : Memory) (o k : ℕ) (ds : List (Option Cell)) (d : Option Cell) (left : List ℕ) → k ≡ o + length ds
    → left_after m o (ds ++ d ∷ []) left ≡ left_after m k (d ∷ []) (left_after m o ds left)
unfolding left_after
left-snoc m o k [] d left e = ap (λ n. left_after m n (d ∷ []) left) (sym (e ∙ add-zero o))
left-snoc m o k (none ∷ ds) d left e = left-snoc m (o + 1) k ds d left (omega arith)
left-snoc m o k (some c ∷ ds) d left e =
    left-snoc m (o + 1) k ds d (cond (is_fair m o) (set left o c.rank) left) (omega arith)

-- only the marks of a memory count
left-marks : (m n : Memory) → m.fair ≡ n.fair → (o : ℕ) (ds : List (Option Cell)) (left : List ℕ)
    → left_after m o ds left ≡ left_after n o ds left
unfolding left_after is_fair
left-marks m n e o [] left = refl
left-marks m n e o (none ∷ ds) left = left-marks m n e (o + 1) ds left
left-marks m n e o (some c ∷ ds) left =
    left-marks m n e (o + 1) ds (cond (is_fair m o) (set left o c.rank) left)
    ∙ ap (λ f. left_after n (o + 1) ds (cond (eqb (f / 2 ^ o % 2) 1) (set left o c.rank) left)) e

pub departures-none : (m : Memory) (bs : List ℕ) → m ≡ with_departures m (departures_in 0 bs)
unfolding with_departures left_after departures_in
departures-none m bs = refl

departures-more : (m : Memory) (n w : ℕ) (bs : List ℕ) → w ≡ departure_size
    → with_departure (with_departures m (departures_in n bs)) n (departure_in (take w (drop (departure_size * n) bs)))
    ≡ with_departures m (departures_in (n + 1) bs)
unfolding with_departure with_departures
departures-more m n w bs e =
    let d : Option Cell = departure_in (take w (drop (departure_size * n) bs)) in
    let more : departures_in n bs ++ (d ∷ []) ≡ departures_in (n + 1) bs =
    ap (λ k. departures_in n bs ++ (departure_in (take k (drop (departure_size * n) bs)) ∷ [])) e
    ∙ sym (ap (λ k. departures_in k bs) (add-one n) ∙ departures_in-suc n bs) in
    let sofar : Memory =
    record { fair = m.fair; left = left_after m 0 (departures_in n bs) m.left; given = m.given } in
    let left : left_after sofar n (d ∷ []) sofar.left ≡ left_after m 0 (departures_in (n + 1) bs) m.left =
    left-marks sofar m refl n (d ∷ []) sofar.left
    ∙ sym (left-snoc m 0 n (departures_in n bs) d m.left (omega (arith, length-departures_in n bs)))
    ∙ ap (λ l. left_after m 0 l m.left) more in
    λ x. record { fair = m.fair; left = left x; given = m.given }

-- the departure's bytes as they are lent
pub departures-next : (m sofar new : Memory) (n w : ℕ) (bs : List ℕ) → w ≡ departure_size
    → sofar ≡ with_departures m (departures_in n bs)
    → new ≡ with_departure sofar n (departure_in (take w (drop (departure_size * n) bs)))
    → new ≡ with_departures m (departures_in (n + 1) bs)
departures-next m sofar new n w bs e first next =
    next
    ∙ ap (λ k. with_departure k n (departure_in (take w (drop (departure_size * n) bs)))) first
    ∙ departures-more m n w bs e

------------------------------------------------------------------------
-- both

pub remember-all : (m mid new : Memory) (made records : List Arrival) (ds : List (Option Cell))
    → mid ≡ with_records m made → new ≡ with_departures mid ds → made ≡ map (make m) records
    → new ≡ remembered m records ds
unfolding with_departures with_records remembered
remember-all m mid new made records ds first second e =
    let left = left-marks (with_records m made) m refl 0 ds m.left in
    let given = ap (λ l. given_by m l m.given) e ∙ given_made m records m.given in
    second
    ∙ ap (λ k. with_departures k ds) first
    ∙ (λ x. record { fair = m.fair; left = left x; given = given x })
