-- The laws of the round. Nothing else looks inside `in_turn`:
--     in_turn-irrefl, in_turn-trans, in_turn-total   a strict total order on all numbers
--     in_turn-places                               whoever knows the places of two inputs compares those
--     in_turn-up, in_turn-round, in_turn-below       who comes before whom
--     in_turn-turn                                 below N it is the order by (input - slot) mod N,
--     turn_is, turn_below, first-turn             which `turn` is, and is 0 at input s mod N
use Rattle.std.proofs.Common.{◌≡◌, ℕ, suc, ◌+◌, ◌-◌, ◌%◌, ◌<◌, ◌≤◌, true, false, ltb, ◌≢◌, ◌⊎◌, sym, ap, ◌∙◌, inl, inr, mod-lt, mod-eq_of_lt, arith, ltb-true, le-ltb, lt-ltb}
use native.Mathlib.Nat.{mod_self, mod-add-mod, add-mod-mod, add-mod_right}
use Rattle.laws.proofs.Tests.{same}
use Rattle.laws.proofs.Compared.{Compared, below, equal, above, compare}
use Rattle.cell.specs.Order.{in_turn, first_in_turn, turn}

-- input i of m stands at place p of the round that begins at `start`
pub data Placed (m start i p : ℕ) : Type 0 where
  up : start ≤ i → p + start ≡ i → Placed m start i p
  round : i < start → p + start ≡ i + m → Placed m start i p

ltb-same : (i j p q : ℕ) → (i < j → p < q) → (p < q → i < j) → ltb i j ≡ ltb p q
ltb-same i j p q f g =
    same (ltb i j) (ltb p q) (λ t. lt-ltb p q (f (ltb-true i j t))) (λ t. lt-ltb i j (g (ltb-true p q t)))

pub in_turn-places : {m start i j p q : ℕ} → i < m → j < m → Placed m start i p → Placed m start j q
    → in_turn start i j ≡ ltb p q
unfolding in_turn
in_turn-places {m} {start} {i} {j} {p} {q} h k (up a e) (up b f) =
    rw (le-ltb i start a, le-ltb j start b) (ltb-same i j p q (λ l. omega arith) (λ l. omega arith))
in_turn-places {m} {start} {i} {j} {p} {q} h k (up a e) (round b f) =
    rw (le-ltb i start a, lt-ltb j start b) (sym (lt-ltb p q (omega arith)))
in_turn-places {m} {start} {i} {j} {p} {q} h k (round a e) (up b f) =
    rw (lt-ltb i start a, le-ltb j start b) (sym (le-ltb p q (omega arith)))
in_turn-places {m} {start} {i} {j} {p} {q} h k (round a e) (round b f) =
    rw (lt-ltb i start a, lt-ltb j start b) (ltb-same i j p q (λ l. omega arith) (λ l. omega arith))

-- who comes before whom: both from the start on, one of each side, both below the start
pub in_turn-up : {start i j : ℕ} → start ≤ i → i < j → in_turn start i j ≡ true
unfolding in_turn
in_turn-up {start} {i} {j} a l = rw (le-ltb i start a, le-ltb j start (omega arith), lt-ltb i j l)

pub in_turn-round : {start i j : ℕ} → start ≤ i → j < start → in_turn start i j ≡ true
unfolding in_turn
in_turn-round {start} {i} {j} a b = rw (le-ltb i start a, lt-ltb j start b)

pub in_turn-below : {start i j : ℕ} → j < start → i < j → in_turn start i j ≡ true
unfolding in_turn
in_turn-below {start} {i} {j} b l = rw (lt-ltb i start (omega arith), lt-ltb j start b, lt-ltb i j l)

-- every number has a place among enough of them, and no two have one
place : (m start i : ℕ) → start ≤ m → (p : ℕ) × Placed m start i p
place m start i h = go (compare i start)
  where
    go : Compared i start → (p : ℕ) × Placed m start i p
    go (below l) = (i + m - start, round l (omega arith))
    go (equal e) = (i - start, up (omega arith) (omega arith))
    go (above l) = (i - start, up (omega arith) (omega arith))

apart : {m start i j p q : ℕ} → i < m → j < m → Placed m start i p → Placed m start j q → p ≡ q → i ≡ j
apart h k (up a e) (up b f) g = omega arith
apart h k (up a e) (round b f) g = absurd (omega arith)
apart h k (round a e) (up b f) g = absurd (omega arith)
apart h k (round a e) (round b f) g = omega arith

pub in_turn-irrefl : (start i : ℕ) → in_turn start i i ≡ false
in_turn-irrefl start i =
    let h : i < start + suc i = omega arith in
    let p = place (start + suc i) start i (omega arith) in
    in_turn-places h h p.1 p.1 ∙ le-ltb p.0 p.0 (omega arith)

pub in_turn-trans : (start i j k : ℕ) → in_turn start i j ≡ true → in_turn start j k ≡ true → in_turn start i k ≡ true
in_turn-trans start i j k s t =
    let m = start + suc (i + j + k) in
    let a : i < m = omega arith in
    let b : j < m = omega arith in
    let c : k < m = omega arith in
    let p = place m start i (omega arith) in
    let q = place m start j (omega arith) in
    let r = place m start k (omega arith) in
    let first : p.0 < q.0 = ltb-true _ _ (sym (in_turn-places a b p.1 q.1) ∙ s) in
    let second : q.0 < r.0 = ltb-true _ _ (sym (in_turn-places b c q.1 r.1) ∙ t) in
    in_turn-places a c p.1 r.1 ∙ lt-ltb p.0 r.0 (omega arith)

pub in_turn-total : (start i j : ℕ) → i ≢ j → (in_turn start i j ≡ true) ⊎ (in_turn start j i ≡ true)
in_turn-total start i j ne =
    let m = start + suc (i + j) in
    let p = place m start i (omega arith) in
    let q = place m start j (omega arith) in
    go (omega arith) (omega arith) p.1 q.1 (compare p.0 q.0)
  where
    go : {m p q : ℕ} → i < m → j < m → Placed m start i p → Placed m start j q → Compared p q
        → (in_turn start i j ≡ true) ⊎ (in_turn start j i ≡ true)
    go h k a b (below l) = inl (in_turn-places h k a b ∙ lt-ltb _ _ l)
    go h k a b (equal e) = absurd (ne (apart h k a b e))
    go h k a b (above l) = inr (in_turn-places k h b a ∙ lt-ltb _ _ l)

------------------------------------------------------------------------
-- the round of a slot

module _ (n s i : ℕ) where
  pub turn_below : 0 < n → turn n s i < n
  turn_below h = mod-lt _ h

  pub turn_is : 0 < n → i < n → (s + turn n s i) % n ≡ i
  turn_is h k =
      let back : s % n + (i + n - s % n) ≡ i + n = omega (arith, mod-lt s h) in
      add-mod-mod s (i + n - s % n) n
      ∙ sym (mod-add-mod s n (i + n - s % n))
      ∙ ap (λ a. a % n) back
      ∙ add-mod_right i n
      ∙ mod-eq_of_lt k

  turn-placed : 0 < n → i < n → Placed n (s % n) i (turn n s i)
  turn-placed h k = go (compare i (s % n))
    where
      from : s % n ≤ i → Placed n (s % n) i (turn n s i)
      from l =
          let more : i + n - s % n ≡ i - s % n + n = omega arith in
          let few : i - s % n < n = omega arith in
          let e : turn n s i ≡ i - s % n = ap (λ a. a % n) more ∙ add-mod_right (i - s % n) n ∙ mod-eq_of_lt few in
          up l (omega arith)

      go : Compared i (s % n) → Placed n (s % n) i (turn n s i)
      go (below l) =
          let low : i + n - s % n < n = omega arith in
          round l (omega (arith, mod-eq_of_lt low, mod-lt s h))
      go (equal e) = from (omega arith)
      go (above l) = from (omega arith)

-- below N the round of a slot is the order by (input - slot) mod N
pub in_turn-turn : (n s i j : ℕ) → i < n → j < n → in_turn (first_in_turn n s) i j ≡ ltb (turn n s i) (turn n s j)
in_turn-turn n s i j h k =
    let z : 0 < n = omega arith in
    in_turn-places h k (turn-placed n s i z h) (turn-placed n s j z k)

-- and input s mod N is the first of it
pub first-turn : (n s : ℕ) → turn n s (first_in_turn n s) ≡ 0
first-turn n s =
    let all : s % n + n - s % n ≡ n = omega arith in
    ap (λ a. a % n) all ∙ mod_self n
