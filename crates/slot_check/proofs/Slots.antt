-- Whether an entry has the slot of one at a set of positions, and whether no two entries have one slot: those passed are
-- kept by the low bytes of their slots.
--     unshared-       the walk over the positions
--     met-            the walk over the entries
use Prim.Native.Nat.{ℕ, ◌+◌, ◌-◌, ◌%◌, ◌^◌, ◌≤◌, ◌<◌}
use mathlib.Core.Bool.{true, false, not, ◌||◌}
use mathlib.Core.Path.{◌≡◌, refl, sym, ◌∙◌, ap, ap₂, subst}
use mathlib.Core.Logic.{◌⊎◌, inl, inr}
use mathlib.Core.List.{List, [], ◌∷◌, ◌++◌, map, append-nil, Memᴰ}
use native.Mathlib.Omega.{arith}
use borrow.Author.Tests.{eqb-true, eqb-false, eq-eqb, ne_eqb}
use lib.Dec.{eqb}
use lib.ListN.{length, get_or, set, replicate, length-set, get_or-replicate}
use lib.Seq.{get_or-set_same, get_or-set_other}
use Rattle.laws.specs.Lists.{keep, some?, all?, pairwise}
use Rattle.laws.proofs.Tests.{either, clash, by-fail, and_i}
use Rattle.laws.proofs.Lists.{Passing, some?-nil, some?-cons, some?-append, some?-i, some?-e, all?-i}
use Rattle.laws.proofs.Lists.{keep-nil, keep-pass, keep-fail, keep_append, keep-mem, mem-keep-in}
use Rattle.laws.proofs.Pairwise.{pairwise-nil, pairwise-snoc, pairwise-split}
use Rattle.sets.specs.Sets.{positions, members, first_of}
use Rattle.sets.proofs.Members.{Visited, visited-start, visited-next, visited-end, visited-member, members-none, members-with}
use Rattle.sets.specs.Code.{with_one, rest_of}
use Rattle.cell.specs.Limits.{section_room}
use Rattle.model.specs.State.{Entry}
use Rattle.model.specs.Sound.{other_slot}
use Rattle.layout.specs.Entry.{entry_at}
use Rattle.layout.specs.Code.{entries_between}
use Rattle.layout.proofs.Records.{entries_between-nil, entries_between-cons, entries_between-split}
use Rattle.slot_section.specs.Code.{entries_in}
use Rattle.slot_check.specs.Code.{same_slot}
use Rattle.slot_section.proofs.Collecting.{slot_is}
use Rattle.slot_section.proofs.Walks.{entries_at, entries_at-more}

same-slot : (e f : Entry) → f.cell.slot ≡ e.cell.slot → same_slot e f ≡ true
unfolding same_slot
same-slot e f h = eq-eqb _ _ h

other-slot : (e f : Entry) → (f.cell.slot ≡ e.cell.slot → ⊥) → same_slot e f ≡ false
unfolding same_slot
other-slot e f h = ne_eqb _ _ h

-- it is the other test
slots_apart : (e f : Entry) → other_slot f e ≡ not (same_slot e f)
unfolding other_slot same_slot
slots_apart e f = refl

------------------------------------------------------------------------
-- the walk over positions

-- none of those passed has the slot
pub record Unshared (bs : List ℕ) (e : Entry) (first set left : ℕ) : Type 0 where
  pub passed : List ℕ
  pub visited : Visited set passed left
  pub none : some? (same_slot e) (entries_at bs first passed) ≡ false

module _ (bs : List ℕ) (e : Entry) (first set : ℕ) where
  pub unshared-start : set < 2 ^ positions → Unshared bs e first set set
  unshared-start fits =
      record { passed = []; visited = visited-start set fits; none = some?-nil (same_slot e) }

  module _ {left : ℕ} (w : Unshared bs e first set left) where
    pub unshared-end : left ≡ 0 → false ≡ some? (same_slot e) (entries_in bs first set)
    unfolding entries_in
    unshared-end z =
        sym (ap (λ js. some? (same_slot e) (entries_at bs first js)) (visited-end w.visited z) ∙ w.none)

    module _ (some : 0 < left) where
      abbrev f : Entry
      f = entry_at bs (first + first_of left)

      pub unshared-stop : f.cell.slot ≡ e.cell.slot → true ≡ some? (same_slot e) (entries_in bs first set)
      unfolding entries_in
      unshared-stop h =
          sym (some?-i (same_slot e) (mathlib.Core.List.Memᴰ.map (λ j. entry_at bs (first + j)) (visited-member w.visited some))
          (same-slot e f h))

      pub unshared-next : (f.cell.slot ≡ e.cell.slot → ⊥) → Unshared bs e first set (rest_of left)
      unshared-next h =
          record {
            passed = w.passed ++ (first_of left ∷ []);
            visited = visited-next w.visited some;
            none =
                ap (some? (same_slot e)) (entries_at-more bs first w.passed (first_of left))
                ∙ some?-append (same_slot e) (entries_at bs first w.passed) (f ∷ [])
                ∙ ap₂ ◌||◌ w.none (some?-cons (same_slot e) f [] ∙ ap₂ ◌||◌ (other-slot e f h) (some?-nil (same_slot e)));
          }

------------------------------------------------------------------------
-- the walk over entries

-- no two of the entries passed have one slot, and they are kept by the low bytes of their slots
pub record Met (bs : List ℕ) (first k : ℕ) (met : List ℕ) : Type 0 where
  pub low : first ≤ k
  pub size : length met ≡ 256
  pub apart : pairwise other_slot (entries_between bs first k) ≡ true
  pub kept : (b : ℕ) → b < 256 → entries_in bs first (get_or met b 0) ≡ keep (slot_is b) (entries_between bs first k)
  pub within : (b j : ℕ) → b < 256 → Memᴰ j (members (get_or met b 0)) → j < k - first

module _ (bs : List ℕ) (first : ℕ) where
  pub met_start : Met bs first first (replicate 256 0)
  unfolding entries_in
  met_start =
      let none = entries_between-nil bs first first (omega arith) in
      let zero : (b : ℕ) → b < 256 → members (get_or (replicate 256 0) b 0) ≡ [] =
      λ b h. ap members (get_or-replicate 256 b 0 0 h) ∙ members-none in
      record {
        low = omega arith;
        size = refl;
        apart = ap (pairwise other_slot) none ∙ pairwise-nil other_slot;
        kept = λ b h. ap (map (λ j. entry_at bs (first + j))) (zero b h) ∙ sym (ap (keep (slot_is b)) none ∙ keep-nil (slot_is b));
        within = λ b j h m. absurd (mathlib.Core.List.Memᴰ.not-nil (subst (Memᴰ j) (zero b h) m));
      }

  module _ {k : ℕ} {met : List ℕ} (w : Met bs first k met) (n : ℕ)
      (byte : n ≡ (entry_at bs k).cell.slot % 256) (few : n < 256) where
    abbrev e : Entry
    e = entry_at bs k

    abbrev l : List Entry
    l = entries_between bs first k

    -- those passed and the next
    more : entries_between bs first (k + 1) ≡ l ++ (e ∷ [])
    more =
        entries_between-split bs first k (k + 1) w.low (omega arith)
        ∙ ap (λ m. l ++ m)
        (entries_between-cons bs k (k + 1) (omega arith)
        ∙ ap (λ m. e ∷ m) (entries_between-nil bs (k + 1) (k + 1) (omega arith)))

    own : slot_is n e ≡ true
    unfolding slot_is
    own = eq-eqb _ _ byte

    -- one of those passed has its slot
    pub met-stop : (end : ℕ) → k < end → some? (same_slot e) (entries_in bs first (get_or met n 0)) ≡ true
        → pairwise other_slot (entries_between bs first end) ≡ false
    met-stop end h t = go (some?-e (same_slot e) (keep (slot_is n) l) (sym (ap (some? (same_slot e)) (w.kept n few)) ∙ t))
      where
        whole : entries_between bs first end ≡ l ++ (e ∷ entries_between bs (k + 1) end)
        whole =
            entries_between-split bs first k end w.low (omega arith)
            ∙ ap (λ m. l ++ m) (entries_between-cons bs k end h)

        go : Passing (same_slot e) (keep (slot_is n) l) → pairwise other_slot (entries_between bs first end) ≡ false
        go (x, m, s) =
            by-fail _ (λ all.
            clash
            (pairwise-split other_slot (mem-keep-in (slot_is n) l m) (mathlib.Core.List.Memᴰ.head refl)
            (sym (ap (pairwise other_slot) whole) ∙ all))
            (slots_apart e x ∙ ap not s))

    module _ (unshared : some? (same_slot e) (entries_in bs first (get_or met n 0)) ≡ false) where
      others : all? (λ x. other_slot x e) l ≡ true
      unfolding slot_is same_slot
      others =
          all?-i (λ x. other_slot x e) l (λ x m. slots_apart e x ∙ ap not (by-fail (same_slot e x) (λ t.
          let q : x.cell.slot ≡ e.cell.slot = eqb-true _ _ t in
          let of-byte : slot_is n x ≡ true = eq-eqb _ _ (byte ∙ ap (λ s. s % 256) (sym q)) in
          clash
          (some?-i (same_slot e) (keep-mem (slot_is n) m of-byte) t)
          (sym (ap (some? (same_slot e)) (w.kept n few)) ∙ unshared))))

      foreign-byte : (b : ℕ) → eqb b n ≡ false → slot_is b e ≡ false
      unfolding slot_is
      foreign-byte b d = ne_eqb _ _ (λ q. eqb-false b n d (q ∙ sym byte))

      own-kept : (s j : ℕ) → members s ≡ members (get_or met n 0) ++ (j ∷ []) → first + j ≡ k
          → entries_in bs first s ≡ keep (slot_is n) (entries_between bs first (k + 1))
      unfolding entries_in
      own-kept s j g at =
          ap (entries_at bs first) g
          ∙ entries_at-more bs first (members (get_or met n 0)) j
          ∙ ap₂ (λ m i. m ++ (entry_at bs i ∷ [])) (w.kept n few) at
          ∙ sym (ap (keep (slot_is n)) more
          ∙ keep_append (slot_is n) l (e ∷ [])
          ∙ ap (λ m. keep (slot_is n) l ++ m) (keep-pass (slot_is n) e [] own ∙ ap (λ m. e ∷ m) (keep-nil (slot_is n))))

      pub met_next : k < first + section_room → Met bs first (k + 1) (set met n (with_one (get_or met n 0) (k - first)))
      met_next room =
          record {
            low = omega (arith, w.low);
            size = length-set met n _ ∙ w.size;
            apart =
                ap (pairwise other_slot) more
                ∙ pairwise-snoc other_slot l e
                ∙ and_i (pairwise other_slot l) (all? (λ x. other_slot x e) l) w.apart others;
            kept = λ b h. kept b h (either (eqb b n));
            within = λ b j h m. within b j h m (either (eqb b n));
          }
        where
          j' : ℕ
          j' = k - first

          position : j' < positions
          position = omega (arith, w.low)

          there : first + j' ≡ k
          there = omega (arith, w.low)

          inside : n < length met
          inside = omega (arith, w.size)

          grown : members (with_one (get_or met n 0) j') ≡ members (get_or met n 0) ++ (j' ∷ [])
          grown = members-with (get_or met n 0) j' position (λ j m. w.within n j few m)

          kept : (b : ℕ) → b < 256 → (eqb b n ≡ true) ⊎ (eqb b n ≡ false)
              → entries_in bs first (get_or (set met n (with_one (get_or met n 0) j')) b 0)
              ≡ keep (slot_is b) (entries_between bs first (k + 1))
          kept b h (inl t) =
              let q : b ≡ n = eqb-true b n t in
              ap (λ c. entries_in bs first (get_or (set met n (with_one (get_or met n 0) j')) c 0)) q
              ∙ ap (entries_in bs first) (get_or-set_same met n _ 0 inside)
              ∙ own-kept _ j' grown there
              ∙ ap (λ c. keep (slot_is c) (entries_between bs first (k + 1))) (sym q)
          kept b h (inr d) =
              ap (entries_in bs first) (get_or-set_other met n b _ 0 (eqb-false b n d))
              ∙ w.kept b h
              ∙ sym (ap (keep (slot_is b)) more
              ∙ keep_append (slot_is b) l (e ∷ [])
              ∙ ap (λ m. keep (slot_is b) l ++ m) (keep-fail (slot_is b) e [] (foreign-byte b d) ∙ keep-nil (slot_is b))
              ∙ append-nil (keep (slot_is b) l))

          within : (b j : ℕ) → b < 256 → Memᴰ j (members (get_or (set met n (with_one (get_or met n 0) j')) b 0))
              → (eqb b n ≡ true) ⊎ (eqb b n ≡ false) → j < k + 1 - first
          within b j h m (inl t) =
              let q : b ≡ n = eqb-true b n t in
              let there' : Memᴰ j (members (with_one (get_or met n 0) j')) =
              subst (λ s. Memᴰ j (members s))
              (ap (λ c. get_or (set met n (with_one (get_or met n 0) j')) c 0) q ∙ get_or-set_same met n _ 0 inside) m in
              last j (mathlib.Core.List.Memᴰ.append_cases (members (get_or met n 0)) (subst (Memᴰ j) grown there'))
            where
              last : (j : ℕ) → Memᴰ j (members (get_or met n 0)) ⊎ Memᴰ j (j' ∷ []) → j < k + 1 - first
              last j (inl i) = omega (arith, w.within n j few i, w.low)
              last j (inr i) = omega (arith, mathlib.Core.List.Memᴰ.eq_of_singleton i, w.low)
          within b j h m (inr d) =
              omega (
                arith,
                w.within b j h (subst (λ s. Memᴰ j (members s)) (get_or-set_other met n b _ 0 (eqb-false b n d)) m),
                w.low,
              )
