-- The sets that the check of a table hands on are those of its lists, crosspoints and buffers.
use Prim.Native.Nat.{ℕ, ◌+◌, ◌*◌, ◌/◌, ◌-◌, ◌≤◌, ◌<◌}
use native.Mathlib.Omega.{arith}
use mathlib.Core.Bool.{Bool, true, false, ◌&&◌}
use mathlib.Core.Logic.{◌⊎◌, inl, inr}
use mathlib.Core.Path.{◌≡◌, sym, ◌∙◌, ap}
use mathlib.Core.List.{List, [], Memᴰ}
use lib.ListN.{length, get_or, get_or-eq_default}
use Rattle.laws.proofs.Tests.{either, same, by-fail, clash, and_i, and_l, and_r, and-false-l}
use Rattle.laws.proofs.Lists.{none?-i, none?-e}
use Rattle.laws.proofs.Numbers.{numbers_from-mem}
use Rattle.sets.specs.Sets.{set_from}
use Rattle.sets.proofs.Members.{set_from-ext}
use Rattle.cell.specs.Flow.{same_flow}
use Rattle.cell.specs.Limits.{section_room}
use Rattle.laws.proofs.Compared.{Compared, below, equal, above, compare}
use Rattle.laws.specs.Lists.{between}
use Rattle.model.specs.State.{Place, is_listed, is_crossed, is_buffered}
use Rattle.layout.specs.Entry.{entry_at, count_in}
use Rattle.layout.specs.Table.{place_of, state_of, IsTable}
use Rattle.layout.proofs.Records.{between-mem}
use Rattle.layout.proofs.Table.{decode-sound, sound-length}
use Rattle.layout.specs.Code.{ports_in}
use Rattle.slot_check.specs.Handed.{is_first, Handed}
use Rattle.slot_view.specs.CodeView.{waiting_at, waiting_in, InTable, places_in}
use Rattle.slot_view.specs.CodeViewed.{is_head, listed_set, head_set, crossed_set, buffered_set, SetsOf}
use Rattle.slot_view.proofs.Heads.{Earlier, head-unlisted, head-none, head-some}
use Rattle.slot_view.proofs.Own.{table-readable, own-kind}
use Rattle.slot_view.proofs.Placed.{decode-ports, decode-count, in_table-number}

module _ (t : List ℕ) (g : IsTable t) where
  -- an input with an entry is one of the switch's
  pub entry-port : (i j : ℕ) → i < 16 → j < count_in t i → i < ports_in t
  entry-port i j h l = go (compare i (ports_in t))
    where
      none : ports_in t ≤ i → ⊥
      none past =
          let sections : length (state_of t).sections ≤ i =
          omega (arith, sound-length (state_of t) (decode-sound t (state_of t) g), decode-ports t (state_of t) g) in
          let empty : count_in t i ≡ 0 =
          decode-count t (state_of t) g i h ∙ ap length (get_or-eq_default (state_of t).sections [] sections) in
          omega arith

      go : Compared i (ports_in t) → i < ports_in t
      go (below d) = d
      go (equal d) = absurd (none (omega arith))
      go (above d) = absurd (none (omega arith))

  module _ (i : ℕ) (port : i < 16) where
    entry_in : (k : ℕ) → section_room * i ≤ k → k < section_room * i + count_in t i → InTable t k
    entry_in k low high =
        in_table-number t (state_of t) g i k (entry-port i (k - section_room * i) port (omega arith)) low high

    -- a test of the places, by the entries or by the column
    pub kinds : (f : Place → Bool) → set_from (λ k. f (entry_at t k).place) (section_room * i) (count_in t i)
        ≡ set_from (λ k. f (place_of (get_or (places_in t) k 0))) (section_room * i) (count_in t i)
    kinds f =
        set_from-ext _ _ (section_room * i) (count_in t i)
        (λ j l. ap f (sym (own-kind t g (section_room * i + j) (entry_in (section_room * i + j) (omega arith) (omega arith)))))

    module _ (j : ℕ) (inside : j < count_in t i) where
      k : ℕ
      k = section_room * i + j

      here : InTable t k
      unfolding k
      here = entry_in k (omega arith) (omega arith)

      own : k / section_room ≡ i
      unfolding k
      own =
          let few : count_in t i ≤ 64 = (table-readable t g).counts i port in
          omega arith

      -- one of its flow before it
      test : ℕ → Bool
      test a = is_listed (entry_at t a).place && same_flow (entry_at t a).cell (entry_at t k).cell

      before : (a : ℕ) → Memᴰ a (between (section_room * i) k) → test a ≡ true → Earlier t (places_in t) a k
      unfolding test k
      before a m h =
          let range = between-mem (section_room * i) k m in
          let entry = entry_in a range.0 (omega (arith, range.1)) in
          let few : count_in t i ≤ 64 = (table-readable t g).counts i port in
          record {
            listed = record {
              entry = entry;
              place = ap is_listed (own-kind t g a entry) ∙ and_l (is_listed (entry_at t a).place) _ h;
            };
            input = omega (arith, range.0, range.1);
            before = range.1;
            flow = and_r (is_listed (entry_at t a).place) _ h;
          }

      tested : (a : ℕ) → Earlier t (places_in t) a k → Memᴰ a (between (section_room * i) k) × (test a ≡ true)
      unfolding test between k
      tested a w = (
        numbers_from-mem (section_room * i) (k - section_room * i) (omega (arith, w.input, own)) (omega (arith, w.before)),
        and_i (is_listed (entry_at t a).place) _ (sym (ap is_listed (own-kind t g a w.listed.entry)) ∙ w.listed.place)
            w.flow,
      )

      first_head : is_first t i k ≡ is_head (waiting_in t) (waiting_at t (places_in t) k)
      unfolding is_first test
      first_head = go (either (is_listed (entry_at t k).place))
        where
          go : (is_listed (entry_at t k).place ≡ true) ⊎ (is_listed (entry_at t k).place ≡ false)
              → is_first t i k ≡ is_head (waiting_in t) (waiting_at t (places_in t) k)
          go (inl l) =
              same _ _
              (λ h. head-none t (places_in t) (table-readable t g) k (ap is_listed (own-kind t g k here) ∙ l)
              (λ a w. let m = tested a w in
              clash m.1 (none?-e test (and_r (is_listed (entry_at t k).place) _ h) m.0)))
              (λ h. and_i (is_listed (entry_at t k).place) _ l
              (none?-i test (between (section_room * i) k)
              (λ a m. by-fail _ (λ b. clash h (head-some t (places_in t) (table-readable t g) k a (before a m b))))))
          go (inr l) =
              and-false-l (is_listed (entry_at t k).place) _ l
              ∙ sym (head-unlisted t (places_in t) (table-readable t g) k (ap is_listed (own-kind t g k here) ∙ l))

    firsts : set_from (is_first t i) (section_room * i) (count_in t i)
        ≡ set_from (λ k. is_head (waiting_in t) (waiting_at t (places_in t) k)) (section_room * i) (count_in t i)
    unfolding k
    firsts = set_from-ext _ _ (section_room * i) (count_in t i) (λ j l. first_head j l)

  pub handed-sets : (listed heads crossed buffered : List ℕ) → Handed t listed heads crossed buffered
      → SetsOf t (places_in t) listed heads crossed buffered
  unfolding listed_set head_set crossed_set buffered_set
  handed-sets listed heads crossed buffered w =
      record {
        lists = record {
          listed-size = w.listed-size;
          heads-size = w.heads-size;
          listed-at = λ i h. w.listed-at i h ∙ kinds i h is_listed;
          heads-at = λ i h. w.heads-at i h ∙ firsts i h;
        };
        crossed-size = w.crossed-size;
        buffered-size = w.buffered-size;
        crossed-at = λ i h. w.crossed-at i h ∙ kinds i h is_crossed;
        buffered-at = λ i h. w.buffered-at i h ∙ kinds i h is_buffered;
      }
