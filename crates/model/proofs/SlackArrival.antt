-- Slackness as a cell enters a section: it falls by at most one.
--     enter_behind      where an entry stood before a cell entered its section
--     enter-slack       one section, which gets one cell
use Prim.Native.Nat.{ℕ, ◌+◌, ◌≤◌}
use native.Mathlib.Omega.{arith}
use mathlib.Core.Bool.{Bool, true, false}
use mathlib.Core.Path.{◌≡◌, refl, sym, ◌∙◌, ap}
use mathlib.Core.Logic.{◌⊎◌, inl, inr}
use mathlib.Core.List.{List, [], ◌∷◌, Memᴰ}
use lib.ListN.{get_or}
use Rattle.laws.specs.Lists.{some?}
use Rattle.cell.specs.declared.Cell.{Cell}
use Rattle.cell.specs.Flow.{same_flow}
use Rattle.cell.specs.Order.{over}
use Rattle.cell.proofs.Flow.{flow-output}
use Rattle.model.specs.State.{Entry, is_listed, is_buffered}
use Rattle.model.specs.Crossbar.{in_list_of, new_entry, enter_after, enter}
use Rattle.model.proofs.Enter.{new-cell, new-listed, in_list, in-flow, is_last, last-in-list, enter_after-nil}
use Rattle.model.proofs.Enter.{enter_after-last, enter_after-next, enter-after, enter-front}
use Rattle.model.proofs.PhasePlaces.{listed-not-buffered}
use Rattle.model.proofs.SlackSections.{Behind, here, there, behind-mem, behind-nil, listed_in, thread_at}
use Rattle.model.proofs.SlackSections.{cushion_at, SlackAt, listed_in-nil, listed_in-cons, listed_in-pass}
use Rattle.model.proofs.SlackSections.{thread-listed, thread-le-listed, thread-grows, cushion-after}

------------------------------------------------------------------------
-- where an entry of a section stood before c entered it

data Entered (c : Cell) (es pre : List Entry) (e : Entry) : Type 0 where
  kept : {before : List Entry} → Behind before e es → listed_in pre ≤ listed_in before + 1 → Entered c es pre e
  new : {d : Entry} {before : List Entry} → e.cell ≡ c → Behind before d es → in_list_of c d ≡ true
      → listed_in pre ≡ listed_in before + 1 → Entered c es pre e

entered-there : {c : Cell} {es pre : List Entry} {e : Entry} (x : Entry) → Entered c es pre e
    → Entered c (x ∷ es) (x ∷ pre) e
entered-there {pre} x (kept {before = b} s h) = kept (there s) (omega (arith, listed_in-cons x pre, listed_in-cons x b))
entered-there {pre} x (new {before = b} p s f h) =
    new p (there s) f (omega (arith, listed_in-cons x pre, listed_in-cons x b))

listed_in-new : (c : Cell) (pre : List Entry) → listed_in (new_entry c ∷ pre) ≡ 1 + listed_in pre
listed_in-new c pre = listed_in-pass (new_entry c) pre (new-listed c)

enter_after-behind : {pre : List Entry} {e : Entry} (c : Cell) (es : List Entry) → Behind pre e (enter_after c es)
    → Entered c es pre e
enter_after-behind {pre} {e} c [] s = absurd (behind-nil (rw (enter_after-nil c) at s))
enter_after-behind {pre} {e} c (x ∷ es) s = go (is_last c x es) refl (λ before t. enter_after-behind {pre = before} c es t)
  where
    -- right before the new cell, at it, and after it
    last : {pre : List Entry} → in_list_of c x ≡ true → Behind pre e (x ∷ new_entry c ∷ es) → Entered c (x ∷ es) pre e
    last f (here p) = kept (here p) (omega arith)
    last f (there (here p)) =
        new (ap (λ e. e.cell) p ∙ new-cell c) (here refl) f
        (rw (listed_in-pass x [] (in_list c x f)) (omega arith))
    last f (there (there {pre = before} t)) =
        kept (there t)
        (omega (arith, listed_in-cons x before, listed_in-cons x (new_entry c ∷ before), listed_in-new c before))

    next : {pre : List Entry} → ((before : List Entry) → Behind before e (enter_after c es) → Entered c es before e)
        → Behind pre e (x ∷ enter_after c es) → Entered c (x ∷ es) pre e
    next rec (here p) = kept (here p) (omega arith)
    next rec (there {pre = before} t) = entered-there x (rec before t)

    go : (b : Bool) → is_last c x es ≡ b
        → ((before : List Entry) → Behind before e (enter_after c es) → Entered c es before e) → Entered c (x ∷ es) pre e
    go true f rec = last (last-in-list c x es f) (rw (enter_after-last c x es f) at s)
    go false f rec = next rec (rw (enter_after-next c x es f) at s)

-- at the front of the section, or one of those
enter_behind : {pre : List Entry} {e : Entry} (c : Cell) (es : List Entry) → Behind pre e (enter c es)
    → (◌≡◌ {A = ℕ} (listed_in pre) 0) ⊎ Entered c es pre e
enter_behind {pre} {e} c es s = go (some? (in_list_of c) es) refl
  where
    front : {pre : List Entry} → Behind pre e (new_entry c ∷ es)
        → (◌≡◌ {A = ℕ} (listed_in pre) 0) ⊎ Entered c es pre e
    front (here p) = inl listed_in-nil
    front (there {pre = before} t) = inr (kept t (omega (arith, listed_in-new c before)))

    go : (b : Bool) → some? (in_list_of c) es ≡ b → (◌≡◌ {A = ℕ} (listed_in pre) 0) ⊎ Entered c es pre e
    go true h = inr (enter_after-behind c es (rw (enter-after c es h) at s))
    go false h = front (rw (enter-front c es h) at s)

------------------------------------------------------------------------
-- slackness

-- the waiting cells of its flow go before a new cell
abbrev pub Follows : ℕ → List Entry → Cell → Type 0
Follows ports es c = (d : Entry) → Memᴰ d es → same_flow d.cell c ≡ true → over ports d.cell c ≡ true

-- the cells that arrive go after those of their flows
abbrev pub FollowAll : ℕ → List Entry → List Cell → Type 0
FollowAll ports es cs = (c : Cell) → Memᴰ c cs → Follows ports es c

-- one cell that enters a section costs each cell of it at most one
pub enter-slack : (ports : ℕ) (sections : List (List Entry)) (k : ℕ) (c : Cell) → Follows ports (get_or sections k []) c
    → SlackAt ports 0 0 sections → (pre : List Entry) (e : Entry) → Behind pre e (enter c (get_or sections k []))
    → is_buffered e.place ≡ false → thread_at pre e ≤ cushion_at ports sections e + 1
enter-slack ports sections k c follows slack pre e s b = go (enter_behind c (get_or sections k []) s)
  where
    go : (◌≡◌ {A = ℕ} (listed_in pre) 0) ⊎ Entered c (get_or sections k []) pre e
        → thread_at pre e ≤ cushion_at ports sections e + 1
    go (inl z) = omega (arith, thread-le-listed pre e)
    go (inr (kept {before = before} t g)) = omega (arith, thread-grows pre before e 1 g, slack k before e t b)
    go (inr (new {d = d} {before = before} p t f g)) =
        let l : is_listed d.place ≡ true = in_list c d f in
        let own : same_flow d.cell c ≡ true = in-flow c d f in
        let wide : cushion_at ports sections d ≤ cushion_at ports sections e =
        cushion-after ports sections d e (flow-output d.cell c own ∙ ap (λ x. x.output) (sym p))
        (ap (over ports d.cell) p ∙ follows d (behind-mem t) own) in
        omega (
          arith,
          thread-le-listed pre e,
          thread-listed before d l,
          slack k before d t (listed-not-buffered d.place l),
        )
