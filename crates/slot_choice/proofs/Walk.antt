-- Rules 2 and 3 for a head, by the keys at the crosspoints.
--     cell-number, cell-output     its number, and its output
--     ready-is                     its crosspoint is empty
--     best_key, best-known         the key of the best cell of its output, and where there is one
--     urgent-behind, -tied, -apart it is urgent or not
use Prim.Native.Nat.{ℕ, ◌+◌, ◌*◌, ◌/◌, ◌<◌, ◌≤◌, ◌^◌}
use native.Mathlib.Omega.{arith}
use mathlib.Core.Bool.{Bool, true, false, not, ◌&&◌, and-true}
use mathlib.Core.Path.{◌≡◌, sym, ◌∙◌, ap, ap₂, subst}
use mathlib.Core.Logic.{◌⊎◌, inl, inr, ◌≢◌}
use mathlib.Core.List.{List, [], ◌∷◌, Memᴰ}
use borrow.Author.Tests.{ltb-true, ltb-false, leb-true, leb-false, lt-ltb, le-ltb, eq-eqb, ne_eqb}
use lib.Dec.{eqb, ltb, leb}
use lib.ListN.{get_or}
use Rattle.laws.specs.Lists.{keep, some?, all?}
use Rattle.laws.proofs.Tests.{either, clash, by-fail, same, and_i, and_l, and_r, and-false-l, and_false_r, not-false-i}
use Rattle.laws.proofs.Tests.{cond-pass, cond-fail}
use Rattle.laws.proofs.Lists.{Passing, some?-i, some?-e, none?-i, none?-false, all?-nil, all?-cons, all?-i}
use Rattle.laws.proofs.Lists.{all?-e, keep-nil, keep-pass, keep-mem, mem-keep-in, mem-keep-passes}
use Rattle.cell.specs.declared.Cell.{Cell}
use Rattle.cell.specs.Limits.{section_room}
use Rattle.cell.specs.Order.{over, key}
use Rattle.cell.proofs.Keys.{over-key-input}
use Rattle.cell.proofs.Order.{over-trans}
use Rattle.model.specs.Phase.{Waiting, ahead, beats, same_input, same_output, same_crosspoint, blocked, crosspoint_empty}
use Rattle.model.specs.Phase.{is_urgent, crosspoints}
use Rattle.model.proofs.WaitingOrder.{ahead-i, ahead-at, beats-i, beats-over, input-i, output-i, output-e}
use Rattle.model.proofs.WaitingOrder.{crosspoint-i, crosspoint-input, crosspoint-output}
use Rattle.layout.specs.Entry.{entry_at}
use Rattle.layout.specs.Code.{ports_in}
use Rattle.layout.specs.Table.{entry_limit}
use Rattle.layout_table.specs.CodeEntries.{nowhere}
use Rattle.layout_table.proofs.Keys.{over-keys}
use Rattle.slot_view.specs.CodeView.{places_in, waiting_in, InTable, crosspoint_at}
use Rattle.slot_view.specs.CodeChoices.{best_of}
use Rattle.slot_view.specs.CodeScan.{Holds}
use Rattle.slot_view.specs.CodeViewed.{no_key}
use Rattle.slot_view.proofs.Keys.{key_at-cell, key_at-none}
use Rattle.slot_view.proofs.Window.{waiting_at-at, waiting_at-cell, waiting_at-input, in_table-below, agrees-holds}
use Rattle.slot_leaders.proofs.Best.{Chief, chief-of}
use Rattle.slot_choice.specs.CodeWalk.{KeysKnown, BestKnown, CellAt, cell_at, scheduled_at}
use Rattle.slot_choice.proofs.Scans.{empty-normal}

-- a number is of no entry, or of one
stands : (n : ℕ) → (nowhere ≤ n) ⊎ (n < nowhere)
stands n = go (either (leb nowhere n))
  where
    go : (leb nowhere n ≡ true) ⊎ (leb nowhere n ≡ false) → (nowhere ≤ n) ⊎ (n < nowhere)
    go (inl t) = inl (leb-true nowhere n t)
    go (inr t) = inr (leb-false nowhere n t)

module _ {table : List ℕ} {keys : List (List ℕ)} (w : KeysKnown table keys) {input position : ℕ}
    (a : CellAt table input position) where
  -- the cell, its number, and the cells at the crosspoints
  abbrev k : ℕ
  k = section_room * input + position

  abbrev own : Cell
  own = (entry_at table k).cell

  abbrev e : Waiting
  e = cell_at table input position

  abbrev cells : List Waiting
  cells = crosspoints (waiting_in table)

  pub cell-number : k < entry_limit
  cell-number = in_table-below w.readable a.inside

  pub cell-output : own.output < 16
  cell-output = omega (arith, w.readable.outputs k a.inside, w.readable.ports)

  cell-input : input < 16
  cell-input = omega (arith, cell-number)

  own-input : e.cell.input ≡ input
  own-input = waiting_at-input table (places_in table) k ∙ (let q : k / section_room ≡ input = omega (arith, a.small) in q)

  holds : Holds table w.cross cells
  holds = agrees-holds table (places_in table) w.readable w.cross w.agrees

  slot-fits : (n : ℕ) → InTable table n → (entry_at table n).cell.slot < 2 ^ 32
  slot-fits n t = omega (arith, w.readable.early n t)

  ------------------------------------------------------------------------
  -- before the scheduled cell

  foremost : (s : ℕ) → all? (ahead e) (keep (same_input e) (scheduled_at table input s)) ≡ ltb position s
  unfolding scheduled_at
  foremost s = go (either (ltb s section_room))
    where
      f : Waiting
      f = cell_at table input s

      go : (ltb s section_room ≡ true) ⊎ (ltb s section_room ≡ false)
          → all? (ahead e) (keep (same_input e) (scheduled_at table input s)) ≡ ltb position s
      go (inl t) =
          ap (λ l. all? (ahead e) (keep (same_input e) l)) (cond-pass (ltb s section_room) (f ∷ []) [] t)
          ∙ ap (all? (ahead e)) (keep-pass (same_input e) f [] (input-i e f inputs) ∙ ap (λ l. f ∷ l) (keep-nil (same_input e)))
          ∙ all?-cons (ahead e) f []
          ∙ ap (λ b. ahead e f && b) (all?-nil (ahead e))
          ∙ and-true (ahead e f)
          ∙ same (ahead e f) (ltb position s)
          (λ h. lt-ltb position s (omega (arith, ahead-at e f h, at-e, at_f)))
          (λ h. ahead-i e f inputs (omega (arith, ltb-true position s h, at-e, at_f)))
        where
          at-e : e.at ≡ k
          at-e = waiting_at-at table (places_in table) k

          at_f : f.at ≡ section_room * input + s
          at_f = waiting_at-at table (places_in table) (section_room * input + s)

          inputs : e.cell.input ≡ f.cell.input
          inputs =
              let q : input ≡ (section_room * input + s) / section_room = omega (arith, ltb-true s section_room t) in
              own-input ∙ q ∙ sym (waiting_at-input table (places_in table) (section_room * input + s))
      go (inr t) =
          ap (λ l. all? (ahead e) (keep (same_input e) l)) (cond-fail (ltb s section_room) (f ∷ []) [] t)
          ∙ ap (all? (ahead e)) (keep-nil (same_input e))
          ∙ all?-nil (ahead e)
          ∙ sym (lt-ltb position s (omega (arith, a.small, ltb-false s section_room t)))

  -- the scheduled cell stands before it
  pub urgent-behind : {s : ℕ} → s ≤ position → false ≡ is_urgent (ports_in table) cells (scheduled_at table input s) e
  unfolding is_urgent
  urgent-behind {s} l =
      sym (and_false_r (blocked (ports_in table) cells e) _
      (and-false-l _ _ (foremost s ∙ le-ltb position s l)))

  ------------------------------------------------------------------------
  -- the crosspoint of the cell

  module _ {o : ℕ} (out : o ≡ (entry_at table (section_room * input + position)).cell.output) where
    goes : e.cell.output ≡ o
    goes = ap (λ c. c.output) (waiting_at-cell table (places_in table) k) ∙ sym out

    port : o < 16
    port = omega (arith, cell-output)

    -- the number that stands there, and its key
    abbrev number : ℕ
    number = crosspoint_at w.cross input o

    abbrev held : ℕ
    held = get_or (get_or keys o []) input 0

    -- every cell there has this number
    there : (x : Waiting) → Memᴰ x cells → same_crosspoint e x ≡ true → x.at ≡ number
    there x m s =
        sym (holds.filled x m)
        ∙ ap₂ (crosspoint_at w.cross) (sym (crosspoint-input e x s) ∙ own-input) (sym (crosspoint-output e x s) ∙ goes)

    there-cell : (x : Waiting) → Memᴰ x cells → same_crosspoint e x ≡ true → x.cell ≡ (entry_at table number).cell
    there-cell x m s = holds.cell x m ∙ ap (λ n. (entry_at table n).cell) (there x m s)

    module _ (l : nowhere ≤ number) where
      held_none : held ≡ no_key
      held_none = w.keyed.at input o cell-input port ∙ key_at-none table number l

      not_there : (x : Waiting) → Memᴰ x cells → same_crosspoint e x ≡ true → ⊥
      not_there x m s = omega (arith, there x m s, in_table-below w.readable (holds.inside x m))

      clear : crosspoint_empty cells e ≡ true
      unfolding crosspoint_empty
      clear = none?-i (same_crosspoint e) cells (λ x m. by-fail (same_crosspoint e x) (not_there x m))

      normal : blocked (ports_in table) cells e ≡ false
      normal = empty-normal (ports_in table) (waiting_in table) e clear

    module _ (l : number < nowhere) where
      full : Passing (same_crosspoint e) cells
      full =
          let x = holds.real input o cell-input port l in
          (x.0, x.1, crosspoint-i e x.0 (own-input ∙ sym x.3) (goes ∙ sym x.4))

      inside : InTable table number
      inside = (w.agrees.real input o cell-input port l).0

      held-key : held ≡ key (entry_at table number).cell
      held-key = w.keyed.at input o cell-input port ∙ key_at-cell table number l

      held_below : held ≢ no_key
      held_below q = omega (arith, held-key, w.below number inside)

      not-clear : crosspoint_empty cells e ≡ false
      unfolding crosspoint_empty
      not-clear = none?-false (same_crosspoint e) cells (some?-i (same_crosspoint e) full.1 full.2)

      -- it is blocked if it is over the cell there
      blocked-over : blocked (ports_in table) cells e ≡ over (ports_in table) own (entry_at table number).cell
      unfolding blocked
      blocked-over =
          same (some? test cells) (over (ports_in table) own (entry_at table number).cell)
          (λ s. let x : Passing test cells = some?-e test cells s in
          sym (overs x.0 x.1 (and_l (same_crosspoint e x.0) (beats (ports_in table) e x.0) x.2))
          ∙ beats-over (ports_in table) e x.0 (and_r (same_crosspoint e x.0) (beats (ports_in table) e x.0) x.2))
          (λ t. some?-i test full.1 (and_i (same_crosspoint e full.0) (beats (ports_in table) e full.0) full.2
          (beats-i (ports_in table) e full.0 (crosspoint-output e full.0 full.2)
          (overs full.0 full.1 full.2 ∙ t))))
        where
          test : Waiting → Bool
          test x = same_crosspoint e x && beats (ports_in table) e x

          overs : (x : Waiting) → Memᴰ x cells → same_crosspoint e x ≡ true
              → over (ports_in table) e.cell x.cell ≡ over (ports_in table) own (entry_at table number).cell
          overs x m s = ap₂ (over (ports_in table)) (waiting_at-cell table (places_in table) k) (there-cell x m s)

      -- both are of one input, so the keys decide
      blocked-key : blocked (ports_in table) cells e ≡ ltb (key own) held
      blocked-key =
          blocked-over
          ∙ over-key-input (ports_in table) own (entry_at table number).cell (slot-fits k a.inside)
          (slot-fits number inside)
          (ap (λ c. c.input) (sym (waiting_at-cell table (places_in table) k))
          ∙ crosspoint-input e full.0 full.2
          ∙ ap (λ c. c.input) (there-cell full.0 full.1 full.2))
          ∙ ap (ltb (key own)) (sym held-key)

      ----------------------------------------------------------------------
      -- the crosspoints of its output

      chief : Chief table w.cross holds o
      chief =
          chief-of table w.cross holds o full.1 (sym (crosspoint-output e full.0 full.2) ∙ goes)

      module _ {r : ℕ} (best : r ≡ best_of (ports_in table) cells o) where
        best-inside : InTable table r
        best-inside = subst (InTable table) (chief.number ∙ sym best) (holds.inside chief.chief chief.member)

        best-cell : chief.chief.cell ≡ (entry_at table r).cell
        best-cell =
            holds.cell chief.chief chief.member ∙ ap (λ n. (entry_at table n).cell) (chief.number ∙ sym best)

        -- it is over all of them if it is over the best
        over-best : all? (beats (ports_in table) e) (keep (same_output e) cells)
            ≡ over (ports_in table) own (entry_at table r).cell
        over-best =
            same (all? (beats (ports_in table) e) (keep (same_output e) cells))
            (over (ports_in table) e.cell chief.chief.cell)
            (λ t. beats-over (ports_in table) e chief.chief (all?-e (beats (ports_in table) e) t
            (keep-mem (same_output e) chief.member (output-i e chief.chief (goes ∙ sym chief.goes)))))
            (λ t. all?-i (beats (ports_in table) e) (keep (same_output e) cells) (λ y m.
            each t y (mem-keep-in (same_output e) cells m) (output-e e y (mem-keep-passes (same_output e) cells m))))
            ∙ ap₂ (over (ports_in table)) (waiting_at-cell table (places_in table) k) best-cell
          where
            each : over (ports_in table) e.cell chief.chief.cell ≡ true → (y : Waiting) → Memᴰ y cells
                → e.cell.output ≡ y.cell.output → beats (ports_in table) e y ≡ true
            each t y m q = beats-i (ports_in table) e y q (go (chief.upper y m (sym q ∙ goes)))
              where
                go : (y.cell ≡ chief.chief.cell) ⊎ (beats (ports_in table) chief.chief y ≡ true)
                    → over (ports_in table) e.cell y.cell ≡ true
                go (inl s) = ap (over (ports_in table) e.cell) s ∙ t
                go (inr s) =
                    over-trans (ports_in table) e.cell chief.chief.cell y.cell t
                    (beats-over (ports_in table) chief.chief y s)

    ------------------------------------------------------------------------
    -- by the key there

    pub ready-is : eqb held no_key ≡ crosspoint_empty cells e
    ready-is = go (stands number)
      where
        go : (nowhere ≤ number) ⊎ (number < nowhere) → eqb held no_key ≡ crosspoint_empty cells e
        go (inl l) = eq-eqb held no_key (held_none l) ∙ sym (clear l)
        go (inr l) = ne_eqb held no_key (held_below l) ∙ sym (not-clear l)

    blocked-is : (ltb (key own) held && not (eqb held no_key)) ≡ blocked (ports_in table) cells e
    blocked-is = go (stands number)
      where
        go : (nowhere ≤ number) ⊎ (number < nowhere)
            → (ltb (key own) held && not (eqb held no_key)) ≡ blocked (ports_in table) cells e
        go (inl l) =
            and_false_r (ltb (key own) held) (not (eqb held no_key))
            (not-false-i (eqb held no_key) (eq-eqb held no_key (held_none l)))
            ∙ sym (normal l)
        go (inr l) =
            ap (λ b. ltb (key own) held && not b) (ne_eqb held no_key (held_below l))
            ∙ and-true (ltb (key own) held)
            ∙ sym (blocked-key l)

    -- where it is blocked, its crosspoint is full
    blocked-full : blocked (ports_in table) cells e ≡ true → number < nowhere
    blocked-full t = go (stands number)
      where
        go : (nowhere ≤ number) ⊎ (number < nowhere) → number < nowhere
        go (inl l) = absurd (clash t (normal l))
        go (inr l) = l

    ------------------------------------------------------------------------
    -- by the best of its output

    module _ {best least : List ℕ} (b : BestKnown table keys best least) {x : ℕ}
        (own_key : x ≡ key (entry_at table (section_room * input + position)).cell) where
      abbrev rival : ℕ
      rival = get_or best o 0

      pub best_key : rival < nowhere → get_or least o 0 ≡ key (entry_at table rival).cell
      best_key l = b.leasts o port ∙ key_at-cell table rival l

      -- where its key is the least, there is a best
      pub best-known : x ≡ get_or least o 0 → rival < nowhere
      best-known q = go (stands rival)
        where
          go : (nowhere ≤ rival) ⊎ (rival < nowhere) → rival < nowhere
          go (inl l) =
              absurd (omega (arith, q, own_key, b.leasts o port, key_at-none table rival l, w.below k a.inside))
          go (inr l) = l

      module _ {s : ℕ} (l : position < s) where
        urgent-is : {t : Bool} → (number < nowhere → t ≡ over (ports_in table) own (entry_at table rival).cell)
            → ((ltb x held && not (eqb held no_key)) && t) ≡ is_urgent (ports_in table) cells (scheduled_at table input s) e
        unfolding is_urgent
        urgent-is {t} h =
            ap (λ y. (ltb y held && not (eqb held no_key)) && t) own_key
            ∙ ap (λ c. c && t) blocked-is
            ∙ go (either test)
          where
            test : Bool
            test = blocked (ports_in table) cells e

            before : Bool
            before = all? (ahead e) (keep (same_input e) (scheduled_at table input s))

            upper : Bool
            upper = all? (beats (ports_in table) e) (keep (same_output e) cells)

            go : (test ≡ true) ⊎ (test ≡ false) → (test && t) ≡ (test && (before && upper))
            go (inl f) =
                let full = blocked-full f in
                ap (λ c. test && c)
                (h full
                ∙ sym (over-best full (b.bests o port))
                ∙ sym (ap (λ c. c && upper) (foremost s ∙ lt-ltb position s l)))
            go (inr f) = and-false-l test t f ∙ sym (and-false-l test (before && upper) f)

        -- its key is the least
        pub urgent-tied : {t : Bool} → t ≡ over (ports_in table) own (entry_at table rival).cell
            → ((ltb x held && not (eqb held no_key)) && t) ≡ is_urgent (ports_in table) cells (scheduled_at table input s) e
        urgent-tied q = urgent-is (λ _. q)

        -- it is not
        pub urgent-apart : x ≢ get_or least o 0
            → ((ltb x held && not (eqb held no_key)) && ltb x (get_or least o 0))
            ≡ is_urgent (ports_in table) cells (scheduled_at table input s) e
        urgent-apart d = urgent-is go
          where
            go : number < nowhere → ltb x (get_or least o 0) ≡ over (ports_in table) own (entry_at table rival).cell
            go full =
                let there = best-inside full (b.bests o port) in
                let least-is = best_key (in_table-below w.readable there) in
                ap₂ ltb own_key least-is
                ∙ over-keys (ports_in table) own (entry_at table rival).cell (slot-fits k a.inside) (slot-fits rival there)
                (λ q. d (own_key ∙ q ∙ sym least-is))
