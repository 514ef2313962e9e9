-- The player's text does not depend on the pieces in which a trace arrives, over any machine whose switches keep the
-- player's clock.
--     rest                       what is still to be written, by where the player stands and all the text that is left
--     turn-rest                  a turn writes the next part of that, wherever the text that is there is cut
--     turn-stuck                 a turn that writes nothing changes nothing,
--     turn-waits                 and then the player is over, or it waits for more text and more is to come
--     Plays                      a run of the player over pieces, its turns and the pieces in any order
--     whatever-pieces            whatever the pieces and the run, what is written is the player's text
--     whatever-end               and by its last lines the trace was played to its end or turned back
--     ends-once                  which of the two, its last lines tell
--     turns_go                   turns that write something take bytes or come to the end; others change nothing
--     turns-over                 and where the text was enough the player is over then
--     play_pieces, pieces-text    one such run: turns until one writes nothing, then the next piece
use Prim.Native.Nat.{ℕ, zero, suc, ◌+◌, ◌-◌, ◌≤◌, ◌<◌}
use native.Mathlib.Omega.{arith}
use mathlib.Core.Bool.{Bool, true, false, cond}
use mathlib.Core.List.{List, [], ◌∷◌, ◌++◌, flatten, append-nil, append_assoc, cons-ne-nil}
use mathlib.Core.Logic.{◌⊎◌, inl, inr, ◌≢◌}
use mathlib.Core.Option.{Option}
use mathlib.Core.Path.{◌≡◌, refl, sym, ap, ◌∙◌}
use borrow.Author.Tests.{leb-true, leb-false, ne_eqb}
use lib.Dec.{eqb}
use lib.ListN.{length, length-append}
use Rattle.laws.specs.Lists.{all?}
use Rattle.laws.proofs.Tests.{clash, and_l, and_r}
use Rattle.cell.specs.declared.Arrival.{Arrival}
use Rattle.cell.specs.declared.Cell.{Cell}
use Rattle.cell.specs.declared.Refusal.{Refusal}
use Rattle.cell.specs.declared.Refusal.TheVariants.{BadLine}
use Rattle.cell.specs.Refusal.{number}
use Rattle.model.specs.Checks.{Outcome, done, refused}
use Rattle.model.specs.State.{Switch}
use Rattle.trace.specs.declared.Key.{Key}
use Rattle.trace.specs.declared.Key.TheVariants.{Ports, First, Slot, End, Refused, Line}
use Rattle.trace.specs.Ascii.{ascii}
use Rattle.trace.specs.Line.{key_name, key_text, decimal, line, is_digit}
use Rattle.trace.specs.Piece.{known, enough, decided, next_in, header_in}
use Rattle.trace.specs.Reader.{from, Cursor, Next, slot_ahead, finished, faulty, next, Header, opened, refused_at, header}
use Rattle.trace.proofs.Line.{is_digit-e, all?-decimal, length-line}
use Rattle.trace.proofs.Blocks.{next-exact}
use Rattle.trace.proofs.RoundTrip.{header-exact}
use Rattle.trace.specs.Lines.{departures_text, refusal_text}
use Rattle.trace_reader.proofs.Answers.{header_in-more, header_in-known, next_in-more, next_in-known}
use Rattle.trace_reader.proofs.Pieces.{onward_next, next-onwards, behind_header, header-append}
use Rattle.trace_reader.proofs.Whole.{nil-text, next-nil, next-shorter}
use Rattle.player_text.specs.Player.{Machine, line_of, play_from, play}
use Rattle.player_text.specs.Turn.{Ticks, Standing, opening, playing, ended, turned_back, Over, at-end, at-refusal}
use Rattle.player_text.specs.Turn.{Turn, ending, slot_turn, next_turn, header_turn, turn, followed, turns}
use Rattle.player_text.proofs.Written.{play-finished, play-faulty, play-refused, play-done, play-turned-back, play-opened}

-- how many blocks may be played does not matter, if there are as many as bytes

module _ {S : Type 0} (m : Machine S) where
  play-any-fault : (most clock : ℕ) (s : S) (c : Cursor) {l : ℕ} → length c.text ≤ most → next clock c ≡ faulty l
      → play_from m most clock s c ≡ refusal_text BadLine l
  unfolding play_from
  play-any-fault zero clock s c {l} h e =
      let f : c.line ≡ l = cc (next-nil clock c (nil-text c.text h)) in
      ap (refusal_text BadLine) f
  play-any-fault (suc most) clock s c h e = play-faulty m most clock s c e

  play-nil : (most few clock : ℕ) (s : S) (c : Cursor) → length c.text ≤ 0
      → play_from m most clock s c ≡ play_from m few clock s c
  play-nil most few clock s c h =
      let e : next clock c ≡ faulty c.line = next-nil clock c (nil-text c.text h) in
      play-any-fault most clock s c (omega arith) e ∙ sym (play-any-fault few clock s c (omega arith) e)

  play-fuel : (most few clock : ℕ) (s : S) (c : Cursor) → length c.text ≤ most → length c.text ≤ few
      → play_from m most clock s c ≡ play_from m few clock s c
  play-fuel zero few clock s c h k = play-nil zero few clock s c h
  play-fuel (suc most) zero clock s c h k = play-nil (suc most) zero clock s c k
  play-fuel (suc most) (suc few) clock s c h k = go (next clock c) refl (play-fuel most few (clock + 1))
    where
      ran : {records : List Arrival} {d : Cursor} → next clock c ≡ slot_ahead records d
          → (o : Outcome (List (Option Cell) × S)) → m.slot s records ≡ o
          → ((s : S) → play_from m most (clock + 1) s d ≡ play_from m few (clock + 1) s d)
          → play_from m (suc most) clock s c ≡ play_from m (suc few) clock s c
      ran e (refused r place) f same = play-refused m most clock s c e f ∙ sym (play-refused m few clock s c e f)
      ran e (done x) f same =
          play-done m most clock s c e f
          ∙ ap (λ w. line Slot clock ++ (departures_text x.0 ++ w)) (same x.1)
          ∙ sym (play-done m few clock s c e f)

      go : (n : Next) → next clock c ≡ n
          → ((s : S) (d : Cursor) → length d.text ≤ most → length d.text ≤ few
          → play_from m most (clock + 1) s d ≡ play_from m few (clock + 1) s d)
          → play_from m (suc most) clock s c ≡ play_from m (suc few) clock s c
      go (slot_ahead records d) e same =
          let l : length d.text < length c.text = next-shorter clock c e in
          ran e (m.slot s records) refl (λ s. same s d (omega arith) (omega arith))
      go finished e same = play-finished m most clock s c e ∙ sym (play-finished m few clock s c e)
      go (faulty l) e same = play-faulty m most clock s c e ∙ sym (play-faulty m few clock s c e)

-- a turn

-- a block and the line after it are there whole, or nothing is to come
abbrev Enough : List ℕ → List ℕ → Type 0
Enough t u = (enough ≤ length t) ⊎ (u ≡ [])

decided-enough : (last : Bool) (t u : List ℕ) → (last ≡ true → u ≡ []) → decided last t ≡ true → Enough t u
unfolding decided
decided-enough true t u e h = inr (e refl)
decided-enough false t u e h = inl (leb-true enough (length t) h)

behind-nothing : (x : Header) → behind_header [] x ≡ x
unfolding behind_header
behind-nothing (opened ports first c) = ap (λ t. opened ports first (from c.line t)) (append-nil c.text)
behind-nothing (refused_at r l) = refl

module _ (m : Machine Switch) where
  -- what is still to be written when t is all the text that is left
  unfoldable pub rest : Standing → List ℕ → List ℕ
  rest opening t = play m t
  rest (playing l s) t = play_from m (length t) s.clock s (from l t)
  rest ended t = []
  rest turned_back t = []

  -- what is left to write, by the first block of the text that is left

  module _ (l : ℕ) (s : Switch) (t : List ℕ) where
    rest-fault : {k : ℕ} → next s.clock (from l t) ≡ faulty k → rest (playing l s) t ≡ refusal_text BadLine k
    unfolding rest
    rest-fault e = play-any-fault m (length t) s.clock s (from l t) (omega arith) e

    rest_end : next s.clock (from l t) ≡ finished → rest (playing l s) t ≡ line End s.clock
    unfolding rest
    rest_end e =
        let (f, g) = rw e at (next-exact s.clock (from l t)) in
        let n : length t ≡ suc (length t - 1) = omega (arith, ap length f, length-line End s.clock) in
        ap (λ k. play_from m k s.clock s (from l t)) n
        ∙ play-finished m (length t - 1) s.clock s (from l t) e

    module _ {records : List Arrival} {d : Cursor} (e : next s.clock (from l t) ≡ slot_ahead records d) where
      longer : length t ≡ suc (length t - 1)
      longer = omega (arith, next-shorter s.clock (from l t) e)

      rest-refused : {r : Refusal} {place : ℕ} → m.slot s records ≡ refused r place
          → rest (playing l s) t ≡ refusal_text r (line_of l place)
      unfolding rest
      rest-refused h =
          ap (λ k. play_from m k s.clock s (from l t)) longer
          ∙ play-refused m (length t - 1) s.clock s (from l t) e h

      rest-slot : Ticks m → {x : List (Option Cell) × Switch} → m.slot s records ≡ done x
          → rest (playing l s) t
          ≡ line Slot s.clock ++ (departures_text x.0 ++ rest (playing d.line x.1) d.text)
      unfolding rest
      rest-slot ticks {x} h =
          let f : length d.text ≤ length t - 1 = omega (arith, next-shorter s.clock (from l t) e) in
          ap (λ k. play_from m k s.clock s (from l t)) longer
          ∙ play-done m (length t - 1) s.clock s (from l t) e h
          ∙ ap (λ w. line Slot s.clock ++ (departures_text x.0 ++ w))
          (play-fuel m (length t - 1) (length d.text) (s.clock + 1) x.1 d f (omega arith)
          ∙ ap (λ n. play_from m (length d.text) n x.1 d) (sym (ticks.rises s records h)))

  -- what the turn x writes is the next part of what is to be written, where u stands behind the text t that is there
  abbrev NextPart : Standing → List ℕ → List ℕ → Turn → Type 0
  NextPart s t u x = rest s (t ++ u) ≡ x.written ++ rest x.after (x.left ++ u)

  nothing-over : {s : Standing} → Over s → (t : List ℕ) → rest s t ≡ []
  unfolding rest
  nothing-over at-end t = refl
  nothing-over at-refusal t = refl

  -- nothing more is written
  part_end : (s : Standing) (t u : List ℕ) {e : Standing} → Over e → {w : List ℕ} → rest s (t ++ u) ≡ w
      → NextPart s t u (ending e w t)
  unfolding ending
  part_end s t u o {w} h = h ∙ sym (append-nil w) ∙ ap (λ v. w ++ v) (sym (nothing-over o (t ++ u)))

  module _ (ticks : Ticks m) where
    rest-fresh : (ports first l : ℕ) (t : List ℕ)
        → play_from m (length t) first (m.fresh ports first) (from l t) ≡ rest (playing l (m.fresh ports first)) t
    unfolding rest
    rest-fresh ports first l t =
        ap (λ n. play_from m (length t) n (m.fresh ports first) (from l t)) (sym (ticks.starts ports first))

    module _ (t u : List ℕ) (e : Enough t u) where
      -- the header

      header-there : header (t ++ u) ≡ behind_header u (header t)
      header-there = go e
        where
          go : Enough t u → header (t ++ u) ≡ behind_header u (header t)
          go (inl h) = header-append t u h
          go (inr h) = rw h (ap header (append-nil t) ∙ sym (behind-nothing (header t)))

      header-part : (x : Header) → header t ≡ x → NextPart opening t u (header_turn m t (known x))
      unfolding header_turn behind_header rest
      header-part (refused_at r l) h =
          let f : header (t ++ u) ≡ refused_at r l = header-there ∙ rw h in
          part_end opening t u at-refusal (play-turned-back m (t ++ u) f)
      header-part (opened ports first c) h =
          let f : header (t ++ u) ≡ opened ports first (from c.line (c.text ++ u)) = header-there ∙ rw h in
          play-opened m (t ++ u) f
          ∙ ap (λ w. line Ports ports ++ (line First first ++ w)) (rest-fresh ports first c.line (c.text ++ u))
          ∙ sym (append_assoc (line Ports ports) (line First first) _)

      -- a block, or the end

      module _ (l : ℕ) (s : Switch) where
        next-there : next s.clock (from l (t ++ u)) ≡ onward_next l u (next s.clock (from 0 t))
        next-there =
            let z : l ≡ l + 0 = omega arith in
            ap (λ k. next s.clock (from k (t ++ u))) z ∙ next-onwards l u s.clock (from 0 t) e

        slot-part : {records : List Arrival} (d : Cursor)
            → next s.clock (from l (t ++ u)) ≡ slot_ahead records (from (l + d.line) (d.text ++ u))
            → (o : Outcome (List (Option Cell) × Switch)) → m.slot s records ≡ o
            → NextPart (playing l s) t u (slot_turn s.clock l t d o)
        unfolding slot_turn
        slot-part d f (refused r place) h = part_end (playing l s) t u at-refusal (rest-refused l s (t ++ u) f h)
        slot-part d f (done x) h =
            rest-slot l s (t ++ u) f ticks h ∙ sym (append_assoc (line Slot s.clock) (departures_text x.0) _)

        next-part : (n : Next) → next s.clock (from 0 t) ≡ n → NextPart (playing l s) t u (next_turn m l s t (known n))
        unfolding next_turn onward_next
        next-part finished h = part_end (playing l s) t u at-end (rest_end l s (t ++ u) (next-there ∙ rw h))
        next-part (faulty k) h = part_end (playing l s) t u at-refusal (rest-fault l s (t ++ u) (next-there ∙ rw h))
        next-part (slot_ahead records d) h = slot-part d (next-there ∙ rw h) (m.slot s records) refl

    module _ (last : Bool) (t u : List ℕ) (e : last ≡ true → u ≡ []) where
      opening-part : (b : Bool) → decided last t ≡ b → NextPart opening t u (header_turn m t (header_in last t))
      unfolding header_turn
      opening-part true h = rw (header_in-known last t h) (header-part t u (decided-enough last t u e h) (header t) refl)
      opening-part false h = rw (header_in-more last t h)

      playing-part : (l : ℕ) (s : Switch) (b : Bool) → decided last t ≡ b
          → NextPart (playing l s) t u (next_turn m l s t (next_in last s.clock t))
      unfolding next_turn
      playing-part l s true h =
          rw (next_in-known last t s.clock h)
          (next-part t u (decided-enough last t u e h) l s (next s.clock (from 0 t)) refl)
      playing-part l s false h = rw (next_in-more last t s.clock h)

    -- Any turn, where t is there of what is left and u is to come.
    pub turn-rest : (last : Bool) (s : Standing) (t u : List ℕ) → (last ≡ true → u ≡ [])
        → rest s (t ++ u) ≡ (turn m last s t).written ++ rest (turn m last s t).after ((turn m last s t).left ++ u)
    unfolding turn
    turn-rest last opening t u e = opening-part last t u e (decided last t) refl
    turn-rest last (playing l s) t u e = playing-part last t u e l s (decided last t) refl
    turn-rest last ended t u e = part_end ended t u at-end (nothing-over at-end (t ++ u))
    turn-rest last turned_back t u e = part_end turned_back t u at-refusal (nothing-over at-refusal (t ++ u))

-- a turn that writes nothing

line-some : (k : Key) (n : ℕ) (w : List ℕ) → line k n ++ w ≢ []
line-some k n w h = omega (arith, length-line k n, length-append (line k n) w, ap length h)

refusal-some : (r : Refusal) (l : ℕ) → refusal_text r l ≢ []
unfolding refusal_text
refusal-some r l = line-some Refused (number r) (line Line l)

-- the last turn, which takes no byte, is to come
unfoldable pub ahead : Standing → ℕ
ahead opening = 1
ahead (playing l s) = 1
ahead ended = 0
ahead turned_back = 0

-- What a turn x on the text t comes to: it writes nothing and changes nothing, as the player is over or waits for more
-- text; or it writes something, and it takes bytes or is the last.
pub data Comes (last : Bool) (s : Standing) (t : List ℕ) (x : Turn) : Type 0 where
  still : x.written ≡ [] → x.left ≡ t → x.after ≡ s → Over s ⊎ ((last ≡ false) × (length t < enough))
      → Comes last s t x
  writes : x.written ≢ [] → length x.left + ahead x.after < length t + ahead s → Comes last s t x

decided-waits : (last : Bool) (t : List ℕ) → decided last t ≡ false → (last ≡ false) × (length t < enough)
unfolding decided
decided-waits true t h = absurd (clash refl h)
decided-waits false t h = (refl, leb-false enough (length t) h)

module _ (m : Machine Switch) where
  module _ (last : Bool) (t : List ℕ) where
    header-comes : (x : Header) → header t ≡ x → Comes last opening t (header_turn m t (known x))
    unfolding header_turn ending ahead
    header-comes (refused_at r l) h = writes (refusal-some r l) (omega arith)
    header-comes (opened ports first c) h =
        let (p, f) = rw h at (header-exact t) in
        let l : length t ≡ length (line Ports ports) + (length (line First first) + length c.text) =
        ap length f ∙ simp length-append in
        writes (line-some Ports ports (line First first)) (omega (arith, length-line Ports ports))

    module _ (l : ℕ) (s : Switch) where
      slot-comes : (d : Cursor) → length d.text < length t → (o : Outcome (List (Option Cell) × Switch))
          → Comes last (playing l s) t (slot_turn s.clock l t d o)
      unfolding slot_turn ending ahead
      slot-comes d h (refused r place) = writes (refusal-some r (line_of l place)) (omega arith)
      slot-comes d h (done x) = writes (line-some Slot s.clock (departures_text x.0)) (omega arith)

      next-comes : (n : Next) → next s.clock (from 0 t) ≡ n → Comes last (playing l s) t (next_turn m l s t (known n))
      unfolding next_turn ending ahead
      next-comes finished h = writes (rw append-nil at (line-some End s.clock [])) (omega arith)
      next-comes (faulty k) h = writes (refusal-some BadLine (l + k)) (omega arith)
      next-comes (slot_ahead records d) h = slot-comes d (next-shorter s.clock (from 0 t) h) (m.slot s records)

    opening-comes : (b : Bool) → decided last t ≡ b → Comes last opening t (header_turn m t (header_in last t))
    unfolding header_turn
    opening-comes true h = rw (header_in-known last t h) (header-comes (header t) refl)
    opening-comes false h = rw (header_in-more last t h) (still refl refl refl (inr (decided-waits last t h)))

    playing-comes : (l : ℕ) (s : Switch) (b : Bool) → decided last t ≡ b
        → Comes last (playing l s) t (next_turn m l s t (next_in last s.clock t))
    unfolding next_turn
    playing-comes l s true h = rw (next_in-known last t s.clock h) (next-comes l s (next s.clock (from 0 t)) refl)
    playing-comes l s false h = rw (next_in-more last t s.clock h) (still refl refl refl (inr (decided-waits last t h)))

  pub turn-comes : (last : Bool) (s : Standing) (t : List ℕ) → Comes last s t (turn m last s t)
  unfolding turn ending
  turn-comes last opening t = opening-comes last t (decided last t) refl
  turn-comes last (playing l s) t = playing-comes last t l s (decided last t) refl
  turn-comes last ended t = still refl refl refl (inl at-end)
  turn-comes last turned_back t = still refl refl refl (inl at-refusal)

  module _ (last : Bool) (s : Standing) (t : List ℕ) (h : (turn m last s t).written ≡ []) where
    -- it changes nothing
    pub turn-stuck : ((turn m last s t).left ≡ t) × ((turn m last s t).after ≡ s)
    turn-stuck = go (turn-comes last s t)
      where
        go : Comes last s t (turn m last s t) → ((turn m last s t).left ≡ t) × ((turn m last s t).after ≡ s)
        go (still _ f g _) = (f, g)
        go (writes n _) = absurd (n h)

    -- the player is over; or more text is to come, and less than 2,048 bytes are there
    pub turn-waits : Over s ⊎ ((last ≡ false) × (length t < enough))
    turn-waits = go (turn-comes last s t)
      where
        go : Comes last s t (turn m last s t) → Over s ⊎ ((last ≡ false) × (length t < enough))
        go (still _ _ _ w) = w
        go (writes n _) = absurd (n h)

-- any run

-- The last lines that are written, by where the player stands then: `end`, or a refusal.
unfoldable pub EndsAs : Standing → List ℕ → Type 0
EndsAs opening w = ⊥
EndsAs (playing l s) w = ⊥
EndsAs ended w = (v : List ℕ) × (n : ℕ) × (w ≡ v ++ line End n)
EndsAs turned_back w = (v : List ℕ) × (r : Refusal) × (l : ℕ) × (w ≡ v ++ refusal_text r l)

ends-later : {e : Standing} → Over e → (v w : List ℕ) → EndsAs e w → EndsAs e (v ++ w)
unfolding EndsAs
ends-later at-end v w (u, n, h) = (v ++ u, n, ap (λ x. v ++ x) h ∙ sym (append_assoc v u (line End n)))
ends-later at-refusal v w (u, r, l, h) = (v ++ u, r, l, ap (λ x. v ++ x) h ∙ sym (append_assoc v u (refusal_text r l)))

-- a text ends in one of the two ways only: the byte before its last `=`, from a byte and what was found so far, tells

mark : ℕ → ℕ → List ℕ → ℕ
mark before found [] = found
mark before found (b ∷ t) = mark b (cond (eqb b 61) before found) t

mark-behind : (w : List ℕ) {k : ℕ} → ((before found : ℕ) → mark before found w ≡ k) → (before found : ℕ) (v : List ℕ)
    → mark before found (v ++ w) ≡ k
unfolding mark
mark-behind w h before found [] = h before found
mark-behind w h before found (b ∷ v) = mark-behind w h b (cond (eqb b 61) before found) v

mark-digits : (before found : ℕ) (ds : List ℕ) → all? is_digit ds ≡ true → mark before found (ds ++ (10 ∷ [])) ≡ found
unfolding mark all?
mark-digits before found [] h = refl
mark-digits before found (d ∷ ds) h =
    let (_, few) = is_digit-e d (and_l (is_digit d) (all? is_digit ds) h) in
    let keep : cond (eqb d 61) before found ≡ found = rw (ne_eqb d 61 (λ e. omega arith)) in
    ap (λ x. mark d x (ds ++ (10 ∷ []))) keep
    ∙ mark-digits d found ds (and_r (is_digit d) (all? is_digit ds) h)

mark-end : (n before found : ℕ) → mark before found (line End n) ≡ 100
unfolding mark line key_text key_name ascii
mark-end n before found = mark-digits 61 100 (decimal n) (all?-decimal n)

mark-line : (l before found : ℕ) → mark before found (line Line l) ≡ 101
unfolding mark line key_text key_name ascii
mark-line l before found = mark-digits 61 101 (decimal l) (all?-decimal l)

ends-apart : (w : List ℕ) → EndsAs ended w → EndsAs turned_back w → ⊥
unfolding EndsAs refusal_text
ends-apart w (v, n, h) (u, r, l, k) =
    let e : mark 0 0 w ≡ 100 = ap (mark 0 0) h ∙ mark-behind (line End n) (mark-end n) 0 0 v in
    let f : mark 0 0 w ≡ 101 =
    ap (mark 0 0) (k ∙ sym (append_assoc u (line Refused (number r)) (line Line l)))
    ∙ mark-behind (line Line l) (mark-line l) 0 0 (u ++ line Refused (number r)) in
    omega arith

pub ends-once : {e d : Standing} → Over e → Over d → (w : List ℕ) → EndsAs e w → EndsAs d w → e ≡ d
ends-once at-end at-end w h k = refl
ends-once at-end at-refusal w h k = absurd (ends-apart w h k)
ends-once at-refusal at-end w h k = absurd (ends-apart w k h)
ends-once at-refusal at-refusal w h k = refl

-- the turn x, after which the player is over, writes these lines; or the player was over before it
abbrev EndsBy : Standing → Turn → Type 0
EndsBy s x = Over x.after → (s ≡ x.after) ⊎ EndsAs x.after x.written

opening-goes-on : {e : Standing} → Over e → opening ≢ e
opening-goes-on at-end f = let z : ◌≡◌ {A = ℕ} 0 1 = cc in omega arith
opening-goes-on at-refusal f = let z : ◌≡◌ {A = ℕ} 0 1 = cc in omega arith

module _ (m : Machine Switch) where
  -- A run of the player: where it stands, the text that is there, the pieces that are to come, what it writes from here
  -- to its end, and where it stands then. At each step it takes a turn on the text that is there, or puts the next piece
  -- behind that.
  pub data Plays : Standing → List ℕ → List (List ℕ) → List ℕ → Standing → Type 0 where
    -- the player is over, whatever is left
    ends : {e : Standing} {t : List ℕ} {ps : List (List ℕ)} → Over e → Plays e t ps [] e
    -- a turn; that the last of the text is there may be said only if nothing is to come
    takes : {s e : Standing} {t : List ℕ} {ps : List (List ℕ)} {w : List ℕ} (last : Bool)
        → (last ≡ true → flatten ps ≡ []) → Plays (turn m last s t).after (turn m last s t).left ps w e
        → Plays s t ps ((turn m last s t).written ++ w) e
    -- the next piece
    receives : {s e : Standing} {t p : List ℕ} {ps : List (List ℕ)} {w : List ℕ}
        → Plays s (t ++ p) ps w e → Plays s t (p ∷ ps) w e

  pub plays-over : {s e : Standing} {t : List ℕ} {ps : List (List ℕ)} {w : List ℕ} → Plays s t ps w e → Over e
  plays-over (ends o) = o
  plays-over (takes last e r) = plays-over r
  plays-over (receives r) = plays-over r

  -- how it ends

  header-ends : (t : List ℕ) (x : Header) → EndsBy opening (header_turn m t (known x))
  unfolding header_turn ending EndsAs
  header-ends t (refused_at r l) o = inr ([], r, l, refl)
  header-ends t (opened _ _ _) o = elim o [ ]

  module _ (l : ℕ) (s : Switch) (t : List ℕ) where
    slot-ends : (d : Cursor) (o : Outcome (List (Option Cell) × Switch))
        → EndsBy (playing l s) (slot_turn s.clock l t d o)
    unfolding slot_turn ending EndsAs
    slot-ends d (refused r place) o = inr ([], r, line_of l place, refl)
    slot-ends d (done _) o = elim o [ ]

    next-ends : (n : Next) → EndsBy (playing l s) (next_turn m l s t (known n))
    unfolding next_turn ending EndsAs
    next-ends finished o = inr ([], s.clock, refl)
    next-ends (faulty k) o = inr ([], BadLine, l + k, refl)
    next-ends (slot_ahead records d) o = slot-ends d (m.slot s records) o

  turn-ends : (last : Bool) (s : Standing) (t : List ℕ) → EndsBy s (turn m last s t)
  unfolding turn ending header_turn next_turn
  turn-ends last opening t = go (decided last t) refl
    where
      go : (b : Bool) → decided last t ≡ b → EndsBy opening (header_turn m t (header_in last t))
      go true h = rw (header_in-known last t h) (header-ends t (header t))
      go false h = rw (header_in-more last t h) (λ o. inl refl)
  turn-ends last (playing l s) t = go (decided last t) refl
    where
      go : (b : Bool) → decided last t ≡ b → EndsBy (playing l s) (next_turn m l s t (next_in last s.clock t))
      go true h = rw (next_in-known last t s.clock h) (next-ends l s t (next s.clock (from 0 t)))
      go false h = rw (next_in-more last t s.clock h) (λ o. inl refl)
  turn-ends last ended t = λ o. inl refl
  turn-ends last turned_back t = λ o. inl refl

  module _ (ticks : Ticks m) where
    plays-rest : {s e : Standing} {t : List ℕ} {ps : List (List ℕ)} {w : List ℕ} → Plays s t ps w e
        → w ≡ rest m s (t ++ flatten ps)
    unfolding flatten
    plays-rest (ends {t = t} {ps = ps} o) = sym (nothing-over m o (t ++ flatten ps))
    plays-rest (takes {s = s} {t = t} {ps = ps} last e r) =
        ap (λ v. (turn m last s t).written ++ v) (plays-rest r) ∙ sym (turn-rest m ticks last s t (flatten ps) e)
    plays-rest (receives {s = s} {t = t} {p = p} {ps = ps} r) =
        plays-rest r ∙ ap (rest m s) (append_assoc t p (flatten ps))

    -- Whatever the pieces and the run over them, it writes what the player writes for the whole text. (Over any pieces
    -- there is a run: `pieces-play`.)
    pub whatever-pieces : (ps : List (List ℕ)) (w : List ℕ) (e : Standing) → Plays opening [] ps w e
        → w ≡ play m (flatten ps)
    unfolding rest
    whatever-pieces ps w e r = plays-rest r

    plays-ends : {s e : Standing} {t : List ℕ} {ps : List (List ℕ)} {w : List ℕ} → Plays s t ps w e → (s ≡ e) ⊎ EndsAs e w
    plays-ends (ends o) = inl refl
    plays-ends (receives r) = plays-ends r
    plays-ends (takes {s = s} {e = e} {t = t} {ps = ps} {w = w} last none r) = go (plays-ends r)
      where
        x : Turn
        x = turn m last s t

        by : (s ≡ x.after) ⊎ EndsAs x.after x.written → x.after ≡ e → (s ≡ e) ⊎ EndsAs e (x.written ++ w)
        by (inl f) h = inl (f ∙ h)
        by (inr k) h =
            let nothing : w ≡ [] = plays-rest r ∙ nothing-over m (rw h (plays-over r)) (x.left ++ flatten ps) in
            inr (rw (nothing, append-nil, ← h) k)

        go : (x.after ≡ e) ⊎ EndsAs e w → (s ≡ e) ⊎ EndsAs e (x.written ++ w)
        go (inl h) = by (turn-ends last s t (rw h (plays-over r))) h
        go (inr k) = inr (ends-later (plays-over r) x.written w k)

    -- So the player's text ends with the line `end` where the run ends at `ended`, and with a refusal where it is turned
    -- back.
    pub whatever-end : (ps : List (List ℕ)) (w : List ℕ) (e : Standing) → Plays opening [] ps w e
        → EndsAs e (play m (flatten ps))
    whatever-end ps w e r = rw (← whatever-pieces ps w e r) (go (plays-ends r))
      where
        go : (opening ≡ e) ⊎ EndsAs e w → EndsAs e w
        go (inl f) = absurd (opening-goes-on (plays-over r) f)
        go (inr k) = k

-- one run

-- What turns x on the text t come to.
pub data Go (s : Standing) (t : List ℕ) (x : Turn) : Type 0 where
  stays : x.written ≡ [] → x.left ≡ t → x.after ≡ s → Go s t x
  goes : x.written ≢ [] → length x.left + ahead x.after < length t + ahead s → Go s t x

followed-goes : {s : Standing} {t : List ℕ} (x y : Turn) {b : ℕ} {v : List ℕ} → x.written ≡ b ∷ v
    → length x.left + ahead x.after < length t + ahead s → Go x.after x.left y → Go s t (followed x y)
unfolding followed
followed-goes {s} {t} x y {b} {v} f l g = goes some (less g)
  where
    some : x.written ++ y.written ≢ []
    some z = cons-ne-nil b (v ++ y.written) (rw f at z)

    less : Go x.after x.left y → length y.left + ahead y.after < length t + ahead s
    less (stays _ p q) = omega (arith, ap length p, ap ahead q)
    less (goes _ m) = omega arith

pub ahead-one : (s : Standing) → ahead s ≤ 1
unfolding ahead
ahead-one opening = omega arith
ahead-one (playing l s) = omega arith
ahead-one ended = omega arith
ahead-one turned_back = omega arith

module _ (m : Machine Switch) where
  -- all of them: each that writes something takes a byte or is the last
  unfoldable pub all_turns : Bool → Standing → List ℕ → Turn
  all_turns last s t = turns m (length t + 1) last s t

  -- for each piece, turns until one writes nothing; and the same once more when no piece is to come
  unfoldable pub pieces_from : Standing → List ℕ → List (List ℕ) → List ℕ
  pieces_from s t [] = (all_turns true s t).written
  pieces_from s t (p ∷ ps) =
      let x = all_turns false s (t ++ p) in
      x.written ++ pieces_from x.after x.left ps

  unfoldable pub play_pieces : List (List ℕ) → List ℕ
  play_pieces ps = pieces_from opening [] ps

  module _ (most : ℕ) (last : Bool) (s : Standing) (t : List ℕ) where
    -- the turns after this one
    abbrev later : Turn
    later = turns m most last (turn m last s t).after (turn m last s t).left

    turns-by : (v : List ℕ) → (turn m last s t).written ≡ v
        → turns m (suc most) last s t ≡ elim v [ [] ↦ turn m last s t | b ∷ w ↦ followed (turn m last s t) later ]
    unfolding turns
    turns-by v h = ap (λ v. elim v as (λ _. Turn) [ [] ↦ turn m last s t | b ∷ w ↦ followed (turn m last s t) later ]) h

  -- the next turn writes nothing
  abbrev pub Still : Bool → Turn → Type 0
  Still last x = (turn m last x.after x.left).written ≡ []

  turns-none-all : (last : Bool) (s : Standing) (t : List ℕ) → length t + ahead s ≤ 0 → Still last (turns m zero last s t)
  unfolding turns ahead turn ending
  turns-none-all last opening t h = absurd (omega arith)
  turns-none-all last (playing l s) t h = absurd (omega arith)
  turns-none-all last ended t h = refl
  turns-none-all last turned_back t h = refl

  followed-still : (last : Bool) (x y : Turn) → Still last y → Still last (followed x y)
  unfolding followed
  followed-still last x y h = h

  turns-all : (most : ℕ) (last : Bool) (s : Standing) (t : List ℕ) → length t + ahead s ≤ most
      → Still last (turns m most last s t)
  turns-all zero last s t h = turns-none-all last s t h
  turns-all (suc most) last s t h =
      go (turn m last s t).written refl (turn-comes m last s t)
      (turns-all most last (turn m last s t).after (turn m last s t).left)
    where
      go : (v : List ℕ) → (turn m last s t).written ≡ v → Comes last s t (turn m last s t)
          → (length (turn m last s t).left + ahead (turn m last s t).after ≤ most → Still last (later most last s t))
          → Still last (turns m (suc most) last s t)
      go [] f (still _ p q _) fewer = rw (turns-by most last s t [] f, q, p) f
      go [] f (writes n _) fewer = absurd (n f)
      go (b ∷ v) f (still g _ _ _) fewer = absurd (cons-ne-nil b v (sym f ∙ g))
      go (b ∷ v) f (writes _ l) fewer =
          rw (turns-by most last s t (b ∷ v) f)
          (followed-still last (turn m last s t) (later most last s t) (fewer (omega arith)))

  pub turns_go : (most : ℕ) (last : Bool) (s : Standing) (t : List ℕ) → Go s t (turns m most last s t)
  unfolding turns
  turns_go zero last s t = stays refl refl refl
  turns_go (suc most) last s t =
      go (turn m last s t).written refl (turn-comes m last s t)
      (turns_go most last (turn m last s t).after (turn m last s t).left)
    where
      go : (v : List ℕ) → (turn m last s t).written ≡ v → Comes last s t (turn m last s t)
          → Go (turn m last s t).after (turn m last s t).left (later most last s t)
          → Go s t (turns m (suc most) last s t)
      go [] f (still g p q _) on = rw (turns-by most last s t [] f) (stays g p q)
      go [] f (writes n _) on = absurd (n f)
      go (b ∷ v) f (still g _ _ _) on = absurd (cons-ne-nil b v (sym f ∙ g))
      go (b ∷ v) f (writes _ l) on =
          rw (turns-by most last s t (b ∷ v) f) (followed-goes (turn m last s t) (later most last s t) f l on)

  -- Turns that wrote nothing, though a next one would write nothing either: the player was over, if the text was enough.
  pub turns-over : (most : ℕ) (last : Bool) (s : Standing) (t : List ℕ) → (turns m most last s t).written ≡ []
      → Still last (turns m most last s t) → (last ≡ true) ⊎ (enough ≤ length t) → Over s
  turns-over most last s t none quiet there = go (turns_go most last s t)
    where
      waits : (last ≡ true) ⊎ (enough ≤ length t) → Over s ⊎ ((last ≡ false) × (length t < enough)) → Over s
      waits _ (inl o) = o
      waits (inl l) (inr w) = absurd (clash l w.0)
      waits (inr l) (inr w) = absurd (omega (arith, w.1))

      go : Go s t (turns m most last s t) → Over s
      go (stays _ p q) = waits there (turn-waits m last s t (rw (q, p) at quiet))
      go (goes n _) = absurd (n none)

  -- they are all of them
  pub all_turns-all : (last : Bool) (s : Standing) (t : List ℕ) → Still last (all_turns last s t)
  unfolding all_turns
  all_turns-all last s t = turns-all (length t + 1) last s t (omega (arith, ahead-one s))

  -- where the last of the text is there, the player is over after them
  all_turns-over : (s : Standing) (t : List ℕ) → Over (all_turns true s t).after
  all_turns-over s t = go (turn-waits m true x.after x.left (all_turns-all true s t))
    where
      x : Turn
      x = all_turns true s t

      go : Over x.after ⊎ ((true ≡ false) × (length x.left < enough)) → Over x.after
      go (inl o) = o
      go (inr w) = absurd (clash refl w.0)

  -- turns, and then a run
  abbrev pub PlaysOn : Standing → List ℕ → List (List ℕ) → List ℕ → Standing → Turn → Type 0
  PlaysOn s t ps w e x = Plays m x.after x.left ps w e → Plays m s t ps (x.written ++ w) e

  module _ (last : Bool) (ps : List (List ℕ)) (w : List ℕ) (e : Standing) (none : last ≡ true → flatten ps ≡ []) where
    turns-none : (s : Standing) (t : List ℕ) → PlaysOn s t ps w e (turns m zero last s t)
    unfolding turns
    turns-none s t r = r

    followed-play : (s : Standing) (t : List ℕ) (y : Turn)
        → PlaysOn (turn m last s t).after (turn m last s t).left ps w e y
        → PlaysOn s t ps w e (followed (turn m last s t) y)
    unfolding followed
    followed-play s t y on r = rw (append_assoc (turn m last s t).written y.written w) (takes last none (on r))

    pub turns-play : (most : ℕ) (s : Standing) (t : List ℕ) → PlaysOn s t ps w e (turns m most last s t)
    turns-play zero s t = turns-none s t
    turns-play (suc most) s t =
        go (turn m last s t).written refl (turns-play most (turn m last s t).after (turn m last s t).left)
      where
        go : (v : List ℕ) → (turn m last s t).written ≡ v
            → PlaysOn (turn m last s t).after (turn m last s t).left ps w e (later most last s t)
            → PlaysOn s t ps w e (turns m (suc most) last s t)
        go [] h on = rw (turns-by most last s t [] h) (takes last none)
        go (b ∷ v) h on = rw (turns-by most last s t (b ∷ v) h) (followed-play s t (later most last s t) on)

    all_turns-play : (s : Standing) (t : List ℕ) → PlaysOn s t ps w e (all_turns last s t)
    unfolding all_turns
    all_turns-play s t = turns-play (length t + 1) s t

  -- there is always a run, from wherever the player stands
  pub pieces-play : (s : Standing) (t : List ℕ) (ps : List (List ℕ))
      → (e : Standing) × Plays m s t ps (pieces_from s t ps) e
  unfolding pieces_from flatten
  pieces-play s t [] =
      let x : Turn = all_turns true s t in
      (x.after, rw append-nil at (all_turns-play true [] [] x.after (λ _. refl) s t (ends (all_turns-over s t))))
  pieces-play s t (p ∷ ps) =
      let x : Turn = all_turns false s (t ++ p) in
      let (e, r) = pieces-play x.after x.left ps in (
        e,
        receives
            (all_turns-play false ps (pieces_from x.after x.left ps) e (λ h. absurd (clash h refl)) s (t ++ p) r),
      )

  pub pieces-text : Ticks m → (ps : List (List ℕ)) → play_pieces ps ≡ play m (flatten ps)
  unfolding play_pieces
  pieces-text ticks ps =
      let (e, r) = pieces-play opening [] ps in
      whatever-pieces m ticks ps (play_pieces ps) e r
