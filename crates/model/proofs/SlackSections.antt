-- Slackness, section by section. Within a section the cells before one are a prefix.
--     Behind pre e es         e stands in es right behind the entries pre
--     listed_in pre            how many of pre are in the list
--     thread_at pre e          thread, read off the prefix
--     cushion_at sections e    cushion, read off the entries
--     SlackAt a b sections    every entry outside the buffers has thread + a ≤ cushion + b
--     slack-at, at-slack      where each entry stands in the section of its input, it is Slack a b (waiting sections)
use Prim.Native.Nat.{ℕ, ◌+◌, ◌*◌, ◌≤◌}
use native.Mathlib.Omega.{arith}
use mathlib.Core.Bool.{Bool, true, false, cond, ◌&&◌}
use mathlib.Core.Path.{◌≡◌, refl, sym, ◌∙◌, ap}
use mathlib.Core.List.{List, [], ◌∷◌, ◌++◌, flatten, Memᴰ}
use borrow.Author.Tests.{eqb-true, eq-eqb}
use lib.Dec.{eqb}
use lib.ListN.{length, get_or}
use Rattle.laws.specs.Lists.{count}
use Rattle.laws.proofs.Tests.{and_i, and_l, and_r}
use Rattle.laws.proofs.Count.{count-nil, count-cons, count-pass, count-fail, count-le}
use Rattle.cell.specs.declared.Cell.{Cell}
use Rattle.cell.specs.Order.{over}
use Rattle.cell.proofs.Order.{over-trans}
use Rattle.cell.specs.Limits.{section_room}
use Rattle.model.specs.State.{Entry, is_listed, is_buffered}
use Rattle.model.specs.Phase.{Waiting, waiting, ahead, same_output, beats}
use Rattle.model.specs.CodeSlackness.{thread, cushion, Slack}
use Rattle.model.proofs.Numbering.{entry_of, numbered_at, Housed, mem-waiting, waiting-mem, count-waiting}
use Rattle.model.proofs.Numbering.{ahead-prefix}

pub data Behind : List Entry → Entry → List Entry → Type 0 where
  here : {e x : Entry} {es : List Entry} → e ≡ x → Behind [] e (x ∷ es)
  there : {e x : Entry} {pre es : List Entry} → Behind pre e es → Behind (x ∷ pre) e (x ∷ es)

pub behind-mem : {pre : List Entry} {e : Entry} {es : List Entry} → Behind pre e es → Memᴰ e es
behind-mem (here p) = Memᴰ.head p
behind-mem (there s) = Memᴰ.tail (behind-mem s)

pub behind-nil : {pre : List Entry} {e : Entry} → Behind pre e [] → ⊥
behind-nil = elim [ ]

pub behind-split : {pre : List Entry} {e : Entry} {es : List Entry} → Behind pre e es
    → (post : List Entry) × (es ≡ pre ++ e ∷ post)
behind-split (here {es = es} p) = (es, ap (λ x. x ∷ es) (sym p))
behind-split (there {x = x} b) = let w = behind-split b in (w.0, ap (λ l. x ∷ l) w.1)

pub split-behind : (pre : List Entry) (e : Entry) (post : List Entry) → Behind pre e (pre ++ e ∷ post)
split-behind [] e post = here refl
split-behind (x ∷ pre) e post = there (split-behind pre e post)

unfoldable pub listed_in : List Entry → ℕ
listed_in pre = count (λ f. is_listed f.place) pre

unfoldable pub thread_at : List Entry → Entry → ℕ
thread_at pre e = cond (is_listed e.place) (listed_in pre) 0

-- f is in the buffer of c's output and has higher output priority
unfoldable pub shields : ℕ → Cell → Entry → Bool
shields ports c f = is_buffered f.place && (eqb f.cell.output c.output && over ports f.cell c)

unfoldable pub cushion_at : ℕ → List (List Entry) → Entry → ℕ
cushion_at ports sections e = count (shields ports e.cell) (flatten sections)

abbrev pub SlackAt : ℕ → ℕ → ℕ → List (List Entry) → Type 0
SlackAt ports a b sections =
    (k : ℕ) (pre : List Entry) (e : Entry) → Behind pre e (get_or sections k []) → is_buffered e.place ≡ false
    → thread_at pre e + a ≤ cushion_at ports sections e + b

------------------------------------------------------------------------
-- threads

pub listed_in-nil : listed_in [] ≡ 0
unfolding listed_in
listed_in-nil = count-nil (λ f. is_listed f.place)

pub listed_in-cons : (e : Entry) (pre : List Entry) → listed_in (e ∷ pre) ≡ cond (is_listed e.place) 1 0 + listed_in pre
unfolding listed_in
listed_in-cons e pre = count-cons (λ f. is_listed f.place) e pre

pub listed_in-pass : (e : Entry) (pre : List Entry) → is_listed e.place ≡ true → listed_in (e ∷ pre) ≡ 1 + listed_in pre
unfolding listed_in
listed_in-pass e pre h = count-pass (λ f. is_listed f.place) e pre h

pub listed_in-fail : (e : Entry) (pre : List Entry) → is_listed e.place ≡ false → listed_in (e ∷ pre) ≡ listed_in pre
unfolding listed_in
listed_in-fail e pre h = count-fail (λ f. is_listed f.place) e pre h

pub thread-listed : (pre : List Entry) (e : Entry) → is_listed e.place ≡ true → thread_at pre e ≡ listed_in pre
unfolding thread_at
thread-listed pre e h = rw h

pub thread-le-listed : (pre : List Entry) (e : Entry) → thread_at pre e ≤ listed_in pre
unfolding thread_at
thread-le-listed pre e = go (is_listed e.place)
  where
    go : (b : Bool) → cond b (listed_in pre) 0 ≤ listed_in pre
    go true = omega arith
    go false = omega arith

-- a thread grows by no more than its prefix
pub thread-grows : (pre before : List Entry) (e : Entry) (n : ℕ) → listed_in pre ≤ listed_in before + n
    → thread_at pre e ≤ thread_at before e + n
unfolding thread_at
thread-grows pre before e n h = go (is_listed e.place)
  where
    go : (b : Bool) → cond b (listed_in pre) 0 ≤ cond b (listed_in before) 0 + n
    go true = h
    go false = omega arith

------------------------------------------------------------------------
-- cushions

pub shields-buffered : (ports : ℕ) (c : Cell) (f : Entry) → shields ports c f ≡ true → is_buffered f.place ≡ true
unfolding shields
shields-buffered ports c f s =
    and_l (is_buffered f.place) (eqb f.cell.output c.output && over ports f.cell c) s

pub shields-output : (ports : ℕ) (c : Cell) (f : Entry) → shields ports c f ≡ true → f.cell.output ≡ c.output
unfolding shields
shields-output ports c f s =
    eqb-true f.cell.output c.output
    (and_l (eqb f.cell.output c.output) (over ports f.cell c)
    (and_r (is_buffered f.place) (eqb f.cell.output c.output && over ports f.cell c) s))

pub shields-over : (ports : ℕ) (c : Cell) (f : Entry) → shields ports c f ≡ true → over ports f.cell c ≡ true
unfolding shields
shields-over ports c f s =
    and_r (eqb f.cell.output c.output) (over ports f.cell c)
    (and_r (is_buffered f.place) (eqb f.cell.output c.output && over ports f.cell c) s)

pub shields-i : (ports : ℕ) (c : Cell) (f : Entry) → is_buffered f.place ≡ true → f.cell.output ≡ c.output
    → over ports f.cell c ≡ true → shields ports c f ≡ true
unfolding shields
shields-i ports c f b o h = and_i _ _ b (and_i _ _ (eq-eqb _ _ o) h)

-- what shields a cell shields those of its output that come after it
pub shields-after : (ports : ℕ) (c d : Cell) (f : Entry) → c.output ≡ d.output → over ports c d ≡ true
    → shields ports c f ≡ true
    → shields ports d f ≡ true
shields-after ports c d f o h s =
    shields-i ports d f (shields-buffered ports c f s) (shields-output ports c f s ∙ o)
    (over-trans ports f.cell c d (shields-over ports c f s) h)

pub cushion-after : (ports : ℕ) (sections : List (List Entry)) (e f : Entry) → e.cell.output ≡ f.cell.output
    → over ports e.cell f.cell ≡ true → cushion_at ports sections e ≤ cushion_at ports sections f
unfolding cushion_at
cushion-after ports sections e f o h =
    count-le (shields ports e.cell) (shields ports f.cell) (flatten sections)
    (λ x m s. shields-after ports e.cell f.cell x o h s)

------------------------------------------------------------------------
-- the same slackness, by sections and by numbers

module _ (ports : ℕ) (sections : List (List Entry)) (housed : Housed sections) where
  thread-at : (k : ℕ) (pre post : List Entry) (w : Waiting) → w.at ≡ section_room * k + length pre
      → get_or sections k [] ≡ pre ++ entry_of w ∷ post → thread (waiting sections) w ≡ thread_at pre (entry_of w)
  unfolding thread thread_at listed_in
  thread-at k pre post w n split =
      ap (λ m. cond (is_listed w.place) m 0)
      (ap ahead_of n ∙ ahead-prefix sections housed k pre (entry_of w) post split)
    where
      ahead_of : ℕ → ℕ
      ahead_of n = count (λ f. is_listed f.place && ahead f (numbered_at n (entry_of w))) (waiting sections)

  cushion-at : (w : Waiting) → cushion ports (waiting sections) w ≡ cushion_at ports sections (entry_of w)
  unfolding cushion cushion_at shields beats same_output
  cushion-at w = count-waiting (shields ports w.cell) sections

  pub slack-at : (a b : ℕ) → Slack ports a b (waiting sections) → SlackAt ports a b sections
  slack-at a b slack k pre e s f =
      let v = behind-split s in
      let w : Waiting = numbered_at (section_room * k + length pre) e in
      omega (
        arith,
        thread-at k pre v.0 w refl v.1,
        cushion-at w,
        slack w (waiting-mem sections k pre e v.0 v.1) f,
      )

  pub at-slack : (a b : ℕ) → SlackAt ports a b sections → Slack ports a b (waiting sections)
  at-slack a b slack w m f =
      let s = mem-waiting sections m in
      let p = s.placed in
      omega (
        arith,
        thread-at s.input p.pre p.post w p.number p.split,
        cushion-at w,
        slack s.input p.pre (entry_of w) (rw p.split (split-behind p.pre (entry_of w) p.post)) f,
      )
