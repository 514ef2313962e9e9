-- New cells put into the sections of their inputs, whatever the way: into a list (SoundArrival) or a buffer (OqSound).
--     Between, length-between, count-between, between-mem   a new entry stands between two parts of a section
--     between-sound                            and the section is sound for the clock of the next slot
--     Came, come-at                            one cell after the other: each section gets at most one
--     length-come, come-count
--     come-sound                               of the whole table
use Prim.Native.Nat.{ℕ, suc, ◌+◌, ◌<◌}
use native.Mathlib.Omega.{arith}
use mathlib.Core.Bool.{Bool, true, false, cond, not, and-false}
use mathlib.Core.Path.{◌≡◌, refl, sym, ◌∙◌, ap, subst}
use mathlib.Core.Logic.{◌⊎◌, inl, inr, ◌≢◌}
use mathlib.Core.List.Memᴰ
use mathlib.Core.List.{List, [], ◌∷◌, ◌++◌, flatten, Memᴰ}
use lib.Dec.{ltb, eqb}
use lib.ListN.{length, get_or, length-append}
use borrow.Author.Tests.{ltb-true, eqb-true, eqb-false, ne_eqb}
use Rattle.laws.specs.Lists.{keep, count, pairwise, update}
use Rattle.laws.proofs.Tests.{not-i}
use Rattle.laws.proofs.Count.{count-nil, count-cons, count-append}
use Rattle.laws.proofs.Pairwise.{pairwise-head, pairwise-tail, pairwise_cons, pairwise_append, pairwise-append-l}
use Rattle.laws.proofs.Pairwise.{pairwise-append-r, pairwise-split}
use Rattle.cell.specs.declared.Cell.{Cell}
use Rattle.cell.specs.Limits.{section_room}
use Rattle.model.specs.State.{Entry, is_listed, is_crossed}
use Rattle.model.specs.Sound.{together, other_slot, other_crosspoint, sound_sections}
use Rattle.model.proofs.Bags.{length-update, get_or-update-same, get_or-update-other, count-update}
use Rattle.model.proofs.SoundLaws.{SoundEntry, SoundSection, sections-e, sections-i, section-later}

------------------------------------------------------------------------
-- one section

-- between which entries a new one stands then
pub record Between (n : Entry) (es fs : List Entry) : Type 0 where
  pub pre : List Entry
  pub post : List Entry
  pub split : es ≡ pre ++ post
  pub entered : fs ≡ pre ++ n ∷ post

pairwise_insert : {A : Type 0} (r : A → A → Bool) (pre : List A) (n : A) (post : List A)
    → pairwise r (pre ++ post) ≡ true → ((x : A) → Memᴰ x pre → r x n ≡ true)
    → ((y : A) → Memᴰ y post → r n y ≡ true) → pairwise r (pre ++ n ∷ post) ≡ true
pairwise_insert {A} r pre n post h a b =
    pairwise_append r pre (n ∷ post) (pairwise-append-l r pre post h)
    (pairwise_cons r n post b (pairwise-append-r r pre post h))
    (λ x y i j. go x y i (Memᴰ.cases_cons j))
  where
    go : (x y : A) → Memᴰ x pre → (y ≡ n) ⊎ Memᴰ y post → r x y ≡ true
    go x y i (inl q) = ap (r x) q ∙ a x i
    go x y i (inr j) = pairwise-split r i j h

other_slot-i : (e f : Entry) → e.cell.slot ≢ f.cell.slot → other_slot e f ≡ true
unfolding other_slot
other_slot-i e f h = not-i (eqb e.cell.slot f.cell.slot) (ne_eqb _ _ h)

-- one that is at no crosspoint shares none
new-crosspoint-l : (n e : Entry) → is_crossed n.place ≡ false → other_crosspoint n e ≡ true
unfolding other_crosspoint
new-crosspoint-l n e h = rw h

new-crosspoint-r : (n e : Entry) → is_crossed n.place ≡ false → other_crosspoint e n ≡ true
unfolding other_crosspoint
new-crosspoint-r n e h = rw h (ap not (and-false (is_crossed e.place)))

module _ (n : Entry) (es fs : List Entry) (w : Between n es fs) where
  pub length-between : length fs ≡ suc (length es)
  length-between =
      let a : length es ≡ length w.pre + length w.post = ap length w.split ∙ length-append w.pre w.post in
      let b : length fs ≡ length w.pre + suc (length w.post) =
      ap length w.entered ∙ length-append w.pre (n ∷ w.post) in
      omega arith

  -- the new entry and those that were there
  pub count-between : (p : Entry → Bool) → count p fs ≡ cond (p n) 1 0 + count p es
  count-between p =
      let a : count p es ≡ count p w.pre + count p w.post =
      ap (count p) w.split ∙ count-append p w.pre w.post in
      let b : count p fs ≡ count p w.pre + count p (n ∷ w.post) =
      ap (count p) w.entered ∙ count-append p w.pre (n ∷ w.post) in
      omega (arith, count-cons p n w.post)

  pub between-mem : {e : Entry} → Memᴰ e fs → (e ≡ n) ⊎ Memᴰ e es
  between-mem {e} m = go (Memᴰ.append_cases w.pre (rw w.entered at m))
    where
      new : (e ≡ n) ⊎ Memᴰ e w.post → (e ≡ n) ⊎ Memᴰ e es
      new (inl q) = inl q
      new (inr k) = inr (rw w.split (Memᴰ.append_right w.pre k))

      go : Memᴰ e w.pre ⊎ Memᴰ e (n ∷ w.post) → (e ≡ n) ⊎ Memᴰ e es
      go (inl k) = inr (rw w.split (Memᴰ.append_left w.post k))
      go (inr k) = new (Memᴰ.cases_cons k)

  -- a new entry, fit for the section and at no crosspoint, with room for it; its list is looked at apart
  pub between-sound : (ports clock k : ℕ) → SoundSection ports clock k es → SoundEntry ports (clock + 1) k n
      → n.cell.slot ≡ clock → is_crossed n.place ≡ false → length es < section_room
      → together ports (keep (λ e. is_listed e.place) fs) ≡ true → SoundSection ports (clock + 1) k fs
  between-sound ports clock k s new slot uncrossed room flows =
      record {
        short = omega (arith, length-between);
        entries = λ e m. each e (between-mem m);
        flows = flows;
        slots =
            rw w.entered
            (pairwise_insert other_slot w.pre n w.post (rw w.split at s.slots)
            (λ x i. other_slot-i x n (λ q. omega (arith, old x (Memᴰ.append_left w.post i))))
            (λ y j. other_slot-i n y (λ q. omega (arith, old y (Memᴰ.append_right w.pre j)))));
        crosspoints =
            rw w.entered
            (pairwise_insert other_crosspoint w.pre n w.post (rw w.split at s.crosspoints)
            (λ x i. new-crosspoint-r n x uncrossed)
            (λ y j. new-crosspoint-l n y uncrossed));
      }
    where
      old : (e : Entry) → Memᴰ e (w.pre ++ w.post) → e.cell.slot < n.cell.slot
      old e m = omega (arith, (s.entries e (rw w.split m)).slot)

      each : (e : Entry) → (e ≡ n) ⊎ Memᴰ e es → SoundEntry ports (clock + 1) k e
      each e (inl q) = rw q new
      each e (inr m) = (section-later ports clock k es s).entries e m

------------------------------------------------------------------------
-- all sections

-- what becomes of section k as cells are put into their sections: nothing has come, or one cell
pub data Came (put : Cell → List Entry → List Entry) (cs : List Cell) (before after : List (List Entry)) (k : ℕ) : Type 0 where
  kept : get_or after k [] ≡ get_or before k [] → Came put cs before after k
  entered : (c : Cell) → Memᴰ c cs → c.input ≡ k → get_or after k [] ≡ put c (get_or before k [])
      → Came put cs before after k

abbrev rises : Cell → Cell → Bool
rises c d = ltb c.input d.input

-- `put` puts a cell into a section, and `come` all cells, one after the other, each into the section of its input
module _ (put : Cell → List Entry → List Entry) (come : List Cell → List (List Entry) → List (List Entry))
    (come-nil : (sections : List (List Entry)) → come [] sections ≡ sections)
    (come-cons : (c : Cell) (cs : List Cell) (sections : List (List Entry))
    → come (c ∷ cs) sections ≡ come cs (update c.input (put c) sections)) where
  pub come-at : (cs : List Cell) (sections : List (List Entry))
      → ((c : Cell) → Memᴰ c cs → c.input < length sections)
      → pairwise (λ c d. ltb c.input d.input) cs ≡ true → (k : ℕ) → Came put cs sections (come cs sections) k
  come-at [] sections within turns k = kept (ap (λ l. get_or l k []) (come-nil sections))
  come-at (c ∷ cs) sections within turns k =
      go
      (come-at cs after
      (λ d m. rw (length-update c.input (put c) sections) (within d (Memᴰ.tail m)))
      (pairwise-tail rises c cs turns) k)
      (eqb k c.input) refl
    where
      after : List (List Entry)
      after = update c.input (put c) sections

      own : k ≡ c.input → get_or after k [] ≡ put c (get_or sections k [])
      own q = rw q (get_or-update-same c.input (put c) sections [] (within c (Memᴰ.head refl)))

      other : k ≢ c.input → get_or after k [] ≡ get_or sections k []
      other q = get_or-update-other c.input k (put c) sections [] q

      now : get_or (come (c ∷ cs) sections) k [] ≡ get_or (come cs after) k []
      now = ap (λ l. get_or l k []) (come-cons c cs sections)

      go : Came put cs after (come cs after) k → (b : Bool) → eqb k c.input ≡ b
          → Came put (c ∷ cs) sections (come (c ∷ cs) sections) k
      go (kept e) true q =
          entered c (Memᴰ.head refl) (sym (eqb-true k c.input q)) (now ∙ e ∙ own (eqb-true k c.input q))
      go (kept e) false q = kept (now ∙ e ∙ other (eqb-false k c.input q))
      go (entered d m i e) b q =
          entered d (Memᴰ.tail m) i (now ∙ e ∙ ap (put d) (other (λ r.
          omega (arith, ltb-true c.input d.input (pairwise-head rises turns m)))))

  pub length-come : (cs : List Cell) (sections : List (List Entry)) → length (come cs sections) ≡ length sections
  length-come [] sections = ap length (come-nil sections)
  length-come (c ∷ cs) sections =
      ap length (come-cons c cs sections)
      ∙ length-come cs (update c.input (put c) sections)
      ∙ length-update c.input (put c) sections

  -- the entries are those that were there and those that came
  pub come-count : (new : Cell → Entry)
      → ((p : Entry → Bool) (c : Cell) (es : List Entry) → count p (put c es) ≡ cond (p (new c)) 1 0 + count p es)
      → (p : Entry → Bool) (cs : List Cell) (sections : List (List Entry))
      → ((c : Cell) → Memᴰ c cs → c.input < length sections)
      → count p (flatten (come cs sections)) ≡ count (λ c. p (new c)) cs + count p (flatten sections)
  come-count new counts p [] sections within =
      omega (arith, ap (λ l. count p (flatten l)) (come-nil sections), count-nil (λ c. p (new c)))
  come-count new counts p (c ∷ cs) sections within =
      omega (
        arith,
        ap (λ l. count p (flatten l)) (come-cons c cs sections),
        come-count new counts p cs (update c.input (put c) sections)
            (λ d m. rw (length-update c.input (put c) sections) (within d (Memᴰ.tail m))),
        count-cons (λ c. p (new c)) c cs,
        count-update p c.input (put c) sections (within c (Memᴰ.head refl)),
        counts p c (get_or sections c.input []),
      )

  -- each cell that comes keeps its section sound
  pub come-sound : (ports clock : ℕ) (cs : List Cell) (sections : List (List Entry))
      → sound_sections ports clock 0 sections ≡ true
      → ((c : Cell) → Memᴰ c cs → c.input < length sections)
      → pairwise (λ c d. ltb c.input d.input) cs ≡ true
      → ((c : Cell) → Memᴰ c cs → SoundSection ports clock c.input (get_or sections c.input [])
      → SoundSection ports (clock + 1) c.input (put c (get_or sections c.input [])))
      → sound_sections ports (clock + 1) 0 (come cs sections) ≡ true
  come-sound ports clock cs sections h within turns each =
      sections-i ports (clock + 1) (come cs sections) (λ k. go k (come-at cs sections within turns k))
    where
      go : (k : ℕ) → Came put cs sections (come cs sections) k
          → SoundSection ports (clock + 1) k (get_or (come cs sections) k [])
      go k (kept e) = rw e (section-later ports clock k (get_or sections k []) (sections-e ports clock sections h k))
      go k (entered c m i e) =
          rw e
          (subst (λ j. SoundSection ports (clock + 1) j (put c (get_or sections j []))) i
          (each c m (sections-e ports clock sections h c.input)))
