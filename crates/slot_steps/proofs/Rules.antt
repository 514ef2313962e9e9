-- The cases of rules 5 and 6 on numbers.
--     straight-, mark-   what goes straight to an output, and what it marks
--     send-, take-       what an input sends, and what an output takes
--     heads-             the heads that a head leaves
use Prim.Native.Nat.{ℕ, ◌+◌, ◌*◌, ◌/◌, ◌%◌, ◌<◌, ◌≤◌}
use mathlib.Core.Bool.{Bool, true, false, cond, ◌&&◌}
use mathlib.Core.Path.{◌≡◌, sym, ◌∙◌, ap, subst}
use mathlib.Core.Logic.{◌≢◌}
use mathlib.Core.List.{List}
use borrow.Author.Tests.{le-leb, lt-leb, lt-ltb, le-ltb, eq-eqb, ne_eqb}
use lib.Dec.{ltb, leb, eqb}
use lib.ListN.{get_or}
use Rattle.laws.proofs.Tests.{or_l, or_r, or-false, and-false-l, cond-pass, cond-fail}
use Rattle.sets.specs.Sets.{positions, first_of}
use Rattle.sets.specs.Code.{with_one, without_one, from}
use Rattle.cell.specs.Limits.{section_room, port_limit}
use Rattle.layout.specs.Entry.{entry_at}
use Rattle.layout_table.specs.CodeEntries.{flow_word, nowhere}
use Rattle.slot_steps.specs.CodeSteps.{next_of, heads_left, straight_to, mark_of, send_of, take_of}

module _ (scheduled held : List ℕ) (output : ℕ) where
  -- the match that the output holds, and the scheduled cell of its input
  abbrev number : ℕ
  number = get_or held output 0

  abbrev own : ℕ
  own = get_or scheduled (number / section_room) 0

  pub straight-free : nowhere ≤ number → nowhere ≡ straight_to scheduled held output
  unfolding straight_to
  straight-free h = sym (cond-pass _ _ _ (or_l (leb nowhere number) (eqb number own) (le-leb nowhere number h)))

  pub straight-scheduled : number ≡ own → nowhere ≡ straight_to scheduled held output
  unfolding straight_to
  straight-scheduled h = sym (cond-pass _ _ _ (or_r (leb nowhere number) (eqb number own) (eq-eqb _ _ h)))

  pub straight-match : number < nowhere → number ≢ own → number ≡ straight_to scheduled held output
  unfolding straight_to
  straight-match l h =
      sym (cond-fail _ _ _ (or-false (leb nowhere number) (eqb number own) (lt-leb nowhere number l) (ne_eqb _ _ h)))

module _ (k output : ℕ) where
  pub mark-some : k < nowhere → mark_of k output ≡ output
  unfolding mark_of
  mark-some h = cond-pass (ltb k nowhere) output port_limit (lt-ltb k nowhere h)

  pub mark-none : nowhere ≤ k → mark_of k output ≡ port_limit
  unfolding mark_of
  mark-none h = cond-fail (ltb k nowhere) output port_limit (le-ltb k nowhere h)

module _ (straight : List Bool) (scheduled : List ℕ) (input : ℕ) where
  pub send-none : get_or straight input false ≡ true → send_of straight scheduled input ≡ nowhere
  unfolding send_of
  send-none h = cond-pass (get_or straight input false) nowhere (get_or scheduled input 0) h

  pub send-scheduled : get_or straight input false ≡ false → send_of straight scheduled input ≡ get_or scheduled input 0
  unfolding send_of
  send-scheduled h = cond-fail (get_or straight input false) nowhere (get_or scheduled input 0) h

module _ (straight : List Bool) (best : List ℕ) (output : ℕ) where
  pub take_none : get_or straight output false ≡ true → take_of straight best output ≡ nowhere
  unfolding take_of
  take_none h = cond-pass (get_or straight output false) nowhere (get_or best output 0) h

  pub take-best : get_or straight output false ≡ false → take_of straight best output ≡ get_or best output 0
  unfolding take_of
  take-best h = cond-fail (get_or straight output false) nowhere (get_or best output 0) h

module _ (table : List ℕ) (list heads k : ℕ) where
  abbrev others : ℕ
  others = without_one heads (k % section_room)

  abbrev next : ℕ
  next = next_of list (k % section_room)

  abbrev follower : ℕ
  follower = flow_word (entry_at table (section_room * (k / section_room) + next)).cell

  abbrev leaver : ℕ
  leaver = flow_word (entry_at table k).cell

  -- nothing follows, or a cell, which is of the same flow or not
  pub heads-end : positions ≤ next → heads_left table list heads k ≡ others
  unfolding heads_left
  heads-end h =
      cond-fail _ _ _ (and-false-l (ltb next positions) (eqb follower leaver) (le-ltb next positions h))

  heads-next : next < positions → heads_left table list heads k ≡ cond (eqb follower leaver) (with_one others next) others
  unfolding heads_left
  heads-next l = ap (λ b. cond (b && eqb follower leaver) (with_one others next) others) (lt-ltb next positions l)

  -- as the code finds it
  pub heads-found : {found kept n f g : ℕ} → found ≡ cond (eqb f g) (with_one kept n) kept → kept ≡ others → n ≡ next
      → f ≡ follower → g ≡ leaver → n < positions → found ≡ heads_left table list heads k
  heads-found e o m p q l =
      e
      ∙ (λ x. cond (eqb (p x) (q x)) (with_one (o x) (m x)) (o x))
      ∙ sym (heads-next (subst (λ i. i < positions) m l))

-- the position behind one, as the code finds it
pub next-is : (list j : ℕ) {without after next : ℕ} → without ≡ without_one list j → after ≡ from without j → next ≡ first_of after
    → next ≡ next_of list j
unfolding next_of
next-is list j p q r = r ∙ ap first_of (q ∙ ap (λ l. from l j) p)
