-- The laws of entering a list.
--     new-cell, new-listed, in_list, in-flow    a new entry; an entry of c's flow in the list
--     enter_after-nil, -last, -next              the clauses
--     enter-after, enter-front                  which of the two it is
use mathlib.Core.Bool.{Bool, true, false, ◌&&◌}
use mathlib.Core.Path.{◌≡◌, refl}
use mathlib.Core.List.{List, [], ◌∷◌}
use Rattle.laws.specs.Lists.{some?, none?}
use Rattle.laws.proofs.Tests.{and_l, and_r}
use Rattle.cell.specs.declared.Cell.{Cell}
use Rattle.cell.specs.Flow.{same_flow}
use Rattle.model.specs.State.{Entry, is_listed}
use Rattle.model.specs.Crossbar.{in_list_of, new_entry, enter_after, enter}

------------------------------------------------------------------------
-- entries

pub new-cell : (c : Cell) → (new_entry c).cell ≡ c
unfolding new_entry
new-cell c = refl

pub new-listed : (c : Cell) → is_listed (new_entry c).place ≡ true
unfolding new_entry is_listed
new-listed c = refl

pub in_list : (c : Cell) (e : Entry) → in_list_of c e ≡ true → is_listed e.place ≡ true
unfolding in_list_of
in_list c e h = and_l (is_listed e.place) (same_flow e.cell c) h

pub in-flow : (c : Cell) (e : Entry) → in_list_of c e ≡ true → same_flow e.cell c ≡ true
unfolding in_list_of
in-flow c e h = and_r (is_listed e.place) (same_flow e.cell c) h

------------------------------------------------------------------------
-- clauses

pub enter_after-nil : (c : Cell) → enter_after c [] ≡ []
unfolding enter_after
enter_after-nil c = refl

-- x is the last of c's flow in the list
unfoldable pub is_last : Cell → Entry → List Entry → Bool
is_last c x es = in_list_of c x && none? (in_list_of c) es

pub last-in-list : (c : Cell) (x : Entry) (es : List Entry) → is_last c x es ≡ true → in_list_of c x ≡ true
unfolding is_last
last-in-list c x es h = and_l (in_list_of c x) (none? (in_list_of c) es) h

pub enter_after-last : (c : Cell) (x : Entry) (es : List Entry) → is_last c x es ≡ true
    → enter_after c (x ∷ es) ≡ x ∷ new_entry c ∷ es
unfolding enter_after is_last
enter_after-last c x es h = rw (h, enter_after)

pub enter_after-next : (c : Cell) (x : Entry) (es : List Entry) → is_last c x es ≡ false
    → enter_after c (x ∷ es) ≡ x ∷ enter_after c es
unfolding enter_after is_last
enter_after-next c x es h = rw (h, enter_after)

pub enter-after : (c : Cell) (es : List Entry) → some? (in_list_of c) es ≡ true → enter c es ≡ enter_after c es
unfolding enter
enter-after c es h = rw (h, enter)

pub enter-front : (c : Cell) (es : List Entry) → some? (in_list_of c) es ≡ false → enter c es ≡ new_entry c ∷ es
unfolding enter
enter-front c es h = rw (h, enter)
