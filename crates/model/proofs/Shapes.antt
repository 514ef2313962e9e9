-- Sections are known by their lengths and their waiting cells: two lists of sections of one shape with the same waiting
-- cells are equal.
use Prim.Native.Nat.{ℕ, ◌+◌, ◌*◌}
use mathlib.Core.List.{List, [], ◌∷◌, ◌++◌, map, flatten, head-eq_of_cons-eq, tail-eq_of_cons-eq, nil≢cons, cons≢nil}
use mathlib.Core.Path.{◌≡◌, refl, sym, ap, ap₂, ◌∙◌}
use lib.ListN.{length, take, drop, length-map}
use lib.Seq.{take_at, drop_at}
use Rattle.cell.specs.Limits.{section_room}
use Rattle.model.specs.State.{Entry}
use Rattle.model.specs.Phase.{Waiting, number_from, number_sections, numbered, waiting}
use Rattle.model.proofs.Bags.{flatten-cons}
use Rattle.model.proofs.Numbering.{entry_of, number_from-entries}

-- two lists of one length at the front of equal lists are equal, and so is what follows
pub append-split : {A : Type 0} (a b c d : List A) → length a ≡ length c → a ++ b ≡ c ++ d → (a ≡ c) × (b ≡ d)
append-split a b c d l e = (
  sym (take_at a b (length a) refl) ∙ ap (take (length a)) e ∙ take_at c d (length a) (sym l),
  sym (drop_at a b (length a) refl) ∙ ap (drop (length a)) e ∙ drop_at c d (length a) (sym l),
)

pub length-number : (at : ℕ) (es : List Entry) → length (number_from at es) ≡ length es
length-number at es = sym (length-map (number_from at es) entry_of) ∙ ap length (number_from-entries at es)

number-injective : (at : ℕ) (es fs : List Entry) → number_from at es ≡ number_from at fs → es ≡ fs
number-injective at es fs e = sym (number_from-entries at es) ∙ ap (map entry_of) e ∙ number_from-entries at fs

sections-injective : (input : ℕ) (ss ts : List (List Entry)) → map length ss ≡ map length ts
    → flatten (number_sections input ss) ≡ flatten (number_sections input ts) → ss ≡ ts
unfolding number_sections
sections-injective input [] [] l e = refl
sections-injective input [] (t ∷ ts) l e = absurd (nil≢cons l)
sections-injective input (s ∷ ss) [] l e = absurd (cons≢nil l)
sections-injective input (s ∷ ss) (t ∷ ts) l e =
    let a : List Waiting = number_from (section_room * input) s in
    let c : List Waiting = number_from (section_room * input) t in
    let b : List Waiting = flatten (number_sections (input + 1) ss) in
    let d : List Waiting = flatten (number_sections (input + 1) ts) in
    let same : length a ≡ length c =
    length-number (section_room * input) s ∙ head-eq_of_cons-eq l ∙ sym (length-number (section_room * input) t) in
    let both = append-split a b c d same
    (sym (flatten-cons a (number_sections (input + 1) ss)) ∙ e ∙ flatten-cons c (number_sections (input + 1) ts)) in
    ap₂ (λ x y. x ∷ y) (number-injective (section_room * input) s t both.0)
    (sections-injective (input + 1) ss ts (tail-eq_of_cons-eq l) both.1)

pub waiting-injective : (ss ts : List (List Entry)) → map length ss ≡ map length ts → waiting ss ≡ waiting ts → ss ≡ ts
unfolding waiting numbered
waiting-injective ss ts l e = sections-injective 0 ss ts l e
