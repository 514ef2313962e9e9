-- The table of a state in which one section is exchanged.
use Prim.Native.Nat.{ℕ, zero, suc, ◌+◌, ◌*◌, ◌%◌, ◌≤◌, ◌<◌}
use native.Mathlib.Omega.{arith}
use mathlib.Core.Path.{◌≡◌, refl, sym, ◌∙◌, ap, ap₂}
use mathlib.Core.List.{List, [], ◌∷◌, ◌++◌, append_assoc}
use lib.ListN.{length, set, take, drop, length-append}
use lib.Seq.{take-append-add, drop_at, drop-append-add, set-append_left}
use Rattle.cell.specs.Limits.{section_room, port_limit}
use Rattle.model.specs.State.{Entry, Switch}
use Rattle.model.proofs.Numbering.{Short}
use Rattle.layout.specs.Number.{bytes_of}
use Rattle.layout.specs.Table.{layout_number, header_size, section_size, section_bytes, sections_bytes, counts_bytes, encode}
use Rattle.layout.proofs.Table.{length-section_bytes, length-counts_bytes}
use Rattle.slot_view.proofs.Encoding.{set-append-add}

-- an element of the second of two lists
counts_bytes-set : (n i : ℕ) (sections : List (List Entry)) (es : List Entry) → i < n → i < length sections
    → length es ≤ section_room → counts_bytes n (set sections i es) ≡ set (counts_bytes n sections) i (length es)
unfolding counts_bytes bytes_of
counts_bytes-set zero i sections es h l few = absurd (omega arith)
counts_bytes-set (suc n) i [] es h l few = absurd (omega arith)
counts_bytes-set (suc n) zero (x ∷ sections) es h l few = ap (λ b. b ∷ counts_bytes n sections) (omega arith)
counts_bytes-set (suc n) (suc i) (x ∷ sections) es h l few =
    ap (λ bs. (length x % 256) ∷ bs) (counts_bytes-set n i sections es (omega arith) (omega arith) few)

sections_bytes-set : (n i : ℕ) (sections : List (List Entry)) (es : List Entry) → Short sections → i < n
    → i < length sections
    → sections_bytes n (set sections i es)
    ≡ take (section_size * i) (sections_bytes n sections)
    ++ (section_bytes es ++ drop (section_size * (i + 1)) (sections_bytes n sections))
unfolding sections_bytes
sections_bytes-set zero i sections es short h l = absurd (omega arith)
sections_bytes-set (suc n) i [] es short h l = absurd (omega arith)
sections_bytes-set (suc n) zero (x ∷ sections) es short h l =
    ap (λ bs. section_bytes es ++ bs)
    (sym (drop_at (section_bytes x) (sections_bytes n sections) section_size (length-section_bytes x (short 0))))
sections_bytes-set (suc n) (suc i) (x ∷ sections) es short h l =
    let size : length (section_bytes x) ≡ section_size = length-section_bytes x (short 0) in
    let here : section_size * suc i ≡ length (section_bytes x) + section_size * i = omega arith in
    let next : section_size * (suc i + 1) ≡ length (section_bytes x) + section_size * (i + 1) = omega arith in
    ap (λ bs. section_bytes x ++ bs)
    (sections_bytes-set n i sections es (λ k. short (suc k)) (omega arith) (omega arith))
    ∙ sym
    (append_assoc (section_bytes x) (take (section_size * i) (sections_bytes n sections))
    (section_bytes es ++ drop (section_size * (i + 1)) (sections_bytes n sections)))
    ∙ sym
    (ap₂ (λ front back. front ++ (section_bytes es ++ back))
    (ap (λ k. take k (section_bytes x ++ sections_bytes n sections)) here
    ∙ take-append-add (section_bytes x) (sections_bytes n sections) (section_size * i))
    (ap (λ k. drop k (section_bytes x ++ sections_bytes n sections)) next
    ∙ drop-append-add (section_bytes x) (sections_bytes n sections) (section_size * (i + 1))))

-- in a string of three parts, a byte of the second and a run of the third
parts-set : (top counts rest mid whole : List ℕ) (n m i v : ℕ) → length top ≡ 16 → length counts ≡ 16
    → whole ≡ (top ++ counts) ++ rest → i < 16
    → (top ++ set counts i v) ++ (take n rest ++ (mid ++ drop m rest))
    ≡ set (take (32 + n) whole ++ (mid ++ drop (32 + m) whole)) (16 + i) v
parts-set top counts rest mid whole n m i v ht hc e h =
    let size : length (top ++ counts) ≡ 32 = length-append top counts ∙ ap₂ ◌+◌ ht hc in
    let front : take (32 + n) whole ≡ (top ++ counts) ++ take n rest =
    ap₂ (λ k l. take (k + n) l) (sym size) e ∙ take-append-add (top ++ counts) rest n in
    let back : drop (32 + m) whole ≡ drop m rest =
    ap₂ (λ k l. drop (k + m) l) (sym size) e ∙ drop-append-add (top ++ counts) rest m in
    let count : set (top ++ counts) (16 + i) v ≡ top ++ set counts i v =
    ap (λ k. set (top ++ counts) (k + i) v) (sym ht) ∙ set-append-add top counts i v in
    sym
    (ap₂ (λ f b. set (f ++ (mid ++ b)) (16 + i) v) front back
    ∙ ap (λ l. set l (16 + i) v) (append_assoc (top ++ counts) (take n rest) (mid ++ drop m rest))
    ∙ set-append_left (top ++ counts) (take n rest ++ (mid ++ drop m rest)) (16 + i) v (omega arith)
    ∙ ap (λ l. l ++ (take n rest ++ (mid ++ drop m rest))) count)

-- what stands before the counts
header : ℕ → ℕ → List ℕ
header ports clock = bytes_of 4 layout_number ++ (bytes_of 4 ports ++ (bytes_of 4 clock ++ bytes_of 4 0))

length-header : (ports clock : ℕ) → length (header ports clock) ≡ 16
unfolding header bytes_of
length-header ports clock = refl

-- a table in three parts
encode-parts : (s : Switch)
    → encode s
    ≡ (header s.ports s.clock ++ counts_bytes port_limit s.sections) ++ sections_bytes port_limit s.sections
unfolding encode header bytes_of
encode-parts s = refl

-- the table of a state with one section exchanged
abbrev pub with_section : Switch → ℕ → List Entry → Switch
with_section s i es = record { ports = s.ports; clock = s.clock; sections = set s.sections i es }

pub encode-set : (s : Switch) (i : ℕ) (es : List Entry) → Short s.sections → i < port_limit → i < length s.sections
    → length es ≤ section_room
    → encode (with_section s i es)
    ≡ set
    (take (header_size + section_size * i) (encode s)
    ++ (section_bytes es ++ drop (header_size + section_size * (i + 1)) (encode s)))
    (16 + i)
    (length es)
encode-set s i es short h l few =
    encode-parts (with_section s i es)
    ∙ ap₂ (λ c b. (top ++ c) ++ b)
    (counts_bytes-set port_limit i s.sections es h l few)
    (sections_bytes-set port_limit i s.sections es short h l)
    ∙ parts-set top (counts_bytes port_limit s.sections) (sections_bytes port_limit s.sections) (section_bytes es)
    (encode s) (section_size * i) (section_size * (i + 1)) i (length es) (length-header s.ports s.clock)
    (length-counts_bytes port_limit s.sections) (encode-parts s) h
  where
    top : List ℕ
    top = header s.ports s.clock
