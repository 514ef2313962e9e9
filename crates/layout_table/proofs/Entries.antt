-- An entry is written as four numbers of 32 bits and copied as two of 64 bits. The first two bytes of its record tell its
-- flow, and the first four its flow and place.
use Prim.Native.Nat.{ℕ, suc, ◌+◌, ◌*◌, ◌/◌, ◌%◌, ◌^◌, ◌≤◌, ◌<◌}
use native.Mathlib.Omega.{arith}
use mathlib.Core.Path.{◌≡◌, sym, ◌∙◌, ap, ap₂}
use mathlib.Core.Bool.{true}
use mathlib.Core.List.{List, ◌∷◌, ◌++◌, append_assoc}
use borrow.Author.Tests.{eqb-true, eq-eqb}
use lib.Dec.{eqb}
use lib.ListN.{length, get_or, take, drop, length-drop}
use lib.Seq.{length-take-le}
use Rattle.laws.proofs.Tests.{same}
use Rattle.cell.specs.declared.Cell.{Cell}
use Rattle.cell.specs.Flow.{same_flow}
use Rattle.cell.proofs.Flow.{flow-i, flow-e}
use Rattle.layout.specs.Number.{bytes_of, number_at, word}
use Rattle.layout.specs.Entry.{entry_at}
use Rattle.layout.specs.Code.{record_start, record_at, place_byte_at, put}
use Rattle.layout.specs.Table.{entry_size, table_size, entry_bytes, entry_limit}
use Rattle.layout.proofs.Halves.{read-halves, put-halves, number_at-halves, number_at-byte}
use Rattle.layout.proofs.Number.{bytes?, bytes?-take, bytes?-drop, bytes_of-number_of, number_at-below}
use Rattle.layout.proofs.Records.{entry_at-output, entry_at-flow, place_byte_at-byte}
use Rattle.layout_table.specs.CodeEntries.{entry_with, flow_word}
use Rattle.layout_table.proofs.Places.{place-i, exact-zero}

-- a byte and a number behind it
bytes_of-split : (w b m : ℕ) → b < 256 → bytes_of (suc w) (b + 256 * m) ≡ bytes_of 1 b ++ bytes_of w m
unfolding bytes_of
bytes_of-split w b m h =
    let first : (b + 256 * m) % 256 ≡ b % 256 = omega arith in
    let others : (b + 256 * m) / 256 ≡ m = omega arith in
    ap₂ ◌∷◌ first (ap (bytes_of w) others)

-- the first number has the output, the flow and the place
head_bytes : (o f p : ℕ) → o < 256 → f < 256 → p < 256
    → bytes_of 4 (o + 256 * f + 65536 * p) ≡ bytes_of 1 o ++ (bytes_of 1 f ++ (bytes_of 1 p ++ bytes_of 1 0))
head_bytes o f p ho hf hp =
    let nested : o + 256 * f + 65536 * p ≡ o + 256 * (f + 256 * (p + 256 * 0)) = omega arith in
    ap (bytes_of 4) nested
    ∙ bytes_of-split 3 o (f + 256 * (p + 256 * 0)) ho
    ∙ ap (λ bs. bytes_of 1 o ++ bs)
    (bytes_of-split 2 f (p + 256 * 0) hf ∙ ap (λ bs. bytes_of 1 f ++ bs) (bytes_of-split 1 p 0 hp))

pub entry-words : (c : Cell) (p : ℕ) → c.output < 256 → c.flow < 256 → 1 ≤ p → p ≤ 3
    → ((bytes_of 4 (c.output + 256 * c.flow + 65536 * p) ++ bytes_of 4 c.rank) ++ bytes_of 4 c.tag)
    ++ bytes_of 4 c.slot
    ≡ entry_bytes (entry_with c p)
unfolding entry_bytes entry_with
entry-words c p ho hf low high =
    ap (λ bs. ((bs ++ bytes_of 4 c.rank) ++ bytes_of 4 c.tag) ++ bytes_of 4 c.slot)
    (head_bytes c.output c.flow p ho hf (omega arith)
    ∙ ap (λ b. bytes_of 1 c.output ++ (bytes_of 1 c.flow ++ (bytes_of 1 b ++ bytes_of 1 0)))
    (sym (place-i p low high)))
    ∙ simp append_assoc

-- a record copied by two numbers of 64 bits
pub record-copied : (k n from to low high : ℕ) (old mid new : List ℕ) → bytes? old ≡ true → length old ≡ table_size
    → k < entry_limit → n < entry_limit → from ≡ record_start k → to ≡ record_start n
    → low ≡ number_at 8 from old → high ≡ number_at 8 (from + 8) old
    → mid ≡ put to 8 (bytes_of 8 low) old → new ≡ put (to + 8) 8 (bytes_of 8 high) mid
    → new ≡ put (record_start n) entry_size (record_at old k) old
unfolding record_at number_at
record-copied k n from to low high old mid new b size few less f t l h first second =
    let small : low < 256 ^ 8 = rw l (number_at-below 8 from old b (omega arith)) in
    let both : low + 256 ^ 8 * high ≡ number_at 16 from old = read-halves 8 from low high old (omega arith) l h in
    let count : length (take 16 (drop from old)) ≡ 16 =
    length-take-le 16 (drop from old) (simp length-drop (omega arith)) in
    let same : bytes_of 16 (number_at 16 from old) ≡ take 16 (drop from old) =
    bytes_of-number_of 16 (take 16 (drop from old)) (bytes?-take 16 (drop from old) (bytes?-drop from old b)) count in
    put-halves 8 to low high (number_at 16 from old) old mid new (omega arith) first second small (sym both)
    ∙ ap (λ bs. put to 16 bs old) same
    ∙ ap₂ (λ x y. put x 16 (take 16 (drop y old)) old) t f

-- two cells of one input are of one flow exactly if the numbers of their flows are equal
pub flow-word : (c d : Cell) → c.input ≡ d.input → c.output < 256 → d.output < 256
    → eqb (flow_word c) (flow_word d) ≡ same_flow c d
flow-word c d input hc hd =
    same (eqb (flow_word c) (flow_word d)) (same_flow c d)
    (λ h.
    let equal : c.output + 256 * c.flow ≡ d.output + 256 * d.flow = eqb-true _ _ h in
    flow-i (record { input = input; output = omega arith; flow = omega arith }))
    (λ h.
    let f = flow-e c d h in
    eq-eqb _ _ (ap₂ (λ o n. o + 256 * n) f.output f.flow))

-- the first number of a record that is the bytes of its entry
pub head-word : (bs : List ℕ) (k : ℕ) → record_start k + 4 ≤ length bs → record_at bs k ≡ entry_bytes (entry_at bs k)
    → word bs (record_start k) ≡ flow_word (entry_at bs k).cell + 65536 * place_byte_at bs k
unfolding word
head-word bs k room exact =
    let at = record_start k in
    let halves : number_at 4 at bs ≡ number_at 2 at bs + 65536 * number_at 2 (at + 2) bs =
    number_at-halves 2 2 at bs (omega arith) in
    let low : number_at 2 at bs ≡ number_at 1 at bs + 256 * number_at 1 (at + 1) bs =
    number_at-halves 1 1 at bs (omega arith) in
    let high : number_at 2 (at + 2) bs ≡ number_at 1 (at + 2) bs + 256 * number_at 1 (at + 2 + 1) bs =
    number_at-halves 1 1 (at + 2) bs (omega arith) in
    let last : at + 2 + 1 ≡ at + 3 = omega arith in
    let zero : ◌≡◌ {A = ℕ} (number_at 1 (at + 2 + 1) bs) 0 =
    number_at-byte (at + 2 + 1) bs ∙ ap (λ n. get_or bs n 0) last ∙ exact-zero bs k (sym exact) in
    let output : number_at 1 at bs ≡ (entry_at bs k).cell.output = number_at-byte at bs ∙ sym (entry_at-output bs k) in
    let flow : number_at 1 (at + 1) bs ≡ (entry_at bs k).cell.flow = number_at-byte (at + 1) bs ∙ sym (entry_at-flow bs k) in
    let place : number_at 1 (at + 2) bs ≡ place_byte_at bs k = number_at-byte (at + 2) bs ∙ sym (place_byte_at-byte bs k) in
    omega arith
