-- What the code reads and writes of a memory's bytes.
use Prim.Native.Nat.{ℕ, ◌+◌, ◌*◌, ◌-◌, ◌/◌, ◌%◌, ◌^◌, ◌≤◌, ◌<◌}
use native.Mathlib.Nat.{div-eq_of_lt, pow-le-pow_right}
use native.Mathlib.Omega.{arith}
use mathlib.Core.Bool.{false}
use mathlib.Core.Path.{◌≡◌, sym, ap, ap₂, ◌∙◌}
use mathlib.Core.List.{List, ◌++◌, append-nil}
use lib.Dec.{eqb}
use lib.ListN.{length, take, drop, get_or, replicate, drop_of_length-le}
use lib.Seq.{take_at}
use Rattle.cell.specs.Limits.{port_limit}
use Rattle.model.specs.Fair.{no_memory, flow_count}
use Rattle.layout.specs.Number.{bytes_of, word}
use Rattle.layout.specs.Code.{put}
use Rattle.layout.specs.Memory.{word_size, left_start, given_start, memory_size, memory_bytes, memory_of}
use Rattle.layout.proofs.Memory.{words_in-at, word-drop, memory_bytes-none}
use Rattle.layout.proofs.Number.{length-bytes_of}
use Rattle.layout.proofs.Put.{length-put}

module _ (bs : List ℕ) where
  -- the word of an output, and that of a flow
  pub left_word : (o : ℕ) → o < port_limit → word bs (left_start + word_size * o) ≡ get_or (memory_of bs).left o 0
  unfolding memory_of
  left_word o h = sym (words_in-at port_limit (drop left_start bs) o h ∙ word-drop left_start (word_size * o) bs)

  pub given_word : (k : ℕ) → k < flow_count → word bs (given_start + word_size * k) ≡ get_or (memory_of bs).given k 0
  unfolding memory_of
  given_word k h = sym (words_in-at flow_count (drop given_start bs) k h ∙ word-drop given_start (word_size * k) bs)

-- a number of 32 bits has no bit 32 and none above
pub no-bit : (marks o : ℕ) → marks < 2 ^ 32 → 32 ≤ o → eqb (marks / 2 ^ o % 2) 1 ≡ false
no-bit marks o small h =
    let less : marks < 2 ^ o = omega (arith, pow-le-pow_right {n = 2} (omega arith) h) in
    let none : marks / 2 ^ o ≡ 0 = div-eq_of_lt less in
    ap (λ n. eqb (n % 2) 1) none

-- bytes at the start, and zeros up to the end
pub zeros-behind : (at count : ℕ) (xs old mid new : List ℕ) → length xs ≡ at → length old ≡ at + count
    → mid ≡ put 0 at xs old → new ≡ put at count (replicate count 0) mid → new ≡ xs ++ replicate count 0
zeros-behind at count xs old mid new size room first second =
    let long : length mid ≡ at + count = ap length first ∙ length-put 0 at xs old size (omega arith) ∙ room in
    let end : length mid ≤ at + count = omega arith in
    let front : take at mid ≡ xs = ap (take at) first ∙ take_at xs (drop (0 + at) old) at size in
    second
    ∙ ap₂ (λ before after. before ++ (replicate count 0 ++ after)) front (drop_of_length-le mid end)
    ∙ ap (λ l. xs ++ l) (append-nil (replicate count 0))

pub no-memory : (marks : ℕ) (old mid new : List ℕ) → length old ≡ memory_size
    → mid ≡ put 0 word_size (bytes_of word_size marks) old
    → new ≡ put left_start (memory_size - left_start) (replicate (memory_size - left_start) 0) mid
    → new ≡ memory_bytes (no_memory marks)
no-memory marks old mid new size first second =
    zeros-behind word_size (memory_size - left_start) (bytes_of word_size marks) old mid new
    (length-bytes_of word_size marks) size first second
    ∙ sym (memory_bytes-none marks)
