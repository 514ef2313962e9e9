-- The parts of a table, put one behind the other.
--     put-part                        a lent part that comes back
--     fresh-written, older-written    the number, the cells and no memory are the table
--     fresh-room                      the buffer keeps its length
use Prim.Native.Nat.{ℕ, ◌+◌, ◌≤◌}
use native.Mathlib.Omega.{arith}
use mathlib.Core.Bool.{true}
use mathlib.Core.List.{List, ◌++◌, append_assoc, append-nil}
use mathlib.Core.Path.{◌≡◌, refl, sym, ap, ap₂, ◌∙◌}
use lib.ListN.{length, take, drop, length-append, length-replicate, length-take, drop_of_length-le}
use lib.Seq.{drop-drop, take_all}
use borrow.Rule.Slice.PartMut.{put_mid}
use Rattle.cell.specs.Limits.{port_limit}
use Rattle.model.specs.Fair.{Memory, no_memory, marked, flow_count}
use Rattle.model.specs.State.{Switch, fresh}
use Rattle.layout.specs.Code.{put}
use Rattle.layout.specs.Fair.{core_start, memory_start, fair_size, fair_bytes}
use Rattle.layout.specs.Host.{filled}
use Rattle.layout.specs.Memory.{word_size, memory_size, memory_bytes}
use Rattle.layout.specs.Number.{bytes_of}
use Rattle.layout.specs.Table.{table_size, encode, state_of, is_table}
use Rattle.layout.proofs.Host.{length-filled}
use Rattle.layout.proofs.Memory.{length-memory_bytes}
use Rattle.layout.proofs.Number.{length-bytes_of}
use Rattle.layout.proofs.Put.{put_next}
use Rattle.layout.proofs.Table.{decode-sound, decode-length, encode-decode, length-encode, is-table}
use Rattle.layout_table.proofs.Fresh.{encode-fresh}

-- a part that is lent and comes back
pub put-part : (at n : ℕ) (old new : List ℕ) → put_mid at n old new ≡ put at n new old
put-part at n old new = ap (λ l. take at old ++ (new ++ l)) (drop-drop n at old)

length-fresh : (n first : ℕ) → length (encode (fresh n first)) ≡ table_size
length-fresh n first =
    ap length (encode-fresh n first)
    ∙ simp (length-append, length-bytes_of) (ap (λ k. 4 + (4 + (4 + k))) (length-replicate {A = ℕ} 16404 0))

length_none : (marks : ℕ) → length (memory_bytes (no_memory marks)) ≡ memory_size
unfolding no_memory
length_none marks =
    length-memory_bytes (no_memory marks) (length-replicate {A = ℕ} port_limit 0) (length-replicate {A = ℕ} flow_count 0)

-- a buffer that is filled to its end
filled-whole : (bs buffer : List ℕ) → length buffer ≤ length bs → filled bs buffer ≡ bs
unfolding filled
filled-whole bs buffer end = ap (λ l. bs ++ l) (drop_of_length-le buffer end) ∙ append-nil bs

module _ (number : ℕ) (s : Switch) (m : Memory) (cells : length (encode s) ≡ table_size)
    (ranks : length (memory_bytes m) ≡ memory_size) (old : List ℕ) (room : fair_size ≤ length old) where
  -- the three parts, put one behind the other
  written : (one two three : List ℕ) → one ≡ put 0 word_size (bytes_of word_size number) old
      → two ≡ put core_start table_size (encode s) one → three ≡ put memory_start memory_size (memory_bytes m) two
      → three ≡ filled (fair_bytes number (record { core = s; memory = m })) old
  unfolding filled fair_bytes
  written one two three first second third =
      let front : List ℕ = bytes_of word_size number in
      let both : two ≡ put 0 memory_start (front ++ encode s) old =
      put_next 0 word_size table_size front (encode s) old one two (length-bytes_of word_size number) cells (omega arith)
      first second in
      let size : length (front ++ encode s) ≡ memory_start =
      length-append front (encode s) ∙ ap₂ ◌+◌ (length-bytes_of word_size number) cells in
      let all : three ≡ put 0 fair_size ((front ++ encode s) ++ memory_bytes m) old =
      put_next 0 memory_start memory_size (front ++ encode s) (memory_bytes m) old two three size ranks (omega arith) both
      third in
      let long : length ((front ++ encode s) ++ memory_bytes m) ≡ fair_size =
      length-append (front ++ encode s) (memory_bytes m) ∙ ap₂ ◌+◌ size ranks in
      all
      ∙ ap (λ k. ((front ++ encode s) ++ memory_bytes m) ++ drop k old) (sym long)
      ∙ ap (λ bs. bs ++ drop (length bs) old) (append_assoc front (encode s) (memory_bytes m))

-- the number; the cells of a fresh switch in a part of their length; no memory
pub fresh-written : (number ports first marks n f : ℕ) (old one two new three none : List ℕ) → fair_size ≤ length old
    → one ≡ put 0 word_size (bytes_of word_size number) old
    → n ≡ ports → f ≡ first
    → new ≡ filled (encode (fresh n f)) (take table_size (drop core_start one))
    → two ≡ put_mid core_start table_size one new
    → none ≡ memory_bytes (no_memory marks)
    → three ≡ put_mid memory_start memory_size two none
    → three ≡ filled (fair_bytes number (marked marks (fresh ports first))) old
unfolding marked
fresh-written number ports first marks n f old one two new three none room a p q b c d e =
    let size : length (encode (fresh ports first)) ≡ table_size = length-fresh ports first in
    let core : new ≡ encode (fresh ports first) =
    b
    ∙ ap₂ (λ s part. filled (encode s) part) (ap₂ fresh p q) refl
    ∙ filled-whole (encode (fresh ports first)) _ (omega (arith, size, length-take table_size (drop core_start one))) in
    written number (fresh ports first) (no_memory marks) size (length_none marks) old room one two three a
    (c ∙ put-part core_start table_size one new ∙ ap (λ l. put core_start table_size l one) core)
    (e ∙ put-part memory_start memory_size two none ∙ ap (λ l. put memory_start memory_size l two) d)

-- and the buffer keeps its length
pub fresh-room : (number ports first marks : ℕ) (old : List ℕ) → fair_size ≤ length old
    → length (filled (fair_bytes number (marked marks (fresh ports first))) old) ≡ length old
unfolding fair_bytes marked
fresh-room number ports first marks old room =
    let bytes : List ℕ = encode (fresh ports first) ++ memory_bytes (no_memory marks) in
    let size : length (bytes_of word_size number ++ bytes) ≡ fair_size =
    length-append (bytes_of word_size number) bytes
    ∙ ap₂ ◌+◌ (length-bytes_of word_size number)
    (length-append (encode (fresh ports first)) (memory_bytes (no_memory marks))
    ∙ ap₂ ◌+◌ (length-fresh ports first) (length_none marks)) in
    length-filled (bytes_of word_size number ++ bytes) old (omega arith)

-- the number; the bytes of an older table; no memory
pub older-written : (number : ℕ) (core old one two three none : List ℕ) → is_table core ≡ true → fair_size ≤ length old
    → one ≡ put 0 word_size (bytes_of word_size number) old
    → two ≡ put core_start table_size (take table_size core) one
    → none ≡ memory_bytes (no_memory 0)
    → three ≡ put_mid memory_start memory_size two none
    → three ≡ filled (fair_bytes number (marked 0 (state_of core))) old
unfolding marked
older-written number core old one two three none t room a b d e =
    let table = is-table core t in
    let cells : take table_size core ≡ encode (state_of core) =
    take_all table_size core (omega (arith, decode-length core _ table)) ∙ sym (encode-decode core _ table) in
    written number (state_of core) (no_memory 0) (length-encode (state_of core) (decode-sound core _ table)) (length_none 0) old
    room one two three a
    (b ∙ ap (λ l. put core_start table_size l one) cells)
    (e ∙ put-part memory_start memory_size two none ∙ ap (λ l. put memory_start memory_size l two) d)
