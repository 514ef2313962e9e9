-- The parts of a table: its number, its cells and its memory.
--     Parts, parts                what is known of the parts of a table
--     memory-part                 the memory, as the code lends it
--     put-core, core-kept         the table after its cells were put, and its memory then
--     put-memory, memory-behind   and after its memory was put; that memory
use Prim.Native.Nat.{ℕ, ◌+◌, ◌-◌}
use native.Mathlib.Omega.{arith}
use mathlib.Core.Bool.{true}
use mathlib.Core.List.{List, ◌++◌, append_assoc}
use mathlib.Core.Path.{◌≡◌, sym, ap, ap₂, ◌∙◌}
use borrow.Rule.Slice.PartMut.{put_mid}
use lib.ListN.{length, take, drop, length-append}
use lib.Seq.{take_at, drop_at, drop-drop, length-take-le}
use Rattle.laws.proofs.Tests.{and_l, and_r}
use Rattle.layout.specs.Frame.{is_framed, is_fair_table}
use Rattle.layout.specs.Fair.{fair_number, core_start, memory_start, fair_size, fair_bytes, core_in, memory_in}
use Rattle.layout.specs.Memory.{word_size, memory_size, memory_bytes, memory_of}
use Rattle.layout.specs.Number.{bytes_of}
use Rattle.layout.specs.Table.{IsTable, is_table, table_size}
use Rattle.layout.proofs.Fair.{is_fair_table-tests, framed-size, framed-core, framed-memory, framed-whole}
use Rattle.layout.proofs.Memory.{memory_bytes-memory_of}
use Rattle.layout.proofs.Number.{bytes?, bytes?-drop, length-bytes_of}
use Rattle.layout.proofs.Parts.{part-behind, put-behind}
use Rattle.layout.proofs.Table.{is-table}

pub memory-part : (bs : List ℕ) → take (length bs - memory_start) (drop memory_start bs) ≡ memory_in bs
memory-part bs = part-behind bs memory_start

-- what is known of a table
pub record Parts (bs : List ℕ) : Type 0 where
  pub size : length bs ≡ fair_size
  pub front : take core_start bs ≡ bytes_of word_size fair_number
  pub core : IsTable (core_in bs)
  pub cells : length (core_in bs) ≡ table_size
  pub remembers : length (memory_in bs) ≡ memory_size

pub parts : (bs : List ℕ) → bytes? bs ≡ true → is_fair_table bs ≡ true → Parts bs
unfolding fair_bytes
parts bs b t =
    let tests = sym (is_fair_table-tests bs b) ∙ t in
    let framed : is_framed fair_number bs ≡ true = and_l (is_framed fair_number bs) (is_table (core_in bs)) tests in
    let cells : is_table (core_in bs) ≡ true = and_r (is_framed fair_number bs) (is_table (core_in bs)) tests in
    record {
      size = framed-size fair_number bs framed;
      front =
          ap (take core_start) (sym (framed-whole fair_number bs framed b cells))
          ∙ take_at (bytes_of word_size fair_number) _ core_start (length-bytes_of word_size fair_number);
      core = is-table (core_in bs) cells;
      cells = framed-core fair_number bs framed;
      remembers = framed-memory fair_number bs framed;
    }

-- other cells, between the number and the memory
module _ (bs core : List ℕ) (size : length bs ≡ fair_size) (same : length core ≡ table_size) where
  pub put-core : put_mid core_start table_size bs core ≡ take core_start bs ++ (core ++ memory_in bs)
  put-core = ap (λ l. take core_start bs ++ (core ++ l)) (drop-drop table_size core_start bs)

  pub head-length : length (take core_start bs ++ core) ≡ memory_start
  head-length =
      length-append (take core_start bs) core
      ∙ ap₂ ◌+◌ (length-take-le core_start bs (omega arith)) same

  joined : put_mid core_start table_size bs core ≡ (take core_start bs ++ core) ++ memory_in bs
  joined = put-core ∙ sym (append_assoc (take core_start bs) core (memory_in bs))

  -- the memory stays
  pub core-kept : memory_in (put_mid core_start table_size bs core) ≡ memory_in bs
  core-kept = ap (drop memory_start) joined ∙ drop_at (take core_start bs ++ core) (memory_in bs) memory_start head-length

  -- and another memory behind them
  pub put-memory : (new : List ℕ) → let all = put_mid core_start table_size bs core in
      put_mid memory_start (length all - memory_start) all new ≡ take core_start bs ++ (core ++ new)
  put-memory new =
      put-behind (put_mid core_start table_size bs core) memory_start new
      ∙ ap (λ l. l ++ new)
      (ap (take memory_start) joined ∙ take_at (take core_start bs ++ core) (memory_in bs) memory_start head-length)
      ∙ append_assoc (take core_start bs) core new

-- the bytes behind a head of this length are a memory's
pub memory-behind : (head new : List ℕ) → length head ≡ memory_start → bytes? (head ++ new) ≡ true
    → length new ≡ memory_size → memory_bytes (memory_of new) ≡ new
memory-behind head new size b many =
    memory_bytes-memory_of new
    (rw (drop_at head new memory_start size) at (bytes?-drop memory_start (head ++ new) b)) many
