-- What a place or the whole store is after it has been written, and a table after a place has been read.
use Prim.Native.Nat.{ℕ, ◌+◌, ◌<◌}
use mathlib.Core.Path.{◌≡◌, refl, sym, ◌∙◌, ap, ap₂}
use mathlib.Core.List.{List, [], ◌++◌, append_assoc}
use native.Mathlib.Omega.{arith}
use lib.ListN.{length, take, drop, replicate, length-append, length-replicate}
use lib.Seq.{take_all}
use Rattle.model.specs.Cues.{name_limit, cue_limit, no_cues}
use Rattle.layout.specs.Code.{put}
use Rattle.layout.specs.Cues.{fair_cues, store_size, place_size, store_bytes}
use Rattle.layout.specs.Fair.{fair_number, fair_size}
use Rattle.layout.specs.Host.{filled}
use Rattle.layout.specs.Number.{bytes_of}
use Rattle.layout.proofs.Number.{length-bytes_of}
use Rattle.layout.proofs.Put.{put_next}
use Rattle.layout.proofs.Runs.{put_whole, put-zeros}
use Rattle.layout.proofs.Stores.{store_bytes-no_cues}
use Rattle.cue_store.specs.Code.{place_start, table_at}

-- a name, and behind it a table
pub cue-put : (k at number : ℕ) (table old mid new : List ℕ) → length old ≡ store_size → k < cue_limit
    → length table ≡ fair_size → at ≡ place_start k → mid ≡ put at 8 (bytes_of 8 number) old
    → new ≡ put (at + name_limit) fair_size (take fair_size (drop 0 table)) mid
    → new ≡ put (place_start k) place_size (bytes_of 8 number ++ table) old
cue-put k at number table old mid new size inside own first name copied =
    put_next at name_limit fair_size (bytes_of 8 number) table old mid new (length-bytes_of 8 number) own (omega arith)
    name
    (copied ∙ ap (λ bs. put (at + name_limit) fair_size bs mid) (take_all fair_size table (omega arith)))
    ∙ ap (λ n. put n place_size (bytes_of 8 number ++ table) old) first

-- a table over another
pub cue-read : (k at : ℕ) (store old new : List ℕ) → length old ≡ fair_size → at ≡ place_start k
    → new ≡ put 0 fair_size (take fair_size (drop (at + name_limit) store)) old → new ≡ table_at store k
unfolding table_at
cue-read k at store old new size first copied =
    copied
    ∙ put_whole fair_size (take fair_size (drop (at + name_limit) store)) old size
    ∙ ap (λ n. take fair_size (drop (n + name_limit) store)) first

-- the layout's number over the first of the zeros
pub no-cues-put : (old mid new : List ℕ) → mid ≡ put 0 store_size (replicate store_size 0) old
    → new ≡ put 0 4 (bytes_of 4 fair_number) mid → new ≡ filled (store_bytes no_cues) old
unfolding filled
no-cues-put old mid new cleared header =
    header
    ∙ ap (put 0 4 (bytes_of 4 fair_number)) cleared
    ∙ put-zeros [] (bytes_of 4 fair_number) 4 98764 (drop store_size old) 0 refl
    ∙ sym (append_assoc (bytes_of 4 fair_number) (replicate 98764 0) (drop store_size old))
    ∙ ap₂ (λ bs n. bs ++ drop n old) (sym (store_bytes-no_cues fair_cues)) (sym size)
  where
    size : length (store_bytes no_cues) ≡ store_size
    size =
        ap length (store_bytes-no_cues fair_cues)
        ∙ length-append (bytes_of 4 fair_number) (replicate 98764 0)
        ∙ ap₂ ◌+◌ (length-bytes_of 4 fair_number) (length-replicate {A = ℕ} 98764 0)
