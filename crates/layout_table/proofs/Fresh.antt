-- The bytes of a fresh switch: its header, then zeros; and how they come to stand in a buffer.
use Prim.Native.Nat.{ℕ, zero, suc, ◌+◌, ◌*◌}
use native.Mathlib.Omega.{arith}
use mathlib.Core.List.{List, [], ◌∷◌, ◌++◌, append_assoc}
use mathlib.Core.Path.{◌≡◌, refl, sym, ap, ap₂, ◌∙◌}
use lib.ListN.{length, drop, replicate, length-replicate, length-append, replicate-append-replicate}
use Rattle.cell.specs.Limits.{port_limit}
use Rattle.model.specs.State.{fresh, Entry}
use Rattle.layout.specs.Code.{put}
use Rattle.layout.specs.Number.{bytes_of}
use Rattle.layout.specs.Table.{encode, counts_bytes, sections_bytes, section_bytes, entries_bytes, table_size, section_size}
use Rattle.layout.specs.Host.{filled}
use Rattle.layout.proofs.Number.{length-bytes_of}
use Rattle.layout.proofs.Runs.{put-zeros}

zeros : ℕ → List ℕ
zeros n = replicate n 0

zeros-add : (m n : ℕ) → zeros m ++ zeros n ≡ zeros (m + n)
unfolding zeros
zeros-add m n = replicate-append-replicate m n 0

counts-zeros : (k n : ℕ) → counts_bytes k (replicate {A = List Entry} n []) ≡ zeros k
unfolding counts_bytes zeros bytes_of
counts-zeros zero n = refl
counts-zeros (suc k) zero = ap (λ l. 0 ∷ l) (counts-zeros k zero)
counts-zeros (suc k) (suc n) = ap (λ l. 0 ∷ l) (counts-zeros k n)

section-zeros : section_bytes [] ≡ zeros section_size
unfolding section_bytes entries_bytes zeros
section-zeros = refl

-- a section more
zeros-more : (k : ℕ) → zeros section_size ++ zeros (section_size * k) ≡ zeros (section_size * suc k)
zeros-more k =
    let e : section_size + section_size * k ≡ section_size * suc k = omega arith in
    zeros-add section_size (section_size * k) ∙ ap zeros e

sections-zeros : (k n : ℕ) → sections_bytes k (replicate {A = List Entry} n []) ≡ zeros (section_size * k)
unfolding sections_bytes zeros
sections-zeros zero n = refl
sections-zeros (suc k) zero = ap₂ ◌++◌ section-zeros (sections-zeros k zero) ∙ zeros-more k
sections-zeros (suc k) (suc n) = ap₂ ◌++◌ section-zeros (sections-zeros k n) ∙ zeros-more k

body-zeros : (n : ℕ)
    → bytes_of 4 0 ++ (counts_bytes port_limit (replicate {A = List Entry} n []) ++ sections_bytes port_limit (replicate n []))
    ≡ zeros 16404
body-zeros n =
    ap₂ (λ a b. bytes_of 4 0 ++ (a ++ b)) (counts-zeros 16 n) (sections-zeros 16 n)
    ∙ ap (λ l. bytes_of 4 0 ++ l) (zeros-add 16 16384)
    ∙ ap (λ l. l ++ zeros 16400) four
    ∙ zeros-add 4 16400
  where
    four : bytes_of 4 0 ≡ zeros 4
    four = unfold bytes_of zeros in refl

pub encode-fresh : (n first : ℕ)
    → encode (fresh n first) ≡ bytes_of 4 1 ++ (bytes_of 4 n ++ (bytes_of 4 first ++ replicate 16404 0))
unfolding encode fresh zeros
encode-fresh n first = ap (λ l. bytes_of 4 1 ++ (bytes_of 4 n ++ (bytes_of 4 first ++ l))) (body-zeros n)

-- the header of a fresh switch put into a cleared buffer
pub header-put : (n first : ℕ) (old a b c d : List ℕ)
    → a ≡ put 0 table_size (replicate table_size 0) old
    → b ≡ put 0 4 (bytes_of 4 1) a
    → c ≡ put 4 4 (bytes_of 4 n) b
    → d ≡ put 8 4 (bytes_of 4 first) c
    → d ≡ filled (encode (fresh n first)) old
unfolding filled zeros
header-put n first old a b c d p q r s =
    s
    ∙ ap (put 8 4 (bytes_of 4 first)) third
    ∙ put-zeros (bytes_of 4 1 ++ bytes_of 4 n) (bytes_of 4 first) 4 16404 rest 8 eight
    ∙ append_assoc (bytes_of 4 1) (bytes_of 4 n) (bytes_of 4 first ++ (zeros 16404 ++ rest))
    ∙ regroup
    ∙ ap₂ (λ x k. x ++ drop k old) (sym (encode-fresh n first)) (sym size)
  where
    rest : List ℕ
    rest = drop table_size old

    regroup : bytes_of 4 1 ++ (bytes_of 4 n ++ (bytes_of 4 first ++ (zeros 16404 ++ rest)))
        ≡ (bytes_of 4 1 ++ (bytes_of 4 n ++ (bytes_of 4 first ++ zeros 16404))) ++ rest
    regroup = sym (simp append_assoc)

    size : length (encode (fresh n first)) ≡ table_size
    size =
        ap length (encode-fresh n first)
        ∙ simp (length-append, length-bytes_of) (ap (λ k. 4 + (4 + (4 + k))) (length-replicate {A = ℕ} 16404 0))

    eight : length (bytes_of 4 1 ++ bytes_of 4 n) ≡ 8
    eight = length-append (bytes_of 4 1) (bytes_of 4 n) ∙ ap₂ ◌+◌ (length-bytes_of 4 1) (length-bytes_of 4 n)

    second : b ≡ bytes_of 4 1 ++ (zeros 16412 ++ rest)
    second = q ∙ ap (put 0 4 (bytes_of 4 1)) p ∙ put-zeros [] (bytes_of 4 1) 4 16412 rest 0 refl

    third : c ≡ (bytes_of 4 1 ++ bytes_of 4 n) ++ (zeros 16408 ++ rest)
    third =
        r
        ∙ ap (put 4 4 (bytes_of 4 n)) second
        ∙ put-zeros (bytes_of 4 1) (bytes_of 4 n) 4 16408 rest 4 (length-bytes_of 4 1)
        ∙ sym (append_assoc (bytes_of 4 1) (bytes_of 4 n) (zeros 16408 ++ rest))
