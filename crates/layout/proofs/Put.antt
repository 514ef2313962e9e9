-- Bytes put into a byte string.
--     length-put, take_put, drop-put   the string then
--     put-none                         no byte
--     put_next                         a second run behind a first
--     put_two, put_four, put-seven     so many numbers, one behind the other
use Prim.Native.Nat.{ℕ, ◌+◌, ◌-◌, ◌≤◌}
use native.Mathlib.Nat.{add_assoc, add-zero}
use native.Mathlib.Omega.{arith}
use mathlib.Core.Path.{◌≡◌, refl, sym, ◌∙◌, ap, ap₂}
use mathlib.Core.List.{List, [], ◌++◌, append_assoc}
use lib.ListN.{length, take, drop, take-append-drop, length-append, length-drop}
use lib.Seq.{take_at, drop_at, drop-drop, length-take-le}
use Rattle.layout.specs.Number.{bytes_of}
use Rattle.layout.specs.Code.{put}

module _ (at n : ℕ) (xs old : List ℕ) (size : length xs ≡ n) (room : at + n ≤ length old) where
  front : length (take at old ++ xs) ≡ at + n
  front = length-append (take at old) xs ∙ ap₂ ◌+◌ (length-take-le at old (omega arith)) size

  parts : put at n xs old ≡ (take at old ++ xs) ++ drop (at + n) old
  parts = sym (append_assoc (take at old) xs (drop (at + n) old))

  pub take_put : take (at + n) (put at n xs old) ≡ take at old ++ xs
  take_put = rw parts (take_at (take at old ++ xs) (drop (at + n) old) (at + n) front)

  pub drop-put : (m : ℕ) → at + n ≤ m → drop m (put at n xs old) ≡ drop m old
  drop-put m h =
      let split : m ≡ at + n + (m - (at + n)) = omega arith in
      ap₂ drop split parts
      ∙ sym (drop-drop (m - (at + n)) (at + n) ((take at old ++ xs) ++ drop (at + n) old))
      ∙ ap (drop (m - (at + n))) (drop_at (take at old ++ xs) (drop (at + n) old) (at + n) front)
      ∙ drop-drop (m - (at + n)) (at + n) old
      ∙ ap (λ k. drop k old) (sym split)

  pub length-put : length (put at n xs old) ≡ length old
  length-put =
      ap length parts
      ∙ length-append (take at old ++ xs) (drop (at + n) old)
      ∙ ap₂ ◌+◌ front (length-drop (at + n) old)
      ∙ omega arith

-- no byte
pub put-none : (at : ℕ) (old : List ℕ) → old ≡ put at 0 [] old
put-none at old = sym (ap (λ n. take at old ++ drop n old) (add-zero at) ∙ take-append-drop at old)

-- a second run behind a first
pub put_next : (at n m : ℕ) (xs ys old mid new : List ℕ) → length xs ≡ n → length ys ≡ m → at + (n + m) ≤ length old
    → mid ≡ put at n xs old → new ≡ put (at + n) m ys mid → new ≡ put at (n + m) (xs ++ ys) old
put_next at n m xs ys old mid new hx hy room first second =
    let within : at + n ≤ length old = omega arith in
    let tail : drop (at + n + m) (put at n xs old) ≡ drop (at + (n + m)) old =
    drop-put at n xs old hx within (at + n + m) (omega arith) ∙ ap (λ k. drop k old) (add_assoc at n m) in
    second
    ∙ ap (put (at + n) m ys) first
    ∙ ap₂ (λ before after. before ++ (ys ++ after)) (take_put at n xs old hx within) tail
    ∙ simp append_assoc

-- two numbers of 64 bits
pub put_two : (at a b : ℕ) (old mid new : List ℕ) → at + 16 ≤ length old
    → mid ≡ put at 8 (bytes_of 8 a) old → new ≡ put (at + 8) 8 (bytes_of 8 b) mid
    → new ≡ put at 16 (bytes_of 8 a ++ bytes_of 8 b) old
unfolding bytes_of
put_two at a b old mid new room = put_next at 8 8 (bytes_of 8 a) (bytes_of 8 b) old mid new refl refl room

-- numbers of 32 bits
module _ (at a b c d : ℕ) (old one two three four : List ℕ) (room : at + 16 ≤ length old)
    (first : one ≡ put at 4 (bytes_of 4 a) old) (second : two ≡ put (at + 4) 4 (bytes_of 4 b) one)
    (third : three ≡ put (at + 8) 4 (bytes_of 4 c) two) (fourth : four ≡ put (at + 12) 4 (bytes_of 4 d) three) where
  pub put_four : four ≡ put at 16 (((bytes_of 4 a ++ bytes_of 4 b) ++ bytes_of 4 c) ++ bytes_of 4 d) old
  unfolding bytes_of
  put_four =
      let ab : two ≡ put at 8 (bytes_of 4 a ++ bytes_of 4 b) old =
      put_next at 4 4 (bytes_of 4 a) (bytes_of 4 b) old one two refl refl (omega arith) first second in
      let abc : three ≡ put at 12 ((bytes_of 4 a ++ bytes_of 4 b) ++ bytes_of 4 c) old =
      put_next at 8 4 (bytes_of 4 a ++ bytes_of 4 b) (bytes_of 4 c) old two three refl refl (omega arith) ab third in
      put_next at 12 4 ((bytes_of 4 a ++ bytes_of 4 b) ++ bytes_of 4 c) (bytes_of 4 d) old three four refl refl room abc fourth

  pub put-seven : (e f g : ℕ) (five six seven : List ℕ) → at + 28 ≤ length old → five ≡ put (at + 16) 4 (bytes_of 4 e) four
      → six ≡ put (at + 20) 4 (bytes_of 4 f) five → seven ≡ put (at + 24) 4 (bytes_of 4 g) six
      → seven
      ≡ put at 28
      (bytes_of 4 a ++ (bytes_of 4 b ++ (bytes_of 4 c ++ (bytes_of 4 d ++ (bytes_of 4 e ++ (bytes_of 4 f ++ bytes_of 4 g)))))) old
  unfolding bytes_of
  put-seven e f g five six seven more fifth sixth last =
      let s : List ℕ = ((bytes_of 4 a ++ bytes_of 4 b) ++ bytes_of 4 c) ++ bytes_of 4 d in
      let se : five ≡ put at 20 (s ++ bytes_of 4 e) old =
      put_next at 16 4 s (bytes_of 4 e) old four five refl refl (omega arith) put_four fifth in
      let sef : six ≡ put at 24 ((s ++ bytes_of 4 e) ++ bytes_of 4 f) old =
      put_next at 20 4 (s ++ bytes_of 4 e) (bytes_of 4 f) old five six refl refl (omega arith) se sixth in
      put_next at 24 4 ((s ++ bytes_of 4 e) ++ bytes_of 4 f) (bytes_of 4 g) old six seven refl refl more sef last
