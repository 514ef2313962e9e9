-- Laws of a memory as bytes: it has 8,260 of them, it is read back from them, and any bytes of that length are a
-- memory's. A word is read and put by its place. All is said of any number of words: there are many.
--     words_in-at, -put       a word at its place, and the words after one was put
--     words_in-before         bytes that stand behind the words do not count
--     drop-put-past          bytes put behind a place, seen from that place
use Prim.Native.Nat.{ℕ, zero, suc, ◌+◌, ◌*◌, ◌≤◌, ◌<◌}
use native.Mathlib.Nat.{add_assoc}
use native.Mathlib.Omega.{arith}
use mathlib.Core.Bool.{true}
use mathlib.Core.Path.{◌≡◌, refl, sym, ◌∙◌, ap, ap₂}
use mathlib.Core.List.{List, [], ◌∷◌, ◌++◌, append_assoc, append-nil}
use lib.ListN.{length, take, drop, set, get_or, replicate}
use lib.ListN.{take-append-drop, length-append, length-drop, drop_of_length-le, replicate-append-replicate}
use lib.Seq.{drop_at, drop-drop, take-add, take-append-le, drop-append-le, length-take-le}
use Rattle.laws.specs.Lists.{all?}
use Rattle.laws.proofs.Tests.{and_i, and_l, and_r}
use Rattle.cell.specs.Limits.{fits32, port_limit}
use Rattle.model.specs.Fair.{Memory, no_memory, flow_count}
use Rattle.layout.specs.Number.{bytes_of, number_at, number_of, word, words_in}
use Rattle.layout.specs.Code.{put}
use Rattle.layout.specs.Memory.{word_size, left_start, given_start, memory_size, words_bytes}
use Rattle.layout.specs.Memory.{memory_bytes, memory_of}
use Rattle.layout.proofs.Number.{bytes?, bytes?-drop, length-bytes_of}
use Rattle.layout.proofs.Put.{drop-put}
use Rattle.layout.proofs.Number.{bytes_of-at, word_fits, word-here}

------------------------------------------------------------------------
-- words

pub length-words_bytes : (ws : List ℕ) → length (words_bytes ws) ≡ word_size * length ws
unfolding words_bytes
length-words_bytes [] = refl
length-words_bytes (w ∷ ws) =
    length-append (bytes_of word_size w) (words_bytes ws)
    ∙ ap₂ ◌+◌ (length-bytes_of word_size w) (length-words_bytes ws)
    ∙ omega arith

pub words_bytes-zeros : (n : ℕ) → words_bytes (replicate n 0) ≡ replicate (word_size * n) 0
unfolding words_bytes bytes_of
words_bytes-zeros zero = refl
words_bytes-zeros (suc n) =
    let more : word_size + word_size * n ≡ word_size * suc n = omega arith in
    ap (λ bs. replicate word_size 0 ++ bs) (words_bytes-zeros n)
    ∙ replicate-append-replicate word_size (word_size * n) 0
    ∙ ap (λ k. replicate k 0) more

pub length-words_in : (n : ℕ) (bs : List ℕ) → length (words_in n bs) ≡ n
unfolding words_in
length-words_in zero bs = refl
length-words_in (suc n) bs = ap suc (length-words_in n (drop word_size bs))

-- read back, whatever follows
pub words_in-words_bytes : (ws bs : List ℕ) → all? fits32 ws ≡ true → words_in (length ws) (words_bytes ws ++ bs) ≡ ws
unfolding words_in words_bytes all?
words_in-words_bytes [] bs h = refl
words_in-words_bytes (w ∷ ws) bs h =
    let parts = append_assoc (bytes_of word_size w) (words_bytes ws) bs in
    let rest : List ℕ = words_bytes ws ++ bs in
    ap₂ ◌∷◌
    (ap (λ l. word l 0) parts ∙ word-here w rest (and_l (fits32 w) (all? fits32 ws) h))
    (ap (λ l. words_in (length ws) (drop word_size l)) parts
    ∙ ap (words_in (length ws)) (drop_at (bytes_of word_size w) rest word_size (length-bytes_of word_size w))
    ∙ words_in-words_bytes ws bs (and_r (fits32 w) (all? fits32 ws) h))

-- bytes with room for one word more have room for the first, and for the others behind it
module _ (n : ℕ) (bs : List ℕ) (room : word_size * suc n ≤ length bs) where
  first_word : 0 + word_size ≤ length bs
  first_word = omega arith

  more-words : word_size * n ≤ length (drop word_size bs)
  more-words = simp length-drop (omega arith)

pub words_bytes-words_in : (n : ℕ) (bs rest : List ℕ) → bytes? bs ≡ true → word_size * n ≤ length bs
    → rest ≡ drop (word_size * n) bs → words_bytes (words_in n bs) ++ rest ≡ bs
unfolding words_in words_bytes word
words_bytes-words_in zero bs rest h room e = e
words_bytes-words_in (suc n) bs rest h room e =
    let size : word_size * suc n ≡ word_size + word_size * n = omega arith in
    let next : drop (word_size * suc n) bs ≡ drop (word_size * n) (drop word_size bs) =
    ap (λ k. drop k bs) size ∙ sym (drop-drop (word_size * n) word_size bs) in
    append_assoc (bytes_of word_size (number_at word_size 0 bs)) (words_bytes (words_in n (drop word_size bs))) rest
    ∙ bytes_of-at word_size 0 bs h (first_word n bs room) _
    (words_bytes-words_in n (drop word_size bs) rest (bytes?-drop word_size bs h) (more-words n bs room) (e ∙ next))

pub words_in-fits : (n : ℕ) (bs : List ℕ) → bytes? bs ≡ true → word_size * n ≤ length bs
    → all? fits32 (words_in n bs) ≡ true
unfolding words_in all?
words_in-fits zero bs h room = refl
words_in-fits (suc n) bs h room =
    and_i (fits32 (word bs 0)) (all? fits32 (words_in n (drop word_size bs)))
    (word_fits bs 0 h (first_word n bs room))
    (words_in-fits n (drop word_size bs) (bytes?-drop word_size bs h) (more-words n bs room))

-- a word at its place
pub word-drop : (d at : ℕ) (bs : List ℕ) → word (drop d bs) at ≡ word bs (d + at)
unfolding word number_at
word-drop d at bs = ap (λ l. number_of (take 4 l)) (drop-drop at d bs)

pub words_in-at : (n : ℕ) (bs : List ℕ) (k : ℕ) → k < n → get_or (words_in n bs) k 0 ≡ word bs (word_size * k)
unfolding words_in
words_in-at zero bs k h = absurd (omega arith)
words_in-at (suc n) bs zero h = refl
words_in-at (suc n) bs (suc k) h =
    words_in-at n (drop word_size bs) k (omega arith)
    ∙ word-drop word_size (word_size * k) bs
    ∙ ap (word bs) (omega arith)

-- what stands behind the words does not count
word-front : (p q r : List ℕ) → word_size ≤ length p → word (p ++ q) 0 ≡ word (p ++ r) 0
unfolding word number_at
word-front p q r h = ap number_of (take-append-le 4 p q h ∙ sym (take-append-le 4 p r h))

words_in-front : (n : ℕ) (p q r : List ℕ) → word_size * n ≤ length p → words_in n (p ++ q) ≡ words_in n (p ++ r)
unfolding words_in
words_in-front zero p q r h = refl
words_in-front (suc n) p q r h =
    let here : word_size ≤ length p = omega arith in
    ap₂ ◌∷◌ (word-front p q r here)
    (ap (words_in n) (drop-append-le word_size p q here)
    ∙ words_in-front n (drop word_size p) q r (more-words n p h)
    ∙ ap (words_in n) (sym (drop-append-le word_size p r here)))

------------------------------------------------------------------------
-- bytes put

module _ (at w : ℕ) (xs bs : List ℕ) (room : at ≤ length bs) where
  pub word-before : word_size ≤ at → word (put at w xs bs) 0 ≡ word bs 0
  word-before h =
      word-front (take at bs) _ (drop at bs) (rw (length-take-le at bs room) h)
      ∙ ap (λ l. word l 0) (take-append-drop at bs)

  pub words_in-before : (n : ℕ) → word_size * n ≤ at → words_in n (put at w xs bs) ≡ words_in n bs
  words_in-before n h =
      words_in-front n (take at bs) _ (drop at bs) (rw (length-take-le at bs room) h)
      ∙ ap (words_in n) (take-append-drop at bs)

pub drop-put-past : (d at w : ℕ) (xs bs : List ℕ) → d ≤ length bs
    → drop d (put (d + at) w xs bs) ≡ put at w xs (drop d bs)
drop-put-past d at w xs bs h =
    let rest : drop (d + at + w) bs ≡ drop (at + w) (drop d bs) =
    ap (λ k. drop k bs) (add_assoc d at w) ∙ sym (drop-drop (at + w) d bs) in
    ap (λ l. drop d (l ++ (xs ++ drop (d + at + w) bs))) (take-add d at bs)
    ∙ ap (drop d) (append_assoc (take d bs) (take at (drop d bs)) (xs ++ drop (d + at + w) bs))
    ∙ drop_at (take d bs) _ d (length-take-le d bs h)
    ∙ ap (λ l. take at (drop d bs) ++ (xs ++ l)) rest

pub words_in-put : (n : ℕ) (bs : List ℕ) (k v : ℕ) → word_size * n ≤ length bs → k < n → fits32 v ≡ true
    → words_in n (put (word_size * k) word_size (bytes_of word_size v) bs) ≡ set (words_in n bs) k v
unfolding words_in
words_in-put zero bs k v room h fit = absurd (omega arith)
words_in-put (suc n) bs zero v room h fit =
    ap₂ ◌∷◌ (word-here v (drop word_size bs) fit)
    (ap (words_in n) (drop_at (bytes_of word_size v) (drop word_size bs) word_size (length-bytes_of word_size v)))
words_in-put (suc n) bs (suc k) v room h fit =
    let at : word_size * suc k ≡ word_size + word_size * k = omega arith in
    let new : List ℕ = bytes_of word_size v in
    ap (λ a. words_in (suc n) (put a word_size new bs)) at
    ∙ ap₂ ◌∷◌
    (word-before (word_size + word_size * k) word_size new bs (omega arith) (omega arith))
    (ap (words_in n) (drop-put-past word_size (word_size * k) word_size new bs (omega arith))
    ∙ words_in-put n (drop word_size bs) k v (more-words n bs room) (omega arith) fit)

------------------------------------------------------------------------
-- memories

-- so many words of 32 bits as a memory has
pub record WordsFit (m : Memory) : Type 0 where
  pub marks : fits32 m.fair ≡ true
  pub left_size : length m.left ≡ port_limit
  pub left_fit : all? fits32 m.left ≡ true
  pub given_size : length m.given ≡ flow_count
  pub given_fit : all? fits32 m.given ≡ true

pub length-memory_bytes : (m : Memory) → length m.left ≡ port_limit → length m.given ≡ flow_count
    → length (memory_bytes m) ≡ memory_size
unfolding memory_bytes
length-memory_bytes m left given =
    simp (length-append, length-bytes_of, length-words_bytes) (omega arith)

-- words behind a first part, read back
words-behind : (p ws rest : List ℕ) (d n : ℕ) → length p ≡ d → length ws ≡ n → all? fits32 ws ≡ true
    → words_in n (drop d (p ++ (words_bytes ws ++ rest))) ≡ ws
words-behind p ws rest d n size many fit =
    ap (words_in n) (drop_at p (words_bytes ws ++ rest) d size)
    ∙ ap (λ k. words_in k (words_bytes ws ++ rest)) (sym many)
    ∙ words_in-words_bytes ws rest fit

module _ (m : Memory) (h : WordsFit m) where
  left_back : words_in port_limit (drop left_start (memory_bytes m)) ≡ m.left
  unfolding memory_bytes
  left_back =
      words-behind (bytes_of word_size m.fair) m.left (words_bytes m.given) left_start port_limit
      (length-bytes_of word_size m.fair) h.left_size h.left_fit

  given_back : words_in flow_count (drop given_start (memory_bytes m)) ≡ m.given
  unfolding memory_bytes
  given_back =
      let front : List ℕ = bytes_of word_size m.fair ++ words_bytes m.left in
      let size : length front ≡ given_start =
      simp (length-append, length-bytes_of, length-words_bytes) (omega (arith, h.left_size)) in
      let parts : bytes_of word_size m.fair ++ (words_bytes m.left ++ words_bytes m.given)
      ≡ front ++ (words_bytes m.given ++ []) =
      sym (append_assoc (bytes_of word_size m.fair) (words_bytes m.left) (words_bytes m.given))
      ∙ ap (λ l. front ++ l) (sym (append-nil (words_bytes m.given))) in
      ap (λ l. words_in flow_count (drop given_start l)) parts
      ∙ words-behind front m.given [] given_start flow_count size h.given_size h.given_fit

  marks-back : word (memory_bytes m) 0 ≡ m.fair
  unfolding memory_bytes
  marks-back = word-here m.fair (words_bytes m.left ++ words_bytes m.given) h.marks

  pub memory_of-memory_bytes : memory_of (memory_bytes m) ≡ m
  unfolding memory_of
  memory_of-memory_bytes = λ k. record { fair = marks-back k; left = left_back k; given = given_back k }

-- any bytes of that length are a memory's
module _ (bs : List ℕ) (h : bytes? bs ≡ true) (size : length bs ≡ memory_size) where
  left-room : word_size * port_limit ≤ length (drop left_start bs)
  left-room = simp length-drop (omega arith)

  given-room : word_size * flow_count ≤ length (drop given_start bs)
  given-room = simp length-drop (omega arith)

  pub memory_of-fits : WordsFit (memory_of bs)
  unfolding memory_of
  memory_of-fits =
      record {
        marks = word_fits bs 0 h (omega arith);
        left_size = length-words_in port_limit (drop left_start bs);
        left_fit = words_in-fits port_limit (drop left_start bs) (bytes?-drop left_start bs h) left-room;
        given_size = length-words_in flow_count (drop given_start bs);
        given_fit = words_in-fits flow_count (drop given_start bs) (bytes?-drop given_start bs h) given-room;
      }

  pub memory_bytes-memory_of : memory_bytes (memory_of bs) ≡ bs
  unfolding memory_bytes memory_of word
  memory_bytes-memory_of =
      let end : length (drop given_start bs) ≤ word_size * flow_count = simp length-drop (omega arith) in
      let givens : words_bytes (words_in flow_count (drop given_start bs)) ≡ drop given_start bs =
      sym (append-nil (words_bytes (words_in flow_count (drop given_start bs))))
      ∙ words_bytes-words_in flow_count (drop given_start bs) [] (bytes?-drop given_start bs h) given-room
      (sym (drop_of_length-le (drop given_start bs) end)) in
      bytes_of-at word_size 0 bs h (omega arith) _
      (words_bytes-words_in port_limit (drop left_start bs) _ (bytes?-drop left_start bs h) left-room
      (givens ∙ sym (drop-drop (word_size * port_limit) left_start bs)))

-- the memory after a word was put: the rank that last left an output, or the last one given to a flow
module _ (bs : List ℕ) (size : length bs ≡ memory_size) (k v : ℕ) (fit : fits32 v ≡ true) where
  module _ (less : k < port_limit) where
    left-put : words_in port_limit (drop left_start (put (left_start + word_size * k) word_size (bytes_of word_size v) bs))
        ≡ set (words_in port_limit (drop left_start bs)) k v
    left-put =
        ap (words_in port_limit) (drop-put-past left_start (word_size * k) word_size (bytes_of word_size v) bs (omega arith))
        ∙ words_in-put port_limit (drop left_start bs) k v (simp length-drop (omega arith)) less fit

    given-kept : drop given_start (put (left_start + word_size * k) word_size (bytes_of word_size v) bs) ≡ drop given_start bs
    given-kept =
        drop-put (left_start + word_size * k) word_size (bytes_of word_size v) bs (length-bytes_of word_size v) (omega arith)
        given_start (omega arith)

    pub memory_of-left : memory_of (put (left_start + word_size * k) word_size (bytes_of word_size v) bs)
        ≡ record { fair = (memory_of bs).fair; left = set (memory_of bs).left k v; given = (memory_of bs).given }
    unfolding memory_of
    memory_of-left =
        let marks =
        word-before (left_start + word_size * k) word_size (bytes_of word_size v) bs (omega arith) (omega arith) in
        λ i.
        record { fair = marks i; left = left-put i; given = words_in flow_count (given-kept i) }

  module _ (less : k < flow_count) where
    left-kept : words_in port_limit (drop left_start (put (given_start + word_size * k) word_size (bytes_of word_size v) bs))
        ≡ words_in port_limit (drop left_start bs)
    left-kept =
        let behind : ℕ = word_size * port_limit + word_size * k in
        let at : given_start + word_size * k ≡ left_start + behind = omega arith in
        ap (λ a. words_in port_limit (drop left_start (put a word_size (bytes_of word_size v) bs))) at
        ∙ ap (words_in port_limit) (drop-put-past left_start behind word_size (bytes_of word_size v) bs (omega arith))
        ∙ words_in-before behind word_size (bytes_of word_size v) (drop left_start bs) (simp length-drop (omega arith))
        port_limit (omega arith)

    given-put : words_in flow_count (drop given_start (put (given_start + word_size * k) word_size (bytes_of word_size v) bs))
        ≡ set (words_in flow_count (drop given_start bs)) k v
    given-put =
        ap (words_in flow_count) (drop-put-past given_start (word_size * k) word_size (bytes_of word_size v) bs (omega arith))
        ∙ words_in-put flow_count (drop given_start bs) k v (simp length-drop (omega arith)) less fit

    pub memory_of-given : memory_of (put (given_start + word_size * k) word_size (bytes_of word_size v) bs)
        ≡ record { fair = (memory_of bs).fair; left = (memory_of bs).left; given = set (memory_of bs).given k v }
    unfolding memory_of
    memory_of-given =
        let marks =
        word-before (given_start + word_size * k) word_size (bytes_of word_size v) bs (omega arith) (omega arith) in
        λ i.
        record { fair = marks i; left = left-kept i; given = given-put i }

-- no rank is remembered: zeros behind the marks
zero-words : (n m : ℕ)
    → words_bytes (replicate n 0) ++ words_bytes (replicate m 0) ≡ replicate (word_size * n + word_size * m) 0
zero-words n m =
    ap₂ ◌++◌ (words_bytes-zeros n) (words_bytes-zeros m)
    ∙ replicate-append-replicate (word_size * n) (word_size * m) 0

pub memory_bytes-none : (marks : ℕ)
    → memory_bytes (no_memory marks)
    ≡ bytes_of word_size marks ++ replicate (word_size * port_limit + word_size * flow_count) 0
unfolding memory_bytes no_memory
memory_bytes-none marks = ap (λ l. bytes_of word_size marks ++ l) (zero-words port_limit flow_count)
