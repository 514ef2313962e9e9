-- The reader accepts exactly what the writer makes:
--     blocks-text, blocks-exact   the slots of a text and its `end`
--     header-text, header-exact   its `ports` and `first`
--     read-text, read-exact       whole texts
--     read-unique                 contents have one text
--     write_read, read-write      the writer and the reader undo one another
use Prim.Native.Nat.{ℕ, zero, suc, ◌+◌, ◌≤◌, ◌<◌}
use native.Mathlib.Omega.{arith}
use mathlib.Core.Bool.{Bool, true, false}
use mathlib.Core.List.{List, [], ◌∷◌, ◌++◌, append-nil}
use mathlib.Core.Option.{none}
use mathlib.Core.Path.{◌≡◌, refl, sym, ap, ◌∙◌}
use borrow.Author.Tests.{leb-true, le-leb}
use lib.Dec.{leb}
use lib.ListN.{length, length-append}
use Rattle.laws.specs.Lists.{all?}
use Rattle.laws.proofs.Tests.{and_i, and_l, and_r}
use Rattle.laws.proofs.Lists.{all?-nil}
use Rattle.cell.specs.declared.Arrival.{Arrival}
use Rattle.cell.specs.declared.Refusal.{Refusal}
use Rattle.cell.specs.declared.Refusal.TheVariants.{BadSize, BadLine, ShortBuffer}
use Rattle.cell.specs.Limits.{fits32, ports_in_range, port_limit, clock_end}
use Rattle.trace.specs.declared.Key.TheVariants.{Ports, First, Slot, In, End}
use Rattle.trace.specs.Line.{key_text, line, after}
use Rattle.trace.specs.Contents.{Contents, arrivals_text, slots_text, text, block_fits, has_text}
use Rattle.trace.specs.Contents.{wrote, turned_back, write}
use Rattle.trace.specs.Reader.{Cursor, Read, got, bad_at, number, Next, slot_ahead, finished, faulty, next}
use Rattle.trace.specs.Reader.{Header, opened, refused_at, header, with_slot, blocks, accepted, refused, read}
use Rattle.trace.proofs.Tests.{all?-both, all?-head, all?-tail, fits32-i, fits32-e}
use Rattle.trace.proofs.Line.{after-in-slot, after-in-end, length-line}
use Rattle.trace.proofs.Blocks.{at, got-bad, number-line, number-exact, next-slot, next-end, Stands, next-exact}

-- blocks

pub blocks_end : (most clock : ℕ) (c : Cursor) → next clock c ≡ finished → blocks (suc most) clock c ≡ got [] c
unfolding blocks
blocks_end most clock c h = rw (h, blocks)

pub blocks-slot : (most clock : ℕ) (c : Cursor) {rs : List Arrival} {d : Cursor} → next clock c ≡ slot_ahead rs d
    → blocks (suc most) clock c ≡ with_slot rs (blocks most (clock + 1) d)
unfolding blocks
blocks-slot most clock c h = rw (h, blocks)

pub blocks-fault : (most clock : ℕ) (c : Cursor) {l : ℕ} → next clock c ≡ faulty l → blocks (suc most) clock c ≡ bad_at l
unfolding blocks
blocks-fault most clock c h = rw (h, blocks)

-- what follows a block does not begin `in=`
after-in-slots : (clock : ℕ) (slots : List (List Arrival)) → after (key_text In) (slots_text clock slots) ≡ none
unfolding slots_text
after-in-slots clock [] = rw (← (append-nil (line End clock))) (after-in-end clock [])
after-in-slots clock (rs ∷ slots) = after-in-slot clock (arrivals_text rs ++ slots_text (clock + 1) slots)

-- there are more bytes than slots
length-slots_text : (clock : ℕ) (slots : List (List Arrival)) → length slots < length (slots_text clock slots)
unfolding slots_text
length-slots_text clock [] = length-line End clock
length-slots_text clock (rs ∷ slots) =
    let h : 0 < length (line Slot clock) = length-line Slot clock in
    let k : length slots < length (slots_text (clock + 1) slots) = length-slots_text (clock + 1) slots in
    simp length-append (omega arith)

pub blocks-text : (slots : List (List Arrival)) (most clock : ℕ) → length slots < most
    → clock + length slots ≤ clock_end → all? block_fits slots ≡ true
    → (l : ℕ) → (d : Cursor) × (blocks most clock (at l (slots_text clock slots)) ≡ got slots d)
unfolding slots_text with_slot
blocks-text slots zero clock h b f l = absurd (omega arith)
blocks-text [] (suc most) clock h b f l =
    let i : clock ≤ clock_end = omega arith in
    (at l (line End clock), blocks_end most clock (at l (line End clock)) (next-end clock (fits32-i clock i) l))
blocks-text (rs ∷ slots) (suc most) clock h b f l =
    let t : List ℕ = slots_text (clock + 1) slots in
    let i : clock ≤ clock_end = omega arith in
    let m : length slots < most = omega arith in
    let n : clock + 1 + length slots ≤ clock_end = omega arith in
    let g : block_fits rs ≡ true = all?-head block_fits rs slots f in
    let (k, p) = next-slot clock rs t (fits32-i clock i) g (after-in-slots (clock + 1) slots) l in
    let (d, q) = blocks-text slots most (clock + 1) m n (all?-tail block_fits rs slots f) k in
    (d, blocks-slot most clock (at l (line Slot clock ++ (arrivals_text rs ++ t))) p ∙ ap (with_slot rs) q)

with_slot-exact : {P : Type 0} (rs : List Arrival) (r : Read (List (List Arrival)))
    {slots : List (List Arrival)} {d : Cursor}
    → with_slot rs r ≡ got slots d → ((s : List (List Arrival)) (e : Cursor) → r ≡ got s e → rs ∷ s ≡ slots → P) → P
unfolding with_slot
with_slot-exact rs (got s e) h k = k s e refl (cc)
with_slot-exact rs (bad_at l) h k = got-bad h

-- What a reader of the blocks saw where it was content.
abbrev pub Slots : ℕ → Cursor → List (List Arrival) → Type 0
Slots clock c slots =
    (c.text ≡ slots_text clock slots) × (clock + length slots ≤ clock_end) × (all? block_fits slots ≡ true)

pub blocks-exact : (most clock : ℕ) (c : Cursor) (slots : List (List Arrival)) (d : Cursor)
    → blocks most clock c ≡ got slots d → Slots clock c slots
unfolding slots_text blocks
blocks-exact zero clock c slots d h = got-bad h
blocks-exact (suc most) clock c slots d h = go (next clock c) refl (next-exact clock c) (blocks-exact most (clock + 1))
  where
    go : (n : Next) → next clock c ≡ n → Stands clock c (next clock c)
        → ((e : Cursor) (s : List (List Arrival)) (f : Cursor) → blocks most (clock + 1) e ≡ got s f
        → Slots (clock + 1) e s)
        → Slots clock c slots
    go (slot_ahead rs e) n stands exact =
        with_slot-exact rs (blocks most (clock + 1) e) (sym (blocks-slot most clock c n) ∙ h) λ s f p q.
        let (i, j) = rw n at stands in
        let (t, b, g) = exact e s f p in
        rw (← q) (i ∙ ap (λ x. line Slot clock ++ (arrivals_text rs ++ x)) t, omega arith, all?-both block_fits rs s j g)
    go finished n stands exact =
        let (i, j) = rw n at stands in
        let k : got [] c ≡ got slots d = sym (blocks_end most clock c n) ∙ h in
        let q : [] ≡ slots = cc in
        let m : clock ≤ clock_end = fits32-e clock j in
        rw (← q) (i, omega arith, all?-nil block_fits)
    go (faulty l) n stands exact = got-bad (sym (blocks-fault most clock c n) ∙ h)

-- the header

ports_in_range-fits32 : (n : ℕ) → ports_in_range n ≡ true → fits32 n ≡ true
unfolding ports_in_range
ports_in_range-fits32 n h =
    let k : n ≤ port_limit = leb-true n port_limit (and_r (leb 1 n) (leb n port_limit) h) in
    let l : n ≤ clock_end = omega arith in
    fits32-i n l

pub header-bad-ports : (t : List ℕ) {l : ℕ} → number Ports (at 1 t) ≡ bad_at l → header t ≡ refused_at BadLine l
unfolding header
header-bad-ports t h = rw (h, header)

pub header-bad-size : (t : List ℕ) {n : ℕ} {c : Cursor} → number Ports (at 1 t) ≡ got n c → ports_in_range n ≡ false
    → header t ≡ refused_at BadSize 1
unfolding header
header-bad-size t h r = rw (h, r, header)

pub header-bad-first : (t : List ℕ) {n : ℕ} {c : Cursor} {l : ℕ} → number Ports (at 1 t) ≡ got n c
    → ports_in_range n ≡ true → number First c ≡ bad_at l → header t ≡ refused_at BadLine l
unfolding header
header-bad-first t h r f = rw (h, r, f, header)

pub header-opened : (t : List ℕ) {n first : ℕ} {c d : Cursor} → number Ports (at 1 t) ≡ got n c → ports_in_range n ≡ true
    → number First c ≡ got first d → header t ≡ opened n first d
unfolding header
header-opened t h r f = rw (h, r, f, header)

pub header-text : (n first : ℕ) (rest : List ℕ) → ports_in_range n ≡ true → fits32 first ≡ true
    → (k : ℕ) × (header (line Ports n ++ (line First first ++ rest)) ≡ opened n first (at k rest))
header-text n first rest r f =
    let t : List ℕ = line First first ++ rest in
    let (k, p) = (number-line Ports n (ports_in_range-fits32 n r)).before t 1 in
    let (j, q) = (number-line First first f).before rest k in
    (j, header-opened (line Ports n ++ t) p r q)

-- What a reader of the header saw, by its answer.
abbrev pub Opens : List ℕ → Header → Type 0
Opens t (opened n first d) = (ports_in_range n ≡ true) × (t ≡ line Ports n ++ (line First first ++ d.text))
Opens t (refused_at r l) = Unit

pub header-exact : (t : List ℕ) → Opens t (header t)
header-exact t = go (number Ports (at 1 t)) refl
  where
    within : (n : ℕ) (c : Cursor) → number Ports (at 1 t) ≡ got n c → (b : Bool) → ports_in_range n ≡ b
        → (r : Read ℕ) → number First c ≡ r → Opens t (header t)
    within n c p false b r q = rw (header-bad-size t p b) tt
    within n c p true b (bad_at l) q = rw (header-bad-first t p b q) tt
    within n c p true b (got first d) q =
        let (i, j) = number-exact Ports (at 1 t) n c p in
        let (k, m) = number-exact First c first d q in
        rw (header-opened t p b q) (b, i ∙ ap (λ x. line Ports n ++ x) k)

    go : (r : Read ℕ) → number Ports (at 1 t) ≡ r → Opens t (header t)
    go (bad_at l) p = rw (header-bad-ports t p) tt
    go (got n c) p = within n c p (ports_in_range n) refl (number First c) refl

-- whole texts

pub has_text-i : (c : Contents) → c.first + length c.slots ≤ clock_end → all? block_fits c.slots ≡ true
    → has_text c ≡ true
unfolding has_text
has_text-i c h k = and_i _ _ (le-leb _ _ h) k

pub has_text-e : (c : Contents) → has_text c ≡ true
    → (c.first + length c.slots ≤ clock_end) × (all? block_fits c.slots ≡ true)
unfolding has_text
has_text-e c h =
    let b : Bool = leb (c.first + length c.slots) clock_end in
    (leb-true _ _ (and_l b (all? block_fits c.slots) h), and_r b (all? block_fits c.slots) h)

pub read-refused : (t : List ℕ) {r : Refusal} {l : ℕ} → header t ≡ refused_at r l → read t ≡ refused r l
unfolding read
read-refused t h = rw (h, read)

pub read-bad : (t : List ℕ) {n first l : ℕ} {c : Cursor} → header t ≡ opened n first c
    → blocks (length c.text) first c ≡ bad_at l → read t ≡ refused BadLine l
unfolding read
read-bad t h k = rw (h, k, read)

pub read-accepted : (t : List ℕ) {n first : ℕ} {c : Cursor} {slots : List (List Arrival)} {d : Cursor}
    → header t ≡ opened n first c → blocks (length c.text) first c ≡ got slots d
    → read t ≡ accepted (record { ports = n; first = first; slots = slots })
unfolding read
read-accepted t h k = rw (h, k, read)

-- the text of contents is read back
pub read-text : (c : Contents) → ports_in_range c.ports ≡ true → has_text c ≡ true → read (text c) ≡ accepted c
unfolding text
read-text c r h =
    let (b, f) = has_text-e c h in
    let i : c.first ≤ clock_end = omega arith in
    let t : List ℕ = slots_text c.first c.slots in
    let (k, p) = header-text c.ports c.first t r (fits32-i c.first i) in
    let (d, q) = blocks-text c.slots (length t) c.first (length-slots_text c.first c.slots) b f k in
    read-accepted (line Ports c.ports ++ (line First c.first ++ t)) p q

refused-accepted : {r : Refusal} {l : ℕ} {c : Contents} {P : Type 0} → refused r l ≡ accepted c → P
refused-accepted e =
    let z : ◌≡◌ {A = ℕ} 0 1 = cc in
    absurd (omega arith)

-- a text that is accepted is the text of what was read, and those contents have one
pub read-exact : (t : List ℕ) (c : Contents) → read t ≡ accepted c
    → (ports_in_range c.ports ≡ true) × (has_text c ≡ true) × (t ≡ text c)
unfolding text
read-exact t c h = go (header t) refl (header-exact t)
  where
    slots : (n first : ℕ) (d : Cursor) → header t ≡ opened n first d → Opens t (opened n first d)
        → (r : Read (List (List Arrival))) → blocks (length d.text) first d ≡ r
        → (ports_in_range c.ports ≡ true) × (has_text c ≡ true) × (t ≡ text c)
    slots n first d p o (bad_at l) q = refused-accepted (sym (read-bad t p q) ∙ h)
    slots n first d p o (got s e) q =
        let (i, b, f) = blocks-exact (length d.text) first d s e q in
        let m : Contents = record { ports = n; first = first; slots = s } in
        let k : accepted m ≡ accepted c = sym (read-accepted t p q) ∙ h in
        let j : m ≡ c = cc in
        rw (← j) (o.0, has_text-i m b f, o.1 ∙ rw i)

    go : (k : Header) → header t ≡ k → Opens t (header t)
        → (ports_in_range c.ports ≡ true) × (has_text c ≡ true) × (t ≡ text c)
    go (opened n first d) k opens = slots n first d k (rw k at opens) (blocks (length d.text) first d) refl
    go (refused_at r l) k opens = refused-accepted (sym (read-refused t k) ∙ h)

-- no two texts have the same contents
pub read-unique : (t u : List ℕ) (c : Contents) → read t ≡ accepted c → read u ≡ accepted c → t ≡ u
read-unique t u c h k = (read-exact t c h).2 ∙ sym (read-exact u c k).2

-- the writer

turned_back-wrote : {r : Refusal} {t : List ℕ} {P : Type 0} → turned_back r ≡ wrote t → P
turned_back-wrote e =
    let z : ◌≡◌ {A = ℕ} 0 1 = cc in
    absurd (omega arith)

module _ (c : Contents) (room : ℕ) where
  pub write-bad-size : ports_in_range c.ports ≡ false → write c room ≡ turned_back BadSize
  unfolding write
  write-bad-size r = rw (r, write)

  pub write-bad-line : ports_in_range c.ports ≡ true → has_text c ≡ false → write c room ≡ turned_back BadLine
  unfolding write
  write-bad-line r h = rw (r, h, write)

  pub write-short : ports_in_range c.ports ≡ true → has_text c ≡ true → leb (length (text c)) room ≡ false
      → write c room ≡ turned_back ShortBuffer
  unfolding write
  write-short r h f = rw (r, h, f, write)

  pub write-fits : ports_in_range c.ports ≡ true → has_text c ≡ true → leb (length (text c)) room ≡ true
      → write c room ≡ wrote (text c)
  unfolding write
  write-fits r h f = rw (r, h, f, write)

  pub write-exact : (t : List ℕ) → write c room ≡ wrote t
      → (ports_in_range c.ports ≡ true) × (has_text c ≡ true) × (t ≡ text c)
  write-exact t w = go (ports_in_range c.ports) refl (has_text c) refl (leb (length (text c)) room) refl
    where
      go : (x : Bool) → ports_in_range c.ports ≡ x → (y : Bool) → has_text c ≡ y
          → (z : Bool) → leb (length (text c)) room ≡ z
          → (ports_in_range c.ports ≡ true) × (has_text c ≡ true) × (t ≡ text c)
      go false r y h z f = turned_back-wrote (sym (write-bad-size r) ∙ w)
      go true r false h z f = turned_back-wrote (sym (write-bad-line r h) ∙ w)
      go true r true h false f = turned_back-wrote (sym (write-short r h f) ∙ w)
      go true r true h true f = (r, h, cc (write-fits r h f))

-- what the writer wrote is read back
pub write_read : (c : Contents) (room : ℕ) (t : List ℕ) → write c room ≡ wrote t → read t ≡ accepted c
write_read c room t w =
    let (r, h, e) = write-exact c room t w in
    rw e (read-text c r h)

-- and what the reader accepts is written again, byte for byte, into as much room as it took
pub read-write : (t : List ℕ) (c : Contents) → read t ≡ accepted c → write c (length t) ≡ wrote t
read-write t c a =
    let (r, h, e) = read-exact t c a in
    let l : length (text c) ≤ length t = omega (arith, ap length e) in
    write-fits c (length t) r h (le-leb _ _ l) ∙ ap wrote (sym e)
