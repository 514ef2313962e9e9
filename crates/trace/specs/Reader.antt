-- Scope 7: reading a text, with every refusal and its line. A cursor is the text that is left and
-- the number of its first line; a reader gives what it read and the cursor after it, or the line at fault.
use Rattle.std.specs.Prelude.{ℕ, zero, suc, ◌+◌, Bool, true, false, cond, List, [], ◌∷◌, length, eqb}
use Rattle.std.proofs.Math.Option.{none, some}
use Rattle.cell.specs.declared.Arrival.{Arrival}
use Rattle.cell.specs.declared.Refusal.{Refusal}
use Rattle.cell.specs.declared.Refusal.TheVariants.{BadSize, BadLine}
use Rattle.cell.specs.Limits.{ports_in_range}
use Rattle.trace.specs.declared.Key.{Key}
use Rattle.trace.specs.declared.Key.TheVariants.{Ports, First, Slot, In, Out, Flow, Rank, Tag, End}
use Rattle.trace.specs.Line.{key_text, after, read_line}
use Rattle.trace.specs.Contents.{Contents, block_limit}

pub record Cursor : Type 0 where
  pub line : ℕ
  pub text : List ℕ

-- a text and the number of its first line
abbrev pub from : ℕ → List ℕ → Cursor
from l t = record { line = l; text = t }

pub data Read (A : Type 0) : Type 0 where
  got : A → Cursor → Read A
  bad_at : ℕ → Read A

abbrev pub Reader : Type 0 → Type 0
Reader A = Cursor → Read A

unfoldable pub give : {A : Type 0} → A → Reader A
give a c = got a c

unfoldable pub ◌>>=◌ : {A B : Type 0} → Reader A → (A → Reader B) → Reader B
◌>>=◌ m f c = elim (m c) [ got a d ↦ f a d | bad_at l ↦ bad_at l ]

-- the line with this key: its number; a line that is not the expected key and number is refused by its line number
unfoldable pub number : Key → Reader ℕ
number k c =
    elim (read_line k c.text) [ none ↦ bad_at c.line | some s ↦ got s.0 (record { line = c.line + 1; text = s.1 }) ]

-- the line with this key and this very number
unfoldable pub exactly : Key → ℕ → Reader ℕ
exactly k n c = elim (number k c) [ got m d ↦ cond (eqb m n) (got m d) (bad_at c.line) | bad_at l ↦ bad_at l ]

unfoldable pub begins : Key → Cursor → Bool
begins k c = elim (after (key_text k) c.text) [ none ↦ false | some t ↦ true ]

-- for each arrival `in`, `out`, `flow`, `rank`, `tag`
unfoldable pub arrival : Reader Arrival
arrival = do
  i ← number In
  o ← number Out
  f ← number Flow
  r ← number Rank
  t ← number Tag
  give (record { input = i; output = o; flow = f; rank = r; tag = t })

-- the arrivals of a block, at most `most` of them: they end before the first line that does not begin `in=`
unfoldable pub arrivals : ℕ → Reader (List Arrival)
arrivals zero c = give [] c
arrivals (suc most) c =
    elim (begins In c) [ false ↦ give [] c | true ↦ (do a ← arrival; rs ← arrivals most; give (a ∷ rs)) c ]

-- a block is its `slot` line, with the clock's number, and its arrivals
unfoldable pub block : ℕ → Reader (List Arrival)
block clock = do
  _ ← exactly Slot clock
  arrivals block_limit

-- What stands after the header or a block.
pub data Next : Type 0 where
  slot_ahead : List Arrival → Cursor → Next
  finished : Next
  faulty : ℕ → Next

-- nothing may follow the line of `end`
unfoldable pub after_end : Cursor → Next
after_end c = elim c.text [ [] ↦ finished | b ∷ t ↦ faulty c.line ]

-- `end` with the clock's number and nothing after it, or else a block
unfoldable pub next : ℕ → Cursor → Next
next clock c =
    elim (begins End c) [
      | true ↦ elim (exactly End clock c) [ got n d ↦ after_end d | bad_at l ↦ faulty l ]
      | false ↦ elim (block clock c) [ got rs d ↦ slot_ahead rs d | bad_at l ↦ faulty l ]
    ]

-- What stands at the start of a text.
pub data Header : Type 0 where
  opened : ℕ → ℕ → Cursor → Header
  refused_at : Refusal → ℕ → Header

-- first `ports`, then `first`; a number of ports out of range is refused before the line of `first` is looked at
unfoldable pub header : List ℕ → Header
header t =
    elim (number Ports (from 1 t)) [
      | bad_at l ↦ refused_at BadLine l
      | got n c ↦ elim (ports_in_range n) [
        | false ↦ refused_at BadSize 1
        | true ↦ elim (number First c) [ bad_at l ↦ refused_at BadLine l | got first d ↦ opened n first d ]
      ]
    ]

-- What reading a whole text by the grammar alone gives.
pub data Outcome : Type 0 where
  accepted : Contents → Outcome
  refused : Refusal → ℕ → Outcome

unfoldable pub with_slot : List Arrival → Read (List (List Arrival)) → Read (List (List Arrival))
with_slot rs (got slots c) = got (rs ∷ slots) c
with_slot rs (bad_at l) = bad_at l

-- the blocks and `end`; there are at most as many lines as bytes, and a text that stops early is refused at the line
-- that is missing
unfoldable pub blocks : ℕ → ℕ → Cursor → Read (List (List Arrival))
blocks zero clock c = bad_at c.line
blocks (suc most) clock c =
    elim (next clock c) [
      | slot_ahead rs d ↦ with_slot rs (blocks most (clock + 1) d)
      | finished ↦ got [] c
      | faulty l ↦ bad_at l
    ]

unfoldable pub read : List ℕ → Outcome
read t =
    elim (header t) [
      | refused_at r l ↦ refused r l
      | opened n first c ↦ elim (blocks (length c.text) first c) [
        | bad_at l ↦ refused BadLine l
        | got slots d ↦ accepted (record { ports = n; first = first; slots = slots })
      ]
    ]
