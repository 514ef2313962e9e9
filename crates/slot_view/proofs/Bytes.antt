-- Where the records of a state stand among the bytes of its table.
--     sections_bytes-drop     the bytes of the sections from one on
--     encode-from            the bytes of the table from a section on
--     record_at-encode        the record of an entry
--     encode-rest            behind the entries of a section come zeros and the next section
use Prim.Native.Nat.{ℕ, zero, suc, ◌+◌, ◌*◌, ◌-◌, ◌≤◌, ◌<◌}
use native.Mathlib.Nat.{zero-add, suc-add}
use native.Mathlib.Omega.{arith}
use mathlib.Core.Path.{◌≡◌, refl, sym, ◌∙◌, ap, ap₂}
use mathlib.Core.List.{List, [], ◌∷◌, ◌++◌, append_assoc}
use lib.ListN.{length, take, drop, get_or, replicate}
use lib.Seq.{take_at, drop_at, drop-drop, drop-nil, drop-cons, drop-length, get_or-drop}
use Rattle.cell.specs.Limits.{section_room, port_limit}
use Rattle.model.specs.State.{Entry, Switch}
use Rattle.model.proofs.Numbering.{Short}
use Rattle.layout.specs.Table.{header_size, entry_size, section_size, entry_bytes, entries_bytes, section_bytes, sections_bytes}
use Rattle.layout.specs.Table.{encode}
use Rattle.layout.specs.Code.{record_start, record_at}
use Rattle.layout.proofs.Table.{length-entry_bytes, length-section_bytes, encode-sections}

short-tail : (es : List Entry) (sections : List (List Entry)) → Short (es ∷ sections) → Short sections
short-tail es sections short k = short (suc k)

pub sections_bytes-drop : (i m : ℕ) (sections : List (List Entry)) → Short sections
    → drop (section_size * i) (sections_bytes (i + m) sections) ≡ sections_bytes m (drop i sections)
unfolding sections_bytes
sections_bytes-drop zero m sections short = ap (λ n. sections_bytes n sections) (zero-add m)
sections_bytes-drop (suc i) m [] short =
    let next : section_size * suc i ≡ section_size + section_size * i = omega arith in
    ap₂ (λ n k. drop n (sections_bytes k [])) next (suc-add i m)
    ∙ sym (drop-drop (section_size * i) section_size (section_bytes [] ++ sections_bytes (i + m) []))
    ∙ ap (drop (section_size * i))
    (drop_at (section_bytes []) (sections_bytes (i + m) []) section_size (length-section_bytes [] (omega arith)))
    ∙ sections_bytes-drop i m [] short
    ∙ ap (sections_bytes m) (drop-nil i)
sections_bytes-drop (suc i) m (es ∷ sections) short =
    let next : section_size * suc i ≡ section_size + section_size * i = omega arith in
    ap₂ (λ n k. drop n (sections_bytes k (es ∷ sections))) next (suc-add i m)
    ∙ sym (drop-drop (section_size * i) section_size (section_bytes es ++ sections_bytes (i + m) sections))
    ∙ ap (drop (section_size * i))
    (drop_at (section_bytes es) (sections_bytes (i + m) sections) section_size (length-section_bytes es (short 0)))
    ∙ sections_bytes-drop i m sections (short-tail es sections short)

-- the bytes of the table from a section on
pub encode-from : (s : Switch) (i m : ℕ) → Short s.sections → i + m ≡ port_limit
    → drop (header_size + section_size * i) (encode s) ≡ sections_bytes m (drop i s.sections)
encode-from s i m short sum =
    sym (drop-drop (section_size * i) header_size (encode s))
    ∙ ap (drop (section_size * i)) (encode-sections s ∙ ap (λ n. sections_bytes n s.sections) (sym sum))
    ∙ sections_bytes-drop i m s.sections short

sections_bytes-first : (m : ℕ) (sections : List (List Entry))
    → sections_bytes (suc m) sections ≡ section_bytes (get_or sections 0 []) ++ sections_bytes m (drop 1 sections)
unfolding sections_bytes
sections_bytes-first m [] = refl
sections_bytes-first m (es ∷ sections) = refl

-- a section and what follows it
pub encode-section : (s : Switch) (i : ℕ) → Short s.sections → i < port_limit
    → drop (header_size + section_size * i) (encode s)
    ≡ section_bytes (get_or s.sections i []) ++ drop (header_size + section_size * (i + 1)) (encode s)
encode-section s i short h =
    let m : ℕ = port_limit - (i + 1) in
    let here : i + suc m ≡ port_limit = omega arith in
    let next : i + 1 + m ≡ port_limit = omega arith in
    let at : i + 0 ≡ i = omega arith in
    encode-from s i (suc m) short here
    ∙ sections_bytes-first m (drop i s.sections)
    ∙ ap₂ (λ es l. section_bytes es ++ sections_bytes m l)
    (get_or-drop i s.sections 0 [] ∙ ap (λ k. get_or s.sections k []) at)
    (drop-drop 1 i s.sections)
    ∙ ap (λ bs. section_bytes (get_or s.sections i []) ++ bs) (sym (encode-from s (i + 1) m short next))

-- the bytes of the entries from one on
entries_bytes-drop : (j : ℕ) (es : List Entry) (bs : List ℕ) → j ≤ length es
    → drop (entry_size * j) (entries_bytes es ++ bs) ≡ entries_bytes (drop j es) ++ bs
unfolding entries_bytes
entries_bytes-drop zero es bs h = refl
entries_bytes-drop (suc j) [] bs h = absurd (omega arith)
entries_bytes-drop (suc j) (e ∷ es) bs h =
    let next : entry_size * suc j ≡ entry_size + entry_size * j = omega arith in
    ap₂ drop next (append_assoc (entry_bytes e) (entries_bytes es) bs)
    ∙ sym (drop-drop (entry_size * j) entry_size (entry_bytes e ++ (entries_bytes es ++ bs)))
    ∙ ap (drop (entry_size * j)) (drop_at (entry_bytes e) (entries_bytes es ++ bs) entry_size (length-entry_bytes e))
    ∙ entries_bytes-drop j es bs (omega arith)

zeros : List Entry → List ℕ
zeros es = replicate (section_size - length (entries_bytes es)) 0

module _ (s : Switch) (i : ℕ) (short : Short s.sections) (port : i < port_limit) where
  section : List Entry
  section = get_or s.sections i []

  next : List ℕ
  next = drop (header_size + section_size * (i + 1)) (encode s)

  -- the bytes from an entry of a section on
  encode-entries : (j : ℕ) → j ≤ length section
      → drop (record_start (section_room * i + j)) (encode s) ≡ entries_bytes (drop j section) ++ (zeros section ++ next)
  unfolding section_bytes zeros section next
  encode-entries j h =
      let at : record_start (section_room * i + j) ≡ header_size + section_size * i + entry_size * j = omega arith in
      ap (λ n. drop n (encode s)) at
      ∙ sym (drop-drop (entry_size * j) (header_size + section_size * i) (encode s))
      ∙ ap (drop (entry_size * j))
      (encode-section s i short port ∙ append_assoc (entries_bytes section) (zeros section) next)
      ∙ entries_bytes-drop j section (zeros section ++ next) h

  -- behind the entries of a section come zeros and the next section
  pub encode-rest : drop (record_start (section_room * i + length (get_or s.sections i []))) (encode s)
      ≡ replicate (section_size - length (entries_bytes (get_or s.sections i []))) 0
      ++ drop (header_size + section_size * (i + 1)) (encode s)
  unfolding section zeros next entries_bytes
  encode-rest =
      encode-entries (length section) (omega arith)
      ∙ ap (λ es. entries_bytes es ++ (zeros section ++ next)) (drop-length section)

  -- the record of an entry
  pub record_at-encode : (j : ℕ) (e : Entry) → j < length (get_or s.sections i [])
      → record_at (encode s) (section_room * i + j) ≡ entry_bytes (get_or (get_or s.sections i []) j e)
  unfolding section record_at entries_bytes
  record_at-encode j e h =
      let x : Entry = get_or section j e in
      let rest : List ℕ = entries_bytes (drop (suc j) section) in
      ap (take entry_size)
      (encode-entries j (omega arith)
      ∙ ap (λ es. entries_bytes es ++ (zeros section ++ next)) (drop-cons section j e h)
      ∙ append_assoc (entry_bytes x) rest (zeros section ++ next))
      ∙ take_at (entry_bytes x) (rest ++ (zeros section ++ next)) entry_size (length-entry_bytes x)
