-- The reader of a line:
--     line_of-none, -some, -bad, -line      its answer, by what was read
--     read_line-missing, -behind            a line, by what follows its key
--     rest                                  the slice from a place
--     number-bad, -got, taken, bad-err      a line as a cursor has it
use Prim.Native.Nat.{ℕ, ◌+◌, ◌-◌, ◌≤◌}
use native.Mathlib.Omega.{arith}
use mathlib.Core.List.{List, ◌++◌}
use mathlib.Core.Option.{Option as Math, none, some, bind}
use mathlib.Core.Path.{◌≡◌, refl, sym, ap, ◌∙◌}
use lib.ListN.{length, take, drop, length-append, length-drop}
use lib.Seq.{take_all, drop_at}
use Rattle.trace.specs.declared.Key.{Key}
use Rattle.std.specs.Prelude.{Option, Some, None, Result, Ok, Err, ok_or}
use Rattle.trace_line_reader.specs.declared.Line.{Line}
use Rattle.trace.specs.Line.{key_text, line, after, read_line}
use Rattle.trace.specs.Reader.{from, got, bad_at, number}
use Rattle.trace_line_reader.specs.Reading.{line_of}
use Rattle.trace.proofs.Line.{after-exact, read_line-exact}
use Rattle.trace.proofs.Blocks.{number-some, number-none}
use Rattle.trace_line_reader.specs.Code.{read_body}
use Rattle.trace_line_reader.proofs.Numbers.{read_body-nil}

-- the rest of a text, by how much was read
pub drop-rest : (x rest t : List ℕ) → t ≡ x ++ rest
    → (rest ≡ drop (length t - length rest) t) × (length t - length rest ≤ length t)
drop-rest x rest t h =
    let l : length t ≡ length x + length rest = ap length h ∙ length-append x rest in
    let n : length x ≡ length t - length rest = omega arith in
    (sym (ap (drop (length t - length rest)) h ∙ drop_at x rest _ n), omega arith)

module _ (t : List ℕ) where
  pub line_of-none : {o : Math (ℕ × List ℕ)} → o ≡ none → line_of t o ≡ None
  unfolding line_of
  line_of-none h = rw (h, line_of)

  pub line_of-some : {o : Math (ℕ × List ℕ)} {n i : ℕ} → o ≡ some (n, drop i t) → i ≤ length t
      → line_of t o ≡ Some (record { number = n; length = i })
  unfolding line_of
  line_of-some {n} {i} h l =
      let e : length t - length (drop i t) ≡ i = simp length-drop (omega arith) in
      rw (h, line_of) (ap (λ j. Some (record { number = n; length = j })) e)

  pub line_of-bad : (o : Math (ℕ × List ℕ)) → line_of t o ≡ None → o ≡ none
  unfolding line_of
  line_of-bad none h = refl
  line_of-bad (some s) h = cc

  -- an x before the text that is left
  pub line_of-line : (o : Math (ℕ × List ℕ)) → ((s : ℕ × List ℕ) → o ≡ some s → (x : List ℕ) × (t ≡ x ++ s.1))
      → {l : Line} → line_of t o ≡ Some l → (o ≡ some (l.number, drop l.length t)) × (l.length ≤ length t)
  unfolding line_of
  line_of-line none e {l} h =
      let z : ◌≡◌ {A = ℕ} 0 1 = cc in
      absurd (omega arith)
  line_of-line (some s) e {l} h =
      let f : record { number = s.0; length = length t - length s.1 } ≡ l = cc in
      let (x, g) = e s refl in
      let (r, w) = drop-rest x s.1 t g in
      rw (← f) (ap (λ u. some (s.0, u)) r, w)

-- a line is its key and what stands behind it
module _ (k : Key) (t : List ℕ) where
  pub read_line-missing : after (key_text k) t ≡ none → read_line k t ≡ none
  unfolding read_line bind
  read_line-missing h = rw h

  module _ {u : List ℕ} (h : after (key_text k) t ≡ some u) where
    pub read_line-behind : read_line k t ≡ read_body u
    unfolding read_line read_body bind
    read_line-behind = rw h

-- a text that ends with its key, or before it
pub read_line-short : (k : Key) (t : List ℕ) → length t ≤ length (key_text k) → read_line k t ≡ none
read_line-short k t h = go (after (key_text k) t) refl
  where
    go : (o : Math (List ℕ)) → after (key_text k) t ≡ o → read_line k t ≡ none
    go none e = read_line-missing k t e
    go (some u) e =
        let b = simp length-append at (ap length (after-exact (key_text k) t u e)) in
        read_line-behind k t e ∙ read_body-nil u (omega (arith, b))

-- the slice from a place is the rest of the text
abbrev pub rest : List ℕ → ℕ → List ℕ
rest t i = take (length t - i) (drop i t)

pub rest-drop : (t : List ℕ) (i : ℕ) → rest t i ≡ drop i t
rest-drop t i =
    let h : length (drop i t) ≤ length t - i = simp length-drop (omega arith) in
    take_all (length t - i) (drop i t) h

pub length_rest : (t : List ℕ) (i : ℕ) → length (rest t i) ≡ length t - i
length_rest t i = ap length (rest-drop t i) ∙ length-drop i t

-- A line as a cursor has it, by what the reader of the line answered.
module _ (k : Key) (l : ℕ) (t : List ℕ) {r : Option Line} (e : r ≡ line_of t (read_line k t)) where
  pub number-bad : r ≡ None → number k (from l t) ≡ bad_at l
  number-bad h = number-none k (from l t) (line_of-bad t (read_line k t) (sym e ∙ h))

  read : {x : Line} → r ≡ Some x → (read_line k t ≡ some (x.number, drop x.length t)) × (x.length ≤ length t)
  read h =
      line_of-line t (read_line k t) (λ s f. (line k s.0, (read_line-exact k t s.0 s.1 f).0)) (sym e ∙ h)

  pub number-got : {x : Line} → r ≡ Some x → number k (from l t) ≡ got x.number (from (l + 1) (drop x.length t))
  number-got h = number-some k (from l t) (read h).0

  pub number-within : {x : Line} → r ≡ Some x → x.length ≤ length t
  number-within h = (read h).1

-- A line was read: where, and what is left.
pub record Taken (k : Key) (l : ℕ) (t : List ℕ) (x : Line) : Type 0 where
  pub read : number k (from l t) ≡ got x.number (from (l + 1) (rest t x.length))
  pub within : x.length ≤ length t
  pub left : x.length + length (rest t x.length) ≡ length t

pub taken : (k : Key) (l : ℕ) (t : List ℕ) {r : Option Line} {x : Line} → r ≡ line_of t (read_line k t) → r ≡ Some x
    → Taken k l t x
taken k l t {r} {x} e h =
    let w : x.length ≤ length t = number-within k l t e h in record {
      read = rw (rest-drop t x.length) (number-got k l t e h);
      within = w;
      left = omega (arith, length_rest t x.length);
    }

-- The same, where a line that is missing is an error.
module _ {E : Type 0} (k : Key) (l : ℕ) (t : List ℕ) (d : E) {r : Option Line} {o : Result Line E}
    (e : r ≡ line_of t (read_line k t)) (f : o ≡ ok_or r d) where
  some-ok : {x : Line} → o ≡ Ok x → r ≡ Some x
  some-ok {x} h = go r refl
    where
      go : (q : Option Line) → r ≡ q → r ≡ Some x
      go None g = cc (ap (λ q. ok_or q d) g)
      go (Some y) g =
          let z : y ≡ x = cc (ap (λ q. ok_or q d) g) in
          g ∙ ap Some z

  none-err : {y : E} → o ≡ Err y → (r ≡ None) × (y ≡ d)
  none-err {y} h = go r refl
    where
      go : (q : Option Line) → r ≡ q → (r ≡ None) × (y ≡ d)
      go None g = (g, cc (ap (λ q. ok_or q d) g))
      go (Some x) g = (cc (ap (λ q. ok_or q d) g), cc (ap (λ q. ok_or q d) g))

  pub taken-ok : {x : Line} → o ≡ Ok x → Taken k l t x
  taken-ok h = taken k l t e (some-ok h)

  pub bad-err : {y : E} → o ≡ Err y → (number k (from l t) ≡ bad_at l) × (y ≡ d)
  bad-err h = (number-bad k l t e (none-err h).0, (none-err h).1)
