-- The words are compared with the two that are known.
use Rattle.std.proofs.Common.{arith, ◌≡◌, ◌≢◌, ◌∙◌, sym, ℕ, Bool, true, false, List}
use Rattle.std.proofs.lemmas.Bool.Decides.{Decides-eqb}
use Rattle.std.proofs.lemmas.Slice.Eq.{slice_eq-Decides}
use Rattle.std.specs.Cmp.Lexicographic.{pointwise}
use lib.Dec.{eqb}
use Rattle.laws.proofs.Tests.{clash}
use Rattle.trace.specs.Ascii.{ascii}
use Rattle.player.proofs.Requests.{asks-help, asks-version, asks-other}
use Rattle.player.proofs.request_of.Goals as goal

-- what the comparison with a word tells
alike : {word lent text : List ℕ} {t : Bool} → t ≡ pointwise eqb word lent → lent ≡ text → t ≡ true → word ≡ text
alike e l h = (slice_eq-Decides Decides-eqb _ _ _ e).0 h ∙ l

apart : {word lent text : List ℕ} {t : Bool} → t ≡ pointwise eqb word lent → lent ≡ text → t ≡ false → word ≢ text
apart e l h = λ same. clash ((slice_eq-Decides Decides-eqb _ _ _ e).1 (same ∙ sym l)) h

pub returns-then-eq : goal.returns-then-eq
unfolding ascii
returns-then-eq c =
    asks-help c.args.words c.args.word.now (omega arith) (alike c.eq.ensures c.as_slice.ensures c.if-eq.true)

pub returns-then-eq-2 : goal.returns-then-eq-2
unfolding ascii
returns-then-eq-2 c =
    asks-version c.args.words c.args.word.now (omega arith) (apart c.eq.ensures c.as_slice.ensures c.if-eq.false)
    (alike c.eq-2.ensures c.as_slice-2.ensures c.if-eq-2.true)

pub returns : goal.returns
unfolding ascii
returns c =
    asks-other c.args.words c.args.word.now (omega arith) (apart c.eq.ensures c.as_slice.ensures c.if-eq.false)
    (apart c.eq-2.ensures c.as_slice-2.ensures c.if-eq-2.false)
