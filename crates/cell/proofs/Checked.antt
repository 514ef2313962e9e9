-- What a check came to, handed on.
--     handed_on    a `?` that leaves a function returns the fault that it was given
use Rattle.std.proofs.Common.{◌≡◌, ◌∙◌, ap, Result, Err, IsErrAnd}
use Rattle.std.proofs.lemmas.Result.{err_from_is_err_and}

pub handed_on : {T E : Type 0} (r : Result T E) (e : E) → IsErrAnd r (λ x. x ≡ e) → r ≡ Err e
handed_on r e h =
    let w = err_from_is_err_and r h in
    w.1 ∙ ap Err w.2
