-- The programs: what their arguments ask for, and the status that they answer.
--     request_of    by the number of arguments and the first of them
--     Answered     the status
--     Told         of a text that is to be written: it was, or writing failed
use Rattle.std.specs.Prelude.{ℕ, zero, suc, ◌≤◌, cond, List, ◌⊎◌, ◌≡◌}
use Rattle.trace.specs.Ascii.{ascii}
use Rattle.layout.specs.Number.{same_bytes}
use Rattle.player.specs.declared.Request.{Request}
use Rattle.player.specs.declared.Request.TheVariants.{Play, Help, Version, Unknown}

-- none: the trace is played; `--help` or `--version` alone; any other argument, or more than one, is none of these
unfoldable pub request_of : ℕ → List ℕ → Request
request_of zero word = Play
request_of (suc zero) word =
    cond (same_bytes word (ascii "--help")) Help (cond (same_bytes word (ascii "--version")) Version Unknown)
request_of (suc (suc n)) word = Unknown

abbrev pub Told : ℕ → Type 0
Told status = (status ≡ 0) ⊎ (status ≡ 2)

-- what can be said of the status without the input and the output
unfoldable pub Answered : Request → ℕ → Type 0
Answered Play status = status ≤ 2
Answered Help status = Told status
Answered Version status = Told status
Answered Unknown status = status ≡ 2
