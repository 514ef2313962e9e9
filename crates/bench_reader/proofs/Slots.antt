-- The number of slots from the reader's verdict.
use Prim.Native.Nat.{ℕ}
use mathlib.Core.Path.{◌≡◌, refl}
use Rattle.std.specs.Prelude.{Result, Ok, Err}
use Rattle.trace.specs.Reader.{Outcome, accepted, refused}
use Rattle.trace_reader.specs.declared.BadText.{BadText}
use Rattle.trace_reader.specs.Reading.{verdict_of}
use Rattle.bench_reader.specs.Slots.{slots_or}

pub slots-accepted : (other n : ℕ) (o : Outcome) (v : Result ℕ BadText) → v ≡ verdict_of o → v ≡ Ok n → n ≡ slots_or other o
unfolding verdict_of
slots-accepted other n (accepted c) v e h = cc
slots-accepted other n (refused r l) v e h = cc

pub slots-refused : (other : ℕ) (b : BadText) (o : Outcome) (v : Result ℕ BadText) → v ≡ verdict_of o → v ≡ Err b
    → other ≡ slots_or other o
unfolding verdict_of
slots-refused other b (accepted c) v e h = cc
slots-refused other b (refused s m) v e h = refl
