-- An Option of the code as one of the model.
use Rattle.std.specs.Prelude.{Option, Some, None}
use Rattle.std.proofs.Math.Option as maybe

abbrev pub option_of : {A : Type 0} → Option A → maybe.Option A
option_of (Some a) = maybe.some a
option_of None = maybe.none
