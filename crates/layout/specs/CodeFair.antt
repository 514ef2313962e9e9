-- Whether bytes are the table of an output-queued switch with its memory, as the code asks it.
use Rattle.std.specs.Prelude.{ℕ, Bool, List}
use Rattle.model.specs.Oq.{sound_oq}
use Rattle.layout.specs.Fair.{fair_number_oq}
use Rattle.layout.specs.Frame.{is_table_with}

abbrev pub is_fair_oq_table : List ℕ → Bool
is_fair_oq_table = is_table_with fair_number_oq sound_oq
