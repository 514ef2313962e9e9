-- What the look for a held cue finds, for the calls that drop it or return to it.
use Rattle.std.specs.Prelude.{ℕ, ◌<◌, ◌≡◌, ◌≢◌, true, List}
use Rattle.cell.specs.declared.Refusal.{Refusal}
use Rattle.model.specs.Checks.{refused}
use Rattle.model.specs.Cues.{cue_limit}
use Rattle.layout.specs.Frame.{is_fair_table}
use Rattle.layout.specs.Cues.{is_store, drop_call, return_call}
use Rattle.cue_store.specs.Code.{place_of}
use Rattle.cue_store.specs.Names.{name_number}

-- the store is one, and holds a cue of the name at the place
pub record HeldAt (store name : List ℕ) (place : ℕ) : Type 0 where
  pub sound : is_store store ≡ true
  pub named : name_number name ≢ 0
  pub found : place ≡ place_of store (name_number name)
  pub inside : place < cue_limit

-- both calls are refused so
pub record HeldNowhere (store name : List ℕ) (refusal : Refusal) : Type 0 where
  pub drops : drop_call store name ≡ refused refusal 0
  pub returns : (table : List ℕ) → is_fair_table table ≡ true → return_call table store name ≡ refused refusal 0
