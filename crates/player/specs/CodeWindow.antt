-- The window of text.
--     moved     n bytes from a place on go to the front, the bytes behind them are kept
--     Filled    text was read behind a place, and none failed
use Rattle.std.specs.Prelude.{ℕ, ◌≤◌, Bool, true, List, ◌++◌, ◌⊎◌, ◌≡◌, length, take, drop}

unfoldable pub moved : ℕ → ℕ → List ℕ → List ℕ
moved from n window = take n (drop from window) ++ drop n window

-- There may be more text behind that which was there, and the window is full or no more will come.
pub record Filled (at : ℕ) (window' : List ℕ) (filled : ℕ) (last : Bool) : Type 0 where
  pub more : at ≤ filled
  pub within : filled ≤ length window'
  pub full : (last ≡ true) ⊎ (filled ≡ length window')
