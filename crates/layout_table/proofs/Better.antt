-- Which of two numbers of entries is the better, case by case.
use Prim.Native.Nat.{ℕ, ◌<◌, ◌≤◌}
use mathlib.Core.Bool.{true, false}
use mathlib.Core.Path.{◌≡◌}
use mathlib.Core.List.{List}
use borrow.Author.Tests.{le-leb, lt-leb}
use Rattle.cell.specs.Order.{over}
use Rattle.layout.specs.Entry.{entry_at}
use Rattle.layout.specs.Code.{ports_in}
use Rattle.layout_table.specs.CodeEntries.{nowhere, better_of}

module _ (table : List ℕ) (held number : ℕ) where
  pub better-none : nowhere ≤ number → better_of table held number ≡ held
  unfolding better_of
  better-none h = rw (le-leb nowhere number h)

  pub better-first : number < nowhere → nowhere ≤ held → better_of table held number ≡ number
  unfolding better_of
  better-first h k = rw (lt-leb nowhere number h, le-leb nowhere held k)

  pub better-over : number < nowhere → held < nowhere
      → over (ports_in table) (entry_at table number).cell (entry_at table held).cell ≡ true
      → better_of table held number ≡ number
  unfolding better_of
  better-over h k o = rw (lt-leb nowhere number h, lt-leb nowhere held k, o)

  pub better-under : number < nowhere → held < nowhere
      → over (ports_in table) (entry_at table number).cell (entry_at table held).cell ≡ false
      → better_of table held number ≡ held
  unfolding better_of
  better-under h k o = rw (lt-leb nowhere number h, lt-leb nowhere held k, o)
