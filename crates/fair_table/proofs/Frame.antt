-- What the tests of a table's frame say.
--     shifted-marks                 marks are below N if their number is below 2 to the N
--     other-size, -number, -ports, by-marks    whether bytes are framed, by each test in turn
--     other-frame, by-core          whether they are a table of the crossbar
use Prim.Native.Nat.{ℕ, ◌*◌, ◌%◌, ◌^◌, ◌≤◌}
use native.Mathlib.Nat.{one-mul, mod-eq_of_lt}
use native.Mathlib.Omega.{arith}
use mathlib.Core.Bool.{true, false, ◌&&◌}
use mathlib.Core.List.{List}
use mathlib.Core.Path.{◌≡◌, sym, ap, ◌∙◌}
use borrow.Author.Tests.{leb-true, eq-eqb, ne_eqb}
use lib.Dec.{ltb}
use lib.ListN.{length}
use lib.Pow.{pow-lt}
use Rattle.laws.proofs.Tests.{and_r, and-false-l}
use Rattle.cell.specs.Limits.{port_limit, ports_in_range}
use Rattle.model.specs.Fair.{marks_in_range}
use Rattle.layout.specs.Frame.{ports_start, is_framed, is_fair_table}
use Rattle.layout.specs.Fair.{fair_number, fair_size, core_in, memory_start}
use Rattle.layout.specs.Number.{word}
use Rattle.layout.specs.Table.{is_table}
use Rattle.layout.proofs.Fair.{is_fair_table-tests}
use Rattle.layout.proofs.Number.{bytes?}

pub shifted-marks : (ports marks : ℕ) → ports ≤ port_limit → ltb marks (1 * 2 ^ ports % 2 ^ 32) ≡ marks_in_range ports marks
unfolding marks_in_range
shifted-marks ports marks few =
    ap (ltb marks) (ap (λ n. n % 2 ^ 32) (one-mul (2 ^ ports)) ∙ mod-eq_of_lt (pow-lt {i = ports} {j = 32} (omega arith)))

pub few-ports : (ports : ℕ) → ports_in_range ports ≡ true → ports ≤ port_limit
unfolding ports_in_range
few-ports ports h = leb-true ports port_limit (search and_r)

module _ (number : ℕ) (bs : List ℕ) where
  pub other-size : (length bs ≡ fair_size → ⊥) → false ≡ is_framed number bs
  unfolding is_framed
  other-size h = rw (ne_eqb (length bs) fair_size h, is_framed)

  module _ (size : length bs ≡ fair_size) where
    pub other-number : (word bs 0 ≡ number → ⊥) → false ≡ is_framed number bs
    unfolding is_framed
    other-number h = rw (eq-eqb (length bs) fair_size size, ne_eqb (word bs 0) number h, is_framed)

    module _ (front : word bs 0 ≡ number) where
      pub other-ports : ports_in_range (word bs ports_start) ≡ false → false ≡ is_framed number bs
      unfolding is_framed
      other-ports h = rw (eq-eqb (length bs) fair_size size, eq-eqb (word bs 0) number front, h, is_framed)

      pub by-marks : ports_in_range (word bs ports_start) ≡ true
          → marks_in_range (word bs ports_start) (word bs memory_start) ≡ is_framed number bs
      unfolding is_framed
      by-marks h = rw (eq-eqb (length bs) fair_size size, eq-eqb (word bs 0) number front, h, is_framed)

module _ (bs : List ℕ) (b : bytes? bs ≡ true) where
  pub other-frame : is_framed fair_number bs ≡ false → false ≡ is_fair_table bs
  other-frame h = sym (is_fair_table-tests bs b ∙ and-false-l _ _ h)

  pub by-core : is_framed fair_number bs ≡ true → is_table (core_in bs) ≡ is_fair_table bs
  by-core h = sym (is_fair_table-tests bs b ∙ ap (λ t. t && is_table (core_in bs)) h)
