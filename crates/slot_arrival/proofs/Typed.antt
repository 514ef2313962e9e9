-- What whoever holds a record knows by its type.
use Prim.Native.Nat.{◌<◌}
use native.Mathlib.Omega.{arith}
use mathlib.Core.Bool.{true}
use mathlib.Core.List.{List}
use mathlib.Core.Path.{◌≡◌}
use borrow.Author.Tests.{le-leb}
use lib.Dec.{leb}
use mir.Val.{Val}
use denote.Laws.{Is}
use denote.Struct.Laws as LL
use Rattle.laws.proofs.Tests.{and_i}
use Rattle.cell.specs.declared.Arrival.{Arrival}
use Rattle.cell.specs.Cell.{arrival_fits}
use Rattle.cell.specs.Limits.{fits32}
use Rattle.cell.specs.contracts.Arrival as A
use Rattle.cell.proofs.Arrival.TheLaws as A'

-- a record of numbers of 32 bits
fits-arrival : (a : Arrival) → a.input < 4294967296 → a.output < 4294967296 → a.flow < 4294967296
    → a.rank < 4294967296 → a.tag < 4294967296 → arrival_fits a ≡ true
unfolding arrival_fits fits32
fits-arrival a i o f r t =
    let i' : leb a.input 4294967295 ≡ true = le-leb a.input 4294967295 (omega arith) in
    let o' : leb a.output 4294967295 ≡ true = le-leb a.output 4294967295 (omega arith) in
    let f' : leb a.flow 4294967295 ≡ true = le-leb a.flow 4294967295 (omega arith) in
    let r' : leb a.rank 4294967295 ≡ true = le-leb a.rank 4294967295 (omega arith) in
    let t' : leb a.tag 4294967295 ≡ true = le-leb a.tag 4294967295 (omega arith) in
    search and_i depth 9

pub arrival-fits : (a : Arrival) (vs : List Val) → Is A.the_row a vs → arrival_fits a ≡ true
arrival-fits a vs p =
    let o = LL.owed A.the_type A'.the_laws a vs p in
    fits-arrival a o.0.1 o.1.0.1 o.1.1.0.1 o.1.1.1.0.1 o.1.1.1.1.0.1
