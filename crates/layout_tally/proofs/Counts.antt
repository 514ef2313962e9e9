-- The tally as code: its four counts read, raised and put back.
use Prim.Native.Nat.{ℕ, ◌+◌, ◌≤◌}
use native.Mathlib.Omega.{arith}
use mathlib.Core.Bool.{Bool, true, false}
use mathlib.Core.List.{List, ◌++◌, append_assoc, append-nil}
use mathlib.Core.Path.{◌≡◌, ap, ap₂, ◌∙◌}
use lib.ListN.{length, length-append, drop_of_length-le}
use Rattle.cell.specs.declared.Tally.{Tally}
use Rattle.model.specs.Tally.{raise, after_run, after_refused}
use Rattle.layout.specs.Number.{bytes_of, number_at}
use Rattle.layout.specs.TallyBytes.{tally_of, tally_bytes, tally_size}
use Rattle.layout.proofs.Number.{length-bytes_of}
use Rattle.layout.proofs.Put.{put_next}
use Rattle.layout.specs.Code.{put}
use Rattle.layout_tally.specs.Counted.{counted_as}

pub made-run : (ran : Bool) (arrivals departures : ℕ) (t : Tally) (a b d : ℕ) → ran ≡ true
    → a ≡ raise 1 t.run → b ≡ raise arrivals t.arrived → d ≡ raise departures t.departed
    → ◌≡◌ {A = Tally} (record { run = a; refused = t.refused; arrived = b; departed = d }) (counted_as ran arrivals departures t)
unfolding after_run counted_as
made-run true arrivals departures t a b d e p q r =
    λ k. record { run = p k; refused = t.refused; arrived = q k; departed = r k }
made-run false arrivals departures t a b d e p q r = cc

pub made-refused : (ran : Bool) (arrivals departures : ℕ) (t : Tally) (a : ℕ) → ran ≡ false → a ≡ raise 1 t.refused
    → ◌≡◌ {A = Tally} (record { run = t.run; refused = a; arrived = t.arrived; departed = t.departed })
    (counted_as ran arrivals departures t)
unfolding after_refused counted_as
made-refused true arrivals departures t a e p = cc
made-refused false arrivals departures t a e p =
    λ k. record { run = t.run; refused = p k; arrived = t.arrived; departed = t.departed }

pub made-read : (bs : List ℕ) (a b c d : ℕ)
    → a ≡ number_at 8 0 bs → b ≡ number_at 8 8 bs → c ≡ number_at 8 16 bs → d ≡ number_at 8 24 bs
    → ◌≡◌ {A = Tally} (record { run = a; refused = b; arrived = c; departed = d }) (tally_of bs)
unfolding tally_of
made-read bs a b c d p q r s = λ k. record { run = p k; refused = q k; arrived = r k; departed = s k }

-- the four counts put one after the other are the tally's bytes
pub put-tally : (t : Tally) (l a b c d : List ℕ) → length l ≡ tally_size → a ≡ put 0 8 (bytes_of 8 t.run) l
    → b ≡ put 8 8 (bytes_of 8 t.refused) a → c ≡ put 16 8 (bytes_of 8 t.arrived) b
    → d ≡ put 24 8 (bytes_of 8 t.departed) c → d ≡ tally_bytes t
unfolding tally_bytes
put-tally t l a b c d h p q r s =
    put_next 0 24 8 ((run ++ ref) ++ arr) (bytes_of 8 t.departed) l c d size₃ (length-bytes_of 8 t.departed) (omega arith) third s
    ∙ ap (λ x. (((run ++ ref) ++ arr) ++ bytes_of 8 t.departed) ++ x) (drop_of_length-le l (let e : length l ≤ 32 = omega arith in e))
    ∙ simp (append-nil, append_assoc)
  where
    run : List ℕ
    run = bytes_of 8 t.run

    ref : List ℕ
    ref = bytes_of 8 t.refused

    arr : List ℕ
    arr = bytes_of 8 t.arrived

    size₂ : length (run ++ ref) ≡ 16
    size₂ = length-append run ref ∙ ap₂ ◌+◌ (length-bytes_of 8 t.run) (length-bytes_of 8 t.refused)

    size₃ : length ((run ++ ref) ++ arr) ≡ 24
    size₃ = length-append (run ++ ref) arr ∙ ap₂ ◌+◌ size₂ (length-bytes_of 8 t.arrived)

    second : b ≡ put 0 16 (run ++ ref) l
    second = put_next 0 8 8 run ref l a b (length-bytes_of 8 t.run) (length-bytes_of 8 t.refused) (omega arith) p q

    third : c ≡ put 0 24 ((run ++ ref) ++ arr) l
    third = put_next 0 16 8 (run ++ ref) arr l b c size₂ (length-bytes_of 8 t.arrived) (omega arith) second r
