-- Each rule of a place in turn: one that is broken, or none but the table's.
use Rattle.std.proofs.Common.{◌≡◌, ℕ, ◌+◌, ◌-◌, ◌<◌, ◌∙◌, sym, ap, ap₂, take, drop, replicate, arith}
use Rattle.std.proofs.Common.{Option, None, Some}
use Rattle.std.specs.Option.{MatchOption, unwrap_or}
use Rattle.model.specs.Cues.{cue_limit, name_limit}
use Rattle.layout.specs.Frame.{is_fair_table}
use Rattle.layout.specs.Fair.{fair_size}
use Rattle.layout.specs.Number.{same_bytes}
use Rattle.cue_store.specs.Code.{table_at, place_of}
use Rattle.cue_store.specs.Names.{is_name}
use Rattle.cue_store.proofs.PlaceLoops.{place-before}
use Rattle.cue_store.proofs.PlaceTests.{place-zeros, place_other, place-again, place-table}
use Rattle.cue_store.proofs.check.is_place.Goals as goal

-- the place found
found : (o : Option ℕ) (n r : ℕ) → MatchOption o (n ≡ cue_limit) (λ j. (j ≡ n) × (j < cue_limit)) → r ≡ unwrap_or o cue_limit
    → r ≡ n
found None n r h e = e ∙ sym h
found (Some j) n r h e = e ∙ h.0

pub returns-then-number-eq0 : goal.returns-then-number-eq0
unfolding table_at
returns-then-number-eq0 c =
    let a = c.args in
    let store = a.store.now in
    c.is_clear.ensures
    ∙ ap (λ n. same_bytes (replicate fair_size 0) (take fair_size (drop (n + name_limit) store)))
    c.start_of-at.ensures
    ∙ sym (place-zeros store a.k (sym c.name_at-number.ensures ∙ c.if-number-eq0.true))

pub returns-then-not-is_name : goal.returns-then-not-is_name
returns-then-not-is_name c =
    let a = c.args in
    let number = c.name_at-number.ensures in
    sym
    (place_other a.store.now a.k (λ z. c.if-number-eq0.false (number ∙ z))
    (ap is_name (sym number) ∙ sym c.is_name.ensures ∙ c.if-not-is_name.true))

pub returns-then-found-k : goal.returns-then-found-k
returns-then-found-k c =
    let a = c.args in
    let store = a.store.now in
    let number = c.name_at-number.ensures in
    let here = found _ _ _ c.place_of.ensures c.unwrap_or-found.ensures in
    sym
    (place-again store a.k (λ z. c.if-number-eq0.false (number ∙ z))
    (λ e. omega (arith, here, ap (place_of store) number ∙ e, c.if-found-k.true)))

pub returns : goal.returns
unfolding table_at
returns c =
    let a = c.args in
    let store = a.store.now in
    let number = c.name_at-number.ensures in
    let start = c.start_of-at.result in
    let here = found _ _ _ c.place_of.ensures c.unwrap_or-found.ensures in
    let long : start + name_limit + fair_size - (start + name_limit) ≡ fair_size = omega arith in
    c.is_fair_table.ensures
    ∙ ap₂ (λ n at. is_fair_table (take n (drop (at + name_limit) store))) long c.start_of-at.ensures
    ∙ sym
    (place-table store a.k (λ z. c.if-number-eq0.false (number ∙ z))
    (ap is_name (sym number) ∙ sym c.is_name.ensures ∙ c.if-not-is_name.false)
    (omega (arith, here, ap (place_of store) number, place-before store a.k c.requires.1, c.if-found-k.false)))
