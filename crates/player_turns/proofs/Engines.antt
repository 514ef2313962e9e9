-- What holds of both engines.
--     sound_of, sound-of                      the switches that an engine has are sound
--     table_is, table-buffered, table-sound, table-made    their tables
--     fresh-of, fresh-sound                  a fresh one
--     ticks-of                               their clock is the player's
--     Went, went                             a slot that runs
--     same_of                                their players write the same text
use Prim.Native.Nat.{ℕ, ◌≤◌}
use native.Mathlib.Omega.{arith}
use mathlib.Core.Bool.{Bool, true}
use mathlib.Core.List.{List}
use mathlib.Core.Option.{Option, some}
use mathlib.Core.Path.{◌≡◌, refl, sym, ap, subst, ◌∙◌}
use lib.ListN.{length}
use Rattle.laws.specs.Lists.{all?}
use Rattle.cell.specs.declared.Arrival.{Arrival}
use Rattle.cell.specs.declared.Cell.{Cell}
use Rattle.cell.specs.Cell.{arrival_fits}
use Rattle.cell.specs.Limits.{fits32, port_limit, ports_in_range}
use Rattle.model.specs.Checks.{Outcome, done, refused}
use Rattle.model.specs.Crossbar.{Course, slot}
use Rattle.model.specs.Emulation.{lent}
use Rattle.model.specs.Oq.{Served, all_buffered, sound_oq, slot_oq, oq_after}
use Rattle.model.specs.Sound.{sound}
use Rattle.model.specs.State.{Switch, fresh}
use Rattle.model.proofs.OqSound.{sound-oq-i, sound-oq-table, sound-oq-buffered, sound-oq-fresh, oq-after-sound}
use Rattle.model.proofs.SoundSlot.{sound-fresh}
use Rattle.layout.specs.Table.{IsTable, encode, state_of}
use Rattle.layout.proofs.Answer.{departure_fits}
use Rattle.layout.proofs.Limits.{goes}
use Rattle.layout.proofs.OqRead.{served-outputs, served-fits}
use Rattle.layout.proofs.Table.{decode-encode, decode-sound, sound-ports, state_of-encode}
use Rattle.player_text.specs.Player.{play, crossbar, oq, play_crossbar, play_oq}
use Rattle.player_text.specs.Turn.{Ticks}
use Rattle.player_text.proofs.SameText.{same-text-oq}
use Rattle.player_text.proofs.Ticks.{crossbar-ticks, oq-ticks}
use Rattle.player_turns.specs.declared.Engine.{Engine}
use Rattle.player_turns.specs.declared.Engine.TheVariants.{Crossbar, Oq}
use Rattle.player_turns.specs.Turns.{machine_of, TableOf}

-- the switches that an engine has
pub sound_of : Engine → Switch → Bool
sound_of Crossbar s = sound s
sound_of Oq s = sound_oq s

pub sound-of : (engine : Engine) (s : Switch) → sound_of engine s ≡ true → sound s ≡ true
unfolding sound_of
sound-of Crossbar s h = h
sound-of Oq s h = sound-oq-table s h

-- their tables

pub table_is : (engine : Engine) (table : List ℕ) → TableOf engine table → IsTable table
unfolding TableOf
table_is Crossbar table h = h
table_is Oq table h = h.0

pub table-buffered : (engine : Engine) (table : List ℕ) → engine ≡ Oq → TableOf engine table
    → all_buffered (state_of table) ≡ true
unfolding TableOf
table-buffered engine table is h = (subst (λ e. TableOf e table) is h).1

pub table-sound : (engine : Engine) (table : List ℕ) → TableOf engine table → sound_of engine (state_of table) ≡ true
unfolding TableOf sound_of
table-sound Crossbar table h = decode-sound table (state_of table) h
table-sound Oq table h = sound-oq-i (state_of table) (decode-sound table (state_of table) h.0) h.1

encode-is : (s : Switch) → sound s ≡ true → IsTable (encode s)
encode-is s h = decode-encode s h ∙ ap some (sym (state_of-encode s h))

pub table-made : (engine : Engine) (s : Switch) → sound_of engine s ≡ true → TableOf engine (encode s)
unfolding TableOf sound_of
table-made Crossbar s h = encode-is s h
table-made Oq s h =
    let good = sound-oq-table s h in
    (encode-is s good, rw (state_of-encode s good) (sound-oq-buffered s h))

-- a fresh one

pub fresh-of : (engine : Engine) (ports first : ℕ) → (machine_of engine).fresh ports first ≡ fresh ports first
unfolding machine_of crossbar oq
fresh-of Crossbar ports first = refl
fresh-of Oq ports first = refl

pub fresh-sound : (engine : Engine) (ports first : ℕ) → ports_in_range ports ≡ true → fits32 first ≡ true
    → sound_of engine (fresh ports first) ≡ true
unfolding sound_of
fresh-sound Crossbar ports first p f = sound-fresh ports first p f
fresh-sound Oq ports first p f = sound-oq-fresh ports first p f

-- their clock

pub ticks-of : (engine : Engine) → Ticks (machine_of engine)
unfolding machine_of
ticks-of Crossbar = crossbar-ticks
ticks-of Oq = oq-ticks

-- a slot that runs: the departures go into an answer, and the engine has the switch after it
pub record Went (engine : Engine) (x : List (Option Cell) × Switch) : Type 0 where
  pub few : length x.0 ≤ port_limit
  pub fit : all? departure_fits x.0 ≡ true
  pub good : sound_of engine x.1 ≡ true

pub went : (engine : Engine) (s : Switch) → sound_of engine s ≡ true → (records : List Arrival)
    → all? arrival_fits records ≡ true → {x : List (Option Cell) × Switch} → (machine_of engine).slot s records ≡ done x
    → Went engine x
unfolding machine_of crossbar oq sound_of lent oq_after
went Crossbar s h records fits {x} e = go (slot s (some records)) refl
  where
    go : (o : Outcome Course) → slot s (some records) ≡ o → Went Crossbar x
    go (done c) f =
        let same : (c.departures, c.switch) ≡ x = cc (rw (f, machine_of, crossbar) at e) in
        let g = goes s records h fits c f in
        rw (← same) (record { few = g.few; fit = g.fit; good = g.good })
    go (refused r place) f =
        let never : ◌≡◌ {A = ℕ} 0 1 = cc (rw (f, machine_of, crossbar) at e) in
        absurd (omega arith)
went Oq s h records fits {x} e = go (slot_oq s (some records)) refl
  where
    go : (o : Outcome Served) → slot_oq s (some records) ≡ o → Went Oq x
    go (done d) f =
        let same : (d.departures, d.switch) ≡ x = cc (rw (f, machine_of, oq) at e) in
        let outputs = served-outputs s (some records) d f in
        let fit = served-fits s h (some records) fits d f in
        let good : sound_oq d.switch ≡ true = rw f at (oq-after-sound s (some records) h fits) in
        rw (← same)
        (record { few = omega (arith, outputs, sound-ports s (sound-oq-table s h)); fit = fit; good = good })
    go (refused r place) f =
        let never : ◌≡◌ {A = ℕ} 0 1 = cc (rw (f, machine_of, oq) at e) in
        absurd (omega arith)

-- the text of their players

pub same_of : (engine : Engine) (t : List ℕ) → play (machine_of engine) t ≡ play_crossbar t
unfolding machine_of play_crossbar play_oq
same_of Crossbar t = refl
same_of Oq t = same-text-oq t
