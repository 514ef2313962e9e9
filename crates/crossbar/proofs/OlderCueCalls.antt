-- What the call that converts an older cue store answers and leaves: each way that it can go.
use Prim.Native.Nat.{ℕ, ◌+◌, ◌*◌, ◌≤◌, ◌<◌}
use native.Mathlib.Omega.{arith}
use mathlib.Core.Bool.{true, false}
use mathlib.Core.List.{List, ◌++◌}
use mathlib.Core.Option.{some}
use mathlib.Core.Path.{◌≡◌, refl, sym, ap, ap₂, ◌∙◌}
use lib.ListN.{length, take, drop}
use lib.Seq.{take_all}
use Rattle.cell.specs.declared.Refusal.{Refusal}
use Rattle.cell.specs.declared.Refusal.TheVariants.{BrokenTable, ShortBuffer}
use Rattle.cell.specs.Refusal.{number}
use Rattle.model.specs.Checks.{Outcome, done, refused}
use Rattle.model.specs.Cues.{Cues}
use Rattle.model.specs.Fair.{Fair}
use Rattle.model.specs.State.{Switch}
use Rattle.layout.specs.Code.{put}
use Rattle.layout.specs.Cues.{fair_cues, older_cues, store_size, store_bytes, store_buffer, decode_old_store, converted}
use Rattle.layout.specs.Cues.{convert_cues_call}
use Rattle.layout.specs.Host.{filled, result_of}
use Rattle.layout.proofs.Cues.{fair-fit}
use Rattle.layout.proofs.OlderCues.{converted-sound, convert_cues_call-broken, convert_cues_call-short}
use Rattle.layout.proofs.OlderCues.{convert_cues_call-done}
use Rattle.layout.proofs.Stores.{decode_store-some, length-store_bytes}
use Rattle.cue_store.specs.CodeOlder.{is_old_store, Converted}
use Rattle.cue_store.proofs.OlderStore.{is-old-store, old-store-none}

-- a result is that of an outcome, and a buffer is as the outcome leaves it
abbrev Leaves : Outcome (Cues (Fair Switch)) → List ℕ → ℕ → List ℕ → Type 0
Leaves o buffer result buffer' = (result ≡ result_of o) × (buffer' ≡ store_buffer buffer o)

leaves-refused : (o : Outcome (Cues (Fair Switch))) (buffer : List ℕ) (r : Refusal) (result : ℕ) → o ≡ refused r 0
    → result ≡ number r → Leaves o buffer result buffer
unfolding result_of store_buffer
leaves-refused o buffer r result e h = rw e (let k : result ≡ number r + 256 * 0 = omega arith in k, refl)

leaves-done : (o : Outcome (Cues (Fair Switch))) (buffer buffer' : List ℕ) (cues : Cues (Fair Switch)) → o ≡ done cues
    → buffer' ≡ filled (store_bytes cues) buffer → Leaves o buffer 0 buffer'
unfolding result_of store_buffer
leaves-done o buffer buffer' cues e h = rw e (refl, h)

module _ (old buffer : List ℕ) where
  pub convert-broken : is_old_store old ≡ false → (result : ℕ) → result ≡ 2
      → Leaves (convert_cues_call old buffer) buffer result buffer
  convert-broken h result r =
      leaves-refused _ buffer BrokenTable result (convert_cues_call-broken old buffer (old-store-none old h)) r

  module _ (h : is_old_store old ≡ true) where
    held : (cues : Cues Switch) × (decode_old_store old ≡ some cues)
    held = is-old-store old h

    pub convert-short : length buffer < store_size → (result : ℕ) → result ≡ 10
        → Leaves (convert_cues_call old buffer) buffer result buffer
    convert-short short result r =
        leaves-refused _ buffer ShortBuffer result (convert_cues_call-short old buffer held.0 held.1 short) r

    pub convert-done : (new buffer' : List ℕ) → Converted old new → store_size ≤ length buffer
        → buffer' ≡ put 0 store_size (take store_size (drop 0 new)) buffer
        → Leaves (convert_cues_call old buffer) buffer 0 buffer'
    unfolding filled
    convert-done new buffer' written room copied =
        let cues = converted held.0 in
        let same : new ≡ store_bytes cues = written held.0 held.1 in
        let size : length (store_bytes cues) ≡ store_size =
        length-store_bytes fair_cues fair-fit cues
        (converted-sound held.0 (decode_store-some older_cues old held.0 held.1).0) in
        leaves-done _ buffer buffer' cues (convert_cues_call-done old buffer held.0 held.1 room)
        (copied
        ∙ ap₂ (λ bs n. bs ++ drop n buffer)
        (ap (take store_size) same ∙ take_all store_size (store_bytes cues) (omega arith))
        (sym size))
