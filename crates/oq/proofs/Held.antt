-- A slot with held records on a table of the output-queued switch.
--     framed, core-table            the frame of the table, and its cells
--     plain-leaves                  what a slot leaves where no output is fair
--     fault-leaves, clear-rankable  where a fault is found; and where none is, every rank can be made
--     served-clear, fair-leaves     it runs where the ranks were made, and what it leaves
--     first-tell                    no record behind the seventeenth is looked at
use Prim.Native.Nat.{ℕ, ◌+◌, ◌-◌, ◌≤◌}
use native.Mathlib.Omega.{arith}
use mathlib.Core.Bool.{Bool, true, false, ◌&&◌}
use mathlib.Core.Logic.{◌⊎◌, inl, inr}
use mathlib.Core.List.{List, ◌++◌, map, append_assoc}
use mathlib.Core.Option.{Option, none, some}
use mathlib.Core.Path.{◌≡◌, refl, sym, ap, ap₂, ◌∙◌}
use Rattle.std.specs.Prelude.{Err}
use borrow.Author.Tests.{leb-true, leb-false}
use borrow.Rule.Slice.PartMut.{put_mid}
use lib.Dec.{eqb, leb}
use lib.ListN.{length, take, drop, take-append-drop, length-append}
use lib.Seq.{take_at, drop_at, take_all, length-take-le}
use Rattle.laws.specs.Lists.{all?}
use Rattle.laws.proofs.Tests.{either, and_l, and_r}
use Rattle.cell.specs.declared.Arrival.{Arrival}
use Rattle.cell.specs.Checked.{Checked, no_fault}
use Rattle.cell.specs.declared.Fault.{Fault}
use Rattle.cell.specs.declared.Refusal.{Refusal}
use Rattle.cell.specs.declared.Refusal.TheVariants.{ClockEnd}
use Rattle.cell.specs.Cell.{arrival_fits}
use Rattle.cell.specs.Limits.{clock_end, port_limit}
use Rattle.model.specs.Checks.{Outcome, done, refused, refusal_of, no_departures}
use Rattle.model.specs.CodeFair.{rankable}
use Rattle.model.specs.Emulation.{lent}
use Rattle.model.specs.Fair.{Memory, Fair, make, record_fault_from, given_after, remembered, slot_of, after_of, fair_slot_oq}
use Rattle.model.specs.Oq.{Served, all_buffered, sound_oq, slot_oq}
use Rattle.model.specs.State.{Switch, cells}
use Rattle.model.proofs.FairChecks.{made-fit, records-rankable, slot-made-oq, fair-first, unmarked-slot-oq}
use Rattle.model.proofs.FairChecks.{unmarked-remembered}
use Rattle.model.proofs.FairMemory.{left-trailing}
use Rattle.model.proofs.OqSound.{sound-oq-i}
use Rattle.layout.specs.Answer.{departures_in}
use Rattle.layout.specs.Arrivals.{held_limit}
use Rattle.layout.specs.CodeFair.{is_fair_oq_table}
use Rattle.layout.specs.Frame.{is_framed}
use Rattle.layout.specs.Engine.{oq, answer_after}
use Rattle.layout.specs.Fair.{fair_number_oq, core_start, memory_start, fair_size, fair_bytes, core_in, memory_in, fair_of}
use Rattle.layout.specs.Memory.{word_size, memory_size, memory_bytes, memory_of}
use Rattle.layout.specs.Number.{bytes_of}
use Rattle.layout.specs.CodeOq.{oq_answer_after}
use Rattle.layout.specs.Table.{table_size, encode, state_of, is_table, IsTable}
use Rattle.layout.proofs.Fair.{framed-size, framed-memory, framed-with, decode_with-some, is-table-with, is_fair_oq_table-tests}
use Rattle.layout.proofs.Memory.{memory_bytes-memory_of}
use Rattle.layout.proofs.Number.{bytes?, bytes?-drop, length-bytes_of}
use Rattle.layout.proofs.OqRead.{outputs-served}
use Rattle.layout.proofs.Parts.{part-behind, put-behind}
use Rattle.layout.proofs.Table.{decode-sound, is-table}
use Rattle.slot_faults.specs.CodeFault.{fault_of}
use Rattle.slot_faults.proofs.Faults.{clear-not}
use Rattle.fair_faults.specs.CodeFairFault.{fair_fault_in}
use Rattle.fair_table.proofs.Written.{put-part}
use Rattle.oq_slot.specs.Code.{ServedLeaves, table_served}
use Rattle.oq.specs.Code.{table_held, HeldLeaves}

-- the answer of either definition
pub same_answer : (answer : List ℕ) (o : Outcome Served) → oq_answer_after answer o ≡ answer_after oq answer o
unfolding oq_answer_after answer_after
same_answer answer (done d) = refl
same_answer answer (refused r place) = refl

module _ (table : List ℕ) (b : bytes? table ≡ true) (t : is_fair_oq_table table ≡ true) where
  tests : is_framed fair_number_oq table && (is_table (core_in table) && all_buffered (state_of (core_in table))) ≡ true
  tests = sym (is_fair_oq_table-tests table b) ∙ t

  pub framed : is_framed fair_number_oq table ≡ true
  framed = and_l _ _ tests

  pub core-table : IsTable (core_in table) × (all_buffered (state_of (core_in table)) ≡ true)
  core-table =
      let inner = and_r (is_framed fair_number_oq table) _ tests in
      (is-table (core_in table) (and_l _ _ inner), and_r (is_table (core_in table)) _ inner)

  pub core-sound : sound_oq (state_of (core_in table)) ≡ true
  core-sound = sound-oq-i _ (decode-sound (core_in table) _ core-table.0) core-table.1

  -- other cells between the number and the memory
  core-put : (s : Switch) → put_mid core_start table_size table (encode s)
      ≡ fair_bytes fair_number_oq (record { core = s; memory = memory_of (memory_in table) })
  core-put s = put-part core_start table_size table (encode s) ∙ framed-with fair_number_oq table framed b s

  core-kept : put_mid core_start table_size table (core_in table) ≡ table
  core-kept =
      ap (λ l. take core_start table ++ l) (take-append-drop table_size (drop core_start table))
      ∙ take-append-drop core_start table

  pub whole-size : length table ≡ fair_size
  whole-size = framed-size fair_number_oq table framed

  -- the memory, as it is lent
  pub memory-part : take (length table - memory_start) (drop memory_start table) ≡ memory_in table
  memory-part = part-behind table memory_start

  pub memory-size : length (memory_in table) ≡ memory_size
  memory-size = framed-memory fair_number_oq table framed

  -- the table with other bytes for its cells, and its memory
  module _ (core' : List ℕ) (size : length core' ≡ table_size) where
    abbrev two : List ℕ
    two = put_mid core_start table_size table core'

    abbrev front : List ℕ
    front = take core_start table ++ core'

    two-parts : two ≡ front ++ memory_in table
    two-parts =
        put-part core_start table_size table core' ∙ sym (append_assoc (take core_start table) core' (memory_in table))

    front-size : length front ≡ memory_start
    front-size =
        length-append (take core_start table) core'
        ∙ ap₂ ◌+◌ (length-take-le core_start table (omega (arith, whole-size))) size

    pub two_size : length two ≡ fair_size
    two_size =
        ap length two-parts ∙ length-append front (memory_in table) ∙ ap₂ ◌+◌ front-size memory-size

    pub two-memory : take (length two - memory_start) (drop memory_start two) ≡ memory_in table
    two-memory =
        part-behind two memory_start
        ∙ ap (drop memory_start) two-parts
        ∙ drop_at front (memory_in table) memory_start front-size

    -- with another memory too
    module _ (memory' : List ℕ) where
      abbrev three : List ℕ
      three = put_mid memory_start (length two - memory_start) two memory'

      three-front : three ≡ front ++ memory'
      three-front =
          put-behind two memory_start memory'
          ∙ ap (λ l. l ++ memory')
          (ap (take memory_start) two-parts ∙ take_at front (memory_in table) memory_start front-size)

      pub three-size : length memory' ≡ memory_size → length three ≡ length table
      three-size long =
          ap length three-front ∙ length-append front memory' ∙ ap₂ ◌+◌ front-size long ∙ sym whole-size

      three-bytes : bytes? three ≡ true → bytes? memory' ≡ true
      three-bytes h =
          ap bytes? (sym (ap (drop memory_start) three-front ∙ drop_at front memory' memory_start front-size))
          ∙ bytes?-drop memory_start three h

      three-parts : three ≡ bytes_of word_size fair_number_oq ++ (core' ++ memory')
      unfolding fair_bytes
      three-parts =
          let number : take core_start table ≡ bytes_of word_size fair_number_oq =
          ap (take core_start) (decode_with-some fair_number_oq sound_oq table _ (is-table-with fair_number_oq sound_oq table t)).0
          ∙ take_at (bytes_of word_size fair_number_oq) _ core_start (length-bytes_of word_size fair_number_oq) in
          three-front
          ∙ append_assoc (take core_start table) core' memory'
          ∙ ap (λ l. l ++ (core' ++ memory')) number

  module _ (records : List Arrival) (answer : List ℕ) where
    abbrev s : Switch
    s = state_of (core_in table)

    abbrev m : Memory
    m = memory_of (memory_in table)

    abbrev outcome : Outcome Served
    outcome = fair_slot_oq (fair_of table) (some records)

    ------------------------------------------------------------------------
    -- no output is fair

    module _ (none-fair : m.fair ≡ 0) where
      plain-outcome : outcome ≡ slot_oq s (some records)
      unfolding fair_of
      plain-outcome = unmarked-slot-oq (fair_of table) none-fair (some records)

      plain-table : (o : Outcome Served) → put_mid core_start table_size table (table_served (core_in table) o) ≡ table_held table records o
      unfolding table_served table_held fair_of after_of
      plain-table (done d) =
          core-put d.switch
          ∙ ap (λ n. fair_bytes fair_number_oq (record { core = d.switch; memory = n }))
          (sym (unmarked-remembered m none-fair records d.departures))
      plain-table (refused r place) = core-kept

      pub plain-leaves : (fault : Checked) (new answer' : List ℕ)
          → ServedLeaves (slot_oq s (some records)) (core_in table) answer fault new answer'
          → HeldLeaves table records answer fault (put_mid core_start table_size table new) answer'
      plain-leaves fault new answer' (f, (n, a)) =
          rw plain-outcome (
            f,
            (
              ap (put_mid core_start table_size table) n ∙ plain-table (slot_oq s (some records)),
              a ∙ same_answer answer (slot_oq s (some records)),
            ),
          )

    ------------------------------------------------------------------------
    -- some output is fair

    -- the fault of the slot is the one that the code looks for
    fault-outcome : refusal_of outcome ≡ fair_fault_in s m records
    unfolding fair_of slot_of fair_fault_in refusal_of fault_of
    fault-outcome = go (eqb s.clock clock_end) refl (record_fault_from s.ports s.clock (cells s) m 1 none records) refl
      where
        go : (e : Bool) → eqb s.clock clock_end ≡ e → (f : Option (Refusal × ℕ))
            → record_fault_from s.ports s.clock (cells s) m 1 none records ≡ f
            → refusal_of outcome ≡ fair_fault_in s m records
        go true p f q = rw (p, slot_of, fair_fault_in)
        go false p none q = rw (p, q, slot_of, fair_fault_in)
        go false p (some f) q = rw (p, q, slot_of, fair_fault_in)

    refused-leaves : (o : Outcome Served) (fault : Fault) → refusal_of o ≡ Err fault
        → (table ≡ table_held table records o) × (answer ≡ answer_after oq answer o)
    unfolding refusal_of table_held answer_after
    refused-leaves (done d) fault e = absurd (clear-not e)
    refused-leaves (refused r place) fault e = (refl, refl)

    pub fault-leaves : (fault : Fault) (result : Checked) → fair_fault_in s m records ≡ Err fault → result ≡ Err fault
        → HeldLeaves table records answer result table answer
    fault-leaves fault result f e =
        let kept = refused-leaves outcome fault (fault-outcome ∙ f) in
        (e ∙ sym f ∙ sym fault-outcome, (kept.0, kept.1))

    -- no fault was found
    module _ (clear : fair_fault_in s m records ≡ no_fault) where
      no-fault : record_fault_from s.ports s.clock (cells s) m 1 none records ≡ none
      unfolding fair_fault_in fault_of
      no-fault =
          go (eqb s.clock clock_end) refl (record_fault_from s.ports s.clock (cells s) m 1 none records) refl
        where
          go : (e : Bool) → eqb s.clock clock_end ≡ e → (f : Option (Refusal × ℕ))
              → record_fault_from s.ports s.clock (cells s) m 1 none records ≡ f
              → record_fault_from s.ports s.clock (cells s) m 1 none records ≡ none
          go true p f q = absurd (clear-not (sym (rw (p, fair_fault_in) at clear)))
          go false p none q = q
          go false p (some f) q = absurd (clear-not (sym (rw (p, q, fair_fault_in) at clear)))

      pub clear-rankable : all? (rankable m) records ≡ true
      clear-rankable = records-rankable s.ports s.clock (cells s) m 1 none records no-fault

      -- the cells take the slot with the ranks made; they keep their length
      module _ (made : List Arrival) (ranked : made ≡ map (make m) records) (fits : all? arrival_fits records ≡ true)
          (fault : Checked) (core' answer' : List ℕ) (size : length core' ≡ table_size)
          (served : ServedLeaves (slot_oq s (some made)) (core_in table) answer fault core' answer') where
        made-outcome : slot_oq s (some made) ≡ outcome
        unfolding fair_of
        made-outcome = ap (λ l. slot_oq s (some l)) ranked ∙ sym (slot-made-oq (fair_of table) records no-fault)

        -- they run
        pub served-clear : fault ≡ no_fault
        served-clear = served.0 ∙ ap refusal_of made-outcome ∙ fault-outcome ∙ clear

        -- and the memory after it
        module _ (memory' : List ℕ) (bytes : bytes? (three core' size memory') ≡ true) (long : length memory' ≡ memory_size)
            (remembers : (rs : List Arrival)
            → made ≡ map (make (memory_of (take (length (two core' size) - memory_start) (drop memory_start (two core' size))))) rs
            → memory_of memory'
            ≡ remembered (memory_of (take (length (two core' size) - memory_start) (drop memory_start (two core' size)))) rs
            (departures_in port_limit answer'))
          where
            -- what the memory is, for a slot that ran
            memory-after : (d : Served) → slot_oq s (some made) ≡ done d → answer' ≡ oq_answer_after answer (done d)
                → memory' ≡ memory_bytes (remembered m records d.departures)
            unfolding remembered no_departures lent
            memory-after d e a =
                let same : memory_of (take (length (two core' size) - memory_start) (drop memory_start (two core' size))) ≡ m =
                ap memory_of (two-memory core' size) in
                let whole : all? arrival_fits made ≡ true =
                ap (all? arrival_fits) ranked ∙ made-fit m records clear-rankable fits in
                let outputs : departures_in port_limit answer' ≡ d.departures ++ no_departures (port_limit - s.ports) =
                ap (departures_in port_limit) a ∙ outputs-served s core-sound (some made) whole answer d e in
                sym (memory_bytes-memory_of memory' (three-bytes core' size memory' bytes) long)
                ∙ ap memory_bytes
                (remembers records (ranked ∙ ap (λ n. map (make n) records) (sym same))
                ∙ ap₂ (λ n ds. remembered n records ds) same outputs
                ∙ ap (λ l. record { fair = m.fair; left = l; given = given_after m records m.given })
                (left-trailing m 0 d.departures (port_limit - s.ports) m.left))

            whole-table : (o : Outcome Served) → slot_oq s (some made) ≡ o → fault ≡ refusal_of o
                → core' ≡ table_served (core_in table) o → answer' ≡ oq_answer_after answer o → fault ≡ no_fault
                → bytes_of word_size fair_number_oq ++ (core' ++ memory') ≡ table_held table records o
            unfolding table_served table_held fair_of after_of fair_bytes refusal_of
            whole-table (done d) e f c a k =
                ap₂ (λ x y. bytes_of word_size fair_number_oq ++ (x ++ y)) c (memory-after d e a)
            whole-table (refused r place) e f c a k = absurd (clear-not (sym k ∙ f))

            pub fair-leaves : HeldLeaves table records answer fault (three core' size memory') answer'
            fair-leaves =
                let o : Outcome Served = slot_oq s (some made) in
                let f : fault ≡ refusal_of outcome = served.0 ∙ ap refusal_of made-outcome in (
                  f,
                  (
                    three-parts core' size memory'
                        ∙ whole-table o refl served.0 served.1.0 served.1.1 (f ∙ fault-outcome ∙ clear)
                        ∙ ap (table_held table records) made-outcome,
                    served.1.1 ∙ same_answer answer o ∙ ap (answer_after oq answer) made-outcome,
                  ),
                )

------------------------------------------------------------------------
-- no record behind the seventeenth is looked at

-- the outcomes are refusals alike
pub record Alike (x : Fair Switch) (records : List Arrival) : Type 0 where
  pub r : Refusal
  pub place : ℕ
  pub first : fair_slot_oq x (some (take held_limit records)) ≡ refused r place
  pub all : fair_slot_oq x (some records) ≡ refused r place

pub first-tell : (x : Fair Switch) (records : List Arrival) → x.core.ports ≤ port_limit
    → (take held_limit records ≡ records) ⊎ Alike x records
unfolding slot_of
first-tell x records few = elim (either (leb (length records) held_limit)) [
  | inl short ↦ inl (take_all held_limit records (leb-true (length records) held_limit short))
  | inr long ↦ inr (more (omega (arith, leb-false (length records) held_limit long)))
]
  where
    more : held_limit ≤ length records → Alike x records
    more many =
        go (fair-first x.core.ports x.core.clock (cells x.core) x.memory few records many)
        (eqb x.core.clock clock_end) refl
      where
        go : (f : Refusal × ℕ)
            × (record_fault_from x.core.ports x.core.clock (cells x.core) x.memory 1 none (take 17 records) ≡ some f)
            × (record_fault_from x.core.ports x.core.clock (cells x.core) x.memory 1 none records ≡ some f)
            → (b : Bool) → eqb x.core.clock clock_end ≡ b → Alike x records
        go (f, p, q) true e = record { r = ClockEnd; place = 0; first = rw (e, slot_of); all = rw (e, slot_of) }
        go (f, p, q) false e =
            record { r = f.0; place = f.1; first = rw (e, p, slot_of); all = rw (e, q, slot_of) }
