-- The cells of a slot's records join, one by one.
--     joined_bytes       the entry behind the last of its section and the raised count, in the table's bytes
--     Joins              the first n have joined
--     joins-none, joins-may, joins-next, joins-all     none have, the next one may, it has, all have
use Prim.Native.Nat.{ℕ, suc, ◌+◌, ◌*◌, ◌-◌, ◌≤◌, ◌<◌}
use mathlib.Core.Bool.{Bool, true}
use mathlib.Core.Path.{◌≡◌, refl, sym, ◌∙◌, ap, ap₂, subst}
use mathlib.Core.List.Memᴰ
use mathlib.Core.List.{List, [], ◌∷◌, ◌++◌, map, Memᴰ}
use mathlib.Core.Option.{some}
use native.Mathlib.Numerals.{add-one}
use native.Mathlib.Omega.{arith}
use borrow.Author.Tests.{ltb-true}
use lib.Dec.{ltb}
use lib.ListN.{length, take, drop, set, get_or, take-append-drop, length-map, get_or-map}
use lib.Seq.{take-suc, take_all, drop-length, split_at}
use Rattle.laws.specs.Lists.{all?, pairwise, update}
use Rattle.laws.proofs.Tests.{and_i}
use Rattle.laws.proofs.Lists.{get_or-mem, all?-append}
use Rattle.laws.proofs.Pairwise.{pairwise-append-l, pairwise-split}
use Rattle.cell.specs.declared.Arrival.{Arrival}
use Rattle.cell.specs.declared.Cell.{Cell}
use Rattle.cell.specs.Cell.{accepted, arrival_fits}
use Rattle.cell.specs.Limits.{section_room, port_limit, flow_limit}
use Rattle.model.specs.Checks.{first_fault}
use Rattle.model.specs.Oq.{join_buffer, join_buffers}
use Rattle.model.specs.Sound.{sound}
use Rattle.model.specs.State.{buffered, Entry, Switch, cells}
use Rattle.model.proofs.Admitted.{Admitted}
use Rattle.model.proofs.Insert.{Came, kept, entered as came, come-at}
use Rattle.model.proofs.OqSound.{joined_length, joined-sound}
use Rattle.model.proofs.SoundArrival.{arrival-admitted, arrival-room}
use Rattle.model.proofs.SoundLaws.{SoundTable, sound-e, sound-i}
use Rattle.layout.specs.Code.{record_start, put, ports_in}
use Rattle.layout.specs.Entry.{clock_in, count_in}
use Rattle.layout.specs.Table.{entry_size, place_of, entry_bytes, state_of, encode, decode, IsTable}
use Rattle.layout.proofs.Number.{below-fits32}
use Rattle.layout.proofs.Table.{state_of-encode, decode-encode, sound-ports}
use Rattle.layout_table.specs.CodeEntries.{entry_with}
use Rattle.slot_view.proofs.Placed.{decode-ports, decode-count}
use Rattle.slot_arrival.specs.CodeArrival.{raised, Arriving}
use Rattle.slot_faults.specs.CodeFault.{section_in, coming}
use Rattle.slot_arrival.proofs.Insert.{moved_up-none, changed_at, inserted-bytes}
use Rattle.slot_arrival.proofs.OneByOne.{no-fault}
use Rattle.slot_faults.proofs.Records.{coming-take}
use Rattle.slot_faults.proofs.Stored.{table-sound, table-clock, table-ports, section-length}
use Rattle.oq_slot.specs.Code.{joined, joined_all, MayJoin}

abbrev joining : Cell → Entry
joining c = record { cell = c; place = buffered }

------------------------------------------------------------------------
-- the bytes

module _ (bs : List ℕ) (t : IsTable bs) (c : Cell) (within : c.input < ports_in bs)
    (room : count_in bs c.input < section_room) where
  abbrev here : List Entry
  here = section_in bs c.input

  -- the last place of a section
  last : (n : ℕ) → length here ≡ n → join_buffer c here ≡ take n here ++ joining c ∷ drop n here
  unfolding join_buffer
  last n e =
      sym (ap₂ (λ x y. x ++ joining c ∷ y) (take_all n here (omega arith))
      (ap (λ k. drop k here) (sym e) ∙ drop-length here))

  pub joined_bytes : (count : ℕ) (new : List ℕ) → count ≡ count_in bs c.input
      → new ≡ put (record_start (section_room * c.input + count)) entry_size (entry_bytes (entry_with c 3)) bs
      → set new (16 + c.input) (count + 1) ≡ encode (joined c (state_of bs))
  unfolding joined changed_at entry_with place_of
  joined_bytes count new p n =
      let at : ℕ = section_room * c.input + count in
      inserted-bytes bs t c.input within room count (omega arith) (joining c) (join_buffer c)
      (last count (section-length bs t c.input within ∙ sym p)) at count bs new refl p
      (moved_up-none (record_start at) entry_size bs) n

------------------------------------------------------------------------
-- the records

-- one record more
joins-last : (clock : ℕ) (records : List Arrival) (a : Arrival) (sections : List (List Entry))
    → join_buffers (map (accepted clock) (records ++ (a ∷ []))) sections
    ≡ update a.input (join_buffer (accepted clock a)) (join_buffers (map (accepted clock) records) sections)
unfolding join_buffers accepted
joins-last clock [] a sections = refl
joins-last clock (r ∷ records) a sections =
    joins-last clock records a (update r.input (join_buffer (accepted clock r)) sections)

-- each section gets at most one cell
joins-nil : (sections : List (List Entry)) → join_buffers [] sections ≡ sections
unfolding join_buffers
joins-nil sections = refl

joins-cons : (c : Cell) (cs : List Cell) (sections : List (List Entry))
    → join_buffers (c ∷ cs) sections ≡ join_buffers cs (update c.input (join_buffer c) sections)
unfolding join_buffers
joins-cons c cs sections = refl

-- the first n have joined: the table is that of the switch then, with the clock of the next slot
pub record Joins (table : List ℕ) (records : List Arrival) (n : ℕ) (cur : List ℕ) : Type 0 where
  pub holds : cur ≡ encode (joined_all (state_of table) (take n records))
  pub fits : all? arrival_fits (take n records) ≡ true

module _ (table : List ℕ) (records : List Arrival) (g : Arriving table records) where
  abbrev s : Switch
  s = state_of table

  abbrev cs : List Cell
  cs = coming s records

  abbrev after : ℕ → Switch
  after n = joined_all s (take n records)

  old : SoundTable s
  old = sound-e s (table-sound table g.sound)

  after-sound : (n : ℕ) → all? arrival_fits (take n records) ≡ true → sound (after n) ≡ true
  unfolding joined_all coming
  after-sound n fits =
      sound-i (after n)
      (record {
        ports = old.ports;
        clock = below-fits32 (s.clock + 1) (omega (arith, table-clock table g.sound, g.early));
        inputs = joined_length (coming s (take n records)) s.sections ∙ old.inputs;
        sections = joined-sound s (take n records) (table-sound table g.sound) (no-fault table records g n) fits;
      })

  admit : Admitted s.ports (cells s) cs
  unfolding coming
  admit =
      arrival-admitted s records (table-sound table g.sound)
      (ap (λ p. first_fault p (cells s) cs) (table-ports table g.sound) ∙ g.clear)

  pub joins-none : (new : List ℕ) → new ≡ encode (raised s) → Joins table records 0 new
  unfolding raised joined_all coming join_buffers all?
  joins-none new e = record { holds = e; fits = refl }

  module _ (n : ℕ) (cur : List ℕ) (h : Joins table records n cur) where
    here-is : decode cur ≡ some (after n)
    here-is = ap decode h.holds ∙ decode-encode (after n) (after-sound n h.fits)

    state : state_of cur ≡ after n
    state = ap state_of h.holds ∙ state_of-encode (after n) (after-sound n h.fits)

    is-table : IsTable cur
    is-table = here-is ∙ ap some (sym state)

    clock-is : clock_in cur ≡ s.clock + 1
    unfolding joined_all
    clock-is = sym (table-clock cur is-table) ∙ ap (λ z. z.clock) state

    pub joins-all : length records ≤ n → IsTable cur × (state_of cur ≡ joined_all s records)
    joins-all past = (is-table, state ∙ ap (joined_all s) (take_all n records past))

    -- the next one
    module _ (more : n < length records) (d : Arrival) where
      abbrev a : Arrival
      a = get_or records n d

      abbrev c : Cell
      c = accepted s.clock a

      taken : take (n + 1) records ≡ take n records ++ (a ∷ [])
      taken = ap (λ k. take k records) (add-one n) ∙ take-suc records n d more

      next-is : joined c (after n) ≡ after (n + 1)
      unfolding joined joined_all coming accepted
      next-is =
          λ k.
          record {
            ports = s.ports;
            clock = s.clock + 1;
            sections =
                sym (ap (λ l. join_buffers (map (accepted s.clock) l) s.sections) taken
                ∙ joins-last s.clock (take n records) a s.sections) k;
          }

      pub joins-next : (new : List ℕ) → arrival_fits a ≡ true
          → new ≡ encode (joined (accepted (clock_in cur - 1) a) (state_of cur)) → Joins table records (n + 1) new
      unfolding all?
      joins-next new fits w =
          let slot : clock_in cur - 1 ≡ s.clock = omega (arith, clock-is) in
          record {
            holds = w ∙ ap₂ (λ k z. encode (joined (accepted k a) z)) slot state ∙ ap encode next-is;
            fits =
                ap (all? arrival_fits) taken
                ∙ all?-append arrival_fits (take n records) (a ∷ [])
                ∙ and_i _ _ h.fits (and_i _ _ fits refl);
          }

      -- it is one of the cells, behind the first n
      inside : n < length cs
      unfolding coming
      inside = omega (arith, length-map records (accepted s.clock))

      at_n : get_or cs n (accepted s.clock d) ≡ c
      unfolding coming
      at_n = get_or-map (accepted s.clock) records n d

      split : cs ≡ take n cs ++ c ∷ drop (suc n) cs
      split = split_at cs n (accepted s.clock d) inside ∙ ap (λ x. take n cs ++ x ∷ drop (suc n) cs) at_n

      among : Memᴰ c cs
      among = subst (λ x. Memᴰ x cs) at_n (get_or-mem cs n (accepted s.clock d) inside)

      -- its input has had no cell yet, and has room for one
      room-left : length (get_or (join_buffers (take n cs) s.sections) c.input []) < section_room
      unfolding cells
      room-left =
          go (come-at join_buffer join_buffers joins-nil joins-cons (take n cs) s.sections
          (λ d m. inputs d (earlier m)) (pairwise-append-l rises (take n cs) (drop n cs) turns) c.input)
        where
          rises : Cell → Cell → Bool
          rises x y = ltb x.input y.input

          earlier : {d : Cell} → Memᴰ d (take n cs) → Memᴰ d cs
          earlier m = subst (Memᴰ _) (take-append-drop n cs) (Memᴰ.append_left (drop n cs) m)

          inputs : (d : Cell) → Memᴰ d cs → d.input < length s.sections
          inputs d m = omega (arith, admit.inputs d m, old.inputs)

          turns : pairwise rises (take n cs ++ drop n cs) ≡ true
          turns = rw (take-append-drop n cs) admit.turns

          go : Came join_buffer (take n cs) s.sections (join_buffers (take n cs) s.sections) c.input
              → length (get_or (join_buffers (take n cs) s.sections) c.input []) < section_room
          go (kept q) =
              rw q (arrival-room s.ports s.clock s.sections old.sections c (admit.rooms c among))
          go (came d m q r) =
              absurd (omega (
                arith,
                ltb-true d.input c.input
                    (pairwise-split rises m (Memᴰ.head refl) (rw split at admit.turns)),
              ))

      pub joins-may : MayJoin a cur
      unfolding joined_all accepted
      joins-may =
          record {
            sound = is-table;
            risen = omega (arith, clock-is);
            input = rw (decode-ports cur (after n) here-is) port;
            room =
                rw (decode-count cur (after n) here-is a.input (omega (arith, few, port)))
                (rw (coming-take s n records) at room-left);
            output = omega (arith, few, admit.outputs c among);
            flow = omega (arith, ltb-true c.flow flow_limit (admit.flows c among));
          }
        where
          few : s.ports ≤ port_limit
          few = sound-ports s (table-sound table g.sound)

          port : a.input < s.ports
          port = admit.inputs c among
