-- The bits of a record's first four bytes that no entry has, and what it says of the fields that none is set.
use Prim.Native.Nat.{ℕ, ◌+◌, ◌-◌, ◌*◌, ◌/◌, ◌%◌, ◌^◌, ◌≤◌, ◌<◌}
use mathlib.Core.Path.{◌≡◌, sym, ◌∙◌, ap}
use mathlib.Core.List.{List}
use native.Mathlib.Omega.{arith}
use lib.Bits.{bit_and, and_block, and_high}
use lib.ListN.{length, get_or}
use lib.Pow.{shr_mod}
use Rattle.layout.specs.Number.{word}
use Rattle.layout.specs.Entry.{entry_at}
use Rattle.layout.specs.Code.{record_start, place_byte_at}
use Rattle.layout.proofs.Halves.{number_at-halves, number_at-byte}
use Rattle.layout.proofs.Records.{entry_at-output, entry_at-flow, entry_at-slot, place_byte_at-byte}

abbrev pub spare_bits : ℕ
spare_bits = 0xfffc_f8f0

-- a word byte by byte
word_bytes : (bs : List ℕ) (at : ℕ) → at + 4 ≤ length bs
    → word bs at
    ≡ ((get_or bs (at + 3) 0 * 2 ^ 8 + get_or bs (at + 2) 0) * 2 ^ 8 + get_or bs (at + 1) 0) * 2 ^ 8 + get_or bs at 0
unfolding word
word_bytes bs at room =
    let a = number_at-halves 1 3 at bs (omega arith) in
    let b = number_at-halves 1 2 (at + 1) bs (omega arith) in
    let c = number_at-halves 1 1 (at + 1 + 1) bs (omega arith) in
    let two : at + 1 + 1 ≡ at + 2 = omega arith in
    let three : at + 1 + 1 + 1 ≡ at + 3 = omega arith in
    omega (
      arith,
      a,
      b,
      c,
      number_at-byte at bs,
      number_at-byte (at + 1) bs,
      number_at-byte (at + 1 + 1) bs ∙ ap (λ n. get_or bs n 0) two,
      number_at-byte (at + 1 + 1 + 1) bs ∙ ap (λ n. get_or bs n 0) three,
    )

-- the high bits of a number
high_bits : (n j k : ℕ) → n < 2 ^ (j + k) → bit_and n (2 ^ (j + k) - 2 ^ k) ≡ n / 2 ^ k * 2 ^ k
high_bits n j k h = and_high n j k ∙ ap (λ m. m * 2 ^ k) (shr_mod j k h)

-- the spare bits of a record's first word, byte by byte
module _ (a b c d : ℕ) (fits-a : a < 256) (fits-b : b < 256) (fits-c : c < 256) (fits-d : d < 256) where
  pub spare-bits : bit_and (((d * 2 ^ 8 + c) * 2 ^ 8 + b) * 2 ^ 8 + a) spare_bits
      ≡ ((bit_and d 0xff * 2 ^ 8 + bit_and c 0xfc) * 2 ^ 8 + bit_and b 0xf8) * 2 ^ 8 + bit_and a 0xf0
  spare-bits =
      and_block 8 ((d * 2 ^ 8 + c) * 2 ^ 8 + b) 0xfffcf8 a 0xf0 fits-a (omega arith)
      ∙ ap (λ n. n * 2 ^ 8 + bit_and a 0xf0)
      (and_block 8 (d * 2 ^ 8 + c) 0xfffc b 0xf8 fits-b (omega arith)
      ∙ ap (λ n. n * 2 ^ 8 + bit_and b 0xf8) (and_block 8 d 0xff c 0xfc fits-c (omega arith)))

  -- none is set exactly if each byte is in range
  pub spare-e : bit_and (((d * 2 ^ 8 + c) * 2 ^ 8 + b) * 2 ^ 8 + a) spare_bits ≡ 0
      → (a < 16) × (b < 8) × (c ≤ 3) × (d ≡ 0)
  spare-e h =
      let e = sym spare-bits ∙ h in
      let ea : a / 16 * 16 ≡ 0 = sym (high_bits a 4 4 fits-a) ∙ omega arith in
      let eb : b / 8 * 8 ≡ 0 = sym (high_bits b 5 3 fits-b) ∙ omega arith in
      let ec : c / 4 * 4 ≡ 0 = sym (high_bits c 6 2 fits-c) ∙ omega arith in
      let ed : d / 1 * 1 ≡ 0 = sym (high_bits d 8 0 fits-d) ∙ omega arith in
      omega arith

  pub spare-i : (a < 16) × (b < 8) × (c ≤ 3) × (d ≡ 0)
      → bit_and (((d * 2 ^ 8 + c) * 2 ^ 8 + b) * 2 ^ 8 + a) spare_bits ≡ 0
  spare-i h =
      let ea : bit_and a 0xf0 ≡ 0 = high_bits a 4 4 fits-a ∙ omega arith in
      let eb : bit_and b 0xf8 ≡ 0 = high_bits b 5 3 fits-b ∙ omega arith in
      let ec : bit_and c 0xfc ≡ 0 = high_bits c 6 2 fits-c ∙ omega arith in
      let ed : bit_and d 0xff ≡ 0 = high_bits d 8 0 fits-d ∙ omega arith in
      spare-bits ∙ omega arith

module _ (bs : List ℕ) (byte : (i : ℕ) → get_or bs i 0 < 256) (k : ℕ) (room : record_start (k + 1) ≤ length bs) where
  -- what the spare bits of a record's first word say of its fields
  abbrev Ranges : Type 0
  Ranges =
      ((entry_at bs k).cell.output < 16) × ((entry_at bs k).cell.flow < 8) × (place_byte_at bs k ≤ 3)
      × (◌≡◌ {A = ℕ} (get_or bs (record_start k + 3) 0) 0)

  first_word : word bs (record_start k)
      ≡ ((get_or bs (record_start k + 3) 0 * 2 ^ 8 + place_byte_at bs k) * 2 ^ 8 + (entry_at bs k).cell.flow) * 2 ^ 8
      + (entry_at bs k).cell.output
  first_word =
      word_bytes bs (record_start k) (omega arith)
      ∙ omega (arith, entry_at-output bs k, entry_at-flow bs k, place_byte_at-byte bs k)

  pub ranges-e : bit_and (word bs (record_start k)) spare_bits ≡ 0 → Ranges
  ranges-e h =
      spare-e (entry_at bs k).cell.output (entry_at bs k).cell.flow (place_byte_at bs k) (get_or bs (record_start k + 3) 0)
      (rw entry_at-output (byte _)) (rw entry_at-flow (byte _)) (rw place_byte_at-byte (byte _)) (byte _)
      (ap (λ n. bit_and n spare_bits) (sym first_word) ∙ h)

  pub ranges-i : Ranges → bit_and (word bs (record_start k)) spare_bits ≡ 0
  ranges-i h =
      ap (λ n. bit_and n spare_bits) first_word
      ∙ spare-i (entry_at bs k).cell.output (entry_at bs k).cell.flow (place_byte_at bs k)
      (get_or bs (record_start k + 3) 0) (rw entry_at-output (byte _)) (rw entry_at-flow (byte _))
      (rw place_byte_at-byte (byte _)) (byte _) h

  -- the low byte of the slot
  pub slot-byte : get_or bs (record_start k + 12) 0 ≡ (entry_at bs k).cell.slot % 256
  slot-byte =
      let w = word_bytes bs (record_start k + 12) (omega arith) in
      omega (arith, entry_at-slot bs k, byte (record_start k + 12))
