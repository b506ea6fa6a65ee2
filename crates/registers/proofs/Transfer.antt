-- The masks of an SPI completion are the words that the rule spells bit by bit.
use Prim.Native.Nat.{ℕ, ◌+◌, ◌-◌, ◌*◌, ◌/◌, ◌%◌, ◌^◌, ◌<◌, ◌≤◌}
use mathlib.Core.Bool.{Bool, cond}
use mathlib.Core.List.{List}
use mathlib.Core.Path.{◌≡◌, refl, sym, ap, ◌∙◌}
use native.Mathlib.Nat.{mod-eq_of_lt}
use native.Mathlib.Omega.{arith}
use borrow.Author.Tests.{le-ltb}
use lib.Bits.{bit_and, bit_or}
use lib.Dec.{ltb}
use lib.ListN.{get_or}
use lib.Pow.{pow-lt}
use Rattle.bits.specs.Bits.{bit_of}
use Rattle.bits.proofs.Bits.{is_word, word_same}
use Rattle.bits.proofs.Masks.{bit_none, bit_below, chosen_by}
use Rattle.parts.specs.Parts.{part}
use Rattle.parts.specs.Digits.{number}
use Rattle.bits.proofs.Tests.{ltb_same}
use Rattle.commands.specs.declared.command.Register.TheVariants.{SpiControl, SpiData0, SpiData1, SpiData2, SpiData3}
use Rattle.registers.specs.Registers.{size, read, store}
use Rattle.registers.proofs.Laws.{length_store, read_other}
use Rattle.registers.specs.Transfer.{transfer_length, data_words, words_in, completed_bit, completed_word, filled, merged_word, data_after, with_data}

module _ (length from : ℕ) where
  abbrev below : ℕ → Bool
  below i = ltb (from + i) length

  pub filled_none : length ≤ from → 0 ≡ filled length from
  unfolding filled
  filled_none h = is_word 32 0 below (omega arith) (λ i l. bit_none i ∙ sym (le-ltb (from + i) length (omega arith)))

  pub filled_all : from < length → 32 ≤ length - from → 4294967295 ≡ filled length from
  unfolding filled
  filled_all h n =
      is_word 32 4294967295 below (omega arith)
      (λ i l. bit_below 32 i ∙ ltb_same i 32 (from + i) length (λ _. omega arith) (λ _. l))

  pub shifted : length - from < 32 → 1 * 2 ^ (length - from) % 4294967296 ≡ 2 ^ (length - from)
  shifted n =
      let e : 1 * 2 ^ (length - from) ≡ 2 ^ (length - from) = omega arith in
      rw e (mod-eq_of_lt (pow-lt {i = length - from} {j = 32} n))

  pub filled_low : from < length → length - from < 32 → 1 * 2 ^ (length - from) % 4294967296 - 1 ≡ filled length from
  unfolding filled
  filled_low h n =
      rw (shifted n)
      (is_word 32 (2 ^ (length - from) - 1) below (omega (arith, pow-lt {i = length - from} {j = 32} n))
      (λ i l. bit_below (length - from) i ∙ ltb_same i (length - from) (from + i) length (λ x. omega arith) (λ x. omega arith)))

  pub merged_mask : (was received mask : ℕ) → mask ≡ filled length from
      → bit_or (bit_and was (4294967295 - mask)) (bit_and received mask) ≡ merged_word length from was received
  unfolding merged_word filled
  merged_mask was received mask e = rw e (chosen_by 32 was received below)

-- one word of DATA, whichever it is
merged_completed : (w length : ℕ) (was received : List ℕ) → merged_word length (32 * w) (get_or was w 0) (get_or received w 0) ≡ completed_word length was received w
unfolding merged_word completed_word
merged_completed w length was received =
    word_same 32 (λ i. cond (ltb (32 * w + i) length) (bit_of (get_or received w 0) i) (bit_of (get_or was w 0) i))
    (λ i. completed_bit length was received (32 * w + i))
    (λ i l.
    let q : (32 * w + i) / 32 ≡ w = omega arith in
    let m : (32 * w + i) % 32 ≡ i = omega arith in
    rw (q, m))

-- the words one after another: what is stored before a word leaves it
pub words_filled : (rs received s0 s1 s2 s3 : List ℕ) (control length r0 r1 r2 r3 : ℕ) → lib.ListN.length rs ≡ size
    → control ≡ read rs SpiControl → length ≡ transfer_length control
    → r0 ≡ number (part 0 4 received) → s0 ≡ store rs SpiData0 (merged_word length 0 (read rs SpiData0) r0)
    → r1 ≡ number (part 4 4 received) → s1 ≡ store s0 SpiData1 (merged_word length 32 (read s0 SpiData1) r1)
    → r2 ≡ number (part 8 4 received) → s2 ≡ store s1 SpiData2 (merged_word length 64 (read s1 SpiData2) r2)
    → r3 ≡ number (part 12 4 received) → s3 ≡ store s2 SpiData3 (merged_word length 96 (read s2 SpiData3) r3)
    → s3 ≡ with_data rs (data_after rs received)
unfolding with_data data_after
words_filled rs received s0 s1 s2 s3 control length r0 r1 r2 r3 n c l k0 e0 k1 e1 k2 e2 k3 e3 =
    let m0 : lib.ListN.length s0 ≡ size = ap lib.ListN.length e0 ∙ length_store rs SpiData0 _ n in
    let m1 : lib.ListN.length s1 ≡ size = ap lib.ListN.length e1 ∙ length_store s0 SpiData1 _ m0 in
    let d1 : read s0 SpiData1 ≡ read rs SpiData1 = rw e0 (read_other rs SpiData0 _ n SpiData1 refl) in
    let a2 : read s0 SpiData2 ≡ read rs SpiData2 = rw e0 (read_other rs SpiData0 _ n SpiData2 refl) in
    let d2 : read s1 SpiData2 ≡ read s0 SpiData2 = rw e1 (read_other s0 SpiData1 _ m0 SpiData2 refl) in
    let a3 : read s0 SpiData3 ≡ read rs SpiData3 = rw e0 (read_other rs SpiData0 _ n SpiData3 refl) in
    let b3 : read s1 SpiData3 ≡ read s0 SpiData3 = rw e1 (read_other s0 SpiData1 _ m0 SpiData3 refl) in
    let d3 : read s2 SpiData3 ≡ read s1 SpiData3 = rw e2 (read_other s1 SpiData2 _ m1 SpiData3 refl) in
    let word : (w : ℕ) → merged_word length (32 * w) (get_or (data_words rs) w 0) (get_or (words_in received) w 0) ≡ completed_word length (data_words rs) (words_in received) w =
    λ w. merged_completed w length (data_words rs) (words_in received) in
    rw (e3, d3, b3, a3, k3, word 3, e2, d2, a2, k2, word 2, e1, d1, k1, word 1, e0, k0, word 0, l, c) refl
