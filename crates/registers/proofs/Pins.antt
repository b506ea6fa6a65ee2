-- The mask expressions of a pin sample are the words that the rules spell line by line.
use Prim.Native.Nat.{ℕ, ◌-◌, ◌^◌, ◌<◌}
use mathlib.Core.Bool.{Bool, false, not, ◌&&◌, ◌||◌}
use mathlib.Core.List.{List}
use mathlib.Core.Path.{◌≡◌}
use native.Mathlib.Omega.{arith}
use borrow.Author.Tests.{ne_eqb}
use lib.Bits.{bit_and, bit_or, and_lt, or_lt}
use lib.Pow.{ones_sub-lt}
use Rattle.bits.specs.Bits.{bit_of, word}
use Rattle.bits.proofs.Bits.{bit_and_lem, bit_or_lem, bit_not, is_word}
use Rattle.bits.proofs.Masks.{bit_none, chosen_by}
use Rattle.bits.proofs.Taut.{taut3, taut4}
use Rattle.commands.specs.declared.command.Register.TheVariants.{Datain, Direction, Clksel, Edgesel}
use Rattle.registers.specs.Registers.{read}
use Rattle.registers.specs.Pins.{takes, taken_lines, datain_after, fires}

-- `!a` at 32 bits
abbrev inv : ℕ → ℕ
inv a = 2 ^ 32 - 1 - a

abbrev taken : ℕ → ℕ → ℕ → ℕ → ℕ → Bool
taken d c e kind i = takes (bit_of d i) (bit_of c i) (bit_of e i) kind

module _ (d c e kind : ℕ) (hd : d < 2 ^ 32) where
  pub taken_0 : c < 2 ^ 32 → kind ≡ 0 → bit_and (inv d) (inv c) ≡ taken_lines d c e kind
  unfolding taken_lines
  taken_0 hc k =
      is_word 32 (bit_and (inv d) (inv c)) (taken d c e kind)
      (and_lt 32 (inv d) (inv c) (ones_sub-lt 32 d) (ones_sub-lt 32 c))
      (λ i h. simp (k, bit_and_lem, bit_not 32 d i hd h, bit_not 32 c i hc h)
      (taut3 (λ d c e. not d && not c) (λ d c e. takes d c e 0) tt (bit_of d i) (bit_of c i) (bit_of e i)))

  pub taken_1 : c < 2 ^ 32 → e < 2 ^ 32 → kind ≡ 1
      → bit_and (bit_and (inv d) c) (inv e) ≡ taken_lines d c e kind
  unfolding taken_lines
  taken_1 hc he k =
      is_word 32 (bit_and (bit_and (inv d) c) (inv e)) (taken d c e kind)
      (and_lt 32 (bit_and (inv d) c) (inv e)
      (and_lt 32 (inv d) c (ones_sub-lt 32 d) hc) (ones_sub-lt 32 e))
      (λ i h. simp (k, bit_and_lem, bit_not 32 d i hd h, bit_not 32 e i he h)
      (taut3 (λ d c e. not d && c && not e) (λ d c e. takes d c e 1) tt (bit_of d i) (bit_of c i) (bit_of e i)))

  pub taken_2 : c < 2 ^ 32 → e < 2 ^ 32 → kind ≡ 2
      → bit_and (bit_and (inv d) c) e ≡ taken_lines d c e kind
  unfolding taken_lines
  taken_2 hc he k =
      is_word 32 (bit_and (bit_and (inv d) c) e) (taken d c e kind)
      (and_lt 32 (bit_and (inv d) c) e
      (and_lt 32 (inv d) c (ones_sub-lt 32 d) hc) he)
      (λ i h. simp (k, bit_and_lem, bit_not 32 d i hd h)
      (taut3 (λ d c e. not d && c && e) (λ d c e. takes d c e 2) tt (bit_of d i) (bit_of c i) (bit_of e i)))

-- no other kind takes a level
pub taken_none : (d c e kind : ℕ) → (kind ≡ 0 → ⊥) → (kind ≡ 1 → ⊥) → (kind ≡ 2 → ⊥) → 0 ≡ taken_lines d c e kind
unfolding taken_lines
taken_none d c e kind n0 n1 n2 =
    is_word 32 0 (taken d c e kind) (omega arith)
    (λ i h. simp (bit_none i, ne_eqb kind 0 n0, ne_eqb kind 1 n1, ne_eqb kind 2 n2)
    (taut3 (λ d c e. false) (λ d c e. not d && (not c && false || c && (false && not e || false && e))) tt (bit_of d i) (bit_of c i) (bit_of e i)))

pub datain_mask : (rs : List ℕ) (d c e was levels kind mask : ℕ) → d ≡ read rs Direction → c ≡ read rs Clksel → e ≡ read rs Edgesel
    → was ≡ read rs Datain → mask ≡ taken_lines d c e kind
    → bit_or (bit_and was (inv mask)) (bit_and levels mask) ≡ datain_after rs levels kind
unfolding datain_after taken_lines
datain_mask rs d c e was levels kind mask hd hc he hw m =
    simp (m, hd, hc, he, hw) (chosen_by 32 (read rs Datain) levels (taken (read rs Direction) (read rs Clksel) (read rs Edgesel) kind))

-- the lines that rose with INTTRIG 1, and those that fell with INTTRIG 0
abbrev rose : ℕ → ℕ → ℕ → ℕ
rose w after t = bit_and (bit_and (inv w) after) t

abbrev fell : ℕ → ℕ → ℕ → ℕ
fell w after t = bit_and (bit_and w (inv after)) (inv t)

pub firing_mask : (w after s t : ℕ) → w < 2 ^ 32 → after < 2 ^ 32 → s < 2 ^ 32 → t < 2 ^ 32
    → bit_and s (bit_or (rose w after t) (fell w after t)) ≡ word 32 (λ i. fires (bit_of w i) (bit_of after i) (bit_of s i) (bit_of t i))
firing_mask w after s t hw hn hs ht =
    is_word 32 (bit_and s (bit_or (rose w after t) (fell w after t))) (λ i. fires (bit_of w i) (bit_of after i) (bit_of s i) (bit_of t i))
    (and_lt 32 s (bit_or (rose w after t) (fell w after t)) hs
    (or_lt 32 (rose w after t) (fell w after t)
    (and_lt 32 (bit_and (inv w) after) t (and_lt 32 (inv w) after (ones_sub-lt 32 w) hn) ht)
    (and_lt 32 (bit_and w (inv after)) (inv t) (and_lt 32 w (inv after) hw (ones_sub-lt 32 after)) (ones_sub-lt 32 t))))
    (λ i h. simp (bit_or_lem, bit_and_lem, bit_not 32 w i hw h, bit_not 32 after i hn h, bit_not 32 t i ht h)
    (taut4 (λ w n s t. s && (not w && n && t || w && not n && not t)) (λ w n s t. fires w n s t) tt (bit_of w i) (bit_of after i) (bit_of s i) (bit_of t i)))
