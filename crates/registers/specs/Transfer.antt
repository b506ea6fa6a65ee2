-- An SPI transfer, bit by bit.
use Rattle.std.specs.Prelude.{ℕ, ◌+◌, ◌*◌, ◌/◌, ◌%◌, Bool, cond, List, [], ◌∷◌, eqb, ltb, get_or}
use Rattle.parts.specs.Parts.{part}
use Rattle.parts.specs.Digits.{number}
use Rattle.bits.specs.Bits.{bit_of, word}
use Rattle.commands.specs.declared.command.Register.TheVariants.{SpiControl, SpiData0, SpiData1, SpiData2, SpiData3, SpiGo}
use Rattle.registers.specs.Registers.{read, store}

-- L: CONTROL bits 6 to 0, 0 meaning 128
abbrev pub transfer_length : ℕ → ℕ
transfer_length control = cond (eqb (control % 128) 0) 128 (control % 128)

-- bit i of 128, in words of 32
abbrev pub data_bit : List ℕ → ℕ → Bool
data_bit words i = bit_of (get_or words (i / 32) 0) (i % 32)

-- DATA, its low 32 bits first
abbrev pub data_words : List ℕ → List ℕ
data_words rs = read rs SpiData0 ∷ read rs SpiData1 ∷ read rs SpiData2 ∷ read rs SpiData3 ∷ []

-- 16 bytes as such words: byte 0 holds bits 7 to 0
abbrev pub words_in : List ℕ → List ℕ
words_in s = number (part 0 4 s) ∷ number (part 4 4 s) ∷ number (part 8 4 s) ∷ number (part 12 4 s) ∷ []

-- The low L bits become the received ones, the others stay.
abbrev pub completed_bit : ℕ → List ℕ → List ℕ → ℕ → Bool
completed_bit length was received i = cond (ltb i length) (data_bit received i) (data_bit was i)

unfoldable pub completed_word : ℕ → List ℕ → List ℕ → ℕ → ℕ
completed_word length was received w = word 32 (λ i. completed_bit length was received (32 * w + i))

-- the bits of such a word that a transfer fills, its lowest being bit `from` of the 128
unfoldable pub filled : ℕ → ℕ → ℕ
filled length from = word 32 (λ i. ltb (from + i) length)

-- A word of DATA whose lowest bit is bit `from` of the 128, and the received word at its place: likewise.
unfoldable pub merged_word : ℕ → ℕ → ℕ → ℕ → ℕ
merged_word length from was received = word 32 (λ i. cond (ltb (from + i) length) (bit_of received i) (bit_of was i))

-- DATA after a transfer of 16 received bytes
unfoldable pub data_after : List ℕ → List ℕ → List ℕ
data_after rs received =
    let after = completed_word (transfer_length (read rs SpiControl)) (data_words rs) (words_in received) in
    after 0 ∷ after 1 ∷ after 2 ∷ after 3 ∷ []

unfoldable pub with_data : List ℕ → List ℕ → List ℕ
with_data rs words =
    let w : ℕ → ℕ = λ i. get_or words i 0 in
    store (store (store (store rs SpiData0 (w 0)) SpiData1 (w 1)) SpiData2 (w 2)) SpiData3 (w 3)

-- A completion fills DATA and closes the GO.
unfoldable pub completed : List ℕ → List ℕ → List ℕ
completed rs received = store (with_data rs (data_after rs received)) SpiGo 0
