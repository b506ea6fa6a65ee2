-- A pin sample, line by line: levels of the 32 lines, and an edge kind, 0 the system clock, 1 the strobe rising, 2 the strobe falling.
use Rattle.std.specs.Prelude.{ℕ, Bool, not, ◌&&◌, ◌||◌, cond, List, eqb}
use Rattle.bits.specs.Bits.{bit_of, word}
use Rattle.commands.specs.declared.command.Register.TheVariants.{Datain, Direction, Intsel, Inttrig, Ints, Clksel, Edgesel, Intenable}
use Rattle.registers.specs.Registers.{read, store}

-- A line with DIRECTION 0 takes its level if CLKSEL is 0 and the kind is 0, or CLKSEL is 1 and the kind is 1 with EDGESEL 0 or 2 with EDGESEL 1.
abbrev pub takes : Bool → Bool → Bool → ℕ → Bool
takes direction clksel edgesel kind =
    not direction
    && (not clksel && eqb kind 0 || clksel && (eqb kind 1 && not edgesel || eqb kind 2 && edgesel))

-- the lines that take their level
unfoldable pub taken_lines : ℕ → ℕ → ℕ → ℕ → ℕ
taken_lines direction clksel edgesel kind = word 32 (λ i. takes (bit_of direction i) (bit_of clksel i) (bit_of edgesel i) kind)

-- A line that takes its level has it in DATAIN, another keeps its bit.
unfoldable pub datain_after : List ℕ → ℕ → ℕ → ℕ
datain_after rs levels kind =
    word 32
    (λ i. cond (takes (bit_of (read rs Direction) i) (bit_of (read rs Clksel) i) (bit_of (read rs Edgesel) i) kind)
    (bit_of levels i)
    (bit_of (read rs Datain) i))

-- A line whose bit changed, with INTSEL set, fires on rising when INTTRIG is 1 and on falling when 0 (request 2026-02, after 000, Table 9.7).
abbrev pub fires : Bool → Bool → Bool → Bool → Bool
fires was is intsel inttrig = intsel && cond inttrig (not was && is) (was && not is)

unfoldable pub firing_lines : List ℕ → ℕ → ℕ
firing_lines rs after =
    word 32 (λ i. fires (bit_of (read rs Datain) i) (bit_of after i) (bit_of (read rs Intsel) i) (bit_of (read rs Inttrig) i))

-- If INTENABLE is 1 and a line fires, an interrupt goes out, and INTS becomes the firing lines.
unfoldable pub interrupts : List ℕ → ℕ → ℕ → Bool
interrupts rs levels kind = bit_of (read rs Intenable) 0 && not (eqb (firing_lines rs (datain_after rs levels kind)) 0)

unfoldable pub sampled : List ℕ → ℕ → ℕ → List ℕ
sampled rs levels kind =
    let after = datain_after rs levels kind in
    let taken = store rs Datain after in
    cond (interrupts rs levels kind) (store taken Ints (firing_lines rs after)) taken
