-- The end of what an I2C master did on its bus: STATUS, DATA, and what its reply carries.
use Rattle.std.specs.Prelude.{ℕ, ◌+◌, ◌*◌, ◌/◌, ◌%◌, ◌^◌, Bool, true, false, not, ◌&&◌, cond, List, leb, ltb, get_or}
use Rattle.bits.specs.Bits.{bit_of, digit}
use Rattle.commands.specs.Field.{Field}
use Rattle.commands.specs.Field.{Ctrl, Status, Open, Data0, Data1, Data2, Data3, master}
use Rattle.commands.specs.declared.command.Register.{Register}
use Rattle.commands.specs.declared.command.Transaction.{Transaction}
use Rattle.commands.specs.declared.command.Transaction.TheVariants.{WriteOne, ReadOne, WriteMany, ReadMany, Modify}
use Rattle.registers.specs.Registers.{read, store}

-- ---- CTRL

-- NBYTE: CTRL bits 6 to 2
abbrev pub nbyte : ℕ → ℕ
nbyte control = control / 4 % 32

abbrev pub one_to_sixteen : ℕ → Bool
one_to_sixteen n = leb 1 n && leb n 16

-- what a start asks of CTRL: only a multi-byte one looks at NBYTE
abbrev pub allows : ℕ → Transaction → Bool
allows control WriteOne = true
allows control ReadOne = true
allows control WriteMany = one_to_sixteen (nbyte control)
allows control ReadMany = one_to_sixteen (nbyte control)
allows control Modify = true

-- ---- STATUS

-- SUCC: acknowledged, and the line not low
abbrev pub success : Bool → Bool → Bool
success acknowledge lineLow = acknowledge && not lineLow

-- bit 2 SUCC, bit 3 LEVERR, bit 6 NOACK, each by itself; bit 5 INVCOM stays as it was
abbrev pub status_after : Bool → Bool → ℕ → ℕ
status_after acknowledge lineLow was =
    digit (success acknowledge lineLow) * 2 ^ 2 + digit lineLow * 2 ^ 3 + digit (bit_of was 5) * 2 ^ 5 + digit (not acknowledge) * 2 ^ 6

-- ---- DATA

-- DATA byte k after a read of so many bytes: below the count the received one, 0 where it lacks; from the count on the one that was there
abbrev pub byte_after : List ℕ → ℕ → ℕ → ℕ → ℕ
byte_after received count k was = cond (ltb k count) (get_or received k 0) was

-- four bytes from byte k on as one word, the first on top
unfoldable pub word_after : List ℕ → ℕ → ℕ → ℕ → ℕ
word_after received count k was =
    byte_after received count k (was / 2 ^ 24 % 256) * 2 ^ 24
    + byte_after received count (k + 1) (was / 2 ^ 16 % 256) * 2 ^ 16
    + byte_after received count (k + 2) (was / 2 ^ 8 % 256) * 2 ^ 8
    + byte_after received count (k + 3) (was % 256)

-- DATA bytes 0 to count - 1 become those received
unfoldable pub filled_word : Register → List ℕ → ℕ → ℕ → List ℕ → List ℕ
filled_word r received count k rs = store rs r (word_after received count k (read rs r))

unfoldable pub filled : ℕ → List ℕ → ℕ → List ℕ → List ℕ
filled i received count rs =
    let word : Field → ℕ → List ℕ → List ℕ = λ f k ss. filled_word (master i f) received count k ss in
    word Data3 12 (word Data2 8 (word Data1 4 (word Data0 0 rs)))

-- only a multi-byte read takes bytes into DATA, a single one its byte into the reply
abbrev pub fills_data : Transaction → Bool
fills_data WriteOne = false
fills_data ReadOne = false
fills_data WriteMany = false
fills_data ReadMany = true
fills_data Modify = false

abbrev pub brings_byte : Transaction → Bool
brings_byte WriteOne = false
brings_byte ReadOne = true
brings_byte WriteMany = false
brings_byte ReadMany = false
brings_byte Modify = false

-- ---- the end

-- The start is closed, STATUS is new; only on SUCC are bytes taken.
unfoldable pub ended : ℕ → Transaction → Bool → Bool → List ℕ → List ℕ → List ℕ
ended i transaction acknowledge lineLow received rs =
    let closed = store rs (master i Open) 0 in
    let told = store closed (master i Status) (status_after acknowledge lineLow (read rs (master i Status))) in
    cond (success acknowledge lineLow && fills_data transaction) (filled i received (nbyte (read rs (master i Ctrl))) told) told

-- The reply: STATUS in D[31:24], a single read's byte in D[23:16], 0 where it lacks.
unfoldable pub end_data : ℕ → Transaction → Bool → Bool → List ℕ → List ℕ → ℕ
end_data i transaction acknowledge lineLow received rs =
    status_after acknowledge lineLow (read rs (master i Status)) * 2 ^ 24
    + cond (success acknowledge lineLow && brings_byte transaction) (get_or received 0 0) 0 * 2 ^ 16
