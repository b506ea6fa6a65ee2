-- What a line says: document 01, "Bench listing". Lines up to 80 characters: F port body, S 32 hex digits, P 8 hex digits and kind,
-- U, B for step back; and I for the completion of one I2C channel. Any other line, an empty or longer one too, is not readable.
use Rattle.std.specs.Prelude.{ℕ, ◌+◌, ◌*◌, ◌-◌, ◌/◌, Bool, cond, ◌&&◌, ◌||◌, Option, None, Some, length, take, drop, get_or, eqb}
use mathlib.Core.List.{List, foldl}
use Rattle.chip.specs.Event.{spi, i2c, Event, frame, completion, sample, upset}
use Rattle.listing.specs.declared.Form.{Form}
use Rattle.listing.specs.declared.Form.TheVariants.{Frame, Completion, Sample, I2c, Upset, Back}
use Rattle.listing.specs.Characters.{space, between, is_digit, hex_value, are_pairs, front_pair, pair_bytes}

-- the letters
abbrev pub letter_f : ℕ
letter_f = 70

abbrev pub letter_s : ℕ
letter_s = 83

abbrev pub letter_p : ℕ
letter_p = 80

abbrev pub letter_i : ℕ
letter_i = 73

abbrev pub letter_u : ℕ
letter_u = 85

abbrev pub letter_b : ℕ
letter_b = 66

-- F, a space, the port, a space, and a body of at least one pair
unfoldable pub is_frame : List ℕ → Bool
is_frame l =
    between 6 80 (length l)
    && (eqb (get_or l 0 0) letter_f
    && (eqb (get_or l 1 0) space
    && (is_digit (get_or l 2 0)
    && (eqb (get_or l 3 0) space
    && are_pairs (drop 4 l)))))

-- S, a space, and 32 hex digits
unfoldable pub is_completion : List ℕ → Bool
is_completion l = eqb (length l) 34 && (eqb (get_or l 0 0) letter_s && (eqb (get_or l 1 0) space && are_pairs (drop 2 l)))

-- P, a space, 8 hex digits, a space and the kind
unfoldable pub is_sample : List ℕ → Bool
is_sample l =
    eqb (length l) 12
    && (eqb (get_or l 0 0) letter_p
    && (eqb (get_or l 1 0) space
    && (are_pairs (take 8 (drop 2 l))
    && (eqb (get_or l 10 0) space
    && is_digit (get_or l 11 0)))))

-- 0 or 1
abbrev pub is_bit : ℕ → Bool
is_bit c = between 48 49 c

-- what may stand behind line-low: nothing, or a space and at least one pair
unfoldable pub is_rest : List ℕ → Bool
is_rest t = eqb (length t) 0 || (eqb (get_or t 0 0) space && are_pairs (drop 1 t))

-- I, a space, the channel's pair, a space, acknowledge, a space, line-low; then, if bytes came, a space and their pairs
unfoldable pub is_i2c : List ℕ → Bool
is_i2c l =
    between 8 80 (length l)
    && (eqb (get_or l 0 0) letter_i
    && (eqb (get_or l 1 0) space
    && (are_pairs (take 2 (drop 2 l))
    && (eqb (get_or l 4 0) space
    && (is_bit (get_or l 5 0)
    && (eqb (get_or l 6 0) space
    && (is_bit (get_or l 7 0)
    && is_rest (drop 8 l))))))))

-- one letter alone: U an upset, B a step back
unfoldable pub is_letter : ℕ → List ℕ → Bool
is_letter letter l = eqb (length l) 1 && eqb (get_or l 0 0) letter

unfoldable pub form_of : List ℕ → Option Form
form_of l =
    cond (is_frame l) (Some Frame)
    (cond (is_completion l) (Some Completion)
    (cond (is_sample l) (Some Sample)
    (cond (is_i2c l) (Some I2c)
    (cond (is_letter letter_u l) (Some Upset)
    (cond (is_letter letter_b l) (Some Back) None)))))

-- ---- what each form says

pub data Line : Type 0 where
  happens : Event → Line
  back : Line
  unreadable : Line

abbrev pub frame_of : List ℕ → Event
frame_of l = frame (hex_value (get_or l 2 0)) (pair_bytes (length (drop 4 l) / 2) (drop 4 l))

-- byte 0 first
abbrev pub completion_of : List ℕ → Event
completion_of l = completion (spi (pair_bytes 16 (drop 2 l)))

-- the top digit first
abbrev pub top_first : List ℕ → ℕ
top_first s = foldl (λ (v b : ℕ). 256 * v + b) 0 s

abbrev pub sample_of : List ℕ → Event
sample_of l = sample (top_first (pair_bytes 4 (drop 2 l))) (hex_value (get_or l 11 0))

-- whether character k is 1
abbrev pub bit_at : List ℕ → ℕ → Bool
bit_at l k = eqb (get_or l k 0) 49

-- the channel of an I2C completion
abbrev pub i2c_channel : List ℕ → ℕ
i2c_channel l = front_pair (drop 2 l)

abbrev pub i2c_acknowledge : List ℕ → Bool
i2c_acknowledge l = bit_at l 5

abbrev pub i2c_line_low : List ℕ → Bool
i2c_line_low l = bit_at l 7

-- byte 0 first; none, where the line ends with line-low
abbrev pub i2c_bytes : List ℕ → List ℕ
i2c_bytes l = pair_bytes ((length l - 9) / 2) (drop 9 l)

abbrev pub i2c_of : List ℕ → Event
i2c_of l = completion (i2c (i2c_channel l) (i2c_acknowledge l) (i2c_line_low l) (i2c_bytes l))

abbrev pub said_by : Option Form → List ℕ → Line
said_by (Some Frame) l = happens (frame_of l)
said_by (Some Completion) l = happens (completion_of l)
said_by (Some Sample) l = happens (sample_of l)
said_by (Some I2c) l = happens (i2c_of l)
said_by (Some Upset) l = happens upset
said_by (Some Back) l = back
said_by None l = unreadable

unfoldable pub read : List ℕ → Line
read l = said_by (form_of l) l
