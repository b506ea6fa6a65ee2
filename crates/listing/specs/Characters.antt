-- Characters are bytes. Hex comes in pairs, lower case out, either case in.
use Rattle.std.specs.Prelude.{ℕ, zero, suc, ◌+◌, ◌*◌, ◌-◌, ◌/◌, ◌%◌, Bool, true, cond, ◌&&◌, ◌||◌, List, [], ◌∷◌, length, drop, get_or, eqb, leb, ltb}

-- Fields are parted by one space.
abbrev pub space : ℕ
space = 32

-- LF ends a line.
abbrev pub line_feed : ℕ
line_feed = 10

abbrev pub between : ℕ → ℕ → ℕ → Bool
between low high c = leb low c && leb c high

-- 0 to 9
abbrev pub is_digit : ℕ → Bool
is_digit c = between 48 57 c

-- 0 to 9, A to F, a to f
unfoldable pub is_hex : ℕ → Bool
is_hex c = between 48 57 c || (between 65 70 c || between 97 102 c)

-- the value of a hex digit, and 0 for any other character
unfoldable pub hex_value : ℕ → ℕ
hex_value c =
    cond (between 48 57 c) (c - 48)
    (cond (between 65 70 c) (c - 55)
    (cond (between 97 102 c) (c - 87) 0))

unfoldable pub all_hex : List ℕ → Bool
all_hex [] = true
all_hex (c ∷ s) = is_hex c && all_hex s

-- at least one pair of hex digits, and nothing else
unfoldable pub are_pairs : List ℕ → Bool
are_pairs s = ltb 0 (length s) && (eqb (length s % 2) 0 && all_hex s)

-- the byte of the pair at the front
abbrev pub front_pair : List ℕ → ℕ
front_pair s = 16 * hex_value (get_or s 0 0) + hex_value (get_or s 1 0)

-- the bytes of the n pairs at the front
unfoldable pub pair_bytes : ℕ → List ℕ → List ℕ
pair_bytes zero s = []
pair_bytes (suc n) s = front_pair s ∷ pair_bytes n (drop 2 s)

-- ---- out

-- 0 to 9, a to f
unfoldable pub hex_digit : ℕ → ℕ
hex_digit n = cond (ltb n 10) (48 + n) (87 + n)

unfoldable pub hex_text : List ℕ → List ℕ
hex_text [] = []
hex_text (b ∷ s) = hex_digit (b / 16) ∷ hex_digit (b % 16) ∷ hex_text s
