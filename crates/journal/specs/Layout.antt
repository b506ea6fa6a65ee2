-- The journal's bytes: a header of 1,024, then a ring of slots of 256 bytes for the records. docs/JOURNAL.md has it byte by byte.
use Rattle.std.specs.Prelude.{ℕ, zero, suc, ◌+◌, ◌*◌, ◌-◌, ◌/◌, ◌%◌, min, Bool, not, cond, ◌&&◌, List, [], ◌∷◌, ◌++◌, length, get_or, set, eqb, leb, ltb}
use Rattle.bits.specs.Table.{Row, row, look}
use Rattle.parts.specs.Parts.{part, put}
use Rattle.journal.specs.declared.Format.{Format}

abbrev pub header_bytes : ℕ
header_bytes = 1024

abbrev pub slot_bytes : ℕ
slot_bytes = 256

-- ---- the formats: how many slots a journal has, and the version that its header says

abbrev pub size_of : Format → ℕ
size_of f = header_bytes + slot_bytes * f.slots

-- a row of the table: bytes of a format's size have this format
abbrev pub sized : Format → Row Format
sized f = row (size_of f) f

-- THE FORMATS THAT ARE KNOWN, found by a journal's length. 17,408 bytes: 64 records, version 1. 52,224 bytes: 200 records, version 2.
abbrev pub small : Format
small = record { slots = 64; version = 1 }

abbrev pub large : Format
large = record { slots = 200; version = 2 }

abbrev pub formats : List (Row Format)
formats = sized small ∷ sized large ∷ []

-- of bytes that no row is as long as: one without slots
abbrev pub no_format : Format
no_format = record { slots = 0; version = 0 }

-- the format of as many bytes
unfoldable pub format_of : ℕ → Format
format_of n = look formats no_format n

-- how many records a journal has room for
abbrev pub slots_of : List ℕ → ℕ
slots_of j = (format_of (length j)).slots

-- no format has this length: the one thing that the emptying call refuses
unfoldable pub wrong_length : List ℕ → Bool
wrong_length j = eqb (slots_of j) 0

-- ---- the header: the mark SCJ, the version in 16 bits, low byte first, the slot of the oldest record, the kept number

abbrev pub header : Format → ℕ → ℕ → List ℕ
header f first kept = 0x53 ∷ 0x43 ∷ 0x4A ∷ f.version % 256 ∷ f.version / 256 ∷ first ∷ kept ∷ []

abbrev pub first_of : List ℕ → ℕ
first_of j = get_or j 5 0

abbrev pub kept_of : List ℕ → ℕ
kept_of j = get_or j 6 0

-- What 4 refuses is all else: a wrong length, mark, version, a first slot that is none, a kept number over the slots.
unfoldable pub well_formed : List ℕ → Bool
well_formed j =
    let f = format_of (length j) in
    not (wrong_length j)
    && (eqb (get_or j 0 0) 0x53
    && eqb (get_or j 1 0) 0x43
    && eqb (get_or j 2 0) 0x4A
    && eqb (get_or j 3 0) (f.version % 256)
    && eqb (get_or j 4 0) (f.version / 256)
    && ltb (first_of j) f.slots
    && leb (kept_of j) f.slots)

-- What the enlarging call takes: a journal of the small size.
unfoldable pub is_small : List ℕ → Bool
is_small j = eqb (length j) (size_of small) && well_formed j

-- ---- the ring

-- where the slot stands that is k slots after the first
abbrev pub place_of : (slots first k : ℕ) → ℕ
place_of slots first k = header_bytes + slot_bytes * ((first + k) % slots)

-- the slot of the k-th oldest record: the oldest is 0
abbrev pub slot_at : List ℕ → ℕ → List ℕ
slot_at j k = part (place_of (slots_of j) (first_of j) k) slot_bytes j

-- the slot of the i-th newest record: the newest is 0
unfoldable pub past : List ℕ → ℕ → List ℕ
past j i = slot_at j (kept_of j - 1 - i)

-- the slots of the k oldest records, the oldest first, one behind the other
unfoldable pub oldest : ℕ → List ℕ → List ℕ
oldest zero j = []
oldest (suc k) j = oldest k j ++ slot_at j k

-- ---- what is written

-- The header's seven bytes, no other: those of the length's own format, of a ring that starts at its first slot.
abbrev pub headed : ℕ → List ℕ → List ℕ
headed kept j = put 0 (header (format_of (length j)) 0 kept) j

-- An empty journal.
unfoldable pub emptied : List ℕ → List ℕ
emptied j = headed 0 j

-- A record more: in the slot after the newest, which in a full ring is the oldest's, so that the ring then starts one slot later.
abbrev pub first_after : (slots first kept : ℕ) → ℕ
first_after slots first kept = cond (eqb kept slots) ((first + 1) % slots) first

-- The kept number goes up by one, to at most the slots.
abbrev pub kept_up : (slots kept : ℕ) → ℕ
kept_up slots kept = min slots (kept + 1)

unfoldable pub pushed : List ℕ → List ℕ → List ℕ
pushed r j =
    set (set (put (place_of (slots_of j) (first_of j) (kept_of j)) r j) 5 (first_after (slots_of j) (first_of j) (kept_of j))) 6
    (kept_up (slots_of j) (kept_of j))

-- The newest record given up: the kept number goes down by one, no other byte changes.
unfoldable pub lowered : List ℕ → List ℕ
lowered j = set j 6 (kept_of j - 1)

-- An enlarged journal: a second buffer that holds the same records, in their order, from its first slot on. Beside these and the header's
-- seven no byte of it changes.
unfoldable pub enlarged : List ℕ → List ℕ → List ℕ
enlarged j second = headed (kept_of j) (put header_bytes (oldest (kept_of j) j) second)
