-- The standard's words that the promises on the wire use, over the receiver's reading of bits.
use Rattle.std.specs.Prelude.{◌≡◌, cond, ℕ, ◌+◌, ◌-◌, ◌%◌, ◌≤◌, ◌<◌, eqb, ltb, length, take, drop, get_or, replicate}
use mathlib.Core.List.{List, [], ◌∷◌, ◌++◌, map, flat_map}
use Rattle.numbers.specs.Numbers as number
use Rattle.wire.specs.Bits.{wire, pack}
use Rattle.wire.specs.Fcs.{fcs}
use Rattle.wire.specs.Frame.{flag}
use Rattle.transmitter.specs.Frame.{frame, framed}
use Rattle.receiver.specs.Receiver.{State, opened}
use Rattle.receiver.specs.Receive.{Answer, bare, Reading, reading}

-- p stands nowhere in bits
abbrev pub absent : List ℕ → List ℕ → Type 0
absent p bits = (i : ℕ) → take (length p) (drop i bits) ≡ p → ⊥

abbrev pub six_ones : List ℕ
six_ones = 1 ∷ 1 ∷ 1 ∷ 1 ∷ 1 ∷ 1 ∷ []

abbrev pub seven_ones : List ℕ
seven_ones = 1 ∷ six_ones

-- after five ones the receiver removes a zero; k ones have gone before
unfoldable pub unstuff : ℕ → List ℕ → List ℕ
unstuff k [] = []
unstuff k (b ∷ bs) = cond (eqb b 0) (cond (eqb k 5) (unstuff 0 bs) (0 ∷ unstuff 0 bs)) (1 ∷ unstuff (k + 1) bs)

abbrev pub destuff : List ℕ → List ℕ
destuff raw = unstuff 0 raw

-- the bytes of content before the last two
abbrev pub bytes_before : List ℕ → List ℕ
bytes_before content = pack (take (length content - 16) content)

-- the last sixteen bits of content are the FCS of the bits before them
abbrev pub FcsRight : List ℕ → Type 0
FcsRight content = drop (length content - 16) content ≡ wire (fcs (bytes_before content))

-- at a seventh one: 24 with at least 32 content bits before the run of ones, else no answer
abbrev pub at_abort : List ℕ → Answer
at_abort content = cond (ltb (length content) 32) (bare number.no_frame) (bare number.aborted)

-- a reading that has come to answer a and state s with n bits consumed, while rest follows: it stops there,
-- and where a is no answer (17) it goes on
abbrev pub after : Answer → State → ℕ → List ℕ → Reading
after a s n rest =
    cond (eqb a.number number.no_frame)
    (record { answer = (reading s rest).answer; state = (reading s rest).state; consumed = n + (reading s rest).consumed })
    (record { answer = a; state = s; consumed = n })

-- the reading that finds a body, after so many bits
abbrev pub found : List ℕ → ℕ → Reading
found body n = record { answer = record { number = number.has_frame; body = body }; state = opened; consumed = n }

-- ---- frames one after the other

-- a body that can be sent: 2 to 16 bytes
pub record Body (body : List ℕ) : Type 0 where
  pub small : (i : ℕ) → get_or body i 0 < 256
  pub least : number.body_least ≤ length body
  pub most : length body ≤ number.body_most

abbrev pub Bodies : List (List ℕ) → Type 0
Bodies [] = Unit
Bodies (body ∷ bodies) = Body body × Bodies bodies

-- the ones that fill the last byte of a body's frame
abbrev pub filling : List ℕ → ℕ
filling body = (8 - length (frame body) % 8) % 8

-- the bytes of their frames, each filled up with ones to whole bytes
abbrev pub cable : List (List ℕ) → List ℕ
cable bodies = flat_map framed bodies

-- the answers that bring them back
abbrev pub brought_back : List (List ℕ) → List Answer
brought_back bodies = map (λ (body : List ℕ). record { number = number.has_frame; body = body }) bodies

-- ---- after a flag

-- what bits may be
pub data AfterFlag : List ℕ → Type 0 where
  -- they run out with no six ones in a row, or in six ones
  unended : (bits : List ℕ) → absent six_ones bits → AfterFlag bits
  six_last : (raw : List ℕ) → absent six_ones raw → get_or raw (length raw - 1) 0 ≡ 0 → AfterFlag (raw ++ six_ones)
  -- a flag closes the frame
  closes : (raw rest : List ℕ) → absent six_ones raw → AfterFlag (raw ++ (flag ++ rest))
  -- a flag shares the zero of the flag before it
  shares : (rest : List ℕ) → AfterFlag (drop 1 flag ++ rest)
  -- seven ones abort
  aborts : (raw rest : List ℕ) → absent six_ones raw → get_or raw (length raw - 1) 0 ≡ 0 → AfterFlag (raw ++ (seven_ones ++ rest))

-- ---- hunting

-- a hunting receiver that has seen this many ones since a zero; 7 where they can begin no flag
abbrev pub hunter : ℕ → State
hunter ones = record { mode = 0; ones = ones; lead = 0; content = [] }

-- the bits that it has seen of what may become a flag
unfoldable pub seen : ℕ → List ℕ
seen ones = cond (eqb ones 7) [] (0 ∷ replicate ones 1)

-- what bits may be
pub data WhileHunting : ℕ → List ℕ → Type 0 where
  -- no flag ends in them
  flagless : {ones : ℕ} (bits : List ℕ) → absent flag (seen ones ++ bits) → WhileHunting ones bits
  -- a flag ends that the bits before them began
  ends_begun : {ones : ℕ} (rest : List ℕ) → ones ≤ 6 → WhileHunting ones (replicate (6 - ones) 1 ++ (0 ∷ rest))
  -- they hold a flag, the first
  holds_flag : {ones : ℕ} (p rest : List ℕ) → absent flag (seen ones ++ (p ++ take 7 flag)) → WhileHunting ones (p ++ (flag ++ rest))
