-- An output line: answer and kept number, then for answer 0 port and body.
use Rattle.std.specs.Prelude.{ℕ, ◌+◌, ◌/◌, ◌%◌, Bool, cond, List, [], ◌∷◌, ◌++◌, length, eqb, leb}
use Rattle.parts.specs.Parts.{put}
use Rattle.numbers.specs.Numbers.{has_frame}
use Rattle.listing.specs.Characters.{space, line_feed, hex_text}

-- one character where it is wanted
abbrev pub optional : Bool → ℕ → List ℕ
optional wanted c = cond wanted (c ∷ []) []

-- a number below 1,000 without leading zeros
unfoldable pub decimal : ℕ → List ℕ
decimal n = optional (leb 100 n) (48 + n / 100) ++ (optional (leb 10 n) (48 + n / 10 % 10) ++ ((48 + n % 10) ∷ []))

unfoldable pub frame_text : ℕ → List ℕ → List ℕ
frame_text port body = space ∷ (decimal port ++ (space ∷ hex_text body))

unfoldable pub answer_text : ℕ → ℕ → ℕ → List ℕ → List ℕ
answer_text number kept port body =
    decimal number ++ (space ∷ (decimal kept ++ (cond (eqb number has_frame) (frame_text port body) [] ++ (line_feed ∷ []))))

-- ---- in a lent buffer

-- the place after a text, and the buffer
pub record Wrote : Type 0 where
  pub next : ℕ
  pub bytes : List ℕ

abbrev pub wrote : ℕ → List ℕ → Wrote
wrote next bytes = record { next = next; bytes = bytes }

-- a text written from a place on: no other byte changes
unfoldable pub written : ℕ → List ℕ → List ℕ → Wrote
written at text bytes = wrote (at + length text) (put at text bytes)
