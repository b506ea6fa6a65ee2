-- What an event gives. A Reaction is the chip's own: the state after it, document 01's number, and the bodies of the frames that it sends.
-- A Response is what code gives back of it, with the frame's length in place of its bytes, which stand in the output.
use Rattle.std.specs.Prelude.{ℕ, ◌+◌, List, [], ◌∷◌, length}
use Rattle.numbers.specs.Numbers.{has_frame, body_most}
use Rattle.parts.specs.Parts.{put}
use Rattle.state.specs.State.{Adapter}
use Rattle.link.specs.declared.Link.{Link}

pub record Reaction : Type 0 where
  pub adapter : Adapter
  pub number : ℕ
  -- the port that the frames leave on
  pub port : ℕ
  -- their bodies: none or one
  pub frames : List (List ℕ)

-- 0 with a frame on a port
abbrev pub sends : Adapter → ℕ → List ℕ → Reaction
sends a port body = record { adapter = a; number = has_frame; port = port; frames = body ∷ [] }

-- another number: no frame, and port 0
abbrev pub gives : Adapter → ℕ → Reaction
gives a n = record { adapter = a; number = n; port = 0; frames = [] }

-- ---- what its caller has of it

-- the length of the frame at the front of the output; 0 where there is none
abbrev pub front_length : List (List ℕ) → ℕ
front_length [] = 0
front_length (body ∷ more) = length body

-- the link, the number, and the frame's port and length
pub record Response : Type 0 where
  pub link : Link
  pub number : ℕ
  pub port : ℕ
  pub length : ℕ

-- An event's answer 0 comes with port and length, any other with both 0.
abbrev pub response : Reaction → Response
response r = record { link = r.adapter.link; number = r.number; port = r.port; length = front_length r.frames }

-- frames in the output from a place on, each at the front of its own 16 bytes; no other byte changes
abbrev pub laid_from : ℕ → List (List ℕ) → List ℕ → List ℕ
laid_from place [] output = output
laid_from place (body ∷ more) output = laid_from (place + body_most) more (put place body output)

abbrev pub laid : List (List ℕ) → List ℕ → List ℕ
laid frames output = laid_from 0 frames output
