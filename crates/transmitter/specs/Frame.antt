-- A frame as it is sent: flag, stuffed content, flag, then ones to fill the last byte (document 01, "The wire").
use Rattle.std.specs.Prelude.{List, ◌++◌, ℕ, ◌-◌, ◌%◌, length, replicate}
use Rattle.wire.specs.Bits.{pack}
use Rattle.wire.specs.Frame.{flag, stuff, content_of}

unfoldable pub frame : List ℕ → List ℕ
frame body = flag ++ stuff 0 (content_of body) ++ flag

-- ones to fill the last byte
unfoldable pub filled : List ℕ → List ℕ
filled bs = bs ++ replicate ((8 - length bs % 8) % 8) 1

-- the bytes of a frame
unfoldable pub framed : List ℕ → List ℕ
framed body = pack (filled (frame body))
