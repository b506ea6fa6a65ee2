-- DOCUMENT 01'S TABLE, under one claim ("Bench listing"), and a run in which every sentence of demand 3 has its turn. The lines are those
-- of the delivered calls from a new adapter, body to body, and those of the bench program, text to text.
use Rattle.std.specs.Prelude.{ℕ, ◌≡◌, cond, List, [], ◌∷◌, length, take, replicate, eqb}
use Rattle.wire.specs.Bits.{wire}
use Rattle.wire.specs.Frame.{stuff}
use Prim.Native.String.{String}
use Rattle.chip.specs.Event.{Event, frame, sample, upset}
use Rattle.player.specs.Play as Listing
use Rattle.promises.specs.Text.{text}
use Rattle.promises.specs.Runs.{Call, event, back, empty, Given, Calls}
use Rattle.promises.specs.Ours.{ours}

-- ---- lines

-- Each output line is answer and kept number, then for answer 0 port and body.
abbrev pub line : Given → ℕ → List ℕ
line g kept = cond (eqb g.number 0) (g.number ∷ kept ∷ g.port ∷ take g.length g.output) (g.number ∷ kept ∷ [])

-- the lines of calls, each handed what the last one left
abbrev pub lines : (c : Calls) → c.Pair → List Call → List (List ℕ)
lines c p [] = []
lines c p (k ∷ ks) = line (c.gives p k) (c.kept (c.leaves p k)).kept ∷ lines c (c.leaves p k) ks

-- of the program's adapter, whose chip ID is 0x00000A, with any 52,224 bytes made empty
abbrev pub played : List ℕ → List Call → List (List ℕ)
played bytes calls = lines ours (ours.start 0x00000A bytes) calls

-- an event with an output of 16 bytes
abbrev pub happens : Event → Call
happens e = event e (replicate 16 0)

abbrev pub F : ℕ → List ℕ → Call
F port body = happens (frame port body)

-- ---- the listing

abbrev pub listing : List Call
listing =
    F 0 (0x00 ∷ 0x00 ∷ 0x01 ∷ 0x00 ∷ 0x04 ∷ 0x02 ∷ 0x00 ∷ 0x04 ∷ 0x00 ∷ 0x00 ∷ [])
    ∷ F 0 (0x00 ∷ 0x02 ∷ 0x02 ∷ 0x02 ∷ 0x04 ∷ 0x10 ∷ 0x34 ∷ 0x12 ∷ 0x78 ∷ 0x56 ∷ [])
    ∷ F 0 (0x00 ∷ 0x04 ∷ 0x03 ∷ 0x02 ∷ 0x01 ∷ 0x11 ∷ 0x00 ∷ 0x00 ∷ 0x00 ∷ 0x00 ∷ [])
    ∷ F 0 (0x00 ∷ 0x06 ∷ 0x04 ∷ 0x01 ∷ 0x02 ∷ 0x41 ∷ 0x00 ∷ 0x00 ∷ 0x00 ∷ 0x00 ∷ [])
    ∷ F 0 (0x00 ∷ 0x06 ∷ 0x04 ∷ 0x01 ∷ 0x02 ∷ 0x41 ∷ 0x00 ∷ 0x00 ∷ 0x00 ∷ 0x00 ∷ [])
    ∷ back
    ∷ back
    ∷ F 0 (0x00 ∷ 0x06 ∷ 0x05 ∷ 0x02 ∷ 0x01 ∷ 0x11 ∷ 0x00 ∷ 0x00 ∷ 0x00 ∷ 0x00 ∷ [])
    ∷ []

abbrev pub listing_output : List (List ℕ)
listing_output =
    (0 ∷ 1 ∷ 0 ∷ 0x00 ∷ 0x20 ∷ 0x01 ∷ 0x00 ∷ 0x00 ∷ 0x02 ∷ 0x00 ∷ 0x00 ∷ 0x00 ∷ 0x00 ∷ [])
    ∷ (0 ∷ 2 ∷ 0 ∷ 0x00 ∷ 0x42 ∷ 0x02 ∷ 0x02 ∷ 0x00 ∷ 0x02 ∷ 0x00 ∷ 0x00 ∷ 0x00 ∷ 0x00 ∷ [])
    ∷ (0 ∷ 3 ∷ 0 ∷ 0x00 ∷ 0x64 ∷ 0x03 ∷ 0x02 ∷ 0x00 ∷ 0x04 ∷ 0x34 ∷ 0x12 ∷ 0x78 ∷ 0x56 ∷ [])
    ∷ (0 ∷ 4 ∷ 0 ∷ 0x00 ∷ 0x86 ∷ 0x04 ∷ 0x01 ∷ 0x20 ∷ 0x02 ∷ 0x00 ∷ 0x00 ∷ 0x00 ∷ 0x00 ∷ [])
    ∷ (0 ∷ 5 ∷ 0 ∷ 0x00 ∷ 0x8D ∷ [])
    ∷ (17 ∷ 4 ∷ [])
    ∷ (17 ∷ 3 ∷ [])
    ∷ (0 ∷ 4 ∷ 0 ∷ 0x00 ∷ 0x86 ∷ 0x05 ∷ 0x02 ∷ 0x00 ∷ 0x04 ∷ 0x34 ∷ 0x12 ∷ 0x78 ∷ 0x56 ∷ [])
    ∷ []

-- ---- the listing, as its file has it

abbrev pub input_text : String
input_text =
    "F 0 00000100040200040000\nF 0 00020202041034127856\nF 0 00040302011100000000\nF 0 00060401024100000000\nF 0 00060401024100000000\nB\nB\nF 0 00060502011100000000\n"

abbrev pub output_text : String
output_text =
    "0 1 0 00200100000200000000\n0 2 0 00420202000200000000\n0 3 0 00640302000434127856\n0 4 0 00860401200200000000\n0 5 0 008d\n17 4\n17 3\n0 4 0 00860502000434127856\n"

-- ---- a request to a new adapter

-- TRN, CH, LEN, CMD, without data
abbrev pub request : ℕ → ℕ → ℕ → ℕ → List Call
request trn ch len cmd = F 0 (0x00 ∷ 0x00 ∷ trn ∷ ch ∷ len ∷ cmd ∷ 0x00 ∷ 0x00 ∷ 0x00 ∷ 0x00 ∷ []) ∷ []

-- its line: answer 0, one event kept, port 0, and a reply with TRN, CH, ERR, LEN and zero data
abbrev pub reply : ℕ → ℕ → ℕ → ℕ → List (List ℕ)
reply trn ch err len =
    (0 ∷ 1 ∷ 0 ∷ 0x00 ∷ 0x20 ∷ trn ∷ ch ∷ err ∷ len ∷ 0x00 ∷ 0x00 ∷ 0x00 ∷ 0x00 ∷ []) ∷ []

-- ---- the claim

-- the lines that calls give, whatever the journal's bytes were
abbrev pub Give : List Call → List (List ℕ) → Type 0
Give calls output = (bytes : List ℕ) → length bytes ≡ 52224 → played bytes calls ≡ output

-- "Proved, as a single table under one claim: the eight lines; FF stuffs to 111110111; 7E to 011111010; TRN 01 and FE pass, 00 and FF
-- give 0x08; CH 0x15 known, 0x16 not."
pub record Table : Type 0 where
  pub eight_lines : Give listing listing_output
  pub eight_lines_as_text : Listing.played (text input_text) ≡ text output_text
  pub ff_stuffs : stuff 0 (wire (0xFF ∷ [])) ≡ 1 ∷ 1 ∷ 1 ∷ 1 ∷ 1 ∷ 0 ∷ 1 ∷ 1 ∷ 1 ∷ []
  pub 7e_stuffs : stuff 0 (wire (0x7E ∷ [])) ≡ 0 ∷ 1 ∷ 1 ∷ 1 ∷ 1 ∷ 1 ∷ 0 ∷ 1 ∷ 0 ∷ []
  -- CRB read: LEN 2/4
  pub trn_01 : Give (request 0x01 0x00 2 0x03) (reply 0x01 0x00 0x00 4)
  pub trn_fe : Give (request 0xFE 0x00 2 0x03) (reply 0xFE 0x00 0x00 4)
  pub trn_00 : Give (request 0x00 0x00 2 0x03) (reply 0x00 0x00 0x08 2)
  pub trn_ff : Give (request 0xFF 0x00 2 0x03) (reply 0xFF 0x00 0x08 2)
  -- DAC A read: LEN 1/4
  pub ch_15 : Give (request 0x01 0x15 1 0x11) (reply 0x01 0x15 0x00 4)
  pub ch_16 : Give (request 0x01 0x16 1 0x11) (reply 0x01 0x16 0x02 2)

-- ---- a run of everything

-- Refused: an output of 15 bytes, a port 2, a body of 1 byte, a step back from nothing. Then two upsets and GPIO enabled, one upset taken
-- back; an emptying, after which nothing can be taken back and GPIO is still enabled (a sample is 17); a RESET, after which it is not (16).
abbrev pub everything : List Call
everything =
    event upset (replicate 15 0)
    ∷ F 2 (0x00 ∷ [])
    ∷ F 1 (0x00 ∷ [])
    ∷ back
    ∷ happens upset
    ∷ F 0 (0x00 ∷ 0x00 ∷ 0x01 ∷ 0x00 ∷ 0x04 ∷ 0x02 ∷ 0x00 ∷ 0x04 ∷ 0x00 ∷ 0x00 ∷ [])
    ∷ happens upset
    ∷ back
    ∷ empty
    ∷ back
    ∷ happens (sample 0 0)
    ∷ F 1 (0x00 ∷ 0x9F ∷ [])
    ∷ back
    ∷ happens (sample 0 0)
    ∷ []

abbrev pub everything_output : List (List ℕ)
everything_output =
    (1 ∷ 0 ∷ [])
    ∷ (3 ∷ 0 ∷ [])
    ∷ (2 ∷ 0 ∷ [])
    ∷ (5 ∷ 0 ∷ [])
    ∷ (17 ∷ 1 ∷ [])
    ∷ (0 ∷ 2 ∷ 0 ∷ 0x00 ∷ 0x20 ∷ 0x01 ∷ 0x00 ∷ 0x00 ∷ 0x02 ∷ 0x00 ∷ 0x00 ∷ 0x00 ∷ 0x00 ∷ [])
    ∷ (17 ∷ 3 ∷ [])
    ∷ (17 ∷ 2 ∷ [])
    ∷ (17 ∷ 0 ∷ [])
    ∷ (5 ∷ 0 ∷ [])
    ∷ (17 ∷ 1 ∷ [])
    ∷ (0 ∷ 0 ∷ 1 ∷ 0x00 ∷ 0x73 ∷ [])
    ∷ (5 ∷ 0 ∷ [])
    ∷ (16 ∷ 1 ∷ [])
    ∷ []
