-- The link's calls on bytes: how a receiver is spelled, how a result is packed, and what each call leaves.
use Rattle.std.specs.Prelude.{cond, List, ◌∷◌, ℕ, ◌+◌, ◌*◌, eqb, length, get_or}
use Rattle.numbers.specs.Numbers as number
use Rattle.parts.specs.Parts.{part}
use Rattle.transmitter.specs.Transmit.{Sent, transmitted}
use Rattle.transmitter.specs.Transmit as Transmit
use Rattle.receiver.specs.Receiver.{image, hunting}
use Rattle.receiver.specs.Receive.{received}
use Rattle.receiver.specs.Receive as Receive
use Rattle.receiver.specs.declared.Receiver.{Receiver}
use Rattle.receiver.specs.Received.{Received}

-- mode, ones, lead, count, then the content's 20 bytes
abbrev pub receiver_bytes : Receiver → List ℕ
receiver_bytes r = r.mode ∷ r.ones ∷ r.lead ∷ r.count ∷ r.bytes

abbrev pub receiver_of : List ℕ → Receiver
receiver_of s = record { mode = get_or s 0 0; ones = get_or s 1 0; lead = get_or s 2 0; count = get_or s 3 0; bytes = part 4 20 s }

-- a receiver of any other length than 24 is 6
abbrev pub of_its_length : {A : Type 0} → List ℕ → A → A → A
of_its_length rx done refused = cond (eqb (length rx) 24) done refused

-- the number in bits 7 to 0, the count of bytes written above
abbrev pub pack_sent : Sent → ℕ
pack_sent s = s.number + 256 * s.count

-- the number in bits 7 to 0, the body's length in bits 15 to 8, the bits consumed above
abbrev pub pack_received : Received → ℕ
pack_received r = r.number + 256 * r.length + 65536 * r.consumed

-- ---- sca_transmit

abbrev pub transmit_result : List ℕ → List ℕ → ℕ
transmit_result body output = pack_sent (transmitted body output)

abbrev pub transmit_output : List ℕ → List ℕ → List ℕ
transmit_output body output = Transmit.output_after body output

-- ---- sca_receiver_new

abbrev pub new_result : List ℕ → ℕ
new_result rx = of_its_length rx number.no_frame number.bad_state

abbrev pub new_receiver : List ℕ → List ℕ
new_receiver rx = of_its_length rx (receiver_bytes (image hunting)) rx

-- ---- sca_receive

abbrev pub receive_result : List ℕ → List ℕ → ℕ → List ℕ → ℕ
receive_result rx input start output = of_its_length rx (pack_received (received (receiver_of rx) input start output)) number.bad_state

abbrev pub receive_receiver : List ℕ → List ℕ → ℕ → List ℕ → List ℕ
receive_receiver rx input start output = of_its_length rx (receiver_bytes (received (receiver_of rx) input start output).rx) rx

abbrev pub receive_output : List ℕ → List ℕ → ℕ → List ℕ → List ℕ
receive_output rx input start output = of_its_length rx (Receive.output_after (receiver_of rx) input start output) output
