-- THE ROUND TRIP: every body of 2 to 16 bytes that `transmit` frames comes back from `receive`, whatever follows it on the cable.
use mathlib.Core.Path.{◌≡◌, refl, ap, ◌∙◌}
use mathlib.Core.Logic.{inl, inr}
use mathlib.Core.List.{List, ◌++◌, append_assoc}
use Prim.Native.Nat.{ℕ, zero, suc, ◌+◌, ◌*◌, ◌-◌, ◌/◌, ◌%◌, ◌≤◌, ◌<◌}
use native.Mathlib.Nat.{zero-add}
use native.Mathlib.Omega.{arith}
use borrow.Author.Tests.{le-ltb, le-leb}
use lib.Dec.{lit≤}
use lib.ListN.{length, take, drop, get_or, replicate, length-append, length-drop, length-replicate}
use lib.Seq.{take_at}
use Rattle.numbers.specs.Numbers as number
use Rattle.parts.specs.Parts.{put}
use Rattle.parts.proofs.Laws.{bytes_append}
use Rattle.wire.specs.Bits.{wire, pack}
use Rattle.wire.specs.Fcs.{fcs}
use Rattle.wire.specs.Frame.{flag, stuff, content_of}
use Rattle.transmitter.specs.Frame.{frame, filled, framed}
use Rattle.transmitter.specs.Transmit as transmit
use Rattle.receiver.specs.declared.Receiver.{Receiver}
use Rattle.receiver.specs.Receiver.{State, hunting, opened, runs, view, image}
use Rattle.receiver.specs.Receive.{bare, at_flag, reading}
use Rattle.wire.proofs.Bits.{AreBits, AreBytes, none, more, bits_append, bits_wire, length_wire, wire_append, length_pack, pack_wire, wire_pack}
use Rattle.wire.proofs.Check.{good_residue}
use Rattle.promises.specs.Wire.{after, found, filling}
use Rattle.promises.specs.Calls.{Accepted, Gives}
use Rattle.promises.proofs.Steps.{goes_on}
use Rattle.promises.proofs.Readings.{frame_read}
use Rattle.promises.proofs.Stuffing.{bits_stuff, unstuff_stuff, no_six, stuff_least, stuff_most}
use Rattle.promises.proofs.Called.{reads}
use Rattle.promises.proofs.States.{Held, hunts_on, image_in_range, image_size}

-- ---- the content of a frame

bytes_fcs : (body : List ℕ) → AreBytes (fcs body)
unfolding fcs
bytes_fcs body zero = omega arith
bytes_fcs body (suc zero) = omega arith
bytes_fcs body (suc (suc i)) = omega arith

-- ---- the bits of a frame

bits_flag : AreBits flag
bits_flag = more (inl refl) (more (inr refl) (more (inr refl) (more (inr refl) (more (inr refl) (more (inr refl) (more (inr refl) (more (inl refl) none)))))))

bits_ones : (n : ℕ) → AreBits (replicate n 1)
bits_ones zero = none
bits_ones (suc n) = more (inr refl) (bits_ones n)

pub new_accepted : (input output : List ℕ) → length input ≤ 65536 → 16 ≤ length output → Accepted (image hunting) input 0 output
new_accepted input output short room =
    let new : Held hunting = hunts_on {j = 7} (lit≤ tt) in
    record { range = image_in_range new; size = image_size new; short = short; inside = omega arith; room = room }

module _ (bs : List ℕ) (h : AreBits bs) where
  abbrev pub padding : List ℕ
  padding = replicate ((8 - length bs % 8) % 8) 1

  filled_length : length (filled bs) ≡ 8 * ((length bs + 7) / 8)
  unfolding filled
  filled_length = rw (length-append bs padding, length-replicate) (omega arith)

  pub wire_filled : wire (pack (filled bs)) ≡ bs ++ padding
  unfolding filled
  wire_filled =
      let e : length (filled bs) ≡ 8 * ((length bs + 7) / 8) = filled_length in
      let z : length (bs ++ padding) % 8 ≡ 0 = omega arith in
      wire_pack (bs ++ padding) (bits_append h (bits_ones ((8 - length bs % 8) % 8))) z

pub frame_cut : (body rest : List ℕ) → frame body ++ rest ≡ flag ++ (stuff 0 (content_of body) ++ (flag ++ rest))
unfolding frame
frame_cut body rest = simp append_assoc refl

module _ (body : List ℕ) (small : (i : ℕ) → get_or body i 0 < 256) (least : 2 ≤ length body) (most : length body ≤ 16) where
  content_length : length (content_of body) ≡ 8 * (length body + 2)
  unfolding fcs
  content_length = length_wire (body ++ fcs body) ∙ rw (length-append body (fcs body)) refl

  content_bits : AreBits (content_of body)
  content_bits = bits_wire (body ++ fcs body)

  content_body : take (length (content_of body) / 8 - 2) (pack (content_of body)) ≡ body
  content_body =
      let l : length (content_of body) ≡ 8 * (length body + 2) = content_length in
      let n : length (content_of body) / 8 - 2 ≡ length body = omega arith in
      rw (n, pack_wire (body ++ fcs body) (bytes_append body (fcs body) small (bytes_fcs body))) (take_at body (fcs body) (length body) refl)

  pub content_answer : at_flag (content_of body) ≡ record { number = number.has_frame; body = body }
  unfolding at_flag
  content_answer =
      let l : length (content_of body) ≡ 8 * (length body + 2) = content_length in
      let whole : length (content_of body) % 8 ≡ 0 = omega arith in
      let few : 32 ≤ length (content_of body) = omega arith in
      let many : length (content_of body) ≤ 144 = omega arith in
      simp (le-ltb, whole, good_residue body, content_body)

  pub frame_length : length (frame body) ≡ length (stuff 0 (content_of body)) + 16
  unfolding frame
  frame_length = simp length-append (omega arith)

  pub frame_bits : AreBits (frame body)
  unfolding frame
  frame_bits = bits_append bits_flag (bits_append (bits_stuff content_bits) bits_flag)

  framed_length : length (framed body) ≡ (length (frame body) + 7) / 8
  unfolding framed
  framed_length = length_pack (filled (frame body)) ∙ omega (arith, filled_length (frame body) frame_bits)

  -- A FRAME IS AT MOST 24 BYTES, and two flags and two bytes of FCS longer than its body at least.
  pub framed_most : length (framed body) ≤ 24
  framed_most = omega (arith, framed_length, frame_length, content_length, stuff_most content_bits)

  pub framed_least : length body + 4 ≤ length (framed body)
  framed_least = omega (arith, framed_length, frame_length, content_length, stuff_least content_bits)

  pub read_opened : (rest : List ℕ) → reading opened (stuff 0 (content_of body) ++ (flag ++ rest)) ≡ found body (length (stuff 0 (content_of body)) + 8)
  read_opened rest = frame_read (bits_stuff content_bits) rest (no_six content_bits) ∙ rw (unstuff_stuff content_bits, content_answer) refl

  -- whatever reads on from a frame opened k + 8 bits ago
  pub read_flagged : (s : State) (bits rest : List ℕ) (k : ℕ)
      → reading s bits ≡ after (bare number.no_frame) opened (k + 8) (stuff 0 (content_of body) ++ (flag ++ rest))
      → reading s bits ≡ found body (k + length (frame body))
  read_flagged s bits rest k e =
      let n : k + 8 + (length (stuff 0 (content_of body)) + 8) ≡ k + length (frame body) = omega (arith, frame_length) in
      e ∙ rw (read_opened rest) (ap (found body) n)

  pub read_hunting : (rest : List ℕ) → reading hunting (frame body ++ rest) ≡ found body (length (frame body))
  unfolding reading runs
  read_hunting rest =
      read_flagged hunting (frame body ++ rest) rest 0
      (ap (reading hunting) (frame_cut body rest) ∙ goes_on opened 8 (stuff 0 (content_of body) ++ (flag ++ rest))) ∙ rw zero-add refl

  -- IT COMES BACK: a new receiver that reads a body's frame from any start bit on, whatever follows, gives 0 and that body, and has
  -- consumed flag, stuffed content and flag.
  pub comes_back_at : {input output : List ℕ} {start : ℕ} → Accepted (image hunting) input start output → (rest : List ℕ)
      → drop start (wire input) ≡ frame body ++ rest → Gives (image hunting) input start output (found body (length (frame body)))
  comes_back_at a rest e = reads a hunting (frame body ++ rest) _ refl e (read_hunting rest)

  -- And so does every receiver, whatever it read before, once a flag has opened the frame.
  pub comes_back_opened : {rx : Receiver} {input output : List ℕ} {start : ℕ} → Accepted rx input start output → (rest : List ℕ)
      → view rx ≡ opened → drop start (wire input) ≡ stuff 0 (content_of body) ++ (flag ++ rest)
      → Gives rx input start output (found body (length (stuff 0 (content_of body)) + 8))
  comes_back_opened a rest v e = reads a opened (stuff 0 (content_of body) ++ (flag ++ rest)) _ v e (read_opened rest)

  -- The same over bytes, padding included.
  pub framed_bits : (following : List ℕ) → wire (framed body ++ following) ≡ frame body ++ (replicate (filling body) 1 ++ wire following)
  unfolding framed
  framed_bits following =
      wire_append (framed body) following ∙ ap (λ (l : List ℕ). l ++ wire following) (wire_filled (frame body) frame_bits)
      ∙ append_assoc (frame body) (replicate (filling body) 1) (wire following)

  pub comes_back : (following output : List ℕ) → length (framed body ++ following) ≤ 65536 → 16 ≤ length output
      → Gives (image hunting) (framed body ++ following) 0 output (found body (length (frame body)))
  comes_back following output short room =
      comes_back_at (new_accepted (framed body ++ following) output short room) (replicate (filling body) 1 ++ wire following) (framed_bits following)

  -- FROM CALL TO CALL: `transmit` into a cable of 24 bytes or more answers 0 with the frame's length, and `receive` on that cable gives the
  -- body back.
  pub sent : (cable : List ℕ) → 24 ≤ length cable
      → transmit.transmitted body cable ≡ record { number = number.has_frame; count = length (framed body) }
  unfolding transmit.transmitted
  sent cable room = rw (le-leb 2 (length body) least, le-leb (length body) 16 most, le-leb 24 (length cable) room) refl

  pub cable_bytes : (cable : List ℕ) → 24 ≤ length cable
      → transmit.output_after body cable ≡ framed body ++ drop (length (framed body)) cable
  unfolding transmit.output_after put
  cable_bytes cable room =
      rw (le-leb 2 (length body) least, le-leb (length body) 16 most, le-leb 24 (length cable) room, zero-add (length (framed body))) refl

  pub round_trip : (cable output : List ℕ) → 24 ≤ length cable → length cable ≤ 65536 → 16 ≤ length output
      → Gives (image hunting) (transmit.output_after body cable) 0 output (found body (length (frame body)))
  round_trip cable output least short room =
      let n : length (framed body ++ drop (length (framed body)) cable) ≤ 65536 =
      rw (length-append (framed body) (drop (length (framed body)) cable), length-drop (length (framed body)) cable) (omega (arith, framed_most)) in
      rw (cable_bytes cable least) (comes_back (drop (length (framed body)) cable) output n room)
