-- FRAMES ONE AFTER THE OTHER come back one after the other. The ones that fill a frame's last byte read as short content or as an abort
-- without an answer: nothing is answered between two frames, nor after the last.
use mathlib.Core.Path.{◌≡◌, refl, sym, ap, ap₂, ◌∙◌}
use mathlib.Core.List.{List, [], ◌∷◌, ◌++◌, append-nil, flat_map}
use Prim.Native.Nat.{ℕ, suc, ◌+◌, ◌*◌, ◌≤◌}
use native.Mathlib.Omega.{arith}
use lib.ListN.{length, drop, replicate, length-replicate}
use lib.Seq.{drop_at, drop-append-add}
use Rattle.numbers.specs.Numbers as number
use Rattle.wire.specs.Bits.{wire}
use Rattle.wire.specs.Frame.{flag, stuff, content_of}
use Rattle.transmitter.specs.Frame.{frame, framed}
use Rattle.receiver.specs.declared.Receiver.{Receiver}
use Rattle.receiver.specs.Received.{Received}
use Rattle.receiver.specs.Receiver.{State, hunting, opened, runs, view, image}
use Rattle.receiver.specs.Receive.{Answer, bare, Reading, concluded, reading, received}
use Rattle.promises.specs.Wire.{after, found, Body, Bodies, filling, cable, brought_back}
use Rattle.promises.specs.Calls.{Accepted, Gives, receives, spoken, heard}
use Rattle.promises.proofs.Steps.{each_below, goes_on}
use Rattle.promises.proofs.Calls.{calls}
use Rattle.promises.proofs.Answers.{heard_after}
use Rattle.promises.proofs.Called.{accepted, reads, accepted_again, went}
use Rattle.promises.proofs.RoundTrip.{framed_bits, read_flagged, read_hunting, new_accepted, comes_back}
use Rattle.promises.proofs.AnyReceiver.{frame_cut, any_body}

-- ---- the ones that fill a byte

-- before a flag
filled_flag : (k : ℕ) (r : List ℕ) → k ≤ 7 → reading opened (replicate k 1 ++ (flag ++ r)) ≡ after (bare number.no_frame) opened (k + 8) r
unfolding reading runs
filled_flag k r h =
    let on : (n : ℕ) → concluded (runs opened n r) ≡ after (bare number.no_frame) opened n r = λ n. goes_on opened n r in
    each_below 8 (λ k. reading opened (replicate k 1 ++ (flag ++ r)) ≡ after (bare number.no_frame) opened (k + 8) r)
    (on 8, (on 9, (on 10, (on 11, (on 12, (on 13, (on 14, (on 15, tt)))))))) k (omega arith)

-- at the end
filled_end : (k : ℕ) → k ≤ 7 → (reading opened (replicate k 1)).answer ≡ bare number.no_frame
unfolding reading runs
filled_end k h =
    each_below 8 (λ k. (reading opened (replicate k 1)).answer ≡ bare number.no_frame)
    (refl, (refl, (refl, (refl, (refl, (refl, (refl, (refl, tt)))))))) k (omega arith)

heard_end : (k : ℕ) → k ≤ 7 → heard opened (replicate k 1) ≡ []
unfolding heard
heard_end k h = each_below 8 (λ k. heard opened (replicate k 1) ≡ []) (refl, (refl, (refl, (refl, (refl, (refl, (refl, (refl, tt)))))))) k (omega arith)

-- ---- a frame, and the ones that fill its last byte

filling_most : (body : List ℕ) → filling body ≤ 7
filling_most body = omega arith

module _ (body : List ℕ) (b : Body body) where
  filled_read : (k : ℕ) (rest : List ℕ) → k ≤ 7 → reading opened (replicate k 1 ++ (frame body ++ rest)) ≡ found body (k + length (frame body))
  filled_read k rest h =
      read_flagged body b.small b.least b.most opened (replicate k 1 ++ (frame body ++ rest)) rest k
      (ap (λ (l : List ℕ). reading opened (replicate k 1 ++ l)) (frame_cut body rest) ∙ filled_flag k (stuff 0 (content_of body) ++ (flag ++ rest)) h)

  -- at the front of a cable, after k ones that fill a byte
  cable_read : (k : ℕ) (following : List ℕ) → k ≤ 7 → reading opened (replicate k 1 ++ wire (framed body ++ following)) ≡ found body (k + length (frame body))
  cable_read k following h =
      ap (λ (l : List ℕ). reading opened (replicate k 1 ++ l)) (framed_bits body b.small b.least b.most following)
      ∙ filled_read k (replicate (filling body) 1 ++ wire following) h

  cable_past : (k : ℕ) (following : List ℕ)
      → drop (k + length (frame body)) (replicate k 1 ++ wire (framed body ++ following)) ≡ replicate (filling body) 1 ++ wire following
  cable_past k following =
      ap (λ (n : ℕ). drop (n + length (frame body)) (replicate k 1 ++ wire (framed body ++ following))) (sym (length-replicate k 1))
      ∙ drop-append-add (replicate k 1) (wire (framed body ++ following)) (length (frame body))
      ∙ ap (drop (length (frame body))) (framed_bits body b.small b.least b.most following) ∙ drop_at (frame body) _ (length (frame body)) refl

-- ---- over bits

calls_found : (n : ℕ) (s : State) (bits body rest : List ℕ) (m : ℕ) → reading s bits ≡ found body m → drop m bits ≡ rest
    → (calls (suc n) s bits).answers ≡ record { number = number.has_frame; body = body } ∷ (calls n opened rest).answers
unfolding calls
calls_found n s bits body rest m e d =
    ap₂ (λ (a : Answer) (l : List Answer). a ∷ l) (ap (λ (r : Reading). r.answer) e)
    (ap₂ (λ (t : State) (l : List ℕ). (calls n t l).answers) (ap (λ (r : Reading). r.state) e)
    (ap (λ (r : Reading). drop r.consumed bits) e ∙ d))

calls_cable : (bodies : List (List ℕ)) → Bodies bodies → (k : ℕ) → k ≤ 7
    → (calls (suc (length bodies)) opened (replicate k 1 ++ wire (cable bodies))).answers ≡ brought_back bodies ++ (bare number.no_frame ∷ [])
unfolding flat_map wire calls
calls_cable [] bs k h =
    ap (λ (l : List ℕ). (calls 1 opened l).answers) (append-nil (replicate k 1)) ∙ ap (λ (a : Answer). a ∷ []) (filled_end k h)
calls_cable (body ∷ bodies) bs k h =
    calls_found (suc (length bodies)) opened (replicate k 1 ++ wire (cable (body ∷ bodies))) body _ (k + length (frame body))
    (cable_read body bs.0 k (cable bodies) h) (cable_past body bs.0 k (cable bodies))
    ∙ ap (λ (l : List Answer). record { number = number.has_frame; body = body } ∷ l) (calls_cable bodies bs.1 (filling body) (filling_most body))

heard_cable : (bodies : List (List ℕ)) → Bodies bodies → (k : ℕ) → k ≤ 7
    → heard opened (replicate k 1 ++ wire (cable bodies)) ≡ brought_back bodies
unfolding flat_map wire spoken
heard_cable [] bs k h = ap (heard opened) (append-nil (replicate k 1)) ∙ heard_end k h
heard_cable (body ∷ bodies) bs k h =
    heard_after opened (replicate k 1 ++ wire (cable (body ∷ bodies))) (record { number = number.has_frame; body = body }) opened (k + length (frame body)) _
    (cable_read body bs.0 k (cable bodies) h) (cable_past body bs.0 k (cable bodies))
    ∙ ap (λ (l : List Answer). record { number = number.has_frame; body = body } ∷ l) (heard_cable bodies bs.1 (filling body) (filling_most body))

-- ---- over calls

module _ {rx : Receiver} {input output : List ℕ} {start : ℕ} (a : Accepted rx input start output) (v : view rx ≡ opened) (k : ℕ) (few : k ≤ 7) where
  -- THE NEXT FRAME, after a flag and the ones that fill its byte, comes back from any receiver, with no answer before it.
  pub next_comes_back : (body rest : List ℕ) → Body body → drop start (wire input) ≡ replicate k 1 ++ (frame body ++ rest)
      → Gives rx input start output (found body (k + length (frame body)))
  next_comes_back body rest b e = reads a opened (replicate k 1 ++ (frame body ++ rest)) _ v e (filled_read body b k rest few)

  -- FILLING ALONE, after a flag: 17.
  pub filling_silent : drop start (wire input) ≡ replicate k 1 → (received rx input start output).number ≡ number.no_frame
  filling_silent e =
      rw (accepted a).result (ap₂ (λ (s : State) (l : List ℕ). (reading s l).answer.number) v e ∙ ap (λ (x : Answer). x.number) (filled_end k few))

  -- ANY FRAMES after it, one after the other: a call for each gives its body, and one call more gives 17.
  pub frames_follow : (bodies : List (List ℕ)) → Bodies bodies → drop start (wire input) ≡ replicate k 1 ++ wire (cable bodies)
      → (receives (length bodies + 1) rx input start output).answers ≡ brought_back bodies ++ (bare number.no_frame ∷ [])
  frames_follow bodies bs e =
      let n : length bodies + 1 ≡ suc (length bodies) = omega arith in
      rw n
      ((went (suc (length bodies)) a).answers
      ∙ ap₂ (λ (s : State) (l : List ℕ). (calls (suc (length bodies)) s l).answers) v e
      ∙ calls_cable bodies bs k few)

-- CALLED AGAIN from the bit after a frame that came back, from any receiver in range.
pub then_next : {rx : Receiver} {input output : List ℕ} {start : ℕ} → Accepted rx input start output → (one : List ℕ) (m : ℕ)
    → Gives rx input start output (found one m) → (output' : List ℕ) → 16 ≤ length output' → (k : ℕ) → k ≤ 7
    → (two rest : List ℕ) → Body two → drop (start + m) (wire input) ≡ replicate k 1 ++ (frame two ++ rest)
    → Gives (received rx input start output).rx input (start + m) output' (found two (k + length (frame two)))
then_next {rx} {input} {output} {start} a one m g output' room k few two rest b e =
    let c : (received rx input start output).consumed ≡ m = ap (λ (r : Received). r.consumed) g.result in
    let again : Accepted (received rx input start output).rx input (start + m) output' = rw c at (accepted_again a output' room) in
    let v : view (received rx input start output).rx ≡ opened = ap (λ (r : Received). view r.rx) g.result in
    next_comes_back again v k few two rest b e

-- TWO FRAMES AND WHATEVER FOLLOWS, from a new receiver: the first body at its closing flag, and from the bit after it the second.
module _ (one two following output : List ℕ) (b₁ : Body one) (b₂ : Body two) (room : 16 ≤ length output)
    (short : length (framed one ++ (framed two ++ following)) ≤ 65536) where
  abbrev pub both : List ℕ
  both = framed one ++ (framed two ++ following)

  pub first_of_two : Gives (image hunting) both 0 output (found one (length (frame one)))
  first_of_two = comes_back one b₁.small b₁.least b₁.most (framed two ++ following) output short room

  pub second_of_two : (output' : List ℕ) → 16 ≤ length output'
      → Gives (received (image hunting) both 0 output).rx both (length (frame one)) output' (found two (filling one + length (frame two)))
  second_of_two output' room' =
      let rest : List ℕ = replicate (filling two) 1 ++ wire following in
      let n : 0 + length (frame one) ≡ length (frame one) = omega arith in
      let e : drop (0 + length (frame one)) (wire both) ≡ replicate (filling one) 1 ++ (frame two ++ rest) =
      ap₂ drop n (framed_bits one b₁.small b₁.least b₁.most (framed two ++ following))
      ∙ drop_at (frame one) (replicate (filling one) 1 ++ wire (framed two ++ following)) (length (frame one)) refl
      ∙ ap (λ (l : List ℕ). replicate (filling one) 1 ++ l) (framed_bits two b₂.small b₂.least b₂.most following) in
      rw n at
      (then_next (new_accepted both output short room) one (length (frame one)) first_of_two output' room' (filling one) (filling_most one)
      two rest b₂ e)

-- FROM A NEW RECEIVER: any bodies, framed one after the other. A call for each gives its body, and one call more gives 17.
pub frames_come_back : (bodies : List (List ℕ)) → Bodies bodies → (output : List ℕ) → length (cable bodies) ≤ 65536 → 16 ≤ length output
    → (receives (length bodies + 1) (image hunting) (cable bodies) 0 output).answers ≡ brought_back bodies ++ (bare number.no_frame ∷ [])
unfolding flat_map wire calls reading runs
frames_come_back [] bs output short room = (went 1 (new_accepted [] output short room)).answers
frames_come_back (body ∷ bodies) bs output short room =
    let b : Body body = bs.0 in
    let n : suc (length bodies) + 1 ≡ suc (suc (length bodies)) = omega arith in
    let rest : List ℕ = replicate (filling body) 1 ++ wire (cable bodies) in
    rw n
    ((went (suc (suc (length bodies))) (new_accepted (framed body ++ cable bodies) output short room)).answers
    ∙ ap (λ (l : List ℕ). (calls (suc (suc (length bodies))) hunting l).answers) (framed_bits body b.small b.least b.most (cable bodies))
    ∙ calls_found (suc (length bodies)) hunting (frame body ++ rest) body rest (length (frame body))
    (read_hunting body b.small b.least b.most rest) (drop_at (frame body) rest (length (frame body)) refl)
    ∙ ap (λ (l : List Answer). record { number = number.has_frame; body = body } ∷ l)
    (calls_cable bodies bs.1 (filling body) (filling_most body)))

-- FROM ANY RECEIVER IN RANGE, whatever it read before: after the answers to what came before the first frame's flag, the bodies and
-- nothing else.
pub any_frames : (n : ℕ) {rx : Receiver} {input output : List ℕ} {start : ℕ} → Accepted rx input start output
    → (receives n rx input start output).start ≡ 8 * length input → (before body : List ℕ) (bodies : List (List ℕ)) → Body body → Bodies bodies
    → drop start (wire input) ≡ before ++ wire (cable (body ∷ bodies))
    → spoken (receives n rx input start output).answers ≡ heard (view rx) (before ++ flag) ++ brought_back (body ∷ bodies)
unfolding flat_map
any_frames n {rx} {input} {output} {start} a end before body bodies b bs e =
    let rest : List ℕ = replicate (filling body) 1 ++ wire (cable bodies) in
    any_body n a end before body rest b.small b.least b.most
    (e ∙ ap (λ (l : List ℕ). before ++ l) (framed_bits body b.small b.least b.most (cable bodies)))
    ∙ ap (λ (l : List Answer). heard (view rx) (before ++ flag) ++ (record { number = number.has_frame; body = body } ∷ l))
    (heard_cable bodies bs (filling body) (filling_most body))
