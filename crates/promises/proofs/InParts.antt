-- READ IN PARTS: a buffer read in two calls, or in many, cut at any bit, gives what it gives in one.
use mathlib.Core.Path.{◌≡◌, refl, sym, ap, ap₂, ◌∙◌}
use mathlib.Core.Bool.{true, false}
use mathlib.Core.List.{List, [], ◌++◌}
use Prim.Native.Nat.{ℕ, ◌+◌, ◌*◌, ◌≤◌}
use borrow.Author.Tests.{eq-eqb, ne_eqb}
use lib.Dec.{eqb}
use lib.ListN.{length, drop}
use Rattle.numbers.specs.Numbers as number
use Rattle.parts.specs.Parts.{put}
use Rattle.wire.specs.Bits.{wire}
use Rattle.receiver.specs.declared.Receiver.{Receiver}
use Rattle.receiver.specs.Received.{Received}
use Rattle.receiver.specs.Receiver.{State, view}
use Rattle.receiver.specs.Receive.{Answer, Reading, reading, read_from, received, received_as, output_after}
use Rattle.promises.specs.Wire.{after}
use Rattle.promises.specs.Calls.{Accepted, on_from, receives, spoken}
use Rattle.promises.proofs.Readings.{read_split}
use Rattle.promises.proofs.Calls.{calls}
use Rattle.promises.proofs.Answers.{same_answers, same_state}
use Rattle.promises.proofs.Called.{accepted, returned_view, returned_in_range, accepted_again, went, at_end}

-- A BUFFER READ IN TWO CALLS, cut at any bit: the bits of the one call's buffer are those of the two others' together.
module _ {rx : Receiver} {input input₁ output : List ℕ} {start start₁ : ℕ} (input₂ : List ℕ) (start₂ : ℕ) (a : Accepted rx input start output)
    (a₁ : Accepted rx input₁ start₁ output) (cut : drop start (wire input) ≡ drop start₁ (wire input₁) ++ drop start₂ (wire input₂)) where
  whole : read_from rx input start
      ≡ after (read_from rx input₁ start₁).answer (read_from rx input₁ start₁).state (read_from rx input₁ start₁).consumed (drop start₂ (wire input₂))
  whole = ap (reading (view rx)) cut ∙ read_split (view rx) (drop start₁ (wire input₁)) (drop start₂ (wire input₂))

  -- Where the first call answers, that is the answer of the whole.
  pub split_answered : ((received rx input₁ start₁ output).number ≡ number.no_frame → ⊥)
      → (received rx input start output ≡ received rx input₁ start₁ output) × (output_after rx input start output ≡ output_after rx input₁ start₁ output)
  split_answered answers =
      let other : (read_from rx input₁ start₁).answer.number ≡ number.no_frame → ⊥ = λ h. answers (rw (accepted a₁).result h) in
      let t : eqb (read_from rx input₁ start₁).answer.number number.no_frame ≡ false = ne_eqb _ _ other in
      let same : read_from rx input start ≡ read_from rx input₁ start₁ = whole ∙ rw t refl in (
        (accepted a).result ∙ ap received_as same ∙ sym (accepted a₁).result,
        (accepted a).bytes ∙ ap (λ (r : Reading). put 0 r.answer.body output) same ∙ sym (accepted a₁).bytes,
      )

  -- Where the first call gives 17, the second goes on from the receiver left: the same receiver, number and body in the end, and the
  -- bits consumed add up.
  pub split_went_on : (received rx input₁ start₁ output).number ≡ number.no_frame → length input₂ ≤ 65536 → start₂ ≤ 8 * length input₂
      → (received rx input start output
      ≡ on_from (received rx input₁ start₁ output) (received (received rx input₁ start₁ output).rx input₂ start₂ output))
      × (output_after rx input start output ≡ output_after (received rx input₁ start₁ output).rx input₂ start₂ output)
  split_went_on h short inside =
      let first = received rx input₁ start₁ output in
      let R₁ = read_from rx input₁ start₁ in
      let R₂ = reading R₁.state (drop start₂ (wire input₂)) in
      let n : R₁.answer.number ≡ number.no_frame = rw (accepted a₁).result at h in
      let t : eqb R₁.answer.number number.no_frame ≡ true = eq-eqb _ _ n in
      let both : read_from rx input start ≡ record { answer = R₂.answer; state = R₂.state; consumed = R₁.consumed + R₂.consumed } =
      whole ∙ rw t refl in
      let a₂ : Accepted first.rx input₂ start₂ output =
      record { range = returned_in_range a₁; size = (accepted_again a₁ output a.room).size; short = short; inside = inside; room = a.room } in
      let second : read_from first.rx input₂ start₂ ≡ R₂ = ap (λ (s : State). reading s (drop start₂ (wire input₂))) (returned_view a₁) in
      let k : first.consumed ≡ R₁.consumed = ap (λ (r : Received). r.consumed) (accepted a₁).result in
      let r₂ : received first.rx input₂ start₂ output ≡ received_as R₂ = (accepted a₂).result ∙ ap received_as second in
      let body : Reading → List ℕ = λ r. put 0 r.answer.body output in (
        (accepted a).result ∙ ap received_as both
            ∙ sym
            (ap₂ (λ (m : ℕ) (r : Received). record { rx = r.rx; number = r.number; consumed = m + r.consumed; length = r.length }) k r₂),
        (accepted a).bytes ∙ ap body both ∙ sym ((accepted a₂).bytes ∙ ap body second),
      )

-- MANY CALLS, the bits cut at any place into two buffers: when every buffer has been read to its end, call after call, the answers and
-- bodies are those of the one buffer, in the same order, and the receiver is the same.
module _ {rx : Receiver} {input input₁ input₂ output output₁ output₂ : List ℕ} {start start₁ start₂ : ℕ} (n i j : ℕ)
    (a : Accepted rx input start output) (a₁ : Accepted rx input₁ start₁ output₁)
    (a₂ : Accepted (receives i rx input₁ start₁ output₁).rx input₂ start₂ output₂)
    (cut : drop start (wire input) ≡ drop start₁ (wire input₁) ++ drop start₂ (wire input₂))
    (end : (receives n rx input start output).start ≡ 8 * length input)
    (end₁ : (receives i rx input₁ start₁ output₁).start ≡ 8 * length input₁)
    (end₂ : (receives j (receives i rx input₁ start₁ output₁).rx input₂ start₂ output₂).start ≡ 8 * length input₂) where
  read_whole : (calls n (view rx) (drop start₁ (wire input₁) ++ drop start₂ (wire input₂))).rest ≡ []
  read_whole =
      ap (λ (l : List ℕ). (calls n (view rx) l).rest) (sym cut) ∙ sym (went n a).rest ∙ at_end input (receives n rx input start output).start end

  read_first : (calls i (view rx) (drop start₁ (wire input₁))).rest ≡ []
  read_first = sym (went i a₁).rest ∙ at_end input₁ (receives i rx input₁ start₁ output₁).start end₁

  read_second : (calls j (calls i (view rx) (drop start₁ (wire input₁))).state (drop start₂ (wire input₂))).rest ≡ []
  read_second =
      ap (λ (s : State). (calls j s (drop start₂ (wire input₂))).rest) (sym (went i a₁).state)
      ∙ sym (went j a₂).rest
      ∙ at_end input₂ (receives j (receives i rx input₁ start₁ output₁).rx input₂ start₂ output₂).start end₂

  pub cut_answers : spoken (receives n rx input start output).answers
      ≡ spoken (receives i rx input₁ start₁ output₁).answers
      ++ spoken (receives j (receives i rx input₁ start₁ output₁).rx input₂ start₂ output₂).answers
  cut_answers =
      ap spoken ((went n a).answers ∙ ap (λ (l : List ℕ). (calls n (view rx) l).answers) cut)
      ∙ same_answers n i j (view rx) (drop start₁ (wire input₁)) (drop start₂ (wire input₂)) read_whole read_first read_second
      ∙ sym
      (ap₂ (λ (x y : List Answer). spoken x ++ spoken y) (went i a₁).answers
      ((went j a₂).answers ∙ ap (λ (s : State). (calls j s (drop start₂ (wire input₂))).answers) (went i a₁).state))

  pub cut_receiver : view (receives n rx input start output).rx
      ≡ view (receives j (receives i rx input₁ start₁ output₁).rx input₂ start₂ output₂).rx
  cut_receiver =
      (went n a).state ∙ ap (λ (l : List ℕ). (calls n (view rx) l).state) cut
      ∙ same_state n i j (view rx) (drop start₁ (wire input₁)) (drop start₂ (wire input₂)) read_whole read_first read_second
      ∙ sym ((went j a₂).state ∙ ap (λ (s : State). (calls j s (drop start₂ (wire input₂))).state) (went i a₁).state)
