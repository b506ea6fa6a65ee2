-- Two answers of code that stand for one answer of the documents are the same answer; what `OneOutcome` is proved with.
use Prim.Native.Nat.{ℕ}
use mathlib.Core.Bool.{cond}
use mathlib.Core.Path.{◌≡◌, refl, sym, ap, ap₂, ◌∙◌}
use native.Mathlib.Omega.{arith}
use lib.Dec.{eqb}
use Rattle.std.specs.Prelude.{Result, Ok, Err}
use Rattle.numbers.specs.Numbers as number
use Rattle.numbers.specs.Answers.{silence_number}
use Rattle.numbers.specs.declared.Silence.{Silence}
use Rattle.numbers.specs.declared.Silence.TheVariants.{OtherAddress, OtherPort, OtherControl, BadInformation, NotBusy, LinesDisabled, NoFrame}
use Rattle.link.specs.declared.Link.{Link}
use Rattle.chip.specs.declared.Frame.{Frame}
use Rattle.chip.specs.declared.Response.{Response as Given}
use Rattle.chip.specs.Answer.{Response}
use Rattle.chip.specs.Inner.{answer_number, answer_port, answer_length, answered}

-- two pairs are alike where their parts are
pub both : {A B : Type 0} {x y : A} {u v : B} → x ≡ y → u ≡ v → ◌≡◌ {A = A × B} (x, u) (y, v)
both {A} {B} p q = ap₂ (λ (a : A) (b : B). let w : A × B = (a, b) in w) p q

-- ---- a silence by its number

abbrev pub silence_of : ℕ → Silence
silence_of n =
    cond (eqb n number.other_address) OtherAddress
    (cond (eqb n number.other_port) OtherPort
    (cond (eqb n number.other_control) OtherControl
    (cond (eqb n number.bad_information) BadInformation
    (cond (eqb n number.not_busy) NotBusy
    (cond (eqb n number.lines_disabled) LinesDisabled NoFrame)))))

pub silence_back : (s : Silence) → silence_of (silence_number s) ≡ s
silence_back OtherAddress = refl
silence_back OtherPort = refl
silence_back OtherControl = refl
silence_back BadInformation = refl
silence_back NotBusy = refl
silence_back LinesDisabled = refl
silence_back NoFrame = refl

silence_set : (s : Silence) → silence_number s ≡ number.has_frame → ⊥
silence_set s e =
    let z : silence_number s ≡ number.no_frame = ap silence_number (sym (silence_back s) ∙ ap silence_of e) in
    omega (arith, e, z)

-- ---- a frame, and a response

pub frame_same : {p q m n : ℕ} → p ≡ q → m ≡ n → ◌≡◌ {A = Frame} (record { port = p; length = m }) (record { port = q; length = n })
frame_same e f = cc

answer_same : (x y : Result Frame Silence) → answer_number x ≡ answer_number y → answer_port x ≡ answer_port y
    → answer_length x ≡ answer_length y → x ≡ y
answer_same (Ok f) (Ok g) e p l = ap (λ (h : Frame). let x : Result Frame Silence = Ok h in x) (frame_same p l)
answer_same (Ok f) (Err s) e p l = absurd (silence_set s (sym e))
answer_same (Err r) (Ok g) e p l = absurd (silence_set r e)
answer_same (Err r) (Err s) e p l =
    ap (λ (b : Silence). let x : Result Frame Silence = Err b in x) (sym (silence_back r) ∙ ap silence_of e ∙ silence_back s)

parts_same : {l m : Link} {a b : Result Frame Silence} → l ≡ m → a ≡ b
    → ◌≡◌ {A = Given} (record { link = l; answer = a }) (record { link = m; answer = b })
parts_same e f = cc

pub response_same : (x y : Given) → answered x ≡ answered y → x ≡ y
response_same x y e =
    parts_same (ap (λ (r : Response). r.link) e)
    (answer_same x.answer y.answer (ap (λ (r : Response). r.number) e) (ap (λ (r : Response). r.port) e) (ap (λ (r : Response). r.length) e))
