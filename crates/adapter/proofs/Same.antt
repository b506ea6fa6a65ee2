-- Two answers of code that stand for one answer of the documents are the same answer; what `OneOutcome` is proved with.
use Prim.Native.Nat.{ℕ}
use mathlib.Core.Bool.{cond, ◌&&◌}
use mathlib.Core.Path.{◌≡◌, refl, sym, ap, ◌∙◌}
use native.Mathlib.Omega.{arith}
use lib.Dec.{leb}
use Rattle.std.specs.Prelude.{Result, Ok, Err}
use Rattle.numbers.specs.Numbers as number
use Rattle.numbers.specs.Answers.{refusal_number}
use Rattle.numbers.specs.declared.Refusal.{Refusal}
use Rattle.numbers.specs.declared.Refusal.TheVariants.{ShortOutput, BadBody, BadArgument, BadJournal, NoneKept, BadState, BadId, LongInput, BadStart}
use Rattle.numbers.specs.declared.Refusal.TheVariants.{Unreadable, AllOpen, NoMatch, BadReply, NoCommand}
use Rattle.numbers.specs.declared.Silence.TheVariants.{OtherAddress, OtherPort, OtherControl, BadInformation, NotBusy, LinesDisabled, NoFrame as Quiet}
use Rattle.numbers.proofs.Same.{refusal_of, refusal_back, refusal_same}
use Rattle.chip.specs.declared.Frame.{Frame}
use Rattle.chip.proofs.Same.{silence_of, frame_same}
use Rattle.adapter.specs.declared.NoFrame.{NoFrame}
use Rattle.adapter.specs.declared.NoFrame.TheVariants.{Refused, Silent}
use Rattle.adapter.specs.Answers.{Answer, KeptNumber, Verdict, number_after, no_frame_number, answer_of, kept_number, verdict_of}
use Rattle.adapter.specs.Answers as verdicts

-- ---- a call that answers nothing but whether it is done, and one that answers the kept number: no refusal is 17

never_17 : (r : Refusal) → refusal_number r ≡ number.no_frame → ⊥
never_17 r e =
    let z : refusal_number r ≡ number.no_command = ap refusal_number (sym (refusal_back r) ∙ ap refusal_of e) in
    omega (arith, e, z)

refused_same : {A : Type 0} (r s : Refusal) → refusal_number r ≡ refusal_number s → ◌≡◌ {A = Result A Refusal} (Err r) (Err s)
refused_same {A} r s e = ap (λ (x : Refusal). let y : Result A Refusal = Err x in y) (refusal_same r s e)

pub done_same : (x y : Result Unit Refusal) → number_after x ≡ number_after y → x ≡ y
done_same (Ok m) (Ok n) e = refl
done_same (Ok m) (Err s) e = absurd (never_17 s (sym e))
done_same (Err r) (Ok n) e = absurd (never_17 r e)
done_same (Err r) (Err s) e = refused_same r s e

pub kept_same : (x y : Result ℕ Refusal) → kept_number x ≡ kept_number y → x ≡ y
kept_same (Ok m) (Ok n) e = ap (λ (k : KeptNumber). let x : Result ℕ Refusal = Ok k.kept in x) e
kept_same (Ok m) (Err s) e = absurd (never_17 s (sym (ap (λ (k : KeptNumber). k.number) e)))
kept_same (Err r) (Ok n) e = absurd (never_17 r (ap (λ (k : KeptNumber). k.number) e))
kept_same (Err r) (Err s) e = refused_same r s (ap (λ (k : KeptNumber). k.number) e)

-- ---- an event: no refusal's number is a silence's

abbrev pub no_frame_of : ℕ → NoFrame
no_frame_of n = cond (leb number.other_address n && leb n number.no_frame) (Silent (silence_of n)) (Refused (refusal_of n))

pub no_frame_back : (e : NoFrame) → no_frame_of (no_frame_number e) ≡ e
no_frame_back (Refused ShortOutput) = refl
no_frame_back (Refused BadBody) = refl
no_frame_back (Refused BadArgument) = refl
no_frame_back (Refused BadJournal) = refl
no_frame_back (Refused NoneKept) = refl
no_frame_back (Refused BadState) = refl
no_frame_back (Refused BadId) = refl
no_frame_back (Refused LongInput) = refl
no_frame_back (Refused BadStart) = refl
no_frame_back (Refused Unreadable) = refl
no_frame_back (Refused AllOpen) = refl
no_frame_back (Refused NoMatch) = refl
no_frame_back (Refused BadReply) = refl
no_frame_back (Refused NoCommand) = refl
no_frame_back (Silent OtherAddress) = refl
no_frame_back (Silent OtherPort) = refl
no_frame_back (Silent OtherControl) = refl
no_frame_back (Silent BadInformation) = refl
no_frame_back (Silent NotBusy) = refl
no_frame_back (Silent LinesDisabled) = refl
no_frame_back (Silent Quiet) = refl

pub never_0 : (e : NoFrame) → no_frame_number e ≡ number.has_frame → ⊥
never_0 e z =
    let n : no_frame_number e ≡ number.no_command = ap no_frame_number (sym (no_frame_back e) ∙ ap no_frame_of z) in
    omega (arith, z, n)

pub answer_same : (x y : Result Frame NoFrame) → answer_of x ≡ answer_of y → x ≡ y
answer_same (Ok f) (Ok g) e =
    ap (λ (h : Frame). let x : Result Frame NoFrame = Ok h in x) (frame_same (ap (λ (a : Answer). a.port) e) (ap (λ (a : Answer). a.length) e))
answer_same (Ok f) (Err s) e = absurd (never_0 s (sym (ap (λ (a : Answer). a.number) e)))
answer_same (Err r) (Ok g) e = absurd (never_0 r (ap (λ (a : Answer). a.number) e))
answer_same (Err r) (Err s) e =
    ap (λ (b : NoFrame). let x : Result Frame NoFrame = Err b in x)
    (sym (no_frame_back r) ∙ ap (λ (a : Answer). no_frame_of a.number) e ∙ no_frame_back s)

-- ---- what refuses a call

number_in : Verdict → ℕ
number_in verdicts.Passed = 0
number_in (verdicts.Refused n) = n

pub verdict_same : (x y : Result Unit Refusal) → verdict_of x ≡ verdict_of y → x ≡ y
unfolding number_in
verdict_same (Ok m) (Ok n) e = refl
verdict_same (Ok m) (Err s) e = absurd (never_0 (Refused s) (sym (ap number_in e)))
verdict_same (Err r) (Ok n) e = absurd (never_0 (Refused r) (ap number_in e))
verdict_same (Err r) (Err s) e = refused_same r s (ap number_in e)
