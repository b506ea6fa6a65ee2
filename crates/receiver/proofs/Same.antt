-- Two receptions that stand for one are one.
use Rattle.std.proofs.Common.{◌≡◌, ℕ, ◌<◌, cond, ◌&&◌, eqb, leb, Result, Ok, Err, refl, sym, ap, ◌∙◌, arith}
use Rattle.numbers.specs.Numbers as number
use Rattle.numbers.specs.declared.Refusal.TheVariants.{ShortOutput, BadBody, BadArgument, BadJournal, NoneKept, BadState, BadId, LongInput, BadStart}
use Rattle.numbers.specs.declared.Refusal.TheVariants.{Unreadable, AllOpen, NoMatch, BadReply, NoCommand}
use Rattle.numbers.specs.declared.Dropped.TheVariants.{LongContent, BrokenContent, WrongFcs, Aborted}
use Rattle.numbers.proofs.Same.{refusal_of, drop_of}
use Rattle.receiver.specs.declared.Receiver.{Receiver}
use Rattle.receiver.specs.declared.NoBody.{NoBody}
use Rattle.receiver.specs.declared.NoBody.TheVariants.{Refused, Dropped, NoFrame}
use Rattle.receiver.specs.declared.Reception.{Reception}
use Rattle.receiver.specs.Received.{Received, no_body_number, answer_number, answer_length, received_of}

abbrev no_body_of : ℕ → NoBody
no_body_of n =
    cond (eqb n number.no_frame) NoFrame (cond (leb number.long_content n && leb n number.aborted) (Dropped (drop_of n)) (Refused (refusal_of n)))

no_body_back : (e : NoBody) → no_body_of (no_body_number e) ≡ e
no_body_back (Refused ShortOutput) = refl
no_body_back (Refused BadBody) = refl
no_body_back (Refused BadArgument) = refl
no_body_back (Refused BadJournal) = refl
no_body_back (Refused NoneKept) = refl
no_body_back (Refused BadState) = refl
no_body_back (Refused BadId) = refl
no_body_back (Refused LongInput) = refl
no_body_back (Refused BadStart) = refl
no_body_back (Refused Unreadable) = refl
no_body_back (Refused AllOpen) = refl
no_body_back (Refused NoMatch) = refl
no_body_back (Refused BadReply) = refl
no_body_back (Refused NoCommand) = refl
no_body_back (Dropped LongContent) = refl
no_body_back (Dropped BrokenContent) = refl
no_body_back (Dropped WrongFcs) = refl
no_body_back (Dropped Aborted) = refl
no_body_back NoFrame = refl

no_body_some : (e : NoBody) → 0 < no_body_number e
no_body_some (Refused ShortOutput) = omega arith
no_body_some (Refused BadBody) = omega arith
no_body_some (Refused BadArgument) = omega arith
no_body_some (Refused BadJournal) = omega arith
no_body_some (Refused NoneKept) = omega arith
no_body_some (Refused BadState) = omega arith
no_body_some (Refused BadId) = omega arith
no_body_some (Refused LongInput) = omega arith
no_body_some (Refused BadStart) = omega arith
no_body_some (Refused Unreadable) = omega arith
no_body_some (Refused AllOpen) = omega arith
no_body_some (Refused NoMatch) = omega arith
no_body_some (Refused BadReply) = omega arith
no_body_some (Refused NoCommand) = omega arith
no_body_some (Dropped LongContent) = omega arith
no_body_some (Dropped BrokenContent) = omega arith
no_body_some (Dropped WrongFcs) = omega arith
no_body_some (Dropped Aborted) = omega arith
no_body_some NoFrame = omega arith

answer_same : (x y : Result ℕ NoBody) → answer_number x ≡ answer_number y → answer_length x ≡ answer_length y → x ≡ y
answer_same (Ok n) (Ok m) e f = ap (λ (k : ℕ). let x : Result ℕ NoBody = Ok k in x) f
answer_same (Ok n) (Err s) e f = absurd (omega (arith, no_body_some s, e))
answer_same (Err r) (Ok m) e f = absurd (omega (arith, no_body_some r, e))
answer_same (Err r) (Err s) e f =
    ap (λ (b : NoBody). let x : Result ℕ NoBody = Err b in x) (sym (no_body_back r) ∙ ap no_body_of e ∙ no_body_back s)

parts_same : {r s : Receiver} {n m : ℕ} {a b : Result ℕ NoBody} → r ≡ s → n ≡ m → a ≡ b
    → ◌≡◌ {A = Reception} (record { rx = r; consumed = n; answer = a }) (record { rx = s; consumed = m; answer = b })
parts_same p q t = cc

pub received_same : (x y : Reception) → received_of x ≡ received_of y → x ≡ y
received_same x y e =
    parts_same (ap (λ (r : Received). r.rx) e) (ap (λ (r : Received). r.consumed) e)
    (answer_same x.answer y.answer (ap (λ (r : Received). r.number) e) (ap (λ (r : Received). r.length) e))
