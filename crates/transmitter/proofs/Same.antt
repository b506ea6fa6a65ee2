-- Two results that stand for one transmission are one.
use Rattle.std.proofs.Common.{◌≡◌, ℕ, Result, Ok, Err, ap, arith}
use Rattle.numbers.specs.declared.Refusal.{Refusal}
use Rattle.numbers.proofs.Same.{refusal_same, refusal_some}
use Rattle.transmitter.specs.Transmit.{Sent, sent_of}

pub sent_same : (x y : Result ℕ Refusal) → sent_of x ≡ sent_of y → x ≡ y
sent_same (Ok n) (Ok m) e = ap (λ (s : Sent). let x : Result ℕ Refusal = Ok s.count in x) e
sent_same (Ok n) (Err s) e = absurd (omega (arith, refusal_some s, ap (λ (x : Sent). x.number) e))
sent_same (Err r) (Ok m) e = absurd (omega (arith, refusal_some r, ap (λ (x : Sent). x.number) e))
sent_same (Err r) (Err s) e = ap (λ (x : Refusal). let y : Result ℕ Refusal = Err x in y) (refusal_same r s (ap (λ (x : Sent). x.number) e))
