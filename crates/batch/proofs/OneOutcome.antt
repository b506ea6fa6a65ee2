-- Any two outcomes that a public function's contract allows coincide: the result itself, and what it and the lent bytes stand for.
use Prim.Native.Nat.{ℕ}
use mathlib.Core.Path.{◌≡◌, sym, ap, ◌∙◌}
use Rattle.std.specs.Prelude.{Result, Ok, Err}
use Rattle.parts.proofs.Outcome.{One}
use Rattle.chip.proofs.Same.{both}
use Rattle.adapter.specs.declared.NoFrame.{NoFrame}
use Rattle.adapter.proofs.Same.{no_frame_of, no_frame_back, never_0}
use Rattle.batch.specs.declared.Batch.{Batch}
use Rattle.batch.specs.Batch as batches
use Rattle.batch.specs.Batch.{Outcome, answer_of, outcome}
use Rattle.batch.proofs as this

-- two answers of code that stand for one answer of the documents are the same answer
batch_same : {p q m n s t : ℕ} → p ≡ q → m ≡ n → s ≡ t
    → ◌≡◌ {A = Batch} (record { port = p; frames = m; sum = s }) (record { port = q; frames = n; sum = t })
batch_same e f g = cc

answer_same : (x y : Result Batch NoFrame) → answer_of x ≡ answer_of y → x ≡ y
answer_same (Ok b) (Ok c) e =
    ap (λ (d : Batch). let x : Result Batch NoFrame = Ok d in x)
    (batch_same (ap (λ (a : batches.Batch). a.port) e) (ap (λ (a : batches.Batch). a.frames) e) (ap (λ (a : batches.Batch). a.sum) e))
answer_same (Ok b) (Err s) e = absurd (never_0 s (sym (ap (λ (a : batches.Batch). a.number) e)))
answer_same (Err r) (Ok c) e = absurd (never_0 r (ap (λ (a : batches.Batch). a.number) e))
answer_same (Err r) (Err s) e =
    ap (λ (b : NoFrame). let x : Result Batch NoFrame = Err b in x)
    (sym (no_frame_back r) ∙ ap (λ (a : batches.Batch). no_frame_of a.number) e ∙ no_frame_back s)

pub samples_one : One {B = Result Batch NoFrame × Outcome} 4 this.samples.Kinds.ps this.samples.Kinds.r this.samples.Reads.Post
    (λ κs x s. (x, outcome (answer_of x) s.0.now s.1.0.now s.1.1.1.0.now))
samples_one κs a x y s t p q = both (answer_same x y (ap (λ (o : Outcome). o.answer) (p ∙ sym q))) (p ∙ sym q)
