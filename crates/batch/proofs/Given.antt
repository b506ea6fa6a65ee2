-- A sample of a batch: what its event leaves is what `given` says. Assumes nothing.
use Prim.Native.Nat.{ℕ, ◌+◌, ◌-◌, ◌*◌, ◌≤◌}
use mathlib.Core.Path.{◌≡◌, refl, sym, ap, ◌∙◌}
use mathlib.Core.List.{List}
use mathlib.Core.Bool.{true}
use native.Mathlib.Omega.{arith}
use lib.ListN.{length, take, drop}
use lib.Count.{ones}
use borrow.Author.Tests.{ne_eqb}
use borrow.Rule.Slice.PartMut.{put_mid}
use Rattle.parts.specs.Parts.{part}
use Rattle.parts.proofs.Laws.{put_mid_lem, length_part}
use Rattle.packets.specs.Packets.{data_of}
use Rattle.std.specs.Prelude.{Result, Ok, Err}
use Rattle.chip.specs.declared.Frame.{Frame}
use Rattle.adapter.specs.declared.NoFrame.{NoFrame}
use Rattle.adapter.specs.declared.NoFrame.TheVariants.{Refused, Silent}
use Rattle.adapter.specs.Answers.{answer_of, no_frame_number}
use Rattle.journal.specs.Layout.{well_formed}
use Rattle.journal.proofs.Ring.{of_well, well_of}
use Rattle.adapter.specs.Calls.{Outcome, outcome, done}
use Rattle.adapter.proofs.Laws.{recorded_well}
use Rattle.batch.specs.declared.Sample.{Sample}
use Rattle.batch.specs.declared.Batch.{Batch}
use Rattle.batch.specs.Batch.{event_of}
use Rattle.batch.specs.Inner.{going, sent_after, given, Given}

some_number : (e : NoFrame) → no_frame_number e ≡ 0 → ⊥
some_number (Refused r) e = grind arith
some_number (Silent s) e = grind arith

module _ (s j o : List ℕ) (b : Batch) (x : Sample) (r : Result Frame NoFrame) (s' j' body : List ℕ) (k : ℕ) (g : k ≡ b.frames)
    (formed : well_formed j ≡ true)
    (room : 10 * b.frames + 10 ≤ length o) (l : length body ≡ length (take (10 * k + 10 - 10 * k) (drop (10 * k) o)))
    (e : outcome (answer_of r) s' j' body ≡ done s j (event_of x) (take (10 * k + 10 - 10 * k) (drop (10 * k) o))) where
  abbrev after : List ℕ
  after = put_mid (10 * k) (10 * k + 10 - 10 * k) o body

  along : given (going s j o b) x ≡ going s' j' after (sent_after b (outcome (answer_of r) s' j' body))
  unfolding given part
  along =
      let ten : 10 * k + 10 - 10 * k ≡ 10 = omega arith in
      let there : outcome (answer_of r) s' j' body ≡ done s j (event_of x) (part (10 * b.frames) 10 o) = rw (← g) (rw ten at e) in
      let long : length body ≡ 10 = rw (ten, g) at l ∙ length_part (10 * b.frames) 10 o room in
      rw (← there, put_mid_lem (10 * k) 10 o body long, g) refl

  stays : well_formed j' ≡ true
  unfolding done
  stays = ap (λ (o : Outcome). well_formed o.journal) e ∙ well_of (recorded_well s (event_of x) j (of_well j formed))

  pub silent : (e : NoFrame) → r ≡ Err e → Given s j o b x s' j' after b
  silent e q = record { is = sym (along ∙ rw (q, ne_eqb _ _ (some_number e)) refl); formed = stays; frame = omega arith; lines = omega arith }

  pub counted : (f : Frame) (lines : ℕ) → r ≡ Ok f → (lines ≡ ones (data_of body)) × (lines ≤ 32)
      → Given s j o b x s' j' after (record { port = f.port; frames = b.frames + 1; sum = b.sum + lines })
  counted f lines q h = let few = h.1 in record { is = sym (along ∙ rw (q, h.0) refl); formed = stays; frame = omega arith; lines = omega arith }
