-- Demand 3 of the exports: packing loses nothing, so an export gives what the call of crate `adapter` gives. Assumes nothing.
use Prim.Native.Nat.{ℕ, ◌+◌, ◌*◌, ◌/◌, ◌%◌, ◌≤◌, ◌<◌, ◌^◌}
use mathlib.Core.Path.{◌≡◌, refl, sym, ap, ◌∙◌}
use mathlib.Core.Bool.{true, false}
use mathlib.Core.List.{List, [], ◌∷◌, foldl}
use mathlib.Core.Logic.{◌⊎◌, inl, inr}
use native.Mathlib.Omega.{arith}
use lib.ListN.{length}
use lib.Dec.{eqb, lit<}
use Rattle.bits.proofs.Tests.{either}
use borrow.Author.Tests.{ltb-false}
use Rattle.state.specs.State.{Adapter}
use Rattle.state.specs.Bytes.{state_in}
use Rattle.state.proofs.Good.{ranges}
use Rattle.state.proofs.Spelling.{its_range}
use Rattle.chip.specs.Answer.{Reaction, front_length}
use Rattle.chip.specs.Event.{Event, frame}
use Rattle.chip.specs.Request.{replies}
use Rattle.chip.specs.Chip.{reaction}
use Rattle.chip.proofs.Laws.{number_given}
use Rattle.chip.proofs.Steps.{Shape, dropped, acknowledged, echoed, rejected, replied, quiet, moved_port, shapes}
use Rattle.journal.specs.Layout.{slots_of, well_formed, kept_of}
use Rattle.journal.proofs.Formats.{slots_small}
use Rattle.journal.proofs.Ring.{of_well}
use Rattle.adapter.specs.Answers.{Answer}
use Rattle.adapter.specs.Answers.{KeptNumber}
use Rattle.adapter.specs.Answers.{Passed}
use Rattle.adapter.specs.Refusals.{wrong_argument, wrong_body, verdict}
use Rattle.adapter.specs.Calls.{created, made_empty, kept_in, made_large, called, done, stepped_back}
use Rattle.adapter.proofs.Cases.{passing, body_short}
use Rattle.batch.specs.declared.Sample.{Sample}
use Rattle.batch.specs.Batch.{Batch}
use Rattle.batch.specs.Batch.{Course, onward, one_by_one}
use Rattle.batch.specs.Batch as batches
use Rattle.batch.proofs.Course.{port_in, one_more}
use Rattle.sca.specs.Adapter.{pack_answer, pack_kept, pack_batch}
use Rattle.promises.specs.Runs.{Call, event, batch, back, empty, enlarge, Given, Run, left, bare, batch_given, is_refusal, refuses, Demand3}
use Rattle.promises.specs.Ours.{Handed, given, gives_ours, ours, unpacked, unpacked_kept, gives_exported, exported}
use Rattle.promises.proofs.Runs.{demand3}
use Rattle.promises.proofs.Steps.{split}
use Rattle.promises.proofs.Cases.{refusal_most, event_cases, batch_cases, batch_passing, back_cases, empty_cases, enlarge_cases, create_cases}

-- ---- packing loses nothing

pub its_number : (n l p : ℕ) → n < 256 → (n + 256 * l + 65536 * p) % 256 ≡ n
its_number n l p h = omega arith

module _ (n l p : ℕ) (hn : n < 256) (hl : l < 256) (hp : p < 256) where
  its_length : (n + 256 * l + 65536 * p) / 256 % 256 ≡ l
  its_length = omega arith

  its_port : (n + 256 * l + 65536 * p) / 65536 % 256 ≡ p
  its_port = omega arith

  -- no frames are counted in an event's result
  its_frames : (n + 256 * l + 65536 * p) / 2 ^ 24 % 2 ^ 16 ≡ 0
  its_frames = omega arith

  its_sum : (n + 256 * l + 65536 * p) / 2 ^ 40 ≡ 0
  its_sum = omega arith

record Small (x : Answer) : Type 0 where
  number : x.number < 256
  length : x.length < 256
  port : x.port < 256

unpacked_answer : (x : Answer) (output : List ℕ) → Small x → unpacked (pack_answer x) output ≡ given x output
unpacked_answer x output s = simp (its_number, its_length, its_port, its_frames, its_sum, s.number, s.length, s.port)

-- of a batch
record SmallBatch (x : Batch) : Type 0 where
  number : x.number < 256
  length : x.length < 256
  port : x.port < 256
  frames : x.frames < 65536

-- what stands above a place, and what stands below it
above_8 : (a b : ℕ) → a < 2 ^ 8 → (a + 2 ^ 8 * b) / 2 ^ 8 ≡ b
above_8 a b h = omega arith

above_16 : (a b : ℕ) → a < 2 ^ 16 → (a + 2 ^ 16 * b) / 2 ^ 16 ≡ b
above_16 a b h = omega arith

above_24 : (a b : ℕ) → a < 2 ^ 24 → (a + 2 ^ 24 * b) / 2 ^ 24 ≡ b
above_24 a b h = omega arith

above_40 : (a b : ℕ) → a < 2 ^ 40 → (a + 2 ^ 40 * b) / 2 ^ 40 ≡ b
above_40 a b h = omega arith

below_8 : (a b : ℕ) → a < 2 ^ 8 → (a + 2 ^ 8 * b) % 2 ^ 8 ≡ a
below_8 a b h = omega arith

below_16 : (a b : ℕ) → a < 2 ^ 16 → (a + 2 ^ 16 * b) % 2 ^ 16 ≡ a
below_16 a b h = omega arith

module _ (n l p f m : ℕ) (hn : n < 256) (hl : l < 256) (hp : p < 256) (hf : f < 65536) where
  abbrev result : ℕ
  result = n + 256 * l + 65536 * p + 16777216 * f + 1099511627776 * m

  batch_length : result / 2 ^ 8 % 256 ≡ l
  batch_length =
      let e : result ≡ n + 2 ^ 8 * (l + 2 ^ 8 * (p + 2 ^ 8 * (f + 2 ^ 16 * m))) = omega arith in
      ap (λ (k : ℕ). k / 2 ^ 8 % 256) e ∙ ap (λ (k : ℕ). k % 256) (above_8 n _ hn) ∙ below_8 l _ hl

  batch_port : result / 2 ^ 16 % 256 ≡ p
  batch_port =
      let e : result ≡ (n + 256 * l) + 2 ^ 16 * (p + 2 ^ 8 * (f + 2 ^ 16 * m)) = omega arith in
      ap (λ (k : ℕ). k / 2 ^ 16 % 256) e ∙ ap (λ (k : ℕ). k % 256) (above_16 (n + 256 * l) _ (omega arith)) ∙ below_8 p (f + 2 ^ 16 * m) hp

  batch_frames : result / 2 ^ 24 % 2 ^ 16 ≡ f
  batch_frames =
      let e : result ≡ (n + 256 * l + 65536 * p) + 2 ^ 24 * (f + 2 ^ 16 * m) = omega arith in
      ap (λ (k : ℕ). k / 2 ^ 24 % 2 ^ 16) e ∙ ap (λ (k : ℕ). k % 2 ^ 16) (above_24 (n + 256 * l + 65536 * p) _ (omega arith)) ∙ below_16 f m hf

  batch_sum : result / 2 ^ 40 ≡ m
  batch_sum =
      let e : result ≡ (n + 256 * l + 65536 * p + 16777216 * f) + 2 ^ 40 * m = omega arith in
      ap (λ (k : ℕ). k / 2 ^ 40) e ∙ above_40 (n + 256 * l + 65536 * p + 16777216 * f) m (omega arith)

unpacked_batch : (x : Batch) (output : List ℕ) → SmallBatch x → unpacked (pack_batch x) output ≡ batch_given x output
unpacked_batch x output s =
    let number : pack_batch x % 256 ≡ x.number = omega (arith, s.number) in
    let length = batch_length x.number x.length x.port x.frames x.sum s.number s.length s.port s.frames in
    let port = batch_port x.number x.length x.port x.frames x.sum s.number s.length s.port s.frames in
    let frames = batch_frames x.number x.length x.port x.frames x.sum s.number s.length s.port s.frames in
    let sum = batch_sum x.number x.length x.port x.frames x.sum s.number s.length s.port s.frames in
    rw (number, port, length, frames, sum) refl

unpacked_number : (n : ℕ) → n < 256 → unpacked n [] ≡ bare n []
unpacked_number n h =
    let a : n % 256 ≡ n = omega arith in
    let b : n / 256 % 256 ≡ 0 = omega arith in
    let c : n / 65536 % 256 ≡ 0 = omega arith in
    let d : n / 2 ^ 24 % 2 ^ 16 ≡ 0 = omega arith in
    let e : n / 2 ^ 40 ≡ 0 = omega arith in
    simp (a, b, c, d, e)

-- ---- what the calls give is small

pub refusal_small : (n : ℕ) → is_refusal n ≡ true → n < 256
refusal_small n r = omega (arith, refusal_most n r)

small_given : (n : ℕ) → (n ≡ 0) ⊎ ((11 ≤ n) × (n ≤ 17)) → n < 256
small_given n (inl z) = omega arith
small_given n (inr l) = omega arith

-- a frame leaves on the port that it came on, which is 0 or 1, or on the active one
port_of : (e : Event) (port : ℕ) (body : List ℕ) → wrong_argument e ≡ false → e ≡ frame port body → port < 256
port_of e port body h g = let l = ltb-false 1 port (rw g at h) in omega arith

-- no body has over 16 bytes
length_of : (e : Event) (port : ℕ) (body : List ℕ) → wrong_body e ≡ false → e ≡ frame port body → length body < 256
length_of e port body h g = let l = body_short port body (rw g at h) in omega arith

record SmallFrame (r : Reaction) : Type 0 where
  port : r.port < 256
  length : front_length r.frames < 256

small_frame : (a : Adapter) (e : Event) → a.link.port ≤ 1 → wrong_argument e ≡ false → wrong_body e ≡ false → SmallFrame (reaction a e)
unfolding replies
small_frame a e f h k = by (reaction a e) (shapes a e)
  where
    by : (r : Reaction) → Shape a e r → SmallFrame r
    by r (dropped n l u) = record { port = lit< tt; length = lit< tt }
    by r (acknowledged port body g b c) = record { port = port_of e port body h g; length = lit< tt }
    by r (echoed port body g) = record { port = port_of e port body h g; length = length_of e port body k g }
    by r (rejected port body g) = record { port = port_of e port body h g; length = lit< tt }
    by r (replied b trn ch err len d m g) = record { port = rw (moved_port a e b m) (omega arith); length = lit< tt }
    by r (quiet b m) = record { port = lit< tt; length = lit< tt }

called_small : (s j : List ℕ) (e : Event) (o : List ℕ) → Small (called s j e o).answer
unfolding done verdict
called_small s j e o =
    event_cases s j e o (λ x. Small x.answer) (λ n r. record { number = refusal_small n r; length = lit< tt; port = lit< tt })
    (λ q.
    let p = passing s j e o Passed (sym q) refl in
    let l = small_frame (state_in s) e (ranges (state_in s) (its_range s p.state)).2 p.argument p.body in
    record { number = small_given _ (number_given (state_in s) e); length = l.length; port = l.port })

-- a batch sends no more frames than it has samples
few_frames : (list : List Sample) (c : Course) → length (foldl onward c list).bodies ≤ length c.bodies + length list
few_frames [] c = omega arith
few_frames (x ∷ list) c = let f = few_frames list (onward c x) in omega (arith, one_more c x)

batch_small : (s j : List ℕ) (list : List Sample) (o : List ℕ) → SmallBatch (batches.called s j list o).answer
batch_small s j list o =
    batch_cases s j list o (λ x. SmallBatch x.answer) (λ n r. record { number = refusal_small n r; length = lit< tt; port = lit< tt; frames = lit< tt })
    (λ q.
    let p = batch_passing s j list o q in
    let few = few_frames list (batches.outset s j) in
    let port = (ranges (state_in s) (its_range s p.state)).2 in
    either SmallBatch (eqb (length (one_by_one s j list).bodies) 0) _ _
    (record { number = lit< tt; length = lit< tt; port = lit< tt; frames = lit< tt })
    (record { number = lit< tt; length = lit< tt; port = omega (arith, port, port_in s); frames = omega (arith, few, p.few) }))

pub batch_number : (s j : List ℕ) (list : List Sample) (o : List ℕ) → (batches.called s j list o).answer.number < 256
batch_number s j list o = (batch_small s j list o).number

pub called_number : (s j : List ℕ) (e : Event) (o : List ℕ) → (called s j e o).answer.number < 256
called_number s j e o = (called_small s j e o).number

pub back_number : (s j : List ℕ) → (stepped_back s j).number < 256
back_number s j = back_cases s j (λ x. x.number < 256) refusal_small (λ _ _ _. lit< tt)

pub empty_number : (j : List ℕ) → (made_empty j).number < 256
empty_number j = empty_cases j (λ m. m.number < 256) refusal_small (lit< tt)

pub enlarge_number : (j second : List ℕ) → (made_large j second).number < 256
enlarge_number j second = enlarge_cases j second (λ x. x.number < 256) refusal_small (λ _ _. lit< tt)

pub create_number : (s : List ℕ) (id : ℕ) → (created s id).number < 256
create_number s id = create_cases s id (λ m. m.number < 256) refusal_small (λ _. lit< tt)

kept_again : (k n : ℕ) → k ≤ n → n < 256 → ((17 + 256 * k) % 256 ≡ 17) × ((17 + 256 * k) / 256 % 256 ≡ k)
kept_again k n h l = (omega arith, omega arith)

-- ---- an export gives what the call gives, whatever it is handed

pub gives_same : (p : Handed) (k : Call) → gives_exported p k ≡ gives_ours p k
gives_same p (event e o) =
    unpacked_answer (called p.state p.journal e o).answer (called p.state p.journal e o).output (called_small p.state p.journal e o)
gives_same p (batch list o) =
    let x = batches.called p.state p.journal list o in
    unpacked_batch x.answer x.output (batch_small p.state p.journal list o)
gives_same p back = unpacked_number (stepped_back p.state p.journal).number (back_number p.state p.journal)
gives_same p empty = unpacked_number (made_empty p.journal).number (empty_number p.journal)
gives_same p (enlarge second) = unpacked_number (made_large p.journal second).number (enlarge_number p.journal second)

pub kept_same : (j : List ℕ) → unpacked_kept (pack_kept (kept_in j)) ≡ kept_in j
unfolding kept_in
kept_same j =
    split (well_formed j) (λ h. let k = kept_again (kept_of j) (slots_of j) (of_well j h).few (slots_small j) in simp (h, k.0, k.1)) (λ h. simp h)

-- DEMAND 3 HOLDS of the exports.
pub demand3_exported : Demand3 exported
demand3_exported =
    record {
      undamaged = λ r k h. rw (gives_same (left ours r) k) (demand3.undamaged r k h);
      state = λ r. demand3.state r;
      reply = λ r e output. gives_same (left ours r) (event e output) ∙ demand3.reply r e output;
      batch_reply = λ r list output. gives_same (left ours r) (batch list output) ∙ demand3.batch_reply r list output;
      takes_back = λ r h.
          let d = demand3.takes_back r (λ z. h (same r ∙ z)) in (gives_same (left ours r) back ∙ d.0, d.1);
      refused_at_zero = λ r z.
          let d = demand3.refused_at_zero r (sym (same r) ∙ z) in (gives_same (left ours r) back ∙ d.0, d.1);
      kept = λ r. kept_same (left ours r).journal ∙ demand3.kept r;
      empties = λ r. gives_same (left ours r) empty ∙ demand3.empties r;
      enlarges = λ r second. gives_same (left ours r) (enlarge second) ∙ demand3.enlarges r second;
      unchanged = λ r k h.
          let d = demand3.unchanged r k (ap refuses (sym (gives_same (left ours r) k)) ∙ h) in
          (d.0, ap (λ (g : Given). g.output) (gives_same (left ours r) k) ∙ d.1);
    }
  where
    same : (r : Run) → (unpacked_kept (pack_kept (kept_in (left ours r).journal))).kept ≡ (kept_in (left ours r).journal).kept
    same r = ap (λ (x : KeptNumber). x.kept) (kept_same (left ours r).journal)
