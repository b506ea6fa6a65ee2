-- DEMAND 3 of the delivered calls. The invariant along a run: the state is that of the standing events, the journal is well formed, its
-- number is the text's, and its i-th newest record takes the state with i events taken back to the one with i + 1 taken back. Assumes nothing.
use Prim.Native.Nat.{ℕ, zero, suc, ◌+◌, ◌-◌, min, ◌≤◌, ◌<◌}
use mathlib.Core.Path.{◌≡◌, refl, sym, ap, ap₂, ◌∙◌}
use mathlib.Core.List.{List, [], ◌∷◌, foldl}
use mathlib.Core.Bool.{Bool, true, false, not, cond, true≢false}
use mathlib.Core.Logic.{◌⊎◌, inl, inr, ⊎_elim}
use native.Mathlib.Nat.{eq-zero-or-pos}
use native.Mathlib.Omega.{arith}
use lib.ListN.{length, drop, replicate, length-drop, length-replicate}
use lib.Seq.{drop-drop}
use lib.Dec.{eqb, leb, ltb}
use borrow.Author.Tests.{eq-eqb, ne_eqb, eqb-true, ltb-false, le-ltb, leb-true, not-false}
use Rattle.numbers.specs.Numbers as number
use Rattle.state.specs.State.{Adapter, power_on}
use Rattle.chip.specs.Event.{spi, i2c, Event, frame, completion, sample, upset}
use Rattle.chip.proofs.EventFits.{EventFits}
use Rattle.state.specs.Bytes.{state_size, state_bytes, state_in}
use Rattle.state.proofs.Spelling.{state_back, state_bytes_lem}
use Rattle.chip.specs.Chip.{reaction, accepted_reset}
use Rattle.chip.specs.Answer.{response, laid}
use Rattle.commands.specs.declared.command.Register.TheVariants.{ChipId}
use Rattle.registers.specs.Registers.{read}
use Rattle.chip.proofs.Laws.{good_stays, number_given, id_given, id_stays}
use Rattle.state.proofs.Good.{Good, power_on_good}
use Rattle.journal.specs.Layout.{slots_of, wrong_length, kept_of, past, emptied, lowered, enlarged}
use Rattle.journal.proofs.Formats.{some_slots}
use Rattle.journal.proofs.Enlarged.{enlarged_well, enlarged_slots, enlarged_kept, enlarged_past}
use Rattle.journal.specs.Record.{restored, sound}
use Rattle.bits.proofs.Tests.{either, both}
use Rattle.commands.specs.Channels.{is_master}
use Rattle.journal.proofs.Ring.{Well, well_of, emptied_well, emptied_slots, emptied_kept, lowered_well, lowered_slots, lowered_kept, lowered_past}
use Rattle.adapter.specs.Answers.{Verdict}
use Rattle.adapter.specs.Answers.{Refused, Passed}
use Rattle.adapter.specs.Answers.{KeptNumber}
use Rattle.adapter.specs.Refusals.{wrong_argument, wrong_body, in_order, verdict}
use Rattle.adapter.specs.Calls.{Made, made, created, kept_in, Copied, copied, made_large, Outcome, outcome, shown, recorded, done, called, Stepped, stepped, stepped_back}
use Rattle.adapter.specs.Answers.{plain}
use Rattle.adapter.proofs.Laws.{called_refused, called_done, own_refusals, recorded_well, recorded_slots, recorded_kept, newest_restores}
use Rattle.adapter.proofs.Laws.{newest_sound, older_stay, back_refused, back_done, empty_done, large_told}
use Rattle.batch.specs.declared.Sample.{Sample}
use Rattle.batch.specs.Batch.{event_of, Course, one_by_one, some_wrong, wrong_list}
use Rattle.batch.specs.Batch as batches
use Rattle.batch.proofs.Course.{port_back}
use Rattle.promises.specs.Runs.{Call, event, batch, back, empty, enlarge, is_enlarging, Given, SamplesOfTypes, OfItsTypes, AllOfTheirTypes, Run, left, refusal, refused}
use Rattle.promises.specs.Runs.{batch_refusal, batch_refused, Standing, at_start, keeps_event, keeps_sample}
use Rattle.promises.specs.Runs.{keeps, standing, state_after, due_state, bare, due, due_frames, batch_given, due_batch}
use Rattle.promises.specs.Runs.{enlarge_refusal, enlarge_refused, due_enlarging, is_refusal, refuses, lent, Demand3}
use Rattle.promises.specs.Ours.{Handed, handed, given, gives_ours, leaves_ours, ours}
use Rattle.promises.proofs.Formats.{slots_200, any_52224}
use Rattle.promises.proofs.Cases.{between_refusals, neither, create_cases}
use Rattle.promises.proofs.Refused.{event_unchanged, batch_answer, batch_unchanged, back_unchanged, empty_unchanged, enlarge_unchanged}
use Rattle.promises.proofs.Samples.{adapter_after, journal_after, along}
use Rattle.promises.proofs.Steps.{split}

-- ---- what refuses an event's own arguments

by_order : (short argument body : Bool) → in_order false false short argument body
    ≡ (let n = cond short 1 (cond argument 3 (cond body 2 0)) in cond (not (eqb n 0)) (Refused n) Passed)
unfolding in_order
by_order true argument body = refl
by_order false true body = refl
by_order false false true = refl
by_order false false false = refl

pub both_right : (short argument body : Bool) → not (eqb (cond short 1 (cond argument 3 (cond body 2 0))) 0) ≡ false → (argument ≡ false) × (body ≡ false)
both_right true argument body h = absurd (true≢false h)
both_right false true body h = absurd (true≢false h)
both_right false false true h = absurd (true≢false h)
both_right false false false h = (refl, refl)

-- an event of its types that is not refused is one that fits
pub fits : (e : Event) (output : List ℕ) → OfItsTypes (event e output) → refused e output ≡ false → EventFits e
fits (frame port body) output t h =
    let b = both_right (ltb (length output) 16) (wrong_argument (frame port body)) (wrong_body (frame port body)) h in
    let l = neither (ltb (length body) 2) (ltb 16 (length body)) b.1 in
    record { port = ltb-false 1 port b.0; short = ltb-false (length body) 2 l.0; long = ltb-false 16 (length body) l.1; bytes = t }
fits (completion (spi received)) output t h =
    let b = both_right (ltb (length output) 16) (wrong_argument (completion (spi received))) false h in
    record { sixteen = eqb-true (length received) 16 (not-false _ b.0); bytes = t }
fits (completion (i2c channel acknowledge lineLow received)) output t h =
    let b = both_right (ltb (length output) 16) (wrong_argument (completion (i2c channel acknowledge lineLow received))) false h in
    let n = neither (not (is_master channel)) (ltb 16 (length received)) b.0 in
    let m = both (leb 0x03 channel) (leb channel 0x12) (not-false (is_master channel) n.0) in
    record { first = leb-true 0x03 channel m.0; last = leb-true channel 0x12 m.1; sixteen = ltb-false 16 (length received) n.1; bytes = t }
fits (sample levels kind) output t h =
    let b = both_right (ltb (length output) 16) (wrong_argument (sample levels kind)) false h in
    record { levels = t; kind = ltb-false 2 kind b.0 }
fits upset output t h = tt

module _ (a : Adapter) (g : Good a) (j : List ℕ) (w : Well j) (e : Event) (o : List ℕ) where
  own : verdict (state_bytes a) j e o ≡ cond (refused e o) (Refused (refusal e o)) Passed
  own = own_refusals (state_bytes a) j e o (state_bytes_lem a g) w ∙ by_order (ltb (length o) 16) (wrong_argument e) (wrong_body e)

  is_refused : refused e o ≡ true → called (state_bytes a) j e o ≡ outcome (plain (refusal e o)) (state_bytes a) j o
  is_refused h = called_refused (state_bytes a) j e o (refusal e o) (own ∙ rw h refl)

  pub is_done : refused e o ≡ false → called (state_bytes a) j e o
      ≡ outcome (shown (response (reaction a e))) (state_bytes (reaction a e).adapter) (recorded (state_bytes a) e j) (laid (reaction a e).frames o)
  unfolding done
  is_done h = called_done (state_bytes a) j e o (own ∙ rw h refl) ∙ rw (state_back a g.registers.fits.long) refl

module _ (a : Adapter) (g : Good a) (j : List ℕ) (w : Well j) (list : List Sample) (o : List ℕ) where
  own_batch : batches.verdict (state_bytes a) j list o ≡ cond (batch_refused list o) (Refused (batch_refusal list o)) Passed
  own_batch = rw (state_bytes_lem a g, well_of w) (by_order (ltb (length o) 2560) (wrong_list list) false)

  batch_is_refused : batch_refused list o ≡ true
      → batches.called (state_bytes a) j list o ≡ batches.outcome (batches.bare (batch_refusal list o)) (state_bytes a) j o
  unfolding batches.called
  batch_is_refused h =
      let q : batches.verdict (state_bytes a) j list o ≡ Refused (batch_refusal list o) = own_batch ∙ rw h refl in
      ap (λ (v : Verdict). batches.judged v (state_bytes a) j list o) q

  batch_is_done : batch_refused list o ≡ false
      → batches.called (state_bytes a) j list o ≡ batches.done a.link.port (one_by_one (state_bytes a) j list) o
  unfolding batches.called
  batch_is_done h =
      let q : batches.verdict (state_bytes a) j list o ≡ Passed = own_batch ∙ rw h refl in
      ap (λ (v : Verdict). batches.judged v (state_bytes a) j list o) q
      ∙ ap (λ (port : ℕ). batches.done port (one_by_one (state_bytes a) j list) o) (port_back a)

-- ---- the states of runs of only the standing events

-- an event of its types that passes with an output of 16 bytes, and so with any longer one
pub record Fine (e : Event) : Type 0 where
  pub passes : refused e (replicate 16 0) ≡ false
  pub typed : OfItsTypes (event e (replicate 16 0))

abbrev pub AllFine : List Event → Type 0
AllFine [] = Unit
AllFine (e ∷ es) = Fine e × AllFine es

fine : (e : Event) (o : List ℕ) → OfItsTypes (event e o) → refused e o ≡ false → Fine e
fine e o t h = let b = both_right (ltb (length o) 16) (wrong_argument e) (wrong_body e) h in record { passes = simp (b.0, b.1); typed = t }

-- the samples of a batch that is not refused
abbrev FineSamples : List Sample → Type 0
FineSamples [] = Unit
FineSamples (x ∷ list) = Fine (event_of x) × FineSamples list

fine_samples : (list : List Sample) → SamplesOfTypes list → some_wrong list ≡ false → FineSamples list
unfolding some_wrong
fine_samples [] t h = tt
fine_samples (x ∷ list) t h =
    let n = neither (ltb 2 x.kind) (some_wrong list) h in (record { passes = simp n.0; typed = t.0 }, fine_samples list t.1 n.1)

fine_batch : (list : List Sample) (o : List ℕ) → SamplesOfTypes list → batch_refused list o ≡ false → FineSamples list
fine_batch list o t h =
    let right = (both_right (ltb (length o) 2560) (wrong_list list) false h).0 in
    fine_samples list t (neither (ltb 256 (length list)) (some_wrong list) right).1

fitting : (e : Event) → Fine e → EventFits e
fitting e f = fits e (replicate 16 0) f.typed f.passes

drop_fine : (es : List Event) → AllFine es → AllFine (drop 1 es)
drop_fine [] f = f
drop_fine (e ∷ es) f = f.1

-- what the text says that a call gives
abbrev pub told : ℕ → Standing → Call → Given
told id s (event e o) = due (state_after id s.events) e o
told id s (batch list o) = due_batch (state_after id s.events) list o
told id s back = cond (eqb s.number 0) (bare 5 []) (bare 17 [])
told id s empty = bare 17 []
told id s (enlarge second) = due_enlarging s second

module _ (id : ℕ) (small : id ≤ number.id_most) where
  after_good : (es : List Event) → AllFine es → Good (state_after id es)
  after_good [] f = power_on_good id
  after_good (e ∷ es) f = good_stays (state_after id es) e (after_good es f.1) (fitting e f.0)

  id_after : (es : List Event) → AllFine es → read (state_after id es).registers ChipId ≡ id
  id_after [] f = id_given 0 id small
  id_after (e ∷ es) f = id_stays (state_after id es) (after_good es f.1).registers e ∙ id_after es f.1

  -- their bytes
  abbrev bytes_after : List Event → List ℕ
  bytes_after es = state_bytes (state_after id es)

  spelled : (es : List Event) → AllFine es → state_in (bytes_after es) ≡ state_after id es
  spelled es f = state_back (state_after id es) (after_good es f).registers.fits.long

  -- ---- the invariant

  -- a record that takes one state back to another
  record TakesBack (r : List ℕ) (b a : List ℕ) : Type 0 where
    restores : restored b r ≡ a
    is_sound_lem : sound b r ≡ true

  -- the i-th newest record has one more event taken back than i
  abbrev Past : List ℕ → List Event → Type 0
  Past j es = (i : ℕ) → i < kept_of j → TakesBack (past j i) (bytes_after (drop i es)) (bytes_after (drop (suc i) es))

  record Inv (s : Standing) (j : List ℕ) : Type 0 where
    fit : AllFine s.events
    well : Well j
    slots : slots_of j ≡ s.most
    number : kept_of j ≡ s.number
    enough : s.number ≤ length s.events
    records : Past j s.events

  abbrev pair : Standing → List ℕ → Handed
  pair s j = handed (bytes_after s.events) j

  -- ---- an event that is recorded

  module _ (s : Standing) (j : List ℕ) (i : Inv s j) (e : Event) (f : Fine e) where
    abbrev after : List ℕ
    after = recorded (bytes_after s.events) e j

    more : kept_of after ≡ cond (accepted_reset e) 0 (min (slots_of j) (kept_of j + 1))
    more = recorded_kept (bytes_after s.events) e j i.well

    kept_records : accepted_reset e ≡ false → Past after (e ∷ s.events)
    kept_records other zero l =
        let g = after_good s.events i.fit in
        record {
          restores = newest_restores (state_after id s.events) e j i.well other g (fitting e f);
          is_sound_lem = newest_sound (state_after id s.events) e j i.well other g (fitting e f);
        }
    kept_records other (suc k) l =
        let l' : suc k < min (slots_of j) (kept_of j + 1) = rw (more, other) at l in
        rw (older_stay (bytes_after s.events) e j i.well other k l') (i.records k (omega arith))

    recorded_inv : Inv (keeps_event s e) after
    recorded_inv =
        record {
          fit = (f, i.fit);
          well = recorded_well (bytes_after s.events) e j i.well;
          slots = recorded_slots (bytes_after s.events) e j i.well ∙ i.slots;
          number = more ∙ ap₂ (λ (m n : ℕ). cond (accepted_reset e) 0 (min m (n + 1))) i.slots i.number;
          enough = either (λ n. n ≤ suc (length s.events)) (accepted_reset e) _ _ (omega arith) (omega (arith, i.enough));
          records = split (accepted_reset e) (λ r k l. let l' : k < 0 = rw (more, r) at l in absurd (omega arith)) kept_records;
        }

  -- ---- a batch, sample by sample

  after_samples : (list : List Sample) (s : Standing) → adapter_after (state_after id s.events) list ≡ state_after id (foldl keeps_sample s list).events
  after_samples [] s = refl
  after_samples (x ∷ list) s = after_samples list (keeps_sample s x)

  samples_inv : (list : List Sample) (s : Standing) (j : List ℕ) → Inv s j → FineSamples list
      → Inv (foldl keeps_sample s list) (journal_after (state_after id s.events) j list)
  samples_inv [] s j i f = i
  samples_inv (x ∷ list) s j i f = samples_inv list (keeps_sample s x) _ (recorded_inv s j i (event_of x) f.0) f.1

  -- ---- a journal made empty

  emptied_inv : (s : Standing) (j : List ℕ) → AllFine s.events → wrong_length j ≡ false → slots_of j ≡ s.most
      → Inv (record { events = s.events; number = 0; most = s.most }) (emptied j)
  emptied_inv s j f n m =
      record {
        fit = f;
        well = emptied_well j n;
        slots = emptied_slots j n ∙ m;
        number = emptied_kept j;
        enough = omega arith;
        records = λ i l. let z = emptied_kept j in absurd (omega arith);
      }

  -- ---- a journal made large

  abbrev at_200 : Standing → Standing
  at_200 s = record { events = s.events; number = s.number; most = 200 }

  enlarged_inv : (s : Standing) (j second : List ℕ) → Inv s j → wrong_length second ≡ false → kept_of j ≤ slots_of second → slots_of second ≡ 200
      → Inv (at_200 s) (enlarged j second)
  enlarged_inv s j second i n room m =
      record {
        fit = i.fit;
        well = enlarged_well j second i.well n room;
        slots = enlarged_slots j second i.well n room ∙ m;
        number = enlarged_kept j second i.well n room ∙ i.number;
        enough = i.enough;
        records = λ k l.
            let l' : k < kept_of j = rw (enlarged_kept j second i.well n room) at l in
            rw (enlarged_past j second i.well n room k l') (i.records k l');
      }

  -- ---- a step back that is granted

  after_drop : (k : ℕ) (es : List Event) → bytes_after (drop k (drop 1 es)) ≡ bytes_after (drop (suc k) es)
  after_drop k es = let n : 1 + k ≡ suc k = omega arith in ap bytes_after (drop-drop k 1 es ∙ ap (λ (m : ℕ). drop m es) n)

  module _ (s : Standing) (j : List ℕ) (i : Inv s j) (some : kept_of j ≡ 0 → ⊥) where
    back_inv : Inv (record { events = drop 1 s.events; number = s.number - 1; most = s.most }) (lowered j)
    back_inv =
        record {
          fit = drop_fine s.events i.fit;
          well = lowered_well j i.well;
          slots = lowered_slots j i.well ∙ i.slots;
          number = lowered_kept j i.well ∙ ap (λ (n : ℕ). n - 1) i.number;
          enough = simp length-drop (omega (arith, i.enough));
          records = λ k l.
              let l' : k < kept_of j - 1 = rw (lowered_kept j i.well) at l in
              rw (lowered_past j i.well k, after_drop k s.events, after_drop (suc k) s.events) (i.records (suc k) (omega arith));
        }

    back_granted : stepped_back (bytes_after s.events) j ≡ stepped 17 (bytes_after (drop 1 s.events)) (lowered j)
    back_granted =
        let newest : TakesBack (past j 0) (bytes_after s.events) (bytes_after (drop 1 s.events)) = i.records 0 (omega arith) in
        back_done (bytes_after s.events) j (state_bytes_lem (state_after id s.events) (after_good s.events i.fit)) i.well some newest.is_sound_lem
        ∙ ap (λ (b : List ℕ). stepped 17 b (lowered j)) newest.restores

  -- ---- one call

  -- what it gives and leaves is the text's, and the invariant stays
  record Turn (s : Standing) (j : List ℕ) (k : Call) : Type 0 where
    next : List ℕ
    gives_eq : gives_ours (pair s j) k ≡ told id s k
    leaves_eq : leaves_ours (pair s j) k ≡ pair (keeps s k) next
    inv : OfItsTypes k → Inv (keeps s k) next

  module _ (s : Standing) (j : List ℕ) (i : Inv s j) where
    abbrev now : Adapter
    now = state_after id s.events

    is_good : Good now
    is_good = after_good s.events i.fit

    turns : (k : Call) (s' : Standing) (j' : List ℕ) → gives_ours (pair s j) k ≡ told id s k → keeps s k ≡ s'
        → leaves_ours (pair s j) k ≡ pair s' j' → (OfItsTypes k → Inv s' j') → Turn s j k
    turns k s' j' gives e leaves inv = record { next = j'; gives_eq = gives; leaves_eq = rw e leaves; inv = λ t. rw e (inv t) }

    event_turn : (e : Event) (o : List ℕ) → Turn s j (event e o)
    event_turn e o =
        split (refused e o)
        (λ h.
        let x = is_refused now is_good j i.well e o h in
        turns (event e o) s j (ap (λ (y : Outcome). given y.answer y.output) x ∙ rw h refl) (rw h refl)
        (ap (λ (y : Outcome). handed y.state y.journal) x) (λ t. i))
        (λ h.
        let x = is_done now is_good j i.well e o h in
        turns (event e o) _ _ (ap (λ (y : Outcome). given y.answer y.output) x ∙ rw h refl) (rw h refl)
        (ap (λ (y : Outcome). handed y.state y.journal) x) (λ t. recorded_inv s j i e (fine e o t h)))

    batch_turn : (list : List Sample) (o : List ℕ) → Turn s j (batch list o)
    batch_turn list o =
        split (batch_refused list o)
        (λ h.
        let x = batch_is_refused now is_good j i.well list o h in
        turns (batch list o) s j (ap (λ (y : batches.Outcome). batch_given y.answer y.output) x ∙ rw h refl) (rw h refl)
        (ap (λ (y : batches.Outcome). handed y.state y.journal) x) (λ t. i))
        (λ h.
        let x = batch_is_done now is_good j i.well list o h ∙ ap (λ (c : Course). batches.done now.link.port c o) (along list now j [] is_good) in
        turns (batch list o) _ _ (ap (λ (y : batches.Outcome). batch_given y.answer y.output) x ∙ rw h refl) (rw h refl)
        (ap (λ (y : batches.Outcome). handed y.state y.journal) x
        ∙ ap (λ (a : Adapter). handed (state_bytes a) (journal_after now j list)) (after_samples list s))
        (λ t. samples_inv list s j i (fine_batch list o t h)))

    back_turn : Turn s j back
    back_turn =
        let n : kept_of j ≡ s.number = i.number in
        ⊎_elim
        (λ (z : kept_of j ≡ 0).
        let e : eqb s.number 0 ≡ true = eq-eqb s.number 0 (sym n ∙ z) in
        let x = back_refused (state_bytes now) j (state_bytes_lem now is_good) i.well z in
        turns back s j (ap (λ (y : Stepped). bare y.number []) x ∙ rw e refl) (rw e refl) (ap (λ (y : Stepped). handed y.state y.journal) x) (λ t. i))
        (λ (some : 0 < kept_of j).
        let e : eqb s.number 0 ≡ false = ne_eqb s.number 0 (λ q. omega arith) in
        let x = back_granted s j i (λ z. omega arith) in
        turns back _ _ (ap (λ (y : Stepped). bare y.number []) x ∙ rw e refl) (rw e refl) (ap (λ (y : Stepped). handed y.state y.journal) x)
        (λ t. back_inv s j i (λ z. omega arith)))
        (eq-zero-or-pos (kept_of j))

    empty_turn : Turn s j empty
    empty_turn =
        let x = empty_done j i.well.size in
        turns empty _ _ (ap (λ (y : Made). bare y.number []) x) refl (ap (λ (y : Made). handed (bytes_after s.events) y.bytes) x)
        (λ t. emptied_inv s j i.fit i.well.size i.slots)

    -- what an enlarging leaves, by what it comes to
    abbrev after_enlarging : Copied → Handed
    after_enlarging x = handed (bytes_after s.events) (cond (is_refusal x.number) x.first x.second)

    refused_enlarging : (second : List ℕ) (n : ℕ) → made_large j second ≡ copied n j second → enlarge_refusal s second ≡ n → eqb n 0 ≡ false
        → is_refusal n ≡ true → Turn s j (enlarge second)
    refused_enlarging second n x e z r =
        let h : enlarge_refused s second ≡ true = ap (λ (m : ℕ). not (eqb m 0)) e ∙ rw z refl in
        turns (enlarge second) s j (ap (λ (y : Copied). bare y.number []) x ∙ rw h (ap (λ (m : ℕ). bare m []) (sym e))) (rw h refl)
        (ap after_enlarging x ∙ rw r refl) (λ t. i)

    granted_enlarging : (second : List ℕ) → made_large j second ≡ copied 17 j (enlarged j second) → s.most ≡ 64 → length second ≡ 52224
        → Turn s j (enlarge second)
    granted_enlarging second x m n =
        let few = i.well.few in
        let slots = i.slots in
        let room : kept_of j ≤ slots_of second = omega (arith, slots_200 second n) in
        turns (enlarge second) (at_200 s) (enlarged j second)
        (ap (λ (y : Copied). bare y.number []) x ∙ rw (eq-eqb s.most 64 m, eq-eqb (length second) 52224 n) refl)
        (rw (eq-eqb s.most 64 m, eq-eqb (length second) 52224 n) refl) (ap after_enlarging x)
        (λ t. enlarged_inv s j second i (any_52224 second n) room (slots_200 second n))

    enlarge_turn : (second : List ℕ) → Turn s j (enlarge second)
    enlarge_turn second =
        let x = large_told j second s.most i.well i.slots in
        split (eqb s.most 64)
        (λ small.
        split (eqb (length second) 52224)
        (λ size. granted_enlarging second (x ∙ rw (small, size) refl) (eqb-true s.most 64 small) (eqb-true (length second) 52224 size))
        (λ size. refused_enlarging second 1 (x ∙ rw (small, size) refl) (rw (small, size) refl) refl refl))
        (λ small. refused_enlarging second 4 (x ∙ rw small refl) (rw small refl) refl refl)

    turn : (k : Call) → Turn s j k
    turn (event e o) = event_turn e o
    turn (batch list o) = batch_turn list o
    turn back = back_turn
    turn empty = empty_turn
    turn (enlarge second) = enlarge_turn second

  -- ---- every run

  record Whole (s : Standing) (j : List ℕ) (ks : List Call) : Type 0 where
    last : List ℕ
    left_eq : foldl leaves_ours (pair s j) ks ≡ pair (foldl keeps s ks) last
    inv : Inv (foldl keeps s ks) last

  whole : (ks : List Call) (s : Standing) (j : List ℕ) → Inv s j → AllOfTheirTypes ks → Whole s j ks
  whole [] s j i t = record { last = j; left_eq = refl; inv = i }
  whole (k ∷ ks) s j i t =
      let x = turn s j i k in
      let w = whole ks (keeps s k) x.next (x.inv t.0) t.1 in
      record { last = w.last; left_eq = ap (λ (p : Handed). foldl leaves_ours p ks) x.leaves_eq ∙ w.left_eq; inv = w.inv }

-- ---- the start

-- any chip ID that `create` accepts
pub accepted_id : (s : List ℕ) (id : ℕ) → (created s id).number ≡ number.no_frame → id ≤ 0xFFFFFF
accepted_id s id =
    create_cases s id (λ m. m.number ≡ number.no_frame → id ≤ 0xFFFFFF) (λ n r h. absurd (between_refusals n (omega arith) (omega arith) r)) (λ fits h. fits)

-- A NEW ADAPTER is the same in any bytes of a state's length.
pub any_bytes : (s : List ℕ) (id : ℕ) → length s ≡ state_size → id ≤ 0xFFFFFF → created s id ≡ made number.no_frame (state_bytes (power_on id))
unfolding created
any_bytes s id n h = rw (eq-eqb (length s) state_size n, le-ltb 0xFFFFFF id h) refl

-- a refused call leaves the pair and the output, whatever it was handed
refused_same : (p : Handed) (k : Call) → refuses (gives_ours p k) ≡ true → (leaves_ours p k ≡ p) × ((gives_ours p k).output ≡ lent k)
refused_same p (event e o) h =
    let x = event_unchanged p.state p.journal e o h in
    (ap (λ (y : Outcome). handed y.state y.journal) x, ap (λ (y : Outcome). y.output) x)
refused_same p (batch list o) h =
    let x = batch_unchanged p.state p.journal list o h in
    (ap (λ (y : batches.Outcome). handed y.state y.journal) x, ap (λ (y : batches.Outcome). y.output) x)
refused_same p back h = (ap (λ (y : Stepped). handed y.state y.journal) (back_unchanged p.state p.journal h), refl)
refused_same p empty h = (ap (handed p.state) (empty_unchanged p.journal h), refl)
refused_same p (enlarge second) h =
    let x = enlarge_unchanged p.journal second h in
    (ap (λ (y : Copied). handed p.state (cond (is_refusal (made_large p.journal second).number) y.first y.second)) x ∙ rw h refl, refl)

-- after every run, the pair and the invariant
module _ (r : Run) where
  abbrev first : Standing
  first = at_start (slots_of r.bytes)

  start_eq : ours.start r.id r.bytes ≡ pair r.id r.id_fits first (emptied r.bytes)
  start_eq =
      rw (any_bytes (replicate state_size 0) r.id (length-replicate {A = ℕ} state_size 0) r.id_fits, empty_done r.bytes r.size) refl

  run_whole : Whole r.id r.id_fits first (emptied r.bytes) r.calls
  run_whole =
      whole r.id r.id_fits r.calls first (emptied r.bytes) (emptied_inv r.id r.id_fits first r.bytes tt r.size refl) r.typed

  abbrev last : List ℕ
  last = run_whole.last

  at_end : left ours r ≡ pair r.id r.id_fits (standing r) last
  at_end = ap (λ (p : Handed). foldl leaves_ours p r.calls) start_eq ∙ run_whole.left_eq

  inv_end : Inv r.id r.id_fits (standing r) last
  inv_end = run_whole.inv

  kept_end : kept_in (left ours r).journal ≡ record { number = number.no_frame; kept = (standing r).number }
  unfolding kept_in
  kept_end = rw at_end (simp (well_of inv_end.well, inv_end.number))

  turn_end : (k : Call) → Turn r.id r.id_fits (standing r) last k
  turn_end k = turn r.id r.id_fits (standing r) last inv_end k

  gives_end : (k : Call) → gives_ours (left ours r) k ≡ told r.id (standing r) k
  gives_end k = ap (λ (p : Handed). gives_ours p k) at_end ∙ (turn_end k).gives_eq

  -- ---- what the text never says

  abbrev Undamaged : ℕ → Type 0
  Undamaged n = (n ≡ 4 → ⊥) × (n ≡ 6 → ⊥)

  undamaged : (n : ℕ) → (n ≡ 0) ⊎ ((11 ≤ n) × (n ≤ 17)) → Undamaged n
  undamaged n (inl z) = omega arith
  undamaged n (inr l) = omega arith

  never : (k : Call) → is_enlarging k ≡ false → Undamaged (told r.id (standing r) k).number
  never (event e o) h =
      either (λ (g : Given). Undamaged g.number) (refused e o) _ _
      (either Undamaged (ltb (length o) 16) _ _ (omega arith)
      (either Undamaged (wrong_argument e) _ _ (omega arith) (either Undamaged (wrong_body e) _ _ (omega arith) (omega arith))))
      (undamaged _ (number_given (due_state r) e))
  never (batch list o) h =
      either (λ (g : Given). Undamaged g.number) (batch_refused list o) _ _
      (either Undamaged (ltb (length o) 2560) _ _ (omega arith) (either Undamaged (wrong_list list) _ _ (omega arith) (omega arith)))
      (batch_answer Undamaged (omega arith) (omega arith) (due_state r).link.port (due_frames (due_state r) list))
  never back h = either (λ (g : Given). Undamaged g.number) (eqb (standing r).number 0) _ _ (omega arith) (omega arith)
  never empty h = omega arith
  never (enlarge second) h = absurd (true≢false h)

  -- ---- the sentences

  number_end : (kept_in (left ours r).journal).kept ≡ (standing r).number
  number_end = ap (λ (x : KeptNumber). x.kept) kept_end

  zero_back : (kept_in (left ours r).journal).kept ≡ 0 → (gives_ours (left ours r) back ≡ bare 5 []) × (leaves_ours (left ours r) back ≡ left ours r)
  zero_back z =
      let e : eqb (standing r).number 0 ≡ true = eq-eqb _ _ (sym number_end ∙ z) in
      let g : gives_ours (left ours r) back ≡ bare 5 [] = gives_end back ∙ rw e refl in
      (g, (refused_same (left ours r) back (ap refuses g)).0)

  some_back : ((kept_in (left ours r).journal).kept ≡ 0 → ⊥)
      → (gives_ours (left ours r) back ≡ bare 17 []) × (state_in (leaves_ours (left ours r) back).state ≡ state_after r.id (drop 1 (standing r).events))
  some_back z =
      let e : eqb (standing r).number 0 ≡ false = ne_eqb _ _ (λ q. z (number_end ∙ q)) in
      let x = turn_end back in (
        gives_end back ∙ rw e refl,
        ap (λ (p : Handed). state_in (leaves_ours p back).state) at_end ∙ ap (λ (p : Handed). state_in p.state) x.leaves_eq
            ∙ spelled r.id r.id_fits (keeps (standing r) back).events (x.inv tt).fit ∙ rw e refl,
      )

-- DEMAND 3 HOLDS of the delivered calls: for every chip ID that `create` accepts, all bytes of a journal's length made empty, every list of calls.
pub demand3 : Demand3 ours
demand3 =
    record {
      undamaged = λ r k h. rw (gives_end r k) (never r k h);
      state = λ r. ap (λ (p : Handed). state_in p.state) (at_end r) ∙ spelled r.id r.id_fits (standing r).events (inv_end r).fit;
      reply = λ r e output. gives_end r (event e output);
      batch_reply = λ r list output. gives_end r (batch list output);
      takes_back = λ r. some_back r;
      refused_at_zero = λ r. zero_back r;
      kept = λ r. kept_end r;
      empties = λ r. gives_end r empty;
      enlarges = λ r second. gives_end r (enlarge second);
      unchanged = λ r k h. refused_same (left ours r) k h;
    }

-- The chip's ID is the one that the adapter was created with, whatever was called.
pub id_kept : (r : Run) → read (ours.state (left ours r)).registers ChipId ≡ r.id
id_kept r =
    ap (λ (a : Adapter). read a.registers ChipId) (demand3.state r) ∙ id_after r.id r.id_fits (standing r).events (inv_end r).fit

-- The text's own numbers: there is an event to take back where the kept number is not zero, and it is at most the slots.
pub enough_standing : (r : Run) → (standing r).number ≤ length (standing r).events
enough_standing r = (inv_end r).enough

pub within_most : (r : Run) → (standing r).number ≤ (standing r).most
within_most r =
    let f = (inv_end r).well.few in
    let n = (inv_end r).number in
    let m = (inv_end r).slots in
    omega arith

-- THE LENGTH DECIDES: how far the number goes up is what the journal at hand has slots.
pub most_by_length : (r : Run) → (standing r).most ≡ slots_of (left ours r).journal
most_by_length r = sym (ap (λ (p : Handed). slots_of p.journal) (at_end r) ∙ (inv_end r).slots)

pub some_most : (r : Run) → 0 < (standing r).most
some_most r = rw (sym (inv_end r).slots) (some_slots (last r) (inv_end r).well.size)

-- the standing events are of their types, and each passes alone
pub standing_fine : (r : Run) → AllFine (standing r).events
standing_fine r = (inv_end r).fit
