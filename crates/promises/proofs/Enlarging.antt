-- TWO HUNDRED STEPS. Lengths and versions that don't agree are 4; the enlarging call, for every input; and, for any calls that meet demand 3, a run that
-- goes on with the enlarged journal gives what it would have given with the small one, the kept number apart, until that one gives 5. Assumes nothing.
use Prim.Native.Nat.{ℕ, ◌+◌, min, ◌≤◌, ◌<◌}
use mathlib.Core.Path.{◌≡◌, refl, sym, ap, ap₂, ◌∙◌}
use mathlib.Core.List.{List, [], ◌∷◌, ◌++◌, foldl, foldl-append}
use mathlib.Core.Bool.{Bool, true, false, cond, true≢false, false≢true}
use mathlib.Core.Logic.{⊎_elim}
use native.Mathlib.Omega.{arith}
use lib.Dec.{eqb}
use lib.ListN.{length, drop}
use borrow.Author.Tests.{eq-eqb, ne_eqb, eqb-false}
use Rattle.numbers.specs.Numbers as number
use Rattle.state.specs.State.{Adapter}
use Rattle.state.specs.Bytes.{is_state}
use Rattle.chip.specs.Event.{Event}
use Rattle.chip.specs.Chip.{accepted_reset}
use Rattle.journal.specs.Layout.{slots_of, wrong_length, kept_of, well_formed, is_small, past, format_of, emptied, enlarged}
use Rattle.journal.specs.Record.{restored, sound}
use Rattle.journal.proofs.Ring.{Well, well_of, of_well, emptied_well, emptied_kept, headed_size}
use Rattle.journal.proofs.Enlarged.{small_well, small_length, large_size, large_room, enlarged_well, enlarged_kept, enlarged_past, enlarged_length}
use Rattle.adapter.specs.Refusals.{in_order, verdict, back_verdict}
use Rattle.adapter.specs.Answers.{Verdict}
use Rattle.adapter.specs.Answers.{Refused}
use Rattle.adapter.specs.Calls.{made, made_empty, kept_in, made_large, stepped_back}
use Rattle.adapter.proofs.Laws.{called_refused, empty_done}
use Rattle.batch.specs.declared.Sample.{Sample}
use Rattle.batch.specs.Batch.{event_of}
use Rattle.batch.specs.Batch as batches
use Rattle.promises.specs.Runs.{Call, event, batch, back, empty, enlarge, is_enlarging, Given, Calls, AllOfTheirTypes, Run, left}
use Rattle.promises.specs.Runs.{refused, batch_refused, Standing, at_start, keeps_event, keeps_sample, keeps, standing}
use Rattle.promises.specs.Runs.{state_after, due, due_batch, Demand3}
use Rattle.promises.specs.Enlarging.{version_in, Agree, version_1, version_2, Damaged, EmptyByLength, Enlarging, Enlarged, Shown, shown}
use Rattle.promises.specs.Enlarging.{NoneEnlarges, BeforeFive}
use Rattle.promises.proofs.Formats.{no_other_length}
use Rattle.promises.proofs.Cases.{enlarge_cases}
use Rattle.promises.proofs.KeptNumber.{granted_then, 64_or_200}
use Rattle.promises.proofs.Runs.{told}
use Rattle.promises.proofs.Lines.{after, gives_told}
use Rattle.promises.proofs.Standing.{typed_more}
use Rattle.promises.proofs.Steps.{split}

-- ---- length and version

version_of : (j : List ℕ) (n : ℕ) → Well j → (format_of (length j)).version ≡ n → n < 256 → version_in j ≡ n
version_of j n w e l = let v0 = w.v0 in let v1 = w.v1 in omega (arith, e)

-- THE LENGTH AND THE VERSION OF A WELL-FORMED JOURNAL AGREE,
pub agrees : (j : List ℕ) → Well j → Agree j
unfolding format_of
agrees j w =
    ⊎_elim
    (λ (e : length j ≡ 17408). version_1 e (version_of j 1 w (ap (λ (n : ℕ). (format_of n).version) e) (omega arith)))
    (λ (e : length j ≡ 52224). version_2 e (version_of j 2 w (ap (λ (n : ℕ). (format_of n).version) e) (omega arith)))
    (no_other_length j w.size)

-- so any other pair is 4.
pub damaged : (j : List ℕ) → (Agree j → ⊥) → Damaged j
unfolding verdict batches.called stepped_back back_verdict kept_in made_large is_small in_order
damaged j h =
    let formed : well_formed j ≡ false = split (well_formed j) (λ t. absurd (h (agrees j (of_well j t)))) (λ t. t) in
    let no_small : is_small j ≡ false = split (eqb (length j) 17408) (λ e. rw (e, formed) refl) (λ e. rw e refl) in
    record {
      an_event = λ s e o q. called_refused s j e o 4 (simp (q, formed));
      a_batch = λ s list o q.
          let v : batches.verdict s j list o ≡ Refused 4 = simp (q, formed) in ap (λ (x : Verdict). batches.judged x s j list o) v;
      a_step_back = λ s q. simp (q, formed);
      a_counting = simp formed;
      an_enlarging = λ second. simp no_small;
    }

-- EMPTYING GOES BY THE LENGTH, and refuses every other one.
pub no_length : (j : List ℕ) → wrong_length j ≡ true → made_empty j ≡ made number.bad_journal j
unfolding made_empty
no_length j h = rw h refl

pub empty_by_length : (j : List ℕ) → wrong_length j ≡ false → EmptyByLength j
unfolding kept_in emptied
empty_by_length j h =
    let done = empty_done j h in
    let w = emptied_well j h in
    record {
      done = rw done refl;
      size = rw done (headed_size 0 j h);
      agree = rw done (agrees (emptied j) w);
      kept = rw done (simp (well_of w, emptied_kept j));
    }

-- ---- the enlarging call

pub enlarging_call : (j second : List ℕ) → Enlarging j second
unfolding made_large is_small
enlarging_call j second =
    record {
      granted = (
        enlarge_cases j second (λ x. x.number ≡ 17 → (well_formed j ≡ true) × (length j ≡ 17408) × (length second ≡ 52224)) (λ n r e. absurd (false≢true (rw e at r)))
            (λ small n e. (small_well j small, small_length j small, n)),
        λ h. rw (eq-eqb (length j) 17408 h.1, h.0, eq-eqb (length second) 52224 h.2) refl,
      );
      not_small = λ h.
          split (is_small j)
          (λ t. absurd (h (small_well j t, small_length j t)))
          (λ t. rw t refl);
      large = λ e. rw (ne_eqb (length j) 17408 (λ q. omega arith)) refl;
      after_4 = λ formed size other. rw (eq-eqb (length j) 17408 size, formed, ne_eqb (length second) 52224 other) refl;
      first = enlarge_cases j second (λ x. x.first ≡ j) (λ n r. refl) (λ _ _. refl);
    }

-- AN ENLARGED JOURNAL KEEPS THE SAME STEPS.
module _ (j second : List ℕ) (formed : well_formed j ≡ true) (size : length j ≡ 17408) (n : length second ≡ 52224) where
  w : Well j
  w = of_well j formed

  small : is_small j ≡ true
  unfolding is_small
  small = rw (eq-eqb (length j) 17408 size) formed

  room : kept_of j ≤ slots_of second
  room = large_room j second small n

  well : Well (enlarged j second)
  well = enlarged_well j second w (large_size second n) room

  kept_same : kept_of (enlarged j second) ≡ kept_of j
  kept_same = enlarged_kept j second w (large_size second n) room

  past_same : (i : ℕ) → i < kept_of j → past (enlarged j second) i ≡ past j i
  past_same i l = enlarged_past j second w (large_size second n) room i l

  same_step : (s : List ℕ) → ((stepped_back s (enlarged j second)).number ≡ (stepped_back s j).number)
      × ((stepped_back s (enlarged j second)).state ≡ (stepped_back s j).state)
  unfolding stepped_back back_verdict
  same_step s =
      rw (well_of well, formed, kept_same)
      (split (is_state s)
      (λ q.
      split (eqb (kept_of j) 0) (λ z. rw (q, z) (refl, refl))
      (λ z.
      let some : kept_of j ≡ 0 → ⊥ = eqb-false (kept_of j) 0 z in
      let same = past_same 0 (omega arith) in
      split (sound s (past j 0)) (λ t. rw (q, z, same, t) (refl, ap (restored s) same)) (λ t. rw (q, z, same, t) (refl, refl))))
      (λ q. rw q (refl, refl)))

  pub enlarged_keeps : Enlarged j (made_large j second).second
  unfolding made_large kept_in
  enlarged_keeps =
      rw (small, eq-eqb (length second) 52224 n)
      (record {
        size = enlarged_length j second w (large_size second n) room ∙ n;
        agree = agrees (enlarged j second) well;
        kept = rw (well_of well, formed, kept_same) refl;
        records = λ i l. past_same i (rw formed at l);
        steps_back = λ s. same_step s;
      })

-- ---- the text with the small journal, beside the text with the large one

record Beside (s t : Standing) : Type 0 where
  events : t.events ≡ s.events
  fewer : s.number ≤ t.number
  below : s.most ≤ t.most

module _ (s t : Standing) (b : Beside s t) where
  unless_reset : (resets : Bool) → cond resets 0 (min s.most (s.number + 1)) ≤ cond resets 0 (min t.most (t.number + 1))
  unless_reset true = omega arith
  unless_reset false = let f = b.fewer in let m = b.below in omega arith

  beside_event : (e : Event) → Beside (keeps_event s e) (keeps_event t e)
  beside_event e = record { events = ap (λ (l : List Event). e ∷ l) b.events; fewer = unless_reset (accepted_reset e); below = b.below }

beside_samples : (list : List Sample) (s t : Standing) → Beside s t → Beside (foldl keeps_sample s list) (foldl keeps_sample t list)
beside_samples [] s t b = b
beside_samples (x ∷ list) s t b = beside_samples list (keeps_sample s x) (keeps_sample t x) (beside_event s t b (event_of x))

module _ (id : ℕ) (s t : Standing) (b : Beside s t) where
  -- a step back that does not give 5
  both_some : ((told id s back).number ≡ 5 → ⊥) → (s.number ≡ 0 → ⊥) × (t.number ≡ 0 → ⊥)
  both_some h =
      let some : s.number ≡ 0 → ⊥ = λ z. h (rw (eq-eqb s.number 0 z) refl) in
      (some, λ z. some (let f = b.fewer in omega arith))

  -- gives the same,
  told_same : (k : Call) → is_enlarging k ≡ false → ((told id s k).number ≡ 5 → ⊥) → told id t k ≡ told id s k
  told_same (event e o) n h = ap (λ (l : List Event). due (state_after id l) e o) b.events
  told_same (batch list o) n h = ap (λ (l : List Event). due_batch (state_after id l) list o) b.events
  told_same back n h = let some = both_some h in rw (ne_eqb s.number 0 some.0, ne_eqb t.number 0 some.1) refl
  told_same empty n h = refl
  told_same (enlarge second) n h = absurd (true≢false n)

  -- and leaves them side by side
  beside_then : (k : Call) → is_enlarging k ≡ false → ((told id s k).number ≡ 5 → ⊥) → Beside (keeps s k) (keeps t k)
  beside_then (event e o) n h = split (refused e o) (λ q. rw q b) (λ q. rw q (beside_event s t b e))
  beside_then (batch list o) n h = split (batch_refused list o) (λ q. rw q b) (λ q. rw q (beside_samples list s t b))
  beside_then back n h =
      let some = both_some h in
      rw (ne_eqb s.number 0 some.0, ne_eqb t.number 0 some.1)
      (record { events = ap (drop 1) b.events; fewer = let f = b.fewer in omega arith; below = b.below })
  beside_then empty n h = record { events = b.events; fewer = omega arith; below = b.below }
  beside_then (enlarge second) n h = absurd (true≢false n)

-- ---- the calls

module _ (c : Calls) (d : Demand3 c) (id : ℕ) (id_fits : id ≤ 0xFFFFFF) (bytes : List ℕ) (size : wrong_length bytes ≡ false) where
  abbrev at : List Call → c.Pair
  at done = after c d id id_fits bytes size done

  abbrev text : List Call → Standing
  text done = foldl keeps (at_start (slots_of bytes)) done

  gives : (done : List Call) → AllOfTheirTypes done → (k : Call) → c.gives (at done) k ≡ told id (text done) k
  gives done t k = gives_told c d id id_fits bytes size done t k

  state_then : (done : List Call) (k : Call) → AllOfTheirTypes (done ++ (k ∷ []))
      → c.state (c.leaves (at done) k) ≡ state_after id (keeps (text done) k).events
  state_then done k t =
      ap c.state (sym (foldl-append c.leaves (c.start id bytes) done (k ∷ [])))
      ∙ d.state (record { id = id; id_fits = id_fits; bytes = bytes; size = size; calls = done ++ (k ∷ []); typed = t })
      ∙ ap (λ (s : Standing). state_after id s.events) (foldl-append keeps (at_start (slots_of bytes)) done (k ∷ []))

  side_by_side : (ks small large : List Call) → AllOfTheirTypes small → AllOfTheirTypes large → AllOfTheirTypes ks → Beside (text small) (text large)
      → NoneEnlarges ks → BeforeFive c (at small) ks → shown c (at large) ks ≡ shown c (at small) ks
  side_by_side [] small large t u v b n h = refl
  side_by_side (k ∷ ks) small large t u v b n h =
      let five : (told id (text small) k).number ≡ 5 → ⊥ = λ e. h.0 (ap (λ (g : Given). g.number) (gives small t k) ∙ e) in
      let more = beside_then id (text small) (text large) b k n.0 five in
      let t' = typed_more small k t v.0 in
      let u' = typed_more large k u v.0 in
      let p : at (small ++ (k ∷ [])) ≡ c.leaves (at small) k = foldl-append c.leaves (c.start id bytes) small (k ∷ []) in
      let q : at (large ++ (k ∷ [])) ≡ c.leaves (at large) k = foldl-append c.leaves (c.start id bytes) large (k ∷ []) in
      let one = gives large u k ∙ told_same id (text small) (text large) b k n.0 five ∙ sym (gives small t k) in
      let state = state_then large k u' ∙ ap (state_after id) more.events ∙ sym (state_then small k t') in
      let beside : Beside (text (small ++ (k ∷ []))) (text (large ++ (k ∷ []))) =
      rw (foldl-append keeps (at_start (slots_of bytes)) small (k ∷ []), foldl-append keeps (at_start (slots_of bytes)) large (k ∷ [])) more in
      let rest = side_by_side ks (small ++ (k ∷ [])) (large ++ (k ∷ [])) t' u' v.1 beside n.1 (rw p h.1) in
      ap₂ (λ (x : Shown) (xs : List Shown). x ∷ xs)
      (ap₂ (λ (g : Given) (a : Adapter). record { gives = g; state = a }) one state)
      (ap (λ (x : c.Pair). shown c x ks) (sym q) ∙ rest ∙ ap (λ (x : c.Pair). shown c x ks) p)

-- AFTER ENLARGING, ANY FURTHER RUN of events, batches, steps back and emptyings GIVES WHAT IT WOULD HAVE GIVEN WITH THE SMALL JOURNAL, and leaves the same
-- states, UNTIL THE SMALL ONE WOULD GIVE 5. (A further enlarging is 17 or 1 with the small one, and 4 with the large.)
pub as_the_small : (c : Calls) → Demand3 c → (r : Run) (second : List ℕ) → (c.gives (left c r) (enlarge second)).number ≡ number.no_frame
    → (ks : List Call) → AllOfTheirTypes ks → NoneEnlarges ks → BeforeFive c (left c r) ks
    → shown c (c.leaves (left c r) (enlarge second)) ks ≡ shown c (left c r) ks
as_the_small c d r second granted ks t n h =
    let first = at_start (slots_of r.bytes) in
    let more = foldl-append keeps first r.calls (enlarge second ∷ []) in
    let not_refused = granted_then r c d second granted in
    let few : (standing r).most ≤ 200 = ⊎_elim (λ (m : (standing r).most ≡ 64). omega arith) (λ (m : (standing r).most ≡ 200). omega arith) (64_or_200 r) in
    let beside : Beside (standing r) (keeps (standing r) (enlarge second)) =
    rw not_refused (record { events = refl; fewer = omega arith; below = few }) in
    ap (λ (p : c.Pair). shown c p ks) (sym (foldl-append c.leaves (c.start r.id r.bytes) r.calls (enlarge second ∷ [])))
    ∙ side_by_side c d r.id r.id_fits r.bytes r.size ks r.calls (r.calls ++ (enlarge second ∷ [])) r.typed
    (typed_more r.calls (enlarge second) r.typed tt) t (rw more beside) n h
