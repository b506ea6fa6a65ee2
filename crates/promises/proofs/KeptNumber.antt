-- THE KEPT NUMBER, for any calls that meet demand 3, in the words of the demand and of `kept`; how far it goes up, by the size of the journal. Assumes
-- nothing.
use Prim.Native.Nat.{ℕ, ◌+◌, ◌-◌, min, ◌≤◌}
use mathlib.Core.Path.{◌≡◌, refl, sym, ap, ◌∙◌}
use mathlib.Core.List.{List, [], ◌∷◌, ◌++◌, foldl, foldl-append}
use mathlib.Core.Bool.{true, false, not, true≢false}
use mathlib.Core.Logic.{◌⊎◌, inl, inr, ⊎_elim, ◌↔◌}
use native.Mathlib.Omega.{arith}
use borrow.Author.Tests.{ne_eqb, eqb-true, eqb-false}
use lib.Dec.{eqb}
use lib.ListN.{length}
use Rattle.numbers.specs.Numbers as number
use Rattle.chip.specs.Event.{Event}
use Rattle.chip.specs.Chip.{accepted_reset}
use Rattle.journal.specs.Layout.{slots_of}
use Rattle.adapter.specs.Answers.{KeptNumber}
use Rattle.batch.specs.declared.Sample.{Sample}
use Rattle.promises.specs.Runs.{Call, event, batch, back, empty, enlarge, is_enlarging, Calls, Given, OfItsTypes, AllOfTheirTypes, Run, left}
use Rattle.promises.specs.Runs.{refused, batch_refused, enlarge_refusal, enlarge_refused, Standing, at_start, keeps_sample, keeps, standing, Demand3}
use Rattle.bits.proofs.Tests.{either}
use Rattle.promises.proofs.Formats.{slots_64, slots_200, no_other_length}
use Rattle.promises.specs.Ours.{ours}
use Rattle.promises.specs.Enlarging.{NoneEnlarges}
use Rattle.promises.proofs.Runs.{within_most, most_by_length}
use Rattle.promises.proofs.Standing.{typed_more, further}
use Rattle.promises.proofs.Steps.{split}

-- the kept number after a run, and after one call more
abbrev pub kept_after : (c : Calls) → Run → ℕ
kept_after c r = (c.kept (left c r)).kept

abbrev pub kept_then : (c : Calls) → Run → Call → ℕ
kept_then c r k = (c.kept (c.leaves (left c r) k)).kept

pub record KeptRule (c : Calls) : Type 0 where
  -- "that number is zero at the start,
  pub at_start_lem : (r : Run) → r.calls ≡ [] → kept_after c r ≡ 0
  -- after the emptying call
  pub after_emptying : (r : Run) → kept_then c r empty ≡ 0
  -- and after an accepted RESET,
  pub after_reset : (r : Run) (e : Event) (o : List ℕ) → OfItsTypes (event e o) → refused e o ≡ false → accepted_reset e ≡ true
      → kept_then c r (event e o) ≡ 0
  -- goes up by one with each other event not refused, to at most 64 [or 200, as the journal's size is by then: `up_to_64`, `up_to_200`],
  pub up : (r : Run) (e : Event) (o : List ℕ) → OfItsTypes (event e o) → refused e o ≡ false → accepted_reset e ≡ false
      → kept_then c r (event e o) ≡ min (standing r).most (kept_after c r + 1)
  -- [so with each sample of a batch not refused,]
  pub up_by_samples : (r : Run) (list : List Sample) (o : List ℕ) → OfItsTypes (batch list o) → batch_refused list o ≡ false
      → kept_then c r (batch list o) ≡ min (standing r).most (kept_after c r + length list)
  -- and down by one with each step granted."
  pub down : (r : Run) → (kept_after c r ≡ 0 → ⊥) → kept_then c r back ≡ kept_after c r - 1
  -- A refused event leaves it.
  pub stays : (r : Run) (e : Event) (o : List ℕ) → OfItsTypes (event e o) → refused e o ≡ true → kept_then c r (event e o) ≡ kept_after c r
  -- So does a refused batch.
  pub batch_stays : (r : Run) (list : List Sample) (o : List ℕ) → OfItsTypes (batch list o) → batch_refused list o ≡ true
      → kept_then c r (batch list o) ≡ kept_after c r
  -- An enlarging, refused or not: "the kept number staying as it was".
  pub through_enlarging : (r : Run) (second : List ℕ) → kept_then c r (enlarge second) ≡ kept_after c r

-- along the samples of a batch
samples_number : (list : List Sample) (s : Standing) → s.number ≤ s.most → (foldl keeps_sample s list).number ≡ min s.most (s.number + length list)
samples_number [] s h = omega arith
samples_number (x ∷ list) s h = let e = samples_number list (keeps_sample s x) (omega arith) in omega (arith, e)

module _ (c : Calls) (d : Demand3 c) (r : Run) where
  number_after : kept_after c r ≡ (standing r).number
  number_after = ap (λ (x : KeptNumber). x.kept) (d.kept r)

  number_then : (k : Call) → OfItsTypes k → kept_then c r k ≡ (keeps (standing r) k).number
  unfolding further
  number_then k t =
      let q = further r (k ∷ []) (typed_more r.calls k r.typed t) in
      ap (λ (p : c.Pair). (c.kept p).kept) (sym (foldl-append c.leaves (c.start r.id r.bytes) r.calls (k ∷ [])))
      ∙ ap (λ (x : KeptNumber). x.kept) (d.kept q)
      ∙ ap (λ (s : Standing). s.number) (foldl-append keeps (at_start (slots_of r.bytes)) r.calls (k ∷ []))

pub kept_rule : (c : Calls) → Demand3 c → KeptRule c
kept_rule c d =
    record {
      at_start_lem = λ r h. number_after c d r ∙ rw h refl;
      after_emptying = λ r. number_then c d r empty tt;
      after_reset = λ r e o t h q. number_then c d r (event e o) t ∙ simp (h, q);
      up = λ r e o t h q. number_then c d r (event e o) t ∙ simp (h, q) (ap (λ (n : ℕ). min (standing r).most (n + 1)) (sym (number_after c d r)));
      up_by_samples = λ r list o t h.
          number_then c d r (batch list o) t
          ∙ simp h (samples_number list (standing r) (within_most r) ∙ ap (λ (n : ℕ). min (standing r).most (n + length list)) (sym (number_after c d r)));
      down = λ r z.
          let s : (standing r).number ≡ 0 → ⊥ = λ q. z (number_after c d r ∙ q) in
          number_then c d r back tt ∙ simp (ne_eqb (standing r).number 0 s) (ap (λ (n : ℕ). n - 1) (sym (number_after c d r)));
      stays = λ r e o t h. number_then c d r (event e o) t ∙ simp h (sym (number_after c d r));
      batch_stays = λ r list o t h. number_then c d r (batch list o) t ∙ simp h (sym (number_after c d r));
      through_enlarging = λ r second.
          number_then c d r (enlarge second) tt
          ∙ either (λ (s : Standing). s.number ≡ (standing r).number) (enlarge_refused (standing r) second) _ _ refl refl ∙ sym (number_after c d r);
    }

-- ---- how far it goes up: 64 in a small journal, 200 in a large one

samples_most_lem : (list : List Sample) (s : Standing) → (foldl keeps_sample s list).most ≡ s.most
samples_most_lem [] s = refl
samples_most_lem (x ∷ list) s = samples_most_lem list (keeps_sample s x)

-- any call but an enlarging leaves it
most_left : (s : Standing) (k : Call) → is_enlarging k ≡ false → (keeps s k).most ≡ s.most
most_left s (event e o) h = either (λ (x : Standing). x.most ≡ s.most) (refused e o) _ _ refl refl
most_left s (batch list o) h = either (λ (x : Standing). x.most ≡ s.most) (batch_refused list o) _ _ refl (samples_most_lem list s)
most_left s back h = either (λ (x : Standing). x.most ≡ s.most) (eqb s.number 0) _ _ refl refl
most_left s empty h = refl
most_left s (enlarge second) h = absurd (true≢false h)

-- what holds of it, and of 200, holds after any call,
stays_or_200 : (P : ℕ → Type 0) → P 200 → (s : Standing) (k : Call) → P s.most → P (keeps s k).most
stays_or_200 P l s (event e o) h = either (λ (x : Standing). P x.most) (refused e o) _ _ h h
stays_or_200 P l s (batch list o) h = either (λ (x : Standing). P x.most) (batch_refused list o) _ _ h (rw (samples_most_lem list s) h)
stays_or_200 P l s back h = either (λ (x : Standing). P x.most) (eqb s.number 0) _ _ h h
stays_or_200 P l s empty h = h
stays_or_200 P l s (enlarge second) h = either (λ (x : Standing). P x.most) (enlarge_refused s second) _ _ h l

-- and after all
all_or_200 : (P : ℕ → Type 0) → P 200 → (ks : List Call) (s : Standing) → P s.most → P (foldl keeps s ks).most
all_or_200 P l [] s h = h
all_or_200 P l (k ∷ ks) s h = all_or_200 P l ks (keeps s k) (stays_or_200 P l s k h)

all_200 : (ks : List Call) (s : Standing) → s.most ≡ 200 → (foldl keeps s ks).most ≡ 200
all_200 = all_or_200 (λ n. n ≡ 200) refl

all_left : (ks : List Call) (s : Standing) → NoneEnlarges ks → (foldl keeps s ks).most ≡ s.most
all_left [] s n = refl
all_left (k ∷ ks) s n = all_left ks (keeps s k) n.1 ∙ most_left s k n.0

no_refusal_17 : (s : Standing) (second : List ℕ) → enlarge_refusal s second ≡ number.no_frame → ⊥
no_refusal_17 s second =
    either (λ (n : ℕ). n ≡ 17 → ⊥) (not (eqb s.most 64)) _ _ (λ q. omega arith)
    (either (λ (n : ℕ). n ≡ 17 → ⊥) (not (eqb (length second) 52224)) _ _ (λ q. omega arith) (λ q. omega arith))

module _ (r : Run) where
  -- a granted enlarging is one that the text does not refuse
  pub granted_then : (c : Calls) → Demand3 c → (second : List ℕ) → (c.gives (left c r) (enlarge second)).number ≡ number.no_frame
      → enlarge_refused (standing r) second ≡ false
  granted_then c d second granted =
      split (enlarge_refused (standing r) second)
      (λ q. absurd (no_refusal_17 (standing r) second (sym (ap (λ (g : Given). g.number) (d.enlarges r second) ∙ rw q refl) ∙ granted)))
      (λ q. q)

  -- 64 from 17,408 bytes on, as long as nothing enlarges;
  pub most_64 : length r.bytes ≡ 17408 → NoneEnlarges r.calls → (standing r).most ≡ 64
  most_64 h n = all_left r.calls (at_start (slots_of r.bytes)) n ∙ slots_64 r.bytes h

  -- 200 from 52,224 bytes on;
  pub most_200 : length r.bytes ≡ 52224 → (standing r).most ≡ 200
  most_200 h = all_200 r.calls (at_start (slots_of r.bytes)) (slots_200 r.bytes h)

  -- 200 after an enlarging that is granted, whatever is called then;
  pub enlarged_200 : (c : Calls) → Demand3 c → (second : List ℕ) → (c.gives (left c r) (enlarge second)).number ≡ number.no_frame → (ks : List Call)
      (t : AllOfTheirTypes (r.calls ++ (enlarge second ∷ ks))) → (standing (further r (enlarge second ∷ ks) t)).most ≡ 200
  unfolding further
  enlarged_200 c d second granted ks t =
      let h = granted_then c d second granted in
      ap (λ (s : Standing). s.most) (foldl-append keeps (at_start (slots_of r.bytes)) r.calls (enlarge second ∷ ks))
      ∙ all_200 ks (keeps (standing r) (enlarge second)) (simp h)

  -- and nothing else.
  pub 64_or_200 : ((standing r).most ≡ 64) ⊎ ((standing r).most ≡ 200)
  64_or_200 =
      all_or_200 (λ n. (n ≡ 64) ⊎ (n ≡ 200)) (inr refl) r.calls (at_start (slots_of r.bytes))
      (⊎_elim (λ (h : length r.bytes ≡ 17408). inl (slots_64 r.bytes h)) (λ (h : length r.bytes ≡ 52224). inr (slots_200 r.bytes h))
      (no_other_length r.bytes r.size))

-- With the delivered calls, by the length of the journal that is at hand.
pub small_at_hand : (r : Run) → length (left ours r).journal ≡ 17408 → (standing r).most ≡ 64
small_at_hand r h = most_by_length r ∙ slots_64 (left ours r).journal h

pub large_at_hand : (r : Run) → length (left ours r).journal ≡ 52224 → (standing r).most ≡ 200
large_at_hand r h = most_by_length r ∙ slots_200 (left ours r).journal h

-- TO AT MOST 64 in a small journal, TO AT MOST 200 in a large one.
module _ (c : Calls) (d : Demand3 c) (r : Run) where
  module _ (e : Event) (o : List ℕ) (t : OfItsTypes (event e o)) (h : refused e o ≡ false) (q : accepted_reset e ≡ false) where
    pub up_to_64 : (standing r).most ≡ 64 → kept_then c r (event e o) ≡ min 64 (kept_after c r + 1)
    up_to_64 m = (kept_rule c d).up r e o t h q ∙ ap (λ (n : ℕ). min n (kept_after c r + 1)) m

    pub up_to_200 : (standing r).most ≡ 200 → kept_then c r (event e o) ≡ min 200 (kept_after c r + 1)
    up_to_200 m = (kept_rule c d).up r e o t h q ∙ ap (λ (n : ℕ). min n (kept_after c r + 1)) m

  pub never_over_64 : (standing r).most ≡ 64 → kept_after c r ≤ 64
  never_over_64 m = let n = number_after c d r in omega (arith, within_most r)

  pub never_over_200 : kept_after c r ≤ 200
  never_over_200 =
      let n = number_after c d r in
      ⊎_elim (λ (m : (standing r).most ≡ 64). omega (arith, within_most r)) (λ (m : (standing r).most ≡ 200). omega (arith, within_most r)) (64_or_200 r)

-- A STEP BACK IS REFUSED (5) EXACTLY WHEN THE KEPT NUMBER IS ZERO.
pub refused_exactly : (c : Calls) → Demand3 c → (r : Run) → ((c.gives (left c r) back).number ≡ number.none_kept) ↔ (kept_after c r ≡ 0)
refused_exactly c d r = (
  λ h.
      split (eqb (kept_after c r) 0) (λ t. eqb-true (kept_after c r) 0 t)
      (λ t.
      let g : (c.gives (left c r) back).number ≡ number.no_frame = ap (λ (x : Given). x.number) (d.takes_back r (eqb-false (kept_after c r) 0 t)).0 in
      absurd (omega arith)),
  λ h. ap (λ (x : Given). x.number) (d.refused_at_zero r h).0,
)
