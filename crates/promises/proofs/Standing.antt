-- What follows from demand 3 for any calls that meet it, in words that need no machine: the state is that of a run of only the standing
-- events, made by the same calls; and what is taken back leaves no trace. Assumes nothing.
use Prim.Native.Nat.{ℕ, ◌+◌, min, ◌<◌}
use mathlib.Core.Path.{◌≡◌, refl, sym, ap, ◌∙◌}
use mathlib.Core.List.{List, [], ◌∷◌, ◌++◌, foldl, foldl-append}
use mathlib.Core.Bool.{false}
use native.Mathlib.Omega.{arith}
use lib.ListN.{replicate}
use borrow.Author.Tests.{ne_eqb}
use Rattle.chip.specs.Event.{Event}
use Rattle.chip.specs.Chip.{accepted_reset}
use Rattle.journal.specs.Layout.{slots_of}
use Rattle.promises.specs.Runs.{Call, event, back, Calls, OfItsTypes, AllOfTheirTypes, Run, left, refused, Standing, at_start, keeps, standing, state_after, due, Demand3}
use Rattle.promises.proofs.Runs.{AllFine, some_most, standing_fine}

-- ---- a run of only the standing events

-- an event with an output of 16 bytes
abbrev pub alone : Event → Call
alone e = event e (replicate 16 0)

-- events, the newest first, as calls, the oldest first
unfoldable pub in_turn : List Event → List Call
in_turn [] = []
in_turn (e ∷ es) = in_turn es ++ (alone e ∷ [])

pub typed_more : (ks : List Call) (k : Call) → AllOfTheirTypes ks → OfItsTypes k → AllOfTheirTypes (ks ++ (k ∷ []))
typed_more [] k t u = (u, tt)
typed_more (x ∷ ks) k t u = (t.0, typed_more ks k t.1 u)

typed_turn : (es : List Event) → AllFine es → AllOfTheirTypes (in_turn es)
unfolding in_turn
typed_turn [] f = tt
typed_turn (e ∷ es) f = typed_more (in_turn es) (alone e) (typed_turn es f.1) f.0.typed

events_turn : (most : ℕ) (es : List Event) → AllFine es → (foldl keeps (at_start most) (in_turn es)).events ≡ es
unfolding in_turn
events_turn most [] f = refl
events_turn most (e ∷ es) f =
    ap (λ (s : Standing). s.events) (foldl-append keeps (at_start most) (in_turn es) (alone e ∷ []))
    ∙ rw f.0.passes (ap (λ (l : List Event). e ∷ l) (events_turn most es f.1))

-- the run from the same start in which only the standing events happen
pub only_standing : Run → Run
only_standing r =
    record {
      id = r.id;
      id_fits = r.id_fits;
      bytes = r.bytes;
      size = r.size;
      calls = in_turn (standing r).events;
      typed = typed_turn (standing r).events (standing_fine r);
    }

pub only_standing_lem : (c : Calls) → Demand3 c → (r : Run) → c.state (left c r) ≡ c.state (left c (only_standing r))
unfolding only_standing
only_standing_lem c d r =
    d.state r ∙ sym (d.state (only_standing r) ∙ ap (state_after r.id) (events_turn (slots_of r.bytes) (standing r).events (standing_fine r)))

-- ---- branches

-- a run that goes on
unfoldable pub further : (r : Run) (ks : List Call) → AllOfTheirTypes (r.calls ++ ks) → Run
further r ks t = record { id = r.id; id_fits = r.id_fits; bytes = r.bytes; size = r.size; calls = r.calls ++ ks; typed = t }

module _ (r : Run) (e : Event) (o : List ℕ) (kept : refused e o ≡ false) (other : accepted_reset e ≡ false) where
  back_again : (s : Standing) → 0 < s.most → (keeps (keeps s (event e o)) back).events ≡ s.events
  back_again s room =
      let z : min s.most (s.number + 1) ≡ 0 → ⊥ = λ q. omega arith in simp (kept, other, ne_eqb (min s.most (s.number + 1)) 0 z)

  -- An event that is kept and taken back leaves no trace: every reply after it is the one that was due without it.
  pub no_trace : (c : Calls) → Demand3 c → (t : AllOfTheirTypes (r.calls ++ (event e o ∷ back ∷ []))) (e' : Event) (o' : List ℕ)
      → c.gives (left c (further r (event e o ∷ back ∷ []) t)) (event e' o') ≡ c.gives (left c r) (event e' o')
  unfolding further
  no_trace c d t e' o' =
      let s : (standing (further r (event e o ∷ back ∷ []) t)).events ≡ (standing r).events =
      ap (λ (x : Standing). x.events) (foldl-append keeps (at_start (slots_of r.bytes)) r.calls (event e o ∷ back ∷ []))
      ∙ back_again (standing r) (some_most r) in
      d.reply (further r (event e o ∷ back ∷ []) t) e' o'
      ∙ ap (λ (l : List Event). due (state_after r.id l) e' o') s ∙ sym (d.reply r e' o')
