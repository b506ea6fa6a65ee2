-- A batch's call, by its verdict: what refuses it, or what the samples leave that are given one by one. Assumes nothing.
use Prim.Native.Nat.{ℕ}
use mathlib.Core.Path.{◌≡◌, refl, sym, subst, ◌∙◌}
use mathlib.Core.Bool.{Bool, true, false, not, cond, ◌||◌}
use mathlib.Core.List.{List, flatten}
use native.Mathlib.Omega.{arith}
use lib.ListN.{length}
use lib.Dec.{eqb, ltb}
use borrow.Author.Tests.{ltb-false, eqb-false}
use Rattle.std.specs.List.{fold}
use Rattle.numbers.specs.Numbers.{samples_most, batch_least, bad_argument}
use Rattle.parts.proofs.Laws.{put_none}
use Rattle.state.specs.Bytes.{state_size, link_of, is_state}
use Rattle.journal.specs.Layout.{well_formed}
use Rattle.state.proofs.Spelling.{its_length}
use Rattle.adapter.specs.Answers.{Verdict, Refused, Passed}
use Rattle.adapter.specs.Refusals.{in_order}
use Rattle.batch.specs.declared.Sample.{Sample}
use Rattle.batch.specs.declared.Batch as sent
use Rattle.batch.specs.Batch.{Batch, some_wrong, wrong_list, outset, one_by_one, lines_in, reported, bare, verdict, outcome, called}
use Rattle.batch.specs.Inner.{Fine, nothing_sent, going, given}
use Rattle.batch.proofs.Course.{Stands, stands}

by_order : (x y u v w : Bool) → in_order (not x) (not y) u (v || w) false ≡ Passed
    → (x ≡ true) × (y ≡ true) × (u ≡ false) × (v ≡ false) × (w ≡ false)
unfolding in_order
by_order true true false false false e = (refl, refl, refl, refl, refl)
by_order false y u v w e = absurd cc
by_order true false u v w e = absurd cc
by_order true true true v w e = absurd cc
by_order true true false true w e = absurd cc
by_order true true false false true e = absurd cc

-- what refuses a batch before its list is looked at, whatever the list is; and what its list comes to where nothing did
before_list : (x y u w : Bool) (n : ℕ) → in_order x y u false false ≡ Refused n → in_order x y u w false ≡ Refused n
unfolding in_order
before_list true y u w n e = e
before_list false true u w n e = e
before_list false false true w n e = e
before_list false false false w n e = absurd cc

by_list : (x y u w : Bool) → in_order x y u false false ≡ Passed → in_order x y u w false ≡ cond w (Refused bad_argument) Passed
unfolding in_order
by_list true y u w e = absurd cc
by_list false true u w e = absurd cc
by_list false false true w e = absurd cc
by_list false false false true e = refl
by_list false false false false e = refl

-- before the first sample
at_outset : (s j o : List ℕ) → Stands (link_of s).port o (outset s j) (going s j o nothing_sent)
unfolding flatten lines_in
at_outset s j o =
    record {
      state = refl;
      journal = refl;
      output = put_none 0 o;
      long = refl;
      stays = refl;
      port = λ some. absurd (some refl);
      frames = refl;
      sum = refl;
    }

module _ (s j : List ℕ) (list : List Sample) (o : List ℕ) where
  pub refused : (n : ℕ) → verdict s j list o ≡ Refused n → outcome (bare n) s j o ≡ called s j list o
  unfolding called
  refused n e = rw e refl

  -- of the three refusals that come before the list's
  abbrev judged_early : Verdict
  judged_early = in_order (not (is_state s)) (not (well_formed j)) (ltb (length o) batch_least) false false

  pub refused_early : (n : ℕ) → judged_early ≡ Refused n → outcome (bare n) s j o ≡ called s j list o
  refused_early n e = refused n (before_list _ _ _ _ n e)

  pub refused_list : judged_early ≡ Passed → wrong_list list ≡ true → outcome (bare bad_argument) s j o ≡ called s j list o
  refused_list e w = refused bad_argument (by_list _ _ _ _ e ∙ rw w refl)

  pub nothing_refuses : judged_early ≡ Passed → wrong_list list ≡ false → verdict s j list o ≡ Passed
  nothing_refuses e w = by_list _ _ _ _ e ∙ rw w refl

  module _ (e : verdict s j list o ≡ Passed) where
    unrefused : (is_state s ≡ true) × (well_formed j ≡ true) × (ltb (length o) batch_least ≡ false) × (ltb samples_most (length list) ≡ false)
        × (some_wrong list ≡ false)
    unrefused = by_order _ _ _ _ _ e

    pub long : length s ≡ state_size
    long = its_length s unrefused.0

    pub fine : Fine j list o
    fine =
        let f = unrefused in
        record { formed = f.1; roomy = ltb-false _ _ f.2; few = ltb-false _ _ f.3; kinds = f.4 }

    module _ (t s' j' o' : List ℕ) (b : sent.Batch) (z : t ≡ s) (g : going s' j' o' b ≡ fold given (going t j o nothing_sent) list) where
      abbrev active : ℕ
      active = (link_of s).port

      given_here : going s' j' o' b ≡ fold given (going s j o nothing_sent) list
      given_here = rw z at g

      end : Stands active o (one_by_one s j list) (going s' j' o' b)
      end = subst (Stands active o (one_by_one s j list)) (sym given_here) (stands active o (outset s j) (going s j o nothing_sent) list (at_outset s j o) (omega (arith, fine)))

      -- the port is told only with a frame
      told : (t : Bool) → eqb b.frames 0 ≡ t → reported b.port b.frames b.sum ≡ reported active b.frames b.sum
      told true e = rw e refl
      told false e = rw (e, end.port (eqb-false _ _ e)) refl

      pub given_all : (a : Batch) → a ≡ reported b.port b.frames b.sum → outcome a s' j' o' ≡ called s j list o
      unfolding called
      given_all a q = rw (q, told _ refl, e, end.state, end.journal, end.output, end.frames, end.sum) refl
