-- The laws of a listing played in parts. Assumes nothing.
use Prim.Native.Nat.{ℕ, ◌+◌, ◌≤◌, ◌<◌}
use mathlib.Core.Path.{◌≡◌, refl, sym, ap, ◌∙◌}
use mathlib.Core.Bool.{Bool, true, false, cond}
use mathlib.Core.List.{List, [], ◌∷◌, ◌++◌, foldl, foldl-append, append_assoc, append-nil}
use native.Mathlib.Numerals.{add-one}
use native.Mathlib.Nat.{add-zero}
use native.Mathlib.Omega.{arith}
use lib.ListN.{length, take, get_or, length-append}
use lib.Seq.{take-suc, take_all}
use lib.Dec.{eqb}
use borrow.Author.Tests.{eq-eqb, ne_eqb}
use Rattle.listing.specs.Answer.{Wrote, wrote, written}
use Rattle.player.specs.Parts.{held, added, Player, player, ends, joins, takes, closes, handed_over, Feeding, feeds}
use Rattle.parts.specs.Parts.{put}
use Rattle.parts.proofs.Laws.{put_none, put_put}
use Rattle.std.proofs.lemmas.Grind.{common_steps}

-- ---- a text behind another

pub written_none : (at : ℕ) (o : List ℕ) → wrote at o ≡ written at [] o
unfolding written
written_none at o = rw (← put_none at o, add-zero) refl

module _ (at k : ℕ) (s o p : List ℕ) (first : wrote k p ≡ written at s o) where
  next_place : k ≡ at + length s
  unfolding written
  next_place = ap (λ (w : Wrote). w.next) first

  written_then : at + length s ≤ length o → (t : List ℕ) → written k t p ≡ written at (s ++ t) o
  unfolding written
  written_then room t =
      let e : p ≡ put at s o = ap (λ (w : Wrote). w.bytes) first in
      let n : at + length s + length t ≡ at + (length s + length t) = omega arith in
      rw (e, put_put at s t o k next_place room, next_place, length-append s t, n) refl

-- ---- a character

pub added_count : (count b : ℕ) (line : List ℕ) → count ≤ 81 → (added count b line).count ≤ 81
unfolding added
added_count count b line h = grind (arith, common_steps)

-- ---- the text only grows

abbrev pub after : List ℕ → Player → Player
after t p = record { state = p.state; journal = p.journal; line = p.line; text = t ++ p.text }

pub ends_after : (t : List ℕ) (p : Player) → ends (after t p) ≡ after t (ends p)
unfolding ends
ends_after t p = rw append_assoc refl

joins_after : (t : List ℕ) (p : Player) (b : ℕ) → joins (after t p) b ≡ after t (joins p b)
unfolding joins
joins_after t p b = refl

pub takes_after : (t : List ℕ) (p : Player) (b : ℕ) → takes (after t p) b ≡ after t (takes p b)
unfolding takes
takes_after t p b = either (eqb b 10)
  where
    either : (c : Bool) → cond c (ends (after t p)) (joins (after t p) b) ≡ after t (cond c (ends p) (joins p b))
    either true = ends_after t p
    either false = joins_after t p b

pub whole_again : (p : Player) → after p.text (handed_over p) ≡ p
whole_again p = ap (λ (t : List ℕ). record { state = p.state; journal = p.journal; line = p.line; text = t }) (append-nil p.text)

-- ---- a byte of the input

pub takes_end : (p : Player) (b : ℕ) → b ≡ 10 → takes p b ≡ ends p
unfolding takes
takes_end p b h = simp (eq-eqb b 10 h)

pub takes_char : (p : Player) (b : ℕ) → (b ≡ 10 → ⊥) → takes p b ≡ joins p b
unfolding takes
takes_char p b h = simp (ne_eqb b 10 h)

abbrev pub feeding : List ℕ → List ℕ → List ℕ → ℕ → ℕ → List ℕ → Feeding
feeding s journal line count next out = record { state = s; journal = journal; line = held count line; output = wrote next out }

-- ---- a block

-- the text of a byte stands behind that of those before it
byte_after_lem : (p : Player) (s j line out₀ out : List ℕ) (count next b : ℕ) → feeding s j line count next out ≡ feeds 0 out₀ p → next ≤ length out₀
    → feeds next out (takes (player s j line count []) b) ≡ feeds 0 out₀ (takes p b)
byte_after_lem p s j line out₀ out count next b h room =
    let q : Player = takes (handed_over p) b in
    let w : wrote next out ≡ written 0 p.text out₀ = ap (λ (f : Feeding). f.output) h in
    let n = next_place 0 next p.text out₀ out w in
    ap (λ (f : Feeding). feeds next out (takes (record { state = f.state; journal = f.journal; line = f.line; text = [] }) b)) h
    ∙ ap (λ (v : Wrote). record { state = q.state; journal = q.journal; line = q.line; output = v })
    (written_then 0 next p.text out₀ out w (omega arith) q.text)
    ∙ ap (feeds 0 out₀) (sym (takes_after p.text (handed_over p) b) ∙ ap (λ (r : Player). takes r b) (whole_again p))

pub byte_fed : (x : Feeding) (p : Player) (s j line block out₀ out : List ℕ) (count next i : ℕ)
    → x ≡ feeds next out (takes (player s j line count []) (get_or block i 0))
    → feeding s j line count next out ≡ feeds 0 out₀ (foldl takes p (take i block)) → i < length block → next ≤ length out₀
    → x ≡ feeds 0 out₀ (foldl takes p (take (i + 1) block))
byte_fed x p s j line block out₀ out count next i e h within room =
    e ∙ byte_after_lem (foldl takes p (take i block)) s j line out₀ out count next (get_or block i 0) h room ∙ ap (feeds 0 out₀) (sym taken_more)
  where
    taken_more : foldl takes p (take (i + 1) block) ≡ takes (foldl takes p (take i block)) (get_or block i 0)
    taken_more = rw (add-one, take-suc block i 0 within, foldl-append takes p (take i block) (get_or block i 0 ∷ [])) refl

pub all_fed : (p : Player) (block out₀ : List ℕ) (i : ℕ) (f : Feeding) → length block ≤ i → f ≡ feeds 0 out₀ (foldl takes p (take i block))
    → f ≡ feeds 0 out₀ (foldl takes p block)
all_fed p block out₀ i f h e = rw (take_all i block h) at e

-- ---- the end

module _ (s j line out : List ℕ) (count : ℕ) where
  pub ends_line : (x : Feeding) → (count ≡ 0 → ⊥) → x ≡ feeds 0 out (foldl takes (player s j line count []) (10 ∷ []))
      → x ≡ feeds 0 out (closes (player s j line count []))
  unfolding closes
  ends_line x h g = simp (ne_eqb count 0 h) (g ∙ ap (feeds 0 out) (takes_end _ 10 refl))
