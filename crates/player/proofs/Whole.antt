-- A listing cut into blocks anywhere gives the bytes that the whole gives. Assumes nothing.
use Prim.Native.Nat.{ℕ, ◌+◌, ◌≤◌, ◌<◌}
use mathlib.Core.Path.{◌≡◌, refl, sym, ap, ◌∙◌}
use mathlib.Core.Bool.{Bool, true, false, cond}
use mathlib.Core.List.{List, [], ◌∷◌, ◌++◌, foldl, foldl-append, append_assoc, append-nil, flatten}
use native.Mathlib.Numerals.{add-one}
use native.Mathlib.Omega.{arith}
use lib.ListN.{length, take, set, replicate, length-append, length-set, length-take, length-replicate}
use lib.Seq.{take_all, take-suc-set, take-append-le, length-take-le}
use lib.Dec.{eqb, ltb}
use borrow.Author.Tests.{eqb-true, eqb-false, eq-eqb, ne_eqb, ltb-true, ltb-false}
use Rattle.listing.specs.Line.{read, unreadable}
use Rattle.player.specs.Play.{Turn, turn, lines_from, last_line, answers, new_state, empty_journal, played}
use Rattle.player.specs.Parts.{Held, held, added, Player, sofar, ends, joins, takes, closes, begins, handed_over, played_in}
use Rattle.listing.proofs.Reading.{long_unreadable}
use Rattle.player.proofs.Feeding.{after, ends_after, takes_after, whole_again, takes_end, takes_char}

-- ---- blocks one after the other

fold_after : (t : List ℕ) (s : List ℕ) (p : Player) → foldl takes (after t p) s ≡ after t (foldl takes p s)
fold_after t [] p = refl
fold_after t (b ∷ s) p = ap (λ (q : Player). foldl takes q s) (takes_after t p b) ∙ fold_after t s (takes p b)

closes_after : (t : List ℕ) (p : Player) → closes (after t p) ≡ after t (closes p)
unfolding closes
closes_after t p = either (eqb p.line.count 0)
  where
    either : (c : Bool) → cond c (after t p) (ends (after t p)) ≡ after t (cond c p (ends p))
    either true = refl
    either false = ends_after t p

-- two blocks one after the other are one block
pub in_two : (p : Player) (x y : List ℕ) → foldl takes p (x ++ y) ≡ foldl takes (foldl takes p x) y
in_two p x y = foldl-append takes p x y

-- and so are any number of blocks
pub in_one : (blocks : List (List ℕ)) (p : Player) → played_in p blocks ≡ (closes (foldl takes p (flatten blocks))).text
unfolding played_in flatten
in_one [] p = refl
in_one (b ∷ bs) p =
    let q : Player = foldl takes p b in
    ap (λ (t : List ℕ). q.text ++ t) (in_one bs (handed_over q))
    ∙ ap (λ (r : Player). r.text)
    (sym (closes_after q.text (foldl takes (handed_over q) (flatten bs)))
    ∙ ap closes (sym (fold_after q.text (flatten bs) (handed_over q)) ∙ ap (λ (r : Player). foldl takes r (flatten bs)) (whole_again q)))
    ∙ ap (λ (r : Player). (closes r).text) (sym (in_two p b (flatten bs)))

-- ---- a line over 80 characters is not readable, whatever follows

over_long : (l : List ℕ) → 80 < length l → read l ≡ unreadable
unfolding read
over_long l h = rw (long_unreadable l h) refl

same_read : (l : List ℕ) → read (take 81 l) ≡ read l
same_read l = either (ltb 80 (length l)) refl
  where
    either : (c : Bool) → ltb 80 (length l) ≡ c → read (take 81 l) ≡ read l
    either true e =
        let h = ltb-true 80 (length l) e in
        let g : length (take 81 l) ≡ 81 = length-take-le 81 l (omega arith) in
        over_long (take 81 l) (omega arith) ∙ sym (over_long l h)
    either false e = let h = ltb-false 80 (length l) e in ap read (take_all 81 l (omega arith))

same_turn : (s j l m : List ℕ) → m ≡ take 81 l → turn s j m ≡ turn s j l
unfolding turn
same_turn s j l m e = rw (e, same_read l) refl

-- ---- the line so far

record Begun (h : Held) (l : List ℕ) : Type 0 where
  long : length h.line ≡ 81
  few : h.count ≤ 81
  same : take h.count h.line ≡ take 81 l

counted : (h : Held) (l : List ℕ) → Begun h l → h.count ≡ length (take 81 l)
counted h l b = let e = b.long in let f = b.few in sym (length-take-le h.count h.line (omega arith)) ∙ ap length b.same

one_more : (l : List ℕ) (b : ℕ) → length (l ++ (b ∷ [])) ≡ length l + 1
one_more l b = simp length-append

begun_more : (h : Held) (l : List ℕ) (b : ℕ) → Begun h l → Begun (added h.count b h.line) (l ++ (b ∷ []))
unfolding added
begun_more h l b e = either (ltb h.count 81) refl
  where
    short : h.count < 81 → length l < 81
    short g = let c = counted h l e in let m = length-take 81 l in omega arith

    either : (c : Bool) → ltb h.count 81 ≡ c → Begun (cond c (held (h.count + 1) (set h.line h.count b)) (held h.count h.line)) (l ++ (b ∷ []))
    either true c =
        let g = ltb-true h.count 81 c in
        let s = short g in
        let n = one_more l b in
        let m = e.long in
        record {
          long = length-set h.line h.count b ∙ e.long;
          few = omega arith;
          same =
              ap (λ (k : ℕ). take k (set h.line h.count b)) (add-one h.count)
              ∙ take-suc-set h.line h.count b (omega arith)
              ∙ ap (λ (t : List ℕ). t ++ (b ∷ [])) (e.same ∙ take_all 81 l (omega arith))
              ∙ sym (take_all 81 (l ++ (b ∷ [])) (omega arith));
        }
    either false c =
        let g = ltb-false h.count 81 c in
        let f = e.few in
        let n = counted h l e in
        let m = length-take 81 l in
        record { long = e.long; few = e.few; same = e.same ∙ sym (take-append-le 81 l (b ∷ []) (omega arith)) }

none_begun : (line : List ℕ) → length line ≡ 81 → Begun (held 0 line) []
none_begun line e = record { long = e; few = omega arith; same = refl }

-- ---- the whole

abbrev at : List ℕ → List ℕ → Held → List ℕ → Player
at s j h t = record { state = s; journal = j; line = h; text = t }

some_begun : (h : Held) (c : ℕ) (l : List ℕ) → Begun h (c ∷ l) → h.count ≡ 0 → ⊥
some_begun h c l b e = let n = counted h (c ∷ l) b in omega arith

ends_text : (s j : List ℕ) (h : Held) (t : List ℕ) → (ends (at s j h t)).text ≡ t ++ (turn s j (sofar h)).text
unfolding ends
ends_text s j h t = refl

last_answered : (l s j : List ℕ) (h : Held) (t : List ℕ) → Begun h l → (closes (at s j h t)).text ≡ t ++ answers s j (last_line l)
unfolding closes answers
last_answered [] s j h t b = simp (eq-eqb h.count 0 (counted h [] b)) (sym (append-nil t))
last_answered (c ∷ l) s j h t b =
    simp (ne_eqb h.count 0 (some_begun h c l b))
    (ends_text s j h t
    ∙ ap (λ (u : Turn). t ++ u.text) (same_turn s j (c ∷ l) (sofar h) b.same)
    ∙ ap (λ (u : List ℕ). t ++ u) (sym (append-nil (turn s j (c ∷ l)).text)))

lines_end : (l : List ℕ) (c : ℕ) (x : List ℕ) → c ≡ 10 → lines_from l (c ∷ x) ≡ l ∷ lines_from [] x
unfolding lines_from
lines_end l c x e = simp (eq-eqb c 10 e)

lines_char : (l : List ℕ) (c : ℕ) (x : List ℕ) → (c ≡ 10 → ⊥) → lines_from l (c ∷ x) ≡ lines_from (l ++ (c ∷ [])) x
unfolding lines_from
lines_char l c x e = simp (ne_eqb c 10 e)

-- what the rest of the input gives, whatever line is begun
abbrev Answered : List ℕ → Type 0
Answered x = (l s j : List ℕ) (h : Held) (t : List ℕ) → Begun h l → (closes (foldl takes (at s j h t) x)).text ≡ t ++ answers s j (lines_from l x)

line_answered : (c : ℕ) (x : List ℕ) → c ≡ 10 → Answered x → Answered (c ∷ x)
unfolding ends answers
line_answered c x e rest l s j h t b =
    let u : Turn = turn s j (sofar h) in
    ap (λ (p : Player). (closes (foldl takes p x)).text) (takes_end (at s j h t) c e)
    ∙ rest [] u.state u.journal (held 0 h.line) (t ++ u.text) (none_begun h.line b.long)
    ∙ append_assoc t u.text (answers u.state u.journal (lines_from [] x))
    ∙ ap (λ (v : Turn). t ++ (v.text ++ answers v.state v.journal (lines_from [] x))) (same_turn s j l (sofar h) b.same)
    ∙ ap (λ (ls : List (List ℕ)). t ++ answers s j ls) (sym (lines_end l c x e))

char_answered : (c : ℕ) (x : List ℕ) → (c ≡ 10 → ⊥) → Answered x → Answered (c ∷ x)
unfolding joins
char_answered c x e rest l s j h t b =
    ap (λ (p : Player). (closes (foldl takes p x)).text) (takes_char (at s j h t) c e)
    ∙ rest (l ++ (c ∷ [])) s j (added h.count c h.line) t (begun_more h l c b)
    ∙ ap (λ (ls : List (List ℕ)). t ++ answers s j ls) (sym (lines_char l c x e))

by_character : (c : ℕ) (x : List ℕ) → Answered x → (d : Bool) → eqb c 10 ≡ d → Answered (c ∷ x)
by_character c x rest true e = line_answered c x (eqb-true c 10 e) rest
by_character c x rest false e = char_answered c x (eqb-false c 10 e) rest

all_answered : (x : List ℕ) → Answered x
unfolding lines_from
all_answered [] = last_answered
all_answered (c ∷ x) = by_character c x (all_answered x) (eqb c 10) refl

-- any cutting of the input into blocks gives the same output bytes: those of the whole listing
pub any_cutting : (blocks : List (List ℕ)) → played_in begins blocks ≡ played (flatten blocks)
unfolding played
any_cutting blocks =
    in_one blocks begins
    ∙ all_answered (flatten blocks) [] new_state empty_journal (held 0 (replicate 81 0)) []
    (none_begun (replicate 81 0) (length-replicate {A = ℕ} 81 0))
