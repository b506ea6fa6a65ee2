-- The listing's lines as text: what the bench program writes is the text of the delivered calls' lines.
use Prim.Native.Nat.{ℕ}
use mathlib.Core.Path.{◌≡◌, refl, ap, ap₂, ◌∙◌}
use mathlib.Core.List.{List, [], ◌∷◌, ◌++◌}
use lib.ListN.{take}
use lib.Dec.{eqb}
use Rattle.chip.specs.Event.{Event}
use Rattle.listing.specs.Line as Line
use Rattle.listing.specs.Answer.{answer_text}
use Rattle.player.specs.Play.{no_reply, heard, answer_of, Turn, turn, answers}
use Rattle.promises.specs.Runs.{Call, event, back, Given}
use Rattle.promises.specs.Ours.{ours, handed}
use Rattle.promises.specs.Table.{line, lines}
use Rattle.promises.proofs.Steps.{split}

-- a line of numbers as text
unfoldable pub of_line : List ℕ → List ℕ
of_line [] = []
of_line (n ∷ []) = []
of_line (n ∷ k ∷ []) = answer_text n k 0 []
of_line (n ∷ k ∷ p ∷ body) = answer_text n k p body

unfoldable pub joined : List (List ℕ) → List ℕ
joined [] = []
joined (l ∷ ls) = of_line l ++ joined ls

-- lines of text that say these calls
pub data Says : List (List ℕ) → List Call → Type 0 where
  none : Says [] []
  happens : {l : List ℕ} {e : Event} {ls : List (List ℕ)} {ks : List Call} → Line.read l ≡ Line.happens e → Says ls ks → Says (l ∷ ls) (event e no_reply ∷ ks)
  steps : {l : List ℕ} {ls : List (List ℕ)} {ks : List Call} → Line.read l ≡ Line.back → Says ls ks → Says (l ∷ ls) (back ∷ ks)

-- one line
of_line_lem : (g : Given) (kept : ℕ) (body : List ℕ) → body ≡ take g.length g.output → answer_text g.number kept g.port body ≡ of_line (line g kept)
unfolding of_line answer_text
of_line_lem g kept body e = split (eqb g.number 0) (λ h. rw (h, h, e) refl) (λ h. rw (h, h) refl)

-- what a line does is what it says
turned : (s j l : List ℕ) (x : Line.Line) → Line.read l ≡ x
    → turn s j l ≡ (let o = heard s j x no_reply in record { state = o.state; journal = o.journal; text = answer_of o })
unfolding turn
turned s j l x h =
    ap (λ (y : Line.Line). let w : Turn = (let o = heard s j y no_reply in record { state = o.state; journal = o.journal; text = answer_of o }) in w) h

-- what the program answers to lines that say calls
pub answers_text : {ls : List (List ℕ)} {ks : List Call} → Says ls ks → (s j : List ℕ) → answers s j ls ≡ joined (lines ours (handed s j) ks)
unfolding answers joined
answers_text none s j = refl
answers_text (happens {l} {e} {ls} h more) s j =
    let p = handed s j in
    let q = ours.leaves p (event e no_reply) in
    ap (λ (t : Turn). t.text ++ answers t.state t.journal ls) (turned s j l (Line.happens e) h)
    ∙ ap₂ ◌++◌ (of_line_lem (ours.gives p (event e no_reply)) (ours.kept q).kept _ refl) (answers_text more q.state q.journal)
answers_text (steps {l} {ls} h more) s j =
    let p = handed s j in
    let q = ours.leaves p back in
    ap (λ (t : Turn). t.text ++ answers t.state t.journal ls) (turned s j l Line.back h)
    ∙ ap₂ ◌++◌ (of_line_lem (ours.gives p back) (ours.kept q).kept _ refl) (answers_text more q.state q.journal)
