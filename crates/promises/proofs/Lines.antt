-- The lines of calls that meet demand 3 are those of the demand's text, line by line along every run. Assumes nothing.
use Prim.Native.Nat.{ℕ, ◌≤◌}
use mathlib.Core.Path.{◌≡◌, refl, sym, ap, ap₂, ◌∙◌}
use mathlib.Core.List.{List, [], ◌∷◌, ◌++◌, foldl, foldl-append}
use mathlib.Core.Bool.{false}
use lib.Dec.{eqb}
use borrow.Author.Tests.{eqb-true, eqb-false}
use Rattle.journal.specs.Layout.{slots_of, wrong_length}
use Rattle.adapter.specs.Answers.{KeptNumber}
use Rattle.promises.specs.Runs.{Call, event, batch, back, empty, enlarge, Calls, AllOfTheirTypes, Run, Standing, at_start, keeps, Demand3}
use Rattle.promises.specs.Table.{line, lines}
use Rattle.promises.proofs.Runs.{told}
use Rattle.promises.proofs.Standing.{typed_more}
use Rattle.promises.proofs.Steps.{split}

-- the text's lines
abbrev pub text_lines : ℕ → Standing → List Call → List (List ℕ)
text_lines id s [] = []
text_lines id s (k ∷ ks) = line (told id s k) (keeps s k).number ∷ text_lines id (keeps s k) ks

module _ (c : Calls) (d : Demand3 c) (id : ℕ) (id_fits : id ≤ 0xFFFFFF) (bytes : List ℕ) (size : wrong_length bytes ≡ false) where
  abbrev first : Standing
  first = at_start (slots_of bytes)

  abbrev run_of : (ks : List Call) → AllOfTheirTypes ks → Run
  run_of ks t = record { id = id; id_fits = id_fits; bytes = bytes; size = size; calls = ks; typed = t }

  abbrev pub after : List Call → c.Pair
  after ks = foldl c.leaves (c.start id bytes) ks

  pub gives_told : (ks : List Call) → AllOfTheirTypes ks → (k : Call) → c.gives (after ks) k ≡ told id (foldl keeps first ks) k
  gives_told ks t (event e o) = d.reply (run_of ks t) e o
  gives_told ks t (batch list o) = d.batch_reply (run_of ks t) list o
  gives_told ks t back =
      let n : (c.kept (after ks)).kept ≡ (foldl keeps first ks).number = ap (λ (x : KeptNumber). x.kept) (d.kept (run_of ks t)) in
      split (eqb (foldl keeps first ks).number 0) (λ e. rw e (d.refused_at_zero (run_of ks t) (n ∙ eqb-true _ 0 e)).0)
      (λ e. rw e (d.takes_back (run_of ks t) (λ z. eqb-false _ 0 e (sym n ∙ z))).0)
  gives_told ks t empty = d.empties (run_of ks t)
  gives_told ks t (enlarge second) = d.enlarges (run_of ks t) second

  kept_told : (ks : List Call) → AllOfTheirTypes ks → (c.kept (after ks)).kept ≡ (foldl keeps first ks).number
  kept_told ks t = ap (λ (x : KeptNumber). x.kept) (d.kept (run_of ks t))

  from : (ks done : List Call) → AllOfTheirTypes done → AllOfTheirTypes ks → lines c (after done) ks ≡ text_lines id (foldl keeps first done) ks
  from [] done t u = refl
  from (k ∷ ks) done t u =
      let t' = typed_more done k t u.0 in
      let p : after (done ++ (k ∷ [])) ≡ c.leaves (after done) k = foldl-append c.leaves (c.start id bytes) done (k ∷ []) in
      let s : foldl keeps first (done ++ (k ∷ [])) ≡ keeps (foldl keeps first done) k = foldl-append keeps first done (k ∷ []) in
      ap₂ (λ (l : List ℕ) (ls : List (List ℕ)). l ∷ ls)
      (ap₂ line (gives_told done t k)
      (ap (λ (x : c.Pair). (c.kept x).kept) (sym p) ∙ kept_told (done ++ (k ∷ [])) t' ∙ ap (λ (x : Standing). x.number) s))
      (ap (λ (x : c.Pair). lines c x ks) (sym p) ∙ from ks (done ++ (k ∷ [])) t' u.1 ∙ ap (λ (x : Standing). text_lines id x ks) s)

  pub lines_told : (ks : List Call) → AllOfTheirTypes ks → lines c (c.start id bytes) ks ≡ text_lines id (at_start (slots_of bytes)) ks
  lines_told ks u = from ks [] tt u
