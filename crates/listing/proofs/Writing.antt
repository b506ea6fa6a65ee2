-- Texts written one behind the other into a lent buffer are one text. Assumes nothing.
use Prim.Native.Nat.{ℕ, ◌+◌, ◌*◌, ◌/◌, ◌%◌, ◌≤◌, ◌<◌}
use mathlib.Core.Path.{◌≡◌, refl, sym, ap, ◌∙◌}
use mathlib.Core.Bool.{Bool, cond}
use mathlib.Core.List.{List, [], ◌∷◌, ◌++◌, append_assoc}
use native.Mathlib.Numerals.{add-one}
use native.Mathlib.Omega.{arith}
use Rattle.std.proofs.lemmas.Grind.{common_steps}
use lib.ListN.{length, take, get_or, set, length-append}
use lib.Seq.{set_split, take-suc, take_all, length-take-le}
use lib.Dec.{eqb, leb}
use Rattle.parts.specs.Parts.{put}
use Rattle.parts.proofs.Laws.{put_none, put_put, length_put}
use Rattle.listing.specs.Characters.{space, line_feed, hex_text, hex_digit}
use Rattle.listing.specs.Answer.{optional, decimal, frame_text, answer_text}
use Rattle.listing.proofs.Hex.{hex_snoc, length_hex}

pub put_one : (at b : ℕ) (o : List ℕ) → at < length o → set o at b ≡ put at (b ∷ []) o
unfolding put
put_one at b o h = rw (set_split o at b h, add-one) refl

pub nothing_put : (at : ℕ) (o : List ℕ) → put at [] o ≡ o
nothing_put at o = sym (put_none at o)

pub length_optional : (w : Bool) (b : ℕ) → length (optional w b) ≤ 1
length_optional w b = grind (arith, common_steps)

-- ---- each text as its parts, in the order of writing

pub decimal_parts : (n : ℕ) → decimal n ≡ (optional (leb 100 n) (48 + n / 100) ++ optional (leb 10 n) (48 + n / 10 % 10)) ++ ((48 + n % 10) ∷ [])
unfolding decimal
decimal_parts n = simp append_assoc

pub length_decimal : (n : ℕ) → length (decimal n) ≤ 3
length_decimal n = grind (arith, common_steps, decimal_parts, length_optional)

pub hex_none : hex_text [] ≡ []
unfolding hex_text
hex_none = refl

pub hex_more : (s : List ℕ) (i : ℕ) → i < length s → hex_text (take (i + 1) s) ≡ hex_text (take i s) ++ hex_text (get_or s i 0 ∷ [])
hex_more s i h = rw (add-one, take-suc s i 0 h) (hex_snoc (take i s) (get_or s i 0))

pub pair_parts : (b : ℕ) → hex_text (b ∷ []) ≡ (hex_digit (b / 16) ∷ []) ++ (hex_digit (b % 16) ∷ [])
unfolding hex_text
pair_parts b = refl

pub length_front : (s : List ℕ) (i : ℕ) → i < length s → length (hex_text (take i s)) ≡ 2 * i
length_front s i h = length_hex (take i s) ∙ ap (λ (n : ℕ). 2 * n) (length-take-le i s (omega arith))

pub hex_whole : (s : List ℕ) (i : ℕ) → length s ≤ i → hex_text (take i s) ≡ hex_text s
hex_whole s i h = ap hex_text (take_all i s h)

pub frame_parts : (port : ℕ) (body : List ℕ) → frame_text port body ≡ (((space ∷ []) ++ decimal port) ++ (space ∷ [])) ++ hex_text body
unfolding frame_text
frame_parts port body = ap (λ (l : List ℕ). space ∷ l) (sym (append_assoc (decimal port) (space ∷ []) (hex_text body)))

pub length_frame : (w : Bool) (port : ℕ) (body : List ℕ) → length (cond w (frame_text port body) []) ≤ 5 + 2 * length body
unfolding frame_text
length_frame w port body = grind (arith, common_steps, length_decimal, length_hex)

pub answer_parts : (number kept port : ℕ) (body : List ℕ)
    → answer_text number kept port body
    ≡ (((decimal number ++ (space ∷ [])) ++ decimal kept) ++ cond (eqb number 0) (frame_text port body) []) ++ (line_feed ∷ [])
unfolding answer_text
answer_parts number kept port body = simp append_assoc

pub length_joined : (s t : List ℕ) → length (s ++ t) ≡ length s + length t
length_joined = length-append

pub ruleset joined = (put_put, length_put, length_joined)

pub ruleset hexes = (nothing_put, length_front, hex_none, hex_more, hex_whole)

pub ruleset texts = (length_optional, length_decimal, length_hex, length_frame)
