-- The laws of characters: hex digits, pairs in and out. Assumes nothing.
use Prim.Native.Nat.{ℕ, zero, suc, ◌+◌, ◌*◌, ◌/◌, ◌%◌, ◌<◌}
use mathlib.Core.Path.{◌≡◌, refl, sym, ap, ◌∙◌}
use mathlib.Core.Bool.{or_assoc}
use mathlib.Core.List.{List, [], ◌∷◌, ◌++◌}
use native.Mathlib.Numerals.{add-one}
use native.Mathlib.Omega.{arith}
use lib.ListN.{length, take, drop, set}
use lib.Seq.{take-suc-set, take_all, drop-drop}
use Rattle.std.proofs.lemmas.Grind.{common_steps}
use Rattle.std.specs.List.{list_all}
use Rattle.std.specs.Char.{is_ascii_hexdigit}
use Rattle.listing.specs.Characters.{is_hex, hex_value, all_hex, front_pair, pair_bytes, hex_digit, hex_text}

pub value_small : (c : ℕ) → hex_value c < 16
unfolding hex_value
value_small c = grind (arith, common_steps)

-- ---- hex digits alone

pub hex_all : (s : List ℕ) → list_all is_ascii_hexdigit s ≡ all_hex s
unfolding all_hex is_hex
hex_all [] = refl
hex_all (c ∷ s) = let h = hex_all s in grind (arith, or_assoc)

-- ---- pairs in

pairs_snoc : (n : ℕ) (s : List ℕ) → pair_bytes (suc n) s ≡ pair_bytes n s ++ (front_pair (drop (2 * n) s) ∷ [])
unfolding pair_bytes
pairs_snoc zero s = refl
pairs_snoc (suc n) s = rw (pairs_snoc n (drop 2 s), drop-drop (2 * n) 2 s) (let h : 2 + 2 * n ≡ 2 * suc n = omega arith in rw h refl)

pub pair_none : (s : List ℕ) → pair_bytes 0 s ≡ []
unfolding pair_bytes
pair_none s = refl

pub pair_more : (b s : List ℕ) (i v : ℕ) → i < length b → v ≡ front_pair (drop (2 * i) s) → take i b ≡ pair_bytes i s → take (i + 1) (set b i v) ≡ pair_bytes (i + 1) s
pair_more b s i v l e h = rw (add-one, take-suc-set b i v l, pairs_snoc i s, e, h)

pub pair_all : (b s : List ℕ) (i n : ℕ) → length b ≡ n → i ≡ n → take i b ≡ pair_bytes i s → b ≡ pair_bytes n s
pair_all b s i n l e h = sym (take_all n b (omega arith)) ∙ (rw e at h)

pub length_pairs : (n : ℕ) (s : List ℕ) → length (pair_bytes n s) ≡ n
unfolding pair_bytes
length_pairs zero s = refl
length_pairs (suc n) s = ap suc (length_pairs n (drop 2 s))

-- ---- pairs out

pub hex_snoc : (s : List ℕ) (b : ℕ) → hex_text (s ++ (b ∷ [])) ≡ hex_text s ++ hex_text (b ∷ [])
unfolding hex_text
hex_snoc [] b = refl
hex_snoc (c ∷ s) b = ap (λ (l : List ℕ). hex_digit (c / 16) ∷ hex_digit (c % 16) ∷ l) (hex_snoc s b)

pub length_hex : (s : List ℕ) → length (hex_text s) ≡ 2 * length s
unfolding hex_text
length_hex [] = refl
length_hex (c ∷ s) = let h = length_hex s in omega arith
