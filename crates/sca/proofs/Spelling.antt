-- Laws of a receiver as bytes.
use mathlib.Core.Path.{◌≡◌, ap}
use mathlib.Core.List.{List, [], ◌∷◌}
use Prim.Native.Nat.{ℕ}
use native.Mathlib.Omega.{arith}
use lib.ListN.{length}
use lib.Seq.{take_all}
use Rattle.parts.specs.Parts.{part}
use Rattle.sca.specs.Link.{receiver_bytes, receiver_of}

-- bytes spell a receiver that is spelled by them
pub spelled_again : (s : List ℕ) → length s ≡ 24 → receiver_bytes (receiver_of s) ≡ s
unfolding part
spelled_again (a ∷ b ∷ c ∷ d ∷ s) e = ap (λ (l : List ℕ). a ∷ b ∷ c ∷ d ∷ l) (take_all 20 s (omega arith))
spelled_again [] e = absurd (omega arith)
spelled_again (a ∷ []) e = absurd (omega arith)
spelled_again (a ∷ b ∷ []) e = absurd (omega arith)
spelled_again (a ∷ b ∷ c ∷ []) e = absurd (omega arith)
