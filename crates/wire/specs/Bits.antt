-- Bits in the order in which they go over the wire: least significant first, in bytes and in files (document 01, "The wire").
use Rattle.std.specs.Prelude.{List, [], ◌∷◌, ◌++◌, ℕ, zero, suc, ◌+◌, ◌*◌, ◌/◌, ◌%◌, length, take, drop}

-- the n lowest bits of v, the least significant first
unfoldable pub low : ℕ → ℕ → List ℕ
low zero v = []
low (suc n) v = v % 2 ∷ low n (v / 2)

-- the bits of bytes
unfoldable pub wire : List ℕ → List ℕ
wire [] = []
wire (x ∷ xs) = low 8 x ++ wire xs

-- the number that bits spell, the first lowest
unfoldable pub num : List ℕ → ℕ
num [] = 0
num (b ∷ bs) = b + 2 * num bs

-- n bytes, eight bits each
unfoldable pub octets : ℕ → List ℕ → List ℕ
octets zero bs = []
octets (suc n) bs = num (take 8 bs) ∷ octets n (drop 8 bs)

-- bits as bytes again
unfoldable pub pack : List ℕ → List ℕ
pack bs = octets (length bs / 8) bs
