-- What frames are made of: flags, stuffed bits, content (document 01, "The wire").
use Rattle.std.specs.Prelude.{cond, List, [], ◌∷◌, ◌++◌, ℕ, ◌+◌, eqb}
use Rattle.wire.specs.Bits.{wire}
use Rattle.wire.specs.Fcs.{fcs}

-- six ones between zeros
abbrev pub flag : List ℕ
flag = 0 ∷ 1 ∷ 1 ∷ 1 ∷ 1 ∷ 1 ∷ 1 ∷ 0 ∷ []

-- after five ones a zero is inserted; k ones have gone before
unfoldable pub stuff : ℕ → List ℕ → List ℕ
stuff k [] = []
stuff k (b ∷ bs) = cond (eqb b 0) (0 ∷ stuff 0 bs) (cond (eqb k 4) (1 ∷ 0 ∷ stuff 0 bs) (1 ∷ stuff (k + 1) bs))

-- the content between flags is body then FCS
abbrev pub content_of : List ℕ → List ℕ
content_of body = wire (body ++ fcs body)
