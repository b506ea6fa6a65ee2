-- What the inner functions of the transmitter promise each other: bits written at the end of those written before. Nobody needs to
-- believe it: the call's contract does not cite it.
use Rattle.std.specs.Prelude.{cond, ◌≡◌, List, [], ◌∷◌, ◌++◌, ℕ, ◌+◌, ◌*◌, ◌/◌, ◌%◌, ◌^◌, ◌≤◌, ◌<◌, eqb, length, take, drop}
use Rattle.wire.specs.Bits.{low, wire}
use Rattle.wire.specs.Frame.{stuff}

-- the run of ones that content leaves, a fifth one being followed by its zero
unfoldable pub tail : ℕ → List ℕ → ℕ
tail k [] = k
tail k (b ∷ bs) = cond (eqb b 0) (tail 0 bs) (cond (eqb k 4) (tail 0 bs) (tail (k + 1) bs))

-- the bits written so far: those of the whole bytes, then those still held for the byte that n ends in
abbrev pub inked : List ℕ → ℕ → ℕ → List ℕ
inked o n h = wire (take (n / 8) o) ++ low (n % 8) h

-- bits written as they are, after n bits of which h is held: n' bits and h' now; the bytes after them stand
pub record Inked (o : List ℕ) (n h : ℕ) (bs r : List ℕ) (n' h' : ℕ) : Type 0 where
  pub count : n' ≡ n + length bs
  pub bits : inked r n' h' ≡ inked o n h ++ bs
  pub held : h' < 2 ^ (n' % 8)
  pub rest : drop ((n' + 7) / 8) r ≡ drop ((n' + 7) / 8) o
  pub size : length r ≡ length o

-- stuffed bits written after n bits and a run of k ones: n' bits and a run of k' now
pub record Written (o : List ℕ) (n h k : ℕ) (bs r : List ℕ) (n' h' k' : ℕ) : Type 0 where
  pub raw : Inked o n h (stuff k bs) r n' h'
  pub run : k' ≡ tail k bs
  pub short : k' ≤ 4
  pub most : 5 * n' + k' ≤ 5 * n + k + 6 * length bs
