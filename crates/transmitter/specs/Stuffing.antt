-- What `stuffed` promises of four bits.
use Rattle.std.specs.Prelude.{◌≡◌, ℕ, ◌+◌, ◌*◌, ◌^◌, ◌<◌, ◌≤◌}
use Rattle.wire.specs.Bits.{low}
use Rattle.wire.specs.Frame.{stuff}
use Rattle.transmitter.specs.Inner.{tail}
use Rattle.transmitter.specs.declared.stuffing.Piece.{Piece}

-- what four bits x become after a run of k ones
pub record Stuffs (k x : ℕ) (f : Piece) : Type 0 where
  pub same : stuff k (low 4 x) ≡ low f.count f.bits
  pub run : f.ones ≡ tail k (low 4 x)
  pub fits : f.bits < 2 ^ f.count
  pub short : f.ones ≤ 4
  pub most : 5 * f.count + f.ones ≤ k + 24
  pub some : 4 ≤ f.count
  pub few : f.count ≤ 5
