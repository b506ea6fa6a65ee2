-- What the pen's methods promise each other.
use Rattle.std.specs.Prelude.{◌≡◌, List, ℕ}
use Rattle.transmitter.specs.Inner.{Inked, Written}
use Rattle.transmitter.specs.declared.framing.Pen.{Pen}

-- bits written as they are, into the same output
pub record Inks (p : Pen) (bs : List ℕ) (q : Pen) : Type 0 where
  pub raw : Inked p.output.now p.bits p.held bs q.output.now q.bits q.held
  pub same : q.output.ghost_name ≡ p.output.ghost_name

-- stuffed bits written, into the same output
pub record Writes (p : Pen) (bs : List ℕ) (q : Pen) : Type 0 where
  pub written : Written p.output.now p.bits p.held p.ones bs q.output.now q.bits q.held q.ones
  pub same : q.output.ghost_name ≡ p.output.ghost_name
