-- A good state: in the range of document 01's number 6, with registers that hold what their machine types hold. Assumes nothing.
use Prim.Native.Nat.{ℕ, ◌≤◌}
use mathlib.Core.Bool.{true, ◌&&◌}
use mathlib.Core.List.{List}
use mathlib.Core.Path.{◌≡◌, ap₂}
use borrow.Author.Tests.{le-leb, leb-true}
use lib.Dec.{lit≤}
use Rattle.bits.proofs.Tests.{and_left, and_right}
use Rattle.registers.proofs.Laws.{RegistersFit}
use Rattle.registers.specs.Registers.{within}
use Rattle.channels.specs.Rows.{all_held}
use Rattle.channels.specs.Starts.{opens_sound, sound_registers}
use Rattle.channels.proofs.Laws.{Sound, power_on_sound}
use Rattle.link.specs.declared.Link.{Link}
use Rattle.state.specs.State.{Adapter, powered_on, power_on, in_range, with_link, with_registers}

ruleset halves = (and_left, and_right)

pub record Good (a : Adapter) : Type 0 where
  pub send : a.link.send.0 ≤ 7
  pub receive : a.link.receive.0 ≤ 7
  pub port : a.link.port ≤ 1
  pub registers : Sound a.registers

sound_ranged : {rs : List ℕ} → Sound rs → sound_registers rs ≡ true
unfolding sound_registers
sound_ranged s = ap₂ ◌&&◌ (ap₂ ◌&&◌ s.masked s.held) s.opens

pub good_ranged : (a : Adapter) → Good a → in_range a ≡ true
unfolding in_range
good_ranged a g = simp (le-leb _ _ g.send, le-leb _ _ g.receive, le-leb _ _ g.port) (sound_ranged g.registers)

-- document 01's list, one by one
pub ranges : (a : Adapter) → in_range a ≡ true → (a.link.send.0 ≤ 7) × (a.link.receive.0 ≤ 7) × (a.link.port ≤ 1)
    × (within a.registers ≡ true) × (all_held a.registers ≡ true) × (opens_sound a.registers ≡ true)
unfolding in_range sound_registers
ranges a h =
    (leb-true _ _ (search halves), leb-true _ _ (search halves), leb-true _ _ (search halves), search halves, search halves, search halves)

pub good : (a : Adapter) → RegistersFit a.registers → in_range a ≡ true → Good a
good a f h =
    let g = ranges a h in
    record { send = g.0; receive = g.1; port = g.2; registers = record { fits = f; masked = g.3; held = g.4; opens = g.5 } }

-- ---- power-on

pub powered_good : (port id : ℕ) → port ≤ 1 → Good (powered_on port id)
unfolding powered_on
powered_good port id p = record { send = lit≤ tt; receive = lit≤ tt; port = p; registers = power_on_sound id }

pub power_on_good : (n : ℕ) → Good (power_on n)
power_on_good n = powered_good 0 n (lit≤ tt)

-- ---- one part anew

pub relinked : (a : Adapter) (l : Link) → Good a → l.send.0 ≤ 7 → l.receive.0 ≤ 7 → l.port ≤ 1 → Good (with_link a l)
relinked a l g s r p = record { send = s; receive = r; port = p; registers = g.registers }

pub stored : (a : Adapter) (rs : List ℕ) → Good a → Sound rs → Good (with_registers a rs)
stored a rs g s = record { send = g.send; receive = g.receive; port = g.port; registers = s }
