-- What a request's group comes to, where no other channel's command than the controller's switches; and what is held one by one.
use Prim.Native.Nat.{ℕ, suc, ◌+◌, ◌≤◌, ◌<◌}
use mathlib.Core.Bool.{true, ◌&&◌}
use mathlib.Core.List.{List}
use mathlib.Core.Path.{◌≡◌, refl, sym, ap}
use native.Mathlib.Omega.{arith}
use lib.Dec.{ltb}
use lib.ListN.{length, get_or, drop, drop_of_length-le}
use lib.Seq.{drop-cons}
use Rattle.std.specs.Prelude.{Option, Some, None}
use Rattle.bits.proofs.Tests.{and_left, and_right}
use Rattle.commands.specs.declared.channel.Channel.{Channel}
use Rattle.commands.specs.declared.channel.Channel.TheVariants.{Controller}
use Rattle.commands.specs.declared.command.Command.{Command}
use Rattle.commands.specs.declared.command.Does.{Does}
use Rattle.commands.specs.declared.command.Does.TheVariants.{Write, Switch, Read, Clear, Start, Transact}
use Rattle.commands.specs.Channels.{command_of}
use Rattle.channels.specs.Rows.{row_of, register_of, held, held_all}
use Rattle.channels.specs.Groups.{by_does, by_command}
use Rattle.channels.proofs.Owners.{is_own, only_controller, touches, proper, commands_proper}

module _ (ch : Channel) (n : ch ≡ Controller → ⊥) where
  stays_by : (does : Does) → touches ch does ≡ true → by_does (row_of ch).group does ≡ (row_of ch).group
  stays_by (Write r) t = refl
  stays_by (Switch c) t =
      absurd (n (only_controller ch (register_of c) (and_left (is_own ch (register_of c)) _ t) (and_right (is_own ch (register_of c)) _ t)))
  stays_by (Read r) t = refl
  stays_by (Clear r) t = refl
  stays_by (Start r) t = refl
  stays_by (Transact i t) h = refl

  stays : (command : Option Command) → proper ch command ≡ true → by_command (row_of ch).group command ≡ (row_of ch).group
  stays None p = refl
  stays (Some k) p =
      stays_by k.does (and_right (ltb k.lengths.given 256) _ (and_left (ltb k.lengths.given 256 && touches ch k.does) _ p))

  pub others_group : (cmd : ℕ) → by_command (row_of ch).group (command_of ch cmd) ≡ (row_of ch).group
  others_group cmd = stays (command_of ch cmd) (commands_proper ch cmd)

-- ---- after a switch, channel by channel

module _ (chs : List Channel) (rs : List ℕ) (i : ℕ) where
  pub held_next : (none : Channel) → i < length chs → held_all (drop (i + 1) chs) (held rs (get_or chs i none)) ≡ held_all (drop i chs) rs
  unfolding held_all
  held_next none l =
      let f : i + 1 ≡ suc i = omega arith in
      rw f (sym (ap (λ (s : List Channel). held_all s rs) (drop-cons chs i none l)))

  pub held_none : length chs ≤ i → held_all (drop i chs) rs ≡ rs
  unfolding held_all
  held_none l = ap (λ (s : List Channel). held_all s rs) (drop_of_length-le chs l)
