-- ERR: what an answer without an error is, the one change that an error reply makes, and a frame that comes as far as check 8; what `FirstError` is
-- stated with. Assumes nothing.
use Prim.Native.Nat.{ℕ, ◌^◌, ◌<◌}
use mathlib.Core.Bool.{true, false}
use mathlib.Core.Path.{◌≡◌}
use mathlib.Core.List.{List}
use Rattle.std.specs.Prelude.{Some, Result}
use borrow.Author.Tests.{eq-eqb, eqb-true}
use lib.Bits.{bit_or}
use lib.Dec.{eqb}
use lib.ListN.{length}
use Rattle.bits.specs.Bits.{bit_of}
use Rattle.commands.specs.declared.command.Command.{Command}
use Rattle.commands.specs.declared.command.Does.{Does}
use Rattle.commands.specs.declared.command.Does.TheVariants.{Write, Switch, Read, Clear, Start, Transact}
use Rattle.commands.specs.Field.{Status, master}
use Rattle.commands.specs.declared.channel.Channel.{Channel}
use Rattle.commands.specs.declared.channel.Channel.TheVariants as channel
use Rattle.commands.specs.Channels.{channel_of}
use Rattle.commands.specs.Request.{cmd_unknown}
use Rattle.commands.specs.declared.request.Fault.{Fault}
use Rattle.commands.specs.declared.request.Request.{Request}
use Rattle.bits.proofs.Tests.{cond_cases}
use Rattle.registers.specs.Registers.{read, store}
use Rattle.channels.specs.Rows.{is_enabled, is_busy}
use Rattle.channels.specs.Perform.{told, reply_to, left, left_by, with_invcom, marked}
use Rattle.channels.proofs.Laws.{Refused, Unlisted}
use Rattle.channels.proofs.Owners.{below_16}
use Rattle.numbers.specs.Numbers.{no_frame}
use Rattle.link.specs.Link.{receive_number, number_in, in_loopback, is_connect, is_reset, is_test}
use Rattle.state.specs.State.{Adapter, with_registers}
use Rattle.chip.specs.Answer.{Reaction, gives}
use Rattle.chip.specs.Event.{frame}
use Rattle.chip.specs.Request.{replies, finished, requested}
use Rattle.chip.specs.Frame.{address_of, control_of, information_of, counted, numbered, carried, addressed, on_frame}
use Rattle.chip.specs.Chip.{reaction}

-- ---- the answer

-- an answer without an error: a reply with ERR 0, or a start's, which comes later (17)
pub data NoError (q : Request) : Reaction → Type 0 where
  reply : (b : Adapter) (len d : ℕ) → NoError q (replies b q.trn q.ch 0 len d)
  later : (b : Adapter) → NoError q (gives b no_frame)

-- "0x04 sets INVCOM until disable or RESET, the one change an error reply makes": the registers stay, or the error is 0x04 on an enabled, idle master,
-- one of the sixteen, and INVCOM, bit 5 of its STATUS, is set.
pub data OneChange (rs : List ℕ) (q : Request) (n : ℕ) : List ℕ → Type 0 where
  none : OneChange rs q n rs
  invcom : (i : ℕ) → i < 16 → channel_of q.ch ≡ Some (channel.Master i) → n ≡ 0x04 → is_enabled rs (channel.Master i) ≡ true → is_busy rs (channel.Master i) ≡ false
      → OneChange rs q n (store rs (master i Status) (bit_or (read rs (master i Status)) (2 ^ 5)))

pub record Ruled (a : Adapter) (q : Request) (n : ℕ) (r : Reaction) : Type 0 where
  -- "An error reply echoes TRN and CH, has LEN 2, zero data, and no register changes", but for that one
  pub error : (n ≡ 0 → ⊥) → r ≡ replies (with_registers a (marked a.registers q.ch n)) q.trn q.ch n 2 0
  pub change : (n ≡ 0 → ⊥) → OneChange a.registers q n (marked a.registers q.ch n)
  pub none : n ≡ 0 → NoError q r

module _ (a : Adapter) (q : Request) where
  -- what a request decoded so comes to
  abbrev pub comes_to : Result Command Fault → Reaction
  comes_to d = finished (with_registers a (left_by a.registers q d)) q.trn q.ch (reply_to a.registers d)

  pub granted : (given : ℕ) (does : Does) → NoError q (finished (with_registers a (left a.registers q does)) q.trn q.ch (told a.registers given does))
  granted given (Write r) = reply _ _ _
  granted given (Switch c) = reply _ _ _
  granted given (Read r) = reply _ _ _
  granted given (Clear r) = reply _ _ _
  granted given (Start r) = later _
  granted given (Transact i t) = later _

  pub one_change : (e : ℕ) → Refused a.registers q e → OneChange a.registers q e (marked a.registers q.ch e)
  unfolding marked
  one_change e r =
      cond_cases (OneChange a.registers q e) (eqb e cmd_unknown)
      (λ h. let k = eqb-true e cmd_unknown h in by k (r.unlisted k)) (λ _. none)
    where
      by : e ≡ cmd_unknown → Unlisted a.registers q → OneChange a.registers q e (with_invcom a.registers (channel_of q.ch))
      by k u = rw u.named (of u.which u.named k u.enabled u.idle)
        where
          of : (ch : Channel) → channel_of q.ch ≡ Some ch → e ≡ cmd_unknown → is_enabled a.registers ch ≡ true → is_busy a.registers ch ≡ false
              → OneChange a.registers q e (with_invcom a.registers (Some ch))
          of channel.Controller n k on idle = none
          of channel.Spi n k on idle = none
          of channel.Gpio n k on idle = none
          of (channel.Master i) n k on idle = invcom i (below_16 q.ch i n) n k on idle
          of channel.Seu n k on idle = none
          of channel.Id n k on idle = none
          of channel.Dac n k on idle = none

-- ---- the frame

-- a frame that comes as far as check 8
pub record InOrder (a : Adapter) (port : ℕ) (body : List ℕ) : Type 0 where
  pub addressed : address_of body ≡ 0x00
  pub no_connect : is_connect (control_of body) ≡ false
  pub no_reset : is_reset (control_of body) ≡ false
  pub no_test : is_test (control_of body) ≡ false
  pub even : bit_of (control_of body) 0 ≡ false
  pub not_looped : in_loopback a.link port ≡ false
  pub active : port ≡ a.link.port
  pub eight : length (information_of body) ≡ 8
  pub number : number_in (control_of body) ≡ receive_number a.link

pub in_order_lem : (a : Adapter) (port : ℕ) (body : List ℕ) → InOrder a port body → reaction a (frame port body) ≡ requested (counted a) (information_of body)
unfolding reaction on_frame addressed carried numbered
in_order_lem a port body i =
    simp (i.addressed, i.no_connect, i.no_reset, i.no_test, i.even, i.not_looped, eq-eqb _ _ i.active, i.eight, eq-eqb _ _ i.number)
