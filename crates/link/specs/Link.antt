-- The link alone: its two numbers, its control field, and its two ports.
use Rattle.std.specs.Prelude.{ℕ, ◌+◌, ◌*◌, ◌/◌, ◌%◌, ◌≡◌, Bool, true, false, ◌||◌, cond, eqb, Option, Some, None}
use Rattle.bits.specs.Bits.{bit_of}
use Rattle.link.specs.declared.Link.{Link}
use Rattle.link.specs.declared.LinkCommand.{LinkCommand}
use Rattle.link.specs.declared.LinkCommand.TheVariants.{Connect, Reset, Test}
use Rattle.link.specs.declared.Port.{Port}

-- ---- a send number and a receive number, each 0 to 7, counted apart

abbrev pub send_number : Link → ℕ
send_number l = l.send.0 % 8

abbrev pub receive_number : Link → ℕ
receive_number l = l.receive.0 % 8

-- up by one modulo 8
abbrev pub send_up : Link → Link
send_up l =
    record {
      send = record { 0 = (send_number l + 1) % 8 };
      receive = l.receive;
      port = l.port;
      primary = l.primary;
      auxiliary = l.auxiliary;
    }

abbrev pub receive_up : Link → Link
receive_up l =
    record {
      send = l.send;
      receive = record { 0 = (receive_number l + 1) % 8 };
      port = l.port;
      primary = l.primary;
      auxiliary = l.auxiliary;
    }

-- ---- the control field

-- bits 3 to 1 of an incoming control
abbrev pub number_in : ℕ → ℕ
number_in control = control / 2 % 8

-- twice the send number plus 32 times the receive number
abbrev pub packed : ℕ → ℕ → ℕ
packed send receive = 2 * send + 32 * receive

-- a reply's or an interrupt's
abbrev pub reply_control : Link → ℕ
reply_control l = packed (send_number l) (receive_number l)

-- SREJ's: 0x0D plus 32 times the receive number
abbrev pub reject_control : Link → ℕ
reject_control l = 0x0D + 32 * receive_number l

-- an acknowledgement's: 0x63, or 0x73 when bit 4 of the command was set
abbrev pub acknowledge_control : ℕ → ℕ
acknowledge_control control = cond (bit_of control 4) 0x73 0x63

-- the commands, without and with bit 4
abbrev pub is_connect : ℕ → Bool
is_connect control = eqb control 0x2F || eqb control 0x3F

abbrev pub is_reset : ℕ → Bool
is_reset control = eqb control 0x8F || eqb control 0x9F

abbrev pub is_test : ℕ → Bool
is_test control = eqb control 0xE3 || eqb control 0xF3

-- the command that a control is
abbrev pub command_in : ℕ → Option LinkCommand
command_in control = cond (is_connect control) (Some Connect) (cond (is_reset control) (Some Reset) (cond (is_test control) (Some Test) None))

-- what each says of it: no control is two
abbrev pub Names : LinkCommand → ℕ → Type 0
Names Connect control = is_connect control ≡ true
Names Reset control = (is_connect control ≡ false) × (is_reset control ≡ true)
Names Test control = (is_connect control ≡ false) × (is_reset control ≡ false) × (is_test control ≡ true)

abbrev pub NoCommand : ℕ → Type 0
NoCommand control = (is_connect control ≡ false) × (is_reset control ≡ false) × (is_test control ≡ false)

-- ---- the ports: 0 primary, 1 auxiliary

abbrev pub looping : Port
looping = record { loopback = true }

abbrev pub not_looping : Port
not_looping = record { loopback = false }

-- this port active, both numbers 0, no loopback on either port
abbrev pub fresh_link : ℕ → Link
fresh_link port =
    record { send = record { 0 = 0 }; receive = record { 0 = 0 }; port = port; primary = not_looping; auxiliary = not_looping }

-- this port in loopback, the other as it was
abbrev pub looped_at : Link → ℕ → Link
looped_at l port =
    record {
      send = l.send;
      receive = l.receive;
      port = l.port;
      primary = cond (eqb port 0) looping l.primary;
      auxiliary = cond (eqb port 0) l.auxiliary looping;
    }

abbrev pub in_loopback : Link → ℕ → Bool
in_loopback l port = cond (eqb port 0) l.primary.loopback l.auxiliary.loopback
