-- A frame body on a port: document 01's checks 1 to 8, in order.
use Rattle.std.specs.Prelude.{ℕ, Bool, cond, not, ◌&&◌, List, [], ◌∷◌, length, drop, ◌==◌, slice_index}
use Rattle.numbers.specs.Numbers.{other_address, other_port, other_control, bad_information}
use Rattle.packets.specs.Packets.{address}
use Rattle.bits.specs.Bits.{bit_of}
use Rattle.commands.specs.declared.command.Register.TheVariants.{ChipId}
use Rattle.registers.specs.Registers.{read}
use Rattle.state.specs.State.{Adapter, with_link, powered_on}
use Rattle.chip.specs.Answer.{Reaction, sends, gives}
use Rattle.link.specs.Link.{receive_number, receive_up, number_in, reject_control, acknowledge_control, is_connect, is_reset, is_test, fresh_link, looped_at, in_loopback}
use Rattle.chip.specs.Request.{requested}

-- The body is address, control and information.
abbrev pub address_of : List ℕ → ℕ
address_of body = slice_index body 0

abbrev pub control_of : List ℕ → ℕ
control_of body = slice_index body 1

abbrev pub information_of : List ℕ → List ℕ
information_of body = drop 2 body

-- A RESET that every state accepts: the chip's address, RESET's control, no information.
unfoldable pub is_reset_frame : List ℕ → Bool
is_reset_frame body = address_of body == address && is_reset (control_of body) && length (information_of body) == 0

-- CONNECT makes its port active, zeroes both numbers and ends loopback on both ports.
abbrev pub connected : Adapter → ℕ → Adapter
connected a port = with_link a (fresh_link port)

-- RESET does the same and sets all registers and the SEU counter to power-on; the ID stays.
abbrev pub reset : Adapter → ℕ → Adapter
reset a port = powered_on port (read a.registers ChipId)

-- TEST puts its own port in loopback.
abbrev pub looped : Adapter → ℕ → Adapter
looped a port = with_link a (looped_at a.link port)

-- a command's answer, on the same port
abbrev pub acknowledges : Adapter → ℕ → ℕ → Reaction
acknowledges b port control = sends b port (address ∷ acknowledge_control control ∷ [])

-- 2. Information not empty is 14; else the command is done, b being the state after it, and acknowledged.
unfoldable pub commanded : Adapter → Adapter → ℕ → List ℕ → Reaction
commanded a b port body = cond (not (length (information_of body) == 0)) (gives a bad_information) (acknowledges b port (control_of body))

-- the receive number up by one
abbrev pub counted : Adapter → Adapter
counted a = with_link a (receive_up a.link)

-- 7. Bits 3 to 1 of control unlike the receive number: the frame is dropped and SREJ goes out.
-- 8. Else the receive number goes up by one modulo 8 and the request is answered.
unfoldable pub numbered : Adapter → ℕ → ℕ → List ℕ → Reaction
numbered a port control info =
    cond (not (number_in control == receive_number a.link)) (sends a port (address ∷ reject_control a.link ∷ []))
    (requested (counted a) info)

-- 4. A port in loopback sends the body back unchanged; numbers stay.
-- 5. Port not active: 12.
-- 6. Information not 8 bytes: 14.
unfoldable pub carried : Adapter → ℕ → List ℕ → Reaction
carried a port body =
    cond (in_loopback a.link port) (sends a port body)
    (cond (not (port == a.link.port)) (gives a other_port)
    (cond (not (length (information_of body) == 8)) (gives a bad_information)
    (numbered a port (control_of body) (information_of body))))

-- 2. CONNECT, RESET or TEST, on either port.
-- 3. Any other control with bit 0 set: 13.
unfoldable pub addressed : Adapter → ℕ → List ℕ → Reaction
addressed a port body =
    cond (is_connect (control_of body)) (commanded a (connected a port) port body)
    (cond (is_reset (control_of body)) (commanded a (reset a port) port body)
    (cond (is_test (control_of body)) (commanded a (looped a port) port body)
    (cond (bit_of (control_of body) 0) (gives a other_control)
    (carried a port body))))

-- 1. Address not 0x00: 11.
unfoldable pub on_frame : Adapter → ℕ → List ℕ → Reaction
on_frame a port body = cond (not (address_of body == address)) (gives a other_address) (addressed a port body)
