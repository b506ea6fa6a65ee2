-- The numbers that calls give back: document 01, "Numbers given back", and document 02's. A call is refused when it gives 1 to 10 or 31 to 35.
-- Then the sizes of what a call is handed, and of what it writes, as documents 01 and 02 have them.
use Rattle.std.specs.Prelude.{ℕ}

-- A frame was read or sent; or the control room wrote or read a body.
abbrev pub has_frame : ℕ
has_frame = 0

-- The output is under 16 bytes, for the transmitter under 24, for a batch under 2,560; the second buffer of an enlarging is not 52,224.
abbrev pub short_output : ℕ
short_output = 1

-- The body is not 2 to 16 bytes.
abbrev pub bad_body : ℕ
bad_body = 2

-- The port is not 0 or 1, the edge kind is over 2, a completion is not 16 bytes, not of an I2C channel, or over 16 bytes, or a batch is over 256
-- samples.
abbrev pub bad_argument : ℕ
bad_argument = 3

-- The journal's length, mark, version or layout is wrong; one to be enlarged is not small.
abbrev pub bad_journal : ℕ
bad_journal = 4

-- The kept number is 0.
abbrev pub none_kept : ℕ
none_kept = 5

-- A field of the state, of the receiver or of the record of open transactions is out of range.
abbrev pub bad_state : ℕ
bad_state = 6

-- The chip ID is over 0xFFFFFF.
abbrev pub bad_id : ℕ
bad_id = 7

-- The receiver's input is over 65,536 bytes.
abbrev pub long_input : ℕ
long_input = 8

-- The start bit is over 8 times the bytes.
abbrev pub bad_start : ℕ
bad_start = 9

-- The line is not readable.
abbrev pub unreadable : ℕ
unreadable = 10

-- The frame's address is not 0x00.
abbrev pub other_address : ℕ
other_address = 11

-- The port is not the active one.
abbrev pub other_port : ℕ
other_port = 12

-- An unknown control with bit 0 set.
abbrev pub other_control : ℕ
other_control = 13

-- The information is not as long as its frame asks.
abbrev pub bad_information : ℕ
bad_information = 14

-- A completion when not busy.
abbrev pub not_busy : ℕ
not_busy = 15

-- A pin sample with GPIO disabled.
abbrev pub lines_disabled : ℕ
lines_disabled = 16

-- Done, and no frame.
abbrev pub no_frame : ℕ
no_frame = 17

-- The receiver dropped a frame: content over 144 bits.
abbrev pub long_content : ℕ
long_content = 21

-- Content that is not a multiple of 8 bits.
abbrev pub broken_content : ℕ
broken_content = 22

-- A wrong FCS.
abbrev pub wrong_fcs : ℕ
wrong_fcs = 23

-- Seven ones.
abbrev pub aborted : ℕ
aborted = 24

-- A control room's call: no TRN is free, all 254 are open.
abbrev pub all_open : ℕ
all_open = 31

-- A control room's call: the reply matches no open transaction.
abbrev pub no_match : ℕ
no_match = 32

-- A control room's call: the reply's body is not 10 bytes.
abbrev pub bad_reply : ℕ
bad_reply = 33

-- A control room's call: the tables have no such command.
abbrev pub no_command : ℕ
no_command = 35

-- The bytes of the shortest body.
abbrev pub body_least : ℕ
body_least = 2

-- The bytes of the longest body.
abbrev pub body_most : ℕ
body_most = 16

-- The bytes of the body of a request, a reply or an interrupt.
abbrev pub reply_bytes : ℕ
reply_bytes = 10

-- The bytes of the longest frame on the cable, the transmitter's least output.
abbrev pub cable_most : ℕ
cable_most = 24

-- The most bytes of a receiver's input.
abbrev pub input_most : ℕ
input_most = 65536

-- The least output of an event, of a receiver and of the control room's calls.
abbrev pub output_least : ℕ
output_least = 16

-- The most pin samples of a batch.
abbrev pub samples_most : ℕ
samples_most = 256

-- The least output of a batch, however few its samples: room for the most bodies.
abbrev pub batch_least : ℕ
batch_least = 2560

-- The bytes received in an SPI transfer.
abbrev pub transfer_bytes : ℕ
transfer_bytes = 16

-- The most bytes received in an I2C transaction.
abbrev pub i2c_most : ℕ
i2c_most = 16

-- The greatest chip ID.
abbrev pub id_most : ℕ
id_most = 0xFFFFFF
