-- What requests to all channels have in common.
use Rattle.std.specs.Prelude.{ℕ}
use Rattle.commands.specs.declared.request.Fault.{Fault}
use Rattle.commands.specs.declared.request.Fault.TheVariants.{TrnWrong, ChUnknown, NotEnabled, Busy, CmdUnknown, LenWrong}
use Rattle.commands.specs.declared.request.Reply.{Reply}

-- no request's TRN is one of these; the second is an interrupt's
abbrev pub no_transaction : ℕ
no_transaction = 0x00

abbrev pub interrupt_transaction : ℕ
interrupt_transaction = 0xFF

-- Table 4.2. One error bit is set, the first that applies, in this order.
abbrev pub trn_wrong : ℕ
trn_wrong = 0x08

abbrev pub ch_unknown : ℕ
ch_unknown = 0x02

abbrev pub not_enabled : ℕ
not_enabled = 0x20

abbrev pub busy : ℕ
busy = 0x40

abbrev pub cmd_unknown : ℕ
cmd_unknown = 0x04

abbrev pub len_wrong : ℕ
len_wrong = 0x10

abbrev pub fault_bit : Fault → ℕ
fault_bit TrnWrong = trn_wrong
fault_bit ChUnknown = ch_unknown
fault_bit NotEnabled = not_enabled
fault_bit Busy = busy
fault_bit CmdUnknown = cmd_unknown
fault_bit LenWrong = len_wrong

-- an error reply has LEN 2 and zero data
abbrev pub refusal : ℕ → Reply
refusal error = record { error = error; length = 2; value = 0 }

-- a reply without an error
abbrev pub granted : ℕ → ℕ → Reply
granted length value = record { error = 0; length = length; value = value }
