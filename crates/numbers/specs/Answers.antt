-- The number of each answer that the code has as a variant.
use Rattle.std.specs.Prelude.{ℕ}
use Rattle.numbers.specs.Numbers.{short_output, bad_body, bad_argument, bad_journal, none_kept, bad_state, bad_id, long_input, bad_start, unreadable}
use Rattle.numbers.specs.Numbers.{all_open, no_match, bad_reply, no_command}
use Rattle.numbers.specs.Numbers.{other_address, other_port, other_control, bad_information, not_busy, lines_disabled, no_frame}
use Rattle.numbers.specs.Numbers.{long_content, broken_content, wrong_fcs, aborted}
use Rattle.numbers.specs.declared.Refusal.{Refusal}
use Rattle.numbers.specs.declared.Refusal.TheVariants.{ShortOutput, BadBody, BadArgument, BadJournal, NoneKept, BadState, BadId, LongInput, BadStart}
use Rattle.numbers.specs.declared.Refusal.TheVariants.{Unreadable, AllOpen, NoMatch, BadReply, NoCommand}
use Rattle.numbers.specs.declared.Silence.{Silence}
use Rattle.numbers.specs.declared.Silence.TheVariants.{OtherAddress, OtherPort, OtherControl, BadInformation, NotBusy, LinesDisabled, NoFrame}
use Rattle.numbers.specs.declared.Dropped.{Dropped}
use Rattle.numbers.specs.declared.Dropped.TheVariants.{LongContent, BrokenContent, WrongFcs, Aborted}

abbrev pub refusal_number : Refusal → ℕ
refusal_number ShortOutput = short_output
refusal_number BadBody = bad_body
refusal_number BadArgument = bad_argument
refusal_number BadJournal = bad_journal
refusal_number NoneKept = none_kept
refusal_number BadState = bad_state
refusal_number BadId = bad_id
refusal_number LongInput = long_input
refusal_number BadStart = bad_start
refusal_number Unreadable = unreadable
refusal_number AllOpen = all_open
refusal_number NoMatch = no_match
refusal_number BadReply = bad_reply
refusal_number NoCommand = no_command

abbrev pub silence_number : Silence → ℕ
silence_number OtherAddress = other_address
silence_number OtherPort = other_port
silence_number OtherControl = other_control
silence_number BadInformation = bad_information
silence_number NotBusy = not_busy
silence_number LinesDisabled = lines_disabled
silence_number NoFrame = no_frame

abbrev pub drop_number : Dropped → ℕ
drop_number LongContent = long_content
drop_number BrokenContent = broken_content
drop_number WrongFcs = wrong_fcs
drop_number Aborted = aborted
