-- What a call of the receiver gives, as document 01 has it: the receiver, the number, the bits consumed, and the length of a body.
use Rattle.std.specs.Prelude.{ℕ, Result, Ok, Err}
use Rattle.numbers.specs.Numbers as number
use Rattle.numbers.specs.Answers.{refusal_number, drop_number}
use Rattle.receiver.specs.declared.Receiver.{Receiver}
use Rattle.receiver.specs.declared.Reception.{Reception}
use Rattle.receiver.specs.declared.NoBody.{NoBody}
use Rattle.receiver.specs.declared.NoBody.TheVariants.{Refused, Dropped, NoFrame}

pub record Received : Type 0 where
  pub rx : Receiver
  pub number : ℕ
  pub consumed : ℕ
  pub length : ℕ

-- the paper's number for each reason
abbrev pub no_body_number : NoBody → ℕ
no_body_number (Refused r) = refusal_number r
no_body_number (Dropped d) = drop_number d
no_body_number NoFrame = number.no_frame

abbrev pub answer_number : Result ℕ NoBody → ℕ
answer_number (Ok n) = number.has_frame
answer_number (Err e) = no_body_number e

abbrev pub answer_length : Result ℕ NoBody → ℕ
answer_length (Ok n) = n
answer_length (Err e) = 0

abbrev pub received_of : Reception → Received
received_of r = record { rx = r.rx; number = answer_number r.answer; consumed = r.consumed; length = answer_length r.answer }
