-- What a call gives, as document 02's number and what stands beside it.
use Rattle.std.specs.Prelude.{ℕ, Bool, false, Option, None, Some, Result, Ok, Err}
use Rattle.numbers.specs.Numbers.{has_frame, no_frame}
use Rattle.numbers.specs.declared.Refusal.{Refusal}
use Rattle.numbers.specs.Answers.{refusal_number}
use Rattle.commands.specs.Request.{interrupt_transaction}
use Rattle.control_room.specs.declared as code

-- number, bytes written, whether it is an interrupt
pub record Given : Type 0 where
  pub number : ℕ
  pub length : ℕ
  pub interrupt : Bool

abbrev pub gives : ℕ → ℕ → Bool → Given
gives number length interrupt = record { number = number; length = length; interrupt = interrupt }

-- a refusal comes alone
abbrev pub given_of : Result code.Given.Given Refusal → Given
given_of (Ok g) = gives has_frame g.length g.interrupt
given_of (Err r) = gives (refusal_number r) 0 false

abbrev pub number_after : Result (Unit {0}) Refusal → ℕ
number_after (Ok done) = no_frame
number_after (Err r) = refusal_number r

-- the TRN that the walk for a free one gives, an interrupt's where it finds none
abbrev pub trn_after : Option ℕ → ℕ
trn_after None = interrupt_transaction
trn_after (Some trn) = trn
