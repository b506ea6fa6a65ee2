-- What an inner function's contract cites, and no promise: all that an event leaves, as code has it.
use Rattle.std.specs.Prelude.{ℕ, List, Result, Ok, Err}
use Rattle.numbers.specs.Numbers.{has_frame}
use Rattle.numbers.specs.Answers.{silence_number}
use Rattle.numbers.specs.declared.Silence.{Silence}
use Rattle.link.specs.declared.Link.{Link}
use Rattle.chip.specs.declared.Frame.{Frame}
use Rattle.chip.specs.declared.Response.{Response as Given}
use Rattle.chip.specs.Answer.{Reaction, Response, response, laid}

-- the link in the response, the registers and the output where they stand
pub record Said : Type 0 where
  pub response : Response
  pub registers : List ℕ
  pub output : List ℕ

-- the paper's number for a frame, and for each reason that there is none
abbrev pub answer_number : Result Frame Silence → ℕ
answer_number (Ok f) = has_frame
answer_number (Err s) = silence_number s

-- the frame's port and length, both 0 where there is none
abbrev pub answer_port : Result Frame Silence → ℕ
answer_port (Ok f) = f.port
answer_port (Err s) = 0

abbrev pub answer_length : Result Frame Silence → ℕ
answer_length (Ok f) = f.length
answer_length (Err s) = 0

abbrev pub answered : Given → Response
answered r = record { link = r.link; number = answer_number r.answer; port = answer_port r.answer; length = answer_length r.answer }

-- as code leaves them
abbrev pub said : Given → List ℕ → List ℕ → Said
said r registers output = record { response = answered r; registers = registers; output = output }

-- as they are due
abbrev pub says : Reaction → List ℕ → Said
says r output = record { response = response r; registers = r.adapter.registers; output = laid r.frames output }

-- with a frame of so many bytes, and without one
abbrev pub sent : Link → ℕ → ℕ → Given
sent l port n = record { link = l; answer = Ok (record { port = port; length = n }) }

abbrev pub given : Link → Silence → Given
given l s = record { link = l; answer = Err s }
