-- A refusal, and why a frame was dropped, by the number: no two have one.
use Rattle.std.proofs.Common.{◌≡◌, ℕ, ◌<◌, cond, eqb, refl, sym, ap, ◌∙◌, arith}
use Rattle.numbers.specs.Numbers as number
use Rattle.numbers.specs.Answers.{refusal_number, drop_number}
use Rattle.numbers.specs.declared.Refusal.{Refusal}
use Rattle.numbers.specs.declared.Refusal.TheVariants.{ShortOutput, BadBody, BadArgument, BadJournal, NoneKept, BadState, BadId, LongInput, BadStart}
use Rattle.numbers.specs.declared.Refusal.TheVariants.{Unreadable, AllOpen, NoMatch, BadReply, NoCommand}
use Rattle.numbers.specs.declared.Dropped.{Dropped}
use Rattle.numbers.specs.declared.Dropped.TheVariants.{LongContent, BrokenContent, WrongFcs, Aborted}

abbrev pub refusal_of : ℕ → Refusal
refusal_of n =
    cond (eqb n number.short_output) ShortOutput
    (cond (eqb n number.bad_body) BadBody
    (cond (eqb n number.bad_argument) BadArgument
    (cond (eqb n number.bad_journal) BadJournal
    (cond (eqb n number.none_kept) NoneKept
    (cond (eqb n number.bad_state) BadState
    (cond (eqb n number.bad_id) BadId
    (cond (eqb n number.long_input) LongInput
    (cond (eqb n number.bad_start) BadStart
    (cond (eqb n number.unreadable) Unreadable
    (cond (eqb n number.all_open) AllOpen
    (cond (eqb n number.no_match) NoMatch
    (cond (eqb n number.bad_reply) BadReply NoCommand))))))))))))

pub refusal_back : (r : Refusal) → refusal_of (refusal_number r) ≡ r
refusal_back ShortOutput = refl
refusal_back BadBody = refl
refusal_back BadArgument = refl
refusal_back BadJournal = refl
refusal_back NoneKept = refl
refusal_back BadState = refl
refusal_back BadId = refl
refusal_back LongInput = refl
refusal_back BadStart = refl
refusal_back Unreadable = refl
refusal_back AllOpen = refl
refusal_back NoMatch = refl
refusal_back BadReply = refl
refusal_back NoCommand = refl

pub refusal_same : (r s : Refusal) → refusal_number r ≡ refusal_number s → r ≡ s
refusal_same r s e = sym (refusal_back r) ∙ ap refusal_of e ∙ refusal_back s

pub refusal_some : (r : Refusal) → 0 < refusal_number r
refusal_some ShortOutput = omega arith
refusal_some BadBody = omega arith
refusal_some BadArgument = omega arith
refusal_some BadJournal = omega arith
refusal_some NoneKept = omega arith
refusal_some BadState = omega arith
refusal_some BadId = omega arith
refusal_some LongInput = omega arith
refusal_some BadStart = omega arith
refusal_some Unreadable = omega arith
refusal_some AllOpen = omega arith
refusal_some NoMatch = omega arith
refusal_some BadReply = omega arith
refusal_some NoCommand = omega arith

abbrev pub drop_of : ℕ → Dropped
drop_of n =
    cond (eqb n number.long_content) LongContent
    (cond (eqb n number.broken_content) BrokenContent
    (cond (eqb n number.wrong_fcs) WrongFcs Aborted))

pub drop_back : (d : Dropped) → drop_of (drop_number d) ≡ d
drop_back LongContent = refl
drop_back BrokenContent = refl
drop_back WrongFcs = refl
drop_back Aborted = refl
