-- The words of a batch's promises: its samples given by single calls, the bodies that stand in an output, the lines that fire.
use Rattle.std.specs.Prelude.{ℕ, zero, suc, ◌+◌, ◌&&◌, cond, take, drop, replicate, eqb}
use mathlib.Core.List.{List, [], ◌∷◌, ◌++◌, foldl}
use Rattle.std.specs.Int.Count.{ones}
use Rattle.numbers.specs.Numbers.{has_frame, reply_bytes, output_least}
use Rattle.commands.specs.declared.channel.Channel.TheVariants.{Gpio}
use Rattle.registers.specs.Pins.{datain_after, firing_lines, interrupts}
use Rattle.channels.specs.Rows.{is_enabled}
use Rattle.state.specs.State.{Adapter}
use Rattle.chip.specs.Chip.{reaction}
use Rattle.adapter.specs.Answers.{Answer}
use Rattle.adapter.specs.Calls.{called}
use Rattle.batch.specs.declared.Sample.{Sample}
use Rattle.batch.specs.Batch.{event_of, Course, outset}

-- ---- "the samples given one by one"

-- the body that a single call leaves at the front of its output
abbrev pub body_of : Answer → List ℕ → List (List ℕ)
body_of answer output = cond (eqb answer.number has_frame) (take answer.length output ∷ []) []

-- one call more, with an output of 16 bytes
unfoldable pub singly : Course → Sample → Course
singly c x =
    let y = called c.state c.journal (event_of x) (replicate output_least 0) in
    record { state = y.state; journal = y.journal; bodies = c.bodies ++ body_of y.answer y.output }

abbrev pub by_single_calls : List ℕ → List ℕ → List Sample → Course
by_single_calls s journal list = foldl singly (outset s journal) list

-- ---- "frames sent, in order, in one output of up to 256 bodies of ten bytes"

unfoldable pub bodies_in : ℕ → List ℕ → List (List ℕ)
bodies_in zero output = []
bodies_in (suc n) output = take reply_bytes output ∷ bodies_in n (drop reply_bytes output)

-- ---- "the sum of firing lines over the interrupts"

-- a sample's: the lines that fire, where an interrupt goes out
abbrev pub firing_at : Adapter → Sample → ℕ
firing_at a x =
    cond (is_enabled a.registers Gpio && interrupts a.registers x.levels x.kind)
    (ones (firing_lines a.registers (datain_after a.registers x.levels x.kind))) 0

unfoldable pub firing_in : Adapter → List Sample → ℕ
firing_in a [] = 0
firing_in a (x ∷ list) = firing_at a x + firing_in (reaction a (event_of x)).adapter list
