-- The laws of reading a line: how long each form is. Assumes nothing.
use Rattle.std.proofs.Common.{◌≡◌, ℕ, ◌≤◌, ◌<◌, List, length, arith, Some, None}
use Rattle.std.proofs.lemmas.Grind.{common_steps}
use Rattle.listing.specs.declared.Form.TheVariants.{Frame, Completion, Sample, I2c}
use Rattle.listing.specs.Line.{is_frame, is_completion, is_sample, is_i2c, is_letter, form_of}

pub frame_length : (l : List ℕ) → form_of l ≡ Some Frame → (6 ≤ length l) × (length l ≤ 80)
unfolding form_of is_frame
frame_length l e = (grind (arith, common_steps), grind (arith, common_steps))

pub completion_length : (l : List ℕ) → form_of l ≡ Some Completion → length l ≡ 34
unfolding form_of is_completion
completion_length l e = grind (arith, common_steps)

pub sample_length : (l : List ℕ) → form_of l ≡ Some Sample → length l ≡ 12
unfolding form_of is_sample
sample_length l e = grind (arith, common_steps)

pub i2c_length : (l : List ℕ) → form_of l ≡ Some I2c → (8 ≤ length l) × (length l ≤ 80)
unfolding form_of is_i2c
i2c_length l e = (grind (arith, common_steps), grind (arith, common_steps))

pub long_unreadable : (l : List ℕ) → 80 < length l → form_of l ≡ None
unfolding form_of is_frame is_completion is_sample is_i2c is_letter
long_unreadable l h = grind (arith, common_steps)
