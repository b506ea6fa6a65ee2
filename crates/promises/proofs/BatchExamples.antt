-- A BATCH WORKED OUT BY HAND, and the wrong batches that demand 3 shuts out: one that stops at its first frame, one that keeps one record for all, one
-- that counts lines fired with INTENABLE 0. Assumes nothing.
use Prim.Native.Nat.{ℕ, ◌+◌, ◌≤◌}
use mathlib.Core.Path.{◌≡◌, refl, sym, ap, subst, ◌∙◌}
use mathlib.Core.Bool.{false, cond}
use mathlib.Core.List.{List, [], ◌∷◌, ◌++◌, flatten}
use native.Mathlib.Omega.{arith}
use lib.Count.{ones_in, ones, ones_cat}
use lib.Dec.{eqb, lit<}
use lib.ListN.{length, take, replicate, length-replicate}
use borrow.Author.Tests.{le-ltb}
use Rattle.bits.specs.Bits.{word}
use Rattle.bits.proofs.Tests.{either}
use Rattle.commands.specs.Channels.{channel_of}
use Rattle.commands.specs.Command.{code_of}
use Rattle.registers.specs.Registers.{bank, read, store, zeroed}
use Rattle.registers.specs.Pins.{interrupts, sampled, datain_after, firing_lines}
use Rattle.channels.specs.Rows.{master_control, master_bit, held, held_all}
use Rattle.channels.specs.Errors.{decoded}
use Rattle.channels.specs.Perform.{marked, replied, performed}
use Rattle.parts.specs.Parts.{part, put}
use Rattle.parts.specs.Digits.{number, digits}
use Rattle.packets.specs.Packets.{data_of}
use Rattle.state.specs.State.{Adapter, powered_on}
use Rattle.state.specs.Bytes.{state_in}
use Rattle.chip.specs.Request.{replies, requested}
use Rattle.chip.specs.Frame.{is_reset_frame, commanded, numbered, carried, addressed, on_frame}
use Rattle.chip.specs.Chip.{reaction, on_sample}
use Rattle.batch.specs.declared.Sample.{Sample}
use Rattle.batch.specs.Batch.{event_of, lines_in, some_wrong, wrong_list}
use Rattle.promises.specs.Runs.{Call, event, batch, back, empty, enlarge, Given, Calls, SamplesOfTypes, AllOfTheirTypes, Run, left, batch_refused}
use Rattle.promises.specs.Runs.{due_state, due_frames, due_batch, Demand3}
use Rattle.promises.specs.Ours.{Handed, handed, gives_ours, leaves_ours, ours}
use Rattle.promises.specs.Table.{F}
use Rattle.promises.proofs.Examples.{below, words, typed_samples, literal, typed}
use Rattle.promises.proofs.Formats.{slots_64}
use Rattle.promises.proofs.KeptNumber.{kept_rule}
use Rattle.promises.proofs.Runs.{demand3}
use Rattle.promises.proofs.Samples.{its_frames, few_due}
use Rattle.promises.proofs.ShutOut.{zeros, as_long, ran}

-- ---- from a new adapter: CONNECT on port 1, GPIO enabled, then all lines selected, on rising

abbrev selecting : List Call
selecting =
    F 1 (0x00 ∷ 0x2F ∷ [])
    ∷ F 1 (0x00 ∷ 0x00 ∷ 0x01 ∷ 0x00 ∷ 0x04 ∷ 0x02 ∷ 0x00 ∷ 0x04 ∷ 0x00 ∷ 0x00 ∷ [])
    ∷ F 1 (0x00 ∷ 0x02 ∷ 0x02 ∷ 0x02 ∷ 0x04 ∷ 0x30 ∷ 0xFF ∷ 0xFF ∷ 0xFF ∷ 0xFF ∷ [])
    ∷ F 1 (0x00 ∷ 0x04 ∷ 0x03 ∷ 0x02 ∷ 0x04 ∷ 0x40 ∷ 0xFF ∷ 0xFF ∷ 0xFF ∷ 0xFF ∷ [])
    ∷ []

-- and INTENABLE 1 besides
abbrev interrupting : List Call
interrupting = selecting ++ (F 1 (0x00 ∷ 0x06 ∷ 0x04 ∷ 0x02 ∷ 0x04 ∷ 0x60 ∷ 0x00 ∷ 0x00 ∷ 0x01 ∷ 0x00 ∷ []) ∷ [])

-- Lines 0 and 1 rise; nothing changes; a strobe, which no line takes; line 0 falls, lines 16 and 31 rise.
abbrev probe : List Sample
probe =
    record { levels = 0x00000003; kind = 0 }
    ∷ record { levels = 0x00000003; kind = 0 }
    ∷ record { levels = 0x80000001; kind = 1 }
    ∷ record { levels = 0x80010002; kind = 0 }
    ∷ []

pub typed_selecting : AllOfTheirTypes selecting
unfolding literal below
typed_selecting = typed selecting refl

pub typed_interrupting : AllOfTheirTypes interrupting
unfolding literal below
typed_interrupting = typed interrupting refl

abbrev selected : Run
selected = ran selecting typed_selecting

abbrev ready : Run
ready = ran interrupting typed_interrupting

-- CONNECT zeroed the numbers, and four requests came and four replies went after it: control is twice 4, then twice 5, plus 32 times 4.
abbrev first : List ℕ
first = 0x00 ∷ 0x88 ∷ 0xFF ∷ 0x02 ∷ 0x00 ∷ 0x04 ∷ 0x00 ∷ 0x00 ∷ 0x03 ∷ 0x00 ∷ []

abbrev second : List ℕ
second = 0x00 ∷ 0x8A ∷ 0xFF ∷ 0x02 ∷ 0x00 ∷ 0x04 ∷ 0x01 ∷ 0x80 ∷ 0x00 ∷ 0x00 ∷ []

two_frames : due_frames (due_state ready) probe ≡ first ∷ second ∷ []
unfolding
    reaction on_frame addressed commanded carried numbered requested replied performed decoded replies on_sample powered_on is_reset_frame put
    channel_of code_of read store zeroed held held_all interrupts sampled datain_after firing_lines word part number digits bank master_control master_bit marked
two_frames = refl

port_1 : (due_state ready).link.port ≡ 1
unfolding
    reaction on_frame addressed commanded carried numbered requested replied performed decoded replies on_sample powered_on is_reset_frame put
    channel_of code_of read store zeroed held held_all interrupts sampled datain_after firing_lines word part number digits bank master_control master_bit marked
port_1 = refl

-- the ones in 3 and in 0x80010000
one : ones 1 ≡ 1
unfolding ones ones_in
one = refl

none : ones 0 ≡ 0
unfolding ones ones_in
none = refl

two_low : ones (data_of first) ≡ 2
two_low = ones_cat 1 1 1 (lit< tt) ∙ rw one refl

two_high : ones (data_of second) ≡ 2
two_high = ones_cat 31 1 0x10000 (lit< tt) ∙ ap (λ (n : ℕ). ones 1 + n) (ones_cat 16 1 0 (lit< tt)) ∙ rw (one, none) refl

four_lines : lines_in (first ∷ second ∷ []) ≡ 4
unfolding lines_in
four_lines = omega (arith, two_low, two_high)

right_kinds : wrong_list probe ≡ false
unfolding some_wrong
right_kinds = refl

pub worked : (c : Calls) → Demand3 c → (o : List ℕ) → 2560 ≤ length o
    → c.gives (left c ready) (batch probe o)
    ≡ record { number = 0; port = 1; length = 10; frames = 2; sum = 4; output = put 0 (first ++ second) o }
unfolding flatten
worked c d o h = d.batch_reply ready probe o ∙ rw (le-ltb (length o) 2560 h, right_kinds, port_1, two_frames, four_lines) refl

-- ---- what no calls can do that meet the demand

abbrev room : List ℕ
room = replicate 2560 0

roomy : 2560 ≤ length room
roomy = rw (length-replicate {A = ℕ} 2560 0) (omega arith)

abbrev at_start_lem : Run
at_start_lem = ran [] tt

typed_probe : SamplesOfTypes probe
unfolding words
typed_probe = typed_samples probe refl

not_refused : (list : List Sample) → wrong_list list ≡ false → batch_refused list room ≡ false
not_refused list h = rw (le-ltb (length room) 2560 roomy, h) refl

-- INTENABLE 0: line 0 rises, and fires
abbrev rising : Sample
rising = record { levels = 0x00000001; kind = 0 }

silent_frames : due_frames (due_state selected) (rising ∷ []) ≡ []
unfolding
    reaction on_frame addressed commanded carried numbered requested replied performed decoded replies on_sample powered_on is_reset_frame put
    channel_of code_of read store zeroed held held_all interrupts sampled datain_after firing_lines word part number digits bank master_control master_bit marked
silent_frames = refl

kind_0 : wrong_list (rising ∷ []) ≡ false
unfolding some_wrong
kind_0 = refl

module _ (c : Calls) (d : Demand3 c) where
  -- send one frame
  pub stops_early : (c.gives (left c ready) (batch probe room)).frames ≤ 1 → ⊥
  stops_early h = omega (arith, h, ap (λ (g : Given). g.frames) (worked c d room roomy))

  -- keep one record
  pub keeps_one : (c.kept (c.leaves (left c at_start_lem) (batch probe room))).kept ≤ 1 → ⊥
  keeps_one h =
      let up = (kept_rule c d).up_by_samples at_start_lem probe room typed_probe (not_refused probe right_kinds) in
      omega (arith, h, up, slots_64 zeros as_long)

  -- count a line that fires in silence
  pub counts_silence : 1 ≤ (c.gives (left c selected) (batch (rising ∷ []) room)).sum → ⊥
  unfolding lines_in
  counts_silence h =
      let none : (c.gives (left c selected) (batch (rising ∷ []) room)).sum ≡ 0 =
      ap (λ (g : Given). g.sum) (d.batch_reply selected (rising ∷ []) room) ∙ rw (not_refused (rising ∷ []) kind_0, silent_frames) refl in
      omega (arith, h, none)

-- ---- the wrong batches

-- A BATCH THAT STOPS AT ITS FIRST FRAME: ours of the samples up to it.
up_to_frame : Adapter → List Sample → List Sample
up_to_frame a [] = []
up_to_frame a (x ∷ list) =
    let r = reaction a (event_of x) in
    x ∷ cond (eqb (length r.frames) 0) (up_to_frame r.adapter list) []

stopping_gives : Handed → Call → Given
stopping_gives p (event e o) = gives_ours p (event e o)
stopping_gives p (batch list o) = gives_ours p (batch (up_to_frame (state_in p.state) list) o)
stopping_gives p back = gives_ours p back
stopping_gives p empty = gives_ours p empty
stopping_gives p (enlarge second) = gives_ours p (enlarge second)

stopping_leaves : Handed → Call → Handed
stopping_leaves p (event e o) = leaves_ours p (event e o)
stopping_leaves p (batch list o) = leaves_ours p (batch (up_to_frame (state_in p.state) list) o)
stopping_leaves p back = leaves_ours p back
stopping_leaves p empty = leaves_ours p empty
stopping_leaves p (enlarge second) = leaves_ours p (enlarge second)

pub stopping : Calls
stopping =
    record { Pair = Handed; start = ours.start; gives = stopping_gives; leaves = stopping_leaves; state = ours.state; kept = ours.kept }

first_alone : up_to_frame (due_state ready) probe ≡ record { levels = 0x00000003; kind = 0 } ∷ []
unfolding
    up_to_frame reaction on_frame addressed commanded carried numbered requested replied performed decoded replies on_sample powered_on is_reset_frame put
    channel_of code_of read store zeroed held held_all interrupts sampled datain_after firing_lines word part number digits bank master_control master_bit marked
first_alone = refl

one_frame : (a : Adapter) (x : Sample) → (due_batch a (x ∷ []) room).frames ≤ 1
one_frame a x =
    either (λ (g : Given). g.frames ≤ 1) (batch_refused (x ∷ []) room) _ _ (omega arith)
    (rw (its_frames a.link.port (due_frames a (x ∷ []))) (few_due (x ∷ []) a))

stopped : (gives_ours (left ours ready) (batch (up_to_frame (state_in (left ours ready).state) probe) room)).frames ≤ 1
stopped =
    let x : Sample = record { levels = 0x00000003; kind = 0 } in
    let list : up_to_frame (state_in (left ours ready).state) probe ≡ x ∷ [] = ap (λ (a : Adapter). up_to_frame a probe) (demand3.state ready) ∙ first_alone in
    subst (λ (l : List Sample). (gives_ours (left ours ready) (batch l room)).frames ≤ 1) (sym list)
    (subst (λ (g : Given). g.frames ≤ 1) (sym (demand3.batch_reply ready (x ∷ []) room)) (one_frame (due_state ready) x))

pub stops_at_its_first_frame : Demand3 stopping → ⊥
unfolding stopping stopping_gives stopping_leaves
stops_at_its_first_frame d = stops_early stopping d stopped

-- ONE THAT KEEPS ONE RECORD FOR ALL, that of its first sample: a step back would take the whole batch back.
lumping_leaves : Handed → Call → Handed
lumping_leaves p (event e o) = leaves_ours p (event e o)
lumping_leaves p (batch list o) = handed (leaves_ours p (batch list o)).state (leaves_ours p (batch (take 1 list) o)).journal
lumping_leaves p back = leaves_ours p back
lumping_leaves p empty = leaves_ours p empty
lumping_leaves p (enlarge second) = leaves_ours p (enlarge second)

pub lumping : Calls
lumping = record { Pair = Handed; start = ours.start; gives = gives_ours; leaves = lumping_leaves; state = ours.state; kept = ours.kept }

pub keeps_one_record_for_all : Demand3 lumping → ⊥
unfolding lumping lumping_leaves some_wrong words
keeps_one_record_for_all d =
    let up = (kept_rule ours demand3).up_by_samples at_start_lem (take 1 probe) room (typed_samples (take 1 probe) refl) (not_refused (take 1 probe) refl) in
    keeps_one lumping d (omega (arith, up, (kept_rule ours demand3).at_start_lem at_start_lem refl, slots_64 zeros as_long))

-- ONE THAT COUNTS LINES FIRED WITH INTENABLE 0: its sum is that of all lines that fire.
all_firing : Adapter → List Sample → ℕ
all_firing a [] = 0
all_firing a (x ∷ list) =
    ones (firing_lines a.registers (datain_after a.registers x.levels x.kind)) + all_firing (reaction a (event_of x)).adapter list

silent_gives : Handed → Call → Given
silent_gives p (event e o) = gives_ours p (event e o)
silent_gives p (batch list o) =
    let g = gives_ours p (batch list o) in
    record { number = g.number; port = g.port; length = g.length; frames = g.frames; sum = all_firing (state_in p.state) list; output = g.output }
silent_gives p back = gives_ours p back
silent_gives p empty = gives_ours p empty
silent_gives p (enlarge second) = gives_ours p (enlarge second)

pub counting_all : Calls
counting_all = record { Pair = Handed; start = ours.start; gives = silent_gives; leaves = leaves_ours; state = ours.state; kept = ours.kept }

line_0_fires : all_firing (due_state selected) (rising ∷ []) ≡ 1
unfolding
    all_firing reaction on_frame addressed commanded carried numbered requested replied performed decoded replies on_sample powered_on is_reset_frame put
    channel_of code_of read store zeroed held held_all interrupts sampled datain_after firing_lines word part number digits bank master_control master_bit marked
    ones ones_in
line_0_fires = refl

pub counts_lines_fired_in_silence : Demand3 counting_all → ⊥
unfolding counting_all silent_gives
counts_lines_fired_in_silence d =
    let state : state_in (left ours selected).state ≡ due_state selected = demand3.state selected in
    counts_silence counting_all d (rw (state, line_0_fires) (omega arith))
