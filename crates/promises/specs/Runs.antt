-- DEMAND 3. A run is any list of calls. On one side stand the calls as they are made, each handed what the last one left (`Calls`); on
-- the other the demand's own text over the chip of demand 2 alone, which knows no journal (`refusal`, `keeps`, `state_after`, `due`).
-- `Demand3` says of the calls what the demand says of a run, a field for each of its sentences.
use Rattle.std.specs.Prelude.{ℕ, ◌+◌, ◌-◌, ◌≤◌, ◌<◌, ◌^◌, min, ◌≡◌, Bool, true, false, not, cond, ◌&&◌, ◌||◌, length, drop, get_or, eqb, ltb, leb}
use mathlib.Core.List.{List, [], ◌∷◌, ◌++◌, foldl, flatten}
use Rattle.numbers.specs.Numbers as number
use Rattle.parts.specs.Parts.{put}
use Rattle.state.specs.State.{Adapter, power_on}
use Rattle.chip.specs.Answer.{Reaction, front_length, laid}
use Rattle.chip.specs.Event.{Completion, spi, i2c, Event, frame, completion, sample, upset}
use Rattle.chip.specs.Chip.{reaction, accepted_reset}
use Rattle.journal.specs.Layout.{slots_of, wrong_length}
use Rattle.adapter.specs.Answers.{KeptNumber}
use Rattle.adapter.specs.Refusals.{wrong_argument, wrong_body}
use Rattle.batch.specs.declared.Sample.{Sample}
use Rattle.batch.specs.Batch.{Batch}
use Rattle.batch.specs.Batch.{event_of, wrong_list}
use Rattle.batch.specs.Batch as batches

-- ---- the calls

-- an event with its arguments and the bytes of the output that is lent to it; a batch of pin samples, with its output; a step back; the emptying call;
-- the enlarging call, with the bytes of its second buffer
pub data Call : Type 0 where
  event : (e : Event) (output : List ℕ) → Call
  batch : (list : List Sample) (output : List ℕ) → Call
  back : Call
  empty : Call
  enlarge : (second : List ℕ) → Call

abbrev pub is_enlarging : Call → Bool
is_enlarging (event e output) = false
is_enlarging (batch list output) = false
is_enlarging back = false
is_enlarging empty = false
is_enlarging (enlarge second) = true

-- What a call gives, and the output's bytes afterwards. A batch alone gives how many frames it sent, and a sum; with any other call both are 0. A step
-- back, an emptying and an enlarging are lent no output: the second buffer of the last is the journal from then on, or as it was (`enlarge_unchanged`).
pub record Given : Type 0 where
  pub number : ℕ
  pub port : ℕ
  pub length : ℕ
  pub frames : ℕ
  pub sum : ℕ
  pub output : List ℕ

-- An adapter as its calls show it.
pub record Calls : Type 1 where
  -- an adapter and a journal, which each call is handed and leaves
  pub Pair : Type 0
  -- a new adapter of this chip ID, and these bytes made empty
  pub start : ℕ → List ℕ → Pair
  pub gives : Pair → Call → Given
  pub leaves : Pair → Call → Pair
  -- registers, SEU counter, numbers, port, loopback, any open transfer and the ID
  pub state : Pair → Adapter
  -- what the call for the kept number gives
  pub kept : Pair → KeptNumber

-- What every value of the language has, and the definitions' numbers need not: a byte is below 256, levels are 32 bits.
abbrev pub CompletionOfTypes : Completion → Type 0
CompletionOfTypes (spi received) = (i : ℕ) → get_or received i 0 < 256
CompletionOfTypes (i2c channel acknowledge lineLow received) = (i : ℕ) → get_or received i 0 < 256

abbrev pub EventOfTypes : Event → Type 0
EventOfTypes (frame port body) = (i : ℕ) → get_or body i 0 < 256
EventOfTypes (completion c) = CompletionOfTypes c
EventOfTypes (sample levels kind) = levels < 2 ^ 32
EventOfTypes upset = Unit

abbrev pub SamplesOfTypes : List Sample → Type 0
SamplesOfTypes [] = Unit
SamplesOfTypes (x ∷ list) = EventOfTypes (event_of x) × SamplesOfTypes list

abbrev pub OfItsTypes : Call → Type 0
OfItsTypes (event e output) = EventOfTypes e
OfItsTypes (batch list output) = SamplesOfTypes list
OfItsTypes back = Unit
OfItsTypes empty = Unit
OfItsTypes (enlarge second) = Unit

abbrev pub AllOfTheirTypes : List Call → Type 0
AllOfTheirTypes [] = Unit
AllOfTheirTypes (c ∷ cs) = OfItsTypes c × AllOfTheirTypes cs

-- any chip ID, any bytes of a journal's length made empty (17,408 or 52,224: `any_17408`, `any_52224`, `no_other_length`), any calls
pub record Run : Type 0 where
  pub id : ℕ
  pub id_fits : id ≤ number.id_most
  pub bytes : List ℕ
  pub size : wrong_length bytes ≡ false
  pub calls : List Call
  pub typed : AllOfTheirTypes calls

-- "Start from a new adapter with an empty journal, hand each call the pair that the last one left, and let nobody else write either." Document 02: "the
-- enlarging call may come anywhere in its run, the second buffer being the journal from then on".
abbrev pub left : (c : Calls) → Run → c.Pair
left c r = foldl c.leaves (c.start r.id r.bytes) r.calls

-- ---- the demand's text

-- the number that refuses an event because of its arguments, in document 01's order 1, 3, 2; 0 where it is not refused
abbrev pub refusal : Event → List ℕ → ℕ
refusal e output =
    cond (ltb (length output) number.output_least) number.short_output
    (cond (wrong_argument e) number.bad_argument
    (cond (wrong_body e) number.bad_body 0))

abbrev pub refused : Event → List ℕ → Bool
refused e output = not (eqb (refusal e output) 0)

-- and a batch: document 02's order 1, 3
abbrev pub batch_refusal : List Sample → List ℕ → ℕ
batch_refusal list output =
    cond (ltb (length output) number.batch_least) number.short_output
    (cond (wrong_list list) number.bad_argument 0)

abbrev pub batch_refused : List Sample → List ℕ → Bool
batch_refused list output = not (eqb (batch_refusal list output) 0)

-- the standing events, "not refused, not taken back", the newest first; the kept number, and how far it goes up, by the journal's size
pub record Standing : Type 0 where
  pub events : List Event
  pub number : ℕ
  pub most : ℕ

-- "that number is zero at the start,
abbrev pub at_start : ℕ → Standing
at_start most = record { events = []; number = 0; most = most }

-- after the emptying call and after an accepted RESET, goes up by one with each other event not refused, to at most 64, [200 for version 2,]
abbrev pub keeps_event : Standing → Event → Standing
keeps_event s e = record { events = e ∷ s.events; number = cond (accepted_reset e) 0 (min s.most (s.number + 1)); most = s.most }

-- [each sample of a batch is an event of its own,]
abbrev pub keeps_sample : Standing → Sample → Standing
keeps_sample s x = keeps_event s (event_of x)

-- the enlarging call's refusals, in document 02's order: "a large journal given for enlarging is 4; a second buffer not of 52,224 bytes is 1, after 4"
abbrev pub enlarge_refusal : Standing → List ℕ → ℕ
enlarge_refusal s second =
    cond (not (eqb s.most 64)) number.bad_journal
    (cond (not (eqb (length second) 52224)) number.short_output 0)

abbrev pub enlarge_refused : Standing → List ℕ → Bool
enlarge_refused s second = not (eqb (enlarge_refusal s second) 0)

-- and down by one with each step granted"; "a step back takes back the newest standing event; it is refused, taking nothing back, exactly when the
-- kept number is zero"; enlarging leaves "the kept number staying as it was". 64 and 200 are the slots of the two sizes (`slots_64`, `slots_200`).
abbrev pub keeps : Standing → Call → Standing
keeps s (event e output) = cond (refused e output) s (keeps_event s e)
keeps s (batch list output) = cond (batch_refused list output) s (foldl keeps_sample s list)
keeps s back = cond (eqb s.number 0) s (record { events = drop 1 s.events; number = s.number - 1; most = s.most })
keeps s empty = record { events = s.events; number = 0; most = s.most }
keeps s (enlarge second) = cond (enlarge_refused s second) s (record { events = s.events; number = s.number; most = 200 })

abbrev pub standing : Run → Standing
standing r = foldl keeps (at_start (slots_of r.bytes)) r.calls

-- the state of "a run of only the standing events"
abbrev pub state_after : ℕ → List Event → Adapter
state_after id [] = power_on id
state_after id (e ∷ es) = (reaction (state_after id es) e).adapter

abbrev pub due_state : Run → Adapter
due_state r = state_after r.id (standing r).events

-- a number alone, the output as it came
abbrev pub bare : ℕ → List ℕ → Given
bare n output = record { number = n; port = 0; length = 0; frames = 0; sum = 0; output = output }

-- the chip's answer, its frames in the output
abbrev pub answered : Reaction → List ℕ → Given
answered r output =
    record { number = r.number; port = r.port; length = front_length r.frames; frames = 0; sum = 0; output = laid r.frames output }

-- "the one due" to an event that happens to a state
abbrev pub due : Adapter → Event → List ℕ → Given
due a e output = cond (refused e output) (bare (refusal e output) output) (answered (reaction a e) output)

-- The frames due to samples given one by one: to each after those before it.
abbrev pub due_frames : Adapter → List Sample → List (List ℕ)
due_frames a [] = []
due_frames a (x ∷ list) = let r = reaction a (event_of x) in r.frames ++ due_frames r.adapter list

-- a batch's answer, with the output's bytes
abbrev pub batch_given : Batch → List ℕ → Given
batch_given b output =
    record { number = b.number; port = b.port; length = b.length; frames = b.frames; sum = b.sum; output = output }

-- "the one due" to a batch: the answer for these frames, on the active port, and the frames one behind the other in the output
abbrev pub due_batch : Adapter → List Sample → List ℕ → Given
due_batch a list output =
    let frames = due_frames a list in
    cond (batch_refused list output) (bare (batch_refusal list output) output)
    (batch_given (batches.answered a.link.port frames) (put 0 (flatten frames) output))

-- "the one due" to an enlarging
abbrev pub due_enlarging : Standing → List ℕ → Given
due_enlarging s second = cond (enlarge_refused s second) (bare (enlarge_refusal s second) []) (bare number.no_frame [])

-- ---- the promise

-- A call is refused when it gives 1 to 10, or one of document 02's 31 to 35.
abbrev pub is_refusal : ℕ → Bool
is_refusal n = leb 1 n && leb n 10 || leb 31 n && leb n 35

abbrev pub refuses : Given → Bool
refuses g = is_refusal g.number

-- the output lent to a call
abbrev pub lent : Call → List ℕ
lent (event e output) = output
lent (batch list output) = output
lent back = []
lent empty = []
lent (enlarge second) = []

pub record Demand3 (c : Calls) : Type 0 where
  -- "Then no event and no step back gives 4 or 6: what our own calls left is never refused as damaged." Nor does a batch or an emptying.
  pub undamaged : (r : Run) (k : Call) → is_enlarging k ≡ false
      → ((c.gives (left c r) k).number ≡ number.bad_journal → ⊥) × ((c.gives (left c r) k).number ≡ number.bad_state → ⊥)
  -- "After any run of events and steps back, registers, SEU counter, numbers, port, loopback and any open transfer are those of a run of
  -- only the standing events: not refused, not taken back."
  pub state : (r : Run) → c.state (left c r) ≡ due_state r
  -- "Each event's reply is the one due after the events standing at that moment." Number, port, length and every output byte.
  pub reply : (r : Run) (e : Event) (output : List ℕ) → c.gives (left c r) (event e output) ≡ due (due_state r) e output
  -- Of a batch, the replies due to its samples, each after those before it.
  pub batch_reply : (r : Run) (list : List Sample) (output : List ℕ) → c.gives (left c r) (batch list output) ≡ due_batch (due_state r) list output
  -- "A step back takes back the newest standing event;
  pub takes_back : (r : Run) → ((c.kept (left c r)).kept ≡ 0 → ⊥)
      → (c.gives (left c r) back ≡ bare number.no_frame []) × (c.state (c.leaves (left c r) back) ≡ state_after r.id (drop 1 (standing r).events))
  -- it is refused, taking nothing back, exactly when the kept number is zero;
  pub refused_at_zero : (r : Run) → (c.kept (left c r)).kept ≡ 0
      → (c.gives (left c r) back ≡ bare number.none_kept []) × (c.leaves (left c r) back ≡ left c r)
  -- that number is zero at the start, after the emptying call and after an accepted RESET, goes up by one with each other event not
  -- refused, to at most 64, and down by one with each step granted." Document 02: "Demand 3 reads with 200 for version 2." (`up_to_64`, `up_to_200`)
  pub kept : (r : Run) → c.kept (left c r) ≡ record { number = number.no_frame; kept = (standing r).number }
  -- The emptying call is not refused.
  pub empties : (r : Run) → c.gives (left c r) empty ≡ bare number.no_frame []
  -- The enlarging call is refused as document 02 says, and in no other case.
  pub enlarges : (r : Run) (second : List ℕ) → c.gives (left c r) (enlarge second) ≡ due_enlarging (standing r) second
  -- Demand 1, along the run: "A refused call [..] changes no state, no journal byte and no output byte."
  pub unchanged : (r : Run) (k : Call) → refuses (c.gives (left c r) k) ≡ true
      → (c.leaves (left c r) k ≡ left c r) × ((c.gives (left c r) k).output ≡ lent k)
