-- SAMPLES GIVEN ONE BY ONE to a good state: what they leave, and the bodies that they send. Assumes nothing.
use Prim.Native.Nat.{ℕ, ◌+◌, ◌*◌, ◌≤◌, ◌<◌, ◌^◌}
use mathlib.Core.Path.{◌≡◌, refl, sym, ap, ap₂, ◌∙◌}
use mathlib.Core.Bool.{Bool, true, false}
use mathlib.Core.List.{List, [], ◌∷◌, ◌++◌, foldl, flatten, append-nil, append_assoc}
use native.Mathlib.Nat.{mod-eq_of_lt}
use native.Mathlib.Omega.{arith}
use lib.Bits.{and_mask}
use lib.Count.{ones}
use lib.Dec.{eqb}
use lib.ListN.{length, drop, length-append}
use lib.Seq.{take_at, drop_at}
use borrow.Author.Tests.{eqb-true}
use Rattle.bits.proofs.Bits.{word_lt}
use Rattle.bits.proofs.Tests.{cond_cases}
use Rattle.parts.specs.Parts.{put}
use Rattle.commands.specs.declared.channel.Channel.TheVariants.{Gpio}
use Rattle.commands.specs.declared.command.Register.TheVariants.{Datain, Ints}
use Rattle.commands.specs.Request.{interrupt_transaction}
use Rattle.registers.specs.Registers.{size, read, store}
use Rattle.registers.specs.Pins.{datain_after, firing_lines, interrupts, sampled}
use Rattle.registers.proofs.Laws.{read_same, length_store}
use Rattle.channels.specs.Rows.{is_enabled}
use Rattle.packets.specs.Packets.{data_of, reply_body}
use Rattle.packets.proofs.Laws.{data_round}
use Rattle.link.specs.Link.{reply_control}
use Rattle.state.specs.State.{Adapter, with_registers}
use Rattle.state.specs.Bytes.{state_bytes, state_in}
use Rattle.state.proofs.Good.{Good}
use Rattle.state.proofs.Spelling.{state_back}
use Rattle.chip.specs.Numbers.{gpio_channel, interrupt_length}
use Rattle.chip.specs.Answer.{Reaction}
use Rattle.chip.specs.Request.{replies}
use Rattle.chip.specs.Chip.{reaction, on_sample}
use Rattle.chip.proofs.Bodies.{Every}
use Rattle.chip.proofs.Laws.{sample_good}
use Rattle.journal.proofs.Ring.{Well}
use Rattle.adapter.specs.Calls.{recorded}
use Rattle.adapter.proofs.Laws.{recorded_well}
use Rattle.batch.specs.declared.Sample.{Sample}
use Rattle.batch.specs.Batch.{Batch}
use Rattle.batch.specs.Batch.{event_of, Course, onward, lines_in, answered}
use Rattle.batch.proofs.Course.{Shape, quiet, interrupt, sample_shape, few}
use Rattle.promises.specs.Runs.{due_frames}
use Rattle.promises.specs.Batches.{bodies_in, firing_at, firing_in}

-- ---- what they leave

abbrev pub course : Adapter → List ℕ → List (List ℕ) → Course
course a j bodies = record { state = state_bytes a; journal = j; bodies = bodies }

abbrev pub adapter_after : Adapter → List Sample → Adapter
adapter_after a [] = a
adapter_after a (x ∷ list) = adapter_after (reaction a (event_of x)).adapter list

abbrev pub journal_after : Adapter → List ℕ → List Sample → List ℕ
journal_after a j [] = j
journal_after a j (x ∷ list) = journal_after (reaction a (event_of x)).adapter (recorded (state_bytes a) (event_of x) j) list

pub one_along : (a : Adapter) (j : List ℕ) (bodies : List (List ℕ)) (x : Sample) → Good a
    → onward (course a j bodies) x
    ≡ course (reaction a (event_of x)).adapter (recorded (state_bytes a) (event_of x) j) (bodies ++ (reaction a (event_of x)).frames)
unfolding onward
one_along a j bodies x g = rw (state_back a g.registers.fits.long) refl

pub along : (list : List Sample) (a : Adapter) (j : List ℕ) (bodies : List (List ℕ)) → Good a
    → foldl onward (course a j bodies) list ≡ course (adapter_after a list) (journal_after a j list) (bodies ++ due_frames a list)
along [] a j bodies g = ap (course a j) (sym (append-nil bodies))
along (x ∷ list) a j bodies g =
    let r = reaction a (event_of x) in
    ap (λ (c : Course). foldl onward c list) (one_along a j bodies x g)
    ∙ along list r.adapter _ (bodies ++ r.frames) (sample_good a x.levels x.kind g)
    ∙ ap (course (adapter_after r.adapter list) (journal_after a j (x ∷ list))) (append_assoc bodies r.frames (due_frames r.adapter list))

pub good_after : (list : List Sample) (a : Adapter) → Good a → Good (adapter_after a list)
good_after [] a g = g
good_after (x ∷ list) a g = good_after list (reaction a (event_of x)).adapter (sample_good a x.levels x.kind g)

pub well_after : (list : List Sample) (a : Adapter) (j : List ℕ) → Well j → Well (journal_after a j list)
well_after [] a j w = w
well_after (x ∷ list) a j w = well_after list (reaction a (event_of x)).adapter _ (recorded_well (state_bytes a) (event_of x) j w)

-- the active port stays
port_shape : (port : ℕ) (r : Reaction) → Shape port r → r.adapter.link.port ≡ port
port_shape port r (quiet b n z q) = q
port_shape port r (interrupt b control trn ch err len d q) = q

pub port_after : (list : List Sample) (a : Adapter) → (adapter_after a list).link.port ≡ a.link.port
port_after [] a = refl
port_after (x ∷ list) a =
    let r = reaction a (event_of x) in
    port_after list r.adapter ∙ port_shape a.link.port r (sample_shape a x.levels x.kind)

pub due_append : (xs ys : List Sample) (a : Adapter) → due_frames a (xs ++ ys) ≡ due_frames a xs ++ due_frames (adapter_after a xs) ys
due_append [] ys a = refl
due_append (x ∷ xs) ys a =
    let r = reaction a (event_of x) in
    ap (λ (l : List (List ℕ)). r.frames ++ l) (due_append xs ys r.adapter)
    ∙ sym (append_assoc r.frames (due_frames r.adapter xs) (due_frames (adapter_after r.adapter xs) ys))

-- ---- the bodies: ten bytes each

abbrev pub Ten : List (List ℕ) → Type 0
Ten = Every (λ (body : List ℕ). length body ≡ 10)

ten_append : (bs cs : List (List ℕ)) → Ten bs → Ten cs → Ten (bs ++ cs)
ten_append [] cs t u = u
ten_append (b ∷ bs) cs t u = (t.0, ten_append bs cs t.1 u)

ten_shape : (port : ℕ) (r : Reaction) → Shape port r → Ten r.frames
ten_shape port r (quiet b n z q) = tt
ten_shape port r (interrupt b control trn ch err len d q) = (refl, tt)

ten_one : (a : Adapter) (x : Sample) → Ten (reaction a (event_of x)).frames
ten_one a x = ten_shape a.link.port _ (sample_shape a x.levels x.kind)

-- no more than there are samples
pub few_due : (list : List Sample) (a : Adapter) → length (due_frames a list) ≤ length list
few_due [] a = omega arith
few_due (x ∷ list) a =
    let r = reaction a (event_of x) in
    let one = few a.link.port r (sample_shape a x.levels x.kind) in
    omega (arith, length-append r.frames (due_frames r.adapter list), one, few_due list r.adapter)

pub ten_due : (list : List Sample) (a : Adapter) → Ten (due_frames a list)
ten_due [] a = tt
ten_due (x ∷ list) a = ten_append (reaction a (event_of x)).frames _ (ten_one a x) (ten_due list (reaction a (event_of x)).adapter)

pub ten_along : (list : List Sample) (c : Course) → Ten c.bodies → Ten (foldl onward c list).bodies
unfolding onward
ten_along [] c t = t
ten_along (x ∷ list) c t = ten_along list (onward c x) (ten_append c.bodies _ t (ten_one (state_in c.state) x))

-- one behind the other, they are read back
bodies_front : (bodies : List (List ℕ)) (rest : List ℕ) → Ten bodies → bodies_in (length bodies) (flatten bodies ++ rest) ≡ bodies
unfolding bodies_in flatten
bodies_front [] rest t = refl
bodies_front (b ∷ bodies) rest t =
    let more : List ℕ = flatten bodies ++ rest in
    rw (append_assoc b (flatten bodies) rest)
    (ap₂ ◌∷◌ (take_at b more 10 t.0) (ap (bodies_in (length bodies)) (drop_at b more 10 t.0) ∙ bodies_front bodies rest t.1))

pub bodies_back : (bodies : List (List ℕ)) (o : List ℕ) → Ten bodies → bodies_in (length bodies) (put 0 (flatten bodies) o) ≡ bodies
unfolding put
bodies_back bodies o t = bodies_front bodies (drop (0 + length (flatten bodies)) o) t

pub flat_length : (bodies : List (List ℕ)) → Ten bodies → length (flatten bodies) ≡ 10 * length bodies
unfolding flatten
flat_length [] t = refl
flat_length (b ∷ bodies) t = let e = flat_length bodies t.1 in length-append b (flatten bodies) ∙ omega (arith, t.0, e)

-- ---- the answer

pub no_bodies : (bodies : List (List ℕ)) → eqb (length bodies) 0 ≡ true → bodies ≡ []
no_bodies [] e = refl
no_bodies (b ∷ bodies) e = let z = eqb-true (length (b ∷ bodies)) 0 e in absurd (omega (arith, z))

pub its_frames : (port : ℕ) (bodies : List (List ℕ)) → (answered port bodies).frames ≡ length bodies
its_frames port bodies = cond_cases (λ (b : Batch). b.frames ≡ length bodies) (eqb (length bodies) 0) (λ e. sym (eqb-true _ _ e)) (λ e. refl)

pub its_sum : (port : ℕ) (bodies : List (List ℕ)) → (answered port bodies).sum ≡ lines_in bodies
unfolding lines_in
its_sum port bodies =
    cond_cases (λ (b : Batch). b.sum ≡ lines_in bodies) (eqb (length bodies) 0) (λ e. sym (ap lines_in (no_bodies bodies e))) (λ e. refl)

-- ---- the lines

lines_append : (bs cs : List (List ℕ)) → lines_in (bs ++ cs) ≡ lines_in bs + lines_in cs
unfolding lines_in
lines_append [] cs = omega arith
lines_append (b ∷ bs) cs = let e = lines_append bs cs in omega (arith, e)

one_line : (body : List ℕ) → lines_in (body ∷ []) ≡ ones (data_of body)
unfolding lines_in
one_line body = omega arith

no_line : lines_in [] ≡ 0
unfolding lines_in
no_line = refl

pub data_sent : (control trn ch err len d : ℕ) → d < 2 ^ 32 → data_of (reply_body control trn ch err len d) ≡ d
data_sent control trn ch err len d h = data_round d h

-- INTS after an interrupt
module _ (rs : List ℕ) (levels kind : ℕ) (n : length rs ≡ size) where
  abbrev fired : ℕ
  fired = firing_lines rs (datain_after rs levels kind)

  few_lines : fired < 2 ^ 32
  unfolding firing_lines
  few_lines = word_lt 32 _

  pub ints_after : interrupts rs levels kind ≡ true → read (sampled rs levels kind) Ints ≡ fired
  unfolding sampled
  ints_after i =
      rw i
      (read_same (store rs Datain (datain_after rs levels kind)) Ints fired (length_store rs Datain (datain_after rs levels kind) n)
      ∙ and_mask fired 32 ∙ mod-eq_of_lt few_lines)

-- The lines that a sample's interrupt names are those that fire.
module _ (a : Adapter) (x : Sample) (n : length a.registers ≡ size) where
  abbrev after : Adapter
  after = with_registers a (sampled a.registers x.levels x.kind)

  named : interrupts a.registers x.levels x.kind ≡ true
      → data_of (reply_body (reply_control a.link) interrupt_transaction gpio_channel 0 interrupt_length (read after.registers Ints))
      ≡ firing_lines a.registers (datain_after a.registers x.levels x.kind)
  named i =
      let d = ints_after a.registers x.levels x.kind n i in
      ap (λ (d : ℕ). data_of (reply_body (reply_control a.link) interrupt_transaction gpio_channel 0 interrupt_length d)) d
      ∙ data_sent (reply_control a.link) interrupt_transaction gpio_channel 0 interrupt_length _ (few_lines a.registers x.levels x.kind n)

  lines_by : (t u : Bool) → is_enabled a.registers Gpio ≡ t → interrupts a.registers x.levels x.kind ≡ u
      → lines_in (reaction a (event_of x)).frames ≡ firing_at a x
  unfolding reaction on_sample replies
  lines_by false u e i = rw e no_line
  lines_by true false e i = rw (e, i) no_line
  lines_by true true e i =
      rw (e, i)
      (one_line (reply_body (reply_control a.link) interrupt_transaction gpio_channel 0 interrupt_length (read after.registers Ints)) ∙ ap ones (named i))

  pub lines_at : lines_in (reaction a (event_of x)).frames ≡ firing_at a x
  lines_at = lines_by _ _ refl refl

pub lines_due : (list : List Sample) (a : Adapter) → Good a → lines_in (due_frames a list) ≡ firing_in a list
unfolding firing_in
lines_due [] a g = no_line
lines_due (x ∷ list) a g =
    let r = reaction a (event_of x) in
    lines_append r.frames (due_frames r.adapter list)
    ∙ ap (λ (n : ℕ). n + lines_in (due_frames r.adapter list)) (lines_at a x g.registers.fits.long)
    ∙ ap (λ (n : ℕ). firing_at a x + n) (lines_due list r.adapter (sample_good a x.levels x.kind g))
