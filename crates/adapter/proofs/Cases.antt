-- What each call gives and leaves, case by case. Assumes nothing.
use Prim.Native.Nat.{ℕ, ◌≤◌, ◌<◌}
use mathlib.Core.Path.{◌≡◌, refl, sym, ap, ap₂, ◌∙◌}
use mathlib.Core.Bool.{Bool, true, false, not, cond, ◌&&◌, ◌||◌, true≢false}
use mathlib.Core.List.{List, ◌++◌}
use native.Mathlib.Omega.{arith}
use lib.ListN.{length, take, drop, length-drop}
use lib.Seq.{take_all, drop_at}
use lib.Dec.{leb, ltb, lit<}
use borrow.Author.Tests.{eq-eqb, ne_eqb, le-ltb, ltb-false, leb-true, eqb-true, not-false}
use Rattle.std.specs.Prelude.{Result, Ok, Err, IsErrAnd}
use Rattle.numbers.specs.Numbers.{no_frame, id_most}
use Rattle.numbers.specs.declared.Silence.{Silence}
use Rattle.bits.proofs.Tests.{and_left, and_right}
use Rattle.parts.specs.Parts.{part, put}
use Rattle.registers.specs.Registers.{size}
use Rattle.link.specs.Link.{fresh_link}
use Rattle.link.specs.declared.Link.{Link}
use Rattle.state.specs.State.{adapter, blank, powered_on}
use Rattle.state.specs.Bytes.{link_bytes, state_size, link_image, link_of, state_bytes, state_in, is_state}
use Rattle.state.proofs.Spelling.{its_length}
use Rattle.chip.specs.declared.Frame.{Frame}
use Rattle.chip.specs.declared.Response.{Response}
use Rattle.chip.specs.Event.{spi, i2c, Event, frame, completion, sample, upset}
use Rattle.chip.specs.Inner.{answered, Said, said, says}
use Rattle.chip.specs.Chip.{reaction}
use Rattle.journal.specs.Layout.{kept_of, well_formed, past, lowered}
use Rattle.journal.specs.Record.{sound, restored}
use Rattle.journal.proofs.Ring.{in_journal}
use Rattle.adapter.specs.declared.NoFrame.{NoFrame}
use Rattle.adapter.specs.declared.NoFrame.TheVariants.{Silent}
use Rattle.adapter.specs.Answers.{Verdict, Refused, Passed, answer_of}
use Rattle.adapter.specs.Inner.{Fits, room_for}
use Rattle.adapter.specs.Refusals.{wrong_argument, wrong_body, in_order, back_verdict}
use Rattle.adapter.specs.Calls.{made, created, outcome, shown, recorded, done, Stepped, stepped, judged_back, stepped_back}

-- ---- a state's bytes, part by part

-- the link over the bytes that stand before the registers
anew : (f rs u : List ℕ) (l : Link) → length f ≡ link_bytes → u ≡ put 0 (link_image l) (f ++ rs) → u ≡ state_bytes (adapter l rs)
unfolding state_bytes put
anew f rs u l n e = e ∙ ap (λ (t : List ℕ). link_image l ++ t) (drop_at f rs link_bytes n)

-- ---- creation

module _ (s : List ℕ) (id : ℕ) where
  pub created_in : length s ≡ state_size → id ≤ id_most → (f rs u : List ℕ) (l : Link) → length f ≡ link_bytes → rs ≡ blank id
      → l ≡ fresh_link 0 → u ≡ put 0 (link_image l) (f ++ rs) → made no_frame u ≡ created s id
  unfolding created powered_on
  created_in n h f rs u l m e d i = rw (anew f rs u l m i, d, e) (simp (eq-eqb (length s) state_size n, le-ltb id_most id h))

-- ---- a journal that is well formed has a header

pub has_kept : (j : List ℕ) → well_formed j ≡ true → 6 < length j
has_kept j w = in_journal j 6 w (lit< tt)

-- ---- an event on a state's bytes: its record, the chip's reaction to link and registers, and the link stored

module _ (s : List ℕ) (n : length s ≡ state_size) (e : Event) (l : Link) (d : l ≡ link_of s) (r : Response) (f t rs u : List ℕ)
    (m : length f ≡ link_bytes) (b : t ≡ drop link_bytes s) (v : u ≡ put 0 (link_image r.link) (f ++ rs))
    (o p : List ℕ) (h : said r rs p ≡ says (reaction (adapter l t) e) o)
    (j k : List ℕ) (w : k ≡ recorded s e j) where
  lent : t ≡ take size (drop link_bytes s)
  lent =
      let y : length (drop link_bytes s) ≤ size = rw (length-drop link_bytes s) (omega arith) in
      b ∙ sym (take_all size (drop link_bytes s) y)

  happens : outcome (shown (answered r)) u k p ≡ done s j e o
  unfolding state_in part done
  happens =
      rw (w, anew f rs u r.link m v)
      (ap (λ (y : Said). outcome (shown y.response) (state_bytes (adapter y.response.link y.registers)) (recorded s e j) y.output)
      (h ∙ ap₂ (λ (x : Link) (y : List ℕ). says (reaction (adapter x y) e) o) d lent))

  pub sends_frame : (y : Frame) → r.answer ≡ Ok y → outcome (answer_of (Ok y)) u k p ≡ done s j e o
  sends_frame y q = ap (λ (a : Result Frame Silence). outcome (shown (answered (record { link = r.link; answer = a }))) u k p) (sym q) ∙ happens

  pub stays_silent : (y : Silence) (a : Result Frame NoFrame) → r.answer ≡ Err y → IsErrAnd a (λ e. e ≡ Silent y)
      → outcome (answer_of a) u k p ≡ done s j e o
  stays_silent y (Ok x) q z = absurd z
  stays_silent y (Err x) q z =
      rw z
      (ap (λ (a : Result Frame Silence). outcome (shown (answered (record { link = r.link; answer = a }))) u k p) (sym q) ∙ happens)

-- ---- an event's call

-- what a verdict that refuses nothing tells
pub record Passing (s : List ℕ) (j : List ℕ) (e : Event) (o : List ℕ) : Type 0 where
  pub state : is_state s ≡ true
  pub formed : well_formed j ≡ true
  pub room : 16 ≤ length o
  pub argument : wrong_argument e ≡ false
  pub body : wrong_body e ≡ false

not_passed : {A : Type 0} {n : ℕ} → Passed ≡ Refused n → A
not_passed h = let z : ◌≡◌ {A = ℕ} 0 1 = cc in let f : ⊥ = omega arith in absurd f

no_refusal : (s j o g b : Bool) → Passed ≡ in_order s j o g b → (s ≡ false) × (j ≡ false) × (o ≡ false) × (g ≡ false) × (b ≡ false)
unfolding in_order
no_refusal false false false false false h = (refl, refl, refl, refl, refl)
no_refusal true j o g b h = not_passed h
no_refusal false true o g b h = not_passed h
no_refusal false false true g b h = not_passed h
no_refusal false false false true b h = not_passed h
no_refusal false false false false true h = not_passed h

pub unrefused : (v : Verdict) (s j o g b : Bool) → v ≡ Passed → v ≡ in_order s j o g b → (s ≡ false) × (j ≡ false) × (o ≡ false) × (g ≡ false) × (b ≡ false)
unrefused v s j o g b q h = no_refusal s j o g b (sym q ∙ h)

module _ (s : List ℕ) (j : List ℕ) (e : Event) (o : List ℕ) (v : Verdict)
    (h : v ≡ in_order (not (is_state s)) (not (well_formed j)) (ltb (length o) 16) (wrong_argument e) (wrong_body e)) where
  pub passing : v ≡ Passed → Passing s j e o
  passing q =
      let p = unrefused v _ _ _ _ _ q h in
      record {
        state = not-false _ p.0;
        formed = not-false _ p.1;
        room = ltb-false _ 16 p.2;
        argument = p.3;
        body = p.4;
      }

or_left : (x y : Bool) → (x || y) ≡ false → x ≡ false
or_left false y h = refl
or_left true y h = h

or_right : (x y : Bool) → (x || y) ≡ false → y ≡ false
or_right false y h = h
or_right true y h = absurd (true≢false h)

-- a body that nothing refuses has 2 to 16 bytes
pub body_bounds : (n : ℕ) → (ltb n 2 || ltb 16 n) ≡ false → (2 ≤ n) × (n ≤ 16)
body_bounds n h = (ltb-false n 2 (or_left _ (ltb 16 n) h), ltb-false 16 n (or_right (ltb n 2) _ h))

pub body_short : (port : ℕ) (s : List ℕ) → wrong_body (frame port s) ≡ false → length s ≤ 16
body_short port s h = (body_bounds (length s) h).1

-- ---- what nothing refuses: the state, the journal and the output are what they should be, and the event is what the chip can be handed

module _ (s j o : List ℕ) (e : Event) (h : Passed ≡ in_order (not (is_state s)) (not (well_formed j)) (ltb (length o) 16) (wrong_argument e) (wrong_body e)) where
  all : Passing s j e o
  all = passing s j e o Passed h refl

  pub passed_formed : well_formed j ≡ true
  passed_formed = all.formed

  pub passed_length : length s ≡ state_size
  passed_length = its_length s all.state

  pub passed_room : room_for e ≤ length o
  passed_room = by e
    where
      by : (x : Event) → room_for x ≤ length o
      by (frame port body) = all.room
      by (completion c) = all.room
      by (sample levels kind) = let r : 16 ≤ length o = all.room in omega arith
      by upset = omega arith

  pub passed_fits : Fits e
  passed_fits = by e all.argument all.body
    where
      by : (x : Event) → wrong_argument x ≡ false → wrong_body x ≡ false → Fits x
      by (frame port body) g b = let p = ltb-false 1 port g in let q = body_bounds (length body) b in (omega arith, q.0, q.1)
      by (completion (spi received)) g b = eqb-true (length received) 16 (not-false _ g)
      by (completion (i2c channel acknowledge low received)) g b =
          let among = not-false _ (or_left (not (leb 0x03 channel && leb channel 0x12)) (ltb 16 (length received)) g) in
          (leb-true 0x03 channel (and_left (leb 0x03 channel) _ among), (let l = leb-true channel 0x12 (and_right (leb 0x03 channel) _ among) in omega arith))
      by (sample levels kind) g b = let p = ltb-false 2 kind g in omega arith
      by upset g b = tt

pub ruleset passed = (passed_formed, passed_length, passed_room, passed_fits)

-- ---- a step back

module _ (s j : List ℕ) where
  module _ (h : is_state s ≡ true) where
    module _ (w : well_formed j ≡ true) where
      pub back_none : kept_of j ≡ 0 → stepped 5 s j ≡ stepped_back s j
      unfolding stepped_back back_verdict
      back_none n = simp (h, w, eq-eqb (kept_of j) 0 n)

      pub back_tried : (x : Stepped) → (kept_of j ≡ 0 → ⊥)
          → x ≡ cond (sound s (past j 0)) (stepped 17 (restored s (past j 0)) (lowered j)) (stepped 4 s j) → x ≡ stepped_back s j
      unfolding stepped_back back_verdict
      back_tried x n e = simp (h, w, ne_eqb (kept_of j) 0 n) (e ∙ by (sound s (past j 0)))
        where
          by : (t : Bool) → cond t (stepped 17 (restored s (past j 0)) (lowered j)) (stepped 4 s j)
              ≡ judged_back (cond (not t) (Refused 4) Passed) s j
          by true = refl
          by false = refl
