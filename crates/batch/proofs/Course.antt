-- A batch gives what its samples give one by one: `stands` along the list. Assumes nothing.
use Prim.Native.Nat.{ℕ, ◌+◌, ◌*◌, ◌≤◌}
use mathlib.Core.Path.{◌≡◌, refl, sym, ap, ap₂, ◌∙◌, subst}
use mathlib.Core.Bool.{Bool, true, false, not, cond}
use mathlib.Core.List.{List, [], ◌∷◌, ◌++◌, foldl, flatten, append-nil, append_assoc}
use native.Mathlib.Omega.{arith}
use Rattle.std.specs.List.{fold}
use lib.ListN.{length, take, drop, length-append, take-append-drop}
use lib.Seq.{drop-drop}
use lib.Count.{ones}
use borrow.Author.Tests.{ne_eqb}
use Rattle.numbers.specs.Numbers.{lines_disabled, no_frame}
use Rattle.commands.specs.declared.channel.Channel.TheVariants.{Gpio}
use Rattle.commands.specs.declared.command.Register.TheVariants.{Ints}
use Rattle.commands.specs.Request.{interrupt_transaction}
use Rattle.registers.specs.Registers.{read}
use Rattle.registers.specs.Pins.{sampled, interrupts}
use Rattle.channels.specs.Rows.{is_enabled}
use Rattle.parts.specs.Parts.{part, put}
use Rattle.parts.proofs.Laws.{put_put, put_all, length_part, length_put}
use Rattle.packets.specs.Packets.{data_of, reply_body}
use Rattle.state.specs.State.{Adapter, with_registers}
use Rattle.state.specs.Bytes.{state_bytes, link_of, state_in}
use Rattle.chip.specs.Numbers.{gpio_channel, interrupt_length}
use Rattle.chip.specs.Answer.{Reaction, sends, gives}
use Rattle.chip.specs.Event.{sample}
use Rattle.chip.specs.Request.{replies}
use Rattle.chip.specs.Chip.{reaction, on_sample}
use Rattle.adapter.specs.Calls.{done}
use Rattle.batch.specs.declared.Sample.{Sample}
use Rattle.batch.specs.declared.Batch.{Batch}
use Rattle.batch.specs.Batch.{event_of, Course, onward, lines_in}
use Rattle.batch.specs.Inner.{Going, going, given}

-- ---- what a sample comes to: a number without a frame, or an interrupt on the active port, which stays

pub data Shape (port : ℕ) : Reaction → Type 0 where
  quiet : (b : Adapter) (n : ℕ) → (n ≡ 0 → ⊥) → b.link.port ≡ port → Shape port (gives b n)
  interrupt : (b : Adapter) (control trn ch err len d : ℕ) → b.link.port ≡ port → Shape port (sends b port (reply_body control trn ch err len d))

pub not_0 : (n : ℕ) → 1 ≤ n → n ≡ 0 → ⊥
not_0 n h z = let y : ⊥ = omega (arith, z) in y

chosen : (port : ℕ) (t u : Bool) (x y z : Reaction) → Shape port x → Shape port y → Shape port z → Shape port (cond t x (cond u y z))
chosen port true u x y z p q r = p
chosen port false true x y z p q r = q
chosen port false false x y z p q r = r

pub sample_shape : (a : Adapter) (levels kind : ℕ) → Shape a.link.port (reaction a (sample levels kind))
unfolding reaction on_sample replies
sample_shape a levels kind =
    let after : Adapter = with_registers a (sampled a.registers levels kind) in
    chosen a.link.port (not (is_enabled a.registers Gpio)) (interrupts a.registers levels kind) (gives a lines_disabled)
    (replies after interrupt_transaction gpio_channel 0 interrupt_length (read after.registers Ints)) (gives after no_frame)
    (quiet a lines_disabled (λ z. not_0 16 (omega arith) z) refl) (interrupt _ _ _ _ _ _ _ refl) (quiet after no_frame (λ z. not_0 17 (omega arith) z) refl)

-- in bytes
pub port_in : (s : List ℕ) → (state_in s).link.port ≡ (link_of s).port
unfolding state_in
port_in s = refl

pub port_back : (b : Adapter) → (link_of (state_bytes b)).port ≡ b.link.port
unfolding state_bytes
port_back b = refl

-- ---- bodies behind bodies

pub flat_more : (bs : List (List ℕ)) (b : List ℕ) → flatten (bs ++ (b ∷ [])) ≡ flatten bs ++ b
unfolding flatten
flat_more [] b = append-nil b
flat_more (c ∷ bs) b = ap (λ (l : List ℕ). c ++ l) (flat_more bs b) ∙ sym (append_assoc c (flatten bs) b)

pub lines_more : (bs : List (List ℕ)) (b : List ℕ) → lines_in (bs ++ (b ∷ [])) ≡ lines_in bs + ones (data_of b)
unfolding lines_in
lines_more [] b = omega arith
lines_more (c ∷ bs) b = let e = lines_more bs b in omega (arith, e)

-- what stands at a place, put there
put_same : (a n : ℕ) (d : List ℕ) → a + n ≤ length d → put a (part a n d) d ≡ d
unfolding put part
put_same a n d h =
    let l : length (take n (drop a d)) ≡ n = length_part a n d h in
    ap (λ (k : ℕ). take a d ++ (take n (drop a d) ++ drop (a + k) d)) l
    ∙ ap (λ (t : List ℕ). take a d ++ (take n (drop a d) ++ t)) (sym (drop-drop n a d))
    ∙ ap (λ (t : List ℕ). take a d ++ t) (take-append-drop n (drop a d))
    ∙ take-append-drop a d

-- ---- where a batch stands, by the samples given one by one

pub record Stands (active : ℕ) (out : List ℕ) (c : Course) (g : Going) : Type 0 where
  pub state : g.state ≡ c.state
  pub journal : g.journal ≡ c.journal
  pub output : g.output ≡ put 0 (flatten c.bodies) out
  pub long : length (flatten c.bodies) ≡ 10 * length c.bodies
  pub stays : (link_of c.state).port ≡ active
  pub port : (g.sent.frames ≡ 0 → ⊥) → g.sent.port ≡ active
  pub frames : g.sent.frames ≡ length c.bodies
  pub sum : g.sent.sum ≡ lines_in c.bodies

module _ (active : ℕ) (out s j o : List ℕ) (b : Batch) (bodies : List (List ℕ)) (x : Sample) where
  abbrev course : Course
  course = record { state = s; journal = j; bodies = bodies }

  abbrev before : Going
  before = going s j o b

  module _ (h : Stands active out course before) (room : 10 * length bodies + 10 ≤ length out) where
    first : 10 * b.frames ≡ 0 + length (flatten bodies)
    first = omega (arith, h.frames, h.long)

    roomy : 10 * b.frames + 10 ≤ length o
    roomy = let l = ap length h.output ∙ length_put 0 (flatten bodies) out (omega (arith, h.long)) in omega (arith, l, h.frames)

    along : (r : Reaction) → Shape active r → reaction (state_in s) (event_of x) ≡ r → Stands active out (onward course x) (given before x)
    unfolding onward given done
    along r (quiet a n z q) e =
        rw (e, ne_eqb _ _ z, append-nil bodies, put_same (10 * b.frames) 10 o roomy)
        (record {
          state = refl;
          journal = refl;
          output = h.output;
          long = h.long;
          stays = port_back a ∙ q;
          port = h.port;
          frames = h.frames;
          sum = h.sum;
        })
    along r (interrupt a control trn ch err len d q) e =
        let body : List ℕ = reply_body control trn ch err len d in
        let whole : put 0 body (part (10 * b.frames) 10 o) ≡ body = put_all body _ (sym (length_part (10 * b.frames) 10 o roomy)) in
        rw (e, whole)
        (record {
          state = refl;
          journal = refl;
          output = ap (put (10 * b.frames) body) h.output ∙ put_put 0 (flatten bodies) body out (10 * b.frames) first (omega (arith, h.long))
              ∙ ap (λ (l : List ℕ). put 0 l out) (sym (flat_more bodies body));
          long = ap length (flat_more bodies body) ∙ length-append (flatten bodies) body
              ∙ omega (arith, h.long, length-append bodies (body ∷ []));
          stays = port_back a ∙ q;
          port = λ some. refl;
          frames = omega (arith, h.frames, length-append bodies (body ∷ []));
          sum = ap (λ (n : ℕ). n + ones (data_of body)) h.sum ∙ sym (lines_more bodies body);
        })

    stands_on : Stands active out (onward course x) (given before x)
    stands_on =
        along _ (subst (λ (k : ℕ). Shape k (reaction (state_in s) (event_of x))) (port_in s ∙ h.stays) (sample_shape (state_in s) x.levels x.kind)) refl

-- a sample sends one frame at most
pub few : (port : ℕ) (r : Reaction) → Shape port r → length r.frames ≤ 1
few port r (quiet b n z q) = omega arith
few port r (interrupt b control trn ch err len d q) = omega arith

pub one_more : (c : Course) (x : Sample) → length (onward c x).bodies ≤ length c.bodies + 1
unfolding onward
one_more c x =
    let r : Reaction = reaction (state_in c.state) (event_of x) in
    omega (arith, length-append c.bodies r.frames, few _ r (sample_shape (state_in c.state) x.levels x.kind))

stands_at : (active : ℕ) (out : List ℕ) (c : Course) (g : Going) (x : Sample) → Stands active out c g → 10 * length c.bodies + 10 ≤ length out
    → Stands active out (onward c x) (given g x)
stands_at active out c g x h room =
    let same : g ≡ going c.state c.journal g.output g.sent =
    ap₂ (λ (s j : List ℕ). going s j g.output g.sent) h.state h.journal in
    subst (λ (k : Going). Stands active out (onward c x) (given k x)) (sym same)
    (stands_on active out c.state c.journal g.output g.sent c.bodies x (subst (Stands active out c) same h) room)

-- along a list that has room
pub stands : (active : ℕ) (out : List ℕ) (c : Course) (g : Going) (l : List Sample) → Stands active out c g
    → 10 * (length c.bodies + length l) ≤ length out → Stands active out (foldl onward c l) (fold given g l)
stands active out c g [] h room = h
stands active out c g (x ∷ l) h room =
    stands active out (onward c x) (given g x) l (stands_at active out c g x h (omega (arith, room))) (omega (arith, room, one_more c x))
