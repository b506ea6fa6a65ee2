-- An event's answer: its number, its port, and the bytes of the frame that it sends.
use Rattle.std.proofs.Common.{◌≡◌, ℕ, zero, suc, ◌<◌, ◌≤◌, ◌⊎◌, List, [], ◌∷◌, length, refl, subst, inl, inr, arith, lit<, lit≤}
use Rattle.bits.specs.Bits.{bit_of}
use Rattle.bits.proofs.Tests.{cond_cases}
use Rattle.parts.proofs.Laws.{AreBytes}
use Rattle.numbers.specs.Numbers.{no_frame}
use Rattle.chip.specs.Event.{Event}
use Rattle.chip.specs.Answer.{Reaction, sends, gives}
use Rattle.link.specs.Link.{acknowledge_control, reject_control, reply_control}
use Rattle.packets.specs.Packets.{reply_body}
use Rattle.chip.specs.Request.{replies}
use Rattle.chip.specs.Frame.{control_of}
use Rattle.chip.specs.Chip.{reaction}
use Rattle.state.specs.State.{Adapter}
use Rattle.chip.proofs.EventFits.{EventFits}
use Rattle.chip.proofs.Steps.{Shape, dropped, acknowledged, echoed, rejected, replied, quiet, HeaderBytes, moved_port, shapes}

-- ---- the number

-- an event gives 0 or 11 to 17, never 1 to 10
pub number_given : (a : Adapter) (e : Event) → ((reaction a e).number ≡ 0) ⊎ ((11 ≤ (reaction a e).number) × ((reaction a e).number ≤ 17))
unfolding replies
number_given a e = by (reaction a e) (shapes a e)
  where
    by : (r : Reaction) → Shape a e r → (r.number ≡ 0) ⊎ ((11 ≤ r.number) × (r.number ≤ 17))
    by r (dropped n l u) = inr (l, omega arith)
    by r (acknowledged port body h b c) = inl refl
    by r (echoed port body h) = inl refl
    by r (rejected port body h) = inl refl
    by r (replied b trn ch err len d m f) = inl refl
    by r (quiet b m) = inr (lit≤ tt, lit≤ tt)

-- one frame with 0, none and port 0 with any other number
pub data OneFrame : Reaction → Type 0 where
  one : (b : Adapter) (port : ℕ) (body : List ℕ) → OneFrame (sends b port body)
  none : (b : Adapter) (n : ℕ) → (n ≡ 0 → ⊥) → OneFrame (gives b n)

frames_of : (a : Adapter) (e : Event) (r : Reaction) → Shape a e r → OneFrame r
unfolding replies
frames_of a e r (dropped n l u) = none a n (λ h. omega arith)
frames_of a e r (acknowledged port body h b c) = one b port _
frames_of a e r (echoed port body h) = one a port body
frames_of a e r (rejected port body h) = one a port _
frames_of a e r (replied b trn ch err len d m f) = one _ _ _
frames_of a e r (quiet b m) = none b no_frame (λ h. omega arith)

pub one_frame : (a : Adapter) (e : Event) → OneFrame (reaction a e)
one_frame a e = frames_of a e (reaction a e) (shapes a e)

pub silent : (a : Adapter) (e : Event) → ((reaction a e).number ≡ 0 → ⊥) → reaction a e ≡ gives (reaction a e).adapter (reaction a e).number
silent a e = by (reaction a e) (one_frame a e)
  where
    by : (r : Reaction) → OneFrame r → (r.number ≡ 0 → ⊥) → r ≡ gives r.adapter r.number
    by r (one b port body) h = absurd (h refl)
    by r (none b n h) _ = refl

-- ---- the frame

-- a list of bytes
abbrev pub Each : List ℕ → Type 0
Each [] = Unit
Each (x ∷ s) = (x < 256) × Each s

pub each_byte : (s : List ℕ) → Each s → AreBytes s
each_byte [] f i = lit< tt
each_byte (x ∷ s) f zero = f.0
each_byte (x ∷ s) f (suc i) = each_byte s f.1 i

acknowledge_byte : (control : ℕ) → acknowledge_control control < 256
acknowledge_byte control = cond_cases (λ (k : ℕ). k < 256) (bit_of control 4) (λ _. lit< tt) (λ _. lit< tt)

-- every frame has this
abbrev pub Every : (List ℕ → Type 0) → List (List ℕ) → Type 0
Every P [] = Unit
Every P (body ∷ more) = P body × Every P more

-- 2 to 16 bytes, as every body that a transmitter frames
pub record Framable (body : List ℕ) : Type 0 where
  pub least : 2 ≤ length body
  pub most : length body ≤ 16

-- a frame that is sent can be framed, and leaves on port 0 or 1
pub sendable : (a : Adapter) (e : Event) → a.link.port ≤ 1 → EventFits e → ((reaction a e).port ≤ 1) × Every Framable (reaction a e).frames
unfolding replies
sendable a e p f = by (reaction a e) (shapes a e)
  where
    by : (r : Reaction) → Shape a e r → (r.port ≤ 1) × Every Framable r.frames
    by r (dropped n l u) = (lit≤ tt, tt)
    by r (acknowledged port body h b c) = ((subst EventFits h f).port, (record { least = lit≤ tt; most = lit≤ tt }, tt))
    by r (echoed port body h) = ((subst EventFits h f).port, (record { least = (subst EventFits h f).short; most = (subst EventFits h f).long }, tt))
    by r (rejected port body h) = ((subst EventFits h f).port, (record { least = lit≤ tt; most = lit≤ tt }, tt))
    by r (replied b trn ch err len d m g) = (rw (moved_port a e b m) p, (record { least = lit≤ tt; most = lit≤ tt }, tt))
    by r (quiet b m) = (lit≤ tt, tt)

short_bytes : (k : ℕ) → k < 256 → AreBytes (0x00 ∷ k ∷ [])
short_bytes k h = each_byte (0x00 ∷ k ∷ []) (lit< tt, (h, tt))

reply_bytes_lem : (b : Adapter) (trn ch err len d : ℕ) → HeaderBytes trn ch err len → AreBytes (reply_body (reply_control b.link) trn ch err len d)
reply_bytes_lem b trn ch err len d h =
    each_byte (reply_body (reply_control b.link) trn ch err len d)
    (lit< tt, (omega arith, (h.trn, (h.ch, (h.err, (h.len, (omega arith, (omega arith, (omega arith, (omega arith, tt))))))))))

-- and its bytes are bytes
pub frame_bytes : (a : Adapter) (e : Event) → EventFits e → Every AreBytes (reaction a e).frames
unfolding replies
frame_bytes a e f = by (reaction a e) (shapes a e)
  where
    by : (r : Reaction) → Shape a e r → Every AreBytes r.frames
    by r (dropped n l u) = tt
    by r (acknowledged port body h b c) = (short_bytes _ (acknowledge_byte (control_of body)), tt)
    by r (echoed port body h) = ((subst EventFits h f).bytes, tt)
    by r (rejected port body h) = (short_bytes (reject_control a.link) (omega arith), tt)
    by r (replied b trn ch err len d m k) = (reply_bytes_lem b trn ch err len d (k f), tt)
    by r (quiet b m) = tt
