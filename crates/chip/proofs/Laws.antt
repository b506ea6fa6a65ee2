-- The chip's laws, for what stands above it.
use Rattle.std.proofs.Common.{◌≡◌, ℕ, ◌≤◌, Bool, true, false, ◌||◌, eqb, ◌⊎◌, List, [], ◌∷◌, length, sym, refl, ap, subst, inl, inr, arith, eqb-true}
use Rattle.packets.specs.Packets.{address, request_of}
use Rattle.chip.specs.Event.{Event, frame}
use Rattle.state.specs.State.{Adapter, adapter, powered_on, with_registers}
use Rattle.chip.specs.Answer.{Reaction, sends, gives}
use Rattle.chip.specs.Inner.{Said, said, says}
use Rattle.link.specs.Link.{acknowledge_control, is_connect, is_reset}
use Rattle.link.specs.declared.Link.{Link}
use Rattle.commands.specs.declared.command.Register.TheVariants.{ChipId}
use Rattle.registers.specs.Registers.{read}
use Rattle.channels.specs.Perform.{replied as replyDue, performed}
use Rattle.commands.specs.declared.request.Reply.{Reply}
use Rattle.std.specs.Prelude.{Option, None, Some}
use Rattle.chip.specs.Request.{replies, finished, requested}
use Rattle.chip.specs.Frame.{is_reset_frame, address_of, control_of, information_of, commanded, addressed, on_frame}
use Rattle.chip.specs.Chip.{reaction, accepted_reset}
use Rattle.chip.specs.declared.Response.{Response}
use Rattle.bits.proofs.Tests.{and_left, and_right, or_second}
use Rattle.chip.proofs.Steps.{Commanded, connects, resets, tests, moved_link, Shape, dropped, acknowledged, echoed, rejected}
use Rattle.chip.proofs.Steps.{replied, quiet, shapes}
pub use Rattle.chip.proofs.Bodies.{number_given, OneFrame, one_frame, silent, sendable, frame_bytes}
pub use Rattle.chip.proofs.Good.{good_stays, sample_good}
pub use Rattle.chip.proofs.Outside.{outside, id_given, id_stays}

-- ---- the state in what an event leaves

pub event_said : (l : Link) (r : Response) (x : Reaction) (o p rs : List ℕ) → said r rs p ≡ says x o → l ≡ r.link → adapter l rs ≡ x.adapter
event_said l r x o p rs e f = rw f (ap (λ (y : Said). adapter y.response.link y.registers) e)

-- without a frame
pub silently_said : (l : Link) (r : Response) (x : Reaction) (rs : List ℕ) → ((o : List ℕ) → said r rs o ≡ says x o) → l ≡ r.link
    → adapter l rs ≡ x.adapter
silently_said l r x rs e f = event_said l r x [] [] rs (e []) f

-- ---- what stays

-- a dropped event leaves the state
pub dropped_keeps : (a : Adapter) (e : Event) → 11 ≤ (reaction a e).number → (reaction a e).number ≤ 16 → (reaction a e).adapter ≡ a
unfolding replies
dropped_keeps a e = by (reaction a e) (shapes a e)
  where
    by : (r : Reaction) → Shape a e r → 11 ≤ r.number → r.number ≤ 16 → r.adapter ≡ a
    by r (dropped n l u) _ _ = refl
    by r (acknowledged port body h b c) l _ = absurd (omega arith)
    by r (echoed port body h) _ _ = refl
    by r (rejected port body h) _ _ = refl
    by r (replied b trn ch err len d m f) l _ = absurd (omega arith)
    by r (quiet b m) _ u = absurd (omega arith)

-- CONNECT and RESET
abbrev pub ZeroesNumbers : List ℕ → Type 0
ZeroesNumbers body = (is_connect (control_of body) ≡ true) ⊎ (is_reset_frame body ≡ true)

-- how the send number moves: it stays; a CONNECT or a RESET zeroes it; or a reply or an interrupt goes out with it, and it goes up
pub data SendMoves (a : Adapter) (e : Event) : Reaction → Type 0 where
  stays : (r : Reaction) → r.adapter.link.send ≡ a.link.send → SendMoves a e r
  zeroed : (port : ℕ) (body : List ℕ) → e ≡ frame port body → ZeroesNumbers body → (r : Reaction) → r.adapter.link.send.0 ≡ 0 → SendMoves a e r
  raised : (b : Adapter) (trn ch err len d : ℕ) → b.link.send ≡ a.link.send → SendMoves a e (replies b trn ch err len d)

command_moves : (a : Adapter) (e : Event) (port : ℕ) (body : List ℕ) → e ≡ frame port body → (b : Adapter) → Commanded a port body b
    → (s : List ℕ) → SendMoves a e (sends b port s)
unfolding powered_on
command_moves a e port body h b (connects c) s = zeroed port body h (inl c) _ refl
command_moves a e port body h b (resets c) s = zeroed port body h (inr c) _ refl
command_moves a e port body h b (tests c) s = stays _ refl

-- only replies and interrupts raise the send number, only CONNECT and RESET zero it
pub send_number_lem : (a : Adapter) (e : Event) → SendMoves a e (reaction a e)
send_number_lem a e = by (reaction a e) (shapes a e)
  where
    by : (r : Reaction) → Shape a e r → SendMoves a e r
    by r (dropped n l u) = stays (gives a n) refl
    by r (acknowledged port body h b c) = command_moves a e port body h b c _
    by r (echoed port body h) = stays _ refl
    by r (rejected port body h) = stays _ refl
    by r (replied b trn ch err len d m f) = raised b trn ch err len d (moved_link a e b m).0
    by r (quiet b m) = stays _ (moved_link a e b m).0

-- ---- judging is performing without storing: a request's number, port and frames are those of its reply from the state as it was

pub record SameAnswer (r t : Reaction) : Type 0 where
  pub number : r.number ≡ t.number
  pub port : r.port ≡ t.port
  pub frames : r.frames ≡ t.frames

abbrev pub judged : Adapter → List ℕ → Reaction
judged a info = let q = request_of info in finished a q.trn q.ch (replyDue a.registers q)

pub judging : (a : Adapter) (info : List ℕ) → SameAnswer (requested a info) (judged a info)
unfolding requested replies
judging a info = by (replyDue a.registers (request_of info))
  where
    by : (p : Option Reply)
        → SameAnswer (finished (with_registers a (performed a.registers (request_of info))) (request_of info).trn (request_of info).ch p)
        (finished a (request_of info).trn (request_of info).ch p)
    by (Some r) = record { number = refl; port = refl; frames = refl }
    by None = record { number = refl; port = refl; frames = refl }

-- ---- RESET

either : (c m n : ℕ) → (eqb c m || eqb c n) ≡ true → (P : ℕ → Type 0) → P m → P n → P c
either c m n h P p q =
    elim_eq (eqb c m) refl
  where
    elim_eq : (t : Bool) → eqb c m ≡ t → P c
    elim_eq true e = subst P (sym (eqb-true c m e)) p
    elim_eq false e = subst P (sym (eqb-true c n (or_second (eqb c m) (eqb c n) h e))) q

not_connect : (c : ℕ) → is_reset c ≡ true → is_connect c ≡ false
not_connect c h = either c 0x8F 0x9F h (λ (n : ℕ). is_connect n ≡ false) refl refl

ruleset halves = (and_left, and_right)

-- an accepted RESET acknowledges on its port and leaves power-on with that port active; only the ID stays
pub accepted_reset_lem : (a : Adapter) (port : ℕ) (body : List ℕ) → accepted_reset (frame port body) ≡ true
    → reaction a (frame port body) ≡ sends (powered_on port (read a.registers ChipId)) port (address ∷ acknowledge_control (control_of body) ∷ [])
unfolding reaction on_frame addressed commanded is_reset_frame
accepted_reset_lem a port body h =
    let command : is_reset (control_of body) ≡ true = search halves in
    let empty : eqb (length (information_of body)) 0 ≡ true = search halves in
    let here : eqb (address_of body) address ≡ true = search halves in
    simp (here, not_connect (control_of body) command, command, empty)
