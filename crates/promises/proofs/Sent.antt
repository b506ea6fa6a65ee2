-- WHAT THE ADAPTER SENDS COMES BACK: every frame of an answer, framed by `transmit`, is read by a new receiver as the body that was sent.
use mathlib.Core.Path.{◌≡◌}
use mathlib.Core.Bool.{true}
use mathlib.Core.List.{List, [], ◌∷◌}
use Prim.Native.Nat.{ℕ, ◌≤◌}
use lib.ListN.{length}
use Rattle.parts.proofs.Laws.{AreBytes}
use Rattle.transmitter.specs.Frame.{frame}
use Rattle.transmitter.specs.Transmit as transmit
use Rattle.receiver.specs.Receiver.{hunting, image}
use Rattle.state.specs.State.{Adapter, in_range}
use Rattle.chip.specs.Event.{Event}
use Rattle.chip.specs.Chip.{reaction}
use Rattle.chip.proofs.EventFits.{EventFits}
use Rattle.state.proofs.Good.{ranges}
use Rattle.chip.proofs.Bodies.{Every, Framable, sendable, frame_bytes}
use Rattle.promises.specs.Wire.{found}
use Rattle.promises.specs.Calls.{Gives}
use Rattle.promises.proofs.RoundTrip.{round_trip}

module _ (cable output : List ℕ) (least : 24 ≤ length cable) (most : length cable ≤ 65536) (room : 16 ≤ length output) where
  -- sent over this cable, a body is what a new receiver gives
  abbrev pub ComesBack : List ℕ → Type 0
  ComesBack body = Gives (image hunting) (transmit.output_after body cable) 0 output (found body (length (frame body)))

  every_body : (frames : List (List ℕ)) → Every Framable frames → Every AreBytes frames → Every ComesBack frames
  every_body [] f b = tt
  every_body (body ∷ more) f b =
      (round_trip body b.0 f.0.least f.0.most cable output least most room, every_body more f.1 b.1)

  pub answer_comes_back : (a : Adapter) (e : Event) → in_range a ≡ true → EventFits e → Every ComesBack (reaction a e).frames
  answer_comes_back a e ranged typed =
      every_body (reaction a e).frames (sendable a e (ranges a ranged).2 typed).1 (frame_bytes a e typed)
