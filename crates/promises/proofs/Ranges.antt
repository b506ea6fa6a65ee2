-- RANGES: every receiver that `receive` gives back is in range, and a state has one receiver in range.
use mathlib.Core.Path.{◌≡◌, sym, ap, ◌∙◌}
use mathlib.Core.Bool.{true}
use mathlib.Core.List.{List}
use Prim.Native.Nat.{ℕ, ◌<◌}
use lib.ListN.{length, get_or}
use Rattle.receiver.specs.declared.Receiver.{Receiver}
use Rattle.receiver.specs.Receiver.{view, image, in_range}
use Rattle.receiver.specs.Receive.{received}
use Rattle.promises.proofs.Cases.{receive_cases}
use Rattle.promises.proofs.States.{image_in_range, image_view}
use Rattle.promises.proofs.Called.{returned_held}

-- every call with a receiver in range gives one in range back, refused or not
pub all_in_range : (rx : Receiver) (input : List ℕ) (start : ℕ) (output : List ℕ) → in_range rx ≡ true → length rx.bytes ≡ 20
    → in_range (received rx input start output).rx ≡ true
all_in_range rx input start output h size =
    receive_cases rx input start output (λ x o. in_range x.rx ≡ true) (λ n r. h)
    (λ r i s o. image_in_range (returned_held {output = output} (record { range = h; size = size; short = i; inside = s; room = o })))

-- TWO RECEIVERS IN RANGE that stand for the same state are the same.
pub view_injective : (r r' : Receiver) → in_range r ≡ true → in_range r' ≡ true → length r.bytes ≡ 20 → length r'.bytes ≡ 20
    → ((i : ℕ) → get_or r.bytes i 0 < 256) → ((i : ℕ) → get_or r'.bytes i 0 < 256) → view r ≡ view r' → r ≡ r'
view_injective r r' h h' size size' small small' e = sym (image_view r h size small) ∙ ap image e ∙ image_view r' h' size' small'
