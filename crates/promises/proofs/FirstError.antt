-- ERR: for every request the reply is the one that `first_error` says, and the one change that an error reply makes. Assumes nothing.
use mathlib.Core.Path.{refl}
use Prim.Native.Nat.{ℕ}
use mathlib.Core.List.{List}
use Rattle.commands.specs.declared.request.Request.{Request}
use Rattle.commands.specs.Request.{fault_bit}
use Rattle.channels.specs.Errors.{error_of, first_error, decoded}
use Rattle.channels.specs.Perform.{replied, performed}
use Rattle.channels.proofs.Laws.{decoded_cases}
use Rattle.packets.specs.Packets.{request_of}
use Rattle.state.specs.State.{Adapter}
use Rattle.chip.specs.Event.{frame}
use Rattle.chip.specs.Request.{requested}
use Rattle.chip.specs.Frame.{information_of, counted}
use Rattle.chip.specs.Chip.{reaction}
use Rattle.promises.proofs.Errors.{Ruled, comes_to, granted, one_change, InOrder, in_order_lem}

ruled : (a : Adapter) (q : Request) → Ruled a q (error_of (decoded a.registers q)) (comes_to a q (decoded a.registers q))
ruled a q =
    decoded_cases a.registers q (λ d. Ruled a q (error_of d) (comes_to a q d))
    (λ f b. record { error = λ _. refl; change = λ _. one_change a q (fault_bit f) b; none = λ z. absurd (b.bit.set z) })
    (λ given does _. record { error = λ h. absurd (h refl); change = λ h. absurd (h refl); none = λ _. granted a q given does })

requested_ruled : (a : Adapter) (info : List ℕ) → Ruled a (request_of info) (first_error a.registers (request_of info)) (requested a info)
unfolding requested replied performed
requested_ruled a info = ruled a (request_of info)

-- THE FIRST ERROR: in whatever state, every request is answered with the ERR that `first_error` says, no register changed but for the one, and with
-- no error where it is 0. `counted` is check 8's "the receive number goes up by one".
pub first_error_lem : (a : Adapter) (port : ℕ) (body : List ℕ) → InOrder a port body
    → Ruled (counted a) (request_of (information_of body)) (first_error a.registers (request_of (information_of body))) (reaction a (frame port body))
first_error_lem a port body i = rw (in_order_lem a port body i) (requested_ruled (counted a) (information_of body))
