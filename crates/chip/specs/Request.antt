-- A request answered, and its reply.
use Rattle.std.specs.Prelude.{ℕ, List, Option, None, Some}
use Rattle.commands.specs.declared.request.Reply.{Reply}
use Rattle.numbers.specs.Numbers.{no_frame}
use Rattle.packets.specs.Packets.{request_of, reply_body}
use Rattle.channels.specs.Perform.{replied, performed}
use Rattle.link.specs.Link.{reply_control, send_up}
use Rattle.state.specs.State.{Adapter, with_link, with_registers}
use Rattle.chip.specs.Answer.{Reaction, sends, gives}

-- A reply or an interrupt leaves on the active port; the send number then goes up by one modulo 8.
unfoldable pub replies : Adapter → ℕ → ℕ → ℕ → ℕ → ℕ → Reaction
replies a trn ch err len d =
    sends (with_link a (send_up a.link)) a.link.port (reply_body (reply_control a.link) trn ch err len d)

-- A reply that is sent is number 0, one that comes later is 17; TRN and CH are the request's.
abbrev pub finished : Adapter → ℕ → ℕ → Option Reply → Reaction
finished a trn ch (Some r) = replies a trn ch r.error r.length r.value
finished a trn ch None = gives a no_frame

unfoldable pub requested : Adapter → List ℕ → Reaction
requested a info =
    let q = request_of info in
    finished (with_registers a (performed a.registers q)) q.trn q.ch (replied a.registers q)
