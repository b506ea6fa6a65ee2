-- `events::happen` meets its contract: what the chip gives, with a frame and without one. Assumes nothing.
use Rattle.std.proofs.Common.{◌≡◌, drop, rules}
use Rattle.adapter.proofs.Cases.{sends_frame, stays_silent}
use Rattle.adapter.proofs.events.happen.Goals as goal

pub returns-in_err-response : goal.returns-in_err-response
returns-in_err-response c =
    let rest : c.in-Some.registers.now ≡ drop 5 c.args.state.now = search rules in
    stays_silent c.args.state.now (search rules) _ _ c.link_of-link.ensures c.react-response.result c.split_at_mut-registers.result.0.now _
    c.react-response.new.registers _ (search rules) rest c.store_link.ensures _ _ c.react-response.ensures _ _ c.record_event.ensures _ _
    c.in_err-response.was c.from_residual.ensures.1

pub returns : goal.returns
returns c =
    let rest : c.in-Some.registers.now ≡ drop 5 c.args.state.now = search rules in
    sends_frame c.args.state.now (search rules) _ _ c.link_of-link.ensures c.react-response.result c.split_at_mut-registers.result.0.now _
    c.react-response.new.registers _ (search rules) rest c.store_link.ensures _ _ c.react-response.ensures _ _ c.record_event.ensures _
    c.in_ok-response.was
