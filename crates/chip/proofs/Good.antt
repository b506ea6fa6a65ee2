-- Every event keeps a state good: its fields hold what their machine types hold, and it is in the range of document 01's number 6.
use Rattle.std.proofs.Common.{ℕ, ◌-◌, ◌≤◌, not, List, subst, arith, lit≤}
use borrow.Author.Tests.{not-false}
use Rattle.bits.proofs.Tests.{cond_cases, either}
use Rattle.channels.proofs.Laws.{performed_sound, sampled_sound, completed_sound, ended_sound, upset_sound}
use Rattle.channels.specs.Rows.{is_enabled}
use Rattle.commands.specs.Channels.{first_master}
use Rattle.commands.specs.declared.channel.Channel.TheVariants.{Gpio}
use Rattle.registers.specs.Pins.{interrupts}
use Rattle.parts.proofs.Laws.{bytes_drop}
use Rattle.link.specs.Link.{send_up}
use Rattle.state.specs.State.{Adapter, with_link}
use Rattle.state.proofs.Good.{Good, powered_good, relinked, stored}
use Rattle.chip.specs.Event.{Event, sample}
use Rattle.chip.specs.Answer.{Reaction}
use Rattle.chip.specs.Request.{replies}
use Rattle.chip.specs.Frame.{counted}
use Rattle.chip.specs.Chip.{on_sample, reaction}
use Rattle.chip.proofs.EventFits.{EventFits}
use Rattle.chip.proofs.Steps.{Commanded, connects, resets, tests, Moved, requests, completes, ends, samples, counts, state_cases}

counted_good : (a : Adapter) → Good a → Good (counted a)
counted_good a g = relinked a _ g g.send (omega arith) g.port

raised_good : (a : Adapter) → Good a → Good (with_link a (send_up a.link))
raised_good a g = relinked a _ g (omega arith) g.receive g.port

commanded_good : (a : Adapter) (port : ℕ) (body : List ℕ) (b : Adapter) → Commanded a port body b → Good a → port ≤ 1 → Good b
commanded_good a port body b (connects _) g p = relinked a _ g (lit≤ tt) (lit≤ tt) p
commanded_good a port body b (resets _) g p = powered_good port _ p
commanded_good a port body b (tests _) g p = relinked a _ g g.send g.receive g.port

moved_good : (a : Adapter) (e : Event) (b : Adapter) → Moved a e b → Good a → EventFits e → Good b
moved_good a e b (requests port body _) g f =
    stored (counted a) _ (counted_good a g)
    (performed_sound a.registers _ g.registers (record { trn = bytes_drop 2 body f.bytes 0; cmd = bytes_drop 2 body f.bytes 3 }))
moved_good a e b (completes received h) g f = stored a _ g (completed_sound a.registers g.registers received h)
moved_good a e b (ends channel acknowledge lineLow received t h) g f =
    let u = f.last in
    stored a _ g (ended_sound a.registers g.registers (channel - first_master) t acknowledge lineLow received (omega arith) h)
moved_good a e b (samples levels kind h) g f = stored a _ g (sampled_sound a.registers g.registers levels kind h)
moved_good a e b counts g f = stored a _ g (upset_sound a.registers g.registers _)

pub good_stays : (a : Adapter) (e : Event) → Good a → EventFits e → Good (reaction a e).adapter
good_stays a e g f =
    state_cases a e Good g (λ port body b h c. commanded_good a port _ b c g (subst EventFits h f).port) (λ b m. moved_good a e b m g f) raised_good

-- A pin sample does, whatever its levels and its kind are.
pub sample_good : (a : Adapter) (levels kind : ℕ) → Good a → Good (reaction a (sample levels kind)).adapter
unfolding reaction on_sample replies
sample_good a levels kind g =
    cond_cases (λ (r : Reaction). Good r.adapter) (not (is_enabled a.registers Gpio)) (λ _. g)
    (λ h.
    let taken = stored a _ g (sampled_sound a.registers g.registers levels kind (not-false _ h)) in
    either (λ (r : Reaction). Good r.adapter) (interrupts a.registers levels kind) _ _ (raised_good _ taken) taken)
