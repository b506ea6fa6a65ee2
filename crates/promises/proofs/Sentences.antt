-- Sentences of document 01 that no one definition says by itself, each as a law over every state, or over all registers, whatever they hold. Assumes nothing.
use Prim.Native.Nat.{ℕ, ◌%◌, ◌<◌}
use mathlib.Core.Bool.{true, false, not, true≢false}
use mathlib.Core.Logic.{inl, inr}
use mathlib.Core.Path.{◌≡◌, refl, sym, ap, ◌∙◌}
use mathlib.Core.List.{List, ◌∷◌}
use Rattle.std.specs.Prelude.{None}
use native.Mathlib.Nat.{mod-eq_of_lt}
use native.Mathlib.Omega.{arith}
use borrow.Author.Tests.{eq-eqb, ne_eqb}
use lib.Bits.{bit_and, and_mask}
use lib.Dec.{eqb, lit≤}
use lib.ListN.{length, replicate}
use Rattle.bits.specs.Bits.{bit_of}
use Rattle.commands.specs.declared.request.Request.{Request}
use Rattle.commands.specs.Channels.{channel_of}
use Rattle.commands.specs.Command.{code_of}
use Rattle.commands.specs.declared.channel.Channel.TheVariants.{Controller, Spi}
use Rattle.commands.specs.declared.command.Control.{Control}
use Rattle.commands.specs.declared.command.Control.TheVariants.{B}
use Rattle.commands.specs.declared.command.Register.TheVariants.{ChipId, SpiGo, Seu}
use Rattle.parts.specs.Parts.{part}
use Rattle.parts.specs.Digits.{number}
use Rattle.registers.specs.Registers.{size, read, store, written}
use Rattle.registers.proofs.Laws.{read_same, read_other, length_store}
use Rattle.channels.specs.Rows.{register_of, is_enabled, is_busy, settled}
use Rattle.channels.proofs.Laws.{settled_drops, settled_zero, own_elsewhere, controls_own}
use Rattle.channels.specs.Errors.{decoded}
use Rattle.channels.specs.Perform.{replied, performed}
use Rattle.numbers.specs.Numbers.{not_busy, no_frame}
use Rattle.state.specs.State.{Adapter, powered_on, with_registers}
use Rattle.chip.specs.Event.{spi, frame, completion, upset}
use Rattle.chip.specs.Answer.{gives}
use Rattle.link.specs.Link.{number_in, in_loopback}
use Rattle.chip.specs.Frame.{connected, reset, numbered, carried, addressed, on_frame}
use Rattle.chip.specs.Chip.{on_spi, on_upset, reaction}

-- ---- "Bits 7 to 4 of incoming control are not read."

-- a control with bit 0 clear is no command's
odd : (c n : ℕ) → bit_of n 0 ≡ true → bit_of c 0 ≡ false → eqb c n ≡ false
odd c n o e = ne_eqb c n (λ z. true≢false (sym o ∙ ap (λ (x : ℕ). bit_of x 0) (sym z) ∙ e))

module _ (a : Adapter) (port x c d : ℕ) (info : List ℕ) where
  -- Of an information frame's control, bits 3 to 1 alone are read: with these bits the same, the answer is the same.
  pub high_bits_not_read : in_loopback a.link port ≡ false → bit_of c 0 ≡ false → bit_of d 0 ≡ false → number_in c ≡ number_in d
      → reaction a (frame port (x ∷ c ∷ info)) ≡ reaction a (frame port (x ∷ d ∷ info))
  unfolding reaction on_frame addressed carried numbered
  high_bits_not_read l e f n = simp (l, odd, e, f, n)

-- ---- "An upset adds 1 to a 32-bit counter that wraps to 0, and gives 17."

pub wraps : (a : Adapter) → read a.registers Seu ≡ 0xFFFFFFFF → reaction a upset ≡ gives (with_registers a (store a.registers Seu 0)) no_frame
unfolding reaction on_upset
wraps a e = simp e

-- ---- "GO gives no reply yet (17) and makes SPI busy."

-- a GO, in a request with any TRN that is answered and any data, to an SPI that is enabled and not busy
pub go_makes_busy : (rs : List ℕ) (trn d : ℕ) → length rs ≡ size → 0 < trn → trn < 0xFF → is_enabled rs Spi ≡ true → is_busy rs Spi ≡ false
    → let go : Request = record { trn = trn; ch = 0x01; len = 2; cmd = 0x72; value = d } in (replied rs go ≡ None) × (is_busy (performed rs go) Spi ≡ true)
unfolding replied performed decoded channel_of code_of
go_makes_busy rs trn d n l u on idle =
    simp (ne_eqb trn 0x00 (λ e. omega arith), ne_eqb trn 0xFF (λ e. omega arith), on, idle) (refl, ap not (ne_eqb _ 0 (λ e. kept e)))
  where
    kept : read (store rs SpiGo trn) SpiGo ≡ 0 → ⊥
    kept e =
        let m : trn % 256 ≡ trn = mod-eq_of_lt (omega arith) in
        let z : bit_and trn 255 ≡ 0 = sym (read_same rs SpiGo trn n) ∙ e in
        omega (arith, and_mask trn 8)

-- ---- "Disabling, or RESET, while busy drops the GO for good; CONNECT does not."

idle : (a : Adapter) (received : List ℕ) → read a.registers SpiGo ≡ 0 → reaction a (completion (spi received)) ≡ gives a not_busy
unfolding reaction on_spi
idle a received e = simp (eq-eqb _ 0 e)

-- A write of the controller leaves registers `settled`. One of CRB that disables SPI leaves no GO (`off` are the registers as it writes them), and no
-- later one, of whichever register, brings it back, though it may enable SPI again: a completion is 15.
pub disabling_drops : (off : List ℕ) → length off ≡ size → is_enabled off Spi ≡ false → read (settled B off) SpiGo ≡ 0
disabling_drops off n e = settled_drops B off n Spi (inl refl) e SpiGo refl

pub dropped_for_good : (a : Adapter) (rs received : List ℕ) (c : Control) (d : ℕ) → length rs ≡ size → read rs SpiGo ≡ 0
    → let b = with_registers a (settled c (written rs (register_of c) d)) in
    (read b.registers SpiGo ≡ 0) × (reaction b (completion (spi received)) ≡ gives b not_busy)
dropped_for_good a rs received c d n z = (still, idle _ received still)
  where
    elsewhere : read (written rs (register_of c) d) SpiGo ≡ 0
    elsewhere = own_elsewhere Spi Controller rs (register_of c) SpiGo _ n refl (controls_own c) (inr (lit≤ tt)) ∙ z

    still : read (settled c (written rs (register_of c) d)) SpiGo ≡ 0
    still = settled_zero c (written rs (register_of c) d) (length_store rs (register_of c) _ n) Spi SpiGo refl elsewhere

no_go : read (replicate size 0) SpiGo ≡ 0
unfolding read part number
no_go = refl

pub reset_drops : (a : Adapter) (port : ℕ) (received : List ℕ) → reaction (reset a port) (completion (spi received)) ≡ gives (reset a port) not_busy
unfolding powered_on
reset_drops a port received = idle (reset a port) received (read_other (replicate size 0) ChipId _ refl SpiGo refl ∙ no_go)

-- the registers as they were, an open GO too
pub connect_keeps : (a : Adapter) (port : ℕ) → (connected a port).registers ≡ a.registers
connect_keeps a port = refl
