-- AN EVENT CHANGES NO REGISTER OUTSIDE THE CORE AND ITS GROUP, and not the ID; but for an accepted RESET, which leaves no record.
use Rattle.std.proofs.Common.{◌≡◌, ℕ, ◌-◌, ◌%◌, ◌^◌, ◌≤◌, true, false, eqb, List, length, replicate, sym, refl, ap, ◌∙◌, subst, inl, true≢false, mod-eq_of_lt, arith, lit≤, eqb-true}
use lib.Bits.{bit_and, and_mask}
use Rattle.bits.proofs.Tests.{and_left, and_right}
use Rattle.commands.specs.declared.command.Control.TheVariants.{B, C, D}
use Rattle.commands.specs.declared.command.Register.TheVariants.{ChipId}
use Rattle.commands.specs.Channels.{first_master}
use Rattle.registers.specs.Registers.{size, read}
use Rattle.registers.proofs.Laws.{read_same}
use Rattle.channels.specs.Groups.{span_of, group_for}
use Rattle.std.specs.Prelude.{Option, None, Some}
use Rattle.commands.specs.declared.command.Control.{Control}
use Rattle.channels.proofs.Laws.{Sound, SameOutside, performed_outside, sampled_outside, completed_outside, ended_outside, upset_outside}
use Rattle.parts.specs.Parts.{part}
use Rattle.parts.specs.Digits.{number}
use Rattle.packets.specs.Packets.{request_of}
use Rattle.state.specs.State.{Adapter, powered_on}
use Rattle.chip.specs.Event.{Event, frame}
use Rattle.chip.specs.Frame.{information_of}
use Rattle.chip.specs.Chip.{reaction, accepted_reset}
use Rattle.chip.specs.Group.{group_of_frame, group_of}
use Rattle.chip.proofs.Steps.{Commanded, connects, resets, tests, Moved, requests, completes, ends, samples, counts, state_cases}

request_group : (body : List ℕ) → eqb (length (information_of body)) 8 ≡ true → group_for (request_of (information_of body)) ≡ group_of_frame body
unfolding group_of_frame
request_group body h = simp h

module _ (a : Adapter) (n : length a.registers ≡ size) where
  moved_outside : (e : Event) (b : Adapter) → Moved a e b → SameOutside (group_of e) b.registers a.registers
  moved_outside e b (requests port body h) =
      subst (λ (g : Option Control). SameOutside g b.registers a.registers) (request_group body h) (performed_outside a.registers n (request_of (information_of body)))
  moved_outside e b (completes received h) = completed_outside a.registers n received
  moved_outside e b (ends channel acknowledge lineLow received t h) = ended_outside a.registers n (channel - first_master) t acknowledge lineLow received
  moved_outside e b (samples levels kind h) = sampled_outside a.registers n levels kind
  moved_outside e b counts = upset_outside a.registers n _

  commanded_stays : (port : ℕ) (body : List ℕ) (b : Adapter) → Commanded a port body b → accepted_reset (frame port body) ≡ false → b.registers ≡ a.registers
  commanded_stays port body b (connects _) h = refl
  commanded_stays port body b (resets r) h = absurd (true≢false (sym r ∙ h))
  commanded_stays port body b (tests _) h = refl

  pub outside : (e : Event) → accepted_reset e ≡ false → SameOutside (group_of e) (reaction a e).adapter.registers a.registers
  outside e h =
      state_cases a e (λ (b : Adapter). SameOutside (group_of e) b.registers a.registers) (λ p m l o. refl)
      (λ port body b i c p m l o. ap (part p m) (commanded_stays port body b c (ap accepted_reset (sym i) ∙ h))) (moved_outside e) (λ b u. u)

-- THE CHIP'S ID, as it was given at power-on, STAYS whatever happens
pub id_given : (port id : ℕ) → id ≤ 0xFFFFFF → read (powered_on port id).registers ChipId ≡ id
unfolding powered_on
id_given port id h =
    let m : id % 2 ^ 24 ≡ id = mod-eq_of_lt (omega arith) in
    read_same (replicate size 0) ChipId id refl ∙ and_mask id 24 ∙ m

module _ (a : Adapter) (s : Sound a.registers) where
  -- no more than 24 bits
  id_small : bit_and (read a.registers ChipId) 0xFFFFFF ≡ read a.registers ChipId
  id_small = eqb-true _ _ (search (and_left, and_right))

  commanded_id : (port : ℕ) (body : List ℕ) (b : Adapter) → Commanded a port body b → read b.registers ChipId ≡ read a.registers ChipId
  unfolding powered_on
  commanded_id port body b (connects _) = refl
  commanded_id port body b (resets _) = read_same (replicate size 0) ChipId _ refl ∙ id_small
  commanded_id port body b (tests _) = refl

  pub id_stays : (e : Event) → read (reaction a e).adapter.registers ChipId ≡ read a.registers ChipId
  unfolding read
  id_stays e =
      state_cases a e (λ (b : Adapter). read b.registers ChipId ≡ read a.registers ChipId) refl (λ port body b _ c. commanded_id port body b c)
      (λ b m. ap number (moved_outside a s.fits.long e b m 11 4 (lit≤ tt) (inl (before_groups (group_of e))))) (λ b h. h)
    where
      before_groups : (g : Option Control) → 15 ≤ (span_of g).first
      before_groups None = lit≤ tt
      before_groups (Some B) = lit≤ tt
      before_groups (Some C) = lit≤ tt
      before_groups (Some D) = lit≤ tt
