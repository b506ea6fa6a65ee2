-- THE FCS. A flag answers 23 exactly where the last sixteen bits of the content are not the FCS of the bits before them, and a body that
-- comes back is the one whose content stood there. `at_flag` tests the register's residue; these laws say that it is the same.
use mathlib.Core.Path.{◌≡◌, refl, sym, ap, ap₂, ◌∙◌}
use mathlib.Core.Bool.{false}
use mathlib.Core.Logic.{◌↔◌}
use mathlib.Core.List.{List, ◌++◌}
use Prim.Native.Nat.{ℕ, ◌+◌, ◌-◌, ◌/◌, ◌%◌, ◌≤◌}
use native.Mathlib.Omega.{arith}
use borrow.Author.Tests.{eq-eqb, ne_eqb, le-ltb}
use lib.Dec.{eqb}
use lib.ListN.{length, take, drop, length-take}
use Rattle.numbers.specs.Numbers as number
use Rattle.wire.specs.Bits.{wire}
use Rattle.wire.specs.Fcs.{register, preset, residue}
use Rattle.wire.specs.Frame.{flag, content_of}
use Rattle.receiver.specs.declared.Receiver.{Receiver}
use Rattle.receiver.specs.Receiver.{opened, view}
use Rattle.receiver.specs.Receive.{Answer, bare, at_flag, Reading, reading, read_from, received, output_after}
use Rattle.wire.proofs.Bits.{AreBits, AreBytes, bits_take, bytes_pack, length_pack}
use Rattle.wire.proofs.Residue.{residue_content, content_last, last_residue}
use Rattle.promises.specs.Wire.{absent, six_ones, destuff, bytes_before, FcsRight}
use Rattle.promises.specs.Calls.{Accepted, told}
use Rattle.promises.proofs.Steps.{at_flag_cases, at_flag_answers}
use Rattle.promises.proofs.Stuffing.{bits_unstuff}
use Rattle.promises.proofs.Readings.{frame_read}
use Rattle.promises.proofs.Called.{front_bits, told_answer}
use Rattle.promises.proofs.RoundTrip.{content_answer}

-- ---- content of whole bytes, neither short nor long

module _ {c : List ℕ} (bits : AreBits c) (least : 32 ≤ length c) (most : length c ≤ 144) (whole : length c % 8 ≡ 0) where
  enough : 16 ≤ length c
  enough = omega arith

  front_length : length (take (length c - 16) c) ≡ length c - 16
  front_length = length-take (length c - 16) c ∙ omega arith

  before_length : length (bytes_before c) ≡ (length c - 16) / 8
  before_length = length_pack (take (length c - 16) c) ∙ ap (λ (n : ℕ). n / 8) front_length

  before_small : AreBytes (bytes_before c)
  before_small =
      let z : length (take (length c - 16) c) % 8 ≡ 0 = rw front_length (omega arith) in
      bytes_pack (take (length c - 16) c) (bits_take (length c - 16) bits) z

  -- Right: the body is the bytes before the FCS.
  pub right_fcs : FcsRight c → at_flag c ≡ record { number = number.has_frame; body = bytes_before c }
  right_fcs h =
      ap at_flag (residue_content bits enough whole (last_residue bits enough whole h))
      ∙ content_answer (bytes_before c) before_small (omega (arith, before_length)) (omega (arith, before_length))

  -- WRONG IS 23,
  pub wrong_fcs_lem : (FcsRight c → ⊥) → at_flag c ≡ bare number.wrong_fcs
  unfolding at_flag
  wrong_fcs_lem h =
      let r : eqb (register preset c) residue ≡ false =
      ne_eqb (register preset c) residue (λ e. h (content_last bits enough whole (residue_content bits enough whole e))) in
      rw (le-ltb (length c) 32 least, le-ltb 144 (length c) most, eq-eqb (length c % 8) 0 whole, r) refl

  -- and 23 is wrong.
  pub wrong_exactly : ((at_flag c).number ≡ number.wrong_fcs) ↔ (FcsRight c → ⊥)
  wrong_exactly = (
    λ n r. let z : number.has_frame ≡ number.wrong_fcs = sym (ap (λ (x : Answer). x.number) (right_fcs r)) ∙ n in omega arith,
    λ w. ap (λ (x : Answer). x.number) (wrong_fcs_lem w),
  )

-- ---- any content

-- WHAT COMES BACK STOOD THERE: content that a flag answers with a body is that body and its FCS.
pub sent_content : {c : List ℕ} → AreBits c → (at_flag c).number ≡ number.has_frame → c ≡ content_of (at_flag c).body
sent_content {c = c} bits =
    at_flag_cases (λ a. a.number ≡ number.has_frame → c ≡ content_of (at_flag c).body) c (λ _ h. absurd (omega arith)) (λ _ h. absurd (omega arith))
    (λ least most whole r h.
    let same : c ≡ content_of (bytes_before c) = residue_content bits (omega arith) whole r in
    same ∙ ap content_of (sym (ap (λ (x : Answer). x.body) (right_fcs bits least most whole (content_last bits (omega arith) whole same)))))
    (λ h. absurd (omega arith)) (λ h. absurd (omega arith))

-- ---- the call

-- a frame between two flags, with at least 32 bits of content
module _ {rx : Receiver} {input output : List ℕ} {start : ℕ} (a : Accepted rx input start output) (raw rest : List ℕ) (v : view rx ≡ opened)
    (e : drop start (wire input) ≡ raw ++ (flag ++ rest)) (h : absent six_ones raw) (least : 32 ≤ length (destuff raw)) where
  abbrev tells : Answer
  tells = told (received rx input start output) (output_after rx input start output)

  told_flag : tells ≡ at_flag (destuff raw)
  told_flag =
      let r : read_from rx input start ≡ record { answer = at_flag (destuff raw); state = opened; consumed = length raw + 8 } =
      ap₂ reading v e ∙ frame_read (front_bits input start raw (flag ++ rest) e) rest h ∙ rw (at_flag_answers (destuff raw) least) refl in
      told_answer a ∙ ap (λ (x : Reading). x.answer) r

  -- THE CALL GIVES 23 EXACTLY WHERE THE FCS IS WRONG,
  pub wrong_received : length (destuff raw) ≤ 144 → length (destuff raw) % 8 ≡ 0
      → ((received rx input start output).number ≡ number.wrong_fcs) ↔ (FcsRight (destuff raw) → ⊥)
  wrong_received most whole =
      let n : (received rx input start output).number ≡ (at_flag (destuff raw)).number = ap (λ (x : Answer). x.number) told_flag in
      let w = wrong_exactly (bits_unstuff raw 0) least most whole in
      (λ q. w.0 (sym n ∙ q), λ q. n ∙ w.1 q)

  -- and a body at the front of the output is the one whose content stood between the flags.
  pub body_received : (received rx input start output).number ≡ number.has_frame
      → destuff raw ≡ content_of (take (received rx input start output).length (output_after rx input start output))
  body_received q =
      let n : (at_flag (destuff raw)).number ≡ number.has_frame = sym (ap (λ (x : Answer). x.number) told_flag) ∙ q in
      sent_content (bits_unstuff raw 0) n ∙ ap (λ (x : Answer). content_of x.body) (sym told_flag)
