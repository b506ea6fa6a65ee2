-- The laws of a state's bytes: a state is read back from them, and has no other spelling. Assumes nothing.
use Prim.Native.Nat.{ℕ, ◌+◌, ◌≤◌}
use mathlib.Core.Path.{◌≡◌, refl, sym, ap, ap₂, ◌∙◌}
use mathlib.Core.Bool.{Bool, true, false, ◌&&◌}
use mathlib.Core.List.{List, [], ◌∷◌, ◌++◌}
use native.Mathlib.Omega.{arith}
use lib.ListN.{length, take, drop, get_or, length-append, length-drop, take-append-drop}
use lib.Seq.{take_all}
use lib.Dec.{eqb, leb}
use borrow.Author.Tests.{eq-eqb, eqb-true, eqb-false, leb-true}
use Rattle.bits.specs.Bits.{digit}
use Rattle.bits.proofs.Tests.{and_left, and_right}
use Rattle.parts.specs.Parts.{part}
use Rattle.parts.proofs.Laws.{AreBytes, bytes_take, bytes_drop, length_part}
use Rattle.registers.specs.Registers.{size}
use Rattle.state.specs.State.{Adapter, in_range}
use Rattle.state.specs.Bytes.{link_bytes, state_size, link_image, state_bytes, state_in, spelled, is_state}
use Rattle.state.proofs.Good.{Good, good, good_ranged}

-- ---- bytes that are a state

module _ (s : List ℕ) (h : is_state s ≡ true) where
  pub its_length : length s ≡ state_size
  unfolding is_state
  its_length = eqb-true (length s) state_size (search (and_left, and_right))

  its_spelling : spelled s ≡ true
  unfolding is_state
  its_spelling = search (and_left, and_right)

  pub its_range : in_range (state_in s) ≡ true
  unfolding is_state
  its_range = search and_right

  -- what the language's types hold of its bytes holds of its fields
  pub its_good : AreBytes s → Good (state_in s)
  unfolding state_in part
  its_good b =
      let n = its_length in
      good (state_in s)
      (record { long = length_part link_bytes size s (omega arith); bytes = bytes_take size (drop link_bytes s) (bytes_drop link_bytes s b) }) its_range

-- ---- a state is read back

loops : (t : Bool) → (eqb (digit t) 1 ≡ t) × (leb (digit t) 1 ≡ true)
loops true = (refl, refl)
loops false = (refl, refl)

module _ (a : Adapter) (n : length a.registers ≡ size) where
  pub length_state : length (state_bytes a) ≡ state_size
  unfolding state_bytes
  length_state = length-append (link_image a.link) a.registers ∙ ap (λ (k : ℕ). link_bytes + k) n

  registers_back : part link_bytes size (state_bytes a) ≡ a.registers
  unfolding state_bytes part
  registers_back = take_all size a.registers (omega arith)

  pub state_back : state_in (state_bytes a) ≡ a
  unfolding state_in state_bytes
  state_back = rw (registers_back, (loops a.link.primary.loopback).0, (loops a.link.auxiliary.loopback).0) refl

well_spelled : (a : Adapter) → spelled (state_bytes a) ≡ true
unfolding state_bytes
well_spelled a = ap₂ ◌&&◌ (loops a.link.primary.loopback).1 (loops a.link.auxiliary.loopback).1

pub state_bytes_lem : (a : Adapter) → Good a → is_state (state_bytes a) ≡ true
unfolding is_state
state_bytes_lem a g =
    let n = g.registers.fits.long in
    rw (eq-eqb (length (state_bytes a)) state_size (length_state a n), state_back a n, good_ranged a g, well_spelled a) refl

-- ---- a state has no other spelling

loop_again : (n : ℕ) → n ≤ 1 → digit (eqb n 1) ≡ n
loop_again n h = by (eqb n 1) refl
  where
    by : (t : Bool) → eqb n 1 ≡ t → digit t ≡ n
    by true e = sym (eqb-true n 1 e)
    by false e = let f = eqb-false n 1 e in omega arith

front_five : (s : List ℕ) → 5 ≤ length s → take 5 s ≡ get_or s 0 0 ∷ get_or s 1 0 ∷ get_or s 2 0 ∷ get_or s 3 0 ∷ get_or s 4 0 ∷ []
front_five [] h = absurd (omega arith)
front_five (x ∷ []) h = absurd (omega arith)
front_five (x ∷ y ∷ []) h = absurd (omega arith)
front_five (x ∷ y ∷ z ∷ []) h = absurd (omega arith)
front_five (x ∷ y ∷ z ∷ t ∷ []) h = absurd (omega arith)
front_five (x ∷ y ∷ z ∷ t ∷ u ∷ s) h = refl

pub state_again : (s : List ℕ) → is_state s ≡ true → state_bytes (state_in s) ≡ s
unfolding state_bytes state_in part
state_again s h =
    let n = its_length s h in
    let f = its_spelling s h in
    let l : length (drop link_bytes s) ≡ size = length-drop link_bytes s ∙ (omega arith) in
    rw (
      loop_again (get_or s 3 0) (leb-true _ 1 (and_left (leb (get_or s 3 0) 1) (leb (get_or s 4 0) 1) f)),
      loop_again (get_or s 4 0) (leb-true _ 1 (and_right (leb (get_or s 3 0) 1) (leb (get_or s 4 0) 1) f)),
      take_all size (drop link_bytes s) (omega arith),
    )
    (ap (λ (l : List ℕ). l ++ drop link_bytes s) (sym (front_five s (omega arith))) ∙ take-append-drop link_bytes s)
