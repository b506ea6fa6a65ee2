-- How large the numbers are that a reading gives back.
use mathlib.Core.List.{List, [], ◌∷◌}
use Prim.Native.Nat.{ℕ, suc, ◌+◌, ◌*◌, ◌-◌, ◌%◌, ◌≤◌}
use native.Mathlib.Omega.{arith}
use borrow.Author.Tests.{leb-true, ltb-false}
use lib.Dec.{eqb, ltb, leb}
use lib.ListN.{length, drop, length-take, length-drop}
use Rattle.wire.specs.Bits.{wire}
use Rattle.wire.specs.Fcs.{register, preset, residue}
use Rattle.receiver.specs.Receiver.{State, Stop, decides, next, runs, view, in_range}
use Rattle.receiver.specs.Receive.{Answer, Reading, at_flag, reading, read_from, received}
use Rattle.receiver.specs.declared.Receiver.{Receiver}
use Rattle.receiver.specs.Received.{Received}
use Rattle.wire.proofs.Bits.{length_wire}
use Rattle.bits.proofs.Tests.{cond_cases}

-- a reading consumes no more bits than there are
used_most : (bits : List ℕ) (s : State) (n : ℕ) → (runs s n bits).used ≤ n + length bits
unfolding runs
used_most [] s n = omega arith
used_most (b ∷ bits) s n =
    cond_cases (λ (p : Stop). p.used ≤ n + suc (length bits)) (decides s b) (λ q. omega arith) (λ q. omega (arith, used_most bits (next s b) (n + 1)))

-- a body has at most 16 bytes
body_most_lem : (content : List ℕ) → length (at_flag content).body ≤ 16
unfolding at_flag
body_most_lem content =
    let P : Answer → Type 0 = λ a. length a.body ≤ 16 in
    cond_cases P (ltb (length content) 32) (λ q. omega arith)
    (λ q. cond_cases P (ltb 144 (length content)) (λ s. omega arith)
    (λ s. cond_cases P (eqb (length content % 8) 0)
    (λ t. cond_cases P (eqb (register preset content) residue) (λ u. simp length-take (omega (arith, ltb-false 144 (length content) s))) (λ u. omega arith))
    (λ t. omega arith)))

-- a reading's body and the bits that it consumed
pub record Small (n : ℕ) (r : Reading) : Type 0 where
  pub body : length r.answer.body ≤ 16
  pub bits : r.consumed ≤ n

pub read_small : (rx : Receiver) (input : List ℕ) (start : ℕ) → Small (8 * length input - start) (read_from rx input start)
unfolding reading
read_small rx input start =
    let p : Stop = runs (view rx) 0 (drop start (wire input)) in
    let h : p.used ≤ 8 * length input - start = omega (arith, used_most (drop start (wire input)) (view rx) 0, length-drop start (wire input), length_wire input) in
    cond_cases (Small (8 * length input - start)) (eqb p.hit 0) (λ q. record { body = omega arith; bits = h })
    (λ q. cond_cases (Small (8 * length input - start)) (eqb p.hit 1) (λ s. record { body = body_most_lem _; bits = h }) (λ s. record { body = omega arith; bits = h }))

-- what `receive` gives back, refused or not
pub received_small : (rx : Receiver) (input : List ℕ) (start : ℕ) (o : List ℕ)
    → ((received rx input start o).length ≤ 16) × ((received rx input start o).consumed ≤ 524288)
unfolding received
received_small rx input start o =
    let P : Received → Type 0 = λ r. (r.length ≤ 16) × (r.consumed ≤ 524288) in
    let s = read_small rx input start in
    cond_cases P (in_range rx)
    (λ p. cond_cases P (leb (length input) 65536)
    (λ q. cond_cases P (leb start (8 * length input))
    (λ t. cond_cases P (leb 16 (length o)) (λ u. (s.body, omega (arith, s.bits, leb-true (length input) 65536 q))) (λ u. (omega arith, omega arith)))
    (λ t. (omega arith, omega arith)))
    (λ q. (omega arith, omega arith)))
    (λ p. (omega arith, omega arith))
