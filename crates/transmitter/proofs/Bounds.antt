-- How large the number is that a transmission gives back.
use mathlib.Core.Path.{◌≡◌, refl, ◌∙◌}
use mathlib.Core.Bool.{◌&&◌}
use mathlib.Core.List.{List, [], ◌∷◌, ◌++◌}
use Prim.Native.Nat.{ℕ, suc, ◌+◌, ◌*◌, ◌-◌, ◌%◌, ◌≤◌}
use native.Mathlib.Omega.{arith}
use borrow.Author.Tests.{leb-true}
use lib.Dec.{eqb, leb}
use lib.ListN.{length, length-append, length-replicate, replicate}
use Rattle.wire.specs.Fcs.{fcs}
use Rattle.wire.specs.Frame.{stuff, content_of}
use Rattle.transmitter.specs.Frame.{frame, filled, framed}
use Rattle.transmitter.specs.Transmit.{Sent, transmitted}
use Rattle.wire.proofs.Bits.{length_wire, length_pack}
use Rattle.bits.proofs.Tests.{cond_cases, both}

-- stuffing at most doubles
stuff_twice : (bs : List ℕ) (k : ℕ) → length (stuff k bs) ≤ 2 * length bs
unfolding stuff
stuff_twice [] k = omega arith
stuff_twice (b ∷ bs) k =
    let P : List ℕ → Type 0 = λ l. length l ≤ 2 * suc (length bs) in
    cond_cases P (eqb b 0) (λ q. omega (arith, stuff_twice bs 0))
    (λ q. cond_cases P (eqb k 4) (λ t. omega (arith, stuff_twice bs 0)) (λ t. omega (arith, stuff_twice bs (k + 1))))

filled_small : (bs : List ℕ) → length (filled bs) ≤ length bs + 7
unfolding filled
filled_small bs = omega (arith, length-append bs (replicate ((8 - length bs % 8) % 8) 1), length-replicate {A = ℕ} ((8 - length bs % 8) % 8) 1)

frame_length : (body : List ℕ) → length (frame body) ≡ length (stuff 0 (content_of body)) + 16
unfolding frame
frame_length body = simp length-append (omega arith)

content_length : (body : List ℕ) → length (content_of body) ≡ 8 * (length body + 2)
unfolding fcs
content_length body = length_wire (body ++ fcs body) ∙ rw (length-append body (fcs body)) refl

framed_small : (body : List ℕ) → length body ≤ 16 → length (framed body) ≤ 38
unfolding framed
framed_small body h =
    rw length_pack (omega (arith, filled_small (frame body), frame_length body, content_length body, stuff_twice (content_of body) 0))

-- what `transmit` counts, refused or not; `RoundTrip` of the crate promises has the exact bound
pub sent_small : (body o : List ℕ) → (transmitted body o).count ≤ 38
unfolding transmitted
sent_small body o =
    let P : Sent → Type 0 = λ r. r.count ≤ 38 in
    cond_cases P (leb 2 (length body) && leb (length body) 16)
    (λ p. cond_cases P (leb 24 (length o)) (λ q. framed_small body (leb-true (length body) 16 (both (leb 2 (length body)) (leb (length body) 16) p).1)) (λ q. omega arith))
    (λ p. omega arith)
