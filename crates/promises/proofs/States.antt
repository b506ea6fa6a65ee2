-- The states that arise, which every bit keeps, and the structs in range that stand for them.
use mathlib.Core.Path.{◌≡◌, refl, sym, ap, ap₂, ◌∙◌}
use mathlib.Core.Bool.{true}
use mathlib.Core.Logic.{⊎_elim, inl, inr}
use mathlib.Core.List.{List, [], ◌∷◌, ◌++◌, foldl}
use Prim.Native.Nat.{ℕ, zero, suc, ◌+◌, ◌-◌, ◌%◌, ◌≤◌, ◌<◌, min}
use native.Mathlib.Nat.{eq-or-lt_of_le}
use lib.Pow.{pow_pos}
use native.Mathlib.Omega.{arith}
use borrow.Author.Tests.{le-leb, eqb-true, ltb-true, ltb-false}
use lib.Dec.{eqb, ltb, lit≤}
use lib.ListN.{length, take, drop, replicate, length-append, length-take, length-drop, length-replicate, take-append-drop}
use lib.Seq.{take_at, drop_at}
use Rattle.wire.specs.Bits.{low, wire, num, pack}
use Rattle.receiver.specs.Receiver.{State, push, next, view, image, fields_fit, in_range}
use Rattle.receiver.specs.Receive.{reading}
use Rattle.receiver.specs.declared.Receiver.{Receiver}
use Rattle.wire.proofs.Bits.{Bit, AreBits, AreBytes, none, more, bits_append, bits_take, bits_drop, bits_wire, bits_zeros, length_wire, num_low, low_num, length_pack, pack_wire, wire_pack}
use Rattle.bits.proofs.Tests.{both, cond_cases, either}
use Rattle.receiver.proofs.Fields.{Fields, fields}
use Rattle.promises.specs.Wire.{hunter}
use Rattle.promises.proofs.Steps.{split}
use Rattle.promises.proofs.Calls.{call_state}

-- the states that arise
pub data Held : State → Type 0 where
  hunts_on : {j : ℕ} → j ≤ 7 → Held (hunter j)
  frames : {k l : ℕ} {c : List ℕ} → k ≤ 6 → l ≤ 1 → length c ≤ 152 → l + min k 5 ≤ length c → AreBits c
      → Held (record { mode = 1; ones = k; lead = l; content = c })

-- a state that arises and hunts
pub record HuntedState (s : State) : Type 0 where
  pub few : s.ones ≤ 7
  pub same : s ≡ hunter s.ones

pub hunted_state : {s : State} → Held s → s.mode ≡ 0 → HuntedState s
hunted_state (hunts_on h) m = record { few = h; same = refl }
hunted_state (frames hk hl hc h bits) m = absurd (omega arith)

-- ---- kept by every bit

record Pushed (c p : List ℕ) : Type 0 where
  most : length p ≤ 152
  least : min (length c + 1) 152 ≤ length p
  bits : AreBits p

pushes : (c : List ℕ) (b : ℕ) → length c ≤ 152 → AreBits c → Bit b → Pushed c (push 1 c b)
pushes c b h hc hb =
    split (ltb (length c) 152)
    (λ e.
    let l : length c < 152 = ltb-true (length c) 152 e in
    rw e
    (record { most = simp length-append (omega arith); least = simp length-append (omega arith); bits = bits_append hc (more hb none) }))
    (λ e. let l : 152 ≤ length c = ltb-false (length c) 152 e in rw e (record { most = h; least = omega arith; bits = hc }))

pub held_next : {s : State} (b : ℕ) → Bit b → Held s → Held (next s b)
held_next b (inl z) (hunts_on {j} h) =
    rw z
    (either Held (ltb j 5) _ _ (hunts_on (lit≤ tt))
    (either Held (eqb j 6) _ _ (frames (lit≤ tt) (lit≤ tt) (lit≤ tt) (lit≤ tt) none) (hunts_on (lit≤ tt))))
held_next b (inr z) (hunts_on {j} h) =
    rw z
    (cond_cases Held (ltb j 5) (λ e. let l : j < 5 = ltb-true j 5 e in hunts_on (omega arith))
    (λ e. either Held (eqb j 5) _ _ (hunts_on (lit≤ tt)) (hunts_on (lit≤ tt))))
held_next b (inl z) (frames {k} {l} {c} hk hl hc h bits) =
    let p : Pushed c (push 1 c 0) = pushes c 0 hc bits (inl refl) in
    rw z
    (cond_cases Held (ltb k 5) (λ e. let least = p.least in frames (lit≤ tt) (lit≤ tt) p.most (omega arith) p.bits)
    (λ e. either Held (eqb k 6) _ _ (frames (lit≤ tt) (lit≤ tt) (lit≤ tt) (lit≤ tt) none) (frames (lit≤ tt) (lit≤ tt) hc (omega arith) bits)))
held_next b (inr z) (frames {k} {l} {c} hk hl hc h bits) =
    let p : Pushed c (push 1 c 1) = pushes c 1 hc bits (inr refl) in
    rw z
    (cond_cases Held (ltb k 5)
    (λ e. let least = p.least in let k5 : k < 5 = ltb-true k 5 e in frames (omega arith) hl p.most (omega arith) p.bits)
    (λ e. cond_cases Held (eqb k 5) (λ f. let k5 : k ≡ 5 = eqb-true k 5 f in frames (lit≤ tt) hl hc (omega arith) bits) (λ f. hunts_on (lit≤ tt))))

pub held_all : {bits : List ℕ} → AreBits bits → (s : State) → Held s → Held (foldl next s bits)
held_all none s h = h
held_all {bits = b ∷ bs} (more z hb) s h = held_all hb (next s b) (held_next b z h)

-- a reading leaves a state that arises
pub held_reading : {bits : List ℕ} → AreBits bits → (s : State) → Held s → Held (reading s bits).state
held_reading {bits = bits} hb s h =
    rw (call_state s bits) (held_all (bits_take (reading s bits).consumed hb) s h)

-- ---- the struct that stands for a state

low_zeros : (n : ℕ) → low n 0 ≡ replicate n 0
unfolding low
low_zeros zero = refl
low_zeros (suc n) = ap (λ (l : List ℕ). 0 ∷ l) (low_zeros n)

num_zeros : (n : ℕ) → num (replicate n 0) ≡ 0
num_zeros n = ap num (sym (low_zeros n)) ∙ num_low n 0 (pow_pos n)

module _ (c : List ℕ) (h : length c ≤ 152) (bits : AreBits c) where
  abbrev spelled : List ℕ
  spelled = pack (c ++ replicate (160 - length c) 0)

  wire_spelled : wire spelled ≡ c ++ replicate (160 - length c) 0
  wire_spelled =
      let l : length (c ++ replicate (160 - length c) 0) ≡ 160 = simp (length-append, length-replicate) (omega arith) in
      let e : length (c ++ replicate (160 - length c) 0) % 8 ≡ 0 = rw l refl in
      wire_pack (c ++ replicate (160 - length c) 0) (bits_append bits (bits_zeros (160 - length c))) e

  size_spelled : length spelled ≡ 20
  size_spelled =
      let l : length (c ++ replicate (160 - length c) 0) ≡ 160 = simp (length-append, length-replicate) (omega arith) in
      length_pack (c ++ replicate (160 - length c) 0) ∙ rw l refl

  take_spelled : take (length c) (wire spelled) ≡ c
  take_spelled = rw wire_spelled (take_at c (replicate (160 - length c) 0) (length c) refl)

  drop_spelled : num (drop (length c) (wire spelled)) ≡ 0
  drop_spelled = rw (wire_spelled, drop_at c (replicate (160 - length c) 0) (length c) refl) (num_zeros (160 - length c))

-- A STATE AND ITS STRUCT: the struct of a state that arises stands for that state, and is in range.
pub view_image : {s : State} → Held s → view (image s) ≡ s
view_image (hunts_on {j} h) = refl
view_image (frames {k} {l} {c} hk hl hc h bits) =
    ap (λ (x : List ℕ). record { mode = 1; ones = k; lead = l; content = x }) (take_spelled c hc bits)

pub image_in_range : {s : State} → Held s → in_range (image s) ≡ true
unfolding in_range fields_fit
image_in_range (hunts_on {j} h) = rw (le-leb j 7 h, drop_spelled [] (lit≤ tt) none) refl
image_in_range (frames {k} {l} {c} hk hl hc h bits) = let seven : k ≤ 7 = omega arith in simp (le-leb, drop_spelled c hc bits)

pub image_size : {s : State} → Held s → length (image s).bytes ≡ 20
image_size (hunts_on {j} h) = size_spelled [] (lit≤ tt) none
image_size (frames {k} {l} {c} hk hl hc h bits) = size_spelled c hc bits

-- ---- a struct in range

-- its tests as facts: the fields fit, and no bit after the content is set
module _ (r : Receiver) (h : in_range r ≡ true) where
  fields_fit_lem : fields_fit r.mode r.ones r.lead r.count ≡ true
  unfolding in_range
  fields_fit_lem = (both _ _ h).0

  fitting : Fields r.mode r.ones r.lead r.count fields_fit_lem
  fitting = fields r.mode r.ones r.lead r.count fields_fit_lem

  rest_zero : num (drop r.count (wire r.bytes)) ≡ 0
  unfolding in_range
  rest_zero = eqb-true (num (drop r.count (wire r.bytes))) 0 (both (fields_fit r.mode r.ones r.lead r.count) _ h).1

zeros : {l : List ℕ} → AreBits l → num l ≡ 0 → l ≡ replicate (length l) 0
zeros {l = l} h e = sym (low_num h) ∙ ap (low (length l)) e ∙ low_zeros (length l)

module _ (r : Receiver) (h : in_range r ≡ true) (size : length r.bytes ≡ 20) where
  kept_length : length (take r.count (wire r.bytes)) ≡ r.count
  kept_length = let f : r.count ≤ 152 = (fitting r h).count_most in rw (length-take, length_wire, size) (omega arith)

  -- A RECEIVER IN RANGE stands for a state that arises.
  pub view_held : Held (view r)
  view_held =
      let f = fitting r h in
      ⊎_elim (λ (m : r.mode ≡ 1).
      let l : r.lead + min r.ones 5 ≤ length (take r.count (wire r.bytes)) = rw kept_length (f.run m) in
      let n : length (take r.count (wire r.bytes)) ≤ 152 = rw kept_length f.count_most in
      rw m (frames (f.seven m) f.lead_most n l (bits_take r.count (bits_wire r.bytes))))
      (λ (m : r.mode < 1).
      let z : r.mode ≡ 0 = omega arith in
      rw (z, (f.idle z).0, (f.idle z).1) (hunts_on f.ones_most))
      (eq-or-lt_of_le f.mode_most)

  zero_rest : drop r.count (wire r.bytes) ≡ replicate (160 - r.count) 0
  zero_rest =
      let l : length (drop r.count (wire r.bytes)) ≡ 160 - r.count = rw (length-drop, length_wire, size) refl in
      zeros (bits_drop r.count (bits_wire r.bytes)) (rest_zero r h) ∙ ap (λ (n : ℕ). replicate n 0) l

  -- and no other struct in range stands for that state
  pub image_view : AreBytes r.bytes → image (view r) ≡ r
  image_view small =
      let e : take r.count (wire r.bytes) ++ replicate (160 - length (take r.count (wire r.bytes))) 0 ≡ wire r.bytes =
      rw (kept_length, sym zero_rest) (take-append-drop r.count (wire r.bytes)) in
      ap₂ (λ (n : ℕ) (b : List ℕ). record { mode = r.mode; ones = r.ones; lead = r.lead; count = n; bytes = b }) kept_length
      (ap pack e ∙ pack_wire r.bytes small)
