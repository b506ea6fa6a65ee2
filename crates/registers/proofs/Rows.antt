-- What all rows have, computed for each register: bytes among those of the registers, a mask no wider than they are, a place in D; every bit of its
-- bytes but for those of `within`, and no byte of these unless it has all of them. And the rows stand one behind the other. What a master's have
-- is one law over its number.
use Prim.Native.Nat.{ℕ, suc, ◌+◌, ◌*◌, ◌%◌, ◌^◌, ◌≤◌, ◌<◌}
use mathlib.Core.Bool.{Bool, true, false, ◌&&◌, ◌||◌, true≢false, false≢true}
use mathlib.Core.List.{List, [], ◌∷◌}
use mathlib.Core.Logic.{◌⊎◌, inl, inr}
use mathlib.Core.Path.{◌≡◌, refl, ap, ap₂, ◌∙◌}
use native.Mathlib.Omega.{arith}
use borrow.Author.Tests.{leb-true, le-leb, ltb-true, ltb-false, eq-eqb}
use lib.Dec.{eqb, leb, ltb, lit≤}
use Rattle.bits.proofs.Tests.{and_left, and_right, both}
use Rattle.parts.specs.Digits.{bytes_in}
use Rattle.parts.proofs.Laws.{Apart}
use Rattle.commands.specs.Field.{Field}
use Rattle.commands.specs.Field.{Mask, Ctrl, Status, Open, Data0, Data1, Data2, Data3, master}
use Rattle.commands.specs.declared.command.Register.{Register}
use Rattle.commands.specs.declared.command.Register.TheVariants.{Crb, Crc, Crd, SpiControl, SpiFreq, SpiSs, SpiData0, SpiData1, SpiData2, SpiData3}
use Rattle.commands.specs.declared.command.Register.TheVariants.{SpiGo, Dataout, Datain, Direction, Intsel, Inttrig, Ints, Clksel, Edgesel}
use Rattle.commands.specs.declared.command.Register.TheVariants.{Intenable, Seu, DacA, DacB, DacC, DacD, ChipId}
use Rattle.commands.specs.declared.command.Register.TheVariants.{I2cMask, I2cCtrl, I2cStatus, I2cOpen, I2cData0, I2cData1, I2cData2, I2cData3}
use Rattle.registers.specs.Registers.{size, row_of, bank}

-- where a register starts, how many bytes it has, and where the next one may start
abbrev pub place : Register → ℕ
place r = (row_of r).place

abbrev pub wide : Register → ℕ
wide r = bytes_in (row_of r).width

abbrev pub end : Register → ℕ
end r = place r + wide r

-- no byte of the one is a byte of the other
abbrev pub apart : Register → Register → Bool
apart q r = leb (end q) (place r) || leb (end r) (place q)

-- the same bytes, under the same mask
abbrev pub alike : Register → Register → Bool
alike q r = eqb (place q) (place r) && eqb (wide q) (wide r) && eqb (row_of q).mask (row_of r).mask

abbrev bounded : Register → Bool
bounded r = leb (end r) size && (ltb (row_of r).mask (256 ^ wide r) && ltb (row_of r).low 32)

abbrev alone : Register → Bool
alone r =
    (alike Crb r || apart Crb r) && (alike Crd r || apart Crd r) && (alike ChipId r || apart ChipId r)
    && (alike Intenable r || apart Intenable r)

-- every bit of its bytes is kept
abbrev pub whole : Register → Bool
whole r = eqb ((row_of r).mask + 1) (256 ^ wide r)

-- or it is one of the four
abbrev four : Register → Bool
four r = alike Crb r || alike Crd r || alike ChipId r || alike Intenable r

-- a register of a master's
pub record OfMaster (r : Register) : Type 0 where
  pub index : ℕ
  pub field : Field
  pub named : r ≡ master index field

pub record StatusOf (r : Register) : Type 0 where
  pub index : ℕ
  pub named : r ≡ master index Status

-- the others stand before the masters
abbrev Rowed : Register → Type 0
Rowed r = ((bounded r && alone r && (whole r || four r) && leb (end r) 70) ≡ true) ⊎ OfMaster r

rows : (r : Register) → Rowed r
rows Crb = inl refl
rows Crc = inl refl
rows Crd = inl refl
rows Seu = inl refl
rows DacA = inl refl
rows DacB = inl refl
rows DacC = inl refl
rows DacD = inl refl
rows ChipId = inl refl
rows SpiControl = inl refl
rows SpiFreq = inl refl
rows SpiSs = inl refl
rows SpiData0 = inl refl
rows SpiData1 = inl refl
rows SpiData2 = inl refl
rows SpiData3 = inl refl
rows SpiGo = inl refl
rows Dataout = inl refl
rows Datain = inl refl
rows Direction = inl refl
rows Intsel = inl refl
rows Inttrig = inl refl
rows Ints = inl refl
rows Clksel = inl refl
rows Edgesel = inl refl
rows Intenable = inl refl
rows (I2cMask i) = inr (record { index = i; field = Mask; named = refl })
rows (I2cCtrl i) = inr (record { index = i; field = Ctrl; named = refl })
rows (I2cStatus i) = inr (record { index = i; field = Status; named = refl })
rows (I2cOpen i) = inr (record { index = i; field = Open; named = refl })
rows (I2cData0 i) = inr (record { index = i; field = Data0; named = refl })
rows (I2cData1 i) = inr (record { index = i; field = Data1; named = refl })
rows (I2cData2 i) = inr (record { index = i; field = Data2; named = refl })
rows (I2cData3 i) = inr (record { index = i; field = Data3; named = refl })

-- ---- the masters

pub or_any : (a b : Bool) → b ≡ true → (a || b) ≡ true
or_any true b h = refl
or_any false b h = h

pub or_first : (a b : Bool) → a ≡ true → (a || b) ≡ true
or_first true b h = refl
or_first false b h = absurd (false≢true h)

-- two comparisons, one of which holds
pub either_le : (a b c d : ℕ) → (a ≤ b) ⊎ (c ≤ d) → (leb a b || leb c d) ≡ true
either_le a b c d (inl l) = or_first (leb a b) (leb c d) (le-leb a b l)
either_le a b c d (inr l) = or_any (leb a b) (leb c d) (le-leb c d l)

abbrev pub is_open : Field → Bool
is_open Mask = false
is_open Ctrl = false
is_open Status = false
is_open Open = true
is_open Data0 = false
is_open Data1 = false
is_open Data2 = false
is_open Data3 = false

module _ (i : ℕ) where
  pub bank_from : 70 ≤ bank i
  unfolding bank
  bank_from = omega arith

  pub bank_to : bank i + 21 ≤ size
  unfolding bank
  bank_to = omega arith

  -- a field's bytes are among the master's
  pub among : (f : Field) → (bank i ≤ place (master i f)) × (end (master i f) ≤ bank i + 21)
  among Mask = (omega arith, omega arith)
  among Ctrl = (omega arith, omega arith)
  among Status = (omega arith, omega arith)
  among Open = (omega arith, omega arith)
  among Data0 = (omega arith, omega arith)
  among Data1 = (omega arith, omega arith)
  among Data2 = (omega arith, omega arith)
  among Data3 = (omega arith, omega arith)

  masked : (f : Field) → (ltb (row_of (master i f)).mask (256 ^ wide (master i f)) && ltb (row_of (master i f)).low 32) ≡ true
  masked Mask = refl
  masked Ctrl = refl
  masked Status = refl
  masked Open = refl
  masked Data0 = refl
  masked Data1 = refl
  masked Data2 = refl
  masked Data3 = refl

  -- all but STATUS keep every bit
  kept : (f : Field) → (whole (master i f) ≡ true) ⊎ (f ≡ Status)
  kept Mask = inl refl
  kept Ctrl = inl refl
  kept Status = inr refl
  kept Open = inl refl
  kept Data0 = inl refl
  kept Data1 = inl refl
  kept Data2 = inl refl
  kept Data3 = inl refl

  -- what stands before the masters is apart from them
  pub before_apart : (f : Field) (r : Register) → end r ≤ 70 → apart r (master i f) ≡ true
  before_apart f r l = let b = bank_from in let a = (among f).0 in either_le (end r) (place (master i f)) (end (master i f)) (place r) (inl (omega arith))

  -- no other field has a byte of Open
  pub open_apart : (f : Field) → is_open f ≡ false → apart (master i Open) (master i f) ≡ true
  open_apart Mask h = either_le (bank i + 3 + 2) (place (master i Mask)) (end (master i Mask)) (bank i + 3) (inr (omega arith))
  open_apart Ctrl h = either_le (bank i + 3 + 2) (place (master i Ctrl)) (end (master i Ctrl)) (bank i + 3) (inr (omega arith))
  open_apart Status h = either_le (bank i + 3 + 2) (place (master i Status)) (end (master i Status)) (bank i + 3) (inr (omega arith))
  open_apart Open h = absurd (true≢false h)
  open_apart Data0 h = either_le (bank i + 3 + 2) (place (master i Data0)) (end (master i Data0)) (bank i + 3) (inl (omega arith))
  open_apart Data1 h = either_le (bank i + 3 + 2) (place (master i Data1)) (end (master i Data1)) (bank i + 3) (inl (omega arith))
  open_apart Data2 h = either_le (bank i + 3 + 2) (place (master i Data2)) (end (master i Data2)) (bank i + 3) (inl (omega arith))
  open_apart Data3 h = either_le (bank i + 3 + 2) (place (master i Data3)) (end (master i Data3)) (bank i + 3) (inl (omega arith))

  status_apart : (f : Field) → (f ≡ Status) ⊎ (apart (master i Status) (master i f) ≡ true)
  status_apart Mask = inr (either_le (bank i + 2 + 1) (place (master i Mask)) (end (master i Mask)) (bank i + 2) (inr (omega arith)))
  status_apart Ctrl = inr (either_le (bank i + 2 + 1) (place (master i Ctrl)) (end (master i Ctrl)) (bank i + 2) (inr (omega arith)))
  status_apart Status = inl refl
  status_apart Open = inr (either_le (bank i + 2 + 1) (place (master i Open)) (end (master i Open)) (bank i + 2) (inl (omega arith)))
  status_apart Data0 = inr (either_le (bank i + 2 + 1) (place (master i Data0)) (end (master i Data0)) (bank i + 2) (inl (omega arith)))
  status_apart Data1 = inr (either_le (bank i + 2 + 1) (place (master i Data1)) (end (master i Data1)) (bank i + 2) (inl (omega arith)))
  status_apart Data2 = inr (either_le (bank i + 2 + 1) (place (master i Data2)) (end (master i Data2)) (bank i + 2) (inl (omega arith)))
  status_apart Data3 = inr (either_le (bank i + 2 + 1) (place (master i Data3)) (end (master i Data3)) (bank i + 2) (inl (omega arith)))

-- two masters are one, or have no byte in common
pub one_bank : (i j : ℕ) → (i % 16 ≡ j % 16) ⊎ Apart (bank i) 21 (bank j) 21
unfolding bank
one_bank i j = by (ltb (i % 16) (j % 16)) (ltb (j % 16) (i % 16)) refl refl
  where
    by : (s t : Bool) → ltb (i % 16) (j % 16) ≡ s → ltb (j % 16) (i % 16) ≡ t → (i % 16 ≡ j % 16) ⊎ Apart (bank i) 21 (bank j) 21
    by true t e f = let l = ltb-true (i % 16) (j % 16) e in inr (inl (omega arith))
    by false true e f = let l = ltb-true (j % 16) (i % 16) f in inr (inr (omega arith))
    by false false e f = let l = ltb-false (i % 16) (j % 16) e in let m = ltb-false (j % 16) (i % 16) f in inl (omega arith)

pub same_bank : (i j : ℕ) → i % 16 ≡ j % 16 → bank i ≡ bank j
unfolding bank
same_bank i j e = ap (λ (m : ℕ). 70 + 21 * m) e

pub bank_at : (i : ℕ) → i < 16 → bank i ≡ 70 + 21 * i
unfolding bank
bank_at i l =
    let p : i % 16 ≡ i = omega arith in
    rw p refl

pub one_number : (i j : ℕ) → bank i ≡ bank j → i < 16 → j < 16 → i ≡ j
unfolding bank
one_number i j e l m =
    let p : i % 16 ≡ i = omega arith in
    let q : j % 16 ≡ j = omega arith in
    let f : 70 + 21 * i ≡ 70 + 21 * j = rw (← p, ← q) e in
    same i j f
  where
    same : (m n : ℕ) → 70 + 21 * m ≡ 70 + 21 * n → m ≡ n
    same m n h = omega arith

-- ---- every register

abbrev fact : Register → Bool
fact r = bounded r && alone r && (whole r || four r)

bounds : (r : Register) → (end r ≤ size) × ((ltb (row_of r).mask (256 ^ wide r) && ltb (row_of r).low 32) ≡ true)
bounds r = by (rows r)
  where
    by : Rowed r → (end r ≤ size) × ((ltb (row_of r).mask (256 ^ wide r) && ltb (row_of r).low 32) ≡ true)
    by (inl h) =
        let b = both (leb (end r) size) _ (and_left (bounded r) _ (and_left (bounded r && alone r) _ (and_left (fact r) _ h))) in
        (leb-true (end r) size b.0, b.1)
    by (inr m) =
        let i = m.index in
        let f = m.field in
        let u = (among i f).1 in
        let v = bank_to i in
        rw m.named ((omega arith, masked i f))

pub only : (r : Register) → alone r ≡ true
only r = by (rows r)
  where
    by : Rowed r → alone r ≡ true
    by (inl h) = and_right (bounded r) _ (and_left (bounded r && alone r) _ (and_left (fact r) _ h))
    by (inr m) =
        let before : (q : Register) → end q ≤ 70 → (alike q (master m.index m.field) || apart q (master m.index m.field)) ≡ true =
        λ q l. or_any (alike q (master m.index m.field)) _ (before_apart m.index m.field q l) in
        rw m.named (ap₂ ◌&&◌ (ap₂ ◌&&◌ (ap₂ ◌&&◌ (before Crb (lit≤ tt)) (before Crd (lit≤ tt))) (before ChipId (lit≤ tt))) (before Intenable (lit≤ tt)))

-- no register but the four and STATUS of a master has a bit that reads 0
pub keeps_all : (r : Register) → (whole r ≡ true) ⊎ ((four r ≡ true) ⊎ StatusOf r)
keeps_all r = by (rows r)
  where
    base : (t : Bool) → whole r ≡ t → (t || four r) ≡ true → (whole r ≡ true) ⊎ ((four r ≡ true) ⊎ StatusOf r)
    base true e h = inl e
    base false e h = inr (inl h)

    of_master : (m : OfMaster r) → (whole (master m.index m.field) ≡ true) ⊎ (m.field ≡ Status) → (whole r ≡ true) ⊎ ((four r ≡ true) ⊎ StatusOf r)
    of_master m (inl h) = inl (rw m.named h)
    of_master m (inr e) = inr (inr (record { index = m.index; named = m.named ∙ ap (master m.index) e }))

    by : Rowed r → (whole r ≡ true) ⊎ ((four r ≡ true) ⊎ StatusOf r)
    by (inl h) = base (whole r) refl (and_right (bounded r && alone r) _ (and_left (fact r) _ h))
    by (inr m) = of_master m (kept m.index m.field)

-- STATUS of a master has all bytes of a register, under its mask, or none
abbrev Alone : ℕ → Register → Type 0
Alone j r = (alike (master j Status) r ≡ true) ⊎ (apart (master j Status) r ≡ true)

pub status_alone : (j : ℕ) (r : Register) → Alone j r
status_alone j r = by (rows r)
  where
    same : (i : ℕ) (f : Field) → bank j ≡ bank i → (f ≡ Status) ⊎ (apart (master i Status) (master i f) ≡ true) → Alone j (master i f)
    same i f e (inl s) = inl (rw (s, e) (ap₂ ◌&&◌ (ap₂ ◌&&◌ (eq-eqb (bank i + 2) (bank i + 2) refl) refl) refl))
    same i f e (inr a) = inr (rw e a)

    of_master : (i : ℕ) (f : Field) → (j % 16 ≡ i % 16) ⊎ Apart (bank j) 21 (bank i) 21 → Alone j (master i f)
    of_master i f (inl e) = same i f (same_bank j i e) (status_apart i f)
    of_master i f (inr (inl l)) =
        let a = (among i f).0 in
        inr (either_le (bank j + 2 + 1) (place (master i f)) (end (master i f)) (bank j + 2) (inl (omega arith)))
    of_master i f (inr (inr l)) =
        let a = (among i f).1 in
        inr (either_le (bank j + 2 + 1) (place (master i f)) (end (master i f)) (bank j + 2) (inr (omega arith)))

    by : Rowed r → Alone j r
    by (inl h) =
        let l = leb-true (end r) 70 (and_right (fact r) _ h) in
        let b = bank_from j in
        inr (either_le (bank j + 2 + 1) (place r) (end r) (bank j + 2) (inr (omega arith)))
    by (inr m) = rw m.named (of_master m.index m.field (one_bank j m.index))

pub placed : (r : Register) → end r ≤ size
placed r = (bounds r).0

masks : (r : Register) → (ltb (row_of r).mask (256 ^ wide r) && ltb (row_of r).low 32) ≡ true
masks r = (bounds r).1

pub mask_fits : (r : Register) → (row_of r).mask < 256 ^ wide r
mask_fits r = ltb-true (row_of r).mask (256 ^ wide r) (and_left (ltb (row_of r).mask (256 ^ wide r)) _ (masks r))

pub in_data : (r : Register) → (row_of r).low < 32
in_data r = ltb-true (row_of r).low 32 (and_right (ltb (row_of r).mask (256 ^ wide r)) _ (masks r))

-- ---- one behind the other

-- each starts where the last one ended, so no two share a byte, and no byte is without a register
abbrev in_turn : ℕ → ℕ → List Register → Bool
in_turn p last [] = eqb p last
in_turn p last (r ∷ rs) = eqb (place r) p && in_turn (end r) last rs

pub in_turn_lem : in_turn 0 70
    (Crb ∷ Crc ∷ Crd ∷ Seu ∷ DacA ∷ DacB ∷ DacC ∷ DacD ∷ ChipId ∷ SpiControl ∷ SpiFreq ∷ SpiSs ∷ SpiData0 ∷ SpiData1 ∷ SpiData2 ∷ SpiData3 ∷ SpiGo
    ∷ Dataout ∷ Datain ∷ Direction ∷ Intsel ∷ Inttrig ∷ Ints ∷ Clksel ∷ Edgesel ∷ Intenable ∷ []) ≡ true
in_turn_lem = refl

-- and behind them the masters, the fields of each likewise
pub masters_in_turn : (bank 0 ≡ 70) × (((i : ℕ) → i < 15 → bank (suc i) ≡ bank i + 21) × (bank 15 + 21 ≡ size))
unfolding bank
masters_in_turn = (refl, (λ i l. omega arith, refl))

pub fields_in_turn : (i : ℕ) → in_turn (bank i) (bank i + 21)
    (master i Mask ∷ master i Ctrl ∷ master i Status ∷ master i Open ∷ master i Data0 ∷ master i Data1 ∷ master i Data2 ∷ master i Data3 ∷ []) ≡ true
fields_in_turn i =
    let same : (m k : ℕ) → m ≡ k → eqb m k ≡ true = λ m k. eq-eqb m k in
    ap₂ ◌&&◌ (same (bank i) (bank i) refl)
    (ap₂ ◌&&◌ (same (bank i + 1) (bank i + 1) refl)
    (ap₂ ◌&&◌ (same (bank i + 2) (bank i + 1 + 1) (omega arith))
    (ap₂ ◌&&◌ (same (bank i + 3) (bank i + 2 + 1) (omega arith))
    (ap₂ ◌&&◌ (same (bank i + 5) (bank i + 3 + 2) (omega arith))
    (ap₂ ◌&&◌ (same (bank i + 9) (bank i + 5 + 4) (omega arith))
    (ap₂ ◌&&◌ (same (bank i + 13) (bank i + 9 + 4) (omega arith))
    (ap₂ ◌&&◌ (same (bank i + 17) (bank i + 13 + 4) (omega arith)) (same (bank i + 17 + 4) (bank i + 21) (omega arith)))))))))
