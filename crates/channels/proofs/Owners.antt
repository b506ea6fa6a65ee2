-- What all rows have, computed for each channel: its own bytes stand among the registers, apart from every other channel's; what switches it
-- is a register of the controller's, and what makes it busy its own; what its commands change is the core's or its group's. The sixteen masters
-- are one case, by number.
use Prim.Native.Nat.{ℕ, ◌+◌, ◌*◌, ◌-◌, ◌/◌, ◌%◌, ◌≤◌, ◌<◌}
use mathlib.Core.Bool.{Bool, true, false, ◌&&◌, ◌||◌, cond, true≢false, false≢true}
use mathlib.Core.List.{List, [], ◌∷◌}
use mathlib.Core.Logic.{◌⊎◌, inl, inr}
use mathlib.Core.Path.{◌≡◌, refl, sym, ap, ap₂, ◌∙◌}
use native.Mathlib.Omega.{arith}
use borrow.Author.Tests.{leb-true, leb-false, le-leb, lt-ltb, le-ltb, ltb-true, ltb-false, eq-eqb, eqb-true}
use lib.Dec.{eqb, leb, ltb, lit<, lit≤}
use Rattle.std.specs.Prelude.{Option, Some, None}
use Rattle.bits.specs.Table.{look}
use Rattle.bits.proofs.Tests.{and_left, and_right, le_or_le, cond_cases}
use Rattle.parts.proofs.Laws.{Apart}
use Rattle.commands.specs.declared.channel.Channel.{Channel}
use Rattle.commands.specs.declared.channel.Channel.TheVariants.{Controller, Spi, Gpio, Master, Seu, Id, Dac}
use Rattle.bits.proofs.Rows.{every, look_every}
use Rattle.commands.specs.Channels.{channels, is_master, channel_of, commands_of, command_of}
use Rattle.commands.specs.I2c.{i2c_commands}
use Rattle.commands.specs.Command.{code_of}
use Rattle.commands.specs.declared.command.Command.{Command}
use Rattle.commands.specs.declared.command.Does.{Does}
use Rattle.commands.specs.declared.command.Control.{Control}
use Rattle.commands.specs.declared.command.Control.TheVariants.{B, C, D}
use Rattle.commands.specs.declared.command.Does.TheVariants.{Write, Switch as Switching, Read, Clear, Start, Transact}
use Rattle.commands.specs.Field.{Field}
use Rattle.commands.specs.Field.{Mask, Ctrl, Status, Open, Data0, Data1, Data2, Data3, master}
use Rattle.commands.specs.declared.command.Register.{Register}
use Rattle.parts.specs.Digits.{bytes_in}
use Rattle.parts.specs.declared.Width.{Width}
use Rattle.parts.specs.declared.Width.TheVariants.{Byte, Half, Word}
use Rattle.registers.specs.Registers as registers
use Rattle.registers.specs.Registers.{size, bank}
use Rattle.registers.proofs.Rows.{place, wide, end, apart, bank_from, bank_to, among, or_any, is_open, open_apart}
use Rattle.channels.specs.Rows.{master_control, master_bit, master_group, row_of, register_of, dropping}
use Rattle.channels.specs.Groups.{core_size, span_of}
use Rattle.channels.specs.declared.rows.Switch.{Switch}

-- a channel's first byte, how many it has, and where another's may start
abbrev pub first : Channel → ℕ
first ch = (row_of ch).first

abbrev pub many : Channel → ℕ
many ch = (row_of ch).many

abbrev pub last : Channel → ℕ
last ch = first ch + many ch

-- a register of the channel's own
abbrev pub is_own : Channel → Register → Bool
is_own ch r = leb (first ch) (place r) && leb (end r) (last ch)

abbrev pub Own : Channel → Register → Type 0
Own ch r = is_own ch r ≡ true

-- CRB, CRC and CRD stand before all other registers
abbrev pub switches : ℕ
switches = 3

abbrev pub switched_by : Option Switch → Bool
switched_by None = true
switched_by (Some switch) = is_own Controller (register_of switch.control)

abbrev pub busy_by : Channel → Option Register → Bool
busy_by ch None = true
busy_by ch (Some r) = is_own ch r

-- a master's number counts modulo 16
abbrev pub canonical : Channel → Channel
canonical Controller = Controller
canonical Spi = Spi
canonical Gpio = Gpio
canonical (Master i) = Master (i % 16)
canonical Seu = Seu
canonical Id = Id
canonical Dac = Dac

-- whose a byte is
abbrev pub owner_at : ℕ → Channel
owner_at p =
    cond (ltb p 3) Controller
    (cond (ltb p 7) Seu
    (cond (ltb p 11) Dac
    (cond (ltb p 15) Id
    (cond (ltb p 37) Spi
    (cond (ltb p 70) Gpio
    (Master ((p - 70) / 21)))))))

-- ---- channel by channel

abbrev bounded : Channel → Bool
bounded ch =
    leb (last ch) size && (leb (first ch) 0 || leb 1 (many ch)) && (switched_by (row_of ch).switch && busy_by ch (row_of ch).busy)

-- each is the controller's own
pub controls_own : (c : Control) → Own Controller (register_of c)
controls_own B = refl
controls_own C = refl
controls_own D = refl

and_true : (a b : Bool) → a ≡ true → b ≡ true → (a && b) ≡ true
and_true a b h k = ap₂ ◌&&◌ h k

-- a master's registers are its own
pub field_own : (i : ℕ) (f : Field) → Own (Master i) (master i f)
field_own i f = let a = among i f in and_true _ _ (le-leb (bank i) (place (master i f)) a.0) (le-leb (end (master i f)) (bank i + 21) a.1)

master_bounded : (i : ℕ) → bounded (Master i) ≡ true
master_bounded i =
    and_true (leb (bank i + 21) size && (leb (bank i) 0 || true)) _
    (and_true (leb (bank i + 21) size) _ (le-leb (bank i + 21) size (bank_to i)) (or_any (leb (bank i) 0) true refl))
    (and_true (is_own Controller (register_of (master_control i))) _ (controls_own (master_control i)) (field_own i Open))

bounds : (ch : Channel) → bounded ch ≡ true
bounds Controller = refl
bounds Spi = refl
bounds Gpio = refl
bounds (Master i) = master_bounded i
bounds Seu = refl
bounds Id = refl
bounds Dac = refl

owned_master : (i p : ℕ) → bank i ≤ p → p < bank i + 21 → owner_at p ≡ Master (i % 16)
unfolding bank
owned_master i p l u =
    let e : (p - 70) / 21 ≡ i % 16 = omega arith in
    simp (
      le-ltb p 3 (omega arith),
      le-ltb p 7 (omega arith),
      le-ltb p 11 (omega arith),
      le-ltb p 15 (omega arith),
      le-ltb p 37 (omega arith),
      le-ltb p 70 (omega arith),
      e,
    )

owned : (ch : Channel) (p : ℕ) → first ch ≤ p → p < last ch → owner_at p ≡ canonical ch
owned Controller p l u = simp (lt-ltb p 3 (omega arith))
owned Seu p l u = simp (le-ltb p 3 (omega arith), lt-ltb p 7 (omega arith))
owned Dac p l u = simp (le-ltb p 3 (omega arith), le-ltb p 7 (omega arith), lt-ltb p 11 (omega arith))
owned Id p l u = simp (le-ltb p 3 (omega arith), le-ltb p 7 (omega arith), le-ltb p 11 (omega arith), lt-ltb p 15 (omega arith))
owned Spi p l u =
    simp (le-ltb p 3 (omega arith), le-ltb p 7 (omega arith), le-ltb p 11 (omega arith), le-ltb p 15 (omega arith), lt-ltb p 37 (omega arith))
owned Gpio p l u =
    simp (
      le-ltb p 3 (omega arith),
      le-ltb p 7 (omega arith),
      le-ltb p 11 (omega arith),
      le-ltb p 15 (omega arith),
      le-ltb p 37 (omega arith),
      lt-ltb p 70 (omega arith),
    )
owned (Master i) p l u = owned_master i p l u

-- ---- for every channel

module _ (ch : Channel) where
  abbrev sized : Bool
  sized = leb (last ch) size && (leb (first ch) 0 || leb 1 (many ch))

  pub own_inside : last ch ≤ size
  own_inside = leb-true (last ch) size (and_left (leb (last ch) size) _ (and_left sized _ (bounds ch)))

  -- none without bytes but at the front
  some_bytes : (first ch ≤ 0) ⊎ (1 ≤ many ch)
  some_bytes = le_or_le (first ch) 0 1 (many ch) (and_right (leb (last ch) size) _ (and_left sized _ (bounds ch)))

  pub switched_by_lem : switched_by (row_of ch).switch ≡ true
  switched_by_lem = and_left (switched_by (row_of ch).switch) _ (and_right sized _ (bounds ch))

  pub busy_by_lem : busy_by ch (row_of ch).busy ≡ true
  busy_by_lem = and_right (switched_by (row_of ch).switch) _ (and_right sized _ (bounds ch))

  -- what starts before its end and ends behind its start has a byte of it
  nonempty : (p : ℕ) → p < last ch → first ch < last ch
  nonempty p l = by some_bytes
    where
      by : (first ch ≤ 0) ⊎ (1 ≤ many ch) → first ch < last ch
      by (inl z) = omega arith
      by (inr m) = omega arith

-- ---- two channels are one, or have no byte in common

pub record Twin (j k : Channel) : Type 0 where
  pub same : canonical j ≡ canonical k
  pub firsts : first j ≡ first k
  pub manys : many j ≡ many k
  pub switches : (row_of j).switch ≡ (row_of k).switch

again : (i : ℕ) → i % 16 % 16 ≡ i % 16
again i = omega arith

first_again : (ch : Channel) → first (canonical ch) ≡ first ch
unfolding bank
first_again Controller = refl
first_again Spi = refl
first_again Gpio = refl
first_again (Master i) = ap (λ (m : ℕ). 70 + 21 * m) (again i)
first_again Seu = refl
first_again Id = refl
first_again Dac = refl

many_again : (ch : Channel) → many (canonical ch) ≡ many ch
many_again Controller = refl
many_again Spi = refl
many_again Gpio = refl
many_again (Master i) = refl
many_again Seu = refl
many_again Id = refl
many_again Dac = refl

switch_again : (ch : Channel) → (row_of (canonical ch)).switch ≡ (row_of ch).switch
unfolding master_control master_bit
switch_again Controller = refl
switch_again Spi = refl
switch_again Gpio = refl
switch_again (Master i) = simp (again i)
switch_again Seu = refl
switch_again Id = refl
switch_again Dac = refl

twin : (j k : Channel) → canonical j ≡ canonical k → Twin j k
twin j k e =
    record {
      same = e;
      firsts = sym (first_again j) ∙ ap first e ∙ first_again k;
      manys = sym (many_again j) ∙ ap many e ∙ many_again k;
      switches = sym (switch_again j) ∙ ap (λ (ch : Channel). (row_of ch).switch) e ∙ switch_again k;
    }

pub one_or_apart : (j k : Channel) → Twin j k ⊎ Apart (first j) (many j) (first k) (many k)
one_or_apart j k = by (leb (last j) (first k)) (leb (last k) (first j)) refl refl
  where
    joint : (p : ℕ) → first j ≤ p → p < last j → first k ≤ p → p < last k → Twin j k
    joint p a b c d = twin j k (sym (owned j p a b) ∙ owned k p c d)

    meet : (t : Bool) → leb (first j) (first k) ≡ t → first k < last j → first j < last k → Twin j k
    meet true e l m = joint (first k) (leb-true _ _ e) l (omega arith) (nonempty k (first j) m)
    meet false e l m = let f = leb-false (first j) (first k) e in joint (first j) (omega arith) (nonempty j (first k) l) (omega arith) m

    by : (s t : Bool) → leb (last j) (first k) ≡ s → leb (last k) (first j) ≡ t → Twin j k ⊎ Apart (first j) (many j) (first k) (many k)
    by true t e f = inr (inl (leb-true _ _ e))
    by false true e f = inr (inr (leb-true _ _ f))
    by false false e f = inl (meet (leb (first j) (first k)) refl (leb-false _ _ e) (leb-false _ _ f))

abbrev Named : Option Channel → Type 0
Named o = (ch : Channel) → o ≡ Some ch → canonical ch ≡ ch

abbrev number_of : Channel → ℕ
number_of Controller = 0
number_of Spi = 0
number_of Gpio = 0
number_of (Master i) = i
number_of Seu = 0
number_of Id = 0
number_of Dac = 0

-- the channel of a number is named by its own number
pub canonical_number : (c : ℕ) (ch : Channel) → channel_of c ≡ Some ch → canonical ch ≡ ch
unfolding channel_of
canonical_number c = cond_cases Named (is_master c) masters others
  where
    at : (k : Channel) → canonical k ≡ k → Named (Some k)
    at k h ch e = let f : k ≡ ch = cc in rw (← f) h

    masters : is_master c ≡ true → Named (Some (Master (c - 3)))
    masters h =
        let l = leb-true 3 c (and_left (leb 3 c) (leb c 18) h) in
        let u = leb-true c 18 (and_right (leb 3 c) (leb c 18) h) in
        let e : (c - 3) % 16 ≡ c - 3 = omega arith in
        at (Master (c - 3)) (ap Master e)

    others : is_master c ≡ false → Named (look channels None c)
    others h =
        cond_cases Named (eqb c 0) (λ _. at Controller refl) (λ _. cond_cases Named (eqb c 1) (λ _. at Spi refl) (λ _. cond_cases Named (eqb c 2) (λ _. at Gpio refl)
        (λ _. cond_cases Named (eqb c 19) (λ _. at Seu refl) (λ _. cond_cases Named (eqb c 20) (λ _. at Id refl)
        (λ _. cond_cases Named (eqb c 21) (λ _. at Dac refl) (λ _ ch e. absurd (cc)))))))

-- and a master's is below 16
pub below_16 : (c i : ℕ) → channel_of c ≡ Some (Master i) → i < 16
below_16 c i e =
    let m : i % 16 ≡ i = ap number_of (canonical_number c (Master i) e) in
    omega arith

-- ---- the bytes of a register of a channel's own

module _ (ch : Channel) (r : Register) (h : Own ch r) where
  pub own_first : first ch ≤ place r
  own_first = leb-true (first ch) (place r) (and_left (leb (first ch) (place r)) _ h)

  pub own_last : end r ≤ last ch
  own_last = leb-true (end r) (last ch) (and_right (leb (first ch) (place r)) _ h)

  -- what is apart from the channel's own is apart from the register
  pub apart_own : (p n : ℕ) → Apart p n (first ch) (many ch) → Apart p n (place r) (wide r)
  apart_own p n (inl l) = let f = own_first in inl (omega arith)
  apart_own p n (inr l) = let f = own_last in inr (omega arith)

-- no master
abbrev pub lone : Channel → Bool
lone Controller = true
lone Spi = true
lone Gpio = true
lone (Master i) = false
lone Seu = true
lone Id = true
lone Dac = true

pub lone_again : (ch : Channel) → lone (canonical ch) ≡ lone ch
lone_again Controller = refl
lone_again Spi = refl
lone_again Gpio = refl
lone_again (Master i) = refl
lone_again Seu = refl
lone_again Id = refl
lone_again Dac = refl

-- every other channel is a master
pub record IsMaster (ch : Channel) : Type 0 where
  pub index : ℕ
  pub named : ch ≡ Master index

pub lone_or_master : (ch : Channel) → (lone ch ≡ true) ⊎ IsMaster ch
lone_or_master Controller = inl refl
lone_or_master Spi = inl refl
lone_or_master Gpio = inl refl
lone_or_master (Master i) = inr (record { index = i; named = refl })
lone_or_master Seu = inl refl
lone_or_master Id = inl refl
lone_or_master Dac = inl refl

-- a register of the controller's is no other channel's
pub only_controller : (ch : Channel) (r : Register) → Own ch r → Own Controller r → ch ≡ Controller
only_controller ch r a b =
    let l = some (registers.row_of r).width in
    let f = own_first ch r a in
    let g = own_last ch r a in
    let h = own_first Controller r b in
    let i = own_last Controller r b in
    by ch (sym (owned ch (place r) f (omega arith)) ∙ owned Controller (place r) h (omega arith))
  where
    some : (w : Width) → 0 < bytes_in w
    some Byte = lit< tt
    some Half = lit< tt
    some Word = lit< tt

    by : (ch : Channel) → canonical ch ≡ Controller → ch ≡ Controller
    by Controller e = e
    by Spi e = e
    by Gpio e = e
    by (Master i) e = absurd (true≢false (ap lone (sym e)))
    by Seu e = e
    by Id e = e
    by Dac e = e

-- ---- what a command touches is its channel's own, and only a controller's command switches

-- what makes a channel busy is not a register's
abbrev pub spares : Option Register → Register → Bool
spares None r = true
spares (Some b) r = apart b r

abbrev pub is_number : Channel → ℕ → Bool
is_number Controller i = false
is_number Spi i = false
is_number Gpio i = false
is_number (Master j) i = eqb j i
is_number Seu i = false
is_number Id i = false
is_number Dac i = false

pub the_number : (ch : Channel) (i : ℕ) → is_number ch i ≡ true → ch ≡ Master i
the_number Controller i h = absurd (false≢true h)
the_number Spi i h = absurd (false≢true h)
the_number Gpio i h = absurd (false≢true h)
the_number (Master j) i h = ap Master (eqb-true j i h)
the_number Seu i h = absurd (false≢true h)
the_number Id i h = absurd (false≢true h)
the_number Dac i h = absurd (false≢true h)

abbrev pub touches : Channel → Does → Bool
touches ch (Write r) = is_own ch r && leb switches (place r) && spares (row_of ch).busy r
touches ch (Switching c) = is_own ch (register_of c) && is_own Controller (register_of c)
touches ch (Read r) = is_own ch r
touches ch (Clear r) = is_own ch r && leb switches (place r) && spares (row_of ch).busy r
touches ch (Start r) = is_own ch r && leb switches (place r) && lone ch
touches ch (Transact i transaction) = is_number ch i

-- a group's first byte, and where another's may start
abbrev pub begins : Option Control → ℕ
begins g = (span_of g).first

abbrev pub ends : Option Control → ℕ
ends g = begins g + (span_of g).many

-- a register of the core, but for the ID, or of a group
abbrev pub grouped : Option Control → Register → Bool
grouped g r = leb (end r) core_size || leb (begins g) (place r) && leb (end r) (ends g)

abbrev pub changes : Option Control → Does → Bool
changes g (Write r) = grouped g r
changes g (Switching c) = true
changes g (Read r) = true
changes g (Clear r) = grouped g r
changes g (Start r) = grouped g r
changes g (Transact i transaction) = grouped g (master i Open)

-- and its reply's LEN is a byte
abbrev pub proper : Channel → Option Command → Bool
proper ch None = true
proper ch (Some command) = ltb command.lengths.given 256 && touches ch command.does && changes (row_of ch).group command.does

-- the masters' registers are of their group
module _ (i : ℕ) where
  master_span : (begins (master_group i) ≤ bank i) × (bank i + 21 ≤ ends (master_group i))
  unfolding bank master_control
  master_span = by (ltb (i % 16) 5) (ltb (i % 16) 13) refl refl
    where
      by : (s t : Bool) → ltb (i % 16) 5 ≡ s → ltb (i % 16) 13 ≡ t
          → (begins (Some (cond s B (cond t C D))) ≤ 70 + 21 * (i % 16)) × (70 + 21 * (i % 16) + 21 ≤ ends (Some (cond s B (cond t C D))))
      by true t e f = let l = ltb-true (i % 16) 5 e in (omega arith, omega arith)
      by false true e f = let l = ltb-false (i % 16) 5 e in let m = ltb-true (i % 16) 13 f in (omega arith, omega arith)
      by false false e f = let l = ltb-false (i % 16) 13 f in (omega arith, omega arith)

  pub field_grouped : (f : Field) → grouped (master_group i) (master i f) ≡ true
  field_grouped f =
      let a = among i f in
      let m = master_span in
      or_any (leb (end (master i f)) core_size) _
      (and_true (leb (begins (master_group i)) (place (master i f))) _
      (le-leb (begins (master_group i)) (place (master i f)) (omega (arith, a.0, m.0)))
      (le-leb (end (master i f)) (ends (master_group i)) (omega (arith, a.1, m.1))))

  field_behind : (f : Field) → leb switches (place (master i f)) ≡ true
  field_behind f = le-leb switches (place (master i f)) (omega (arith, (among i f).0, bank_from i))

  wrote : (f : Field) → is_open f ≡ false
      → (touches (Master i) (Write (master i f)) && changes (master_group i) (Write (master i f))) ≡ true
  wrote f h =
      and_true (touches (Master i) (Write (master i f))) _
      (and_true (is_own (Master i) (master i f) && leb switches (place (master i f))) _
      (and_true (is_own (Master i) (master i f)) _ (field_own i f) (field_behind f)) (open_apart i f h))
      (field_grouped f)

  has : (f : Field) → (is_own (Master i) (master i f) && true) ≡ true
  has f = and_true (is_own (Master i) (master i f)) true (field_own i f) refl

  started : (eqb i i && grouped (master_group i) (master i Open)) ≡ true
  started = and_true (eqb i i) _ (eq-eqb i i refl) (field_grouped Open)

  master_table : every (proper (Master i)) (i2c_commands i) ≡ true
  master_table =
      ap₂ ◌&&◌ (wrote Ctrl refl)
      (ap₂ ◌&&◌ (has Ctrl)
      (ap₂ ◌&&◌ (has Status)
      (ap₂ ◌&&◌ (wrote Mask refl)
      (ap₂ ◌&&◌ (has Mask)
      (ap₂ ◌&&◌ (wrote Data0 refl)
      (ap₂ ◌&&◌ (has Data0)
      (ap₂ ◌&&◌ (wrote Data1 refl)
      (ap₂ ◌&&◌ (has Data1)
      (ap₂ ◌&&◌ (wrote Data2 refl)
      (ap₂ ◌&&◌ (has Data2)
      (ap₂ ◌&&◌ (wrote Data3 refl)
      (ap₂ ◌&&◌ (has Data3)
      (ap₂ ◌&&◌ started
      (ap₂ ◌&&◌ started
      (ap₂ ◌&&◌ started
      (ap₂ ◌&&◌ started
      (ap₂ ◌&&◌ started
      (ap₂ ◌&&◌ started
      (ap₂ ◌&&◌ started
      (ap₂ ◌&&◌ started
      (ap₂ ◌&&◌ started
      (ap₂ ◌&&◌ started
      (ap₂ ◌&&◌ started refl)))))))))))))))))))))))

tables : (ch : Channel) → every (proper ch) (commands_of ch) ≡ true
tables Controller = refl
tables Spi = refl
tables Gpio = refl
tables (Master i) = master_table i
tables Seu = refl
tables Id = refl
tables Dac = refl

pub commands_proper : (ch : Channel) (cmd : ℕ) → proper ch (command_of ch cmd) ≡ true
unfolding code_of
commands_proper ch cmd = look_every (proper ch) (commands_of ch) None cmd (tables ch) refl

-- ---- the channels that drop their registers: these stand behind the core, in the group that their switch is of

abbrev pub behind_core : ℕ
behind_core = begins None

abbrev pub dropped : Channel → Bool
dropped ch = leb behind_core (first ch)

abbrev pub is_control : Control → Control → Bool
is_control B B = true
is_control B C = false
is_control B D = false
is_control C B = false
is_control C C = true
is_control C D = false
is_control D B = false
is_control D C = false
is_control D D = true

abbrev pub is_by : Control → Option Switch → Bool
is_by c None = false
is_by c (Some switch) = is_control c switch.control

abbrev pub dropped_by : Control → Channel → Bool
dropped_by d ch = dropped ch && is_by d (row_of ch).switch && (leb (begins (Some d)) (first ch) && leb (last ch) (ends (Some d)))

abbrev pub all : (Channel → Bool) → List Channel → Bool
all f [] = true
all f (ch ∷ chs) = f ch && all f chs

pub all_dropped : (d : Control) → all (dropped_by d) (dropping d) ≡ true
unfolding bank master_control
all_dropped B = refl
all_dropped C = refl
all_dropped D = refl

pub record Dropper (d : Control) (ch : Channel) : Type 0 where
  pub behind : behind_core ≤ first ch
  pub switched : is_by d (row_of ch).switch ≡ true
  pub from : begins (Some d) ≤ first ch
  pub to : last ch ≤ ends (Some d)

pub dropper : (d : Control) (ch : Channel) → dropped_by d ch ≡ true → Dropper d ch
dropper d ch h =
    let front : Bool = dropped ch && is_by d (row_of ch).switch in
    let span = and_right front _ h in
    record {
      behind = leb-true behind_core (first ch) (and_left (dropped ch) _ (and_left front _ h));
      switched = and_right (dropped ch) _ (and_left front _ h);
      from = leb-true (begins (Some d)) (first ch) (and_left (leb (begins (Some d)) (first ch)) _ span);
      to = leb-true (last ch) (ends (Some d)) (and_right (leb (begins (Some d)) (first ch)) _ span);
    }

-- the registers of the controller stand in front, one behind the other
pub control_front : (c : Control) → end (register_of c) ≤ switches
control_front B = lit≤ tt
control_front C = lit≤ tt
control_front D = lit≤ tt

pub one_control : (c d : Control) → (d ≡ c) ⊎ (apart (register_of d) (register_of c) ≡ true)
one_control B B = inl refl
one_control B C = inr refl
one_control B D = inr refl
one_control C B = inr refl
one_control C C = inl refl
one_control C D = inr refl
one_control D B = inr refl
one_control D C = inr refl
one_control D D = inl refl
