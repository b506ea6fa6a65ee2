-- The laws of the channels, for what stands above them. What a command touches is its channel's own; what is left is sound; and a channel is
-- alone: its answers and its own bytes follow from its enable bit, its own bytes and the request.
use Prim.Native.Nat.{ℕ, zero, suc, ◌+◌, ◌*◌, ◌-◌, ◌/◌, ◌%◌, ◌^◌, ◌≤◌, ◌<◌}
use native.Mathlib.Nat.{mod-eq_of_lt, div-eq_of_lt, add_comm}
use native.Mathlib.Omega.{arith}
use mathlib.Core.Bool.{Bool, true, false, not, ◌&&◌, ◌||◌, cond, true≢false, false≢true}
use mathlib.Core.List.{List, [], ◌∷◌, ◌++◌}
use mathlib.Core.Logic.{◌⊎◌, inl, inr}
use mathlib.Core.Path.{◌≡◌, refl, sym, ap, ap₂, subst, ◌∙◌}
use borrow.Author.Tests.{eq-eqb, eqb-true, eqb-false, leb-true, le-leb, ltb-true, lt-ltb, le-ltb, not-false}
use lib.Bits.{bit_and, bit_or, and_zero_l, and_mask}
use lib.Dec.{eqb, leb, ltb, lit≤, lit<}
use lib.ListN.{length, replicate}
use lib.Pow.{pow-add, pow_pos, pow-lt, shr-shr}
use Rattle.std.specs.Prelude.{Option, Some, None, option_and_then, Result, Ok, Err}
use Rattle.bits.specs.Bits.{bit_of}
use Rattle.bits.proofs.Bits.{bit_test}
use Rattle.bits.proofs.Tests.{and_left, and_right, and_assoc, both, cond_cases, or_second}
use Rattle.parts.specs.Parts.{part, put, all_zero}
use Rattle.parts.specs.Digits.{number, digits}
use Rattle.parts.proofs.Laws.{Apart, AreBytes, part_part, part_put_inside}
use Rattle.parts.proofs.Digits.{length_digits}
use Rattle.commands.specs.declared.channel.Channel.{Channel}
use Rattle.commands.specs.declared.channel.Channel.TheVariants as channel
use Rattle.commands.specs.declared.command.Command.{Command}
use Rattle.commands.specs.declared.command.Does.{Does}
use Rattle.commands.specs.declared.command.Control.{Control}
use Rattle.commands.specs.declared.command.Control.TheVariants.{B, C, D}
use Rattle.commands.specs.declared.command.Does.TheVariants.{Write, Switch, Read, Clear, Start, Transact}
use Rattle.commands.specs.Field.{Field}
use Rattle.commands.specs.Field.{Ctrl, Status, Open, Data0, Data1, Data2, Data3, master}
use Rattle.commands.specs.declared.command.Transaction.{Transaction}
use Rattle.commands.specs.declared.command.Register.{Register}
use Rattle.commands.specs.declared.command.Register.TheVariants.{Crb, Crc, Crd, ChipId, SpiGo, SpiData0, SpiData1, SpiData2, SpiData3, Datain, Ints, Intenable, Seu}
use Rattle.commands.specs.declared.request.Fault.{Fault}
use Rattle.commands.specs.declared.request.Fault.TheVariants.{TrnWrong, ChUnknown, NotEnabled, Busy, CmdUnknown, LenWrong}
use Rattle.commands.specs.declared.request.Reply.{Reply}
use Rattle.commands.specs.declared.request.Request.{Request}
use Rattle.commands.specs.Channels.{channel_of, command_of, command_at}
use Rattle.commands.specs.Command.{lengths, known}
use Rattle.commands.specs.Request.{no_transaction, interrupt_transaction, fault_bit, trn_wrong, ch_unknown, not_enabled, busy, cmd_unknown, len_wrong, granted}
use Rattle.registers.specs.Registers as registers
use Rattle.registers.specs.Registers.{size, bank, read, store, written, zeroed, are_zero, is_within, four_within, each, each_master, within}
use Rattle.registers.proofs.Rows.{place, wide, end, apart, bank_from, bank_to, or_any, is_open, open_apart, bank_at, one_number}
use Rattle.registers.proofs.Laws.{RegistersFit, store_fits, length_store, store_within, part_stays, read_same, read_other, length_zeroed, zeroed_bytes, zeroed_apart}
use Rattle.registers.proofs.Laws.{zeroed_zero, read_zero, zero_bytes, each_through, each_at, each_same, each_within, each_zero}
use Rattle.registers.specs.Pins.{datain_after, firing_lines, interrupts, sampled}
use Rattle.registers.specs.Transfer.{with_data, completed}
use Rattle.registers.specs.Transaction.{allows, success, status_after, filled_word, filled, fills_data, ended}
use Rattle.channels.specs.Rows.{by_bit, master_control, master_bit, master_group, row_of, register_of, dropping, all_dropping, is_on, is_at_work, is_enabled, is_busy, held, held_all, settled, still_held, are_held, all_held}
use Rattle.channels.proofs.Owners.{first, many, last, is_own, switches, switched_by, busy_by, own_inside, switched_by_lem, busy_by_lem}
use Rattle.channels.proofs.Owners.{Twin, one_or_apart, canonical_number, below_16, own_first, own_last, apart_own, touches, changes, proper, commands_proper}
use Rattle.channels.proofs.Owners.{lone, lone_again, IsMaster, lone_or_master, only_controller, spares, the_number, field_own, field_grouped}
use Rattle.channels.proofs.Owners.{begins, ends, grouped, behind_core, is_control, is_by, dropped_by, all, all_dropped, Dropper, dropper, control_front, one_control}
pub use Rattle.channels.proofs.Owners.{Own, controls_own}
use Rattle.channels.specs.Groups.{core_size, span_of, by_does, by_command, group_for}
use Rattle.channels.specs.Errors.{can_move, of_command, of_channel, decoded}
use Rattle.channels.specs.Starts.{is_start, open_sound, opens_sound, sound_registers}
use Rattle.channels.specs.Inner.{master_sound, none_on, Enables}
use Rattle.channels.specs.Perform.{told, left, with_invcom, marked, reply_to, left_by, replied, performed}
use Rattle.channels.specs.declared.rows.Switch.{Switch as RowSwitch}

-- ---- what a request is decoded into

pub record ErrorBit (e : ℕ) : Type 0 where
  pub byte : e < 256
  pub set : e ≡ 0 → ⊥

-- what the tables and the rows say of a request that has no error
pub record Granted (rs : List ℕ) (q : Request) (given : ℕ) (does : Does) : Type 0 where
  pub which : Channel
  pub named : channel_of q.ch ≡ Some which
  pub enabled : is_enabled rs which ≡ true
  pub idle : is_busy rs which ≡ false
  pub transaction : (eqb q.trn no_transaction || eqb q.trn interrupt_transaction) ≡ false
  pub command : command_of which q.cmd ≡ known (lengths q.len given) does
  pub moved : can_move rs does ≡ true
  pub byte : given < 256
  pub own : touches which does ≡ true
  pub changed : changes (row_of which).group does ≡ true

-- what they say of one with a command that its channel does not know: it is enabled and idle
pub record Unlisted (rs : List ℕ) (q : Request) : Type 0 where
  pub which : Channel
  pub named : channel_of q.ch ≡ Some which
  pub enabled : is_enabled rs which ≡ true
  pub idle : is_busy rs which ≡ false
  pub unknown : command_of which q.cmd ≡ None

-- what they say of one that has an error: 0x04 comes of an enabled, idle channel alone
pub record Refused (rs : List ℕ) (q : Request) (e : ℕ) : Type 0 where
  pub bit : ErrorBit e
  pub unlisted : e ≡ cmd_unknown → Unlisted rs q

-- the command that a request without an error asks for
abbrev pub command_asked : Request → ℕ → Does → Command
command_asked q given does = record { lengths = lengths q.len given; does = does }

-- it is that of the request's channel and code
pub granted_command : (rs : List ℕ) (q : Request) (given : ℕ) (does : Does) → Granted rs q given does → command_at q.ch q.cmd ≡ Some (command_asked q given does)
granted_command rs q given does g = ap (option_and_then (λ (ch : Channel). command_of ch q.cmd)) g.named ∙ g.command

bit : (e : ℕ) → (ltb e 256 && not (eqb e 0)) ≡ true → ErrorBit e
bit e h =
    record { byte = ltb-true e 256 (and_left (ltb e 256) _ h); set = eqb-false e 0 (not_true (eqb e 0) (and_right (ltb e 256) _ h)) }
  where
    not_true : (t : Bool) → not t ≡ true → t ≡ false
    not_true true f = sym f
    not_true false f = refl

-- another error than 0x04
other_error : (rs : List ℕ) (q : Request) (e : ℕ) → (ltb e 256 && not (eqb e 0)) ≡ true → eqb e cmd_unknown ≡ false → Refused rs q e
other_error rs q e h n =
    let no : e ≡ cmd_unknown → ⊥ = eqb-false e cmd_unknown n in
    record { bit = bit e h; unlisted = λ f. absurd (no f) }

-- what holds of every error, and of all that is granted, holds of what a request is decoded into
module _ (rs : List ℕ) (q : Request) (P : Result Command Fault → Type 0) (wrong : (f : Fault) → Refused rs q (fault_bit f) → P (Err f))
    (right : (given : ℕ) (does : Does) → Granted rs q given does → P (Ok (command_asked q given does))) where
  abbrev answered : Type 0
  answered = (eqb q.trn no_transaction || eqb q.trn interrupt_transaction) ≡ false

  of_command_lem : (ch : Channel) → channel_of q.ch ≡ Some ch → answered → is_enabled rs ch ≡ true → is_busy rs ch ≡ false
      → (k : Option Command) → command_of ch q.cmd ≡ k → proper ch k ≡ true → P (of_command rs k q.len)
  of_command_lem ch n trn on idle None e h =
      wrong CmdUnknown (record { bit = bit cmd_unknown refl; unlisted = λ _. record { which = ch; named = n; enabled = on; idle = idle; unknown = e } })
  of_command_lem ch n trn on idle (Some k) e h =
      cond_cases P (not (eqb q.len k.lengths.asked)) (λ _. wrong LenWrong (other_error rs q len_wrong refl refl))
      (λ f. cond_cases P (not (can_move rs k.does)) (λ _. wrong LenWrong (other_error rs q len_wrong refl refl))
      (λ m. let same : q.len ≡ k.lengths.asked = eqb-true q.len k.lengths.asked (not-false (eqb q.len k.lengths.asked) f) in
      let with_asked : ℕ → Command = λ (len : ℕ). record { lengths = lengths len k.lengths.given; does = k.does } in
      subst (λ (len : ℕ). P (Ok (with_asked len))) same
      (right k.lengths.given k.does
      (record {
        which = ch;
        named = n;
        moved = not-false (can_move rs k.does) m;
        transaction = trn;
        enabled = on;
        idle = idle;
        command = e ∙ ap (λ (len : ℕ). Some (with_asked len)) (sym same);
        byte = ltb-true k.lengths.given 256 (and_left (ltb k.lengths.given 256) _ (and_left (ltb k.lengths.given 256 && touches ch k.does) _ h));
        own = and_right (ltb k.lengths.given 256) _ (and_left (ltb k.lengths.given 256 && touches ch k.does) _ h);
        changed = and_right (ltb k.lengths.given 256 && touches ch k.does) _ h;
      }))))

  of_channel_lem : answered → (o : Option Channel) → channel_of q.ch ≡ o → P (of_channel rs o q)
  of_channel_lem trn None e = wrong ChUnknown (other_error rs q ch_unknown refl refl)
  of_channel_lem trn (Some ch) e =
      cond_cases P (not (is_enabled rs ch)) (λ _. wrong NotEnabled (other_error rs q not_enabled refl refl))
      (λ on. cond_cases P (is_busy rs ch) (λ _. wrong Busy (other_error rs q busy refl refl))
      (λ idle. of_command_lem ch e trn (not-false (is_enabled rs ch) on) idle (command_of ch q.cmd) refl (commands_proper ch q.cmd)))

  pub decoded_cases : P (decoded rs q)
  unfolding decoded
  decoded_cases =
      cond_cases P (eqb q.trn no_transaction || eqb q.trn interrupt_transaction) (λ _. wrong TrnWrong (other_error rs q trn_wrong refl refl))
      (λ trn. of_channel_lem trn (channel_of q.ch) refl)

-- and it is decoded into just that
pub granted_decoded : (rs : List ℕ) (q : Request) (given : ℕ) (does : Does) → Granted rs q given does → decoded rs q ≡ Ok (command_asked q given does)
unfolding decoded
granted_decoded rs q given does g =
    simp (g.transaction, g.named, g.enabled, g.idle, g.command, eq-eqb q.len q.len refl, g.moved)

-- ---- a channel's own bytes

abbrev pub SameOwn : Channel → List ℕ → List ℕ → Type 0
SameOwn ch rs ss = part (first ch) (many ch) rs ≡ part (first ch) (many ch) ss

-- its registers are among them
pub own_read : (ch : Channel) (rs ss : List ℕ) → SameOwn ch rs ss → (r : Register) → Own ch r → read rs r ≡ read ss r
unfolding read
own_read ch rs ss e r o =
    let inner : (s : List ℕ) → part (place r) (wide r) s ≡ part (place r - first ch) (wide r) (part (first ch) (many ch) s) =
    λ s. part_part s (first ch) (many ch) (place r) (wide r) (own_first ch r o) (own_last ch r o) in
    ap number (inner rs ∙ ap (part (place r - first ch) (wide r)) e ∙ sym (inner ss))

-- the controller's say which channels are enabled
pub enabled_alike : (rs ss : List ℕ) → SameOwn channel.Controller rs ss → (ch : Channel) → is_enabled rs ch ≡ is_enabled ss ch
enabled_alike rs ss e ch = by (row_of ch).switch (switched_by_lem ch)
  where
    by : (s : Option RowSwitch) → switched_by s ≡ true → is_on rs s ≡ is_on ss s
    by None h = refl
    by (Some s) h = ap (λ (x : ℕ). not (eqb (bit_and x s.bit) 0)) (own_read channel.Controller rs ss e (register_of s.control) h)

-- a store into another channel's own leaves them
pub own_elsewhere : (ch k : Channel) (rs : List ℕ) (r q : Register) (v : ℕ) → length rs ≡ size → Own ch q → Own k r → Apart (first ch) (many ch) (first k) (many k)
    → read (store rs r v) q ≡ read rs q
own_elsewhere ch k rs r q v n o m a =
    own_read ch (store rs r v) rs (part_stays rs r v n (first ch) (many ch) (apart_own k r m (first ch) (many ch) a)) q o

-- a store behind them leaves them
stored_switches : (rs : List ℕ) (r : Register) (v : ℕ) → length rs ≡ size → switches ≤ place r → SameOwn channel.Controller (store rs r v) rs
stored_switches rs r v n b = part_stays rs r v n 0 3 (inl b)

-- ---- a channel that is enabled, or whose bytes are 0

module _ (rs ss : List ℕ) (k : Channel) (same : is_enabled ss k ≡ is_enabled rs k) where
  held_through : (is_enabled rs k ≡ true) ⊎ SameOwn k ss rs → still_held rs k ≡ true → still_held ss k ≡ true
  unfolding still_held are_zero
  held_through (inl on) h = simp (same, on)
  held_through (inr e) h = rw (same, e) h

abbrev pub among : {A : Type 0} → A → List A → Type 0
among x [] = ⊥
among x (y ∷ ys) = (x ≡ y) ⊎ among x ys

-- one after the other
held_at : (chs : List Channel) (rs : List ℕ) → are_held chs rs ≡ true → (ch : Channel) → among ch chs → still_held rs ch ≡ true
unfolding are_held
held_at [] rs h ch m = absurd m
held_at (d ∷ ds) rs h ch (inl e) = rw e (and_left (still_held rs d) _ h)
held_at (d ∷ ds) rs h ch (inr m) = held_at ds rs (and_right (still_held rs d) _ h) ch m

-- all are those of each register
held_append : (cs ds : List Channel) (rs : List ℕ) → are_held (cs ++ ds) rs ≡ (are_held cs rs && are_held ds rs)
unfolding are_held
held_append [] ds rs = refl
held_append (c ∷ cs) ds rs =
    ap (λ (t : Bool). still_held rs c && t) (held_append cs ds rs) ∙ and_assoc (still_held rs c) (are_held cs rs) (are_held ds rs)

all_three : (rs : List ℕ) → all_held rs ≡ (are_held (dropping B) rs && (are_held (dropping C) rs && are_held (dropping D) rs))
all_three rs =
    held_append (dropping B) (dropping C ++ dropping D) rs
    ∙ ap (λ (t : Bool). are_held (dropping B) rs && t) (held_append (dropping C) (dropping D) rs)

held_by : (rs : List ℕ) → all_held rs ≡ true → (d : Control) → are_held (dropping d) rs ≡ true
held_by rs h =
    let b = both (are_held (dropping B) rs) _ (sym (all_three rs) ∙ h) in
    let c = both (are_held (dropping C) rs) (are_held (dropping D) rs) b.1 in
    λ (d : Control). by b.0 c.0 c.1 d
  where
    by : are_held (dropping B) rs ≡ true → are_held (dropping C) rs ≡ true → are_held (dropping D) rs ≡ true → (d : Control)
        → are_held (dropping d) rs ≡ true
    by x y z B = x
    by x y z C = y
    by x y z D = z

held_each : (rs : List ℕ) → ((d : Control) → are_held (dropping d) rs ≡ true) → all_held rs ≡ true
held_each rs f = all_three rs ∙ ap₂ ◌&&◌ (f B) (ap₂ ◌&&◌ (f C) (f D))

module _ (d : Control) (rs ss : List ℕ) (step : (ch : Channel) → Dropper d ch → still_held rs ch ≡ true → still_held ss ch ≡ true) where
  all_through : (cs : List Channel) → all (dropped_by d) cs ≡ true → are_held cs rs ≡ true → are_held cs ss ≡ true
  unfolding are_held
  all_through [] a h = refl
  all_through (c ∷ cs) a h =
      let k = both (dropped_by d c) (all (dropped_by d) cs) a in
      let e = both (still_held rs c) (are_held cs rs) h in
      ap₂ ◌&&◌ (step c (dropper d c k.0) e.0) (all_through cs k.1 e.1)

  through : all_held rs ≡ true → are_held (dropping d) ss ≡ true
  through h = all_through (dropping d) (all_dropped d) (held_by rs h d)

-- SPI, GPIO, and the masters
pub held_parts : (rs : List ℕ) → all_held rs ≡ (still_held rs channel.Spi && (still_held rs channel.Gpio && each_master (λ i. still_held rs (channel.Master i))))
unfolding are_held
held_parts rs = refl

pub master_held : (rs : List ℕ) → all_held rs ≡ true → (i : ℕ) → i < 16 → still_held rs (channel.Master i) ≡ true
master_held rs h i l =
    each_at 16 0 (λ (j : ℕ). still_held rs (channel.Master j))
    (and_right (still_held rs channel.Gpio) _ (and_right (still_held rs channel.Spi) _ (sym (held_parts rs) ∙ h))) i (omega arith) l

-- A DISABLED CHANNEL THAT DROPS ITS REGISTERS HOLDS THEM ALL AT 0
pub disabled_holds : (rs : List ℕ) → all_held rs ≡ true → (ch : Channel) → among ch all_dropping → is_enabled rs ch ≡ false
    → (r : Register) → Own ch r → read rs r ≡ 0
unfolding still_held
disabled_holds rs h ch m off r o =
    let zeros = or_second (is_enabled rs ch) (are_zero (first ch) (many ch) rs) (held_at all_dropping rs h ch m) off in
    read_zero (first ch) (many ch) rs r zeros (own_first ch r o) (own_last ch r o)

-- ---- sound registers: bytes, as many as they should be, no bit set that reads 0, what a channel drops at 0 while it is disabled, and every open
-- start of a master one

pub record Sound (rs : List ℕ) : Type 0 where
  pub fits : RegistersFit rs
  pub masked : within rs ≡ true
  pub held : all_held rs ≡ true
  pub opens : opens_sound rs ≡ true

-- a register that may be stored into: no switch, and of no channel that is disabled and drops it
pub record Free (rs : List ℕ) (r : Register) : Type 0 where
  pub behind : switches ≤ place r
  pub apart : (ch : Channel) → behind_core ≤ first ch → (is_enabled rs ch ≡ true) ⊎ Apart (first ch) (many ch) (place r) (wide r)

-- ---- the open starts

-- the open start of two masters that are one
same_open : (rs : List ℕ) (i j : ℕ) → bank i ≡ bank j → read rs (master i Open) ≡ read rs (master j Open)
unfolding read
same_open rs i j e = rw e refl

-- a start that is one stays one while the master's bytes stay
open_alike : (rs ss : List ℕ) (i : ℕ) → SameOwn (channel.Master i) ss rs → open_sound rs i ≡ true → open_sound ss i ≡ true
unfolding open_sound
open_alike rs ss i e h =
    rw (own_read (channel.Master i) ss rs e (master i Open) (field_own i Open), own_read (channel.Master i) ss rs e (master i Ctrl) (field_own i Ctrl)) h

idle_open : (rs : List ℕ) (i : ℕ) → read rs (master i Open) ≡ 0 → open_sound rs i ≡ true
unfolding open_sound
idle_open rs i z = simp (z)

or_none : (a b : Bool) → (a || b) ≡ false → a ≡ false
or_none true b h = absurd (true≢false h)
or_none false b h = refl

turn_apart : (q r : Register) → apart q r ≡ true → apart r q ≡ true
turn_apart q r h = by (leb (end q) (place r)) h
  where
    by : (t : Bool) → (t || leb (end r) (place q)) ≡ true → (leb (end r) (place q) || t) ≡ true
    by true f = or_any (leb (end r) (place q)) true refl
    by false f = simp (f)

-- what a start is
open_is : (rs : List ℕ) (i trn cmd control : ℕ) (k : Option Command) → read rs (master i Open) ≡ trn + 256 * cmd → trn < 256 → cmd < 256 → eqb trn 0 ≡ false
    → read rs (master i Ctrl) ≡ control → command_of (channel.Master i) cmd ≡ k → is_start control k ≡ true → open_sound rs i ≡ true
unfolding open_sound
open_is rs i trn cmd control k h l u z c e f =
    let m : (trn + 256 * cmd) % 256 ≡ trn = omega arith in
    let v : (trn + 256 * cmd) / 256 ≡ cmd = omega arith in
    let d : (trn + 256 * cmd) / 256 % 256 ≡ cmd = rw v (mod-eq_of_lt u) in
    rw (h, m, d, c, e) (or_any (eqb (trn + 256 * cmd) 0) _ (simp (z) f))

-- what is stored into a free register leaves sound registers, where it leaves every open start one
module _ (rs : List ℕ) (r : Register) (v : ℕ) (f : Free rs r) (s : Sound rs) where
  stays_enabled : (ch : Channel) → is_enabled (store rs r v) ch ≡ is_enabled rs ch
  stays_enabled = enabled_alike (store rs r v) rs (stored_switches rs r v s.fits.long f.behind)

  same_own : (k : Channel) → (is_enabled rs k ≡ true) ⊎ Apart (first k) (many k) (place r) (wide r) → (is_enabled rs k ≡ true) ⊎ SameOwn k (store rs r v) rs
  same_own k (inl on) = inl on
  same_own k (inr o) = inr (part_stays rs r v s.fits.long (first k) (many k) o)

  stored_opens : ((i : ℕ) → i < 16 → open_sound rs i ≡ true → open_sound (store rs r v) i ≡ true) → Sound (store rs r v)
  stored_opens o =
      record {
        fits = store_fits rs r v s.fits;
        masked = store_within rs r v s.fits.long s.masked;
        held =
            held_each (store rs r v)
            (λ d. through d rs (store rs r v)
            (λ ch k h. held_through rs (store rs r v) ch (stays_enabled ch) (same_own ch (f.apart ch k.behind)) h) s.held);
        opens = each_through 16 0 (open_sound rs) (open_sound (store rs r v)) o s.opens;
      }

-- a register that no open start depends on: it is another channel's, or the master is idle and keeps no start in it
abbrev CalmAt : List ℕ → Register → ℕ → Type 0
CalmAt rs r i = Apart (bank i) 21 (place r) (wide r) ⊎ ((read rs (master i Open) ≡ 0) × (apart (master i Open) r ≡ true))

abbrev Calm : List ℕ → Register → Type 0
Calm rs r = (i : ℕ) → CalmAt rs r i

pub stored_sound : (rs : List ℕ) (r : Register) (v : ℕ) → Free rs r → Calm rs r → Sound rs → Sound (store rs r v)
stored_sound rs r v f calm s = stored_opens rs r v f s (λ i _ h. by i h (calm i))
  where
    by : (i : ℕ) → open_sound rs i ≡ true → CalmAt rs r i → open_sound (store rs r v) i ≡ true
    by i h (inl a) = open_alike rs (store rs r v) i (part_stays rs r v s.fits.long (bank i) 21 a) h
    by i h (inr z) = idle_open (store rs r v) i (read_other rs r v s.fits.long (master i Open) z.1 ∙ z.0)

-- an enabled channel's own registers are free
pub own_free : (rs : List ℕ) (ch : Channel) (r : Register) → is_enabled rs ch ≡ true → (is_own ch r && leb switches (place r)) ≡ true → Free rs r
own_free rs ch r on h =
    record { behind = leb-true switches (place r) (and_right (is_own ch r) _ h); apart = λ k _. decide k (one_or_apart k ch) }
  where
    decide : (k : Channel) → Twin k ch ⊎ Apart (first k) (many k) (first ch) (many ch)
        → (is_enabled rs k ≡ true) ⊎ Apart (first k) (many k) (place r) (wide r)
    decide k (inl e) = inl (rw e.switches on)
    decide k (inr o) = inr (apart_own ch r (and_left (is_own ch r) _ h) (first k) (many k) o)

module _ (rs : List ℕ) (ch : Channel) (r : Register) (own : Own ch r) where
  own_calm : ((i : ℕ) → Twin (channel.Master i) ch → (read rs (master i Open) ≡ 0) × (apart (master i Open) r ≡ true)) → Calm rs r
  own_calm h i = by (one_or_apart (channel.Master i) ch)
    where
      by : Twin (channel.Master i) ch ⊎ Apart (bank i) 21 (first ch) (many ch) → CalmAt rs r i
      by (inl e) = inr (h i e)
      by (inr a) = inl (apart_own ch r own (bank i) 21 a)

  -- they are calm where it is no master
  lone_calm : lone ch ≡ true → Calm rs r
  lone_calm l = own_calm (λ i e. absurd (false≢true (ap lone e.same ∙ lone_again ch ∙ l)))

  -- or one that is idle, and does not keep its start there
  idle_calm : is_busy rs ch ≡ false → spares (row_of ch).busy r ≡ true → Calm rs r
  idle_calm idle spared = by (lone_or_master ch)
    where
      none : (j : ℕ) → is_busy rs (channel.Master j) ≡ false → read rs (master j Open) ≡ 0
      none j h = eqb-true (read rs (master j Open)) 0 (not-false (eqb (read rs (master j Open)) 0) h)

      of_master : (j : ℕ) → ch ≡ channel.Master j → (i : ℕ) → Twin (channel.Master i) ch → (read rs (master i Open) ≡ 0) × (apart (master i Open) r ≡ true)
      of_master j n i e =
          let b : bank i ≡ bank j = e.firsts ∙ ap first n in (
            same_open rs i j b ∙ none j (subst (λ (k : Channel). is_busy rs k ≡ false) n idle),
            rw b (subst (λ (k : Channel). spares (row_of k).busy r ≡ true) n spared),
          )

      by : (lone ch ≡ true) ⊎ IsMaster ch → Calm rs r
      by (inl l) = lone_calm l
      by (inr m) = own_calm (of_master m.index m.named)

-- so is what no channel drops: the SEU counter, the DAC, the ID
core_free : (rs : List ℕ) (r : Register) → switches ≤ place r → end r ≤ behind_core → Free rs r
core_free rs r b e = record { behind = b; apart = λ c l. inr (inr (omega arith)) }

core_calm : (rs : List ℕ) (r : Register) → end r ≤ behind_core → Calm rs r
core_calm rs r e i = let b = bank_from i in inl (inr (omega arith))

-- ---- after a switch

behind_switches : (d : Control) (ch : Channel) → Dropper d ch → switches ≤ first ch
behind_switches d ch k = let l = k.behind in omega arith

or_true : (t : Bool) → (t || true) ≡ true
or_true true = refl
or_true false = refl

-- two channels that are one are held alike
twin_held : (rs : List ℕ) (j k : Channel) → Twin j k → still_held rs j ≡ still_held rs k
unfolding still_held
twin_held rs j k e = simp (e.switches, e.firsts, e.manys)

-- a channel's own bytes at 0
module _ (k : Channel) (rs : List ℕ) (n : length rs ≡ size) where
  room : last k ≤ length rs
  room = rw n (own_inside k)

  abbrev cleared : List ℕ
  cleared = zeroed (first k) (many k) rs

  -- a register is one of them, or stays
  cleared_read : (j : Channel) (r : Register) → Own j r → (read cleared r ≡ 0) ⊎ (read cleared r ≡ read rs r)
  cleared_read j r o = by (one_or_apart j k)
    where
      by : Twin j k ⊎ Apart (first j) (many j) (first k) (many k) → (read cleared r ≡ 0) ⊎ (read cleared r ≡ read rs r)
      by (inl e) =
          let mine : Own k r = rw (← e.firsts, ← e.manys) o in
          inl (read_zero (first k) (many k) cleared r (zeroed_zero (first k) (many k) rs room) (own_first k r mine) (own_last k r mine))
      by (inr a) = inr (own_read j cleared rs (zeroed_apart (first k) (many k) rs room (first j) (many j) a) r o)

  stays_within : (r : Register) → (read cleared r ≡ 0) ⊎ (read cleared r ≡ read rs r) → is_within rs r ≡ true → is_within cleared r ≡ true
  stays_within r (inl e) h = rw e (eq-eqb _ 0 (and_zero_l (registers.row_of r).mask))
  stays_within r (inr e) h = rw e h

  four_cleared : four_within rs ≡ true → four_within cleared ≡ true
  four_cleared h =
      let h3 = both (is_within rs Crb && is_within rs Crd && is_within rs ChipId) (is_within rs Intenable) h in
      let h2 = both (is_within rs Crb && is_within rs Crd) (is_within rs ChipId) h3.0 in
      let h1 = both (is_within rs Crb) (is_within rs Crd) h2.0 in
      ap₂ ◌&&◌
      (ap₂ ◌&&◌
      (ap₂ ◌&&◌ (stays_within Crb (cleared_read channel.Controller Crb refl) h1.0) (stays_within Crd (cleared_read channel.Controller Crd refl) h1.1))
      (stays_within ChipId (cleared_read channel.Id ChipId refl) h2.1))
      (stays_within Intenable (cleared_read channel.Gpio Intenable refl) h3.1)

  cleared_within : within rs ≡ true → within cleared ≡ true
  cleared_within h =
      let w = both (four_within rs) _ h in
      ap₂ ◌&&◌ (four_cleared w.0) (each_through 16 0 (λ (i : ℕ). is_within rs (master i Status)) (λ (i : ℕ). is_within cleared (master i Status))
      (λ i _ g. stays_within (master i Status) (cleared_read (channel.Master i) (master i Status) (field_own i Status)) g) w.1)

  -- a dropped start is none
  cleared_open : (i : ℕ) → open_sound rs i ≡ true → open_sound cleared i ≡ true
  cleared_open i h = by (one_or_apart (channel.Master i) k)
    where
      by : Twin (channel.Master i) k ⊎ Apart (bank i) 21 (first k) (many k) → open_sound cleared i ≡ true
      by (inl e) =
          let mine : Own k (master i Open) = rw (← e.firsts, ← e.manys) (field_own i Open) in
          idle_open cleared i
          (read_zero (first k) (many k) cleared (master i Open) (zeroed_zero (first k) (many k) rs room) (own_first k (master i Open) mine) (own_last k (master i Open) mine))
      by (inr a) = open_alike rs cleared i (zeroed_apart (first k) (many k) rs room (bank i) 21 a) h

  -- what holds of registers, and of them with these at 0, holds of them held
  held_cases : (P : List ℕ → Type 0) → P rs → P cleared → P (held rs k)
  unfolding held
  held_cases P p z = cond_cases P (is_enabled rs k) (λ _. p) (λ _. z)

  pub length_held : length (held rs k) ≡ size
  length_held = held_cases (λ s. length s ≡ size) n (length_zeroed (first k) (many k) rs room ∙ n)

  held_zero : (j : Channel) (r : Register) → Own j r → read rs r ≡ 0 → read (held rs k) r ≡ 0
  held_zero j r o z = held_cases (λ s. read s r ≡ 0) z (by (cleared_read j r o))
    where
      by : (read cleared r ≡ 0) ⊎ (read cleared r ≡ read rs r) → read cleared r ≡ 0
      by (inl e) = e
      by (inr e) = e ∙ z

  module _ (b : switches ≤ first k) where
    held_switches : SameOwn channel.Controller (held rs k) rs
    held_switches = held_cases (λ s. SameOwn channel.Controller s rs) refl (zeroed_apart (first k) (many k) rs room 0 3 (inl b))

    held_itself : still_held (held rs k) k ≡ true
    unfolding held still_held
    held_itself = cond_cases (λ s. (is_enabled s k || are_zero (first k) (many k) s) ≡ true) (is_enabled rs k) (λ e. simp e)
        (λ _. rw (zeroed_zero (first k) (many k) rs room) (or_true (is_enabled cleared k)))

    held_others : (j : Channel) → still_held rs j ≡ true → still_held (held rs k) j ≡ true
    held_others j h = by (one_or_apart j k)
      where
        by : Twin j k ⊎ Apart (first j) (many j) (first k) (many k) → still_held (held rs k) j ≡ true
        by (inl e) = twin_held (held rs k) j k e ∙ held_itself
        by (inr a) =
            held_through rs (held rs k) j (enabled_alike (held rs k) rs held_switches j)
            (inr (held_cases (λ s. SameOwn j s rs) refl (zeroed_apart (first k) (many k) rs room (first j) (many j) a))) h

-- what each one's holding keeps, the holding of all keeps
module _ (d : Control) (P : List ℕ → Type 0) (step : (ch : Channel) (rs : List ℕ) → length rs ≡ size → Dropper d ch → P rs → P (held rs ch)) where
  all_keep : (cs : List Channel) → all (dropped_by d) cs ≡ true → (rs : List ℕ) → length rs ≡ size → P rs → P (held_all cs rs)
  unfolding held_all
  all_keep [] a rs n p = p
  all_keep (c ∷ cs) a rs n p =
      let k = both (dropped_by d c) (all (dropped_by d) cs) a in
      all_keep cs k.1 (held rs c) (length_held c rs n) (step c rs n (dropper d c k.0) p)

  settled_keeps : (rs : List ℕ) → length rs ≡ size → P rs → P (settled d rs)
  settled_keeps = all_keep (dropping d) (all_dropped d)

module _ (d : Control) (rs : List ℕ) (n : length rs ≡ size) where
  pub length_settled : length (settled d rs) ≡ size
  length_settled = settled_keeps d (λ s. length s ≡ size) (λ ch s m _ _. length_held ch s m) rs n n

  settled_switches : SameOwn channel.Controller (settled d rs) rs
  settled_switches =
      settled_keeps d (λ s. SameOwn channel.Controller s rs) (λ ch s m k e. held_switches ch s m (behind_switches d ch k) ∙ e) rs n refl

  pub settled_enabled : (ch : Channel) → is_enabled (settled d rs) ch ≡ is_enabled rs ch
  settled_enabled = enabled_alike (settled d rs) rs settled_switches

  -- settling takes nothing from a 0
  pub settled_zero : (j : Channel) (r : Register) → Own j r → read rs r ≡ 0 → read (settled d rs) r ≡ 0
  settled_zero j r o z = settled_keeps d (λ s. read s r ≡ 0) (λ ch s m _ e. held_zero ch s m j r o e) rs n z

  settled_still : (ch : Channel) → still_held rs ch ≡ true → still_held (settled d rs) ch ≡ true
  settled_still ch h =
      settled_keeps d (λ s. still_held s ch ≡ true) (λ c s m k e. held_others c s m (behind_switches d c k) ch e) rs n h

all_settled : (d : Control) (cs : List Channel) → all (dropped_by d) cs ≡ true → (rs : List ℕ) → length rs ≡ size → are_held cs (held_all cs rs) ≡ true
unfolding are_held held_all
all_settled d [] a rs n = refl
all_settled d (c ∷ cs) a rs n =
    let e = both (dropped_by d c) (all (dropped_by d) cs) a in
    ap₂ ◌&&◌
    (all_keep d (λ s. still_held s c ≡ true) (λ j s m k h. held_others j s m (behind_switches d j k) c h) cs e.1 (held rs c)
    (length_held c rs n) (held_itself c rs n (behind_switches d c (dropper d c e.0))))
    (all_settled d cs e.1 (held rs c) (length_held c rs n))

-- WHAT A REGISTER DISABLES DROPS ALL THAT IT HELD
pub settled_drops : (d : Control) (rs : List ℕ) → length rs ≡ size → (ch : Channel) → among ch (dropping d) → is_enabled rs ch ≡ false
    → (r : Register) → Own ch r → read (settled d rs) r ≡ 0
unfolding still_held
settled_drops d rs n ch m off r o =
    let now = settled_enabled d rs n ch ∙ off in
    let held = held_at (dropping d) (settled d rs) (all_settled d (dropping d) (all_dropped d) rs n) ch m in
    read_zero (first ch) (many ch) (settled d rs) r (or_second (is_enabled (settled d rs) ch) _ held now) (own_first ch r o) (own_last ch r o)

-- a channel that another register switches does not notice
other_switch : (d : Control) (s : Option RowSwitch) (rs ss : List ℕ) → is_by d s ≡ true → read ss (register_of d) ≡ read rs (register_of d) → is_on ss s ≡ is_on rs s
other_switch d None rs ss h e = refl
other_switch d (Some s) rs ss h e = by d s.control h e
  where
    by : (d c : Control) → is_control d c ≡ true → read ss (register_of d) ≡ read rs (register_of d)
        → not (eqb (bit_and (read ss (register_of c)) s.bit) 0) ≡ not (eqb (bit_and (read rs (register_of c)) s.bit) 0)
    by B B h e = ap (λ (x : ℕ). not (eqb (bit_and x s.bit) 0)) e
    by B C h e = absurd (false≢true h)
    by B D h e = absurd (false≢true h)
    by C B h e = absurd (false≢true h)
    by C C h e = ap (λ (x : ℕ). not (eqb (bit_and x s.bit) 0)) e
    by C D h e = absurd (false≢true h)
    by D B h e = absurd (false≢true h)
    by D C h e = absurd (false≢true h)
    by D D h e = ap (λ (x : ℕ). not (eqb (bit_and x s.bit) 0)) e

-- whatever a register of the controller's is given, what is left is sound
module _ (c : Control) (rs : List ℕ) (v : ℕ) (s : Sound rs) where
  abbrev switched : List ℕ
  switched = written rs (register_of c) v

  fitting : RegistersFit switched
  fitting = store_fits rs (register_of c) _ s.fits

  other_held : (d : Control) → apart (register_of d) (register_of c) ≡ true → (ch : Channel) → Dropper d ch → still_held rs ch ≡ true
      → still_held (settled c switched) ch ≡ true
  other_held d o ch j h =
      let l = j.behind in
      let e = control_front c in
      settled_still c switched fitting.long ch
      (held_through rs switched ch
      (other_switch d (row_of ch).switch rs switched j.switched (read_other rs (register_of c) _ s.fits.long (register_of d) o))
      (inr (part_stays rs (register_of c) _ s.fits.long (first ch) (many ch) (inr (omega arith)))) h)

  switched_held : (d : Control) → are_held (dropping d) (settled c switched) ≡ true
  switched_held d = by (one_control c d)
    where
      by : (d ≡ c) ⊎ (apart (register_of d) (register_of c) ≡ true) → are_held (dropping d) (settled c switched) ≡ true
      by (inl e) = rw e (all_settled c (dropping c) (all_dropped c) switched fitting.long)
      by (inr o) = through d rs (settled c switched) (other_held d o) s.held

  -- the masters stand behind what switches them
  front : (i : ℕ) → Apart (bank i) 21 (place (register_of c)) (wide (register_of c))
  front i = let b = bank_from i in let e = control_front c in inr (omega arith)

  switched_sound : Sound (settled c switched)
  switched_sound =
      record {
        fits =
            record {
              long = length_settled c switched fitting.long;
              bytes =
                  settled_keeps c AreBytes (λ k s n _ b. held_cases k s n AreBytes b (zeroed_bytes (first k) (many k) s b))
                  switched fitting.long fitting.bytes;
            };
        masked =
            settled_keeps c (λ s. within s ≡ true)
            (λ k s n _ w. held_cases k s n (λ s. within s ≡ true) w (cleared_within k s n w)) switched fitting.long
            (store_within rs (register_of c) _ s.fits.long s.masked);
        held = held_each (settled c switched) switched_held;
        opens =
            settled_keeps c (λ s. opens_sound s ≡ true)
            (λ k s n _ o. held_cases k s n (λ s. opens_sound s ≡ true) o
            (each_through 16 0 (open_sound s) (open_sound (cleared k s n)) (λ i _. cleared_open k s n i) o)) switched fitting.long
            (each_through 16 0 (open_sound rs) (open_sound switched)
            (λ i _. open_alike rs switched i (part_stays rs (register_of c) _ s.fits.long (bank i) 21 (front i))) s.opens);
      }

-- ---- every request leaves sound registers

-- ERR and LEN of a reply are bytes
abbrev pub ReplyBytes : Option Reply → Type 0
ReplyBytes None = Unit
ReplyBytes (Some reply) = (reply.error < 256) × (reply.length < 256)

-- TRN and code of a request are bytes
pub record RequestBytes (q : Request) : Type 0 where
  pub trn : q.trn < 256
  pub cmd : q.cmd < 256

module _ (rs : List ℕ) (q : Request) (s : Sound rs) where
  -- into a register of an idle channel's own, but for the one that makes it busy
  own_sound : (to : Channel) (r : Register) (v : ℕ) → is_enabled rs to ≡ true → is_busy rs to ≡ false
      → (is_own to r && leb switches (place r) && spares (row_of to).busy r) ≡ true → Sound (store rs r v)
  own_sound to r v on idle h =
      let e = both (is_own to r && leb switches (place r)) _ h in
      stored_sound rs r v (own_free rs to r on e.0) (idle_calm rs to r (and_left (is_own to r) _ e.0) idle e.1) s

  -- a start that is granted is one
  module _ (b : RequestBytes q) (given i : ℕ) (t : Transaction) (g : Granted rs q given (Transact i t)) where
    abbrev started : List ℕ
    started = store rs (master i Open) (q.trn + 256 * q.cmd)

    the_master : g.which ≡ channel.Master i
    the_master = the_number g.which i g.own

    pub kept_start : read started (master i Open) ≡ q.trn + 256 * q.cmd
    kept_start =
        let t = b.trn in
        let c = b.cmd in
        read_same rs (master i Open) (q.trn + 256 * q.cmd) s.fits.long ∙ and_mask (q.trn + 256 * q.cmd) 16
        ∙ mod-eq_of_lt (omega arith)

    start_own : (is_own g.which (master i Open) && leb switches (place (master i Open))) ≡ true
    start_own =
        let f = bank_from i in
        rw the_master (ap₂ ◌&&◌ (field_own i Open) (le-leb switches (bank i + 3) (omega arith)))

    start_open : open_sound started i ≡ true
    start_open =
        open_is started i q.trn q.cmd (read rs (master i Ctrl)) _ kept_start b.trn b.cmd (or_none (eqb q.trn 0) _ g.transaction)
        (read_other rs (master i Open) _ s.fits.long (master i Ctrl) (turn_apart (master i Open) (master i Ctrl) (open_apart i Ctrl refl)))
        (subst (λ (k : Channel). command_of k q.cmd ≡ known (lengths q.len given) (Transact i t)) the_master g.command) g.moved

    start_sound : Sound started
    start_sound =
        stored_opens rs (master i Open) _ (own_free rs g.which (master i Open) g.enabled start_own) s (λ j l h. by j l h (one_or_apart (channel.Master j) (channel.Master i)))
      where
        by : (j : ℕ) → j < 16 → open_sound rs j ≡ true → Twin (channel.Master j) (channel.Master i) ⊎ Apart (bank j) 21 (bank i) 21 → open_sound started j ≡ true
        by j l h (inl e) = rw (one_number j i e.firsts l (below_16 q.ch i (g.named ∙ ap Some the_master))) start_open
        by j l h (inr a) =
            open_alike rs started j
            (part_stays rs (master i Open) _ s.fits.long (bank j) 21 (apart_own (channel.Master i) (master i Open) (field_own i Open) (bank j) 21 a)) h

  left_sound : RequestBytes q → (given : ℕ) (does : Does) → Granted rs q given does → Sound (left rs q does)
  left_sound b given (Write r) g = own_sound g.which r _ g.enabled g.idle g.own
  left_sound b given (Switch c) g = switched_sound c rs q.value s
  left_sound b given (Read r) g = s
  left_sound b given (Clear r) g = own_sound g.which r 0 g.enabled g.idle g.own
  left_sound b given (Start r) g =
      let e = both (is_own g.which r && leb switches (place r)) _ g.own in
      stored_sound rs r q.trn (own_free rs g.which r g.enabled e.0) (lone_calm rs g.which r (and_left (is_own g.which r) _ e.0) e.1) s
  left_sound b given (Transact i t) g = start_sound b given i t g

  -- INVCOM is of an enabled, idle master
  marked_sound : (e : ℕ) → Refused rs q e → Sound (marked rs q.ch e)
  unfolding marked
  marked_sound e r =
      cond_cases Sound (eqb e cmd_unknown) (λ h. let u = r.unlisted (eqb-true e cmd_unknown h) in rw u.named (by u.which u.enabled u.idle)) (λ _. s)
    where
      status : (i v : ℕ) → is_enabled rs (channel.Master i) ≡ true → is_busy rs (channel.Master i) ≡ false → Sound (store rs (master i Status) v)
      status i v on idle =
          let f = bank_from i in
          own_sound (channel.Master i) (master i Status) v on idle
          (ap₂ ◌&&◌ (ap₂ ◌&&◌ (field_own i Status) (le-leb switches (bank i + 2) (omega arith))) (open_apart i Status refl))

      by : (ch : Channel) → is_enabled rs ch ≡ true → is_busy rs ch ≡ false → Sound (with_invcom rs (Some ch))
      by channel.Controller on idle = s
      by channel.Spi on idle = s
      by channel.Gpio on idle = s
      by (channel.Master i) on idle = status i _ on idle
      by channel.Seu on idle = s
      by channel.Id on idle = s
      by channel.Dac on idle = s

  pub performed_sound : RequestBytes q → Sound (performed rs q)
  unfolding performed
  performed_sound b = decoded_cases rs q (λ d. Sound (left_by rs q d)) (λ f. marked_sound (fault_bit f)) (left_sound b)

-- so is the LEN of every known command's reply
abbrev pub GivenByte : Option Command → Type 0
GivenByte None = Unit
GivenByte (Some command) = command.lengths.given < 256

pub given_byte : (ch : Channel) (cmd : ℕ) → GivenByte (command_of ch cmd)
given_byte ch cmd = by (command_of ch cmd) (commands_proper ch cmd)
  where
    by : (k : Option Command) → proper ch k ≡ true → GivenByte k
    by None h = tt
    by (Some k) h = ltb-true k.lengths.given 256 (and_left (ltb k.lengths.given 256) _ (and_left (ltb k.lengths.given 256 && touches ch k.does) _ h))

module _ (rs : List ℕ) (q : Request) where
  told_bytes : (given : ℕ) (does : Does) → Granted rs q given does → ReplyBytes (told rs given does)
  told_bytes given (Write r) g = (lit< tt, g.byte)
  told_bytes given (Switch c) g = (lit< tt, g.byte)
  told_bytes given (Read r) g = (lit< tt, g.byte)
  told_bytes given (Clear r) g = (lit< tt, g.byte)
  told_bytes given (Start r) g = tt
  told_bytes given (Transact i t) g = tt

  pub replied_bytes : ReplyBytes (replied rs q)
  unfolding replied
  replied_bytes = decoded_cases rs q (λ d. ReplyBytes (reply_to rs d)) (λ f r. (r.bit.byte, lit< tt)) told_bytes

-- ---- so do a pin sample, a transfer and an upset, each stored where it may be

zeros_sound : Sound (replicate size 0)
unfolding read are_held still_held are_zero part number all_zero bank master_control master_bit open_sound
zeros_sound = record { fits = record { long = refl; bytes = zero_bytes size }; masked = refl; held = refl; opens = refl }

-- nothing but an ID
pub power_on_sound : (id : ℕ) → Sound (store (replicate size 0) ChipId id)
power_on_sound id = stored_sound (replicate size 0) ChipId id (core_free _ ChipId (lit≤ tt) (lit≤ tt)) (core_calm _ ChipId (lit≤ tt)) zeros_sound

-- sound registers in which a channel is enabled stay so, whatever is stored into its own
record Working (ch : Channel) (rs : List ℕ) : Type 0 where
  sound : Sound rs
  on : is_enabled rs ch ≡ true

works : (ch : Channel) (rs : List ℕ) (r : Register) (v : ℕ) → (is_own ch r && leb switches (place r)) ≡ true → Calm rs r → Working ch rs → Working ch (store rs r v)
works ch rs r v o calm w =
    let f = own_free rs ch r w.on o in
    record {
      sound = stored_sound rs r v f calm w.sound;
      on = enabled_alike (store rs r v) rs (stored_switches rs r v w.sound.fits.long f.behind) ch ∙ w.on;
    }

-- sound registers in which a master is enabled and idle
record Idle (i : ℕ) (rs : List ℕ) : Type 0 where
  sound : Sound rs
  on : is_enabled rs (channel.Master i) ≡ true
  none : read rs (master i Open) ≡ 0

field_store : (i : ℕ) (f : Field) → (is_own (channel.Master i) (master i f) && leb switches (place (master i f))) ≡ true
field_store i f =
    let b = bank_from i in
    let a = own_first (channel.Master i) (master i f) (field_own i f) in
    ap₂ ◌&&◌ (field_own i f) (le-leb switches (place (master i f)) (omega arith))

-- closing a start leaves it so
closed_idle : (i : ℕ) (rs : List ℕ) → Sound rs → is_enabled rs (channel.Master i) ≡ true → Idle i (store rs (master i Open) 0)
closed_idle i rs s on =
    let f = own_free rs (channel.Master i) (master i Open) on (field_store i Open) in
    let none = read_same rs (master i Open) 0 s.fits.long in
    record {
      sound = stored_opens rs (master i Open) 0 f s (λ j _ h. by j h none (one_or_apart (channel.Master j) (channel.Master i)));
      on = stays_enabled rs (master i Open) 0 f s (channel.Master i) ∙ on;
      none = none ∙ and_zero_l 65535;
    }
  where
    by : (j : ℕ) → open_sound rs j ≡ true → read (store rs (master i Open) 0) (master i Open) ≡ bit_and 0 65535
        → Twin (channel.Master j) (channel.Master i) ⊎ Apart (bank j) 21 (bank i) 21 → open_sound (store rs (master i Open) 0) j ≡ true
    by j h n (inl e) = idle_open (store rs (master i Open) 0) j (same_open _ j i e.firsts ∙ n ∙ and_zero_l 65535)
    by j h n (inr a) =
        open_alike rs (store rs (master i Open) 0) j
        (part_stays rs (master i Open) 0 s.fits.long (bank j) 21 (apart_own (channel.Master i) (master i Open) (field_own i Open) (bank j) 21 a)) h

-- and so does what is stored into another of its registers
idles : (i : ℕ) (rs : List ℕ) (f : Field) (v : ℕ) → is_open f ≡ false → Idle i rs → Idle i (store rs (master i f) v)
idles i rs f v h w =
    let free = own_free rs (channel.Master i) (master i f) w.on (field_store i f) in
    record {
      sound =
          stored_sound rs (master i f) v free
          (own_calm rs (channel.Master i) (master i f) (field_own i f)
          (λ j e. (same_open rs j i e.firsts ∙ w.none, rw e.firsts (open_apart i f h)))) w.sound;
      on = stays_enabled rs (master i f) v free w.sound (channel.Master i) ∙ w.on;
      none = read_other rs (master i f) v w.sound.fits.long (master i Open) (open_apart i f h) ∙ w.none;
    }

module _ (rs : List ℕ) (s : Sound rs) where
  pub sampled_sound : (levels kind : ℕ) → is_enabled rs channel.Gpio ≡ true → Sound (sampled rs levels kind)
  unfolding sampled
  sampled_sound levels kind on =
      let taken = works channel.Gpio rs Datain (datain_after rs levels kind) refl (lone_calm _ channel.Gpio Datain refl refl) (record { sound = s; on = on }) in
      cond_cases Sound (interrupts rs levels kind)
      (λ _. (works channel.Gpio _ Ints (firing_lines rs (datain_after rs levels kind)) refl (lone_calm _ channel.Gpio Ints refl refl) taken).sound)
      (λ _. taken.sound)

  -- a GO is open only where SPI is enabled
  pub busy_enabled : is_busy rs channel.Spi ≡ true → is_enabled rs channel.Spi ≡ true
  busy_enabled b = by (is_enabled rs channel.Spi) refl
    where
      by : (t : Bool) → is_enabled rs channel.Spi ≡ t → is_enabled rs channel.Spi ≡ true
      by true e = e
      by false e =
          let none = disabled_holds rs s.held channel.Spi (inl refl) e SpiGo refl in
          absurd (true≢false (sym b ∙ ap (λ (x : ℕ). not (eqb x 0)) none))

  pub completed_sound : (received : List ℕ) → is_busy rs channel.Spi ≡ true → Sound (completed rs received)
  unfolding completed with_data
  completed_sound received b =
      let w0 = works channel.Spi rs SpiData0 _ refl (lone_calm _ channel.Spi SpiData0 refl refl) (record { sound = s; on = busy_enabled b }) in
      let w1 = works channel.Spi _ SpiData1 _ refl (lone_calm _ channel.Spi SpiData1 refl refl) w0 in
      let w2 = works channel.Spi _ SpiData2 _ refl (lone_calm _ channel.Spi SpiData2 refl refl) w1 in
      let w3 = works channel.Spi _ SpiData3 _ refl (lone_calm _ channel.Spi SpiData3 refl refl) w2 in
      (works channel.Spi _ SpiGo 0 refl (lone_calm _ channel.Spi SpiGo refl refl) w3).sound

  -- a start is open only where its master is enabled
  pub start_enabled : (i : ℕ) → i < 16 → is_busy rs (channel.Master i) ≡ true → is_enabled rs (channel.Master i) ≡ true
  unfolding still_held
  start_enabled i l b = by (is_enabled rs (channel.Master i)) refl
    where
      by : (t : Bool) → is_enabled rs (channel.Master i) ≡ t → is_enabled rs (channel.Master i) ≡ true
      by true e = e
      by false e =
          let zeros = or_second (is_enabled rs (channel.Master i)) (are_zero (bank i) 21 rs) (master_held rs s.held i l) e in
          let none = read_zero (bank i) 21 rs (master i Open) zeros (own_first (channel.Master i) (master i Open) (field_own i Open))
          (own_last (channel.Master i) (master i Open) (field_own i Open)) in
          absurd (true≢false (sym b ∙ ap (λ (x : ℕ). not (eqb x 0)) none))

  pub ended_sound : (i : ℕ) (t : Transaction) (acknowledge low : Bool) (received : List ℕ) → i < 16 → is_busy rs (channel.Master i) ≡ true
      → Sound (ended i t acknowledge low received rs)
  unfolding ended filled filled_word
  ended_sound i t acknowledge low received l b =
      let told = idles i _ Status (status_after acknowledge low (read rs (master i Status))) refl (closed_idle i rs s (start_enabled i l b)) in
      cond_cases Sound (success acknowledge low && fills_data t)
      (λ _. (idles i _ Data3 _ refl (idles i _ Data2 _ refl (idles i _ Data1 _ refl (idles i _ Data0 _ refl told)))).sound)
      (λ _. told.sound)

  pub upset_sound : (v : ℕ) → Sound (store rs Seu v)
  upset_sound v = stored_sound rs Seu v (core_free rs Seu (lit≤ tt) (lit≤ tt)) (core_calm rs Seu (lit≤ tt)) s

-- ---- registers in range, as code looks at them

and_false : (a : Bool) → (a && false) ≡ false
and_false true = refl
and_false false = refl

mixed : (a b c x y z : Bool) → (a && (b && c) && (x && (y && z))) ≡ (a && x && (b && y && (c && z)))
mixed false b c x y z = refl
mixed true false c x y z = sym (and_false x)
mixed true true false x y z = sym (ap (λ (t : Bool). x && t) (and_false y) ∙ and_false x)
mixed true true true x y z = refl

sorted : (m x y w h o : Bool) → (m && x && y && (w && (h && o))) ≡ (m && w && (x && (y && h)) && o)
sorted false x y w h o = refl
sorted true false y w h o = sym (ap (λ (t : Bool). t && o) (and_false w))
sorted true true false w h o = sym (ap (λ (t : Bool). t && o) (and_false w))
sorted true true true w h o = and_assoc w h o

module _ (rs : List ℕ) (i : ℕ) (on : Bool) (o : on ≡ is_enabled rs (channel.Master i)) where
  pub sound_on : (w s : Bool) → on ≡ true → w ≡ is_within rs (master i Status) → s ≡ open_sound rs i → (w && s) ≡ master_sound rs i
  unfolding master_sound still_held
  sound_on w s t e f = simp (e, f, sym o ∙ t)

  -- what is 0 has no bit that reads 0 and no start
  zeros : on ≡ false → still_held rs (channel.Master i) ≡ true → (f : Field) → read rs (master i f) ≡ 0
  unfolding still_held
  zeros t k f =
      let z = or_second (is_enabled rs (channel.Master i)) (are_zero (bank i) 21 rs) k (sym o ∙ t) in
      read_zero (bank i) 21 rs (master i f) z (own_first (channel.Master i) (master i f) (field_own i f)) (own_last (channel.Master i) (master i f) (field_own i f))

  pub sound_off : (h : Bool) → on ≡ false → h ≡ still_held rs (channel.Master i) → h ≡ master_sound rs i
  unfolding master_sound
  sound_off h t e = e ∙ by (still_held rs (channel.Master i)) refl
    where
      by : (b : Bool) → still_held rs (channel.Master i) ≡ b → b ≡ (is_within rs (master i Status) && (b && open_sound rs i))
      by true k =
          let w : is_within rs (master i Status) ≡ true = rw (zeros t k Status) (eq-eqb _ 0 (and_zero_l 0x6C)) in
          let o : open_sound rs i ≡ true = idle_open rs i (zeros t k Open) in
          rw (w, o) refl
      by false k = sym (and_false (is_within rs (master i Status)))

  pub zero_off : (z : Bool) → on ≡ false → z ≡ are_zero (bank i) 21 rs → z ≡ master_sound rs i
  unfolding still_held
  zero_off z t e = sound_off z t (rw (sym o ∙ t) e)

  pub zero_at : (first : ℕ) (z : Bool) → on ≡ false → first ≡ bank i → z ≡ are_zero first 21 rs → z ≡ master_sound rs i
  zero_at first z t f e = zero_off z t (rw (← f) e)

pub bank_in : (rs : List ℕ) (i first : ℕ) → length rs ≡ size → first ≡ bank i → first + 21 ≤ length rs
bank_in rs i first n e = rw (n, e) (bank_to i)

pub ruleset one_master = (sound_on, bank_in, zero_at)

-- ---- no master is enabled

bit_on : (n k : ℕ) → not (eqb (bit_and n (2 ^ k)) 0) ≡ bit_of n k
bit_on n k =
    let p = pow-add 2 1 k in
    let e : 2 ^ (1 + k) - 2 ^ k ≡ 2 ^ k = omega arith in
    subst (λ (m : ℕ). not (eqb (bit_and n m) 0) ≡ bit_of n k) e (bit_test n k)

bit_off : (n k : ℕ) → n / 2 ^ k % 2 ≡ 0 → not (eqb (bit_and n (2 ^ k)) 0) ≡ false
bit_off n k h = bit_on n k ∙ rw h refl

low_three : (j v : ℕ) → j < 3 → v % 8 ≡ 0 → v / 2 ^ j % 2 ≡ 0
low_three zero v l h = omega arith
low_three (suc zero) v l h = omega arith
low_three (suc (suc zero)) v l h = omega arith
low_three (suc (suc (suc j))) v l h = absurd (omega arith)

high_zero : (v m : ℕ) → v < 8 → v / 2 ^ (m + 3) % 2 ≡ 0
high_zero v m l =
    let p = pow-add 2 m 3 in
    let q = pow_pos m in
    let e : v / 2 ^ (m + 3) ≡ 0 = div-eq_of_lt (omega arith) in
    rw e refl

none_enabled : (rs : List ℕ) → none_on rs ≡ true → (i : ℕ) → is_enabled rs (channel.Master i) ≡ false
unfolding master_control master_bit
none_enabled rs h i = by (ltb (i % 16) 5) (ltb (i % 16) 13) refl refl
  where
    b : read rs Crb < 8
    b = ltb-true (read rs Crb) 8 (search (and_left, and_right))

    c : read rs Crc ≡ 0
    c = eqb-true (read rs Crc) 0 (search (and_left, and_right))

    d : read rs Crd % 8 ≡ 0
    d = eqb-true (read rs Crd % 8) 0 (search (and_left, and_right))

    by : (s t : Bool) → ltb (i % 16) 5 ≡ s → ltb (i % 16) 13 ≡ t
        → is_on rs (by_bit (cond s B (cond t C D)) (cond s (2 ^ (i % 16 + 3)) (cond t (2 ^ (i % 16 - 5)) (2 ^ (i % 16 - 13))))) ≡ false
    by true t e f = bit_off (read rs Crb) (i % 16 + 3) (high_zero (read rs Crb) (i % 16) b)
    by false true e f = rw c refl
    by false false e f = bit_off (read rs Crd) (i % 16 - 13) (low_three (i % 16 - 13) (read rs Crd) (omega arith) d)

-- ---- bit by bit

pub by_crb : (rs : List ℕ) (v : ℕ) → v ≡ read rs Crb → Enables rs (v / 8) 0 5
unfolding master_control master_bit
by_crb rs v e k l =
    let m : (0 + k) % 16 ≡ k = omega arith in
    let s : v / 8 / 2 ^ k ≡ v / 2 ^ (k + 3) = shr-shr v 3 k ∙ ap (λ (n : ℕ). v / 2 ^ n) (add_comm 3 k) in
    bit_on (v / 8) k ∙ ap (λ (n : ℕ). eqb (n % 2) 1) s ∙ sym (bit_on v (k + 3)) ∙ simp (m, lt-ltb k 5 l, e)

pub by_crc : (rs : List ℕ) (v : ℕ) → v ≡ read rs Crc → Enables rs v 5 8
unfolding master_control master_bit
by_crc rs v e k l =
    let m : (5 + k) % 16 ≡ 5 + k = omega arith in
    let n : 5 + k - 5 ≡ k = omega arith in
    simp (m, n, le-ltb (5 + k) 5 (omega arith), lt-ltb (5 + k) 13 (omega arith), e)

low_same : (j v : ℕ) → j < 3 → v % 8 / 2 ^ j % 2 ≡ v / 2 ^ j % 2
low_same zero v l = omega arith
low_same (suc zero) v l = omega arith
low_same (suc (suc zero)) v l = omega arith
low_same (suc (suc (suc j))) v l = absurd (omega arith)

pub by_crd : (rs : List ℕ) (v : ℕ) → v ≡ read rs Crd → Enables rs (v % 8) 13 3
unfolding master_control master_bit
by_crd rs v e k l =
    let m : (13 + k) % 16 ≡ 13 + k = omega arith in
    let n : 13 + k - 13 ≡ k = omega arith in
    bit_on (v % 8) k ∙ ap (λ (b : ℕ). eqb b 1) (low_same k v l) ∙ sym (bit_on v k)
    ∙ simp (m, n, le-ltb (13 + k) 5 (omega arith), le-ltb (13 + k) 13 (omega arith), e)

pub ruleset bit_by_bit = (by_crb, by_crc, by_crd)

module _ (rs : List ℕ) (bits first many k : ℕ) (l : k < many) (u : first + many ≤ 16) where
  pub enabled_bit : Enables rs bits first many → not (eqb (bit_and bits (1 * 2 ^ k % 2 ^ 32)) 0) ≡ is_enabled rs (channel.Master (first + k))
  enabled_bit h =
      let e : 1 * 2 ^ k ≡ 2 ^ k = omega arith in
      let s : 1 * 2 ^ k % 2 ^ 32 ≡ 2 ^ k = rw e (mod-eq_of_lt (pow-lt {i = k} {j = 32} (omega arith))) in
      subst (λ (m : ℕ). not (eqb (bit_and bits m) 0) ≡ is_enabled rs (channel.Master (first + k))) (sym s) (h k l)

each_split : (m n k : ℕ) (f : ℕ → Bool) → each (m + n) k f ≡ (each m k f && each n (k + m) f)
each_split zero n k f =
    let e : zero + n ≡ n = omega arith in
    let g : k + zero ≡ k = omega arith in
    rw (e, g) refl
each_split (suc m) n k f =
    let e : suc m + n ≡ suc (m + n) = omega arith in
    let g : k + suc m ≡ suc k + m = omega arith in
    rw (e, g) (ap (λ (t : Bool). f k && t) (each_split m n (suc k) f) ∙ and_assoc (f k) _ _)

pub three_parts : (rs : List ℕ) (b c d : Bool) → b ≡ each 5 0 (master_sound rs) → c ≡ each 8 5 (master_sound rs) → d ≡ each 3 13 (master_sound rs)
    → (b && c && d) ≡ each_master (master_sound rs)
three_parts rs b c d e f g =
    rw (e, f, g) (sym (each_split 13 3 0 (master_sound rs) ∙ ap (λ (t : Bool). t && each 3 13 (master_sound rs)) (each_split 5 8 0 (master_sound rs))))

module _ (rs : List ℕ) (first many at : ℕ) (u : first + many ≤ 16) (a : at ≡ bank first) where
  pub part_inside : length rs ≡ size → at + many * 21 ≤ length rs
  unfolding bank
  part_inside n = rw (n, a) (omega arith)

  -- no bit set: none of the part is enabled
  pub part_off : (bits : ℕ) (z : Bool) → Enables rs bits first many → bits ≡ 0 → z ≡ are_zero at (many * 21) rs → z ≡ each many first (master_sound rs)
  unfolding bank
  part_off bits z h o e =
      let t : many * 21 ≡ 21 * many = omega arith in
      e ∙ ap₂ (λ (p n : ℕ). are_zero p n rs) a t ∙ sym (each_zero many (first % 16) rs) ∙ from many u
      ∙ each_within many first _ _ (λ i l m. zero_off rs i false (off i l m) _ refl (ap (λ (p : ℕ). are_zero p 21 rs) (sym (bank_at i (omega arith)))))
    where
      from : (n : ℕ) → first + n ≤ 16 → each n (first % 16) (λ (i : ℕ). are_zero (70 + 21 * i) 21 rs) ≡ each n first (λ (i : ℕ). are_zero (70 + 21 * i) 21 rs)
      from zero l = refl
      from (suc n) l =
          let m : first % 16 ≡ first = omega arith in
          rw m refl

      off : (i : ℕ) → first ≤ i → i < first + many → false ≡ is_enabled rs (channel.Master i)
      off i l m =
          let g : first + (i - first) ≡ i = omega arith in
          rw (o, g) at (h (i - first) (omega arith))

-- one by one
pub every_one : (n k : ℕ) (f : ℕ → Bool) → ((j : ℕ) → j < n → f (k + j) ≡ true) → each n k f ≡ true
every_one zero k f h = refl
every_one (suc n) k f h =
    let z : k + 0 ≡ k = omega arith in
    ap₂ ◌&&◌ (rw z at (h 0 (omega arith)))
    (every_one n (suc k) f (λ j l. let e : k + (j + 1) ≡ suc k + j = omega arith in rw e at (h (j + 1) (omega arith))))

pub not_one : (n k : ℕ) (f : ℕ → Bool) (j : ℕ) → j < n → f (k + j) ≡ false → each n k f ≡ false
not_one n k f j l h = by (each n k f) refl
  where
    by : (t : Bool) → each n k f ≡ t → t ≡ false
    by true e = absurd (true≢false (sym (each_at n k f e (k + j) (omega arith) (omega arith)) ∙ h))
    by false e = refl

pub ruleset part_of_them = (part_off, enabled_bit, every_one, not_one)

pub all_off : (rs : List ℕ) (none z : Bool) → none ≡ none_on rs → none ≡ true → z ≡ are_zero 70 336 rs → z ≡ each_master (master_sound rs)
all_off rs none z n t e =
    e ∙ sym (each_zero 16 0 rs)
    ∙ each_same 16 0 _ _ (λ i l. zero_off rs i false (sym (none_enabled rs (sym n ∙ t) i)) _ refl (ap (λ (p : ℕ). are_zero p 21 rs) (sym (bank_at i l))))

pub ruleset all_of_them = (all_off, three_parts)

each_three : (n k : ℕ) (f g h : ℕ → Bool) → each n k (λ (i : ℕ). f i && (g i && h i)) ≡ (each n k f && (each n k g && each n k h))
each_three zero k f g h = refl
each_three (suc n) k f g h =
    ap (λ (t : Bool). f k && (g k && h k) && t) (each_three n (suc k) f g h)
    ∙ mixed (f k) (g k) (h k) (each n (suc k) f) (each n (suc k) g) (each n (suc k) h)

pub all_sound : (rs : List ℕ) (m x y z : Bool) → m ≡ four_within rs → x ≡ still_held rs channel.Spi → y ≡ still_held rs channel.Gpio
    → z ≡ each_master (master_sound rs) → (m && x && y && z) ≡ sound_registers rs
unfolding master_sound sound_registers
all_sound rs m x y z e f g h =
    let W : ℕ → Bool = λ i. is_within rs (master i Status) in
    let H : ℕ → Bool = λ i. still_held rs (channel.Master i) in
    rw (e, f, g, h ∙ each_three 16 0 W H (open_sound rs), held_parts rs)
    (sorted (four_within rs) (still_held rs channel.Spi) (still_held rs channel.Gpio) (each_master W) (each_master H) (opens_sound rs))

-- ---- A CHANNEL ALONE: two states in which it is enabled or not alike, and has the same own bytes, give its request the same reply, and leave its
-- own bytes the same

two_cases : {A : Type 0} (P : A → A → Type 0) (t : Bool) {x y z w : A} → P x y → P z w → P (cond t x z) (cond t y w)
two_cases P true a b = a
two_cases P false a b = b

-- a store into a channel's own is one of its own bytes
stored_own : (ch : Channel) (rs : List ℕ) (r : Register) (v : ℕ) → length rs ≡ size → Own ch r
    → part (first ch) (many ch) (store rs r v)
    ≡ put (place r - first ch) (digits (wide r) (bit_and v (registers.row_of r).mask)) (part (first ch) (many ch) rs)
unfolding store
stored_own ch rs r v n o =
    part_put_inside rs (digits (wide r) (bit_and v (registers.row_of r).mask)) (first ch) (many ch) (place r) (own_first ch r o)
    (rw (length_digits (wide r) (bit_and v (registers.row_of r).mask)) (own_last ch r o)) (rw n (own_inside ch))

module _ (rs ss : List ℕ) (n : length rs ≡ size) (m : length ss ≡ size) (q : Request)
    (on : (ch : Channel) → channel_of q.ch ≡ Some ch → is_enabled rs ch ≡ is_enabled ss ch)
    (own : (ch : Channel) → channel_of q.ch ≡ Some ch → SameOwn ch rs ss) where
  module _ (which : Channel) (named : channel_of q.ch ≡ Some which) where
    busy_alike : is_busy rs which ≡ is_busy ss which
    busy_alike = by (row_of which).busy (busy_by_lem which)
      where
        by : (b : Option Register) → busy_by which b ≡ true → is_at_work rs b ≡ is_at_work ss b
        by None h = refl
        by (Some r) h = ap (λ (x : ℕ). not (eqb x 0)) (own_read which rs ss (own which named) r h)

    moves_alike : (does : Does) → touches which does ≡ true → can_move rs does ≡ can_move ss does
    moves_alike (Write r) h = refl
    moves_alike (Switch c) h = refl
    moves_alike (Read r) h = refl
    moves_alike (Clear r) h = refl
    moves_alike (Start r) h = refl
    moves_alike (Transact i t) h =
        ap (λ (x : ℕ). allows x t) (own_read which rs ss (own which named) (master i Ctrl) (rw (the_number which i h) (field_own i Ctrl)))

    command_alike : (k : Option Command) → proper which k ≡ true → of_command rs k q.len ≡ of_command ss k q.len
    command_alike None h = refl
    command_alike (Some k) h =
        rw (moves_alike k.does (and_right (ltb k.lengths.given 256) _ (and_left (ltb k.lengths.given 256 && touches which k.does) _ h))) refl

    stored_alike : (r : Register) (v : ℕ) → Own which r → SameOwn which (store rs r v) (store ss r v)
    stored_alike r v o = stored_own which rs r v n o ∙ ap (put (place r - first which) _) (own which named) ∙ sym (stored_own which ss r v m o)

  channel_alike : (o : Option Channel) → channel_of q.ch ≡ o → of_channel rs o q ≡ of_channel ss o q
  channel_alike None e = refl
  channel_alike (Some ch) e = rw (on ch e, busy_alike ch e, command_alike ch e (command_of ch q.cmd) (commands_proper ch q.cmd)) refl

  pub decoded_alike : decoded rs q ≡ decoded ss q
  unfolding decoded
  decoded_alike = rw (channel_alike (channel_of q.ch) refl) refl

  left_alike : (given : ℕ) (does : Does) (g : Granted rs q given does) → SameOwn g.which (left rs q does) (left ss q does)
  left_alike given (Write r) g =
      stored_alike g.which g.named r _ (and_left (is_own g.which r) _ (and_left (is_own g.which r && leb switches (place r)) _ g.own))
  left_alike given (Switch c) g =
      let r = register_of c in
      let mine = and_left (is_own g.which r) _ g.own in
      let e : g.which ≡ channel.Controller = only_controller g.which r mine (and_right (is_own g.which r) _ g.own) in
      let settle : (s : List ℕ) → length s ≡ size → SameOwn g.which (settled c s) s = λ s l. rw e (settled_switches c s l) in
      settle (written rs r q.value) (length_store rs r _ n) ∙ stored_alike g.which g.named r _ mine ∙ sym (settle (written ss r q.value) (length_store ss r _ m))
  left_alike given (Read r) g = own g.which g.named
  left_alike given (Clear r) g =
      stored_alike g.which g.named r 0 (and_left (is_own g.which r) _ (and_left (is_own g.which r && leb switches (place r)) _ g.own))
  left_alike given (Start r) g =
      stored_alike g.which g.named r q.trn (and_left (is_own g.which r) _ (and_left (is_own g.which r && leb switches (place r)) _ g.own))
  left_alike given (Transact i t) g = stored_alike g.which g.named (master i Open) _ (rw (the_number g.which i g.own) (field_own i Open))

  told_alike : (given : ℕ) (does : Does) → Granted rs q given does → told rs given does ≡ told ss given does
  told_alike given (Write r) g = refl
  told_alike given (Switch c) g = refl
  told_alike given (Read r) g =
      ap (λ (x : ℕ). Some (granted given (x * 2 ^ (registers.row_of r).low % 2 ^ 32))) (own_read g.which rs ss (own g.which g.named) r g.own)
  told_alike given (Clear r) g = refl
  told_alike given (Start r) g = refl
  told_alike given (Transact i t) g = refl

  -- ERR, LEN and data of the reply
  pub reply_alike : replied rs q ≡ replied ss q
  unfolding replied
  reply_alike = rw (← decoded_alike) (decoded_cases rs q (λ d. reply_to rs d ≡ reply_to ss d) (λ _ _. refl) told_alike)

  module _ (which : Channel) (named : channel_of q.ch ≡ Some which) where
    marked_alike : (e : ℕ) → SameOwn which (marked rs q.ch e) (marked ss q.ch e)
    unfolding marked
    marked_alike e = two_cases (λ (x y : List ℕ). SameOwn which x y) (eqb e cmd_unknown) (rw named (by which refl)) (own which named)
      where
        by : (ch : Channel) → which ≡ ch → SameOwn which (with_invcom rs (Some ch)) (with_invcom ss (Some ch))
        by channel.Controller e = own which named
        by channel.Spi e = own which named
        by channel.Gpio e = own which named
        by (channel.Master i) e =
            let mine : Own which (master i Status) = rw e (field_own i Status) in
            subst (λ (v : ℕ). SameOwn which (store rs (master i Status) (bit_or (read rs (master i Status)) 32)) (store ss (master i Status) (bit_or v 32)))
            (own_read which rs ss (own which named) (master i Status) mine) (stored_alike which named (master i Status) _ mine)
        by channel.Seu e = own which named
        by channel.Id e = own which named
        by channel.Dac e = own which named

    -- its own bytes
    pub own_alike : SameOwn which (performed rs q) (performed ss q)
    unfolding performed
    own_alike =
        rw (← decoded_alike) (decoded_cases rs q (λ d. SameOwn which (left_by rs q d) (left_by ss q d)) (λ f _. marked_alike (fault_bit f))
        (λ given does g. let e : g.which ≡ which = cc (sym g.named ∙ named) in
        subst (λ (ch : Channel). SameOwn ch (left rs q does) (left ss q does)) e (left_alike given does g)))

-- ---- a request to another channel, but for the controller's, leaves a channel's own bytes

module _ (rs : List ℕ) (n : length rs ≡ size) (q : Request) (c : ℕ) (ours : Channel) (its : channel_of c ≡ Some ours)
    (other : channel_of q.ch ≡ Some ours → ⊥) (no_switch : channel_of q.ch ≡ Some channel.Controller → ⊥) where
  module _ (asked : Channel) (named : channel_of q.ch ≡ Some asked) where
    stored_elsewhere : (r : Register) (v : ℕ) → Own asked r → SameOwn ours (store rs r v) rs
    stored_elsewhere r v mine = part_stays rs r v n (first ours) (many ours) (by (one_or_apart ours asked))
      where
        by : Twin ours asked ⊎ Apart (first ours) (many ours) (first asked) (many asked) → Apart (first ours) (many ours) (place r) (wide r)
        by (inl e) = absurd (other (named ∙ ap Some (sym (canonical_number q.ch asked named) ∙ sym e.same ∙ canonical_number c ours its)))
        by (inr a) = apart_own asked r mine (first ours) (many ours) a

    written_elsewhere : (r : Register) (v : ℕ) (b : Bool) → (is_own asked r && leb switches (place r) && b) ≡ true → SameOwn ours (store rs r v) rs
    written_elsewhere r v b h = stored_elsewhere r v (and_left (is_own asked r) _ (and_left (is_own asked r && leb switches (place r)) b h))

  left_elsewhere : (given : ℕ) (does : Does) → Granted rs q given does → SameOwn ours (left rs q does) rs
  left_elsewhere given (Write r) g = written_elsewhere g.which g.named r _ _ g.own
  left_elsewhere given (Switch d) g =
      let r = register_of d in
      absurd (no_switch (g.named ∙ ap Some (only_controller g.which r (and_left (is_own g.which r) _ g.own) (and_right (is_own g.which r) _ g.own))))
  left_elsewhere given (Read r) g = refl
  left_elsewhere given (Clear r) g = written_elsewhere g.which g.named r 0 _ g.own
  left_elsewhere given (Start r) g = written_elsewhere g.which g.named r q.trn _ g.own
  left_elsewhere given (Transact i t) g = stored_elsewhere g.which g.named (master i Open) _ (rw (the_number g.which i g.own) (field_own i Open))

  marked_elsewhere : (e : ℕ) → SameOwn ours (marked rs q.ch e) rs
  unfolding marked
  marked_elsewhere e = cond_cases (λ s. SameOwn ours s rs) (eqb e cmd_unknown) (λ _. by (channel_of q.ch) refl) (λ _. refl)
    where
      by : (o : Option Channel) → channel_of q.ch ≡ o → SameOwn ours (with_invcom rs o) rs
      by None h = refl
      by (Some channel.Controller) h = refl
      by (Some channel.Spi) h = refl
      by (Some channel.Gpio) h = refl
      by (Some (channel.Master i)) h = stored_elsewhere (channel.Master i) h (master i Status) _ (field_own i Status)
      by (Some channel.Seu) h = refl
      by (Some channel.Id) h = refl
      by (Some channel.Dac) h = refl

  pub others_stay : SameOwn ours (performed rs q) rs
  unfolding performed
  others_stay = decoded_cases rs q (λ d. SameOwn ours (left_by rs q d) rs) (λ f _. marked_elsewhere (fault_bit f)) left_elsewhere

-- ---- A REQUEST CHANGES NOTHING BUT THE CORE AND ITS GROUP, and neither does what happens to a channel

-- every byte behind the core, the ID first, that is not the group's
abbrev pub SameOutside : Option Control → List ℕ → List ℕ → Type 0
SameOutside g ss rs = (p m : ℕ) → core_size ≤ p → Apart p m (begins g) (span_of g).many → part p m ss ≡ part p m rs

grouped_apart : (g : Option Control) (r : Register) → grouped g r ≡ true → (p m : ℕ) → core_size ≤ p → Apart p m (begins g) (span_of g).many
    → Apart p m (place r) (wide r)
grouped_apart g r h p m l a = by (leb (end r) core_size) refl h
  where
    inside : (begins g ≤ place r) × (end r ≤ ends g) → Apart p m (begins g) (span_of g).many → Apart p m (place r) (wide r)
    inside i (inl b) = let f = i.0 in inl (omega arith)
    inside i (inr b) = let f = i.1 in inr (omega arith)

    by : (t : Bool) → leb (end r) core_size ≡ t → (t || leb (begins g) (place r) && leb (end r) (ends g)) ≡ true → Apart p m (place r) (wide r)
    by true e f = let k = leb-true (end r) core_size e in inr (omega arith)
    by false e f =
        let i = both (leb (begins g) (place r)) (leb (end r) (ends g)) f in
        inside (leb-true (begins g) (place r) i.0, leb-true (end r) (ends g) i.1) a

module _ (g : Option Control) (rs : List ℕ) (n : length rs ≡ size) where
  pub stored_outside : (r : Register) (v : ℕ) → grouped g r ≡ true → SameOutside g (store rs r v) rs
  stored_outside r v h p m l a = part_stays rs r v n p m (grouped_apart g r h p m l a)

-- and then a store more
also_outside : (g : Option Control) (rs ss : List ℕ) (r : Register) (v : ℕ) → length ss ≡ size → grouped g r ≡ true → SameOutside g ss rs → SameOutside g (store ss r v) rs
also_outside g rs ss r v n h u p m l a = stored_outside g ss n r v h p m l a ∙ u p m l a

front_grouped : (c : Control) (g : Option Control) → grouped g (register_of c) ≡ true
front_grouped B g = refl
front_grouped C g = refl
front_grouped D g = refl

module _ (rs : List ℕ) (n : length rs ≡ size) where
  switched_outside : (c : Control) (v : ℕ) → SameOutside (Some c) (settled c (written rs (register_of c) v)) rs
  switched_outside c v =
      settled_keeps c (λ s. SameOutside (Some c) s rs)
      (λ k s m d u p w l a. held_cases k s m (λ t. part p w t ≡ part p w rs) (u p w l a)
      (zeroed_apart (first k) (many k) s (room k s m) p w (outside k d p w a) ∙ u p w l a))
      (written rs (register_of c) v) (length_store rs (register_of c) _ n) (stored_outside (Some c) rs n (register_of c) _ (front_grouped c (Some c)))
    where
      outside : (k : Channel) → Dropper c k → (p w : ℕ) → Apart p w (begins (Some c)) (span_of (Some c)).many → Apart p w (first k) (many k)
      outside k d p w (inl b) = let f = d.from in inl (omega arith)
      outside k d p w (inr b) = let f = d.to in inr (omega arith)

  module _ (q : Request) where
    -- what the tables say of it
    its_group : (given : ℕ) (does : Does) (g : Granted rs q given does) → by_does (row_of g.which).group does ≡ group_for q
    unfolding group_for
    its_group given does g =
        sym (ap (option_and_then (λ (ch : Channel). by_command (row_of ch).group (command_of ch q.cmd))) g.named ∙ ap (by_command (row_of g.which).group) g.command)

    left_outside : (given : ℕ) (does : Does) (g : Granted rs q given does) → SameOutside (by_does (row_of g.which).group does) (left rs q does) rs
    left_outside given (Write r) g = stored_outside (row_of g.which).group rs n r _ g.changed
    left_outside given (Switch c) g = switched_outside c q.value
    left_outside given (Read r) g = λ p m l a. refl
    left_outside given (Clear r) g = stored_outside (row_of g.which).group rs n r 0 g.changed
    left_outside given (Start r) g = stored_outside (row_of g.which).group rs n r q.trn g.changed
    left_outside given (Transact i t) g = stored_outside (row_of g.which).group rs n (master i Open) _ g.changed

    -- a master's unknown command is of its group
    marked_outside : (e : ℕ) → Refused rs q e → SameOutside (group_for q) (marked rs q.ch e) rs
    unfolding marked group_for
    marked_outside e r =
        cond_cases (λ s. SameOutside (group_for q) s rs) (eqb e cmd_unknown)
        (λ h. let u = r.unlisted (eqb-true e cmd_unknown h) in rw (u.named, u.unknown) (by u.which)) (λ _ p m l a. refl)
      where
        by : (ch : Channel) → SameOutside (row_of ch).group (with_invcom rs (Some ch)) rs
        by channel.Controller = λ p m l a. refl
        by channel.Spi = λ p m l a. refl
        by channel.Gpio = λ p m l a. refl
        by (channel.Master i) = stored_outside (master_group i) rs n (master i Status) _ (field_grouped i Status)
        by channel.Seu = λ p m l a. refl
        by channel.Id = λ p m l a. refl
        by channel.Dac = λ p m l a. refl

    pub performed_outside : SameOutside (group_for q) (performed rs q) rs
    unfolding performed
    performed_outside =
        decoded_cases rs q (λ d. SameOutside (group_for q) (left_by rs q d) rs) (λ f. marked_outside (fault_bit f))
        (λ given does g. subst (λ (k : Option Control). SameOutside k (left rs q does) rs) (its_group given does g) (left_outside given does g))

  pub sampled_outside : (levels kind : ℕ) → SameOutside (Some B) (sampled rs levels kind) rs
  unfolding sampled
  sampled_outside levels kind =
      let taken = stored_outside (Some B) rs n Datain (datain_after rs levels kind) refl in
      cond_cases (λ s. SameOutside (Some B) s rs) (interrupts rs levels kind)
      (λ _. also_outside (Some B) rs _ Ints (firing_lines rs (datain_after rs levels kind)) (length_store rs Datain _ n) refl taken) (λ _. taken)

  pub completed_outside : (received : List ℕ) → SameOutside (Some B) (completed rs received) rs
  unfolding completed with_data
  completed_outside received =
      let n0 = length_store rs SpiData0 _ n in
      let n1 = length_store _ SpiData1 _ n0 in
      let n2 = length_store _ SpiData2 _ n1 in
      let n3 = length_store _ SpiData3 _ n2 in
      let u0 = stored_outside (Some B) rs n SpiData0 _ refl in
      let u1 = also_outside (Some B) rs _ SpiData1 _ n0 refl u0 in
      let u2 = also_outside (Some B) rs _ SpiData2 _ n1 refl u1 in
      let u3 = also_outside (Some B) rs _ SpiData3 _ n2 refl u2 in
      also_outside (Some B) rs _ SpiGo 0 n3 refl u3

  pub ended_outside : (i : ℕ) (t : Transaction) (acknowledge low : Bool) (received : List ℕ)
      → SameOutside (master_group i) (ended i t acknowledge low received rs) rs
  unfolding ended filled filled_word
  ended_outside i t acknowledge low received =
      let g = master_group i in
      let n0 = length_store rs (master i Open) 0 n in
      let u0 = stored_outside g rs n (master i Open) 0 (field_grouped i Open) in
      let n1 = length_store _ (master i Status) (status_after acknowledge low (read rs (master i Status))) n0 in
      let u1 = also_outside g rs _ (master i Status) (status_after acknowledge low (read rs (master i Status))) n0 (field_grouped i Status) u0 in
      cond_cases (λ s. SameOutside g s rs) (success acknowledge low && fills_data t)
      (λ _.
      let n2 = length_store _ (master i Data0) _ n1 in
      let n3 = length_store _ (master i Data1) _ n2 in
      let n4 = length_store _ (master i Data2) _ n3 in
      let u2 = also_outside g rs _ (master i Data0) _ n1 (field_grouped i Data0) u1 in
      let u3 = also_outside g rs _ (master i Data1) _ n2 (field_grouped i Data1) u2 in
      let u4 = also_outside g rs _ (master i Data2) _ n3 (field_grouped i Data2) u3 in
      also_outside g rs _ (master i Data3) _ n4 (field_grouped i Data3) u4)
      (λ _. u1)

  pub upset_outside : (v : ℕ) → SameOutside None (store rs Seu v) rs
  upset_outside v = stored_outside None rs n Seu v refl
