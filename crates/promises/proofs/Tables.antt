-- What the tables say row by row: which channels have numbers of their own, and which commands are starts. Assumes nothing.
use Prim.Native.Nat.{ℕ, ◌-◌, ◌≤◌}
use mathlib.Core.List.{List, [], ◌∷◌}
use mathlib.Core.Path.{◌≡◌, refl, sym, ap, subst, ◌∙◌}
use native.Mathlib.Omega.{arith}
use Rattle.std.specs.Prelude.{Option, Some, None, option_and_then}
use borrow.Author.Tests.{eqb-true, leb-true}
use lib.Dec.{eqb, leb}
use Rattle.bits.specs.Table.{Row, look}
use Rattle.bits.proofs.Tests.{and_left, and_right, cond_cases}
use Rattle.commands.specs.declared.channel.Channel.{Channel}
use Rattle.commands.specs.declared.channel.Channel.TheVariants.{Controller, Spi, Gpio, Master, Seu, Id, Dac}
use Rattle.commands.specs.declared.command.Command.{Command}
use Rattle.commands.specs.declared.command.Does.{Does}
use Rattle.commands.specs.declared.command.Does.TheVariants as does
use Rattle.commands.specs.declared.command.Lengths.{Lengths}
use Rattle.commands.specs.declared.command.Register.{Register}
use Rattle.commands.specs.declared.command.Register.TheVariants.{SpiGo}
use Rattle.commands.specs.declared.command.Transaction.{Transaction}
use Rattle.commands.specs.Command.{known, code_of}
use Rattle.commands.specs.Spi.{go}
use Rattle.commands.specs.Channels.{channels, channel_of, is_master, commands_of, command_of, command_at}

-- ---- what every row keeps, with its code, every number's meaning keeps

abbrev RowsKeep : {A : Type 0} → (ℕ → A → Type 0) → List (Row A) → Type 0
RowsKeep P [] = Unit
RowsKeep P (r ∷ rs) = P r.code r.means × RowsKeep P rs

rows_keep : {A : Type 0} (P : ℕ → A → Type 0) (rs : List (Row A)) (other : A) (n : ℕ) → RowsKeep P rs → P n other → P n (look rs other n)
rows_keep P [] other n k o = o
rows_keep {A} P (r ∷ rs) other n k o =
    cond_cases (P n) (eqb n r.code) (λ e. subst (λ (m : ℕ). P m r.means) (sym (eqb-true n r.code e)) k.0) (λ _. rows_keep P rs other n k.1 o)

-- ---- the numbers of SPI and of the masters

-- SPI is 0x01 alone, and a master's channel is one of 0x03 to 0x12, its number counted from 0x03 on
abbrev pub Numbered : ℕ → Option Channel → Type 0
Numbered n (Some Controller) = Unit
Numbered n (Some Spi) = n ≡ 0x01
Numbered n (Some Gpio) = Unit
Numbered n (Some (Master i)) = (0x03 ≤ n) × (n ≤ 0x12) × (n - 0x03 ≡ i)
Numbered n (Some Seu) = Unit
Numbered n (Some Id) = Unit
Numbered n (Some Dac) = Unit
Numbered n None = Unit

pub numbered : (n : ℕ) → Numbered n (channel_of n)
unfolding channel_of
numbered n =
    cond_cases (Numbered n) (is_master n)
    (λ h. (leb-true 0x03 n (and_left (leb 0x03 n) (leb n 0x12) h), leb-true n 0x12 (and_right (leb 0x03 n) (leb n 0x12) h), refl))
    (λ _. rows_keep Numbered channels None n (tt, (refl, (tt, (tt, (tt, (tt, tt)))))) tt)

-- ---- the starts: GO of SPI, and those of the masters, each of its own

abbrev pub StartingBy : Channel → Lengths → Does → Type 0
StartingBy ch l (does.Write r) = Unit
StartingBy ch l (does.Switch c) = Unit
StartingBy ch l (does.Read r) = Unit
StartingBy ch l (does.Clear r) = Unit
StartingBy ch l (does.Start r) = (ch ≡ Spi) × (l ≡ go) × (r ≡ SpiGo)
StartingBy ch l (does.Transact i t) = ch ≡ Master i

abbrev pub Starting : Channel → Option Command → Type 0
Starting ch None = Unit
Starting ch (Some command) = StartingBy ch command.lengths command.does

starting_rows : (ch : Channel) → RowsKeep (λ _ k. Starting ch k) (commands_of ch)
starting_rows Controller = (tt, (tt, (tt, (tt, (tt, (tt, tt))))))
starting_rows Spi = (tt, (tt, (tt, (tt, (tt, (tt, (tt, (tt, (tt, (tt, (tt, (tt, (tt, (tt, ((refl, refl, refl), tt)))))))))))))))
starting_rows Gpio = (tt, (tt, (tt, (tt, (tt, (tt, (tt, (tt, (tt, (tt, (tt, (tt, (tt, (tt, (tt, (tt, (tt, tt)))))))))))))))))
starting_rows (Master i) =
    (tt, (tt, (tt, (tt, (tt, (tt, (tt, (tt, (tt, (tt, (tt, (tt, (tt, (refl, (refl, (refl, (refl, (refl, (refl, (refl, (refl, (refl, (refl, (refl, tt))))))))))))))))))))))))
starting_rows Seu = (tt, (tt, tt))
starting_rows Id = (tt, tt)
starting_rows Dac = (tt, (tt, (tt, (tt, (tt, (tt, (tt, (tt, tt))))))))

pub starting : (ch : Channel) (cmd : ℕ) → Starting ch (command_of ch cmd)
unfolding code_of
starting ch cmd = rows_keep (λ _ k. Starting ch k) (commands_of ch) None cmd (starting_rows ch) tt

-- ---- the channel that has a command

pub record Itself (n cmd : ℕ) (command : Command) : Type 0 where
  pub which : Channel
  pub named : channel_of n ≡ Some which
  pub has : command_of which cmd ≡ Some command

none_or_some : {A : Type 0} {x : A} → ◌≡◌ {A = Option A} None (Some x) → ⊥
none_or_some e = let z : ◌≡◌ {A = ℕ} 0 1 = cc in omega arith

pub its_channel : (n cmd : ℕ) (command : Command) → command_at n cmd ≡ Some command → Itself n cmd command
its_channel n cmd command = by (channel_of n) refl
  where
    by : (o : Option Channel) → channel_of n ≡ o → option_and_then (λ ch. command_of ch cmd) o ≡ Some command → Itself n cmd command
    by None f e = absurd (none_or_some e)
    by (Some ch) f e = record { which = ch; named = f; has = e }

-- GO, and a start of a master's
pub go_row : (n cmd : ℕ) (l : Lengths) (r : Register) → command_at n cmd ≡ known l (does.Start r) → (channel_of n ≡ Some Spi) × (l ≡ go) × (r ≡ SpiGo)
go_row n cmd l r e =
    let c = its_channel n cmd _ e in
    let s : Starting c.which (known l (does.Start r)) = subst (Starting c.which) c.has (starting c.which cmd) in
    (c.named ∙ ap Some s.0, s.1, s.2)

pub master_row : (n cmd : ℕ) (l : Lengths) (i : ℕ) (t : Transaction) → command_at n cmd ≡ known l (does.Transact i t)
    → (channel_of n ≡ Some (Master i)) × (command_of (Master i) cmd ≡ known l (does.Transact i t))
master_row n cmd l i t e =
    let c = its_channel n cmd _ e in
    let s : c.which ≡ Master i = subst (Starting c.which) c.has (starting c.which cmd) in
    (c.named ∙ ap Some s, subst (λ (ch : Channel). command_of ch cmd ≡ known l (does.Transact i t)) s c.has)
