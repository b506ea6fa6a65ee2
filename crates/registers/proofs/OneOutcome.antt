-- Any two outcomes that a public function's contract allows coincide.
use mathlib.Core.Bool.{Bool}
use mathlib.Core.List.{List}
use mathlib.Core.Path.{sym, ap, ap₂, ◌∙◌}
use Prim.Native.Nat.{ℕ}
use Rattle.bits.proofs.Outcome.{OneOutcome}
use Rattle.parts.proofs.Outcome.{One}
use Rattle.commands.specs.declared.command.Register.TheVariants.{SpiData0}
use Rattle.registers.specs.Registers.{read}
use Rattle.registers.proofs as this

pub read_one : One 1 this.read.Kinds.ps this.read.Kinds.r this.read.Reads.Post (λ κs x s. x)
read_one κs a x y s t e f = e ∙ sym f

pub store_one : One 1 this.store.Kinds.ps this.store.Kinds.r this.store.Reads.Post (λ κs x s. s.0.now)
store_one κs a x y s t e f = e ∙ sym f

pub show_one : One 1 this.show.Kinds.ps this.show.Kinds.r this.show.Reads.Post (λ κs x s. x)
show_one κs a x y s t e f = e ∙ sym f

pub write_one : One 1 this.write.Kinds.ps this.write.Kinds.r this.write.Reads.Post (λ κs x s. s.0.now)
write_one κs a x y s t e f = e ∙ sym f

pub clear_one : One 1 this.clear.Kinds.ps this.clear.Kinds.r this.clear.Reads.Post (λ κs x s. s.0.now)
clear_one κs a x y s t e f = e ∙ sym f

pub are_zero_one : One 1 this.are_zero.Kinds.ps this.are_zero.Kinds.r this.are_zero.Reads.Post (λ κs x s. x)
are_zero_one κs a x y s t e f = e ∙ sym f

pub are_within_one : One 1 this.are_within.Kinds.ps this.are_within.Kinds.r this.are_within.Reads.Post (λ κs x s. x)
are_within_one κs a x y s t e f = e ∙ sym f

pub gpio_sample_one : One {B = Bool × List ℕ} 1 this.gpio.sample.Kinds.ps this.gpio.sample.Kinds.r this.gpio.sample.Reads.Post (λ κs x s. (x, s.0.now))
gpio_sample_one κs a x y s t e f = ap₂ (λ (b : Bool) (l : List ℕ). (b, l)) (e.0 ∙ sym f.0) (e.1 ∙ sym f.1)

pub spi_complete_one : One {B = ℕ × List ℕ} 2 this.spi.complete.Kinds.ps this.spi.complete.Kinds.r this.spi.complete.Reads.Post (λ κs x s. (x, s.0.now))
spi_complete_one κs a x y s t e f =
    let after = e.0 ∙ sym f.0 in
    ap₂ (λ (n : ℕ) (l : List ℕ). (n, l)) (e.1 ∙ ap (λ (l : List ℕ). read l SpiData0) after ∙ sym f.1) after

pub bank_one : OneOutcome 0 this.bank.Kinds.ps this.bank.Kinds.r this.bank.Reads.Post
bank_one κs a x y s t e f = e ∙ sym f

pub is_within_one : One 1 this.is_within.Kinds.ps this.is_within.Kinds.r this.is_within.Reads.Post (λ κs x s. x)
is_within_one κs a x y s t e f = e ∙ sym f

pub i2c_allows_one : OneOutcome 0 this.i2c.allows.Kinds.ps this.i2c.allows.Kinds.r this.i2c.allows.Reads.Post
i2c_allows_one κs a x y s t e f = e ∙ sym f

pub i2c_end_one : One {B = ℕ × List ℕ} 2 this.i2c.end.Kinds.ps this.i2c.end.Kinds.r this.i2c.end.Reads.Post (λ κs x s. (x, s.0.now))
i2c_end_one κs a x y s t e f = ap₂ (λ (n : ℕ) (l : List ℕ). (n, l)) (e.1 ∙ sym f.1) (e.0 ∙ sym f.0)
