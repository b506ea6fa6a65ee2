-- What the calls lack beside their definitions. Assumes nothing.
use Rattle.std.proofs.Common.{◌≡◌, ℕ, ◌<◌, true, false, List, length, arith, replicate, refl}
use Rattle.std.proofs.lemmas.Grind.{common_steps}
use Rattle.numbers.specs.Numbers.{no_frame}
use Rattle.control_room.specs.Calls.{made, record_made}
use Rattle.control_room.specs.Record.{record_size, is_open_to, is_record}

pub open_below : (r : List ℕ) (trn ch : ℕ) → is_open_to r trn ch ≡ true → trn < 255
unfolding is_open_to
open_below r trn ch h = grind (arith, common_steps)

pub no_record : (r : List ℕ) → (length r ≡ record_size → ⊥) → is_record r ≡ false
unfolding is_record
no_record r h = grind (arith, common_steps)

pub made_new : (r t s : List ℕ) → length r ≡ record_size → length t ≡ record_size → s ≡ replicate (length t) 0 → made no_frame s ≡ record_made r
unfolding record_made
made_new r t s n m e = rw (e, m, n) refl
