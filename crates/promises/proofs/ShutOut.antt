-- WHAT DEMAND 3 SHUTS OUT: document 01's wrong adapters ("Strength of the promises"). First, for any calls at all, the kind of wrongness
-- that no run forgives; then each wrong adapter, made from the delivered calls with one thing changed.
use Prim.Native.Nat.{ℕ, zero, suc, ◌+◌, ◌<◌}
use mathlib.Core.Path.{◌≡◌, refl, sym, ap, ◌∙◌}
use mathlib.Core.List.{List, [], ◌∷◌, foldl}
use mathlib.Core.Bool.{Bool, true, false, cond, ◌||◌, false≢true}
use native.Mathlib.Omega.{arith}
use lib.ListN.{length, get_or, replicate, length-replicate}
use lib.Dec.{lit<, lit≤}
use Rattle.numbers.specs.Numbers as number
use Rattle.commands.specs.declared.command.Register.TheVariants.{Seu}
use Rattle.parts.specs.Parts.{part, put}
use Rattle.parts.specs.Digits.{number, digits}
use Rattle.registers.specs.Registers.{read, store}
use Rattle.state.specs.State.{Adapter, powered_on, power_on}
use Rattle.chip.specs.Event.{Event, frame, upset}
use Rattle.chip.specs.Frame.{is_reset_frame, commanded, addressed, on_frame}
use Rattle.chip.specs.Chip.{reaction, on_upset, accepted_reset}
use Rattle.adapter.specs.Answers.{KeptNumber}
use Rattle.promises.specs.Runs.{Call, event, batch, back, empty, enlarge, Given, Calls, AllOfTheirTypes, Run, left, Standing, at_start, keeps, standing}
use Rattle.promises.specs.Runs.{state_after, bare, is_refusal, lent, Demand3}
use Rattle.promises.specs.Ours.{Handed, handed, gives_ours, leaves_ours, ours}
use Rattle.promises.proofs.Formats.{slots_64, any_17408}

-- ---- short runs

-- calls after the start of the bench's chip, with a small journal that was zeros
abbrev pub zeros : List ℕ
zeros = replicate 17408 0

pub as_long : length zeros ≡ 17408
as_long = length-replicate {A = ℕ} 17408 0

abbrev pub ran : (calls : List Call) → AllOfTheirTypes calls → Run
ran calls typed =
    record { id = 0x00000A; id_fits = lit≤ tt; bytes = zeros; size = any_17408 zeros as_long; calls = calls; typed = typed }

-- of which at most 64 are kept
pub ran_standing : (calls : List Call) (typed : AllOfTheirTypes calls) → standing (ran calls typed) ≡ foldl keeps (at_start 64) calls
ran_standing calls typed = ap (λ (most : ℕ). foldl keeps (at_start most) calls) (slots_64 zeros as_long)

abbrev pub output : List ℕ
output = replicate 16 0

abbrev upset_call : Call
upset_call = event upset output

abbrev connect : Event
connect = frame 0 (0x00 ∷ 0x2F ∷ [])

abbrev pub reset : Event
reset = frame 0 (0x00 ∷ 0x8F ∷ [])

reset_bytes : (i : ℕ) → get_or (0x00 ∷ 0x8F ∷ []) i 0 < 256
reset_bytes zero = lit< tt
reset_bytes (suc zero) = lit< tt
reset_bytes (suc (suc i)) = lit< tt

abbrev at_start_lem : Run
at_start_lem = ran [] tt

abbrev after_upset : Run
after_upset = ran (upset_call ∷ []) (tt, tt)

abbrev after_back : Run
after_back = ran (upset_call ∷ back ∷ []) (tt, (tt, tt))

abbrev after_reset : Run
after_reset = ran (event reset output ∷ []) (reset_bytes, tt)

abbrev pub start_of : (c : Calls) → c.Pair
start_of c = c.start 0x00000A (replicate 17408 0)

-- ---- what no calls can do that meet the demand

-- the SEU counter, by which states are told apart here
abbrev upsets : Adapter → ℕ
upsets a = read a.registers Seu

abbrev pub number_of : Given → ℕ
number_of g = g.number

module _ (c : Calls) (d : Demand3 c) where
  -- the start, and the state after an upset
  state_at_start : c.state (start_of c) ≡ power_on 0x00000A
  state_at_start = d.state at_start_lem

  state_after_upset : upsets (c.state (c.leaves (start_of c) upset_call)) ≡ 1
  unfolding reaction on_upset powered_on read store part put number digits
  state_after_upset = ap upsets (d.state after_upset)

  -- answers to the first event
  upset_first : (c.gives (start_of c) upset_call).number ≡ 17
  unfolding reaction on_upset
  upset_first = ap number_of (d.reply at_start_lem upset output)

  connect_first : (c.gives (start_of c) (event connect output)).number ≡ 0
  unfolding reaction on_frame addressed commanded
  connect_first = ap number_of (d.reply at_start_lem connect output)

  -- and to the second
  connect_second : (c.gives (c.leaves (start_of c) upset_call) (event connect output)).number ≡ 0
  unfolding reaction on_frame addressed commanded
  connect_second = ap number_of (d.reply after_upset connect output)

  -- refuse every event
  pub refuses_all : ((p : c.Pair) (e : Event) (o : List ℕ) → is_refusal (c.gives p (event e o)).number ≡ true) → ⊥
  refuses_all h = false≢true (ap is_refusal (sym upset_first) ∙ h (start_of c) upset output)

  -- give every event one reply
  pub one_reply : (g : Given) → ((p : c.Pair) (e : Event) (o : List ℕ) → c.gives p (event e o) ≡ g) → ⊥
  one_reply g h = omega (arith, upset_first, connect_first, ap number_of (h (start_of c) upset output), ap number_of (h (start_of c) connect output))

  -- leave the state as it came
  pub state_stays : ((p : c.Pair) (e : Event) (o : List ℕ) → c.state (c.leaves p (event e o)) ≡ c.state p) → ⊥
  unfolding powered_on read store part put number digits
  state_stays h = omega (arith, state_after_upset, ap upsets state_at_start, ap upsets (h (start_of c) upset output))

  -- give a second event the first one's reply
  pub copied_reply : ((e e' : Event) (o : List ℕ) → c.gives (c.leaves (start_of c) (event e o)) (event e' o) ≡ c.gives (start_of c) (event e o)) → ⊥
  copied_reply h = omega (arith, upset_first, connect_second, ap number_of (h upset connect output))

  -- step back and leave the state
  pub back_stays : ((p : c.Pair) → c.state (c.leaves p back) ≡ c.state p) → ⊥
  unfolding powered_on read store part put number digits
  back_stays h =
      let z : upsets (c.state (c.leaves (c.leaves (start_of c) upset_call) back)) ≡ 0 =
      ap upsets (d.state after_back)
      ∙ ap (λ (s : Standing). upsets (state_after 0x00000A s.events)) (ran_standing (upset_call ∷ back ∷ []) (tt, (tt, tt))) in
      omega (arith, state_after_upset, ap upsets (h (c.leaves (start_of c) upset_call)))

  -- show one kept number
  pub kept_stays : (n : ℕ) → ((p : c.Pair) → (c.kept p).kept ≡ n) → ⊥
  kept_stays n h =
      let o : (c.kept (left c after_upset)).kept ≡ 1 =
      ap (λ (k : KeptNumber). k.kept) (d.kept after_upset) ∙ ap (λ (s : Standing). s.number) (ran_standing (upset_call ∷ []) (tt, tt)) in
      omega (arith, ap (λ (k : KeptNumber). k.kept) (d.kept at_start_lem), h (left c at_start_lem), h (left c after_upset))

  -- count a RESET as another event
  pub kept_through_reset : ((p : c.Pair) (e : Event) → (c.kept (c.leaves p (event e output))).kept ≡ (c.kept p).kept + 1) → ⊥
  unfolding is_reset_frame
  kept_through_reset h = omega (arith, ap (λ (k : KeptNumber). k.kept) (d.kept after_reset), h (start_of c) reset)

  -- call the journal damaged after a RESET
  pub damaged_by_reset : ((p : c.Pair) (k : Call) → (c.gives (c.leaves p (event reset output)) k).number ≡ 4) → ⊥
  damaged_by_reset h = (d.undamaged after_reset upset_call refl).0 (h (c.start 0x00000A (replicate 17408 0)) upset_call)

  -- have one state
  pub one_state : ((p q : c.Pair) → c.state p ≡ c.state q) → ⊥
  one_state h = state_stays (λ p e o. h (c.leaves p (event e o)) p)

-- ---- the wrong adapters

-- AN ADAPTER THAT REFUSES EVERYTHING, by any number of a refusal.
pub refusing : ℕ → Calls
refusing n =
    record { Pair = Handed; start = ours.start; gives = λ p k. bare n (lent k); leaves = λ p k. p; state = ours.state; kept = ours.kept }

pub refuses_everything : (n : ℕ) → is_refusal n ≡ true → Demand3 (refusing n) → ⊥
unfolding refusing
refuses_everything n h d = refuses_all (refusing n) d (λ p e o. h)

-- ONE WITH A FIXED REPLY, whichever.
fixed : Given → Handed → Call → Given
fixed g p (event e o) = g
fixed g p (batch list o) = gives_ours p (batch list o)
fixed g p back = gives_ours p back
fixed g p empty = gives_ours p empty
fixed g p (enlarge second) = gives_ours p (enlarge second)

pub replying : Given → Calls
replying g = record { Pair = Handed; start = ours.start; gives = fixed g; leaves = leaves_ours; state = ours.state; kept = ours.kept }

pub fixed_reply : (g : Given) → Demand3 (replying g) → ⊥
unfolding replying fixed
fixed_reply g d = one_reply (replying g) d g (λ p e o. refl)

-- ONE THAT LEAVES THE STATE AS IT CAME; its journal is ours.
unmoved : Handed → Call → Handed
unmoved p (event e o) = handed p.state (leaves_ours p (event e o)).journal
unmoved p (batch list o) = leaves_ours p (batch list o)
unmoved p back = leaves_ours p back
unmoved p empty = leaves_ours p empty
unmoved p (enlarge second) = leaves_ours p (enlarge second)

pub leaving_state : Calls
leaving_state = record { Pair = Handed; start = ours.start; gives = gives_ours; leaves = unmoved; state = ours.state; kept = ours.kept }

pub leaves_the_state : Demand3 leaving_state → ⊥
unfolding leaving_state unmoved
leaves_the_state d = state_stays leaving_state d (λ p e o. refl)

-- ONE THAT ANSWERS THE FIRST EVENT HONESTLY AND COPIES ITS REPLY LATER.
record Copying : Type 0 where
  pair : Handed
  first : List Given

-- the reply that stands in the list, or else this one
first_or : List Given → Given → Given
first_or [] g = g
first_or (x ∷ xs) g = x

copying_gives : Copying → Call → Given
copying_gives p (event e o) = first_or p.first (gives_ours p.pair (event e o))
copying_gives p (batch list o) = gives_ours p.pair (batch list o)
copying_gives p back = gives_ours p.pair back
copying_gives p empty = gives_ours p.pair empty
copying_gives p (enlarge second) = gives_ours p.pair (enlarge second)

copying_leaves : Copying → Call → Copying
copying_leaves p (event e o) = record { pair = leaves_ours p.pair (event e o); first = copying_gives p (event e o) ∷ [] }
copying_leaves p (batch list o) = record { pair = leaves_ours p.pair (batch list o); first = p.first }
copying_leaves p back = record { pair = leaves_ours p.pair back; first = p.first }
copying_leaves p empty = record { pair = leaves_ours p.pair empty; first = p.first }
copying_leaves p (enlarge second) = record { pair = leaves_ours p.pair (enlarge second); first = p.first }

pub copying : Calls
copying =
    record {
      Pair = Copying;
      start = λ id bytes. record { pair = ours.start id bytes; first = [] };
      gives = copying_gives;
      leaves = copying_leaves;
      state = λ p. ours.state p.pair;
      kept = λ p. ours.kept p.pair;
    }

pub copies_the_first_reply : Demand3 copying → ⊥
unfolding copying copying_gives copying_leaves first_or
copies_the_first_reply d = copied_reply copying d (λ e e' o. refl)

-- A STEP BACK THAT ONLY LOWERS THE NUMBER.
lowering : Handed → Call → Handed
lowering p (event e o) = leaves_ours p (event e o)
lowering p (batch list o) = leaves_ours p (batch list o)
lowering p back = handed p.state (leaves_ours p back).journal
lowering p empty = leaves_ours p empty
lowering p (enlarge second) = leaves_ours p (enlarge second)

pub only_lowering : Calls
only_lowering = record { Pair = Handed; start = ours.start; gives = gives_ours; leaves = lowering; state = ours.state; kept = ours.kept }

pub only_lowers_the_number : Demand3 only_lowering → ⊥
unfolding only_lowering lowering
only_lowers_the_number d = back_stays only_lowering d (λ p. refl)

-- A KEPT NUMBER INVENTED BY THE CODE: always the same,
pub inventing : ℕ → Calls
inventing n =
    record {
      Pair = Handed;
      start = ours.start;
      gives = gives_ours;
      leaves = leaves_ours;
      state = ours.state;
      kept = λ p. record { number = number.no_frame; kept = n };
    }

pub invented_number : (n : ℕ) → Demand3 (inventing n) → ⊥
unfolding inventing
invented_number n d = kept_stays (inventing n) d n (λ p. refl)

-- or counted by the code beside the journal, a RESET too.
record Counting : Type 0 where
  pair : Handed
  count : ℕ

counting_leaves : Counting → Call → Counting
counting_leaves p (event e o) = record { pair = leaves_ours p.pair (event e o); count = p.count + 1 }
counting_leaves p (batch list o) = record { pair = leaves_ours p.pair (batch list o); count = p.count + length list }
counting_leaves p back = record { pair = leaves_ours p.pair back; count = p.count }
counting_leaves p empty = record { pair = leaves_ours p.pair empty; count = 0 }
counting_leaves p (enlarge second) = record { pair = leaves_ours p.pair (enlarge second); count = p.count }

pub counting : Calls
counting =
    record {
      Pair = Counting;
      start = λ id bytes. record { pair = ours.start id bytes; count = 0 };
      gives = λ p k. gives_ours p.pair k;
      leaves = counting_leaves;
      state = λ p. ours.state p.pair;
      kept = λ p. record { number = number.no_frame; kept = p.count };
    }

pub counted_through_reset : Demand3 counting → ⊥
unfolding counting counting_leaves
counted_through_reset d = kept_through_reset counting d (λ p e. refl)

-- AN ADAPTER THAT CALLS ITS OWN JOURNAL DAMAGED, after a RESET.
record Doubting : Type 0 where
  pair : Handed
  damaged : Bool

resets : Call → Bool
resets (event e o) = accepted_reset e
resets (batch list o) = false
resets back = false
resets empty = false
resets (enlarge second) = false

pub doubting : Calls
doubting =
    record {
      Pair = Doubting;
      start = λ id bytes. record { pair = ours.start id bytes; damaged = false };
      gives = λ p k. cond p.damaged (bare number.bad_journal (lent k)) (gives_ours p.pair k);
      leaves = λ p k. record { pair = leaves_ours p.pair k; damaged = resets k || p.damaged };
      state = λ p. ours.state p.pair;
      kept = λ p. ours.kept p.pair;
    }

pub damaged_after_reset : Demand3 doubting → ⊥
unfolding doubting resets is_reset_frame
damaged_after_reset d = damaged_by_reset doubting d (λ p k. refl)

-- A MACHINE OF ONE STATE, whatever it answers.
pub one_state_machine : Adapter → (Call → Given) → KeptNumber → Calls
one_state_machine a answer n =
    record { Pair = Unit; start = λ id bytes. tt; gives = λ p k. answer k; leaves = λ p k. tt; state = λ p. a; kept = λ p. n }

pub has_one_state : (a : Adapter) (answer : Call → Given) (n : KeptNumber) → Demand3 (one_state_machine a answer n) → ⊥
unfolding one_state_machine
has_one_state a answer n d = one_state (one_state_machine a answer n) d (λ p q. refl)
