-- THE CONTROL ROOM'S END: what document 02 says of its record and its three calls, for every input. That a request is read back as its answer is
-- `Conversation`. Assumes nothing.
use Prim.Native.Nat.{ℕ, ◌+◌, ◌*◌, ◌/◌, ◌%◌, ◌^◌, ◌≤◌, ◌<◌}
use mathlib.Core.Bool.{Bool, true, false, not, ◌&&◌, ◌||◌, true≢false, false≢true}
use mathlib.Core.List.{List, [], ◌∷◌}
use mathlib.Core.Logic.{◌⊎◌, inl, inr}
use mathlib.Core.Path.{◌≡◌, refl, sym, ap, subst, ◌∙◌}
use native.Mathlib.Nat.{mod-eq_of_lt}
use native.Mathlib.Omega.{arith}
use borrow.Author.Tests.{eq-eqb, ne_eqb, eqb-true, eqb-false, leb-true, le-leb, ltb-true, ltb-false, lt-ltb, le-ltb, not-false}
use lib.Dec.{eqb, leb, ltb, lit<}
use lib.ListN.{length, replicate}
use Rattle.numbers.specs.Numbers as number
use Rattle.parts.specs.Parts.{part, put}
use Rattle.bits.specs.Bits.{digit}
use Rattle.packets.specs.Packets.{request_body}
use Rattle.parts.specs.Digits.{number as number_of}
use Rattle.bits.proofs.Tests.{and_left, and_right, or_second, cond_cases}
use Rattle.commands.proofs.Laws.{code_at_beyond, none_beyond, no_zero}
use Rattle.link.specs.Link.{is_test}
use Rattle.control_room.specs.Record.{record_size, number_at, frame_number, counted_up, command_at, is_listed, len_of, is_open, channel_in, command_in, is_open_to, opened, closed, free_trn, is_sound, are_sound, is_record}
use Rattle.control_room.specs.Calls.{Made, record_made, Outcome, gives, refused, unless_refused, taken, written, request_written, trn_of, ch_of, is_interrupt, told, answered, interrupted, matched, read, reply_read, is_link_command, commanded, link_command, command_written}
use Rattle.control_room.proofs.Laws.{its_length, its_frame, its_entries, sound_at, a_record, length_with, number_same, number_other, Among, sound_all, Lowest, none, one, lowest, lowest_is, stored_entry, stored_frame}
use Rattle.sca.specs.ControlRoom.{pack_given, left, packed}
use Rattle.promises.specs.Runs.{is_refusal}
use Rattle.promises.specs.Ours.{result_number}
use Rattle.promises.specs.ControlRoom.{RoomCall, request, reply, command, outcome_of, output_of, leaves, record_after}
use Rattle.promises.proofs.Exported.{refusal_small}
use Rattle.promises.proofs.Steps.{split}

-- ---- the calls, case by case

module _ (r o : List ℕ) (P : Outcome → Type 0) (no : (n : ℕ) → is_refusal n ≡ true → P (refused n r o)) where
  unless_cases : (rest : Outcome) → (is_record r ≡ true → 16 ≤ length o → P rest) → P (unless_refused r o rest)
  unless_cases rest done =
      cond_cases P (not (is_record r)) (λ _. no 6 refl)
      (λ t. cond_cases P (ltb (length o) 16) (λ _. no 1 refl) (λ u. done (not-false (is_record r) t) (ltb-false (length o) 16 u)))

  pub request_cases : (ch cmd d : ℕ)
      → (is_record r ≡ true → 16 ≤ length o → is_listed (command_at ch cmd) ≡ true → (free_trn r ≡ 0xFF → ⊥)
      → P (taken r ch (len_of (command_at ch cmd)) cmd d o)) → P (request_written r ch cmd d o)
  unfolding request_written written
  request_cases ch cmd d done =
      unless_cases (written r ch cmd d o)
      (λ s l. cond_cases P (not (is_listed (command_at ch cmd))) (λ _. no 35 refl)
      (λ t. cond_cases P (eqb (free_trn r) 0xFF) (λ _. no 31 refl)
      (λ f. done s l (not-false (is_listed (command_at ch cmd)) t) (eqb-false (free_trn r) 0xFF f))))

  pub reply_cases : (body : List ℕ) → (is_record r ≡ true → length body ≡ 10 → is_interrupt body ≡ true → P (interrupted r body o))
      → (is_record r ≡ true → length body ≡ 10 → is_interrupt body ≡ false → is_open_to r (trn_of body) (ch_of body) ≡ true → P (answered r body o))
      → P (reply_read r body o)
  unfolding reply_read read matched
  reply_cases body apart done =
      unless_cases (read r body o)
      (λ s l. cond_cases P (not (eqb (length body) 10)) (λ _. no 33 refl)
      (λ t. let n = eqb-true (length body) 10 (not-false (eqb (length body) 10) t) in
      cond_cases P (is_interrupt body) (λ i. apart s n i)
      (λ i. cond_cases P (not (is_open_to r (trn_of body) (ch_of body))) (λ _. no 32 refl)
      (λ m. done s n i (not-false (is_open_to r (trn_of body) (ch_of body)) m)))))

  pub command_cases : (control : ℕ) → (is_record r ≡ true → is_link_command control ≡ true → P (commanded r control o)) → P (command_written r control o)
  unfolding command_written link_command
  command_cases control done =
      unless_cases (link_command r control o)
      (λ s l. cond_cases P (not (is_link_command control)) (λ _. no 35 refl) (λ t. done s (not-false (is_link_command control) t)))

-- ---- "Each leaves record and output unchanged."

pub room_unchanged : (r : List ℕ) (c : RoomCall) → is_refusal (outcome_of r c).given.number ≡ true
    → outcome_of r c ≡ refused (outcome_of r c).given.number r (output_of c)
room_unchanged r (request ch cmd d o) =
    request_cases r o (λ x. is_refusal x.given.number ≡ true → x ≡ refused x.given.number r o) (λ n _ _. refl) ch cmd d
    (λ _ _ _ _ h. absurd (false≢true h))
room_unchanged r (reply body o) =
    reply_cases r o (λ x. is_refusal x.given.number ≡ true → x ≡ refused x.given.number r o) (λ n _ _. refl) body
    (λ _ _ _ h. absurd (false≢true h)) (λ _ _ _ _ h. absurd (false≢true h))
room_unchanged r (command control o) =
    command_cases r o (λ x. is_refusal x.given.number ≡ true → x ≡ refused x.given.number r o) (λ n _ _. refl) control
    (λ _ _ h. absurd (false≢true h))

pub record_unchanged : (r : List ℕ) → is_refusal (record_made r).number ≡ true → (record_made r).bytes ≡ r
unfolding record_made
record_unchanged r =
    cond_cases (λ (m : Made). is_refusal m.number ≡ true → m.bytes ≡ r) (not (eqb (length r) record_size)) (λ _ _. refl) (λ _ h. absurd (false≢true h))

-- ---- "along every run of writes and reads from a new record never 6"

pub known_bytes : (ch cmd : ℕ) → is_listed (command_at ch cmd) ≡ true → (ch < 256) × (cmd < 256)
known_bytes ch cmd h = (
  split (ltb ch 256) (ltb-true ch 256) (λ t. absurd (false≢true (sym (ap is_listed (none_beyond ch cmd (ltb-false ch 256 t))) ∙ h))),
  split (ltb cmd 256) (ltb-true cmd 256) (λ t. absurd (false≢true (sym (ap is_listed (code_at_beyond ch cmd (ltb-false cmd 256 t))) ∙ h))),
)

-- the channel and the command of an entry
pub entry_channel : (ch cmd : ℕ) → ch < 256 → channel_in (ch + 0x100 * cmd) ≡ ch
entry_channel ch cmd h = omega arith

pub entry_command : (ch cmd : ℕ) → ch < 256 → cmd < 256 → command_in (ch + 0x100 * cmd) ≡ cmd
entry_command ch cmd h k = omega arith

entry_sound : (ch cmd : ℕ) → is_listed (command_at ch cmd) ≡ true → is_sound (ch + 0x100 * cmd) ≡ true
entry_sound ch cmd h =
    let b = known_bytes ch cmd h in
    rw (entry_channel ch cmd b.0, entry_command ch cmd b.0 b.1, h) (or_true (eqb (ch + 0x100 * cmd) 0))
  where
    or_true : (a : Bool) → (a || true) ≡ true
    or_true true = refl
    or_true false = refl

-- an open entry is not 0
pub entry_open : (ch cmd : ℕ) → is_listed (command_at ch cmd) ≡ true → ch + 0x100 * cmd ≡ 0 → ⊥
entry_open ch cmd h z =
    let c : ch ≡ 0 = omega arith in
    let d : cmd ≡ 0 = omega arith in
    false≢true (sym (ap is_listed no_zero) ∙ subst (λ (k : ℕ). is_listed (command_at k 0) ≡ true) c (subst (λ (k : ℕ). is_listed (command_at ch k) ≡ true) d h))

-- the TRN that a request takes
pub free_among : (r : List ℕ) → (free_trn r ≡ 0xFF → ⊥) → Among 1 254 (free_trn r)
free_among r h = by (lowest r 1 254) h
  where
    by : {x : ℕ} → Lowest r 1 254 x → (x ≡ 0xFF → ⊥) → Among 1 254 x
    by (none f) d = absurd (d refl)
    by (one x a c f) d = a

pub open_among : (r : List ℕ) (trn ch : ℕ) → is_open_to r trn ch ≡ true
    → Among 1 254 trn × (is_open r trn ≡ true) × (channel_in (number_at r trn) ≡ ch)
unfolding is_open_to
open_among r trn ch t =
    let u = and_left (leb 1 trn && ltb trn 0xFF && is_open r trn) (eqb (channel_in (number_at r trn)) ch) t in
    let v = and_left (leb 1 trn && ltb trn 0xFF) (is_open r trn) u in
    let l = leb-true 1 trn (and_left (leb 1 trn) (ltb trn 0xFF) v) in
    let m = ltb-true trn 0xFF (and_right (leb 1 trn) (ltb trn 0xFF) v) in (
      (l, m),
      and_right (leb 1 trn && ltb trn 0xFF) (is_open r trn) u,
      eqb-true (channel_in (number_at r trn)) ch (and_right (leb 1 trn && ltb trn 0xFF && is_open r trn) (eqb (channel_in (number_at r trn)) ch) t),
    )

free_of : (r : List ℕ) → (free_trn r ≡ 0xFF → ⊥) → is_open r (free_trn r) ≡ false
free_of r h = by (lowest r 1 254) h
  where
    by : {x : ℕ} → Lowest r 1 254 x → (x ≡ 0xFF → ⊥) → is_open r x ≡ false
    by (none f) d = absurd (d refl)
    by (one x a c f) d = c

lower_of : (r : List ℕ) (t : ℕ) → 1 ≤ t → t < free_trn r → is_open r t ≡ true
lower_of r t = by (lowest r 1 254)
  where
    by : {x : ℕ} → Lowest r 1 254 x → 1 ≤ t → t < x → is_open r t ≡ true
    by (none f) l u = f t (l, u)
    by (one x a c f) l u = f t l u

modulo_8 : (n : ℕ) → n % 8 ≤ 7
modulo_8 n = omega arith

-- A call that is handed a record leaves one.
pub stays_a_record : (r : List ℕ) (c : RoomCall) → is_record r ≡ true → is_record (leaves r c) ≡ true
stays_a_record r (request ch cmd d o) h =
    request_cases r o (λ x. is_record x.kept ≡ true) (λ n _. h) ch cmd d
    (λ _ _ listed free.
    let a = free_among r free in
    let b = known_bytes ch cmd listed in
    let up = stored_frame r h ((frame_number r + 1) % 8) (modulo_8 (frame_number r + 1)) in
    stored_entry (counted_up r) up (free_trn r) (ch + 0x100 * cmd) a.1 (omega arith) a.0 (entry_sound ch cmd listed))
stays_a_record r (reply body o) h =
    reply_cases r o (λ x. is_record x.kept ≡ true) (λ n _. h) body (λ _ _ _. h)
    (λ _ _ _ m. let a = (open_among r (trn_of body) (ch_of body) m).0 in stored_entry r h (trn_of body) 0 a.1 (lit< tt) a.0 refl)
stays_a_record r (command control o) h =
    command_cases r o (λ x. is_record x.kept ≡ true) (λ n _. h) control
    (λ _ _. cond_cases (λ (s : List ℕ). is_record s ≡ true) (is_test control) (λ _. h) (λ _. stored_frame r h 0 (omega arith)))

pub zeros : is_record (replicate record_size 0) ≡ true
unfolding is_record are_sound number_at part number_of
zeros = refl

-- whatever the bytes were, of a record's length
pub new_is_a_record : (r : List ℕ) → length r ≡ record_size → is_record (record_made r).bytes ≡ true
unfolding record_made
new_is_a_record r n = rw (eq-eqb (length r) record_size n) zeros

after_calls : (r : List ℕ) → is_record r ≡ true → (calls : List RoomCall) → is_record (record_after r calls) ≡ true
after_calls r h [] = h
after_calls r h (c ∷ calls) = after_calls (leaves r c) (stays_a_record r c h) calls

not_six : (r : List ℕ) (c : RoomCall) → is_record r ≡ true → (outcome_of r c).given.number ≡ number.bad_state → ⊥
unfolding request_written reply_read command_written written read matched link_command
not_six r (request ch cmd d o) h = rw h
    (cond_cases (λ (x : Outcome). x.given.number ≡ 6 → ⊥) (ltb (length o) 16) (λ _ e. omega arith)
    (λ _. cond_cases (λ (x : Outcome). x.given.number ≡ 6 → ⊥) (not (is_listed (command_at ch cmd))) (λ _ e. omega arith)
    (λ _. cond_cases (λ (x : Outcome). x.given.number ≡ 6 → ⊥) (eqb (free_trn r) 0xFF) (λ _ e. omega arith) (λ _ e. omega arith))))
not_six r (reply body o) h = rw h
    (cond_cases (λ (x : Outcome). x.given.number ≡ 6 → ⊥) (ltb (length o) 16) (λ _ e. omega arith)
    (λ _. cond_cases (λ (x : Outcome). x.given.number ≡ 6 → ⊥) (not (eqb (length body) 10)) (λ _ e. omega arith)
    (λ _. cond_cases (λ (x : Outcome). x.given.number ≡ 6 → ⊥) (is_interrupt body) (λ _ e. omega arith)
    (λ _. cond_cases (λ (x : Outcome). x.given.number ≡ 6 → ⊥) (not (is_open_to r (trn_of body) (ch_of body))) (λ _ e. omega arith) (λ _ e. omega arith)))))
not_six r (command control o) h = rw h
    (cond_cases (λ (x : Outcome). x.given.number ≡ 6 → ⊥) (ltb (length o) 16) (λ _ e. omega arith)
    (λ _. cond_cases (λ (x : Outcome). x.given.number ≡ 6 → ⊥) (not (is_link_command control)) (λ _ e. omega arith) (λ _ e. omega arith)))

pub never_six : (bytes : List ℕ) → length bytes ≡ record_size → (calls : List RoomCall) (c : RoomCall)
    → (outcome_of (record_after (record_made bytes).bytes calls) c).given.number ≡ number.bad_state → ⊥
never_six bytes n calls c = not_six (record_after (record_made bytes).bytes calls) c (after_calls (record_made bytes).bytes (new_is_a_record bytes n) calls)

-- ---- "A request takes the lowest free TRN and a frame number kept modulo 8 beside the record."

pub closed_is : (r : List ℕ) (t : ℕ) → is_open r t ≡ false → number_at r t ≡ 0
closed_is r t h = eqb-true (number_at r t) 0 (not-false (eqb (number_at r t) 0) h)

pub record Taken (r : List ℕ) (ch cmd d : ℕ) (o : List ℕ) (x : Outcome) : Type 0 where
  pub given : x.given ≡ gives 0 10 false
  pub range : Among 1 254 (free_trn r)
  pub free : is_open r (free_trn r) ≡ false
  pub lower : (t : ℕ) → 1 ≤ t → t < free_trn r → is_open r t ≡ true
  pub body : x.output ≡ put 0 (request_body (2 * frame_number r) (free_trn r) ch (len_of (command_at ch cmd)) cmd d) o
  -- its transaction is open, to its channel, and the frame number has gone up; no other number of the record changes
  pub opens : number_at x.kept (free_trn r) ≡ ch + 0x100 * cmd
  pub matched : is_open_to x.kept (free_trn r) ch ≡ true
  pub counts : frame_number x.kept ≡ (frame_number r + 1) % 8
  pub others : (t : ℕ) → (t ≡ 0 → ⊥) → (t ≡ free_trn r → ⊥) → number_at x.kept t ≡ number_at r t

pub open_to : (r : List ℕ) (trn ch : ℕ) → Among 1 254 trn → (number_at r trn ≡ 0 → ⊥) → channel_in (number_at r trn) ≡ ch → is_open_to r trn ch ≡ true
unfolding is_open_to
open_to r trn ch a z e = rw (le-leb 1 trn a.0, lt-ltb trn 0xFF a.1, ne_eqb (number_at r trn) 0 z, eq-eqb (channel_in (number_at r trn)) ch e) refl

pub request_takes : (r : List ℕ) (ch cmd d : ℕ) (o : List ℕ) → (request_written r ch cmd d o).given.number ≡ number.has_frame
    → Taken r ch cmd d o (request_written r ch cmd d o)
request_takes r ch cmd d o =
    request_cases r o (λ x. x.given.number ≡ number.has_frame → Taken r ch cmd d o x) (λ n f h. absurd (false≢true (rw h at f))) ch cmd d
    (λ s l listed free _.
    let n = its_length r s in
    let m = length_with r 0 ((frame_number r + 1) % 8) n (lit< tt) in
    let b = known_bytes ch cmd listed in
    let a = free_among r free in
    let e = number_same (counted_up r) (free_trn r) (ch + 0x100 * cmd) m a.1 (omega arith) in
    record {
      given = refl;
      range = a;
      free = free_of r free;
      lower = lower_of r;
      body = refl;
      opens = e;
      matched =
          open_to (opened (counted_up r) (free_trn r) ch cmd) (free_trn r) ch a (λ z. entry_open ch cmd listed (sym e ∙ z)) (ap channel_in e ∙ entry_channel ch cmd b.0);
      counts =
          number_other (counted_up r) (free_trn r) (ch + 0x100 * cmd) m a.1 0 (λ z. omega arith)
          ∙ number_same r 0 ((frame_number r + 1) % 8) n (lit< tt) (omega arith);
      others = λ t z w.
          number_other (counted_up r) (free_trn r) (ch + 0x100 * cmd) m a.1 t w ∙ number_other r 0 ((frame_number r + 1) % 8) n (lit< tt) t z;
    })

-- ---- "31 no TRN free, exactly when all 254 are open"

all_open_lem : (r : List ℕ) → ((t : ℕ) → Among 1 254 t → is_open r t ≡ true) → free_trn r ≡ 0xFF
all_open_lem r f = by (lowest r 1 254)
  where
    by : {x : ℕ} → Lowest r 1 254 x → x ≡ 0xFF
    by (none g) = refl
    by (one x a c g) = absurd (true≢false (sym (f x a) ∙ c))

none_free : (r : List ℕ) → free_trn r ≡ 0xFF → (t : ℕ) → Among 1 254 t → is_open r t ≡ true
none_free r e t a = lower_of r t a.0 (rw e a.1)

-- THE ORDER OF REFUSALS, and no other: 6, 1, 35, 31.
pub record RequestInOrder (r : List ℕ) (ch cmd : ℕ) (o : List ℕ) (n : ℕ) : Type 0 where
  pub six : is_record r ≡ false → n ≡ 6
  pub one : is_record r ≡ true → length o < 16 → n ≡ 1
  pub thirty_five : is_record r ≡ true → 16 ≤ length o → is_listed (command_at ch cmd) ≡ false → n ≡ 35
  pub thirty_one : is_record r ≡ true → 16 ≤ length o → is_listed (command_at ch cmd) ≡ true → ((t : ℕ) → Among 1 254 t → is_open r t ≡ true) → n ≡ 31
  pub else : is_record r ≡ true → 16 ≤ length o → is_listed (command_at ch cmd) ≡ true → (t : ℕ) → Among 1 254 t → is_open r t ≡ false → n ≡ 0

pub request_in_order : (r : List ℕ) (ch cmd d : ℕ) (o : List ℕ) → RequestInOrder r ch cmd o (request_written r ch cmd d o).given.number
unfolding request_written written
request_in_order r ch cmd d o =
    record {
      six = λ h. rw h refl;
      one = λ h l. rw (h, lt-ltb (length o) 16 l) refl;
      thirty_five = λ h l k. rw (h, le-ltb (length o) 16 l, k) refl;
      thirty_one = λ h l k f. rw (h, le-ltb (length o) 16 l, k, all_open_lem r f) refl;
      else = λ h l k t a c.
          rw (h, le-ltb (length o) 16 l, k, ne_eqb (free_trn r) 0xFF (λ e. true≢false (sym (none_free r e t a) ∙ c))) refl;
    }

-- ---- "A reply is matched by TRN and channel, closes its request and frees the TRN, which is used again."

pub record Closes (r body o : List ℕ) (x : Outcome) : Type 0 where
  pub given : x.given ≡ gives 0 9 false
  pub range : Among 1 254 (trn_of body)
  pub open_before : is_open r (trn_of body) ≡ true
  pub channel : channel_in (number_at r (trn_of body)) ≡ ch_of body
  pub told_of : x.output ≡ put 0 (told (command_in (number_at r (trn_of body))) body) o
  -- it alone is closed; the frame number stays too
  pub free_after : is_open x.kept (trn_of body) ≡ false
  pub others : (t : ℕ) → (t ≡ trn_of body → ⊥) → number_at x.kept t ≡ number_at r t
  -- the next request takes it, if it is the lowest
  pub next : ((t : ℕ) → 1 ≤ t → t < trn_of body → is_open r t ≡ true) → free_trn x.kept ≡ trn_of body

pub reply_closes : (r body o : List ℕ) → (reply_read r body o).given.number ≡ number.has_frame → (reply_read r body o).given.interrupt ≡ false
    → Closes r body o (reply_read r body o)
reply_closes r body o =
    reply_cases r o (λ x. x.given.number ≡ number.has_frame → x.given.interrupt ≡ false → Closes r body o x)
    (λ n f h _. absurd (false≢true (rw h at f))) body (λ _ _ _ _ h. absurd (true≢false h))
    (λ s _ _ m _ _.
    let n = its_length r s in
    let a = open_among r (trn_of body) (ch_of body) m in
    let zero : is_open (closed r (trn_of body)) (trn_of body) ≡ false = rw (number_same r (trn_of body) 0 n a.0.1 (lit< tt)) refl in
    record {
      given = refl;
      range = a.0;
      open_before = a.1;
      channel = a.2;
      told_of = refl;
      free_after = zero;
      others = number_other r (trn_of body) 0 n a.0.1;
      next = λ f.
          lowest_is (closed r (trn_of body)) 1 254 (trn_of body) a.0 zero
          (λ t l u. ap (λ (k : ℕ). not (eqb k 0)) (number_other r (trn_of body) 0 n a.0.1 t (λ e. omega arith)) ∙ f t l u);
    })

-- ---- "Interrupts (TRN 0xFF, CH 0x02) are handed over apart.": exactly these, and no byte of the record changes

pub record Apart (r body o : List ℕ) (x : Outcome) : Type 0 where
  pub given : x.given ≡ gives 0 9 true
  pub trn : trn_of body ≡ 0xFF
  pub channel : ch_of body ≡ 0x02
  pub kept : x.kept ≡ r
  pub told_of : x.output ≡ put 0 (told 0 body) o

pub interrupt_apart : (r body o : List ℕ) → (reply_read r body o).given.interrupt ≡ true → Apart r body o (reply_read r body o)
interrupt_apart r body o =
    reply_cases r o (λ x. x.given.interrupt ≡ true → Apart r body o x) (λ n _ h. absurd (false≢true h)) body
    (λ _ _ i _.
    record {
      given = refl;
      trn = eqb-true (trn_of body) 0xFF (and_left (eqb (trn_of body) 0xFF) (eqb (ch_of body) 0x02) i);
      channel = eqb-true (ch_of body) 0x02 (and_right (eqb (trn_of body) 0xFF) (eqb (ch_of body) 0x02) i);
      kept = refl;
      told_of = refl;
    })
    (λ _ _ _ _ h. absurd (false≢true h))

-- THE ORDER OF REFUSALS, and no other: 6, 1, 33, 32.
pub record ReplyInOrder (r body o : List ℕ) (x : Outcome) : Type 0 where
  pub six : is_record r ≡ false → x.given.number ≡ 6
  pub one : is_record r ≡ true → length o < 16 → x.given.number ≡ 1
  pub thirty_three : is_record r ≡ true → 16 ≤ length o → (length body ≡ 10 → ⊥) → x.given.number ≡ 33
  pub interrupt : is_record r ≡ true → 16 ≤ length o → length body ≡ 10 → trn_of body ≡ 0xFF → ch_of body ≡ 0x02
      → (x.given.number ≡ 0) × (x.given.interrupt ≡ true)
  pub thirty_two : is_record r ≡ true → 16 ≤ length o → length body ≡ 10 → is_interrupt body ≡ false → is_open_to r (trn_of body) (ch_of body) ≡ false
      → x.given.number ≡ 32
  pub else : is_record r ≡ true → 16 ≤ length o → length body ≡ 10 → is_open_to r (trn_of body) (ch_of body) ≡ true
      → (x.given.number ≡ 0) × (x.given.interrupt ≡ false)

pub no_interrupt : (r body : List ℕ) → is_open_to r (trn_of body) (ch_of body) ≡ true → is_interrupt body ≡ false
no_interrupt r body m =
    let a = (open_among r (trn_of body) (ch_of body) m).0 in
    rw (ne_eqb (trn_of body) 0xFF (λ e. omega arith)) refl

pub reply_in_order : (r body o : List ℕ) → ReplyInOrder r body o (reply_read r body o)
unfolding reply_read read matched
reply_in_order r body o =
    record {
      six = λ h. rw h refl;
      one = λ h l. rw (h, lt-ltb (length o) 16 l) refl;
      thirty_three = λ h l n. rw (h, le-ltb (length o) 16 l, ne_eqb (length body) 10 n) refl;
      interrupt = λ h l n t c. rw (h, le-ltb (length o) 16 l, n, t, c) (refl, refl);
      thirty_two = λ h l n i m. rw (h, le-ltb (length o) 16 l, n, i, m) refl;
      else = λ h l n m. rw (h, le-ltb (length o) 16 l, n, no_interrupt r body m, m) (refl, refl);
    }

-- ---- the link's commands: CONNECT and RESET set the frame number to 0, TEST leaves the record as it was; what is open stays open

pub record Commands (r : List ℕ) (control : ℕ) (o : List ℕ) (x : Outcome) : Type 0 where
  pub given : x.given ≡ gives 0 2 false
  pub body : x.output ≡ put 0 (0x00 ∷ control ∷ []) o
  pub anew : is_test control ≡ false → frame_number x.kept ≡ 0
  pub test : is_test control ≡ true → x.kept ≡ r
  pub others : (t : ℕ) → (t ≡ 0 → ⊥) → number_at x.kept t ≡ number_at r t

pub command_done : (r : List ℕ) (control : ℕ) (o : List ℕ) → (command_written r control o).given.number ≡ number.has_frame
    → Commands r control o (command_written r control o)
command_done r control o =
    command_cases r o (λ x. x.given.number ≡ number.has_frame → Commands r control o x) (λ n f h. absurd (false≢true (rw h at f))) control
    (λ s _ _.
    let n = its_length r s in
    record {
      given = refl;
      body = refl;
      anew = λ t. rw t (number_same r 0 0 n (lit< tt) (lit< tt));
      test = λ t. rw t refl;
      others = λ t z. cond_cases (λ (k : List ℕ). number_at k t ≡ number_at r t) (is_test control) (λ _. refl) (λ _. number_other r 0 0 n (lit< tt) t z);
    })

-- THE ORDER OF REFUSALS, and no other: 6, 1, 35. The six controls are CONNECT, RESET and TEST, each without and with bit 4.
abbrev pub Six : ℕ → Type 0
Six n = (n ≡ 0x2F) ⊎ (n ≡ 0x3F) ⊎ (n ≡ 0x8F) ⊎ (n ≡ 0x9F) ⊎ (n ≡ 0xE3) ⊎ (n ≡ 0xF3)

pub record CommandInOrder (r : List ℕ) (control : ℕ) (o : List ℕ) (n : ℕ) : Type 0 where
  pub six : is_record r ≡ false → n ≡ 6
  pub one : is_record r ≡ true → length o < 16 → n ≡ 1
  pub thirty_five : is_record r ≡ true → 16 ≤ length o → (Six control → ⊥) → n ≡ 35
  pub else : is_record r ≡ true → 16 ≤ length o → Six control → n ≡ 0

six_listed : (n : ℕ) → Six n → is_link_command n ≡ true
six_listed n (inl e) = rw e refl
six_listed n (inr (inl e)) = rw e refl
six_listed n (inr (inr (inl e))) = rw e refl
six_listed n (inr (inr (inr (inl e)))) = rw e refl
six_listed n (inr (inr (inr (inr (inl e))))) = rw e refl
six_listed n (inr (inr (inr (inr (inr e))))) = rw e refl

none_listed : (n : ℕ) → (Six n → ⊥) → is_link_command n ≡ false
none_listed n h =
    rw (
      ne_eqb n 0x2F (λ e. h (inl e)),
      ne_eqb n 0x3F (λ e. h (inr (inl e))),
      ne_eqb n 0x8F (λ e. h (inr (inr (inl e)))),
      ne_eqb n 0x9F (λ e. h (inr (inr (inr (inl e))))),
      ne_eqb n 0xE3 (λ e. h (inr (inr (inr (inr (inl e)))))),
      ne_eqb n 0xF3 (λ e. h (inr (inr (inr (inr (inr e)))))),
    )
    refl

pub command_in_order : (r : List ℕ) (control : ℕ) (o : List ℕ) → CommandInOrder r control o (command_written r control o).given.number
unfolding command_written link_command
command_in_order r control o =
    record {
      six = λ h. rw h refl;
      one = λ h l. rw (h, lt-ltb (length o) 16 l) refl;
      thirty_five = λ h l k. rw (h, le-ltb (length o) 16 l, none_listed control k) refl;
      else = λ h l k. rw (h, le-ltb (length o) 16 l, six_listed control k) refl;
    }

-- ---- WHAT 6 MEANS, exactly: not 510 bytes; a frame number over 7, or a bit set beside it; an open entry that the tables don't have

pub record IsRecord (r : List ℕ) : Type 0 where
  pub long : length r ≡ 510
  pub frame : frame_number r ≤ 7
  pub entries : (t : ℕ) → Among 1 254 t → (number_at r t ≡ 0) ⊎ (is_listed (command_at (channel_in (number_at r t)) (command_in (number_at r t))) ≡ true)

pub six_exactly : (r : List ℕ) → (is_record r ≡ true → IsRecord r) × (IsRecord r → is_record r ≡ true)
six_exactly r = (
  λ h. record { long = its_length r h; frame = its_frame r h; entries = λ t a. entry (number_at r t) (sound_at r 1 254 (its_entries r h) t a) },
  λ i. a_record r i.long (le-leb (frame_number r) 7 i.frame) (sound_all r 1 254 (λ t a. back (number_at r t) (i.entries t a))),
)
  where
    entry : (e : ℕ) → is_sound e ≡ true → (e ≡ 0) ⊎ (is_listed (command_at (channel_in e) (command_in e)) ≡ true)
    entry e h = split (eqb e 0) (λ z. inl (eqb-true e 0 z)) (λ z. inr (or_second (eqb e 0) _ h z))

    back : (e : ℕ) → (e ≡ 0) ⊎ (is_listed (command_at (channel_in e) (command_in e)) ≡ true) → is_sound e ≡ true
    back e (inl z) = rw z refl
    back e (inr k) = split (eqb e 0) (λ z. rw z refl) (λ z. rw (z, k) refl)

-- ---- a transaction stays open through whatever else is written and read

-- a call that reads no reply with this TRN
abbrev pub Other : ℕ → RoomCall → Type 0
Other trn (request ch cmd d o) = Unit
Other trn (reply body o) = trn_of body ≡ trn → ⊥
Other trn (command control o) = Unit

abbrev pub Others : ℕ → List RoomCall → Type 0
Others trn [] = Unit
Others trn (c ∷ calls) = Other trn c × Others trn calls

stays_one : (r : List ℕ) (trn : ℕ) → Among 1 254 trn → is_open r trn ≡ true → (c : RoomCall) → Other trn c → number_at (leaves r c) trn ≡ number_at r trn
stays_one r trn a h (request ch cmd d o) k =
    request_cases r o (λ x. number_at x.kept trn ≡ number_at r trn) (λ n _. refl) ch cmd d
    (λ s _ listed free.
    let n = its_length r s in
    let t = free_among r free in
    number_other (counted_up r) (free_trn r) (ch + 0x100 * cmd) (length_with r 0 ((frame_number r + 1) % 8) n (lit< tt)) t.1 trn
    (λ e. true≢false (sym h ∙ ap (is_open r) e ∙ free_of r free))
    ∙ number_other r 0 ((frame_number r + 1) % 8) n (lit< tt) trn (λ e. omega arith))
stays_one r trn a h (reply body o) k =
    reply_cases r o (λ x. number_at x.kept trn ≡ number_at r trn) (λ n _. refl) body (λ _ _ _. refl)
    (λ s _ _ m. number_other r (trn_of body) 0 (its_length r s) (open_among r (trn_of body) (ch_of body) m).0.1 trn (λ e. k (sym e)))
stays_one r trn a h (command control o) k =
    command_cases r o (λ x. number_at x.kept trn ≡ number_at r trn) (λ n _. refl) control
    (λ s _. cond_cases (λ (x : List ℕ). number_at x trn ≡ number_at r trn) (is_test control) (λ _. refl)
    (λ _. number_other r 0 0 (its_length r s) (lit< tt) trn (λ e. omega arith)))

pub stays_open : (r : List ℕ) (trn : ℕ) → Among 1 254 trn → is_open r trn ≡ true → (calls : List RoomCall) → Others trn calls
    → number_at (record_after r calls) trn ≡ number_at r trn
stays_open r trn a h [] k = refl
stays_open r trn a h (c ∷ calls) k =
    let e = stays_one r trn a h c k.0 in
    stays_open (leaves r c) trn a (ap (λ (n : ℕ). not (eqb n 0)) e ∙ h) calls k.1 ∙ e

-- ---- the exports: where the number in the packed result refuses, record and output are as they were

packed_number : (n l i : ℕ) → n < 256 → (n + 256 * l + 65536 * i) % 256 ≡ n
packed_number n l i h = omega arith

room_number : (r : List ℕ) (c : RoomCall) → (outcome_of r c).given.number < 256
room_number r (request ch cmd d o) = request_cases r o (λ x. x.given.number < 256) refusal_small ch cmd d (λ _ _ _ _. lit< tt)
room_number r (reply body o) = reply_cases r o (λ x. x.given.number < 256) refusal_small body (λ _ _ _. lit< tt) (λ _ _ _ _. lit< tt)
room_number r (command control o) = command_cases r o (λ x. x.given.number < 256) refusal_small control (λ _ _. lit< tt)

room_length : (r : List ℕ) (c : RoomCall) → (outcome_of r c).given.length < 256
room_length r (request ch cmd d o) = request_cases r o (λ x. x.given.length < 256) (λ _ _. lit< tt) ch cmd d (λ _ _ _ _. lit< tt)
room_length r (reply body o) = reply_cases r o (λ x. x.given.length < 256) (λ _ _. lit< tt) body (λ _ _ _. lit< tt) (λ _ _ _ _. lit< tt)
room_length r (command control o) = command_cases r o (λ x. x.given.length < 256) (λ _ _. lit< tt) control (λ _ _. lit< tt)

made_small : (r : List ℕ) → (record_made r).number < 256
unfolding record_made
made_small r = cond_cases (λ (m : Made). m.number < 256) (not (eqb (length r) record_size)) (λ _. lit< tt) (λ _. lit< tt)

digit_small : (t : Bool) → digit t < 2
digit_small true = lit< tt
digit_small false = lit< tt

module _ (n l i : ℕ) (hn : n < 256) (hl : l < 256) (hi : i < 2) where
  packed_length : (n + 256 * l + 65536 * i) / 2 ^ 8 % 256 ≡ l
  packed_length = omega arith

  packed_flag : (n + 256 * l + 65536 * i) / 2 ^ 16 % 2 ≡ i
  packed_flag = omega arith

-- sca_request, sca_reply, sca_command
pub room_keeps : (r : List ℕ) (c : RoomCall) → let x = packed (outcome_of r c) in
    is_refusal (result_number x.result) ≡ true → x ≡ left x.result r (output_of c)
room_keeps r c h =
    let g = (outcome_of r c).given in
    let n = packed_number g.number g.length (digit g.interrupt) (room_number r c) in
    ap (λ (x : Outcome). left (pack_given g) x.kept x.output) (room_unchanged r c (ap is_refusal (sym n) ∙ h))

-- sca_record_new
pub record_keeps : (r : List ℕ) → is_refusal (result_number (record_made r).number) ≡ true → (record_made r).bytes ≡ r
record_keeps r h =
    let small : (record_made r).number < 256 = made_small r in
    record_unchanged r (ap is_refusal (sym (mod-eq_of_lt small)) ∙ h)

-- a result is read back as include/sca.h reads it: number, bytes written, whether it is an interrupt
pub room_unpacked : (r : List ℕ) (c : RoomCall) → let x = packed (outcome_of r c) in
    (result_number x.result ≡ (outcome_of r c).given.number) × (x.result / 2 ^ 8 % 256 ≡ (outcome_of r c).given.length)
    × (x.result / 2 ^ 16 % 2 ≡ digit (outcome_of r c).given.interrupt)
room_unpacked r c =
    let g = (outcome_of r c).given in
    let n = room_number r c in
    let l = room_length r c in
    let b = digit_small g.interrupt in
    (packed_number g.number g.length (digit g.interrupt) n, packed_length g.number g.length (digit g.interrupt) n l b, packed_flag g.number g.length (digit g.interrupt) n l b)
