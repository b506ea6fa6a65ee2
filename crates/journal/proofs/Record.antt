-- THE LAW of the record, by which alone, and by its length, the theorems about runs know it: a step back from the state after an event, by the
-- event's record, is the state before it; and the record is sound there and fits its slot. What stands behind a record in its slot is not
-- read. Assumes nothing.
use Prim.Native.Nat.{ℕ, suc, ◌+◌, ◌-◌, ◌≤◌, ◌<◌}
use mathlib.Core.Path.{◌≡◌, refl, sym, ap, ap₂, subst, ◌∙◌}
use mathlib.Core.Bool.{Bool, true, false, cond}
use mathlib.Core.List.{List, [], ◌∷◌, ◌++◌, append_assoc}
use mathlib.Core.Logic.{inl, inr}
use native.Mathlib.Omega.{arith}
use borrow.Author.Tests.{le-leb, lt-leb}
use lib.Dec.{leb, lit≤}
use lib.ListN.{length, take, drop, get_or, set, length-append, length-take, take-append-drop}
use lib.Seq.{take-add, take_at, drop_at, drop-append-add, length-take-le}
use borrow.Rule.Slice.PartMut.{put_mid}
use Rattle.parts.specs.Parts.{part, put}
use Rattle.parts.proofs.Laws.{Apart, length_part, length_put, part_put_before, part_put_after, part_put_apart, part_put_same, put_put, put_mid_lem}
use Rattle.commands.specs.declared.command.Control.TheVariants.{B, C, D}
use Rattle.std.specs.Prelude.{Option, None, Some}
use Rattle.commands.specs.declared.command.Control.{Control}
use Rattle.channels.specs.Groups.{span_of}
use Rattle.channels.proofs.Laws.{SameOutside}
use Rattle.state.specs.State.{Adapter}
use Rattle.state.specs.Bytes.{link_bytes, state_size, link_image, state_bytes, is_state}
use Rattle.state.proofs.Good.{Good}
use Rattle.state.proofs.Spelling.{length_state, state_bytes_lem}
use Rattle.chip.specs.Event.{Event}
use Rattle.chip.specs.Chip.{reaction, accepted_reset}
use Rattle.chip.specs.Group.{group_of}
use Rattle.chip.proofs.EventFits.{EventFits}
use Rattle.chip.proofs.Laws.{outside, good_stays}
use Rattle.journal.specs.Layout.{slots_of, first_of, kept_of, well_formed, place_of, past, first_after, kept_up, pushed}
use Rattle.journal.specs.Record.{core_bytes, start_of, many_of, tag_of, last_tag, group_in, record_of, kept_for, before, restored, sound}
use Rattle.journal.specs.Inner.{record_most}
use Rattle.journal.proofs.Pieces.{joined, front_written, over_pieces}
use Rattle.journal.proofs.Ring.{newest_slot, stands_in}

-- ---- so many bytes of a state from a place on: behind the core, inside, and not more than a record has room for

pub record Fits (first many : ℕ) : Type 0 where
  pub behind : core_bytes ≤ first
  pub inside : first + many ≤ state_size
  pub short : 1 + core_bytes + many ≤ record_most

-- a group's are
fits : (g : Option Control) → Fits (start_of g) (many_of g)
fits None = record { behind = lit≤ tt; inside = lit≤ tt; short = lit≤ tt }
fits (Some B) = record { behind = lit≤ tt; inside = lit≤ tt; short = lit≤ tt }
fits (Some C) = record { behind = lit≤ tt; inside = lit≤ tt; short = lit≤ tt }
fits (Some D) = record { behind = lit≤ tt; inside = lit≤ tt; short = lit≤ tt }

-- ---- the tags

group_back : (g : Option Control) → group_in (tag_of g) ≡ g
unfolding group_in
group_back None = refl
group_back (Some B) = refl
group_back (Some C) = refl
group_back (Some D) = refl

tag_known : (g : Option Control) → leb (tag_of g) last_tag ≡ true
tag_known None = refl
tag_known (Some B) = refl
tag_known (Some C) = refl
tag_known (Some D) = refl

-- ---- what a record keeps of a state, put back over another that is the same outside

first_of_lem : (c g rest : List ℕ) (n : ℕ) → length c ≡ n → take n ((c ++ g) ++ rest) ≡ c
first_of_lem c g rest n l = rw (append_assoc c g rest) (take_at c (g ++ rest) n l)

second_of : (c g rest : List ℕ) (n m : ℕ) → length c ≡ n → length g ≡ m → take m (drop n ((c ++ g) ++ rest)) ≡ g
second_of c g rest n m l k = rw (append_assoc c g rest) (ap (take m) (drop_at c (g ++ rest) n l) ∙ take_at g rest m k)

module _ (first many : ℕ) (f : Fits first many) where
  -- every byte behind the core, the ID first, that is not one of these
  abbrev Agree : List ℕ → List ℕ → Type 0
  Agree t s = (p m : ℕ) → core_bytes ≤ p → Apart p m first many → part p m t ≡ part p m s

  put_back : (s t : List ℕ) → length s ≡ state_size → length t ≡ state_size → Agree t s
      → put first (part first many s) (put 0 (part 0 core_bytes s) t) ≡ s
  put_back s t n k a =
      let l = f.behind in
      let i = f.inside in
      let x = first - core_bytes in
      let y = state_size - (first + many) in
      let e : core_bytes + x ≡ first = omega arith in
      subst (λ (p : ℕ). put p (part p many s) (put 0 (part 0 core_bytes s) t) ≡ s) e
      (over_pieces core_bytes x many y s t (omega arith) (omega arith) (a core_bytes x (omega arith) (inl (omega arith)))
      (a (core_bytes + x + many) y (omega arith) (inr (omega arith))))

  module _ (s : List ℕ) (n : length s ≡ state_size) where
    abbrev core : List ℕ
    core = part 0 core_bytes s

    abbrev group : List ℕ
    group = part first many s

    core_long : length core ≡ core_bytes
    core_long = length_part 0 core_bytes s (omega arith)

    group_long : length group ≡ many
    group_long = length_part first many s (let i = f.inside in omega arith)

    -- a record is read, whatever stands behind it
    module _ (tag : ℕ) (r rest : List ℕ) (e : r ≡ record_of tag first many s ++ rest) where
      its_tag : get_or r 0 0 ≡ tag
      unfolding record_of
      its_tag = rw e refl

      its_core : part 1 core_bytes r ≡ core
      unfolding record_of part
      its_core = rw e (first_of_lem core _ rest core_bytes core_long)

      its_group : part (1 + core_bytes) many r ≡ group
      unfolding record_of part
      its_group = rw e (second_of core group rest core_bytes many core_long group_long)

-- a group's record is read back, whatever stands behind it
kept_restores : (g : Option Control) (tag : ℕ) → group_in tag ≡ g → (s rest t : List ℕ) → length s ≡ state_size → length t ≡ state_size
    → Agree (start_of g) (many_of g) (fits g) t s → restored t (record_of tag (start_of g) (many_of g) s ++ rest) ≡ s
unfolding restored
kept_restores g tag e s rest t n k a =
    let f = fits g in
    let r = record_of tag (start_of g) (many_of g) s ++ rest in
    rw (
      its_tag (start_of g) (many_of g) f s n tag r rest refl,
      e,
      its_core (start_of g) (many_of g) f s n tag r rest refl,
      its_group (start_of g) (many_of g) f s n tag r rest refl,
    ) (put_back (start_of g) (many_of g) f s t n k a)

-- ---- A STEP BACK FROM WHAT AN EVENT LEFT, by the event's record, IS THE STATE THAT IT HAPPENED TO, and the record is sound there

few : (n : ℕ) (l : List ℕ) → length (take n l) ≤ n
few n l = rw (length-take n l) (omega arith)

length_record : (tag first many : ℕ) (s : List ℕ) → length (record_of tag first many s) ≤ 1 + core_bytes + many
unfolding record_of part
length_record tag first many s =
    let c = few core_bytes s in
    let m = few many (drop first s) in
    let l = length-append (take core_bytes s) (take many (drop first s)) in
    omega arith

pub length_before : (s : List ℕ) (e : Event) → length (before s e) ≤ 256
unfolding before
length_before s e =
    let g = group_of e in
    let i = (fits g).short in
    let l = length_record (tag_of g) (start_of g) (many_of g) s in
    omega arith

behind_link : (l : List ℕ) (rs : List ℕ) (p m : ℕ) → length l ≡ link_bytes → core_bytes ≤ p → part p m (l ++ rs) ≡ part (p - link_bytes) m rs
unfolding part
behind_link l rs p m n h =
    let e : p ≡ length l + (p - link_bytes) = omega arith in
    ap (λ (k : ℕ). take m (drop k (l ++ rs))) e ∙ ap (take m) (drop-append-add l rs (p - link_bytes))

agrees : (a b : Adapter) (g : Option Control) → SameOutside g b.registers a.registers → Agree (start_of g) (many_of g) (fits g) (state_bytes b) (state_bytes a)
unfolding state_bytes
agrees a b g u p m l o =
    behind_link (link_image b.link) b.registers p m refl l ∙ u (p - link_bytes) m (omega arith) (lower o)
    ∙ sym (behind_link (link_image a.link) a.registers p m refl l)
  where
    lower : Apart p m (start_of g) (many_of g) → Apart (p - link_bytes) m (span_of g).first (span_of g).many
    lower (inl h) = inl (omega arith)
    lower (inr h) = inr (omega arith)

module _ (a : Adapter) (e : Event) (rest : List ℕ) (g : Good a) (typed : EventFits e) (kept : accepted_reset e ≡ false) where
  pub taken_back : restored (state_bytes (reaction a e).adapter) (before (state_bytes a) e ++ rest) ≡ state_bytes a
  unfolding before
  taken_back =
      let n = g.registers.fits.long in
      let m = (good_stays a e g typed).registers.fits.long in
      kept_restores (group_of e) (tag_of (group_of e)) (group_back (group_of e)) (state_bytes a) rest (state_bytes (reaction a e).adapter) (length_state a n)
      (length_state (reaction a e).adapter m)
      (agrees a (reaction a e).adapter (group_of e) (outside a n e kept))

  known : (get_or (before (state_bytes a) e ++ rest) 0 0) ≡ tag_of (group_of e)
  unfolding before record_of
  known = refl

  pub sound_back : sound (state_bytes (reaction a e).adapter) (before (state_bytes a) e ++ rest) ≡ true
  unfolding sound
  sound_back = rw (taken_back, known, tag_known (group_of e)) (state_bytes_lem a g)

-- ---- what the code makes and puts back

-- a part as it is lent
pub lent_part : (first many : ℕ) (s : List ℕ) → take (first + many - first) (drop first s) ≡ part first many s
unfolding part
lent_part first many s = let m : first + many - first ≡ many = omega arith in rw m refl

pub makes : (s c r r₁ r₂ r₃ : List ℕ) (tag first many : ℕ) → length s ≡ state_size → record_most ≤ length r → c ≡ part 0 core_bytes s
    → r₁ ≡ put 0 (tag ∷ []) r → r₂ ≡ put 1 c r₁ → r₃ ≡ put (1 + core_bytes) (take (first + many - first) (drop first s)) r₂
    → r₃ ≡ put 0 (record_of tag first many s) r
unfolding record_of part
makes s c r r₁ r₂ r₃ tag first many n l g e f h =
    let d = length-take-le core_bytes s (omega arith) in
    let p : 1 + core_bytes ≡ 0 + suc (length (take core_bytes s)) = omega arith in
    rw (h, f, e, g, lent_part first many s, put_put 0 (tag ∷ []) (take core_bytes s) r 1 refl (omega arith))
    (put_put 0 (tag ∷ take core_bytes s) (take many (drop first s)) r (1 + core_bytes) p (omega arith))

-- ---- a record exchanged with what it stands for

own_first : (r : List ℕ) → 0 < length r → r ≡ put 0 (get_or r 0 0 ∷ []) r
unfolding put
own_first [] h = absurd (omega arith)
own_first (x ∷ r) h = refl

module _ (r s : List ℕ) (first many : ℕ) (l : record_most ≤ length r) (n : length s ≡ state_size)
    (f : (core_bytes ≤ first) × (first + many ≤ state_size) × (1 + core_bytes + many ≤ record_most)) (x y u v : List ℕ) (e : x ≡ part 0 core_bytes s)
    (g : y ≡ part 1 core_bytes r) (h : u ≡ put 1 x r) (k : v ≡ put 0 y s) where
  core_left : length x ≡ core_bytes
  core_left = ap length e ∙ length_part 0 core_bytes s (omega arith)

  core_taken : length y ≡ core_bytes
  core_taken = ap length g ∙ length_part 1 core_bytes r (omega arith)

  module _ (z w : List ℕ) (i : z ≡ take (first + many - first) (drop first v))
      (j : w ≡ take (1 + core_bytes + many - (1 + core_bytes)) (drop (1 + core_bytes) u)) where
    group_left : z ≡ part first many s
    group_left =
        let b = f.0 in
        let c = core_taken in
        i ∙ lent_part first many v ∙ ap (part first many) k ∙ part_put_after 0 y s first many (omega arith) (omega arith)

    group_taken : w ≡ part (1 + core_bytes) many r
    group_taken =
        let c = core_left in
        j ∙ lent_part (1 + core_bytes) many u ∙ ap (part (1 + core_bytes) many) h
        ∙ part_put_after 1 x r (1 + core_bytes) many (omega arith) (omega arith)

    pub state_exchanged : put_mid first (first + many - first) v w ≡ put first (part (1 + core_bytes) many r) (put 0 (part 1 core_bytes r) s)
    state_exchanged =
        let b = f.2 in
        let q : length w ≡ many = ap length group_taken ∙ length_part (1 + core_bytes) many r (omega arith) in
        put_mid_lem first many v w q ∙ rw (group_taken, k, g) refl

    pub record_exchanged : put_mid (1 + core_bytes) (1 + core_bytes + many - (1 + core_bytes)) u z ≡ put 0 (record_of (get_or r 0 0) first many s) r
    record_exchanged =
        let b = f.1 in
        let q : length z ≡ many = ap length group_left ∙ length_part first many s (omega arith) in
        put_mid_lem (1 + core_bytes) many u z q
        ∙ makes s x r r u _ (get_or r 0 0) first many n l e (own_first r (omega arith)) h
        (ap (λ (t : List ℕ). put (1 + core_bytes) t u) (group_left ∙ sym (lent_part first many s)))

-- a list's first number, and so many behind it
first_and : (n : ℕ) (r : List ℕ) → 0 < length r → get_or r 0 0 ∷ part 1 n r ≡ take (1 + n) r
unfolding part
first_and n [] h = absurd (omega arith)
first_and n (x ∷ r) h = sym (take-add 1 n (x ∷ r))

front_part : (s : List ℕ) → take core_bytes s ≡ part 0 core_bytes s
unfolding part
front_part s = refl

sum_assoc : (n : ℕ) → 1 + core_bytes + n ≡ 1 + (core_bytes + n)
sum_assoc n = omega arith

record_long : (tag first many : ℕ) (s : List ℕ) → length s ≡ state_size → first + many ≤ state_size → length (record_of tag first many s) ≡ 1 + core_bytes + many
unfolding record_of
record_long tag first many s n h =
    let c = length-take-le core_bytes s (omega arith) in
    let g = length_part first many s (omega arith) in
    let l = length-append (take core_bytes s) (part first many s) in
    omega arith

-- ---- a record that is tried: what it restores stands, or is taken back

module _ (s r : List ℕ) (n : length s ≡ state_size) (l : record_most ≤ length r) where
  abbrev its : Option Control
  its = group_in (get_or r 0 0)

  core_room : 0 + length (part 1 core_bytes r) ≤ length s
  core_room = let k = length_part 1 core_bytes r (omega arith) in omega arith

  group_kept : length (part (1 + core_bytes) (many_of its) r) ≡ many_of its
  group_kept = let h = (fits its).short in length_part (1 + core_bytes) (many_of its) r (omega arith)

  abbrev cored : List ℕ
  cored = put 0 (part 1 core_bytes r) s

  group_room : start_of its + length (part (1 + core_bytes) (many_of its) r) ≤ length cored
  group_room = let k = group_kept in let h = (fits its).inside in let m = length_put 0 (part 1 core_bytes r) s core_room in omega arith

  length_restored : length (restored s r) ≡ state_size
  unfolding restored
  length_restored = length_put (start_of its) _ cored group_room ∙ length_put 0 (part 1 core_bytes r) s core_room ∙ n

  -- WHATEVER STATE AND RECORD ARE, what is restored is the state but for the core and the record's group: the ID stays too
  pub restored_elsewhere : (p m : ℕ) → core_bytes ≤ p → Apart p m (start_of its) (many_of its) → part p m (restored s r) ≡ part p m s
  unfolding restored
  restored_elsewhere p m h a =
      let k = length_part 1 core_bytes r (omega arith) in
      part_put_apart (start_of its) _ cored p m group_room (subst (λ (w : ℕ). Apart p m (start_of its) w) (sym group_kept) a)
      ∙ part_put_after 0 (part 1 core_bytes r) s p m core_room (omega arith)

  -- bytes 16 to 19, in front of every group
  pub id_restored : part 16 4 (restored s r) ≡ part 16 4 s
  id_restored = restored_elsewhere 16 4 (lit≤ tt) (inl (by its))
    where
      by : (g : Option Control) → 16 + 4 ≤ start_of g
      by None = lit≤ tt
      by (Some B) = lit≤ tt
      by (Some C) = lit≤ tt
      by (Some D) = lit≤ tt

  pub unknown_tag : 3 < get_or r 0 0 → false ≡ sound s r
  unfolding sound
  unknown_tag h = simp (lt-leb (get_or r 0 0) 3 h)

  module _ (t : List ℕ) (e : t ≡ restored s r) where
    pub judged : (b x : Bool) → get_or r 0 0 ≤ 3 → b ≡ is_state t → b ≡ x → x ≡ sound s r
    unfolding sound
    judged b x k f h = sym h ∙ simp (le-leb (get_or r 0 0) 3 k, f, e)

    -- what the record went over stands in its place: exchanged again, the state is as it was
    pub undone : (first many : ℕ) (was u : List ℕ) → first ≡ start_of its → many ≡ many_of its → was ≡ put 0 (record_of (get_or r 0 0) first many s) r
        → u ≡ put first (part (1 + core_bytes) many was) (put 0 (part 1 core_bytes was) t) → u ≡ s
    unfolding put
    undone first many was u f m w v =
        let f' = fits its in
        let kept : List ℕ = record_of (get_or r 0 0) (start_of its) (many_of its) s in
        let w' : was ≡ kept ++ drop (0 + length kept) r = w ∙ rw (f, m) refl in
        v
        ∙ rw (
          f,
          m,
          its_core (start_of its) (many_of its) f' s n (get_or r 0 0) was _ w',
          its_group (start_of its) (many_of its) f' s n (get_or r 0 0) was _ w',
        ) (put_back (start_of its) (many_of its) f' s t n (ap length e ∙ length_restored)
        (subst (λ (l : List ℕ). Agree (start_of its) (many_of its) f' l s) (sym e) restored_elsewhere))

    -- and of the state that it made, the record is made again
    core_there : part 0 core_bytes t ≡ part 1 core_bytes r
    unfolding restored
    core_there =
        let k = length_part 1 core_bytes r (omega arith) in
        let b = (fits its).behind in
        ap (part 0 core_bytes) e
        ∙ part_put_before (start_of its) _ cored 0 core_bytes group_room b
        ∙ ap (λ (w : ℕ). part 0 w cored) (sym k)
        ∙ part_put_same 0 (part 1 core_bytes r) s (omega arith)

    group_there : part (start_of its) (many_of its) t ≡ part (1 + core_bytes) (many_of its) r
    unfolding restored
    group_there =
        let k = group_kept in
        let h = group_room in
        ap (part (start_of its) (many_of its)) e
        ∙ ap (λ (w : ℕ). part (start_of its) w (put (start_of its) (part (1 + core_bytes) (many_of its) r) cored)) (sym k)
        ∙ part_put_same (start_of its) (part (1 + core_bytes) (many_of its) r) cored (omega arith)

    again : record_of (get_or r 0 0) (start_of its) (many_of its) t ≡ take (1 + core_bytes + many_of its) r
    unfolding record_of
    again =
        ap (λ (l : List ℕ). get_or r 0 0 ∷ l) (ap₂ (λ (a b : List ℕ). a ++ b) (front_part t ∙ core_there) group_there ∙ joined r 1 core_bytes (many_of its))
        ∙ first_and (core_bytes + many_of its) r (omega arith)
        ∙ ap (λ (k : ℕ). take k r) (sym (sum_assoc (many_of its)))

    pub remade : (first many : ℕ) (was u : List ℕ) → first ≡ start_of its → many ≡ many_of its → was ≡ put 0 (record_of (get_or r 0 0) first many s) r
        → u ≡ put 0 (record_of (get_or r 0 0) first many t) was → u ≡ r
    unfolding put
    remade first many was u f m w v =
        let h = (fits its).short in
        let i = (fits its).inside in
        let x : ℕ = 1 + core_bytes + many_of its in
        let a : length (record_of (get_or r 0 0) (start_of its) (many_of its) s) ≡ x = record_long (get_or r 0 0) (start_of its) (many_of its) s n i in
        let b : length (take x r) ≡ x = length-take-le x r (omega arith) in
        let z : 0 + x ≡ x = omega arith in
        let d : drop x was ≡ drop x r = ap (drop x) w ∙ rw (f, m, a, z) (drop_at (record_of (get_or r 0 0) (start_of its) (many_of its) s) (drop x r) x a) in
        v ∙ rw (f, m, again, b, z) (ap (λ (l : List ℕ). take x r ++ l) d ∙ take-append-drop x r)

    same_tag : (first many : ℕ) (was : List ℕ) → was ≡ put 0 (record_of (get_or r 0 0) first many s) r → get_or was 0 0 ≡ get_or r 0 0
    unfolding put record_of
    same_tag first many was w = rw w refl

    pub remade_too : (first many : ℕ) (was u : List ℕ) → first ≡ start_of its → many ≡ many_of its → was ≡ put 0 (record_of (get_or r 0 0) first many s) r
        → u ≡ put 0 (record_of (get_or was 0 0) first many t) was → u ≡ r
    remade_too first many was u f m w v =
        remade first many was u f m w (v ∙ ap (λ (tag : ℕ). put 0 (record_of tag first many t) was) (same_tag first many was w))

  pub tried : (first many : ℕ) (t : List ℕ) → first ≡ start_of its → many ≡ many_of its
      → t ≡ put first (part (1 + core_bytes) many r) (put 0 (part 1 core_bytes r) s) → t ≡ restored s r
  unfolding restored
  tried first many t f m h = rw (h, f, m) refl

-- ---- what the journal keeps, and tries

pub keeps_record : (g : Option Control) (tag first many slots start held at next kept : ℕ) (s j x : List ℕ) → well_formed j ≡ true → length s ≡ state_size
    → tag ≡ tag_of g → first ≡ start_of (group_in tag) → many ≡ many_of (group_in tag) → first + many ≤ state_size → 1 + core_bytes + many ≤ record_most
    → slots ≡ slots_of j → start ≡ first_of j → held ≡ kept_of j → at ≡ place_of slots start held → next ≡ first_after slots start held
    → kept ≡ kept_up slots held → x ≡ put 0 (record_of tag first many s) (take (at + record_most - at) (drop at j))
    → set (set (put_mid at (at + record_most - at) j x) 5 next) 6 kept ≡ pushed (kept_for g s) j
unfolding pushed
keeps_record g tag first many slots start held at next kept s j x w n e f m i b c d h q u v p =
    let l = record_long tag first many s n i in
    let r = stands_in j (kept_of j) w in
    let z : at ≡ place_of (slots_of j) (first_of j) (kept_of j) = rw (c, d, h) at q in
    let y : record_of tag first many s ≡ kept_for g s = rw (f, m, e, group_back g) refl in
    let o : put_mid at (at + record_most - at) j x ≡ put at (record_of tag first many s) j =
    front_written at record_most j (record_of tag first many s) x (omega arith) (omega arith) p in
    rw (o, y, z, u, v, c, d, h) refl

-- the newest, in its slot
module _ (j : List ℕ) (at : ℕ) (h : well_formed j ≡ true) (e : at ≡ place_of (slots_of j) (first_of j) (kept_of j - 1)) (r : List ℕ)
    (f : r ≡ take (at + 256 - at) (drop at j)) (s : List ℕ) (x : Bool) where
  in_its_slot : r ≡ past j 0
  in_its_slot = f ∙ newest_slot j at h e

  pub newest_judged : x ≡ sound s r → x ≡ sound s (past j 0)
  newest_judged g = g ∙ ap (sound s) in_its_slot

  pub newest_tried : (t : List ℕ) → t ≡ cond x (restored s r) s → t ≡ cond x (restored s (past j 0)) s
  newest_tried t g = g ∙ ap (λ (u : List ℕ). cond x u s) (ap (restored s) in_its_slot)
