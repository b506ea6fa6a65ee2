-- The receiver a bit at a time: what its struct stands for, the step, and the reading up to the first answer.
-- `Wire` of the crate promises says the same in the standard's words, as laws.
use Rattle.std.specs.Prelude.{Bool, cond, ◌&&◌, List, [], ◌∷◌, ◌++◌, ℕ, ◌+◌, ◌-◌, min, eqb, ltb, leb, length, take, drop, replicate}
use Rattle.wire.specs.Bits.{wire, num, pack}
use Rattle.receiver.specs.declared.Receiver.{Receiver}

-- mode: 0 hunting for a flag, 1 in a frame.
-- ones: the ones since the last zero; 7 where they can begin no flag: after an abort, and at the start.
-- lead: 1 where the zero in front of those ones is content, 0 where it is a flag's or a stuffed one.
-- content: the frame's bits since its flag, stuffed zeros and the sixth one of a run left out; what is past 152 bits is not kept.
pub record State : Type 0 where
  pub mode : ℕ
  pub ones : ℕ
  pub lead : ℕ
  pub content : List ℕ

-- at the start, and after an abort
abbrev pub hunting : State
hunting = record { mode = 0; ones = 7; lead = 0; content = [] }

-- just after a flag: its closing zero may be the next flag's first
abbrev pub opened : State
opened = record { mode = 1; ones = 0; lead = 0; content = [] }

-- one bit of content more, in a frame that has room
abbrev pub push : ℕ → List ℕ → ℕ → List ℕ
push mode content b = cond (eqb mode 1 && ltb (length content) 152) (content ++ (b ∷ [])) content

-- a one is content up to the fifth of a run; the sixth may be a flag's, and the seventh aborts
abbrev pub after_one : State → State
after_one s =
    cond (ltb s.ones 5)
    (record { mode = s.mode; ones = s.ones + 1; lead = s.lead; content = push s.mode s.content 1 })
    (cond (eqb s.ones 5) (record { mode = s.mode; ones = 6; lead = s.lead; content = s.content }) hunting)

-- a zero is content after fewer than five ones; after five the sender inserted it; after six it ends a flag
abbrev pub after_zero : State → State
after_zero s =
    cond (ltb s.ones 5)
    (record { mode = s.mode; ones = 0; lead = s.mode; content = push s.mode s.content 0 })
    (cond (eqb s.ones 6) opened (record { mode = s.mode; ones = 0; lead = 0; content = s.content }))

abbrev pub next : State → ℕ → State
next s b = cond (eqb b 0) (after_zero s) (after_one s)

-- how much content a flag (its last bit is 0) or an abort (1) ends: the five ones of the run are not content, nor is a flag's zero
abbrev pub ended : State → ℕ → ℕ
ended s b = length s.content - (5 + cond (eqb b 0) s.lead 0)

-- a flag or a seventh one that ends at least 32 bits of content
abbrev pub decides : State → ℕ → Bool
decides s b = eqb s.ones 6 && leb 32 (ended s b)

-- where a reading stops: the state before the deciding bit, or after the last; the bits taken, the deciding one too; and
-- hit: 0 where the bits ran out, 1 at a flag, 2 at a seventh one
pub record Stop : Type 0 where
  pub state : State
  pub used : ℕ
  pub hit : ℕ

-- the bits are taken up to the first that decides; n were taken before
unfoldable pub runs : State → ℕ → List ℕ → Stop
runs s n [] = record { state = s; used = n; hit = 0 }
runs s n (b ∷ bs) = cond (decides s b) (record { state = s; used = n + 1; hit = b + 1 }) (runs (next s b) (n + 1) bs)

-- what a struct stands for: its content is the first count bits of its bytes
abbrev pub view : Receiver → State
view r = record { mode = r.mode; ones = r.ones; lead = r.lead; content = take r.count (wire r.bytes) }

-- the struct that stands for a state: the bits after the content are 0
abbrev pub image : State → Receiver
image s =
    record {
      mode = s.mode;
      ones = s.ones;
      lead = s.lead;
      count = length s.content;
      bytes = pack (s.content ++ replicate (160 - length s.content) 0);
    }

-- the ranges of the fields (docs/RECEIVER.md): a hunting receiver has no content; in a frame the run's ones, and the zero in front of
-- them, are among the content
unfoldable pub fields_fit : ℕ → ℕ → ℕ → ℕ → Bool
fields_fit mode ones lead count =
    leb mode 1 && leb ones 7 && leb lead 1 && leb count 152
    && cond (eqb mode 0) (eqb count 0 && eqb lead 0) (leb ones 6 && leb (lead + min ones 5) count)

-- the fields fit, and no bit after the content is set
unfoldable pub in_range : Receiver → Bool
in_range r = fields_fit r.mode r.ones r.lead r.count && eqb (num (drop r.count (wire r.bytes))) 0
