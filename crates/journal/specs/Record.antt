-- The record of an event, and what a step back makes of it. The ring knows no more of a record than these names and their law: a step
-- back from the state after an event, by the event's record, is the state before it. States are bytes here, as the caller lends them.
use Rattle.std.specs.Prelude.{ℕ, ◌+◌, Bool, ◌&&◌, Option, None, Some, List, [], ◌∷◌, ◌++◌, leb, get_or, take}
use Rattle.bits.specs.Table.{Row, row, look}
use Rattle.parts.specs.Parts.{part, put}
use Rattle.commands.specs.declared.command.Control.{Control}
use Rattle.commands.specs.declared.command.Control.TheVariants.{B, C, D}
use Rattle.channels.specs.Groups.{core_size, span_of}
use Rattle.state.specs.Bytes.{link_bytes, is_state}
use Rattle.chip.specs.Event.{Event}
use Rattle.chip.specs.Group.{group_of}

-- ---- the parts of a state

-- link, CRB, CRC, CRD, SEU counter and DAC: the core but for the ID
abbrev pub core_bytes : ℕ
core_bytes = link_bytes + core_size

-- a group's bytes: so many, from a place on
abbrev pub start_of : Option Control → ℕ
start_of g = link_bytes + (span_of g).first

abbrev pub many_of : Option Control → ℕ
many_of g = (span_of g).many

-- ---- the tags

abbrev pub tag_of : Option Control → ℕ
tag_of None = 0
tag_of (Some B) = 1
tag_of (Some C) = 2
tag_of (Some D) = 3

abbrev pub last_tag : ℕ
last_tag = 3

abbrev pub tagged : List (Row (Option Control))
tagged = row 1 (Some B) ∷ row 2 (Some C) ∷ row 3 (Some D) ∷ []

unfoldable pub group_in : ℕ → Option Control
group_in tag = look tagged None tag

-- ---- the record

-- a tag, the core of a state, and so many of its bytes from a place on
unfoldable pub record_of : ℕ → ℕ → ℕ → List ℕ → List ℕ
record_of tag first many s = tag ∷ (take core_bytes s ++ part first many s)

-- what is kept of a state for a group: its tag, the core, the group's bytes
abbrev pub kept_for : Option Control → List ℕ → List ℕ
kept_for g s = record_of (tag_of g) (start_of g) (many_of g) s

-- what is kept of an event that happens to a state: for the one group that the event may change
unfoldable pub before : List ℕ → Event → List ℕ
before s e = kept_for (group_of e) s

-- what a step back makes of the state handed in and a record: core and group are the record's, all else stays
unfoldable pub restored : List ℕ → List ℕ → List ℕ
restored s r =
    let g = group_in (get_or r 0 0) in
    put (start_of g) (part (1 + core_bytes) (many_of g) r) (put 0 (part 1 core_bytes r) s)

-- A record is damaged, and a step back refused, where no group has its tag, or what it restores is no state: a bit set that no field has, or
-- out of range.
unfoldable pub sound : List ℕ → List ℕ → Bool
sound s r = leb (get_or r 0 0) last_tag && is_state (restored s r)
