-- The bits left, from where the machine is, stop where all of them do: in a byte from its own start, outside from the entry.
use Rattle.std.proofs.Common.{◌≡◌, ◌+◌, ◌-◌, ◌≤◌, get_or}
use Rattle.receiver.specs.Inner.{Good, state_of}
use Rattle.receiver.specs.declared.scanning.End.TheVariants as end
use Rattle.receiver.proofs.Machine.{Onward}
use Rattle.receiver.proofs.Scans.{AtByte}
use Rattle.receiver.proofs.scanning.scan.Given as goal

abbrev pub invariant-bits : goal.invariant-bits
invariant-bits l =
    Good l.c l.bytes × (l.end ≡ end.OutOfBits) × (l.skip ≤ l.place) × (l.used ≡ l.initial.used + (l.place - l.skip))
    × Onward (state_of l.initial.c l.initial.bytes) (get_or l.s l.byte-index 0) l.skip l.place (state_of l.c l.bytes)

abbrev pub invariant-bytes : goal.invariant-bytes
invariant-bytes l = AtByte l.fn.start l.fn.kept l.from l.s l.byte-index l.c l.bytes l.used l.end l.skip l.idle
