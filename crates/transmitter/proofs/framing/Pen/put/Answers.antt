-- Some bits are put by the law `put_inked`.
use Rattle.std.proofs.Common.{refl, arith}
use Rattle.transmitter.proofs.Written.{put_inked}
use Rattle.transmitter.proofs.framing.Pen.put.Goals as goal

pub invariant_of-self-clause-in_byte : goal.invariant_of-self-clause-in_byte
invariant_of-self-clause-in_byte c =
    let p = c.args.self.now in
    let r = c.requires in
    (put_inked p.output.now p.bits p.held c.args.v c.args.count (omega (arith, p.room, r.0)) p.in_byte r.1 r.2 r.3).held

pub returns : goal.returns
returns c =
    let p = c.args.self.now in
    let r = c.requires in
    (record { raw = put_inked p.output.now p.bits p.held c.args.v c.args.count (omega (arith, p.room, r.0)) p.in_byte r.1 r.2 r.3; same = refl }, refl)
