-- The parts of a frame, one after the other, make the frame.
use Rattle.std.proofs.Common.{◌≡◌, ◌-◌, refl, ap, rules, arith}
use Rattle.wire.specs.Fcs.{preset, check_of}
use Rattle.transmitter.proofs.Pens.{frame_size, frame_laid}
use Rattle.transmitter.proofs.framing.write_frame.Goals as goal

pub returns-clause-value : goal.returns-clause-value
returns-clause-value c =
    let e : preset - c.register-check.result ≡ check_of c.args.body.now = ap (λ x. preset - x) c.register-check.ensures in
    frame_size _ _ refl refl _ e c.put.ensures.1 c.put.ensures.0 c.stuff_bytes.ensures refl refl refl refl c.stuff_byte.ensures c.stuff_byte-2.ensures c.put-2.ensures.0
    c.fill.ensures.0 _ c.fill.ensures.1

pub returns-clause-output_after : goal.returns-clause-output_after
returns-clause-output_after c =
    let e : preset - c.register-check.result ≡ check_of c.args.body.now = ap (λ x. preset - x) c.register-check.ensures in
    frame_laid _ _ refl refl _ e c.put.ensures.1 c.put.ensures.0 c.stuff_bytes.ensures refl refl refl refl c.stuff_byte.ensures c.stuff_byte-2.ensures c.put-2.ensures.0
    c.fill.ensures.0 _ c.fill.ensures.1 c.requires.0 (search rules) (λ i. omega (arith, c.type_inv.output i))
