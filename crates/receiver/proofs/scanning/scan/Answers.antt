-- A turn over a bit goes on as the machine does, or stops where it does; a byte is taken bit by bit, or passed over.
use Rattle.std.proofs.Common.{◌≡◌, ℕ, ◌+◌, ◌-◌, ◌<◌, ◌%◌, ◌/◌, ◌^◌, refl, sym, ◌∙◌, arith, get_or}
use Rattle.receiver.specs.Inner.{state_of}
use Rattle.receiver.proofs.Machine.{onward_more}
use Rattle.receiver.proofs.Taken.{kept, good_after, state_after_lem, good_cleared, state_cleared, decides_not, decides_yes, decides_no, byte_fits, small, idle_state}
use Rattle.receiver.proofs.Scans.{is_some, at_passed, at_taken, at_stop, at_end}
use Rattle.receiver.proofs.scanning.scan.Goals as goal
use Rattle.receiver.proofs.scanning.scan.Goals.{then-c-eq6+else-choose-c, else-c-eq6, then-skip-eq0+then-is_idle, else-skip-eq0}

pub bytes-preserved-then-eq : goal.bytes-preserved-then-eq
bytes-preserved-then-eq c =
    at_passed c.bytes-test.true (is_some c.bytes.idle _ (sym c.eq.ensures ∙ c.if-eq.true)) c.bytes.invariant

pub overflow_add-bytes : goal.overflow_add-bytes
overflow_add-bytes c =
    let l = c.bits in
    let k = c.choose-v.ensures in
    record { fits = byte_fits l.bytes l.c.count c.choose-v.result (small (c.step-d.result.count - l.c.count) _ c.choose-v.result (omega arith) k.0 k.1) l.invariant.0.rest }

pub bits-preserved : goal.bits-preserved
bits-preserved c =
    let l = c.bits in
    let b : ℕ = get_or c.args.s.now c.bytes.byte-index 0 / 2 ^ l.place % 2 in
    let hb : b < 2 = omega arith in
    elim c.if-c-eq6.branch [
      | then-c-eq6+else-choose-c w ↦
          let k = w.choose.ensures in
          let d = decides_no l.c l.bytes b hb w.if-c-eq6.true w.choose.result k.0 k.1 w.if-choose-c.false in
          rw (w.c-is, w.bytes-is)
          (good_cleared b hb, l.invariant.1, omega (arith, l.auto.place), omega (arith, l.auto.place), onward_more (omega (arith, l.auto.place)) (omega arith) l.invariant.4 d (state_cleared l.c l.bytes b hb w.if-c-eq6.true))
      | else-c-eq6 w ↦
          let v = w.choose-v.ensures in
          let n = w.if-c-eq6.false in
          let k = kept l.c l.bytes b w.choose-v.result w.step-d.result hb l.invariant.0 w.step-d.ensures v.0 v.1 in
          let g = good_after l.c l.bytes b w.step-d.result _ hb n l.invariant.0 w.step-d.ensures k in
          let e = state_after_lem l.c l.bytes b w.step-d.result _ hb n l.invariant.0 w.step-d.ensures k in
          rw (w.c-is, w.bytes-is)
          (g, l.invariant.1, omega (arith, l.auto.place), omega (arith, l.auto.place), onward_more (omega (arith, l.auto.place)) (omega arith) l.invariant.4 (decides_not l.c l.bytes b hb n) e)
    ]

pub bytes-preserved : goal.bytes-preserved
bytes-preserved c =
    let l = c.bits in
    let m : l.place ≡ 8 = omega (arith, l.auto.place-end) in
    let u : l.used ≡ c.bytes.used + (8 - c.bytes.skip) = omega (arith, l.invariant.3, m) in
    elim c.if-skip-eq0.branch [
      | then-skip-eq0+then-is_idle w ↦
          let i = w.is_idle.ensures w.if-is_idle.true in
          let e : state_of c.bytes.c c.bytes.bytes ≡ state_of l.c l.bytes = idle_state c.bytes.bytes l.bytes refl refl i in
          rw (w.skip-is, w.idle-is)
          (at_taken c.bytes-test.true c.bytes.invariant l.invariant.0 l.invariant.1 (rw m at l.invariant.4) u (λ x q. (w.if-skip-eq0.true, cc, e)))
      | else-skip-eq0 w ↦
          rw (w.skip-is, w.idle-is)
          (at_taken c.bytes-test.true c.bytes.invariant l.invariant.0 l.invariant.1 (rw m at l.invariant.4) u (λ x q. cc))
    ]

pub returns-after-bytes : goal.returns-after-bytes
returns-after-bytes c = at_end (omega arith) c.bytes.invariant

pub returns-then-b-eq0 : goal.returns-then-b-eq0
returns-then-b-eq0 c =
    let l = c.bits in
    let k = c.choose.ensures in
    let d = decides_yes l.c l.bytes _ (omega arith) c.if-c-eq6.true c.choose.result k.0 k.1 c.if-choose-c.true in
    at_stop c.bytes-test.true c.bytes.invariant l.invariant.0 l.invariant.4 l.invariant.2 c.bits-test.true l.invariant.3 d (omega arith) (λ e. omega (arith, k.0, c.if-choose-c.true))

pub returns-else-b-eq0 : goal.returns-else-b-eq0
returns-else-b-eq0 c =
    let l = c.bits in
    let k = c.choose.ensures in
    let d = decides_yes l.c l.bytes _ (omega arith) c.if-c-eq6.true c.choose.result k.0 k.1 c.if-choose-c.true in
    at_stop c.bytes-test.true c.bytes.invariant l.invariant.0 l.invariant.4 l.invariant.2 c.bits-test.true l.invariant.3 d (omega arith) (λ e. cc)
