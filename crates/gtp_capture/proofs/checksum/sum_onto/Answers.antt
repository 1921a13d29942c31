use Rattle.std.proofs.Common.{◌≡◌, ◌-◌, ◌*◌, length, take, drop, ap, ◌∙◌, take_all, length-drop, arith}
use Rattle.gtp_capture.specs.Writing.{ones_plus}
use Rattle.gtp_capture.specs.reading.Writing.{first_number}
use Rattle.gtp_capture.proofs.Sums.{sum_of_more}
use Rattle.gtp_capture.proofs.checksum.sum_onto.Goals as goal

pub loop-left-preserved : goal.loop-left-preserved
loop-left-preserved c =
    let octets = c.args.octets.now in
    let left = c.loop-left.left in
    let at = left - 1 in
    let all : take (length octets - 2 * at) (drop (2 * at) octets) ≡ drop (2 * at) octets = take_all (length octets - 2 * at) (drop (2 * at) octets) (omega (arith, length-drop (2 * at) octets)) in
    record {
      within = omega (arith, c.loop-left.invariant.within);
      same = c.plus-sum.ensures ∙ ap (λ n. ones_plus n c.loop-left.sum) (c.number_in.ensures ∙ ap first_number all)
          ∙ sum_of_more octets c.args.further at left c.loop-left.sum (omega (arith, c.loop-left-test.true)) c.loop-left.invariant.within c.loop-left.invariant.same;
    }
