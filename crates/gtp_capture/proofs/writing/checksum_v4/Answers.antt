use Rattle.std.proofs.Common.{rules, ◌≡◌, ◌+◌, length, refl, ap, ◌∙◌}
use Rattle.gtp_capture.specs.reading.Writing.{front_v4, ones_onto}
use Rattle.gtp_capture.proofs.Sums.{three_sums}
use Rattle.gtp_capture.proofs.writing.checksum_v4.Goals as goal

pub returns : goal.returns
returns c =
    let from : length c.args.from ≡ 4 = search rules in
    let front = front_v4 0 c.args.size c.args.identification in
    let sums = three_sums 6 2 front c.args.from c.args.to c.sum_onto.result c.sum_onto-2.result c.sum_onto-3.result refl from c.sum_onto.ensures c.sum_onto-2.ensures
    (c.sum_onto-3.ensures ∙ ap (λ l. ones_onto l c.sum_onto-2.result) c.front_of_v4-front.ensures) in
    ap (λ n. c.complement.result + n) sums ∙ c.complement.ensures
