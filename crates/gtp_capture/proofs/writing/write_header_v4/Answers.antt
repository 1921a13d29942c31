use Rattle.std.proofs.Common.{◌++◌, ap, ◌∙◌, subst, arith}
use Rattle.std.proofs.lemmas.Result.{on_ok_weaker}
use Rattle.gtp_capture.specs.Writing.{sent_of, header_v4, IsChecksum}
use Rattle.gtp_capture.specs.reading.Writing.{front_v4}
use Rattle.gtp_capture.proofs.Heads.{three}
use Rattle.gtp_capture.proofs.writing.write_header_v4.Goals as goal

pub returns : goal.returns
returns c =
    let d = sent_of c.args.sent.now in
    let from = c.args.from in
    let to = c.args.to in
    let sum = c.checksum_v4-sum.result in
    let checks : IsChecksum (header_v4 0 d from to) sum = subst (λ n. IsChecksum (front_v4 0 n d.identification ++ (from ++ to)) sum) (omega (arith, c.requires)) c.checksum_v4-sum.ensures in
    on_ok_weaker c.put-3.result
    (λ last. (
      sum,
      checks,
      three c.args.out.now.items c.put.new.out.items c.put-2.new.out.items c.put-3.new.out.items c.front_of_v4.result from to (header_v4 sum d from to) c.in_ok-put.ensures c.in_ok-put-2.ensures last
          (ap (λ l. l ++ (from ++ to)) (c.front_of_v4.ensures ∙ ap (λ n. front_v4 sum n d.identification) (omega (arith, c.requires)))),
    ))
    c.put-3.ensures
