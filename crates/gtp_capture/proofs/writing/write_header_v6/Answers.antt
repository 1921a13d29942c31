use Rattle.std.proofs.Common.{◌++◌, ap, ◌∙◌, arith}
use Rattle.std.proofs.lemmas.Result.{on_ok_weaker}
use Rattle.gtp_capture.specs.Writing.{sent_of, header_v6}
use Rattle.gtp_capture.specs.reading.Writing.{front_v6}
use Rattle.gtp_capture.proofs.Heads.{three}
use Rattle.gtp_capture.proofs.writing.write_header_v6.Goals as goal

pub returns : goal.returns
returns c =
    let d = sent_of c.args.sent.now in
    let from = c.args.from in
    let to = c.args.to in
    on_ok_weaker c.put-3.result
    (λ last. three c.args.out.now.items c.put.new.out.items c.put-2.new.out.items c.put-3.new.out.items c.front_of_v6.result from to
    (header_v6 d from to) c.in_ok-put.ensures c.in_ok-put-2.ensures last
    (ap (λ l. l ++ (from ++ to)) (c.front_of_v6.ensures ∙ ap front_v6 (omega (arith, c.requires)))))
    c.put-3.ensures
