use Rattle.std.proofs.lemmas.Result.{on_ok_weaker}
use Rattle.gtp_lines.proofs.Appends.{twice}
use Rattle.gtp_replay.proofs.picture.put_opening.Goals as goal

pub returns : goal.returns
returns c =
    let before = c.args.out.now.items in
    let one = twice before c.put.new.out.items c.put_number.new.out.items _ _ c.in_ok-put.ensures.ok c.in_ok-put_number.ensures.ok in
    record { ok = on_ok_weaker c.put-2.result (λ is. twice before c.put_number.new.out.items c.put-2.new.out.items _ _ one is) c.put-2.ensures.ok }
