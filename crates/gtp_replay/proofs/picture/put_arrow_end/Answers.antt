use Rattle.std.proofs.lemmas.Result.{on_ok_weaker}
use Rattle.gtp_lines.proofs.Appends.{twice}
use Rattle.gtp_replay.proofs.picture.put_arrow_end.Goals as goal

pub returns : goal.returns
returns c =
    let before = c.args.out.now.items in
    let one = twice before c.put.new.out.items c.put_word.new.out.items _ _ c.in_ok-put.ensures.ok c.in_ok-put_word.ensures.ok in
    let two = twice before c.put_word.new.out.items c.put-2.new.out.items _ _ one c.in_ok-put-2.ensures.ok in
    let three = twice before c.put-2.new.out.items c.put-3.new.out.items _ _ two c.in_ok-put-3.ensures.ok in
    record { ok = on_ok_weaker c.put-4.result (λ is. twice before c.put-3.new.out.items c.put-4.new.out.items _ _ three is) c.put-4.ensures.ok }
