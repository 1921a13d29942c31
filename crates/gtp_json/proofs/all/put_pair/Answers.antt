use Rattle.std.proofs.Common.{◌++◌, refl, codes}
use Rattle.gtp_json.specs.Control.{second_member}
use Rattle.gtp_json.proofs.Tokens.{twice, nested}
use Rattle.gtp_json.proofs.all.put_pair.Goals as goal

pub returns : goal.returns
returns c =
    let first = c.in_ok-put_message.ensures.ok in
    let second = c.in_ok-put_second.ensures.ok in
    record {
      ok = (
        first.0 ++ second_member second.0,
        (first.0, second.0, first.1, second.1, refl),
        twice c.args.out.now c.put_message.new.out c.end_object.new.self first.0 (second_member second.0) first.2
            (nested (codes "second") second.0 c.put_message.new.out c.key.new.self c.begin_object.new.self c.put_second.new.out c.end_object.new.self
            c.in_ok-key.ensures.ok c.in_ok-begin_object.ensures.ok second.2 c.in_ok-end_object.ensures.ok),
      );
    }
