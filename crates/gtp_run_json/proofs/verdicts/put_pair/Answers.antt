use Rattle.std.proofs.Common.{◌++◌, codes}
use Rattle.json.specs.Json.{boolean}
use Rattle.gtp_json.specs.Tree.{member}
use Rattle.gtp_run_json.specs.Members.{word_member, teid_member}
use Rattle.gtp_run_json.proofs.Objects.{four_times, in_object, on_ok}
use Rattle.gtp_run_json.proofs.verdicts.put_pair.Goals as goal

pub returns : goal.returns
returns c =
    let kind = word_member (codes "kind") c.args.kind.now in
    let serving = teid_member (codes "serving") c.args.serving in
    let packet = teid_member (codes "packet") c.args.packet in
    let agree = member (codes "agree") (boolean c.args.agree) in
    let all = four_times c.begin_object.new.self c.string_member.new.self c.put_teid.new.out c.put_teid-2.new.out c.bool_member.new.self kind serving packet agree
    c.in_ok-string_member.ensures.ok c.in_ok-put_teid.ensures.ok c.in_ok-put_teid-2.ensures.ok c.in_ok-bool_member.ensures.ok in
    record {
      ok = on_ok c.end_object.result
          (in_object c.args.out.now c.begin_object.new.self c.bool_member.new.self c.end_object.new.self (kind ++ (serving ++ (packet ++ agree)))
          c.in_ok-begin_object.ensures.ok all) c.end_object.ensures.ok;
    }
