use Rattle.std.proofs.Common.{rules, ◌≡◌, ◌++◌, codes}
use Rattle.json.specs.Json.{boolean}
use Rattle.gtp_scenario.specs.Words.{role_text}
use Rattle.gtp_world.specs.Record.{entry_by}
use Rattle.gtp_json.specs.Tree.{member}
use Rattle.gtp_json.specs.Values.{hexadecimal}
use Rattle.gtp_json.specs.reading.Tokens.{written}
use Rattle.gtp_run_json.specs.Members.{word_member, teid_member}
use Rattle.gtp_run_json.proofs.Objects.{four_times, in_object, on_ok}
use Rattle.gtp_run_json.proofs.verdicts.put_packet.Goals as goal

pub returns : goal.returns
returns c =
    let a = entry_by c.args.packet.now in
    let node = word_member (codes "node") (role_text a.role) in
    let target = teid_member (codes "teid") a.what.target in
    let payload = member (codes "payload") (hexadecimal a.what.payload) in
    let owed = member (codes "owed") (boolean c.args.owed) in
    let named : c.string_member.new.self ≡ c.begin_object.new.self ++ written node = search rules in
    let carried : c.hex_member.new.self ≡ c.put_teid.new.out ++ written payload = search rules in
    let all = four_times c.begin_object.new.self c.string_member.new.self c.put_teid.new.out c.hex_member.new.self c.bool_member.new.self node target payload owed
    named c.in_ok-put_teid.ensures.ok carried c.in_ok-bool_member.ensures.ok in
    record {
      ok = on_ok c.end_object.result
          (in_object c.args.out.now c.begin_object.new.self c.bool_member.new.self c.end_object.new.self (node ++ (target ++ (payload ++ owed)))
          c.in_ok-begin_object.ensures.ok all) c.end_object.ensures.ok;
    }
