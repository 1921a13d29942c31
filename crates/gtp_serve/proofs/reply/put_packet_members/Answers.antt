use Rattle.std.proofs.Common.{codes}
use Rattle.std.proofs.lemmas.Result.{on_ok_weaker}
use Rattle.gtp_json.specs.Tree.{member}
use Rattle.gtp_json.specs.Values.{hexadecimal}
use Rattle.gtp_json.proofs.Tokens.{twice}
use Rattle.gtp_run_json.specs.Members.{teid_member}
use Rattle.gtp_serve.proofs.reply.put_packet_members.Goals as goal

pub returns : goal.returns
returns c = record {
  ok = on_ok_weaker c.hex_member.result
      (twice c.args.out.now c.put_teid.new.out c.hex_member.new.self (teid_member (codes "teid") c.args.bearer)
      (member (codes "payload") (hexadecimal c.args.payload.now)) c.in_ok-put_teid.ensures.ok) c.hex_member.ensures.ok;
}
