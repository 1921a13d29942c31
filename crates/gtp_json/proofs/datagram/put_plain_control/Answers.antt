use Rattle.std.proofs.Common.{◌++◌}
use Rattle.gtp_json.specs.Control.{seen_members, second_members}
use Rattle.gtp_json.proofs.Seen.{members_lie}
use Rattle.gtp_json.proofs.datagram.put_plain_control.Goals as goal

pub returns-in_ok-put_datagram-in-Ok : goal.returns-in_ok-put_datagram-in-Ok
returns-in_ok-put_datagram-in-Ok c =
    let seen = c.in-Ok.seen in (
      seen_members seen.message ++ second_members seen.second,
      members_lie c.args.octets.now seen.message seen.second seen.back c.in-Ok.ensures.lie,
      c.in_ok-put_datagram-in-Ok.ensures.ok,
    )
