use Rattle.std.proofs.Common.{◌++◌, refl}
use Rattle.gtp_json.specs.Datagram.{octets_shown}
use Rattle.gtp_json.proofs.Tokens.{twice}
use Rattle.gtp_json.proofs.datagram.put_members.Goals as goal

pub returns : goal.returns
returns c =
    let shown = octets_shown c.args.members c.args.octets.now in
    let found = c.in_ok-faulty.ensures in
    (shown ++ found.0, (found.0, found.1, refl), twice c.args.out.now c.put_octets_shown.new.out c.put_said.new.out shown found.0 c.in_ok-put_octets_shown.ensures.ok found.2)
